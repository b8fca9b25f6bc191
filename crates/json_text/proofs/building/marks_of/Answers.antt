use Rattle.std.proofs.Common.{rules, ◌≡◌, ℕ, List, IsUtf8, codes, refl, sym, subst}
use Rattle.json_text.proofs.TextLemmas.{low_text}
use Rattle.json_text.proofs.building.marks_of.Goals as goal

pub push_if-requires : goal.push_if-requires
push_if-requires c =
    let same : c.as_slice.result.now ≡ codes "inactive" = search rules
    in subst (λ (w : List ℕ). IsUtf8 w) (sym same) (low_text (codes "inactive") refl)

pub push_if-requires-2 : goal.push_if-requires-2
push_if-requires-2 c =
    let same : c.as_slice-2.result.now ≡ codes "protect" = search rules
    in subst (λ (w : List ℕ). IsUtf8 w) (sym same) (low_text (codes "protect") refl)
