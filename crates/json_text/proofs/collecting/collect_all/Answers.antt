use Rattle.std.proofs.Common.{rules, ◌≡◌, ℕ, List, IsUtf8, codes, refl, sym, subst}
use Rattle.json_text.proofs.TextLemmas.{low_text}
use Rattle.json_text.proofs.collecting.collect_all.Goals as goal

pub member-requires : goal.member-requires
member-requires c =
    let same : c.as_slice.result.now ≡ codes "configuration" = search rules
    in subst (λ (w : List ℕ). IsUtf8 w) (sym same) (low_text (codes "configuration") refl)
