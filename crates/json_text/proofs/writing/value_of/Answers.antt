use Rattle.std.proofs.Common.{rules, ◌≡◌, ℕ, List, IsUtf8, codes, refl, sym, subst}
use Rattle.json_text.proofs.TextLemmas.{low_text}
use Rattle.json_text.proofs.writing.value_of.Goals as goal

pub put_at-requires : goal.put_at-requires
put_at-requires c =
    let same : c.as_slice.result.now ≡ codes "configuration" = search rules
    in subst (λ (w : List ℕ). IsUtf8 w) (sym same) (low_text (codes "configuration") refl)
