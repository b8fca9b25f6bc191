use Rattle.std.proofs.Common.{rules, ◌≡◌, ℕ, List, IsUtf8, refl, sym, subst}
use Rattle.json_text.specs.Keys.{name_key, level_marks_key}
use Rattle.json_text.proofs.TextLemmas.{low_text}
use Rattle.json_text.proofs.building.put_own.Goals as goal

pub put_at-requires : goal.put_at-requires
put_at-requires c =
    let same : c.as_slice.result.now ≡ name_key = search rules
    in subst (λ (w : List ℕ). IsUtf8 w) (sym same) (low_text name_key refl)

pub put_marks-requires : goal.put_marks-requires
put_marks-requires c =
    let same : c.as_slice-2.result.now ≡ level_marks_key = search rules
    in subst (λ (w : List ℕ). IsUtf8 w) (sym same) (low_text level_marks_key refl)
