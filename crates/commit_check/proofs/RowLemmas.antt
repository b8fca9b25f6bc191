-- The rows have the words that are meant, tested once.
use Rattle.std.proofs.Common.{◌≡◌, ◌==◌, not, ℕ, true, List, length, map as each, filter, refl}
use Rattle.std.specs.List.{list_all}
use Rattle.cfg_schema.specs.Profile.{profile, head_of, name_of, same_word}
use Rattle.commit_check.specs.Rows.{rows, fixed_rows}

pub rows_begin : list_all (λ row. same_word (head_of row.0) row.1) rows ≡ true
unfolding profile
rows_begin = refl

pub rows_named : filter (λ row. not (length row.1 == 0)) (each {B = ℕ × List ℕ} (λ row. (row.0, name_of row.0)) rows) ≡ fixed_rows
unfolding profile
rows_named = refl
