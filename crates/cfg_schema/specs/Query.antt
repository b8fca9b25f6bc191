-- What is asked of the rows of a level. The questions are this project's own.
use Rattle.std.specs.Prelude.{ℕ, Bool, ◌&&◌, List, [], ◌∷◌, map, Option, Some, None, slice_index_or, if◌then◌else◌}
use Rattle.cfg_schema.specs.declared.table.Line.{Line}
use Rattle.cfg_schema.specs.declared.level.Level.{Level}
use Rattle.cfg_schema.specs.declared.query.Query.{Query}
use Rattle.cfg_schema.specs.declared.query.Query.TheVariants.{Step, Head, Words, Name, Ordered}
use Rattle.cfg_schema.specs.declared.search.TheConstants.{ROWS_OF}
use Rattle.cfg_schema.specs.Profile.{stands, begins, goes_on, names}
use Rattle.cfg_schema.specs.Place.{fits}

-- a row stands at a level and is one that is asked for
abbrev pub is_asked : Level → Query → Line → Bool
is_asked level (Step step) line = fits level step.now line
is_asked level (Head word) line = begins level word.now line
is_asked level (Words word next) line = begins level word.now line && goes_on next.now line
is_asked level Name line = names level line
is_asked level Ordered line = stands level line && line.ordered

-- the rows that may stand right below each row
unfoldable pub row_lists : List (List ℕ)
row_lists = map (λ rows. rows.now) ROWS_OF

abbrev pub rows_of : ℕ → List ℕ
rows_of row = slice_index_or row_lists row []

-- the first of some rows that passes a test
abbrev pub first_of : (ℕ → Bool) → List ℕ → Option ℕ
first_of test [] = None
first_of test (row ∷ rows) = (if test row then Some row else first_of test rows)
