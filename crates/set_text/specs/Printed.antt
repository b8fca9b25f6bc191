-- Statements as the lines that make them. Junos OS CLI User Guide, on display set; that the marks come after all `set` lines is this
-- project's own.
use Rattle.std.specs.Prelude.{ℕ, zero, suc, ◌-◌, ◌==◌, Bool, true, false, List, [], ◌∷◌, ◌++◌, length, map, Option, Some, None}
use Rattle.std.specs.List.{flat_map}
use Rattle.std.specs.FinMap as finite
use Rattle.cfg_base.specs.declared.kind.Shape.{Shape}
use Rattle.cfg_base.specs.declared.kind.Shape.TheVariants.{Container, Fixed, Keyed, Bare, Leaf, Flag, Many}
use Rattle.cfg_base.specs.declared.path.Step.{Step}
use Rattle.cfg_base.specs.declared.path.TheConstants.{MAX_STEPS}
use Rattle.cfg_base.specs.declared.value.Value.{Value}
use Rattle.cfg_schema.specs.declared.place.Place.{Place}
use Rattle.cfg_schema.specs.Profile.{row_of, is_level}
use Rattle.cfg_schema.specs.Place.{place_of}
use Rattle.cfg_tree.specs.Statements.{Statements}
use Rattle.cfg_tree.specs.Children.{children_of}
use Rattle.cfg_tree.specs.OwnWords.{own_words}
use Rattle.cfg_lex.specs.Printed.{printed_word}
use Rattle.commands.specs.Verb.{keyword}
use Rattle.commands.specs.declared.verb.Verb.{Verb}
use Rattle.commands.specs.declared.verb.Verb.TheVariants.{Set, Deactivate, Protect}

-- a line: what its keyword asks of the words after it
pub record Line : Type 0 where
  pub verb : Verb
  pub words : List (List ℕ)

abbrev pub line : Verb → List (List ℕ) → Line
line verb words = record { verb = verb; words = words }

abbrev pub set_line : List (List ℕ) → Line
set_line words = line Set words

abbrev pub deactivate_line : List (List ℕ) → Line
deactivate_line words = line Deactivate words

abbrev pub protect_line : List (List ℕ) → Line
protect_line words = line Protect words

-- a space, and a word as it is printed
abbrev pub spaced : List ℕ → List ℕ
spaced word = 32 ∷ printed_word word

-- a line as it is printed: its keyword, and its words after it
abbrev pub printed_line : Line → List ℕ
printed_line it = keyword it.verb ++ (flat_map spaced it.words ++ 10 ∷ [])

abbrev pub printed_lines : List Line → List ℕ
printed_lines lines = flat_map printed_line lines

-- a path, and then the paths below it
abbrev pub with_below : (List Step → List (List Step)) → List Step → List (List Step)
with_below inner path = path ∷ inner path

-- the paths at and below each child of a path
abbrev pub each_below : (List Step → List (List Step)) → List Step → List Step → List (List Step)
each_below inner path steps = flat_map (λ step. with_below inner (path ++ step ∷ [])) steps

-- the paths below a path in printing order, each before those below it; so many levels may still come
unfoldable pub paths_below : ℕ → Statements → List Step → List (List Step)
paths_below zero m path = []
paths_below (suc n) m path = each_below (paths_below n m) path (children_of m path)

-- the line of a statement's own words, where that is so
abbrev pub own_line_if : Verb → List Step → Bool → List Line
own_line_if verb path true = line verb (own_words path) ∷ []
own_line_if verb path false = []

-- a `set` line for each word
abbrev pub word_lines : List Step → List (List ℕ) → List Line
word_lines path words = map (λ word. set_line (own_words path ++ word ∷ [])) words

-- the `set` lines of a statement: one for each word of a Many, and for the one of a Leaf; one of a Flag; and one of a level without
-- children
abbrev pub sets_by : Shape → List Step → Bool → List (List ℕ) → List Line
sets_by Container path childless words = own_line_if Set path childless
sets_by Fixed path childless words = own_line_if Set path childless
sets_by Keyed path childless words = own_line_if Set path childless
sets_by Bare path childless words = own_line_if Set path childless
sets_by Leaf path childless words = word_lines path words
sets_by Flag path childless words = own_line_if Set path true
sets_by Many path childless words = word_lines path words

abbrev pub sets_at : Option Place → List Step → Bool → List (List ℕ) → List Line
sets_at None path childless words = []
sets_at (Some here) path childless words = sets_by (row_of here.row).shape path childless words

abbrev pub sets_in : List Step → Bool → Option Value → List Line
sets_in path childless None = []
sets_in path childless (Some value) = sets_at (place_of path) path childless value.words

abbrev pub sets_of : Statements → List Step → List Line
sets_of m path = sets_in path (length (children_of m path) == 0) (finite.get m path)

-- the lines of its marks, where it has them
abbrev pub deactivates_in : List Step → Option Value → List Line
deactivates_in path None = []
deactivates_in path (Some value) = own_line_if Deactivate path value.inactive

abbrev pub protects_in : List Step → Option Value → List Line
protects_in path None = []
protects_in path (Some value) = own_line_if Protect path value.protected

abbrev pub deactivates_of : Statements → List Step → List Line
deactivates_of m path = deactivates_in path (finite.get m path)

abbrev pub protects_of : Statements → List Step → List Line
protects_of m path = protects_in path (finite.get m path)

-- a path follows a row whose statements are levels, or is the top
abbrev pub opens_at : Option Place → Bool
opens_at None = false
opens_at (Some here) = is_level (row_of here.row).shape

-- the paths whose lines are printed: those below a level, and any other path alone
abbrev pub shown_by : Bool → Statements → List Step → List (List Step)
shown_by true m below = paths_below (MAX_STEPS - length below) m below
shown_by false m below = below ∷ []

abbrev pub shown_of : Statements → List Step → List (List Step)
shown_of m below = shown_by (opens_at (place_of below)) m below

-- the `set` lines of all of them, and then the lines of their marks
abbrev pub lines_shown : Statements → List (List Step) → List Line
lines_shown m paths = flat_map (sets_of m) paths ++ (flat_map (deactivates_of m) paths ++ flat_map (protects_of m) paths)

-- the lines of what stands below a level or at the top, or of a Leaf, Flag or Many
abbrev pub lines_of : Statements → List Step → List Line
lines_of m below = lines_shown m (shown_of m below)

-- their text
abbrev pub printed_set : Statements → List Step → List ℕ
printed_set m below = printed_lines (lines_of m below)
