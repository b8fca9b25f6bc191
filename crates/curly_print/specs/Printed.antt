-- How statements are printed as curly text. Junos OS CLI User Guide, on displaying the configuration; the order of the statements and four spaces a
-- level are this project's own.
use Rattle.std.specs.Prelude.{ℕ, zero, suc, ◌+◌, List, [], ◌∷◌, ◌++◌, replicate, Option, Some, None, codes, if◌then◌else◌}
use Rattle.std.specs.List.{flat_map, join_by}
use Rattle.std.specs.FinMap as map
use Rattle.cfg_base.specs.declared.path.Step.{Step}
use Rattle.cfg_base.specs.declared.path.TheConstants.{MAX_STEPS}
use Rattle.cfg_base.specs.declared.value.Value.{Value}
use Rattle.cfg_lex.specs.declared.mark.Mark.{Mark}
use Rattle.cfg_lex.specs.declared.mark.Mark.TheVariants.{Inactive, Protect}
use Rattle.cfg_lex.specs.Mark.{mark_word}
use Rattle.cfg_lex.specs.Printed.{printed_word}
use Rattle.cfg_schema.specs.declared.place.Place.{Place}
use Rattle.cfg_schema.specs.Profile.{row_of, is_level}
use Rattle.cfg_schema.specs.Place.{place_of}
use Rattle.cfg_tree.specs.Statements.{Statements, last_of}
use Rattle.cfg_tree.specs.Children.{children_of}
use Rattle.cfg_tree.specs.OwnWords.{own_words}

-- a mark with a blank after it
abbrev pub mark_text : Mark → List ℕ
mark_text mark = mark_word mark ++ 32 ∷ []

-- the marks of a statement, each with a blank after it
abbrev pub marks_of : Value → List ℕ
marks_of value = (if value.inactive then mark_text Inactive else []) ++ (if value.protected then mark_text Protect else [])

-- words after one another, a blank between two of them
abbrev pub words_line : List (List ℕ) → List ℕ
words_line words = join_by printed_word (32 ∷ []) words

-- the words of a value after a step: one word as it is, and more in brackets
abbrev pub value_text : List (List ℕ) → List ℕ
value_text [] = []
value_text (word ∷ []) = 32 ∷ printed_word word
value_text (word ∷ next ∷ words) = codes " [ " ++ (words_line (word ∷ next ∷ words) ++ codes " ]")

-- a statement's line up to its end: its marks, its step and its words
abbrev pub line_of : Step → Value → List ℕ
line_of step value = marks_of value ++ (words_line (own_words (step ∷ [])) ++ value_text value.words)

-- so many spaces
abbrev pub spaces : ℕ → List ℕ
spaces count = replicate count 32

-- a statement after so many spaces ends in `;` where nothing stands in it, and else holds that in braces
abbrev pub ended : ℕ → List ℕ → List ℕ
ended indent [] = codes ";\n"
ended indent (byte ∷ body) = codes " {\n" ++ (byte ∷ body ++ (spaces indent ++ codes "}\n"))

-- a statement after so many spaces, with what stands in it
abbrev pub statement_text : ℕ → Step → Option Value → List ℕ → List ℕ
statement_text indent step None body = []
statement_text indent step (Some value) body = spaces indent ++ (line_of step value ++ ended indent body)

-- the statements below a path in printing order, so many levels deep
unfoldable pub text_below : ℕ → Statements → List Step → ℕ → List ℕ
text_below zero m path indent = []
text_below (suc levels) m path indent =
    flat_map
    (λ step. statement_text indent step (map.get m (path ++ step ∷ [])) (text_below levels m (path ++ step ∷ []) (indent + 4)))
    (children_of m path)

-- the text below a path: of the top or a level what stands in it, of another statement its own line, of what isn't there nothing
abbrev pub text_at : Statements → List Step → Option Place → Option Value → List ℕ
text_at m path None value = []
text_at m path (Some here) value =
    if is_level (row_of here.row).shape then text_below MAX_STEPS m path 0 else statement_text 0 (last_of path) value []

abbrev pub printed : Statements → List Step → List ℕ
printed m path = text_at m path (place_of path) (map.get m path)
