-- How an expansion is printed as curly text, with a note before each statement that was inherited. Junos OS CLI User Guide, on
-- displaying inherited configuration; the order of the statements and four spaces a level are this project's own.
use Rattle.std.specs.Prelude.{ℕ, zero, suc, ◌+◌, ◌==◌, List, [], ◌∷◌, ◌++◌, length, map, filter, Option, Some, None, codes, if◌then◌else◌}
use Rattle.std.specs.List.{flat_map}
use Rattle.std.specs.FinMap as finite
use Rattle.cfg_base.specs.declared.path.Step.{Step}
use Rattle.cfg_base.specs.declared.path.TheConstants.{MAX_STEPS}
use Rattle.cfg_schema.specs.declared.place.Place.{Place}
use Rattle.cfg_schema.specs.Profile.{row_of, rows_below, is_level}
use Rattle.cfg_schema.specs.Place.{place_of}
use Rattle.cfg_tree.specs.declared.full.Given.{Given}
use Rattle.cfg_tree.specs.Statements.{last_of}
use Rattle.cfg_tree.specs.Children.{is_child, row_steps}
use Rattle.cfg_tree.specs.Full.{Expansion}
use Rattle.cfg_tree.specs.OwnWords.{own_words}
use Rattle.curly_print.specs.Printed.{ended, spaces, value_text, words_line}

-- what a note calls a statement: the name of its step, or the head where it has no name
abbrev pub noted_word : Step → List ℕ
noted_word step = (if length step.name == 0 then step.head else step.name)

-- the first and the last line of a note, after so many spaces
abbrev pub note_edge : ℕ → List ℕ
note_edge indent = spaces indent ++ codes "##\n"

-- the line between them
abbrev pub note_line : ℕ → List ℕ → List ℕ → List ℕ
note_line indent word group =
    spaces indent ++ (codes "## '" ++ (word ++ (codes "' was inherited from group '" ++ (group ++ codes "'\n"))))

-- the lines of a note
abbrev pub note_lines : ℕ → List ℕ → List ℕ → List ℕ
note_lines indent word group = note_edge indent ++ (note_line indent word group ++ note_edge indent)

-- the note before a statement, after so many spaces: from which group it was inherited; none where it is the configuration's own
abbrev pub note_of : ℕ → Step → List ℕ → List ℕ
note_of indent step [] = []
note_of indent step (byte ∷ group) = note_lines indent (noted_word step) (byte ∷ group)

-- a statement's line up to its end: its step and its words, without marks
abbrev pub unmarked_line : Step → List (List ℕ) → List ℕ
unmarked_line step words = words_line (own_words (step ∷ [])) ++ value_text words

-- what is given at a path, after so many spaces: its note, its line, and what stands in it
abbrev pub given_text : ℕ → Step → Option Given → List ℕ → List ℕ
given_text indent step None body = []
given_text indent step (Some given) body =
    note_of indent step given.group ++ (spaces indent ++ (unmarked_line step given.words ++ ended indent body))

-- the names in the user's order, and none where nothing is given
abbrev pub given_order : Option Given → List (List ℕ)
given_order None = []
given_order (Some given) = given.order

-- the last steps of the paths right below one, in the order of paths
abbrev pub given_steps : Expansion → List Step → List Step
given_steps full path = map last_of (filter (is_child path) (finite.keys full))

-- the steps of what is given right below a path, in printing order: by their rows, and within a row by the bytes of their names,
-- or in the order that is given at the path
abbrev pub given_children_at : Expansion → List Step → Option Place → List Step
given_children_at full path None = []
given_children_at full path (Some here) =
    flat_map (λ id. row_steps id (given_order (finite.get full path)) (given_steps full path)) (rows_below here.row here.in_group)

abbrev pub given_children : Expansion → List Step → List Step
given_children full path = given_children_at full path (place_of path)

-- what is given below a path in printing order, so many levels deep
unfoldable pub given_below : ℕ → Expansion → List Step → ℕ → List ℕ
given_below zero full path indent = []
given_below (suc levels) full path indent =
    flat_map
    (λ step. given_text indent step (finite.get full (path ++ step ∷ [])) (given_below levels full (path ++ step ∷ []) (indent + 4)))
    (given_children full path)

-- the text of an expansion below a path: of the top or a level what stands in it, of another statement its own note and line, of
-- what isn't there nothing
abbrev pub full_text_at : Expansion → List Step → Option Place → Option Given → List ℕ
full_text_at full path None given = []
full_text_at full path (Some here) given =
    if is_level (row_of here.row).shape then given_below MAX_STEPS full path 0 else given_text 0 (last_of path) given []

abbrev pub printed_full : Expansion → List Step → List ℕ
printed_full full path = full_text_at full path (place_of path) (finite.get full path)
