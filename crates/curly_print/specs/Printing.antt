-- What the printer's private functions print.
use Rattle.std.specs.Prelude.{ℕ, ◌+◌, ◌==◌, ◌&&◌, List, [], ◌∷◌, ◌++◌, length, Some, if◌then◌else◌}
use Rattle.std.specs.List.{flat_map}
use Rattle.std.specs.FinMap as map
use Rattle.cfg_base.specs.declared.path.Step.{Step}
use Rattle.cfg_base.specs.declared.value.Value.{Value}
use Rattle.cfg_entries.specs.EntryMap.{Pair}
use Rattle.cfg_lex.specs.Printed.{printed_word}
use Rattle.cfg_schema.specs.Profile.{is_step_of}
use Rattle.cfg_tree.specs.Statements.{Statements, last_of}
use Rattle.cfg_tree.specs.Children.{order_in, row_steps, steps_below}
use Rattle.curly_print.specs.Printed.{statement_text, text_below}

-- words, each after a blank
abbrev pub blank_words : List (List ℕ) → List ℕ
blank_words words = flat_map (λ word. 32 ∷ printed_word word) words

-- a child of a path after so many spaces, with so many levels below it
abbrev pub child_text : ℕ → Statements → List Step → ℕ → Step → List ℕ
child_text levels m path indent step =
    statement_text indent step (map.get m (path ++ step ∷ [])) (text_below levels m (path ++ step ∷ []) (indent + 4))

-- a statement after so many spaces, with so many levels below it
abbrev pub own_text : ℕ → Statements → ℕ → Pair Value → List ℕ
own_text levels m indent e = statement_text indent (last_of e.0) (Some e.1) (text_below levels m e.0 (indent + 4))

-- the same of one whose path has so many steps, and the last of them is one of this row
abbrev pub own_if_of_row : ℕ → ℕ → ℕ → Statements → ℕ → Pair Value → List ℕ
own_if_of_row id count levels m indent e =
    if length e.0 == count && is_step_of id (last_of e.0) then own_text levels m indent e else []

-- the statements below a path by a row
abbrev pub own_row : ℕ → Statements → List Step → ℕ → ℕ → List ℕ
own_row levels m path indent id =
    flat_map (child_text levels m path indent) (row_steps id (order_in (map.get m path)) (steps_below m path))
