-- Words that mean something else where they stand bare. Junos OS CLI User Guide, on inactive and on protected statements, on load replace,
-- and on the pipe after a command.
use Rattle.std.specs.Prelude.{ℕ, List, [], ◌∷◌, Bool, nat_eq, codes}
use Rattle.std.specs.List.{list_any}
use Rattle.std.specs.Cmp.Lexicographic.{pointwise}
use Rattle.cfg_lex.specs.declared.mark.Mark.{Mark}
use Rattle.cfg_lex.specs.declared.mark.Mark.TheVariants.{Inactive, Protect, Replace, Pipe}

-- the bytes of a mark
abbrev pub mark_word : Mark → List ℕ
mark_word Inactive = codes "inactive:"
mark_word Protect = codes "protect:"
mark_word Replace = codes "replace:"
mark_word Pipe = codes "|"

-- the words of all marks
abbrev pub marks : List (List ℕ)
marks = mark_word Inactive ∷ mark_word Protect ∷ mark_word Replace ∷ mark_word Pipe ∷ []

-- the word is one of them
abbrev pub is_mark : List ℕ → Bool
is_mark word = list_any (pointwise nat_eq word) marks
