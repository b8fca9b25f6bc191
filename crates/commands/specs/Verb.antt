-- The changes that are written as a keyword with words after it.
-- Junos OS CLI User Guide, on set, delete, activate, deactivate, protect and unprotect.
use Rattle.std.specs.Prelude.{ℕ, List, codes}
use Rattle.commands.specs.declared.command.Op.{Op}
use Rattle.commands.specs.declared.command.Op.TheVariants as op
use Rattle.commands.specs.declared.verb.Verb.{Verb}
use Rattle.commands.specs.declared.verb.Verb.TheVariants.{Set, Delete, Activate, Deactivate, Protect, Unprotect}

-- the keyword of a kind of change
abbrev pub keyword : Verb → List ℕ
keyword Set = codes "set"
keyword Delete = codes "delete"
keyword Activate = codes "activate"
keyword Deactivate = codes "deactivate"
keyword Protect = codes "protect"
keyword Unprotect = codes "unprotect"

-- what a change of this kind asks of the words after its keyword
abbrev pub op_of : Verb → List (List ℕ) → Op
op_of Set words = op.Set words
op_of Delete words = op.Delete words
op_of Activate words = op.Activate words
op_of Deactivate words = op.Deactivate words
op_of Protect words = op.Protect words
op_of Unprotect words = op.Unprotect words
