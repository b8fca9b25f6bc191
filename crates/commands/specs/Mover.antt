-- The changes that are written as a keyword, words, a mark and words.
-- Junos OS CLI User Guide, on rename, copy and insert.
use Rattle.std.specs.Prelude.{ℕ, List, true, false, codes}
use Rattle.commands.specs.declared.command.Op.{Op}
use Rattle.commands.specs.declared.command.Op.TheVariants as op
use Rattle.commands.specs.declared.mover.Mover.{Mover}
use Rattle.commands.specs.declared.mover.Mover.TheVariants.{Rename, Copy, InsertBefore, InsertAfter}

-- the keyword of a kind of change
abbrev pub keyword : Mover → List ℕ
keyword Rename = codes "rename"
keyword Copy = codes "copy"
keyword InsertBefore = codes "insert"
keyword InsertAfter = codes "insert"

-- the word between the two lists of words
abbrev pub mark : Mover → List ℕ
mark Rename = codes "to"
mark Copy = codes "to"
mark InsertBefore = codes "before"
mark InsertAfter = codes "after"

-- what a change of this kind asks of the words before its mark and of those after it
abbrev pub op_of : Mover → List (List ℕ) → List (List ℕ) → Op
op_of Rename front behind = op.Rename front behind
op_of Copy front behind = op.Copy front behind
op_of InsertBefore front behind = op.Insert front true behind
op_of InsertAfter front behind = op.Insert front false behind
