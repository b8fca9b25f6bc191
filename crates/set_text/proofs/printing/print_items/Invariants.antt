use Rattle.std.proofs.Common.{take, drop}
use Rattle.set_text.specs.Groups.{AreItems}
use Rattle.set_text.specs.Trail.{GoesOn}
use Rattle.set_text.proofs.printing.print_items.Given as goal

abbrev pub invariant-loop-item : goal.invariant-loop-item
invariant-loop-item l = AreItems (take l.item-index l.items) l.fn.groups l.groups × GoesOn l.trail (drop l.item-index l.items)
