use Rattle.std.proofs.Common.{rules, ◌-◌, length, arith, OnOk}
use Rattle.std.proofs.lemmas.Result.{on_ok_weaker}
use Rattle.cfg_base.specs.declared.path.TheConstants.{MAX_STEPS}
use Rattle.printing_order.specs.Listed.{items_below}
use Rattle.set_text.specs.Groups.{AreItems}
use Rattle.set_text.proofs.PrintedLemmas.{items_printed}
use Rattle.set_text.proofs.TrailLemmas.{items_go_on}
use Rattle.set_text.proofs.printing.print_level.Goals as goal

pub returns : goal.returns
returns c =
    let put : OnOk c.print_items.result
    (AreItems (items_below (MAX_STEPS - length c.args.below.now) c.args.tree.now c.args.below.now) c.args.groups.now c.print_items.new.groups) = search rules
    in on_ok_weaker c.print_items.result
    (λ it. items_printed (MAX_STEPS - length c.args.below.now) c.args.tree.now c.items_below.ensures.tree c.args.below.now (omega arith) c.args.groups.now c.print_items.new.groups it) put

pub print_items-requires : goal.print_items-requires
print_items-requires c =
    let on = items_go_on c.args.tree.now (MAX_STEPS - length c.args.below.now) c.args.below.now in
    search rules
