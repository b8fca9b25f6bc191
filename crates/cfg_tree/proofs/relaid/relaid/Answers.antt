use Rattle.std.proofs.Common.{◌≡◌, ◌∙◌, Result, Ok, Err, IfOk}
use Rattle.cfg_base.specs.declared.fault.NoMemory.{NoMemory}
use Rattle.cfg_base.specs.declared.value.Value.{Value}
use Rattle.cfg_entries.specs.declared.entries.Entries.{Entries}
use Rattle.cfg_tree.specs.Shown.{shown}
use Rattle.cfg_tree.specs.Moving.{with_part}
use Rattle.cfg_tree.specs.Relaid.{left_by}
use Rattle.cfg_tree.proofs.RelaidLemmas.{laid, relaid_sorted, relaid_made}
use Rattle.cfg_tree.proofs.relaid.relaid.Goals as goal

pub finish-requires : goal.finish-requires
finish-requires c =
    relaid_sorted c.args.stays c.args.entries.now c.args.from.now c.args.to.now c.args.part.items c.requires.part c.in_ok-lay_rest.field-0
    c.past.ensures.ordered
    (laid c.args.stays c.args.from.now c.args.to.now c.args.part.items c.args.entries.now.entries c.beside.result c.in_ok-front.front c.in_ok-moved.moved c.past.result _
    c.beside.ensures c.in_ok-front.ensures.made c.in_ok-moved.ensures c.past.ensures.rest c.in_ok-lay_rest.ensures)

pub returns : goal.returns
returns c = by_result c.finish.result c.finish.ensures
  where
    by_result : (r : Result (Entries Value) NoMemory) → IfOk r (λ made. made.entries ≡ c.in_ok-lay_rest.field-0)
        → IfOk r (λ made. shown made
        ≡ with_part c.args.from.now c.args.to.now (left_by c.args.stays (shown c.args.entries.now) c.args.from.now) c.args.part.items)
    by_result (Ok made) h =
        relaid_made c.args.stays c.args.entries.now c.args.from.now c.args.to.now c.args.part.items c.requires.part made.entries c.requires.free
        (h ∙ laid c.args.stays c.args.from.now c.args.to.now c.args.part.items c.args.entries.now.entries c.beside.result c.in_ok-front.front c.in_ok-moved.moved c.past.result _
        c.beside.ensures c.in_ok-front.ensures.made c.in_ok-moved.ensures c.past.ensures.rest c.in_ok-lay_rest.ensures)
    by_result (Err e) h = tt
