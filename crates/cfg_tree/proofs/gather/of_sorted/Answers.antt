use Rattle.std.proofs.Common.{◌≡◌, ◌∙◌, sym, [], Result, Ok, Err, IfOk}
use Rattle.cfg_base.specs.declared.fault.NoMemory.{NoMemory}
use Rattle.cfg_base.specs.declared.value.Value.{Value}
use Rattle.cfg_entries.specs.declared.entries.Entries.{Entries}
use Rattle.std.specs.Vec.Iter.{into_iter_items}
use Rattle.cfg_tree.specs.Gather.{grown}
use Rattle.cfg_tree.proofs.GatherLemmas.{way_on, way_end, nothing_left}
use Rattle.cfg_tree.proofs.gather.of_sorted.Goals as goal

pub loop-path-preserved : goal.loop-path-preserved
loop-path-preserved c =
    way_on c.args.items.items c.loop-path.gatherer c.in_ok-gatherer.gatherer (into_iter_items c.loop-path.path-iterator) (into_iter_items c.next.new.self) (c.in-Some.path, c.in-Some.value)
    c.loop-path.invariant c.in-Some.ensures.steps.0 c.in_ok-gatherer.ensures

pub returns : goal.returns
returns c = by_result c.finish.result c.finish.ensures
  where
    all : c.loop-path.gatherer ≡ grown [] c.args.items.items
    all = way_end c.args.items.items c.loop-path.gatherer (into_iter_items c.loop-path.path-iterator) c.loop-path.invariant
        (nothing_left (into_iter_items c.loop-path.path-iterator) (sym c.loop-path.path-iterator.rest.ok.0 ∙ c.in-None.ensures.steps.0))

    by_result : (r : Result (Entries Value) NoMemory) → IfOk r (λ made. made.entries ≡ c.loop-path.gatherer) → IfOk r (λ made. made.entries ≡ grown [] c.args.items.items)
    by_result (Ok made) h = h ∙ all
    by_result (Err e) h = tt
