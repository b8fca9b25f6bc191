use Rattle.std.proofs.Common.{rules, of_calls, ◌≡◌, [], is_lt, arith, Result, Ok, Err, IfOk}
use Rattle.std.specs.List.Sorted.{IsSortedBy, IsStableBy}
use Rattle.std.specs.Cmp.{IsStrictWeakOrder}
use Rattle.std.proofs.lemmas.List.Sorted.{ranks_by, sorted_far, answers_always}
use Rattle.cfg_base.specs.Order.{path_cmp, paths_total}
use Rattle.cfg_base.specs.declared.fault.NoMemory.{NoMemory}
use Rattle.cfg_base.specs.declared.value.Value.{Value}
use Rattle.cfg_entries.specs.declared.entries.Entries.{Entries}
use Rattle.cfg_entries.specs.EntryMap.{Pair}
use Rattle.cfg_tree.specs.Shown.{shown}
use Rattle.cfg_tree.specs.Gather.{grown, gathered_from_none}
use Rattle.cfg_tree.proofs.GatheredLemmas.{climbs, gathered_sorted}
use Rattle.cfg_tree.proofs.gather.gathered_in.Goals as goal

ranks : IsStrictWeakOrder (λ (a b : Pair Value). is_lt (path_cmp a.0 b.0))
ranks = ranks_by paths_total (λ (p : Pair Value). p.0)

pub of_sorted-requires : goal.of_sorted-requires
of_sorted-requires c = climbs c.sort_by.new.self.items (λ i j d l m. sorted_far _ ranks c.sort_by.new.self.items up i j d (omega (arith, l)) m)
  where
    up : IsSortedBy (λ (a b : Pair Value). is_lt (path_cmp a.0 b.0)) c.sort_by.new.self.items
    up = c.in_ok-sort_by.ensures.sorted _ ranks (answers_always _ _ _ (λ f a r g k. search (rules, of_calls)))

pub returns : goal.returns
returns c = by_result c.of_sorted.result c.of_sorted.ensures
  where
    stable : IsStableBy (λ (a b : Pair Value). is_lt (path_cmp a.0 b.0)) c.args.items.items c.sort_by.new.self.items
    stable = c.in_ok-sort_by.ensures.stable _ ranks (answers_always _ _ _ (λ f a r g k. search (rules, of_calls)))

    by_result : (r : Result (Entries Value) NoMemory) → IfOk r (λ made. made.entries ≡ grown [] c.sort_by.new.self.items)
        → IfOk r (λ made. shown made ≡ gathered_from_none c.args.items.items)
    by_result (Ok made) h = gathered_sorted c.args.items.items c.sort_by.new.self.items made.entries stable h
    by_result (Err e) h = tt
