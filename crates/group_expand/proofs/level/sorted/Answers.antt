use Rattle.std.proofs.Common.{rules, of_calls, List, subst}
use Rattle.std.specs.List.Sorted.{IsSortedBy, IsStableBy}
use Rattle.std.proofs.lemmas.List.Sorted.{answers_always}
use Rattle.group_expand.specs.Level.{Ranked, comes_before, IsByStep}
use Rattle.group_expand.proofs.OfferLemmas.{ranks, by_step}
use Rattle.group_expand.proofs.level.sorted.Goals as goal

pub returns : goal.returns
returns c =
    let sorted : IsSortedBy comes_before c.sort_by.new.self.items = c.in_ok-sort_by.ensures.sorted _ ranks (answers_always _ _ _ (λ f a r g k. search (rules, of_calls)))
    in let stable : IsStableBy comes_before c.in_ok-plain.plain.items c.sort_by.new.self.items = c.in_ok-sort_by.ensures.stable _ ranks (answers_always _ _ _ (λ f a r g k. search (rules, of_calls)))
    in subst (λ (rs : List Ranked). IsByStep rs c.sort_by.new.self.items) c.in_ok-plain.ensures (by_step c.in_ok-plain.plain.items c.sort_by.new.self.items sorted stable)
