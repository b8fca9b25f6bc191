use Rattle.std.proofs.Common.{subst, Option}
use Rattle.cfg_base.specs.declared.value.Value.{Value}
use Rattle.cfg_entries.specs.EntryMap.{Pair}
use Rattle.cfg_tree.specs.Gather.{IsGathered}
use Rattle.cfg_tree.proofs.GatherLemmas.{none_sorted}
use Rattle.cfg_tree.proofs.gather.Gatherer.finish.Goals as goal

pub finish-requires : goal.finish-requires
finish-requires c = none_sorted c.self.inside.maker (subst (λ (o : Option (Pair Value)). IsGathered c.self.inside.maker o) c.in-None.is c.self.invariant)
