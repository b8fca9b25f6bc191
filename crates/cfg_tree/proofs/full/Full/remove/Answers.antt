use Rattle.std.proofs.Common.{ap, ◌∙◌}
use Rattle.std.proofs.lemmas.Result.{on_ok_weaker}
use Rattle.std.specs.FinMap as map
use Rattle.cfg_tree.specs.Full.{Expansion}
use Rattle.cfg_tree.proofs.EntryLemmas.{taken}
use Rattle.cfg_tree.proofs.WithinLemmas.{taken_within}
use Rattle.cfg_tree.proofs.full.Full.remove.Goals as goal

pub invariant_of-self : goal.invariant_of-self
invariant_of-self c =
    taken_within c.self.inside.entries c.remove.new.self c.args.path.now c.remove.result c.remove.ensures.ok c.remove.ensures.unchanged c.self.invariant

pub returns-clause-ok : goal.returns-clause-ok
returns-clause-ok c =
    on_ok_weaker c.remove.result
    (λ done. taken c.self.inside.entries c.remove.new.self c.args.path.now done ∙ ap (λ (m : Expansion). map.remove m c.args.path.now) c.self.view_is)
    c.remove.ensures.ok

pub returns-clause-within : goal.returns-clause-within
returns-clause-within c =
    taken_within c.self.inside.entries c.remove.new.self c.args.path.now c.remove.result c.remove.ensures.ok c.remove.ensures.unchanged c.self.invariant
