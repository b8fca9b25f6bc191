use Rattle.std.proofs.Common.{ap, ◌∙◌}
use Rattle.std.proofs.lemmas.Result.{on_ok_weaker}
use Rattle.std.specs.FinMap as map
use Rattle.cfg_tree.specs.Full.{Expansion}
use Rattle.cfg_tree.proofs.EntryLemmas.{inserted}
use Rattle.cfg_tree.proofs.WithinLemmas.{put_within}
use Rattle.cfg_tree.proofs.full.Full.put.Goals as goal

pub invariant_of-self : goal.invariant_of-self
invariant_of-self c =
    put_within c.self.inside.entries c.insert.new.self c.args.path c.args.given c.args.self.now c.self.view_is c.requires c.insert.result c.insert.ensures.ordered
    c.insert.ensures.ok c.insert.ensures.unchanged c.self.invariant

pub returns-clause-ok : goal.returns-clause-ok
returns-clause-ok c =
    on_ok_weaker c.insert.result
    (λ done. inserted c.self.inside.entries c.insert.new.self c.args.path c.args.given c.insert.ensures.ordered done
    ∙ ap (λ (m : Expansion). map.insert m c.args.path c.args.given) c.self.view_is)
    c.insert.ensures.ok

pub returns-clause-within : goal.returns-clause-within
returns-clause-within c =
    put_within c.self.inside.entries c.insert.new.self c.args.path c.args.given c.args.self.now c.self.view_is c.requires c.insert.result c.insert.ensures.ordered
    c.insert.ensures.ok c.insert.ensures.unchanged c.self.invariant
