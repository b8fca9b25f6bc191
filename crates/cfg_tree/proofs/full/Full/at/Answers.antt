use Rattle.std.proofs.Common.{sym, ap, ◌∙◌}
use Rattle.std.specs.FinMap as map
use Rattle.cfg_tree.specs.Full.{Expansion}
use Rattle.cfg_tree.proofs.FullLemmas.{get_from}
use Rattle.cfg_tree.proofs.full.Full.at.Goals as goal

pub returns : goal.returns
returns c =
    c.get.ensures.value ∙ sym (get_from c.self.inside.entries c.args.path.now) ∙ ap (λ (m : Expansion). map.get m c.args.path.now) c.self.view_is
