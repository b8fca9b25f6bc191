use Rattle.std.proofs.Common.{ap, sym, ◌∙◌}
use Rattle.std.specs.FinMap as map
use Rattle.cfg_tree.specs.Full.{Expansion}
use Rattle.cfg_tree.proofs.FullLemmas.{entries_from}
use Rattle.cfg_tree.proofs.full.Full.walk.Goals as goal

pub returns : goal.returns
returns c = c.iter.ensures.all ∙ sym (entries_from _ c.iter.ensures.ordered) ∙ ap (λ (m : Expansion). map.entries m) c.self.view_is
