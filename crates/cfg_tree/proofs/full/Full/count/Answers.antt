use Rattle.std.proofs.Common.{sym, ap, ◌∙◌}
use Rattle.std.specs.FinMap as map
use Rattle.cfg_tree.specs.Full.{Expansion}
use Rattle.cfg_tree.proofs.FullLemmas.{len_from, count_within}
use Rattle.cfg_tree.proofs.full.Full.count.Goals as goal

pub overflow_cast-result : goal.overflow_cast-result
overflow_cast-result c = count_within c.self.inside.entries _ c.len.ensures.len c.len.ensures.ordered c.self.invariant

pub returns : goal.returns
returns c = c.len.ensures.len ∙ sym (len_from _ c.len.ensures.ordered) ∙ ap (λ (m : Expansion). map.len m) c.self.view_is
