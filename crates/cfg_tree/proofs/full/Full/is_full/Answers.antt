use Rattle.std.proofs.Common.{sym, ap, ◌∙◌, nat_le}
use Rattle.std.specs.FinMap as map
use Rattle.cfg_tree.specs.declared.limit.TheConstants.{MAX_EXPANDED}
use Rattle.cfg_tree.specs.Full.{Expansion}
use Rattle.cfg_tree.proofs.FullLemmas.{len_from}
use Rattle.cfg_tree.proofs.full.Full.is_full.Goals as goal

pub returns : goal.returns
returns c = ap (nat_le MAX_EXPANDED) (c.len.ensures.len ∙ sym (len_from _ c.len.ensures.ordered) ∙ ap (λ (m : Expansion). map.len m) c.self.view_is)
