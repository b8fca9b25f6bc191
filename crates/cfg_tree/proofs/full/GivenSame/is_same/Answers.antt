use Rattle.std.proofs.Common.{sym, ◌∙◌}
use Rattle.cfg_tree.proofs.FullLemmas.{same_given}
use Rattle.cfg_tree.proofs.full.GivenSame.is_same.Goals as goal

pub returns : goal.returns
returns c = λ h. (same_given c.args.self.now c.args.other.now).0 (sym c.eq.ensures ∙ h)
