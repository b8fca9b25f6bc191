use Rattle.std.proofs.Common.{sym, ◌∙◌}
use Rattle.cfg_entries.proofs.SharingLemmas.{same_value}
use Rattle.cfg_entries.proofs.sharing.ValueSame.is_same.Goals as goal

pub returns : goal.returns
returns c = λ h. (same_value c.args.self.now c.args.other.now).0 (sym c.eq.ensures ∙ h)
