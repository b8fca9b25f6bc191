use Rattle.std.proofs.Common.{◌∙◌}
use Rattle.commit_ledger.proofs.ImageLemmas.{count_with, count_without}
use Rattle.commit_ledger.proofs.ledger.Ledger.stated_count.Goals as goal

pub returns-in-Some : goal.returns-in-Some
returns-in-Some c = c.saturating_sub.ensures ∙ count_with c.args.self.now _ _ c.self.view_is c.in-Some.is

pub returns-in-None : goal.returns-in-None
returns-in-None c = count_without c.args.self.now _ c.self.view_is c.in-None.is
