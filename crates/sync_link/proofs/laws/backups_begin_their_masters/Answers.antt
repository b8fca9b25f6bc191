use Rattle.std.proofs.Common.{sym}
use Rattle.stored_ledger.proofs.StandingLemmas.{stands_now}
use Rattle.sync_link.proofs.BackedLemmas.{backed_first}
use Rattle.sync_link.proofs.StepLemmas.{none_made}
use Rattle.sync_link.proofs.laws.backups_begin_their_masters.Goals as goal

pub returns : goal.returns
returns c = λ line disks limit v begun own paired.
    backed_first line v begun.no_marks (sym (none_made v.files begun.opened.no_calls)) own begun.idle paired (stands_now v.files v.kept begun.stands)
