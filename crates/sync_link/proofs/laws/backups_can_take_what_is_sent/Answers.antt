use Rattle.sync_link.proofs.TakeLemmas.{fits_in}
use Rattle.sync_link.proofs.laws.backups_can_take_what_is_sent.Goals as goal

pub returns : goal.returns
returns c = λ line v message is of b. fits_in line v message is of b
