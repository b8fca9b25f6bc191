use Rattle.commit_journal.proofs.CauseLemmas.{spelled, apart}
use Rattle.commit_journal.proofs.causes.causes_exclude_each_other.Goals as goal

pub returns : goal.returns
returns c = record { spelled = spelled; apart = apart }
