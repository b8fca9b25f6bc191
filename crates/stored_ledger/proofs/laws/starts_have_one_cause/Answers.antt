use Rattle.stored_ledger.proofs.CauseLemmas.{one_list, spelled, one_cause}
use Rattle.stored_ledger.proofs.laws.starts_have_one_cause.Goals as goal

pub returns : goal.returns
returns c = record { one_list = one_list; spelled = spelled; one_cause = one_cause }
