use Rattle.stored_ledger.proofs.HeldLemmas.{one_found, found_apart, made_apart, one_refused}
use Rattle.stored_ledger.proofs.laws.disks_have_one_start.Goals as goal

pub returns : goal.returns
returns c = record { one_list = one_found; apart = found_apart; one_cause = one_refused; made = made_apart }
