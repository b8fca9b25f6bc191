use Rattle.stored_ledger.proofs.HeldLemmas.{found_at_rest, found_in_flight}
use Rattle.stored_ledger.proofs.laws.what_is_held_is_found.Goals as goal

pub returns : goal.returns
returns c = record { at_rest = found_at_rest; in_flight = found_in_flight }
