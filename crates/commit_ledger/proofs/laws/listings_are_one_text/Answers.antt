use Rattle.commit_ledger.proofs.ListingLemmas.{one_listing}
use Rattle.commit_ledger.proofs.laws.listings_are_one_text.Goals as goal

pub returns : goal.returns
returns c = one_listing
