use Rattle.std.proofs.lemmas.Result.{on_ok_weaker}
use Rattle.commit_ledger.specs.Listing.{in_four_places, line_end}
use Rattle.commit_ledger.specs.Date.{date_text_at}
use Rattle.commit_ledger.proofs.ListingLemmas.{three}
use Rattle.commit_ledger.proofs.listing.push_commit.Goals as goal

pub returns : goal.returns
returns c = on_ok_weaker c.push_end.result (three c.args.text.now.items c.push_place.new.text.items c.push_date.new.text.items c.push_end.new.text.items
    (in_four_places c.args.n) (date_text_at c.args.commit.now.moment) (line_end c.args.commit.now) c.in_ok-push_place.ensures c.in_ok-push_date.ensures) c.push_end.ensures
