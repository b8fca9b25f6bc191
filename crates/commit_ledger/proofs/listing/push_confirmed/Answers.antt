use Rattle.std.proofs.lemmas.Result.{on_ok_weaker}
use Rattle.std.specs.Prelude.{codes, decimal}
use Rattle.commit_ledger.proofs.ListingLemmas.{three}
use Rattle.commit_ledger.proofs.listing.push_confirmed.Goals as goal

pub returns : goal.returns
returns c = on_ok_weaker c.push_bytes-2.result (three c.args.text.now.items c.push_bytes.new.text.items c.push_number.new.text.items c.push_bytes-2.new.text.items
    (codes " commit confirmed, rollback in ") (decimal c.args.minutes) (codes " mins") c.in_ok-push_bytes.ensures c.in_ok-push_number.ensures) c.push_bytes-2.ensures
