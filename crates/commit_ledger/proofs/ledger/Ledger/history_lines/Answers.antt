use Rattle.std.proofs.Common.{rules, ◌≡◌, ◌<◌, ◌-◌, length, get_or}
use Rattle.commit_ledger.proofs.ListingLemmas.{lines_more}
use Rattle.commit_ledger.proofs.ledger.Ledger.history_lines.Goals as goal

pub loop-newer-preserved : goal.loop-newer-preserved
loop-newer-preserved c =
    let within : c.loop-newer.newer < length c.args.self.now.older = search rules in
    let is : c.index.result.now ≡ get_or c.args.self.now.older (length c.args.self.now.older - 1 - c.loop-newer.newer) c.index.result.now = search rules in
    lines_more c.loop-newer.newer c.args.self.now.older c.args.self.now.last c.index.result.now c.loop-newer.text.items
    c.push_commit-in-loop-newer.new.text.items within is c.loop-newer.invariant c.in_ok-push_commit-2.ensures
