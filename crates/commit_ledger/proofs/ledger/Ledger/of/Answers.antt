use Rattle.std.proofs.Common.{◌∙◌, List, sym, subst}
use Rattle.record_code.specs.declared.payloads.Placed.{Placed}
use Rattle.commit_ledger.specs.Reading.{IsUnread}
use Rattle.commit_ledger.proofs.BehindLemmas.{placed_and_rest}
use Rattle.commit_ledger.proofs.ledger.Ledger.of.Goals as goal

pub returns-in-len1-up-clause-bad : goal.returns-in-len1-up-clause-bad
returns-in-len1-up-clause-bad g c = λ offset is.
    subst (λ (l : List Placed). IsUnread (g.J.LedgerCheck.accepted c.args.judge.now) l offset)
    (sym (placed_and_rest c.as_slice.result.now c.first-item.result c.first-item.is c.in-len1-up.len_at_least) ∙ c.as_slice.ensures) (c.of_records.ensures.bad offset is)
