use Rattle.std.proofs.Common.{◌≡◌, ◌∷◌, Err, ap, refl}
use Rattle.std.proofs.lemmas.Result.{IfErr-at_err}
use Rattle.commit_ledger.proofs.ReadingLemmas.{read_whole, unread_behind}
use Rattle.commit_ledger.proofs.opening.of_records.Goals as goal

pub returns-in-Err-read_on-clause-bad : goal.returns-in-Err-read_on-clause-bad
returns-in-Err-read_on-clause-bad g c = λ offset is.
    unread_behind (g.J.LedgerCheck.accepted c.args.judge.now) c.args.first.now c.args.rest.now c.in-Ok.further.now c.in-Ok.ledger c.in-Ok.new offset c.in-Ok.ensures.ok
    (c.in-Err-read_on.ensures.bad offset (ap Err (IfErr-at_err (λ y. c.in-Err-read_on.fault ≡ y) is refl)))

pub returns-in-Ok-read_on-clause-ok : goal.returns-in-Ok-read_on-clause-ok
returns-in-Ok-read_on-clause-ok g c =
    read_whole (g.J.LedgerCheck.accepted c.args.judge.now) (c.args.first.now ∷ c.args.rest.now) c.in-Ok.further.now c.in-Ok.ledger c.read_on.new.self c.in-Ok.new c.in-Ok.ensures.ok c.in-Ok-read_on.ensures.ok
