use Rattle.std.proofs.Common.{rules, ◌≡◌, ◌∙◌, ◌∷◌, Bool, false, Err, List, take, ap, refl, sym, subst}
use Rattle.std.proofs.lemmas.List.{length-take-le}
use Rattle.std.proofs.lemmas.Result.{IfErr-at_err}
use Rattle.record_code.specs.declared.payloads.Placed.{Placed}
use Rattle.record_code.specs.Listed.{records_of}
use Rattle.commit_ledger.specs.Checkpoint.{keep_bytes}
use Rattle.commit_ledger.specs.Form.{keep_read}
use Rattle.commit_ledger.specs.Reading.{IsBegun}
use Rattle.commit_ledger.specs.Restored.{IsBadKeep, IsReadKeep}
use Rattle.commit_ledger.specs.Restoring.{IsKeep}
use Rattle.commit_ledger.specs.Rules.{new_after}
use Rattle.commit_ledger.proofs.KeepLemmas.{bad_there, begun}
use Rattle.commit_ledger.proofs.restoring.restore.Goals as goal

pub returns-in-Ok-clause-ok : goal.returns-in-Ok-clause-ok
returns-in-Ok-clause-ok g c =
    let stated : c.args.placed.now.payload ≡ keep_bytes (keep_read c.in-Some.keep) = sym c.as_slice.ensures ∙ c.in-Some.ensures.some in
    let keep : IsKeep (keep_read c.in-Some.keep) c.args.behind.now = search rules in
    let fronts : c.new_after.result ≡ new_after false (records_of (take c.in-Some.keep.commits c.args.behind.now)) =
    c.new_after.ensures ∙ ap (λ (l : List Placed). new_after false (records_of l)) c.split_at.ensures.front in
    subst (λ (b : Bool). IsBegun (g.J.LedgerCheck.accepted c.args.judge.now) (c.args.placed.now ∷ c.args.behind.now) c.in-Ok.ledger b c.split_at.result.1.now) (sym fronts)
    (begun (g.J.LedgerCheck.accepted c.args.judge.now) c.args.placed.now c.args.behind.now (keep_read c.in-Some.keep) stated keep c.requires c.split_at.result.1.now c.split_at.ensures.back
    (length-take-le c.in-Some.keep.commits c.args.behind.now keep.follows.follow) c.in-Ok.ledger
    (subst (λ (l : List Placed). IsReadKeep (g.J.LedgerCheck.accepted c.args.judge.now) (keep_read c.in-Some.keep) l c.in-Ok.ledger) c.split_at.ensures.front c.in-Ok.ensures.ok))

pub returns-in-Err-clause-bad : goal.returns-in-Err-clause-bad
returns-in-Err-clause-bad g c = λ at is.
    let stated : c.args.placed.now.payload ≡ keep_bytes (keep_read c.in-Some.keep) = sym c.as_slice.ensures ∙ c.in-Some.ensures.some in
    let keep : IsKeep (keep_read c.in-Some.keep) c.args.behind.now = search rules in
    bad_there (g.J.LedgerCheck.accepted c.args.judge.now) c.args.placed.now c.args.behind.now (keep_read c.in-Some.keep) stated keep c.in-Some.ensures.fits.target at
    (subst (λ (l : List Placed). IsBadKeep (g.J.LedgerCheck.accepted c.args.judge.now) (keep_read c.in-Some.keep) c.args.placed.now.offset l at) c.split_at.ensures.front
    (c.in-Err.ensures.bad at (ap Err (IfErr-at_err (λ y. c.in-Err.fault ≡ y) is refl))))
