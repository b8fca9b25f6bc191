use Rattle.std.proofs.Common.{◌≡◌, ◌∙◌, true, sym, subst}
use Rattle.std.specs.Prelude.{IfSome}
use Rattle.std.proofs.lemmas.Bool.{false≢true}
use Rattle.cfg_tree.specs.FirstProfile.{IsFirstProfile}
use Rattle.commit_ledger.specs.declared.entry.Commit.{Commit}
use Rattle.commit_ledger.specs.Form.{IsCommitOf}
use Rattle.commit_ledger.proofs.RecordLemmas.{one_commit_of}
use Rattle.commit_ledger.proofs.reading.former_of.Goals as goal

pub returns-else-in_profile_1-clause-none : goal.returns-else-in_profile_1-clause-none
returns-else-in_profile_1-clause-none g c = λ _ x of first.
    let own = subst (λ o. IfSome o (IsCommitOf (g.J.LedgerCheck.accepted c.args.judge.now) c.args.payload.now)) c.in-Some.is c.in_ok-commit.ensures.some in
    let same : x ≡ c.in-Some.commit = one_commit_of (g.J.LedgerCheck.accepted c.args.judge.now) c.args.payload.now x c.in-Some.commit of own in
    let yes : c.in_profile_1.result ≡ true = c.in_profile_1.ensures.1 (subst (λ (y : Commit). IsFirstProfile y.tree) same first) in
    false≢true (sym c.if-in_profile_1.false ∙ yes)
