use Rattle.std.proofs.Common.{◌∙◌, ◌∷◌, ◌++◌, [], ap, subst}
use Rattle.std.specs.Prelude.{IfSome}
use Rattle.record_code.specs.Listed.{record_of}
use Rattle.commit_ledger.specs.declared.entry.Commit.{Commit}
use Rattle.commit_ledger.specs.declared.entry.Entry.TheVariants.{Commit as CommitOf}
use Rattle.commit_ledger.specs.Rules.{IsRecordOf}
use Rattle.commit_ledger.proofs.restoring.push_commit.Goals as goal

pub returns-clause-ok : goal.returns-clause-ok
returns-clause-ok g c = record {
  commit = c.in-Some.commit;
  is_record = subst (λ o. IfSome o (λ (x : Commit). IsRecordOf (g.J.LedgerCheck.accepted c.args.judge.now) c.args.new (record_of c.args.placed.now) (CommitOf x))) c.in-Some.is c.in_ok-commit.ensures.some;
  is = c.push_reserved.ensures.items ∙ ap (λ (x : Commit). c.args.commits.now.items ++ x ∷ []) c.beside_last-shared.ensures;
}
