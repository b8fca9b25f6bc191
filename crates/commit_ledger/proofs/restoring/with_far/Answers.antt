use Rattle.std.proofs.Common.{◌≡◌, ◌∙◌, ◌∷◌, ◌++◌, [], List, ap, refl, subst, arith}
use Rattle.commit_ledger.specs.declared.entry.Commit.{Commit}
use Rattle.commit_ledger.specs.declared.ledger.Run.{Run}
use Rattle.commit_ledger.specs.Checkpoint.{first_of}
use Rattle.commit_ledger.specs.Form.{keep_read}
use Rattle.commit_ledger.specs.Kept.{Kept, Unconfirmed}
use Rattle.commit_ledger.specs.Restored.{IsRestored}
use Rattle.commit_ledger.proofs.RestoredLemmas.{ledger_is, made_far}
use Rattle.commit_ledger.proofs.restoring.with_far.Goals as goal

unconfirmed : Run → Unconfirmed
unconfirmed r = record { deadline = r.deadline; target = r.target }

pub returns-clause-some : goal.returns-clause-some
unfolding unconfirmed
returns-clause-some c =
    let first : c.first_number.result ≡ first_of c.args.older.items c.args.last.number = c.first_number.ensures ∙ ap (λ (l : List Commit). first_of l c.args.last.number) c.deref.ensures.value in
    subst (λ (k : Kept). IsRestored (keep_read c.args.keep) (c.args.target ∷ (c.args.older.items ++ c.args.last ∷ [])) k)
    (ledger_is c.args.keep.count c.args.last c.args.older.items (unconfirmed c.run_to-run.result) _ c.ledger_of.result c.ledger_of.ensures (ap unconfirmed c.run_to-run.ensures))
    (made_far (keep_read c.args.keep) (c.args.target ∷ []) c.args.older.items c.args.last c.requires.parts c.args.target refl (omega (arith, c.if-target-keep.false))
    (omega (arith, first, c.if-first_number-target.false)) c.requires.stated.1 c.requires.stated.0 c.requires.fits.1 c.requires.fits.0)
