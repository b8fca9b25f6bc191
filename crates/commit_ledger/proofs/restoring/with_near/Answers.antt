use Rattle.std.proofs.Common.{rules, ◌≡◌, ◌∷◌, ◌++◌, [], List, ap, refl, sym, subst}
use Rattle.std.specs.Prelude.{IfSome, IsNone}
use Rattle.commit_ledger.specs.declared.entry.Commit.{Commit}
use Rattle.commit_ledger.specs.declared.ledger.Run.{Run}
use Rattle.commit_ledger.specs.Checkpoint.{IsAmong}
use Rattle.commit_ledger.specs.Form.{keep_read}
use Rattle.commit_ledger.specs.Kept.{Kept, Unconfirmed}
use Rattle.commit_ledger.specs.Restored.{IsRestored}
use Rattle.commit_ledger.proofs.RestoredLemmas.{ledger_is, made_near, near, some_run}
use Rattle.commit_ledger.proofs.restoring.with_near.Goals as goal

unconfirmed : Run → Unconfirmed
unconfirmed r = record { deadline = r.deadline; target = r.target }

pub returns-in_default-clause-none : goal.returns-in_default-clause-none
returns-in_default-clause-none c = λ _ kept restored.
    let run = some_run (keep_read c.args.keep) [] c.args.older.items c.args.last c.requires.parts kept restored c.requires.stated.0 in
    let found = near (keep_read c.args.keep) [] c.args.older.items c.args.last c.requires.parts kept restored refl run.0 run.1 in
    let none : IsNone c.in_ok-target.field-0 = search rules in
    c.in_ok-target.ensures.none none run.0.target (subst (λ (l : List Commit). IsAmong run.0.target l) (sym c.deref.ensures.value) found.0) found.1

pub returns-clause-some : goal.returns-clause-some
unfolding unconfirmed
returns-clause-some c =
    let found = subst (λ o. IfSome o (λ copy. IsAmong copy c.deref.result.now × (copy.number ≡ c.args.keep.target))) c.in-Some.is c.in_ok-target.ensures.some in
    subst (λ (k : Kept). IsRestored (keep_read c.args.keep) (c.args.older.items ++ c.args.last ∷ []) k)
    (ledger_is c.args.keep.count c.args.last c.args.older.items (unconfirmed c.run_to-run.result) _ c.ledger_of.result c.ledger_of.ensures (ap unconfirmed c.run_to-run.ensures))
    (made_near (keep_read c.args.keep) [] c.args.older.items c.args.last c.requires.parts c.in-Some.target refl (subst (λ (l : List Commit). IsAmong c.in-Some.target l) c.deref.ensures.value found.0) found.1
    c.requires.stated.1 c.requires.stated.0 c.requires.fits.1 c.requires.fits.0)
