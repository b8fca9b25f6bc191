use Rattle.std.proofs.Common.{Err, ap, subst, sym, refl, ◌∙◌}
use Rattle.access_rules.specs.declared.right.Right.{Right}
use Rattle.commit_ledger.specs.Kept.{Kept}
use Rattle.session_shell.specs.declared.door.Given0.TheVariants.{Denied}
use Rattle.session_threads.specs.Access.{Finds, IsAllowed, IsDenied}
use Rattle.session_threads.specs.Asking.{Asks, asker_at}
use Rattle.session_threads.proofs.AskingLemmas.{Asks-denied, Asks-none, Asks-put, judged_ready}
use Rattle.session_threads.proofs.served.Served.ask_ready.Goals as goal

pub returns-in-Ok : goal.returns-in-Ok
returns-in-Ok g c =
    subst (λ given. Asks (asker_at c.args.self.now.first c.args.caller c.args.user.now) c.args.command c.args.moment given
    c.args.self.now c.put.new.self) (sym c.given.ensures)
    (Asks-put c.args.self.now c.put.new.self c.args.caller c.args.moment c.args.user.now c.args.command c.put.result
    c.tell_underway.ensures c.put.ensures
    (judged_ready c.args.self.now c.put.new.self c.args.caller c.args.moment c.args.user.now c.args.command c.put.result
    c.tell_underway.ensures c.put.ensures c.requires.clear
    (subst (λ l. IsAllowed c.args.user.now c.args.self.now.database.state.kept l c.args.command) c.level.ensures
    (subst (λ k. IsAllowed c.args.user.now k c.level.result.now c.args.command) (c.deref.ensures ∙ c.view.ensures)
    c.in-Ok.ensures))))

pub returns-in-Err-Denied : goal.returns-in-Err-Denied
returns-in-Err-Denied g c =
    let right : Right = c.in-Err-Denied.right in
    let lacks : IsDenied c.args.user.now c.deref.result.now c.level.result.now c.args.command right =
    subst (λ fault. Finds c.args.user.now c.deref.result.now c.level.result.now c.args.command (Err fault)) c.in-Err-Denied.field-0-is
    c.in-Err-Denied.ensures in
    subst (λ r. Asks (asker_at c.args.self.now.first c.args.caller c.args.user.now) c.args.command c.args.moment
    (Denied c.front.result r) c.args.self.now c.args.self.now) (sym c.in-Err-Denied.right-is)
    (Asks-denied c.args.self.now c.args.caller c.args.moment c.front.result c.args.user.now c.args.command right
    c.tell_underway.ensures
    (c.front.ensures.count ∙ ap (λ (k : Kept). k.count) (c.deref-in-Err-Denied.ensures ∙ c.view-in-Err-Denied.ensures))
    (subst (λ l. IsDenied c.args.user.now c.args.self.now.database.state.kept l c.args.command right) c.level.ensures
    (subst (λ k. IsDenied c.args.user.now k c.level.result.now c.args.command right) (c.deref.ensures ∙ c.view.ensures) lacks)))

pub returns : goal.returns
returns g c =
    Asks-none c.args.self.now c.args.caller c.args.moment c.args.user.now c.args.command _ c.tell_underway.ensures refl refl tt
