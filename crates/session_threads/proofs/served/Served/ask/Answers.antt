use Rattle.std.proofs.Common.{ap, subst, sym, ◌∙◌}
use Rattle.commit_ledger.specs.Kept.{Kept}
use Rattle.session_threads.specs.Access.{IsFree, NeedsRight}
use Rattle.session_threads.specs.Asking.{Asks, asker_at}
use Rattle.session_threads.proofs.AskingLemmas.{Asks-put, Asks-ready, Asks-unready, Asks-wanting, judged_free}
use Rattle.session_threads.proofs.served.Served.ask.Goals as goal

pub returns-then-is_free : goal.returns-then-is_free
returns-then-is_free g c =
    subst (λ given. Asks (asker_at c.args.self.now.first c.args.caller c.args.user.now) c.args.command c.args.moment given
    c.args.self.now c.put.new.self) (sym c.given.ensures)
    (Asks-put c.args.self.now c.put.new.self c.args.caller c.args.moment c.args.user.now c.args.command c.put.result
    c.tell_underway.ensures c.put.ensures
    (judged_free c.others_stay_where_they_are.ensures.callers c.args.self.now c.put.new.self c.args.caller c.args.moment
    c.args.user.now c.args.command c.put.result c.requires.caller.0 c.tell_underway.ensures c.put.ensures
    (subst (λ l. IsFree c.args.user.now l c.args.command) c.level.ensures (c.is_free.ensures.free c.if-is_free.true))))

pub returns-in-Ready : goal.returns-in-Ready
returns-in-Ready g c =
    Asks-ready (λ s. c.histories_have_one_outcome.ensures.state s.opening s.users) c.args.self.now c.make_ready-readied.new.self
    c.args.caller c.args.moment c.args.user.now c.args.command c.tell_underway.ensures c.tell_underway-2.ensures c.in-Ready.ensures
    c.ask_ready.result c.ask_ready.new.self c.ask_ready.ensures

pub returns-in-Unready : goal.returns-in-Unready
returns-in-Unready g c =
    Asks-unready (λ s. c.histories_have_one_outcome.ensures.state s.opening s.users) c.args.self.now c.make_ready-readied.new.self
    c.args.caller c.args.moment c.args.user.now c.args.command c.tell_underway.ensures c.tell_underway-2.ensures
    c.others_stay_where_they_are.ensures.callers c.requires.caller.0 c.in-Unready.ensures
    (subst (λ l. NeedsRight c.args.user.now l c.args.command) c.level.ensures (c.is_free.ensures.bound c.if-is_free.false))
    c.front.result (c.front.ensures.count ∙ ap (λ (k : Kept). k.count) (c.deref.ensures ∙ c.view.ensures))

pub returns-in-NoMemory : goal.returns-in-NoMemory
returns-in-NoMemory g c =
    Asks-wanting (λ s. c.histories_have_one_outcome.ensures.state s.opening s.users) c.args.self.now c.make_ready-readied.new.self
    c.args.caller c.args.moment c.args.user.now c.args.command c.tell_underway.ensures c.tell_underway-2.ensures c.in-NoMemory.ensures
