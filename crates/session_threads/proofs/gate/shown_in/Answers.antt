use Rattle.std.proofs.Common.{IfOk, [], sym, subst}
use Rattle.config_core.specs.Showing.{IsShow}
use Rattle.session_threads.specs.History.{ShowsKept}
use Rattle.session_threads.proofs.WholeShowLemmas.{ok_whole}
use Rattle.session_threads.proofs.gate.shown_in.Goals as goal

pub returns-in-ShowActive : goal.returns-in-ShowActive
returns-in-ShowActive c =
    let shows : IfOk c.show_active.result (λ reply. ShowsKept c.args.view.now c.args.command.now reply) =
    subst (λ command. IfOk c.show_active.result (λ reply. ShowsKept c.args.view.now command reply)) (sym c.in-ShowActive.is)
    (subst (λ m. IfOk c.show_active.result (λ reply. IsShow m [] c.in-ShowActive.words c.in-ShowActive.form reply))
    c.active_in-active.ensures.is (c.show_active.ensures c.in-ShowActive.words c.in-ShowActive.form c.in-ShowActive.is)) in
    record { shows = shows; whole = ok_whole c.args.view.now c.args.command.now c.show_active.result c.active_in-active.ensures.tree shows }
