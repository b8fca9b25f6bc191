use denote.Builtin.{bool}
use denote.Param.{param}
use denote.Param.Send.{AllSend, IsSend, IsSync, mut_send, mut_slice_send, sendable, shr_send}
use denote.Ref.{MutRef, ShrRef}
use denote.Slice.{MutSlice}
use mir.Syntax.{named}
use contract.Lifetimes.{Lfts}
use Rattle.std.proofs.Common.{[], ◌∷◌, All, rules, sym, subst}
use Rattle.std.proofs.Crossing.{crosses}
use Rattle.std.proofs.lemmas.List.Elements.{All-head, All-tail}
use Rattle.config_db.specs.View.{DatabaseView}
use Rattle.std.specs.contracts.alloc.Global as Global
use Rattle.cfg_base.specs.contracts.limits.Limits as Limits
use Rattle.session_threads.specs.contracts.ticking.Ticker as Ticker
use Rattle.session_threads.specs.Rows.{Pairs}
use Rattle.session_threads.proofs.SendLemmas.{lock_row, lock_sync, pass_row, pass_send, waker_send}
use Rattle.session_threads.proofs.threads.+threads.Given as given
use Rattle.session_threads.proofs.threads.+threads.Lts-serve_both.{arg-0-1}
use Rattle.session_threads.proofs.threads.+threads.Goals as goal

-- what the thread of the others takes along
send_others : (g : given.Over) (κs : Lfts 16) → IsSync (param 0 g.row.R) → IsSend (param 1 g.row.T) → IsSend (param 2 g.row.B)
    → IsSend (param 3 g.row.C) → IsSend (param 4 g.row.D) → IsSend (param 5 g.row.J) → IsSync (param 5 g.row.J)
    → IsSend (param 1 (arg-0-1 g.row.R g.row.T g.row.B g.row.C g.row.D g.row.J g.R.laws g.T.laws g.B.laws g.C.laws g.D.laws g.J.laws
    g.R.Threads g.R.Threads-dict g.R.Wait g.R.Wait-dict g.T.Serve g.T.Serve-dict g.B.Beat g.B.Beat-dict g.C.Clock g.C.Clock-dict
    g.D.Disk g.D.Disk-dict g.J.Naming g.J.Naming-dict κs))
send_others g κs rt seats beat clock disk name shared =
    let tickers : IsSend (Ticker.the_row (param 2 g.row.B) (param 3 g.row.C)) = search (sendable, waker_send) depth 20 in
    let ends : Lfts 8 = κs.1.1.1.1.1.1.1.1 in
    let all : AllSend (
    ShrRef (named 8) ends.0 (param 0 g.row.R)
    ∷ Global.the_row
    ∷ ShrRef (named 9) ends.1.0 (lock_row (param 4 g.row.D) (param 5 g.row.J) g.D.Disk g.J.Naming)
    ∷ Limits.the_row
    ∷ bool
    ∷ bool
    ∷ MutSlice (named 10) ends.1.1.0 (param 1 g.row.T)
    ∷ MutRef (named 11) ends.1.1.1.0 (pass_row (param 4 g.row.D) g.D.Disk)
    ∷ MutRef (named 12) ends.1.1.1.1.0 (Ticker.the_row (param 2 g.row.B) (param 3 g.row.C))
    ∷ []
    ) = (
      shr_send _ _ _ rt,
      (
        search (sendable, crosses) depth 20,
        (
          shr_send _ _ _ (lock_sync (param 4 g.row.D) (param 5 g.row.J) g.D.Disk g.J.Naming disk name shared),
          (
            search sendable depth 20,
            (
              search sendable depth 20,
              (
                search sendable depth 20,
                (
                  mut_slice_send _ _ _ seats,
                  (mut_send _ _ _ (pass_send (param 4 g.row.D) g.D.Disk), (mut_send _ _ _ tickers, tt)),
                ),
              ),
            ),
          ),
        ),
      ),
    ) in search (sendable, all) depth 20

pub serve_both-join_mut-requires-send-F : goal.serve_both-join_mut-requires-send-F
serve_both-join_mut-requires-send-F g t c κs within =
    send_others g κs (search rules) (search rules) (search rules) (search rules) (search rules) (search rules) (search rules)

pub serve_both-join_mut-requires-after_bounds : goal.serve_both-join_mut-requires-after_bounds
serve_both-join_mut-requires-after_bounds g t c κs within = (
  (
    search rules,
    (
      λ a there. there,
      (
        λ a there. there,
        (
          λ a there. there,
          (
            λ a there. there,
            (
              λ a there. there,
              (
                λ a there. there,
                (
                  (
                    search rules,
                    search rules,
                    search rules,
                    search rules,
                    search rules,
                    search rules,
                    search rules,
                    (c.requires.0, c.requires.1, c.requires.3),
                  ),
                  (search rules, search rules, search rules, search rules, search rules, search rules, search rules),
                ),
              ),
            ),
          ),
        ),
      ),
    ),
  ),
  (c.requires.0, c.requires.2),
)

pub serve_both-returns-clause-ticker : goal.serve_both-returns-clause-ticker
serve_both-returns-clause-ticker g t c first is = let on = c.join_mut.ensures.0.met.1.1 first is in search rules

pub serve_seats-serve_both-requires-after_bounds :
    goal.serve_seats-serve_both-requires-after_bounds
serve_seats-serve_both-requires-after_bounds g t c κs within =
    let first : DatabaseView = c.requires.0 in
    let can : g.row.T.Denot → Type 0 = λ seat. g.T.Serve.can_serve seat c.args.lock.now first in
    let all : All can (c.in-Some.seat.now ∷ c.in-Some.others.now) = subst (All can) c.in-Some.ensures.cases.0 c.requires.2 in (
      first,
      c.requires.1,
      All-head can c.in-Some.seat.now c.in-Some.others.now all,
      All-tail can c.in-Some.seat.now c.in-Some.others.now all,
    )

pub serve_seats-returns-in-Some-clause-seats : goal.serve_seats-returns-in-Some-clause-seats
serve_seats-returns-in-Some-clause-seats g t c first is all =
    let can : g.row.T.Denot → Type 0 = λ seat. g.T.Serve.can_serve seat c.args.lock.now first in
    let cut = c.in-Some.ensures.cases.0 in
    let both : All can (c.in-Some.seat.now ∷ c.in-Some.others.now) = subst (All can) cut all in
    subst (λ seats. Pairs (g.T.Serve.serves c.args.limits.input c.args.access first) seats (c.serve_both.new.seat ∷ c.serve_both.new.others)) (sym cut) (
      c.serve_both.ensures.seat first (All-head can c.in-Some.seat.now c.in-Some.others.now both),
      c.serve_both.ensures.others first is (All-tail can c.in-Some.seat.now c.in-Some.others.now both),
    )
