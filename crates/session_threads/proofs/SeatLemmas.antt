-- The session of a pass's caller, from the turns that it took.
use Rattle.std.proofs.Common.{◌≡◌, ◌≢◌, ◌⊎◌, ◌≤◌, ◌+◌, ℕ, Bool, List, [], ◌++◌, length, Option, Some, inl, inr}
use Rattle.std.proofs.Common.{sym, ap, subst, ◌∙◌, refl}
use mathlib.Core.List.{IsPrefix}
use Rattle.std.specs.Prelude.{count_by}
use Rattle.std.specs.List.{AllByRecursion}
use Rattle.std.proofs.lemmas.List.{append-nil, append_cancel_left}
use Rattle.active_snapshot.specs.States.{ReaderView}
use Rattle.active_snapshot.specs.Views.{AreViews, IsLast}
use Rattle.commit_ledger.specs.Kept.{Kept}
use Rattle.config_core.specs.State.{State}
use Rattle.config_db.specs.View.{DatabaseView, opened}
use Rattle.session_history.specs.declared.history.Happened.{Happened}
use Rattle.session_history.specs.Events.{Leads}
use Rattle.session_shell.specs.declared.turn.How.{How}
use Rattle.session_shell.specs.declared.turn.Turn.{Turn}
use Rattle.session_shell.specs.Transcript.{EndView, IsSession}
use Rattle.turn_lock.specs.Histories.{entries_by}
use Rattle.turn_lock.specs.Passes.{TookTurn}
use Rattle.session_threads.specs.declared.noted.Noted.{Noted}
use Rattle.session_threads.specs.Access.{asks_of}
use Rattle.session_threads.specs.Adding.{is_unready}
use Rattle.session_threads.specs.Gates.{FollowsIn, GateView, StartsReading, TellsKept}
use Rattle.session_threads.specs.History.{FollowsAsked, Known, known_first}
use Rattle.session_threads.specs.Naming.{events_of-begins}
use Rattle.session_threads.specs.Noted.{caller_in, events_of, notes_of}
use Rattle.session_threads.specs.Passes.{CallerPass, KnowsOwn, Waited, events_seen}
use Rattle.session_threads.specs.Results.{SessionResult}
use Rattle.session_threads.specs.Sessions.{CountsTurns, HasLeft, HasRun, IsWithin, RunsOne, RunsOver, ServesOne, StaysOut}
use Rattle.session_threads.specs.Syncs.{WithoutBackup}
use Rattle.session_threads.proofs.AskedLemmas.{asks_kept, counts_asked}
use Rattle.session_threads.proofs.ListLemmas.{some_is}
use Rattle.session_threads.proofs.PassLemmas.{WentOn-same, WentOn-then, WentOn-took, others_behind, own-took, seen-took}
use Rattle.session_threads.proofs.TraceLemmas.{IsSession-known, WentOn-asked}

-- a pass took no turn yet
pub Waited-same : (pass : CallerPass) → KnowsOwn pass → Waited pass pass
Waited-same pass own = record { goes = WentOn-same pass own; same_own = refl }

module _ (list : List Kept) (old new : CallerPass)
    (took : TookTurn caller_in (λ first before after. (after ≡ before) × TellsKept (opened first) (events_of after) list) old new) where
  abbrev says : DatabaseView → List Noted → List Noted → Type 0
  says first before after = (after ≡ before) × TellsKept (opened first) (events_of after) list

  none_added : took.added ≡ []
  none_added = append_cancel_left took.before took.added [] (took.said.0 ∙ sym (append-nil took.before))

  -- a pass waited, and took one more turn in which its caller made nothing
  pub Waited-then : (start : CallerPass) → Waited start old → Waited start new
  Waited-then start waited = record {
    goes = WentOn-then start old new waited.goes (WentOn-took says old new took);
    same_own = own-took says old new took ∙ ap (λ l. old.own ++ l) none_added ∙ append-nil old.own ∙ waited.same_own;
  }

  -- all that a reader has was kept by then
  pub IsWithin-took : (reader : ReaderView) → IsPrefix reader.list list → (first : DatabaseView) → old.fixed ≡ Some first
      → IsWithin first new reader
  IsWithin-took reader within first fixed = record {
    list = list;
    tells = subst (λ (l : List Noted). TellsKept (opened first) (events_of l) list) (sym (seen-took says old new took))
        (subst (λ f. TellsKept (opened f) (events_of (took.before ++ took.added)) list) (some_is (sym took.is_fixed ∙ fixed))
        took.said.1);
    within = within;
  }

module _ {E : Type 0} (view : E → EndView) (limit : ℕ) where
  -- a session ran over its pass and its reader
  pub RunsOne-ran : (old new gate gate' : GateView) (before after end : E) (how : How) (turns : List Turn) (bytes : ℕ)
      → before ≡ end → bytes ≡ limit → gate ≡ old → gate' ≡ record new { asks = gate'.asks } → new.asks ≡ old.asks
      → KnowsOwn old.pass → IsSession FollowsIn WithoutBackup bytes how turns (view before) (view after) gate gate'
      → RunsOne view limit old new (record { how = how; old = end; new = after; turns = turns })
  RunsOne-ran old new gate gate' before after end how turns bytes is_end is_limit began ended same own ran =
      let of_end : IsSession FollowsIn WithoutBackup limit how turns (view end) (view after) gate gate' =
      subst (λ (e : E). IsSession FollowsIn WithoutBackup limit how turns (view e) (view after) gate gate') is_end
      (subst (λ n. IsSession FollowsIn WithoutBackup n how turns (view before) (view after) gate gate') is_limit ran) in
      let kept : gate'.asks ≡ new.asks =
      asks_kept (of_end.transcript.asked ++ of_end.transcript.final) gate gate' of_end.transcript.turns.asked
      ∙ ap (λ (g : GateView). g.asks) began ∙ sym same in
      let of_gate : IsSession FollowsIn WithoutBackup limit how turns (view end) (view after) old new =
      subst (λ (g : GateView). IsSession FollowsIn WithoutBackup limit how turns (view end) (view after) g new) began
      (subst (λ (g : GateView). IsSession FollowsIn WithoutBackup limit how turns (view end) (view after) gate g)
      (ended ∙ ap (λ (a : Option (List ℕ)). record new { asks = a }) kept) of_end) in
      let t = of_gate.transcript in
      record {
        goes = WentOn-asked (t.asked ++ t.final) old.pass old new (WentOn-same old.pass own) t.turns.asked;
        noted = subst (λ l. CountsTurns old.pass new.pass l) (sym t.turns.turned)
            (counts_asked (t.asked ++ t.final) old new t.turns.asked);
        session = inl of_gate;
      }

  module _ (never_fall : (one two : List Kept) (view later : Kept) → AreViews two → IsPrefix one two → IsLast one view
      → IsLast two later → view.count ≤ later.count)
      (leads_once : (s : DatabaseView) (events : List Happened) (one other : State) → Leads (opened s) events one
      → Leads (opened s) events other → one ≡ other) (access : Bool) (first : DatabaseView) (old mid : GateView)
      (new : CallerPass) (result : SessionResult E) (own : KnowsOwn old.pass) (fixed : old.pass.fixed ≡ Some first)
      (starts : StartsReading first old.reader) (asked : old.asks ≡ asks_of access (view result.old).user)
      (runs : RunsOne view limit old mid result) (gone : HasLeft first mid.pass new mid.reader)
    where
      later : IsPrefix mid.pass.seen new.seen
      later = gone.waited.goes.later

      begins : events_seen mid.pass ++ events_of later.0 ≡ events_seen new
      begins = events_of-begins mid.pass.seen new.seen later

      none_later : AllByRecursion (λ event. event.caller ≢ old.pass.caller) (events_of later.0)
      none_later = others_behind old.pass.caller mid.pass.seen later.0 mid.pass.own
          (subst (λ c. entries_by caller_in c mid.pass.seen ≡ mid.pass.own) runs.goes.caller runs.goes.own)
          (ap (entries_by caller_in old.pass.caller) later.1
          ∙ subst (λ c. entries_by caller_in c new.seen ≡ new.own) (gone.waited.goes.caller ∙ runs.goes.caller) gone.waited.goes.own
          ∙ gone.waited.same_own)

      has_run : RunsOver view limit old mid result → HasRun view limit access first old.pass new result
      has_run ran =
          let known = IsSession-known never_fall leads_once first (events_seen new) gone.within.list gone.within.tells limit result.how
          result.turns (view result.old) (view result.new) old mid fixed (WentOn-same old.pass own) starts gone.within.within
          (events_of later.0, begins) ran in
          let after : Known = record { events = events_seen mid.pass; front = known.0 } in
          record {
            after = after;
            later = events_of later.0;
            begins = sym begins;
            none_later = none_later;
            session = subst (λ (a : Option (List ℕ)). IsSession (FollowsAsked (record {
              opening = opened first;
              caller = old.pass.caller;
              asks = a;
            }) (events_seen new)) WithoutBackup limit result.how result.turns (view result.old) (view result.new)
                (known_first (opened first) (events_seen old.pass)) after) asked known.1;
          }

      session_left : RunsOver view limit old mid result ⊎ StaysOut old.pass mid.pass result
          → HasRun view limit access first old.pass new result ⊎ StaysOut old.pass new result
      session_left (inl ran) = inl (has_run ran)
      session_left (inr out) = inr (record {
        how = out.how;
        same = out.same;
        no_turns = out.no_turns;
        no_events = gone.waited.same_own ∙ out.no_events;
      })

      -- a session was run, and then its caller took turns that made nothing, until all that its reader has was kept
      pub ServesOne-left : ServesOne view limit access first old.pass new result
      ServesOne-left = record {
        goes = WentOn-then old.pass mid.pass new runs.goes gone.waited.goes;
        noted = subst (λ l. length (notes_of old.pass.own) + count_by is_unready result.turns ≤ length (notes_of l))
            (sym gone.waited.same_own) runs.noted;
        session = session_left runs.session;
      }
