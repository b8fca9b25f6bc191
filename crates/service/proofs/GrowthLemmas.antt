-- What a session knows of a run grows, and so do the numbers of entries of the views that it is shown.
use Rattle.std.proofs.Common.{◌≡◌, ◌≤◌, ℕ, suc, Bool, true, false, List, [], ◌∷◌, ◌++◌, map, refl, sym, ap, subst, ◌∙◌, append_assoc, arith, Some, slice_get, inl, inr}
use Rattle.std.proofs.Math.Nat.{le-max_left}
use Rattle.std.proofs.lemmas.List.{append-nil}
use Rattle.std.specs.List.{AllByRecursion}
use Rattle.access_rules.specs.declared.right.Right.{Right}
use Rattle.commands.specs.declared.command.Command.{Command}
use Rattle.commit_ledger.specs.Kept.{Kept}
use Rattle.config_core.specs.State.{State}
use Rattle.config_db.specs.declared.answer.Answered.{Answered}
use Rattle.config_db.specs.declared.answer.Answered.TheVariants.{Kept as DoneAt, NoMemory as Wanting}
use Rattle.session_history.specs.declared.history.Happened.{Happened}
use Rattle.session_history.specs.Kept.{WasKept}
use Rattle.session_shell.specs.declared.door.Given0.{Given0}
use Rattle.session_shell.specs.declared.door.Given0.TheVariants.{Kept as KeptAt, Seen, Denied, Unready, NoMemory}
use Rattle.session_shell.specs.declared.turn.Turn.{Turn}
use Rattle.session_shell.specs.declared.json_show.Manner.{Manner}
use Rattle.session_shell.specs.declared.json_show.Manner.TheVariants.{Plain, Json, Dry, NoJson, Synchronized, NoCommit}
use Rattle.session_shell.specs.Exchange.{Exchange, Asked, Refused, Wanted, is_dry, kept_turn, seen_turn, turn_taken}
use Rattle.session_shell.specs.Transcript.{EndView, GoesBy, SyncsBy}
use Rattle.session_threads.specs.Access.{Asker, asks_of}
use Rattle.session_threads.specs.History.{FollowsAsked, FollowsDenied, FollowsRefused, FollowsTurn, FollowsView, IsKeptThen, Known, known_first}
use Rattle.session_threads.specs.Results.{IsResult, SessionResult}
use Rattle.session_threads.specs.Syncs.{SaysAlone, WithoutBackup}
use Rattle.session_threads.proofs.SyncLemmas.{all_alone, goes_behind}
use Rattle.service.specs.Serving.{FrontsGo}

-- turns of events and of views, however they are written
kept_goes : (manner : Manner) (least most place : ℕ) (turns : List Turn) → FrontsGo least most turns → FrontsGo least most (kept_turn manner place ∷ turns)
kept_goes Plain least most place turns go = go
kept_goes (Json text) least most place turns go = go
kept_goes Dry least most place turns go = go
kept_goes NoJson least most place turns go = go
kept_goes (Synchronized synced) least most place turns go = go
kept_goes NoCommit least most place turns go = go

seen_goes : (dry : Bool) (least most front moment : ℕ) (turns : List Turn) → (least ≤ front) × (front ≤ most) × FrontsGo front most turns → FrontsGo least most (seen_turn dry front moment ∷ turns)
seen_goes true least most front moment turns go = go
seen_goes false least most front moment turns go = go

module _ (asker : Asker) (final : List Happened) where
  -- what is asked behind one that was to be synchronized
  behind : (manner : Manner) (exchanges : List Exchange) (d last e : Known) → SyncsBy WithoutBackup manner d last → GoesBy (FollowsAsked asker final) WithoutBackup exchanges last e → GoesBy (FollowsAsked asker final) WithoutBackup exchanges d e
  behind manner exchanges d last e = goes_behind (FollowsAsked asker final) manner d last e exchanges

  -- a session's events only grow
  grew : (d e : Known) (command : Command) (answer : ℕ) (answered : Answered) → FollowsTurn asker.opening asker.caller d.events command answer answered e.events → (more : List Happened) × (e.events ≡ d.events ++ more)
  grew d e command answer answered turn = (turn.grows.others ++ turn.grows.own, turn.grows.grown)

  seen_grew : (d e : Known) (answer front : ℕ) → FollowsView asker.opening final d answer front e → (more : List Happened) × (e.events ≡ d.events ++ more)
  seen_grew d e answer front view = ([], view.same ∙ sym (append-nil d.events))

  denied_grew : (d e : Known) (command : Command) (answer front : ℕ) (right : Right) → FollowsDenied asker final d command answer front right e → (more : List Happened) × (e.events ≡ d.events ++ more)
  denied_grew d e command answer front right (inl refused) = grew d e command answer Wanting refused.0.turn
  denied_grew d e command answer front right (inr hidden) = seen_grew d e answer front hidden.view

  asked_grew : (d e : Known) (command : Command) (answer : ℕ) (given : Given0) → FollowsAsked asker final d command answer given e → (more : List Happened) × (e.events ≡ d.events ++ more)
  asked_grew d e command answer (KeptAt place reply) follows = grew d e command answer (DoneAt place reply) follows.turn
  asked_grew d e command answer (Seen front reply) follows = seen_grew d e answer front follows.view
  asked_grew d e command answer (Denied front right) follows = denied_grew d e command answer front right follows
  asked_grew d e command answer (Unready front) follows = grew d e command answer Wanting follows.0.turn
  asked_grew d e command answer NoMemory follows = grew d e command answer Wanting follows.turn

  pub more_events : (exchanges : List Exchange) (d e : Known) → GoesBy (FollowsAsked asker final) WithoutBackup exchanges d e → (more : List Happened) × (e.events ≡ d.events ++ more)
  more_events [] d e goes = ([], ap (λ (k : Known). k.events) goes ∙ sym (append-nil d.events))
  more_events (Asked moment command given manner ∷ exchanges) d e goes =
      let first = asked_grew d goes.0 command moment given goes.1 in
      let more = more_events exchanges goes.0 e (behind manner exchanges goes.0 goes.2 e goes.3 goes.4) in
      (first.0 ++ more.0, more.1 ∙ ap (λ l. l ++ more.0) first.1 ∙ append_assoc d.events first.0 more.0)
  more_events (Refused moment fault ∷ exchanges) d e goes = more_events exchanges d e goes
  more_events (Wanted moment ∷ exchanges) d e goes = more_events exchanges d e goes

  module _ (most : ℕ) (bound : (kept : Kept) → WasKept asker.opening final kept → kept.count ≤ most) where
    -- a list of so many entries that was kept has no more than that
    within : (front : ℕ) (kept : Kept) → IsKeptThen asker.opening final front kept → front ≤ most
    within front kept was = omega (arith, bound kept was.0, was.1)

    -- what a refusal rests on reaches what was answered from before, and is what is answered from after it
    abbrev FrontsFrom : ℕ → ℕ → Known → Type 0
    FrontsFrom least front e = (least ≤ front) × (front ≤ most) × (front ≤ e.front)

    refused_from : (d e : Known) (command : Command) (answer front least : ℕ) → least ≤ d.front → FollowsRefused asker final d command answer front e → FrontsFrom least front e
    refused_from d e command answer front least reached refused =
        (omega (arith, reached, refused.reached), within front refused.kept refused.was_kept, omega (arith, refused.is_front))

    seen_from : (d e : Known) (answer front least : ℕ) → least ≤ d.front → FollowsView asker.opening final d answer front e → FrontsFrom least front e
    seen_from d e answer front least reached view =
        (omega (arith, reached, view.reached), within front view.kept view.was_kept, omega (arith, view.is_front))

    denied_from : (d e : Known) (command : Command) (answer front least : ℕ) (right : Right) → least ≤ d.front → FollowsDenied asker final d command answer front right e → FrontsFrom least front e
    denied_from d e command answer front least right reached (inl refused) = refused_from d e command answer front least reached refused.0
    denied_from d e command answer front least right reached (inr hidden) = seen_from d e answer front least reached hidden.view

    -- what it is shown never has fewer entries than what it was answered from before, nor more than the run has
    fronts_go : (exchanges : List Exchange) (least : ℕ) (d e : Known) → least ≤ d.front → GoesBy (FollowsAsked asker final) WithoutBackup exchanges d e → FrontsGo least most (map turn_taken exchanges)
    fronts_go [] least d e reached goes = tt
    fronts_go (Asked moment command (KeptAt place reply) manner ∷ exchanges) least d e reached goes =
        kept_goes manner least most place (map turn_taken exchanges) (fronts_go exchanges least goes.0 e (omega (arith, reached, goes.1.front, le-max_left d.front goes.1.after.kept.count)) (behind manner exchanges goes.0 goes.2 e goes.3 goes.4))
    fronts_go (Asked moment command (Seen front reply) manner ∷ exchanges) least d e reached goes =
        let from = seen_from d goes.0 moment front least reached goes.1.view in
        seen_goes (is_dry manner) least most front moment (map turn_taken exchanges) (from.0, from.1, fronts_go exchanges front goes.0 e from.2 (behind manner exchanges goes.0 goes.2 e goes.3 goes.4))
    fronts_go (Asked moment command (Denied front right) manner ∷ exchanges) least d e reached goes =
        let from = denied_from d goes.0 command moment front least right reached goes.1 in
        (from.0, from.1, fronts_go exchanges front goes.0 e from.2 (behind manner exchanges goes.0 goes.2 e goes.3 goes.4))
    fronts_go (Asked moment command (Unready front) manner ∷ exchanges) least d e reached goes =
        let from = refused_from d goes.0 command moment front least reached goes.1.0 in
        (from.0, from.1, fronts_go exchanges front goes.0 e from.2 (behind manner exchanges goes.0 goes.2 e goes.3 goes.4))
    fronts_go (Asked moment command NoMemory manner ∷ exchanges) least d e reached goes = fronts_go exchanges least goes.0 e (omega (arith, reached, goes.1.front)) (behind manner exchanges goes.0 goes.2 e goes.3 goes.4)
    fronts_go (Refused moment fault ∷ exchanges) least d e reached goes = fronts_go exchanges least d e reached goes
    fronts_go (Wanted moment ∷ exchanges) least d e reached goes = fronts_go exchanges least d e reached goes

-- what holds of each result's turns
pub each_turns : {E : Type 0} (P : List Turn → Type 0) (results : List (SessionResult E))
    → ((k : ℕ) (result : SessionResult E) → slice_get results k ≡ Some result → P result.turns)
    → AllByRecursion P (map (λ result. result.turns) results)
each_turns P [] each = tt
each_turns P (result ∷ results) each = (each 0 result refl, each_turns P results (λ k. each (suc k)))

-- of one session of a run
pub result_fronts : {E : Type 0} (view : E → EndView) (limit : ℕ) (access : Bool) (opening : State) (events : List Happened) (most : ℕ)
    → ((kept : Kept) → WasKept opening events kept → kept.count ≤ most) → (caller : ℕ) (result : SessionResult E)
    → IsResult view opening limit access events caller result → FrontsGo opening.kept.count most result.turns
result_fronts view limit access opening events most bound caller result (inl h) =
    let t = h.session.transcript in
    subst (FrontsGo opening.kept.count most) (sym t.turns.turned)
    (fronts_go (record { opening = opening; caller = caller; asks = asks_of access (view result.old).user }) events most bound (t.asked ++ t.final)
    opening.kept.count (known_first opening h.before) h.after (omega arith) t.turns.asked)
result_fronts view limit access opening events most bound caller result (inr u) =
    subst (FrontsGo opening.kept.count most) (sym u.no_turns) tt

-- each turn of a session that was to be synchronized says that there is no backup
pub result_synced : {E : Type 0} (view : E → EndView) (limit : ℕ) (access : Bool) (opening : State) (events : List Happened) (caller : ℕ) (result : SessionResult E)
    → IsResult view opening limit access events caller result → AllByRecursion SaysAlone result.turns
result_synced view limit access opening events caller result (inl h) =
    let t = h.session.transcript in
    subst (AllByRecursion SaysAlone) (sym t.turns.turned)
    (all_alone (FollowsAsked (record { opening = opening; caller = caller; asks = asks_of access (view result.old).user }) events) (t.asked ++ t.final)
    (known_first opening h.before) h.after t.turns.asked)
result_synced view limit access opening events caller result (inr u) = subst (AllByRecursion SaysAlone) (sym u.no_turns) tt
