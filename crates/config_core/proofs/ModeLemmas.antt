-- A session has a candidate of its own exactly in private mode.
use Rattle.std.proofs.Common.{◌≡◌, ◌-◌, ◌==◌, ℕ, zero, suc, List, [], ◌∷◌, map, Bool, true, false, cond, refl, sym, ap, subst, ◌∙◌, inl, inr, Option, None, Some, nat_lt, slice_get, slice_set}
use Rattle.std.specs.Prelude.{is_some}
use Rattle.candidate.specs.Edits.{CandidateView}
use Rattle.commands.specs.declared.command.Command.{Command}
use Rattle.commands.specs.declared.command.Command.TheVariants.{Configure, ShowActive, ShowCommits, ClearCommit, Logout, Edit, Up, Top, Exit, ExitAll, Show, Change, Load, Rollback, CheckOnly, Commit as CommitAsked, CommitAt, Update, Status}
use Rattle.commands.specs.When.{at_of}
use Rattle.commands.specs.declared.command.Mode.{Mode}
use Rattle.commands.specs.declared.command.Mode.TheVariants.{Shared, Private, Exclusive}
use Rattle.cfg_base.specs.declared.path.Step.{Step}
use Rattle.commit_ledger.specs.declared.entry.Commit.{Commit}
use Rattle.commit_ledger.specs.declared.entry.Entry.{Entry}
use Rattle.commit_ledger.specs.declared.entry.Entry.TheVariants.{Commit as CommitOf, Confirm as ConfirmOf, Scheduled as ScheduledOf, Cleared as ClearedOf}
use Rattle.commit_ledger.specs.declared.limit.TheConstants.{MAX_ENTRIES}
use Rattle.commit_ledger.specs.Kept.{Kept, Unconfirmed, nth_last}
use Rattle.config_core.specs.declared.effect.Maker.{Maker}
use Rattle.config_core.specs.declared.effect.Maker.TheVariants.{Command as CommandBy, Deadline, Schedule}
use Rattle.config_core.specs.declared.caller.Caller.{Caller}
use Rattle.config_core.specs.declared.event.Event.{Event}
use Rattle.config_core.specs.declared.event.Event.TheVariants.{Settle, Revert, Carry, Command as CommandOf}
use Rattle.config_core.specs.declared.event.Outcome.{Outcome}
use Rattle.config_core.specs.declared.event.Outcome.TheVariants.{Done, Fault}
use Rattle.config_core.specs.declared.reply.Refusal.TheVariants.{NotALevel, Exhausted}
use Rattle.config_core.specs.declared.reply.Reply.{Reply}
use Rattle.config_core.specs.declared.reply.Reply.TheVariants.{Done as SaysDone}
use Rattle.config_core.specs.Levels.{Position, is_level_at, moved_to}
use Rattle.config_core.specs.State.{State, Made, nothing_own, operational}
use Rattle.config_core.specs.Access.{bar_to, is_private}
use Rattle.config_core.specs.Callers.{caller_in, own_in, own_of, own_for, owns_with, position_of, with_position, entered, out_of_mode, without_mode}
use Rattle.config_core.specs.Entries.{cleared_of, commit_of, confirm_of, made_by, scheduled_of, fresh_in, own_after, taken}
use Rattle.config_core.specs.Serving.{Turned, answered, refused, exited, edited, makes, left_if, checked, Replaces, RollsTo, Does, Serves}
use Rattle.config_core.specs.Machine.{Waiting, InFlight, Missed, Ready, Free, waiting_of, is_logout, settled, carried, reverted, Ends, StepsFrom, Steps, later}
use Rattle.config_core.specs.Soundness.{OwnByMode}
use Rattle.config_core.proofs.StepLemmas.{by_bar, by_bool, by_check}

pub opening_agrees : (users : List (List ℕ)) → OwnByMode (map nothing_own users) (map operational users)
opening_agrees [] = tt
opening_agrees (user ∷ users) = (refl, opening_agrees users)

-- a mode and an own candidate of one session
set_both : (owns : List (Option CandidateView)) (callers : List Caller) (place : ℕ) (own : Option CandidateView) (c : Caller) → OwnByMode owns callers
    → is_some own ≡ is_private c.mode → OwnByMode (slice_set owns place own) (slice_set callers place c)
set_both [] [] place own c agree is = tt
set_both [] (first ∷ callers) place own c agree is = absurd agree
set_both (one ∷ owns) [] place own c agree is = absurd agree
set_both (one ∷ owns) (first ∷ callers) zero own c agree is = (is, agree.1)
set_both (one ∷ owns) (first ∷ callers) (suc place) own c agree is = (agree.0, set_both owns callers place own c agree.1 is)

-- a session that edits as it did
set_caller : (owns : List (Option CandidateView)) (callers : List Caller) (place : ℕ) (c : Caller) → OwnByMode owns callers
    → c.mode ≡ (caller_in (slice_get callers place)).mode → OwnByMode owns (slice_set callers place c)
set_caller [] [] place c agree is = tt
set_caller [] (first ∷ callers) place c agree is = absurd agree
set_caller (one ∷ owns) [] place c agree is = absurd agree
set_caller (one ∷ owns) (first ∷ callers) zero c agree is = (agree.0 ∙ ap is_private (sym is), agree.1)
set_caller (one ∷ owns) (first ∷ callers) (suc place) c agree is = (agree.0, set_caller owns callers place c agree.1 is)

-- an own candidate in the place of another one
set_own : (owns : List (Option CandidateView)) (callers : List Caller) (place : ℕ) (old next : CandidateView) → OwnByMode owns callers
    → own_in (slice_get owns place) ≡ Some old → OwnByMode (slice_set owns place (Some next)) callers
set_own [] [] place old next agree is = tt
set_own [] (first ∷ callers) place old next agree is = absurd agree
set_own (one ∷ owns) [] place old next agree is = absurd agree
set_own (one ∷ owns) (first ∷ callers) zero old next agree is = (sym (ap is_some is) ∙ agree.0, agree.1)
set_own (one ∷ owns) (first ∷ callers) (suc place) old next agree is = (agree.0, set_own owns callers place old next agree.1 is)

private_alone : (mode : Mode) (kept : Kept) → is_some (own_for mode kept) ≡ is_private (Some mode)
private_alone Shared kept = refl
private_alone Private kept = refl
private_alone Exclusive kept = refl

module _ (s : State) (agree : OwnByMode s.own s.callers) where
  abbrev Agrees : State → Type 0
  Agrees t = OwnByMode t.own t.callers

  agrees_by : (turned to : Turned) → turned ≡ to → Agrees to.state → Agrees turned.state
  agrees_by turned to is agrees = subst (λ (t : Turned). Agrees t.state) (sym is) agrees

  moved : (caller : ℕ) (position : Position) → Agrees (with_position s caller position)
  moved caller position = set_caller s.own s.callers (caller - 1) _ agree refl

  enters : (caller : ℕ) (mode : Mode) → Agrees (entered s caller mode)
  enters caller mode = set_both s.own s.callers (caller - 1) (own_for mode s.kept) _ agree (private_alone mode s.kept)

  leaves : (caller : ℕ) (t : State) → Agrees t → Agrees (out_of_mode t caller)
  leaves caller t agrees = set_both t.own t.callers (caller - 1) None _ agrees refl

  left_mode : (caller : ℕ) → Agrees (without_mode s caller)
  left_mode caller = leaves caller s agree

  puts : (caller : ℕ) (own : Option CandidateView) (next : CandidateView) → own_of s caller ≡ own → OwnByMode (owns_with own s.own caller next) s.callers
  puts caller None next is = agree
  puts caller (Some old) next is = set_own s.own s.callers (caller - 1) old next agree is

  edits : (caller : ℕ) (next : CandidateView) → OwnByMode (owns_with (own_of s caller) s.own caller next) s.callers
  edits caller next = puts caller (own_of s caller) next refl

  after : (maker : Maker) (new : Option CandidateView) → OwnByMode (own_after s maker new) s.callers
  after maker None = agree
  after (CommandBy maker) (Some new) = edits maker new
  after Deadline (Some new) = agree
  after (Schedule same) (Some new) = agree

  taken_agrees : (made : Made) → Agrees (taken s made)
  taken_agrees made = after made.maker (fresh_in made.entry)

  quit_agrees : (quit : Bool) (caller : ℕ) (t : State) → Agrees t → Agrees (left_if quit caller t)
  quit_agrees true caller t agrees = leaves caller t agrees
  quit_agrees false caller t agrees = agrees

  makes_agree : (caller : ℕ) (entry : Entry) (quit : Bool) (reply : Reply) → Agrees (makes s caller entry quit reply).state
  makes_agree caller entry quit reply = by_room (nat_lt s.kept.count MAX_ENTRIES)
    where
      by_room : (b : Bool)
          → Agrees (cond b (record { state = left_if quit caller (taken s (made_by caller entry)); reply = reply; made = Some (made_by caller entry) }) (refused s Exhausted)).state
      by_room true = quit_agrees quit caller (taken s (made_by caller entry)) (taken_agrees (made_by caller entry))
      by_room false = agree

  checked_agrees : (caller : ℕ) (run : Option Unconfirmed) → Agrees (checked s caller run).state
  checked_agrees caller None = agree
  checked_agrees caller (Some run) = makes_agree caller (ConfirmOf (confirm_of s caller)) false _

  exited_agrees : (caller : ℕ) (back : Option Position) → Agrees (exited s caller back).state
  exited_agrees caller None = left_mode caller
  exited_agrees caller (Some position) = moved caller position

  edited_agrees : (caller : ℕ) (path : List Step) → Agrees (edited s caller path).state
  edited_agrees caller path = by_level (is_level_at path)
    where
      by_level : (b : Bool) → Agrees (cond b (answered (with_position s caller (moved_to (position_of s caller) path)) SaysDone) (refused s (NotALevel path))).state
      by_level true = moved caller _
      by_level false = agree

  module _ (caller : ℕ) (turned : Turned) where
    rolls_agree : (n : ℕ) (commit : Option Commit) → RollsTo s caller n commit turned → Agrees turned.state
    rolls_agree n None rolls = agrees_by turned _ rolls agree
    rolls_agree n (Some commit) rolls =
        by_bool (n == 0) _ _ (Agrees turned.state) (λ is. agrees_by turned _ is (edits caller _))
        (λ (r : Replaces s caller commit.tree turned). agrees_by turned _ r.is (edits caller r.next)) rolls

    does_agree : (command : Command) → Does s caller command turned → Agrees turned.state
    does_agree (Configure mode) is = agrees_by turned _ is (enters caller mode)
    does_agree (ShowActive asked form) shows = agrees_by turned _ shows.is agree
    does_agree ShowCommits lists = agrees_by turned _ lists.is agree
    does_agree Logout is = agrees_by turned _ is (left_mode caller)
    does_agree (Edit asked) (inl moves) = agrees_by turned _ moves.is (edited_agrees caller moves.target.path)
    does_agree (Edit asked) (inr lost) = agrees_by turned _ lost.is agree
    does_agree (Up count) is = agrees_by turned _ is (moved caller _)
    does_agree Top is = agrees_by turned _ is (moved caller _)
    does_agree Exit is = agrees_by turned _ is (exited_agrees caller _)
    does_agree ExitAll is = agrees_by turned _ is (left_mode caller)
    does_agree (Show asked form) shows = agrees_by turned _ shows.is agree
    does_agree (Change op) (inl changes) = agrees_by turned _ changes.is (edits caller changes.next)
    does_agree (Change op) (inr same) = agrees_by turned _ same.is agree
    does_agree (Load way text) (inl loads) = agrees_by turned _ loads.replaces.is (edits caller loads.replaces.next)
    does_agree (Load way text) (inr fault) = agrees_by turned _ fault.is agree
    does_agree (Rollback n) rolls = rolls_agree n (nth_last s.kept n) rolls
    does_agree CheckOnly checks =
        by_check s (own_of s caller) turned _ (λ t. Agrees t.state) (λ m accepted. checked_agrees caller s.kept.pending) (λ refusal. agree) checks
    does_agree (CommitAsked minutes comment quit) checks =
        by_check s (own_of s caller) turned _ (λ t. Agrees t.state)
        (λ m accepted. makes_agree caller (CommitOf (commit_of s caller m minutes comment)) quit _) (λ refusal. agree) checks
    does_agree (CommitAt when comment) checks =
        by_check s (own_of s caller) turned _ (λ t. Agrees t.state)
        (λ m accepted. makes_agree caller (ScheduledOf (scheduled_of s caller m (at_of when s.greatest) comment)) false _) (λ refusal. agree) checks
    does_agree ClearCommit is = agrees_by turned _ is (makes_agree caller (ClearedOf (cleared_of s caller)) false _)
    does_agree Update (inl updates) = agrees_by turned _ updates.is (edits caller updates.next)
    does_agree Update (inr unmerged) = agrees_by turned _ unmerged.is agree
    does_agree Status is = agrees_by turned _ is agree

    serves_agree : (command : Command) → Serves s caller command turned → Agrees turned.state
    serves_agree command = by_bar (bar_to s caller command) s turned _ _ (λ refusal is. agrees_by turned _ is agree) (does_agree command)

  ends_agree : (outcome : Outcome) (done turned : Turned) → Agrees done.state → Ends outcome s done turned → Agrees turned.state
  ends_agree Done done turned agrees is = agrees_by turned done is agrees
  ends_agree Fault done turned agrees put = agrees_by turned _ put.is agree

  settled_agrees : (made : Made) (is_kept : Bool) → Agrees (settled s made is_kept)
  settled_agrees made true = taken_agrees made
  settled_agrees made false = agree

  left_agrees : (logout : Bool) (caller : ℕ) → Agrees (cond logout (without_mode s caller) s)
  left_agrees true caller = left_mode caller
  left_agrees false caller = agree

  from_agrees : (waiting : Waiting) (caller : ℕ) (event : Event) (outcome : Outcome) (turned : Turned) → StepsFrom waiting s caller event outcome turned
      → Agrees turned.state
  from_agrees (InFlight made) caller (Settle is_kept) Done turned is = agrees_by turned _ is (settled_agrees made is_kept)
  from_agrees (InFlight made) caller (CommandOf command) Fault turned is = agrees_by turned _ is (left_agrees (is_logout command) caller)
  from_agrees (InFlight made) caller (Settle is_kept) Fault turned is = absurd is
  from_agrees (InFlight made) caller (CommandOf command) Done turned is = absurd is
  from_agrees (InFlight made) caller Revert outcome turned is = absurd is
  from_agrees (InFlight made) caller Carry outcome turned is = absurd is
  from_agrees Missed caller Revert outcome turned is = ends_agree outcome (reverted s) turned agree is
  from_agrees Missed caller (Settle is_kept) outcome turned is = absurd is
  from_agrees Missed caller (CommandOf command) outcome turned is = absurd is
  from_agrees Missed caller Carry outcome turned is = absurd is
  from_agrees (Ready w) caller Carry outcome turned is = ends_agree outcome (carried s w is.same) turned agree is.ends
  from_agrees (Ready w) caller (Settle is_kept) outcome turned is = absurd is
  from_agrees (Ready w) caller Revert outcome turned is = absurd is
  from_agrees (Ready w) caller (CommandOf command) outcome turned is = absurd is
  from_agrees Free caller (CommandOf command) outcome turned is = ends_agree outcome is.done turned (serves_agree caller is.done command is.serves) is.ends
  from_agrees Free caller (Settle is_kept) outcome turned is = absurd is
  from_agrees Free caller Revert outcome turned is = absurd is
  from_agrees Free caller Carry outcome turned is = absurd is

pub steps_agree : (s : State) (caller moment : ℕ) (event : Event) (outcome : Outcome) (turned : Turned) → OwnByMode s.own s.callers
    → Steps s caller moment event outcome turned → OwnByMode turned.state.own turned.state.callers
steps_agree s caller moment event outcome turned agree steps =
    from_agrees (later s moment) agree (waiting_of s moment) caller event outcome turned steps
