-- What a caller does leaves the other callers as they were.
use Rattle.std.proofs.Common.{◌≡◌, ◌≢◌, ◌-◌, ◌<◌, ◌==◌, ℕ, zero, suc, List, [], ◌∷◌, Bool, true, false, cond, refl, sym, ap, subst, ◌∙◌, inl, inr, Option, None, Some, nat_lt, slice_get, slice_set, arith}
use Rattle.commands.specs.declared.command.Command.{Command}
use Rattle.commands.specs.declared.command.Command.TheVariants.{Configure, ShowActive, ShowCommits, ClearCommit, Logout, Edit, Up, Top, Exit, ExitAll, Show, Change, Load, Rollback, CheckOnly, Commit as CommitAsked, CommitAt, Update, Status}
use Rattle.commands.specs.When.{at_of}
use Rattle.commands.specs.declared.command.Mode.{Mode}
use Rattle.std.specs.Prelude.{IfSome}
use Rattle.candidate.specs.Edits.{CandidateView}
use Rattle.cfg_base.specs.declared.path.Step.{Step}
use Rattle.commit_ledger.specs.declared.entry.Commit.{Commit}
use Rattle.commit_ledger.specs.declared.entry.Entry.{Entry}
use Rattle.commit_ledger.specs.declared.entry.Entry.TheVariants.{Commit as CommitOf, Confirm as ConfirmOf, Scheduled as ScheduledOf, Cleared as ClearedOf}
use Rattle.commit_ledger.specs.declared.entry.Scheduled.{Scheduled}
use Rattle.commit_ledger.specs.declared.limit.TheConstants.{MAX_ENTRIES}
use Rattle.commit_ledger.specs.Kept.{Unconfirmed, nth_last, is_revert_due, ready_in}
use Rattle.config_core.specs.declared.effect.Maker.{Maker}
use Rattle.config_core.specs.declared.effect.Maker.TheVariants.{Command as CommandBy, Deadline, Schedule}
use Rattle.config_core.specs.declared.event.Event.{Event}
use Rattle.config_core.specs.declared.event.Event.TheVariants.{Settle, Revert, Carry, Command as CommandOf}
use Rattle.config_core.specs.declared.event.Outcome.{Outcome}
use Rattle.config_core.specs.declared.event.Outcome.TheVariants.{Done, Fault}
use Rattle.config_core.specs.declared.reply.Refusal.TheVariants.{NotALevel, Exhausted}
use Rattle.config_core.specs.declared.reply.Reply.{Reply}
use Rattle.config_core.specs.declared.reply.Reply.TheVariants.{Done as SaysDone}
use Rattle.config_core.specs.Levels.{Position, is_level_at, moved_to}
use Rattle.config_core.specs.State.{State, Made, HasNoneInFlight, IsNoCommandOf}
use Rattle.config_core.specs.Access.{bar_to}
use Rattle.config_core.specs.Callers.{caller_in, caller_of, own_in, own_of, owns_with, position_of, with_caller, with_candidate, with_position, entered, out_of_mode, without_mode}
use Rattle.config_core.specs.Entries.{cleared_of, commit_of, confirm_of, made_by, scheduled_of, fresh_in, own_after, taken}
use Rattle.config_core.specs.Serving.{Turned, answered, refused, exited, edited, makes, left_if, checked, Replaces, RollsTo, Does, Serves}
use Rattle.config_core.specs.Machine.{Waiting, InFlight, Missed, Ready, Free, waiting_for, waiting_of, is_logout, settled, carried, reverted, Ends, StepsFrom, Steps, IsNotAskedBy, later}
use Rattle.config_core.proofs.StepLemmas.{by_bar, by_bool, by_check}

get_other : {X : Type 0} (xs : List X) (i j : ℕ) (x : X) → i ≢ j → slice_get (slice_set xs i x) j ≡ slice_get xs j
get_other [] i j x apart = refl
get_other (y ∷ xs) zero zero x apart = absurd (apart refl)
get_other (y ∷ xs) zero (suc j) x apart = refl
get_other (y ∷ xs) (suc i) zero x apart = refl
get_other (y ∷ xs) (suc i) (suc j) x apart = get_other xs i j x (λ e. apart (ap suc e))

-- a maker's place isn't that one
abbrev IsElsewhere : ℕ → Maker → Type 0
IsElsewhere other (CommandBy maker) = maker - 1 ≢ other - 1
IsElsewhere other Deadline = Unit {0}
IsElsewhere other (Schedule same) = Unit {0}

module _ (s : State) (caller other : ℕ) (apart : caller - 1 ≢ other - 1) where
  -- what is in flight, where something is, was made elsewhere
  abbrev AreElsewhere : Type 0
  AreElsewhere = (made : Made) → s.flight ≡ Some made → IsElsewhere other made.maker

  -- the other caller is as it was, and so is its own candidate where what is in flight was made elsewhere
  abbrev Stays : State → Type 0
  Stays after = (caller_of after other ≡ caller_of s other) × (AreElsewhere → own_of after other ≡ own_of s other)

  as_it_was : Stays s
  as_it_was = (refl, λ elsewhere. refl)

  stays_by : (turned to : Turned) → turned ≡ to → Stays to.state → Stays turned.state
  stays_by turned to is stays = subst (λ (t : Turned). Stays t.state) (sym is) stays

  -- the caller is put elsewhere
  called : (t : State) (mode : Option Mode) (position : Position) → caller_of t other ≡ caller_of s other
      → caller_of (with_caller t caller mode position) other ≡ caller_of s other
  called t mode position stays = ap caller_in (get_other t.callers (caller - 1) (other - 1) _ apart) ∙ stays

  moved : (position : Position) → Stays (with_position s caller position)
  moved position = (called s _ position refl, λ elsewhere. refl)

  owned : (owns : List (Option CandidateView)) (own : Option CandidateView)
      → own_in (slice_get (slice_set owns (caller - 1) own) (other - 1)) ≡ own_in (slice_get owns (other - 1))
  owned owns own = ap own_in (get_other owns (caller - 1) (other - 1) own apart)

  enters : (mode : Mode) → Stays (entered s caller mode)
  enters mode = (called s _ _ refl, λ elsewhere. owned s.own _)

  leaves : (t : State) → Stays t → Stays (out_of_mode t caller)
  leaves t stays = (called t _ _ stays.0, λ elsewhere. owned t.own None ∙ stays.1 elsewhere)

  left_mode : Stays (without_mode s caller)
  left_mode = leaves s as_it_was

  -- a candidate is put elsewhere
  put_owns : (place : ℕ) (own : Option CandidateView) (next : CandidateView) → place - 1 ≢ other - 1
      → own_in (slice_get (owns_with own s.own place next) (other - 1)) ≡ own_of s other
  put_owns place None next elsewhere = refl
  put_owns place (Some own) next elsewhere = ap own_in (get_other s.own (place - 1) (other - 1) (Some next) elsewhere)

  edits : (next : CandidateView) → Stays (with_candidate s caller next)
  edits next = (refl, λ elsewhere. put_owns caller (own_of s caller) next apart)

  made_owns : (maker : Maker) (new : Option CandidateView) → IsElsewhere other maker
      → own_in (slice_get (own_after s maker new) (other - 1)) ≡ own_of s other
  made_owns maker None elsewhere = refl
  made_owns (CommandBy maker) (Some new) elsewhere = put_owns maker (own_of s maker) new elsewhere
  made_owns Deadline (Some new) elsewhere = refl
  made_owns (Schedule same) (Some new) elsewhere = refl

  taken_stay : (entry : Entry) → Stays (taken s (made_by caller entry))
  taken_stay entry = (refl, λ elsewhere. made_owns (CommandBy caller) (fresh_in entry) apart)

  quit_stays : (quit : Bool) (t : State) → Stays t → Stays (left_if quit caller t)
  quit_stays true t stays = leaves t stays
  quit_stays false t stays = stays

  makes_stay : (entry : Entry) (quit : Bool) (reply : Reply) → Stays (makes s caller entry quit reply).state
  makes_stay entry quit reply = by_room (nat_lt s.kept.count MAX_ENTRIES)
    where
      by_room : (b : Bool)
          → Stays (cond b (record { state = left_if quit caller (taken s (made_by caller entry)); reply = reply; made = Some (made_by caller entry) }) (refused s Exhausted)).state
      by_room true = quit_stays quit (taken s (made_by caller entry)) (taken_stay entry)
      by_room false = as_it_was

  checked_stays : (run : Option Unconfirmed) → Stays (checked s caller run).state
  checked_stays None = as_it_was
  checked_stays (Some run) = makes_stay (ConfirmOf (confirm_of s caller)) false _

  exited_stays : (back : Option Position) → Stays (exited s caller back).state
  exited_stays None = left_mode
  exited_stays (Some position) = moved position

  edited_stays : (path : List Step) → Stays (edited s caller path).state
  edited_stays path = by_level (is_level_at path)
    where
      by_level : (b : Bool) → Stays (cond b (answered (with_position s caller (moved_to (position_of s caller) path)) SaysDone) (refused s (NotALevel path))).state
      by_level true = moved _
      by_level false = as_it_was

  module _ (turned : Turned) where
    unchanged : (to : Turned) → to.state ≡ s → turned ≡ to → Stays turned.state
    unchanged to same is = stays_by turned to is (subst Stays (sym same) as_it_was)

    rolls_stay : (n : ℕ) (commit : Option Commit) → RollsTo s caller n commit turned → Stays turned.state
    rolls_stay n None rolls = unchanged _ refl rolls
    rolls_stay n (Some commit) rolls =
        by_bool (n == 0) _ _ (Stays turned.state) (λ is. stays_by turned _ is (edits _))
        (λ (r : Replaces s caller commit.tree turned). stays_by turned _ r.is (edits r.next)) rolls

    does_stay : (command : Command) → Does s caller command turned → Stays turned.state
    does_stay (Configure mode) is = stays_by turned _ is (enters mode)
    does_stay (ShowActive asked form) shows = unchanged _ refl shows.is
    does_stay ShowCommits lists = unchanged _ refl lists.is
    does_stay Logout is = stays_by turned _ is left_mode
    does_stay (Edit asked) (inl moves) = stays_by turned _ moves.is (edited_stays moves.target.path)
    does_stay (Edit asked) (inr lost) = unchanged _ refl lost.is
    does_stay (Up count) is = stays_by turned _ is (moved _)
    does_stay Top is = stays_by turned _ is (moved _)
    does_stay Exit is = stays_by turned _ is (exited_stays _)
    does_stay ExitAll is = stays_by turned _ is left_mode
    does_stay (Show asked form) shows = unchanged _ refl shows.is
    does_stay (Change op) (inl changes) = stays_by turned _ changes.is (edits changes.next)
    does_stay (Change op) (inr same) = unchanged _ refl same.is
    does_stay (Load way text) (inl loads) = stays_by turned _ loads.replaces.is (edits loads.replaces.next)
    does_stay (Load way text) (inr fault) = unchanged _ refl fault.is
    does_stay (Rollback n) rolls = rolls_stay n (nth_last s.kept n) rolls
    does_stay CheckOnly checks =
        by_check s (own_of s caller) turned _ (λ t. Stays t.state) (λ m accepted. checked_stays s.kept.pending) (λ refusal. as_it_was) checks
    does_stay (CommitAsked minutes comment quit) checks =
        by_check s (own_of s caller) turned _ (λ t. Stays t.state)
        (λ m accepted. makes_stay (CommitOf (commit_of s caller m minutes comment)) quit _) (λ refusal. as_it_was) checks
    does_stay (CommitAt when comment) checks =
        by_check s (own_of s caller) turned _ (λ t. Stays t.state)
        (λ m accepted. makes_stay (ScheduledOf (scheduled_of s caller m (at_of when s.greatest) comment)) false _) (λ refusal. as_it_was) checks
    does_stay ClearCommit is = stays_by turned _ is (makes_stay (ClearedOf (cleared_of s caller)) false _)
    does_stay Update (inl updates) = stays_by turned _ updates.is (edits updates.next)
    does_stay Update (inr unmerged) = unchanged _ refl unmerged.is
    does_stay Status is = unchanged _ refl is

    serves_stay : (command : Command) → Serves s caller command turned → Stays turned.state
    serves_stay command = by_bar (bar_to s caller command) s turned _ _ (λ refusal is. unchanged _ refl is) (does_stay command)

  ends_stay : (outcome : Outcome) (done turned : Turned) → Stays done.state → Ends outcome s done turned → Stays turned.state
  ends_stay Done done turned stays is = stays_by turned done is stays
  ends_stay Fault done turned stays put = stays_by turned _ put.is (refl, λ elsewhere. refl)

  -- what was in flight is settled
  settled_stay : (made : Made) (is_kept : Bool) → s.flight ≡ Some made → Stays (settled s made is_kept)
  settled_stay made true flying = (refl, λ elsewhere. made_owns made.maker (fresh_in made.entry) (elsewhere made flying))
  settled_stay made false flying = (refl, λ elsewhere. refl)

  left_stays : (logout : Bool) → Stays (cond logout (without_mode s caller) s)
  left_stays true = left_mode
  left_stays false = as_it_was

  from_stays : (waiting : Waiting) (event : Event) (outcome : Outcome) (turned : Turned)
      → ((made : Made) → waiting ≡ InFlight made → s.flight ≡ Some made) → StepsFrom waiting s caller event outcome turned → Stays turned.state
  from_stays (InFlight made) (Settle is_kept) Done turned flying is = stays_by turned _ is (settled_stay made is_kept (flying made refl))
  from_stays (InFlight made) (CommandOf command) Fault turned flying is = stays_by turned _ is (left_stays (is_logout command))
  from_stays (InFlight made) (Settle is_kept) Fault turned flying is = absurd is
  from_stays (InFlight made) (CommandOf command) Done turned flying is = absurd is
  from_stays (InFlight made) Revert outcome turned flying is = absurd is
  from_stays (InFlight made) Carry outcome turned flying is = absurd is
  from_stays Missed Revert outcome turned flying is = ends_stay outcome (reverted s) turned (refl, λ elsewhere. refl) is
  from_stays Missed (Settle is_kept) outcome turned flying is = absurd is
  from_stays Missed (CommandOf command) outcome turned flying is = absurd is
  from_stays Missed Carry outcome turned flying is = absurd is
  from_stays (Ready w) Carry outcome turned flying is = ends_stay outcome (carried s w is.same) turned (refl, λ elsewhere. refl) is.ends
  from_stays (Ready w) (Settle is_kept) outcome turned flying is = absurd is
  from_stays (Ready w) Revert outcome turned flying is = absurd is
  from_stays (Ready w) (CommandOf command) outcome turned flying is = absurd is
  from_stays Free (CommandOf command) outcome turned flying is = ends_stay outcome is.done turned (serves_stay is.done command is.serves) is.ends
  from_stays Free (Settle is_kept) outcome turned flying is = absurd is
  from_stays Free Revert outcome turned flying is = absurd is
  from_stays Free Carry outcome turned flying is = absurd is

numbers_apart : (caller other : ℕ) → 0 < caller → 0 < other → other ≢ caller → caller - 1 ≢ other - 1
numbers_apart caller other one two apart same = apart (omega (arith, one, two, same))

-- a maker that is another caller stands elsewhere
elsewhere_by : (maker : Maker) (other : ℕ) → 0 < other → IsNoCommandOf other maker → IsElsewhere other maker
elsewhere_by (CommandBy maker) other two is = numbers_apart maker other is.0 two is.1
elsewhere_by Deadline other two is = tt
elsewhere_by (Schedule same) other two is = tt

made_elsewhere : (flight : Option Made) (other : ℕ) → 0 < other → IfSome flight (λ made. IsNoCommandOf other made.maker)
    → (made : Made) → flight ≡ Some made → IsElsewhere other made.maker
made_elsewhere flight other two is made flying =
    elsewhere_by made.maker other two (subst (λ (f : Option Made). IfSome f (λ m. IsNoCommandOf other m.maker)) flying is)

-- what stands before the next command
pub flying_when : (flight : Option Made) (missed : Bool) (ready : Option Scheduled) (made : Made) → waiting_for flight missed ready ≡ InFlight made → flight ≡ Some made
flying_when (Some one) missed ready made is = cc
flying_when None true ready made is = absurd (cc)
flying_when None false None made is = absurd (cc)
flying_when None false (Some w) made is = absurd (cc)

abbrev is_command : Event → Bool
is_command (CommandOf command) = true
is_command (Settle is_kept) = false
is_command Revert = false
is_command Carry = false

-- a settling, a revert and a scheduled commit leave the same in whoever's turn they come
anyones : (waiting : Waiting) (s : State) (caller one : ℕ) (event : Event) (outcome : Outcome) (turned : Turned) → is_command event ≡ false
    → StepsFrom waiting s caller event outcome turned → StepsFrom waiting s one event outcome turned
anyones waiting s caller one (CommandOf command) outcome turned none steps = absurd (let e : true ≡ false = none in cc)
anyones (InFlight made) s caller one (Settle is_kept) Done turned none steps = steps
anyones (InFlight made) s caller one (Settle is_kept) Fault turned none steps = absurd steps
anyones (InFlight made) s caller one Revert outcome turned none steps = absurd steps
anyones (InFlight made) s caller one Carry outcome turned none steps = absurd steps
anyones Missed s caller one (Settle is_kept) outcome turned none steps = absurd steps
anyones Missed s caller one Revert outcome turned none steps = steps
anyones Missed s caller one Carry outcome turned none steps = absurd steps
anyones (Ready w) s caller one Carry outcome turned none steps = steps
anyones (Ready w) s caller one (Settle is_kept) outcome turned none steps = absurd steps
anyones (Ready w) s caller one Revert outcome turned none steps = absurd steps
anyones Free s caller one (Settle is_kept) outcome turned none steps = absurd steps
anyones Free s caller one Revert outcome turned none steps = absurd steps
anyones Free s caller one Carry outcome turned none steps = absurd steps

-- what a step in another caller's turn leaves
abbrev Leaves : State → ℕ → Turned → Type 0
Leaves s other turned = (caller_of turned.state other ≡ caller_of s other) × (HasNoneInFlight s other → own_of turned.state other ≡ own_of s other)

module _ (s : State) (other moment : ℕ) (event : Event) (outcome : Outcome) (turned : Turned) (two : 0 < other) where
  stays_so : (caller : ℕ) → 0 < caller → other ≢ caller → Steps s caller moment event outcome turned → Leaves s other turned
  stays_so caller one apart steps =
      let stays =
      from_stays (later s moment) caller other (numbers_apart caller other one two apart) (waiting_of s moment) event outcome turned
      (flying_when s.flight (is_revert_due s.kept moment) (ready_in s.kept moment)) steps in
      (stays.0, λ none. stays.1 (made_elsewhere s.flight other two none))

  -- what is nobody's command leaves it as one in the turn of the next caller
  stays_for : is_command event ≡ false → (caller : ℕ) → Steps s caller moment event outcome turned → Leaves s other turned
  stays_for none caller steps =
      stays_so (suc other) (omega arith) (λ same. omega (arith, same))
      (anyones (waiting_of s moment) (later s moment) caller (suc other) event outcome turned none steps)

leaves_others : (s : State) (caller other moment : ℕ) (event : Event) (outcome : Outcome) (turned : Turned) → 0 < other → IsNotAskedBy other caller event
    → Steps s caller moment event outcome turned → Leaves s other turned
leaves_others s caller other moment (CommandOf command) outcome turned two asked steps =
    stays_so s other moment (CommandOf command) outcome turned two caller asked.0 asked.1 steps
leaves_others s caller other moment (Settle is_kept) outcome turned two asked steps =
    stays_for s other moment (Settle is_kept) outcome turned two refl caller steps
leaves_others s caller other moment Revert outcome turned two asked steps =
    stays_for s other moment Revert outcome turned two refl caller steps
leaves_others s caller other moment Carry outcome turned two asked steps =
    stays_for s other moment Carry outcome turned two refl caller steps

pub steps_leave_others : (s : State) (caller other moment : ℕ) (event : Event) (outcome : Outcome) (turned : Turned) → 0 < other
    → IsNotAskedBy other caller event → Steps s caller moment event outcome turned → caller_of turned.state other ≡ caller_of s other
steps_leave_others s caller other moment event outcome turned two asked steps = (leaves_others s caller other moment event outcome turned two asked steps).0

pub steps_leave_candidates : (s : State) (caller other moment : ℕ) (event : Event) (outcome : Outcome) (turned : Turned) → 0 < other
    → IsNotAskedBy other caller event → Steps s caller moment event outcome turned → HasNoneInFlight s other → own_of turned.state other ≡ own_of s other
steps_leave_candidates s caller other moment event outcome turned two asked steps =
    (leaves_others s caller other moment event outcome turned two asked steps).1
