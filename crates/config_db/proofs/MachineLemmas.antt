-- What a step of the machine leaves of the list, of what is in flight, and of the callers.
use Rattle.std.proofs.Common.{◌≡◌, ◌≤◌, ℕ, ◌-◌, length, Bool, true, false, if◌then◌else◌, refl, sym, ap, subst, ◌∙◌, Option, None, Some, arith}
use Rattle.std.specs.Prelude.{IfSome, IsSome}
use Rattle.std.proofs.Math.ListN.{length-set}
use Rattle.commands.specs.declared.command.Command.{Command}
use Rattle.commands.specs.declared.command.Mode.{Mode}
use Rattle.commit_ledger.specs.declared.entry.Entry.{Entry}
use Rattle.commit_ledger.specs.declared.entry.Entry.TheVariants.{Commit as CommitOf, Confirm as ConfirmOf, Scheduled as ScheduledOf, Cleared as ClearedOf}
use Rattle.commit_ledger.specs.declared.entry.Scheduled.{Scheduled}
use Rattle.commit_ledger.specs.Kept.{Kept, append_entry, is_revert_due, ready_in}
use Rattle.commit_ledger.specs.Rules.{Follows as EntryFollows}
use Rattle.config_core.specs.declared.effect.Effect.{Effect}
use Rattle.config_core.specs.declared.effect.Effect.TheVariants as effect
use Rattle.config_core.specs.declared.event.Event.{Event}
use Rattle.config_core.specs.declared.event.Event.TheVariants.{Settle, Revert, Carry, Command as CommandOf}
use Rattle.config_core.specs.declared.event.Need.TheVariants as need
use Rattle.config_core.specs.declared.event.Outcome.{Outcome}
use Rattle.config_core.specs.declared.event.Outcome.TheVariants.{Done, Fault}
use Rattle.config_core.specs.declared.reply.Refusal.TheVariants.{DiskFault}
use Rattle.config_core.specs.declared.reply.Reply.TheVariants.{Done as SaysDone}
use Rattle.config_core.specs.Callers.{caller_of, with_caller, without_mode}
use Rattle.config_core.specs.Entries.{taken}
use Rattle.config_core.specs.Levels.{Position, at_top}
use Rattle.config_core.specs.Plan.{PreparedView, made_in, made_of}
use Rattle.config_core.specs.Machine.{Carries, Ends, Fits, FitsIn, Free, InFlight, IsAskable, Missed, Ready, Steps, StepsFrom, Waiting, carried, is_logout, later, left_by, reverted, settled, waiting_for, waiting_of}
use Rattle.config_core.specs.Prepared.{CanEnd, IsPrepared, applied, effected, ended, need_in, replied, settled_in}
use Rattle.config_core.specs.Serving.{Turned, answered, left_if, refused}
use Rattle.config_core.specs.Soundness.{IsSoundEntry, IsSoundMade, IsSoundState}
use Rattle.config_core.specs.State.{State, Made}
use Rattle.config_core.proofs.SoundLemmas.{steps_keep}
use Rattle.session_history.specs.Events.{is_command}
use Rattle.config_db.specs.Answers.{IsDue}
use Rattle.config_db.specs.Moves.{Turns}
use Rattle.stored_ledger.specs.Writable.{IsWritable}
use Rattle.config_db.specs.Writing.{kept_after, flight_after}

-- a step left this of the list and in flight, and as many callers
pub record Leaves (s s' : State) (kept : Kept) (flight : Option Made) : Type 0 where
  pub kept_is : s'.kept ≡ kept
  pub flight_is : s'.flight ≡ flight
  pub callers : length s'.callers ≡ length s.callers

as_many : (s : State) (caller : ℕ) (mode : Option Mode) (position : Position) → length (with_caller s caller mode position).callers ≡ length s.callers
as_many s caller mode position = length-set s.callers (caller - 1) _

taken_leaves : (s : State) (made : Made) → Leaves s (taken s made) (append_entry s.kept made.entry) None
taken_leaves s made = record { kept_is = refl; flight_is = refl; callers = refl }

left_leaves : (quit : Bool) (caller : ℕ) (s t : State) (kept : Kept) → Leaves s t kept None → Leaves s (left_if quit caller t) kept None
left_leaves true caller s t kept leaves = record { kept_is = leaves.kept_is; flight_is = leaves.flight_is; callers = as_many t caller None at_top ∙ leaves.callers }
left_leaves false caller s t kept leaves = leaves

-- an effect, where nothing was in flight
effect_leaves : (e : Effect) (caller : ℕ) (outcome : Outcome) (s : State) → s.flight ≡ None → (made_in e ≡ None → outcome ≡ Done)
    → Leaves s (effected e caller outcome s) (kept_after s.kept (made_in e) outcome) (flight_after (made_in e) outcome)
effect_leaves effect.Stay caller outcome s free calm = record { kept_is = refl; flight_is = free; callers = refl }
effect_leaves (effect.Leave fresh) caller outcome s free calm = record { kept_is = refl; flight_is = free; callers = as_many s caller None at_top }
effect_leaves (effect.Enter mode own) caller outcome s free calm = record { kept_is = refl; flight_is = free; callers = as_many s caller (Some mode) at_top }
effect_leaves (effect.Move position) caller outcome s free calm =
    record { kept_is = refl; flight_is = free; callers = as_many s caller (caller_of s caller).mode position }
effect_leaves (effect.Edit next) caller outcome s free calm = record { kept_is = refl; flight_is = free; callers = refl }
effect_leaves (effect.Settle is_kept) caller outcome s free calm = record {
  kept_is = ap (λ flight. (settled_in flight is_kept s).kept) free;
  flight_is = ap (λ flight. (settled_in flight is_kept s).flight) free ∙ free;
  callers = ap (λ flight. length (settled_in flight is_kept s).callers) free;
}
effect_leaves (effect.Append a) caller Done s free calm = left_leaves a.quit caller s (taken s (made_of a)) _ (taken_leaves s (made_of a))
effect_leaves (effect.Append a) caller Fault s free calm = record { kept_is = refl; flight_is = refl; callers = refl }

-- a prepared step, where nothing was in flight
pub plan_leaves : (plan : PreparedView) (outcome : Outcome) (s : State) → s.flight ≡ None → (made_in plan.effect ≡ None → outcome ≡ Done)
    → Leaves s (applied plan outcome s) (kept_after s.kept (made_in plan.effect) outcome) (flight_after (made_in plan.effect) outcome)
plan_leaves plan outcome s free calm =
    let leaves = effect_leaves plan.effect plan.caller outcome (later s plan.moment) free calm in
    record { kept_is = leaves.kept_is; flight_is = leaves.flight_is; callers = leaves.callers }

can_end_in : (missed : Bool) (ready : Option Scheduled) (event : Event) (made : Option Made) (outcome : Outcome) → FitsIn (waiting_for None missed ready) event → (made ≡ None → outcome ≡ Done)
    → CanEnd (waiting_for None missed ready) event made outcome
can_end_in true ready (Settle is_kept) made outcome fits calm = absurd fits
can_end_in true ready Revert made outcome fits calm = tt
can_end_in true ready Carry made outcome fits calm = absurd fits
can_end_in true ready (CommandOf command) made outcome fits calm = absurd fits
can_end_in false (Some waiting) (Settle is_kept) made outcome fits calm = absurd fits
can_end_in false (Some waiting) Revert made outcome fits calm = absurd fits
can_end_in false (Some waiting) Carry made outcome fits calm = tt
can_end_in false (Some waiting) (CommandOf command) made outcome fits calm = absurd fits
can_end_in false None (Settle is_kept) made outcome fits calm = absurd fits
can_end_in false None Revert made outcome fits calm = absurd fits
can_end_in false None Carry made outcome fits calm = absurd fits
can_end_in false None (CommandOf command) None Done fits calm = tt
can_end_in false None (CommandOf command) (Some made) Done fits calm = tt
can_end_in false None (CommandOf command) None Fault fits calm = absurd (let no = calm refl in cc)
can_end_in false None (CommandOf command) (Some made) Fault fits calm = tt

-- an event may end so where nothing is in flight: with a fault only where it makes an entry
can_end : (s : State) (moment : ℕ) (event : Event) (made : Option Made) (outcome : Outcome) → s.flight ≡ None → FitsIn (waiting_of s moment) event → (made ≡ None → outcome ≡ Done)
    → CanEnd (waiting_of s moment) event made outcome
can_end s moment event made outcome free fits calm =
    let same : waiting_of s moment ≡ waiting_for None (is_revert_due s.kept moment) (ready_in s.kept moment) = ap (λ flight. waiting_for flight (is_revert_due s.kept moment) (ready_in s.kept moment)) free in
    subst (λ w. CanEnd w event made outcome) (sym same) (can_end_in (is_revert_due s.kept moment) (ready_in s.kept moment) event made outcome (subst (λ w. FitsIn w event) same fits) calm)

turns_by : (s : State) (caller moment : ℕ) (event : Event) (plan : PreparedView) (outcome : Outcome) → Fits s caller moment event → IsPrepared s caller moment event plan
    → CanEnd (waiting_of s moment) event (made_in plan.effect) outcome → Turns s caller moment event outcome (replied plan.effect plan.reply outcome) (applied plan outcome s)
turns_by s caller moment event plan outcome fits prepared ends =
    record { fits = fits; turned = ended plan outcome s; steps = prepared.steps outcome ends; state = refl; replied = refl }

-- the step itself
pub free_steps : (s : State) (caller moment : ℕ) (event : Event) (plan : PreparedView) (outcome : Outcome) → s.flight ≡ None → Fits s caller moment event → IsPrepared s caller moment event plan
    → (made_in plan.effect ≡ None → outcome ≡ Done) → Steps s caller moment event outcome (ended plan outcome s)
free_steps s caller moment event plan outcome free fits prepared calm = prepared.steps outcome (can_end s moment event (made_in plan.effect) outcome free fits.fits calm)

-- the entry that it makes may be the next one
pub made_is_sound : (s : State) (caller moment : ℕ) (event : Event) (plan : PreparedView) → IsSoundState s → s.flight ≡ None → Fits s caller moment event
    → IsPrepared s caller moment event plan → IfSome (made_in plan.effect) (IsSoundMade s.kept moment)
made_is_sound s caller moment event plan sound free fits prepared =
    (steps_keep s caller moment event Done (ended plan Done s) sound fits (prepared.steps Done (can_end s moment event (made_in plan.effect) Done free fits.fits (λ none. refl)))).1

writable : (kept : Kept) (entry : Entry) → IsSoundEntry kept entry → IsWritable entry
writable kept (CommitOf commit) sound = record { number = omega (arith, sound.follows.number); minutes = sound.minutes; comment = sound.comment; accepted = sound.accepted }
writable kept (ConfirmOf confirm) sound = sound.number
writable kept (ScheduledOf waiting) sound = record { number = omega (arith, sound.follows.number); comment = sound.comment; accepted = sound.accepted }
writable kept (ClearedOf cleared) sound = sound.number

pub made_writable : (kept : Kept) (moment : ℕ) (made : Option Made) → IfSome made (IsSoundMade kept moment) → IfSome made (λ m. IsWritable m.entry)
made_writable kept moment None sound = tt
made_writable kept moment (Some m) sound = writable kept m.entry sound.entry

follows : (kept : Kept) (entry : Entry) → IsSoundEntry kept entry → EntryFollows kept entry
follows kept (CommitOf commit) sound = sound.follows
follows kept (ConfirmOf confirm) sound = sound.follows
follows kept (ScheduledOf waiting) sound = sound.follows
follows kept (ClearedOf cleared) sound = sound.follows

pub made_follows : (kept : Kept) (moment : ℕ) (made : Option Made) → IfSome made (IsSoundMade kept moment) → IfSome made (λ m. EntryFollows kept m.entry)
made_follows kept moment None sound = tt
made_follows kept moment (Some m) sound = follows kept m.entry sound.entry

-- what is in flight
pub flying : {A : Type 0} (o : Option A) → IsSome o → (x : A) × (o ≡ Some x)
flying None some = absurd (cc)
flying (Some x) some = (x, refl)

waits : (s : State) (moment : ℕ) (made : Made) → s.flight ≡ Some made → waiting_of s moment ≡ InFlight made
waits s moment made is = ap (λ flight. waiting_for flight (is_revert_due s.kept moment) (ready_in s.kept moment)) is

-- a settling fits where an entry is in flight
pub settling_fits : (s : State) (caller moment : ℕ) (is_kept : Bool) → IsSome s.flight → s.greatest ≤ moment → Fits s caller moment (Settle is_kept)
settling_fits s caller moment is_kept some no_earlier =
    let made = flying s.flight some in
    record { no_earlier = no_earlier; askable = tt; fits = subst (λ w. FitsIn w (Settle is_kept)) (sym (waits s moment made.0 made.1)) tt }

pub settling_turns : (s : State) (caller moment : ℕ) (is_kept : Bool) (plan : PreparedView) (made : Made) → s.flight ≡ Some made → Fits s caller moment (Settle is_kept)
    → IsPrepared s caller moment (Settle is_kept) plan → Turns s caller moment (Settle is_kept) Done (replied plan.effect plan.reply Done) (applied plan Done s)
settling_turns s caller moment is_kept plan made is fits prepared =
    turns_by s caller moment (Settle is_kept) plan Done fits prepared
    (subst (λ w. CanEnd w (Settle is_kept) (made_in plan.effect) Done) (sym (waits s moment made is)) tt)

-- what is kept after a settling
abbrev pub kept_settled : Kept → Made → Bool → Kept
kept_settled kept made true = append_entry kept made.entry
kept_settled kept made false = kept

settled_leaves : (s t : State) (made : Made) (is_kept : Bool) → t ≡ settled s made is_kept → Leaves s t (kept_settled s.kept made is_kept) None
settled_leaves s t made true is = subst (λ u. Leaves s u (append_entry s.kept made.entry) None) (sym is) (taken_leaves s made)
settled_leaves s t made false is = subst (λ u. Leaves s u s.kept None) (sym is) (record { kept_is = refl; flight_is = refl; callers = refl })

-- a settling: what is kept, and the moment
pub settling_leaves : (s : State) (caller moment : ℕ) (is_kept : Bool) (turned : Turned) (made : Made) → s.flight ≡ Some made → Steps s caller moment (Settle is_kept) Done turned
    → Leaves s turned.state (kept_settled s.kept made is_kept) None
settling_leaves s caller moment is_kept turned made is steps =
    let answer : turned ≡ answered (settled (later s moment) made is_kept) SaysDone = subst (λ w. StepsFrom w (later s moment) caller (Settle is_kept) Done turned) (waits s moment made is) steps in
    let leaves = settled_leaves (later s moment) turned.state made is_kept (ap (λ t. t.state) answer) in
    record { kept_is = leaves.kept_is; flight_is = leaves.flight_is; callers = leaves.callers }

settled_at : (s : State) (made : Made) (is_kept : Bool) → (settled s made is_kept).greatest ≡ s.greatest
settled_at s made false = refl
settled_at s made true = refl

pub settling_moves : (s : State) (caller moment : ℕ) (is_kept : Bool) (turned : Turned) (made : Made) → s.flight ≡ Some made → Steps s caller moment (Settle is_kept) Done turned
    → turned.state.greatest ≡ moment
settling_moves s caller moment is_kept turned made is steps =
    let answer : turned ≡ answered (settled (later s moment) made is_kept) SaysDone = subst (λ w. StepsFrom w (later s moment) caller (Settle is_kept) Done turned) (waits s moment made is) steps in
    ap (λ t. t.state.greatest) answer ∙ settled_at (later s moment) made is_kept

-- and it makes no entry
pub settling_makes_none : (s : State) (caller moment : ℕ) (is_kept : Bool) (turned : Turned) (made : Made) → s.flight ≡ Some made → Steps s caller moment (Settle is_kept) Done turned
    → turned.made ≡ None
settling_makes_none s caller moment is_kept turned made is steps =
    let answer : turned ≡ answered (settled (later s moment) made is_kept) SaysDone = subst (λ w. StepsFrom w (later s moment) caller (Settle is_kept) Done turned) (waits s moment made is) steps in
    ap (λ t. t.made) answer

-- a command while an entry is in flight
pub put_off_turns : (s : State) (caller moment : ℕ) (event : Event) (plan : PreparedView) (made : Made) → is_command event ≡ true → s.flight ≡ Some made → Fits s caller moment event
    → IsPrepared s caller moment event plan → Turns s caller moment event Fault (replied plan.effect plan.reply Fault) (applied plan Fault s)
put_off_turns s caller moment (Settle is_kept) plan made asks is fits prepared = absurd (cc)
put_off_turns s caller moment Revert plan made asks is fits prepared = absurd (cc)
put_off_turns s caller moment Carry plan made asks is fits prepared = absurd (cc)
put_off_turns s caller moment (CommandOf command) plan made asks is fits prepared =
    turns_by s caller moment (CommandOf command) plan Fault fits prepared
    (subst (λ w. CanEnd w (CommandOf command) (made_in plan.effect) Fault) (sym (waits s moment made is)) tt)

out_leaves : (logout : Bool) (s : State) (caller : ℕ) → Leaves s (if logout then without_mode s caller else s) s.kept s.flight
out_leaves true s caller = record { kept_is = refl; flight_is = refl; callers = as_many s caller None at_top }
out_leaves false s caller = record { kept_is = refl; flight_is = refl; callers = refl }

put_off_state : (s : State) (caller moment : ℕ) (command : Command) (turned : Turned) (made : Made) → s.flight ≡ Some made → Steps s caller moment (CommandOf command) Fault turned
    → Leaves s turned.state s.kept s.flight
put_off_state s caller moment command turned made is steps =
    let answer : turned ≡ refused (left_by (later s moment) caller command) DiskFault = subst (λ w. StepsFrom w (later s moment) caller (CommandOf command) Fault turned) (waits s moment made is) steps in
    let leaves = subst (λ u. Leaves (later s moment) u s.kept s.flight) (sym (ap (λ t. t.state) answer)) (out_leaves (is_logout command) (later s moment) caller) in
    record { kept_is = leaves.kept_is; flight_is = leaves.flight_is; callers = leaves.callers }

pub put_off_leaves : (s : State) (caller moment : ℕ) (event : Event) (turned : Turned) (made : Made) → is_command event ≡ true → s.flight ≡ Some made → Steps s caller moment event Fault turned
    → Leaves s turned.state s.kept s.flight
put_off_leaves s caller moment (Settle is_kept) turned made asks is steps = absurd (cc)
put_off_leaves s caller moment Revert turned made asks is steps = absurd (cc)
put_off_leaves s caller moment Carry turned made asks is steps = absurd (cc)
put_off_leaves s caller moment (CommandOf command) turned made asks is steps = put_off_state s caller moment command turned made is steps

-- what stands before the next command, as it is reported
settle_in : (w : Waiting) → need.Settle ≡ need_in w → (made : Made) × (w ≡ InFlight made)
settle_in (InFlight made) is = (made, refl)
settle_in Missed is = absurd (cc)
settle_in (Ready waiting) is = absurd (cc)
settle_in Free is = absurd (cc)

revert_in : (w : Waiting) → need.Revert ≡ need_in w → IsDue Revert w
revert_in (InFlight made) is = absurd (cc)
revert_in Missed is = refl
revert_in (Ready waiting) is = absurd (cc)
revert_in Free is = absurd (cc)

carry_in : (w : Waiting) → need.Carry ≡ need_in w → IsDue Carry w
carry_in (InFlight made) is = absurd (cc)
carry_in Missed is = absurd (cc)
carry_in (Ready waiting) is = refl
carry_in Free is = absurd (cc)

free_in : (w : Waiting) → need.Nothing ≡ need_in w → w ≡ Free
free_in (InFlight made) is = absurd (cc)
free_in Missed is = absurd (cc)
free_in (Ready waiting) is = absurd (cc)
free_in Free is = refl

some_when : (flight : Option Made) (missed : Bool) (ready : Option Scheduled) (made : Made) → waiting_for flight missed ready ≡ InFlight made → IsSome flight
some_when (Some m) missed ready made is = refl
some_when None true ready made is = absurd (cc)
some_when None false (Some waiting) made is = absurd (cc)
some_when None false None made is = absurd (cc)

none_due : (flight : Option Made) (missed : Bool) (ready : Option Scheduled) (event : Event) → IsDue event (waiting_for flight missed ready) → flight ≡ None
none_due (Some m) missed ready event due = absurd due
none_due None missed ready event due = refl

none_free : (flight : Option Made) (missed : Bool) (ready : Option Scheduled) → (waiting_for flight missed ready ≡ Free) → flight ≡ None
none_free (Some m) missed ready is = absurd (cc)
none_free None missed ready is = refl

module _ (s : State) (moment : ℕ) where
  pub settle_needed : need.Settle ≡ need_in (waiting_of s moment) → IsSome s.flight
  settle_needed is = let in_flight = settle_in (waiting_of s moment) is in some_when s.flight (is_revert_due s.kept moment) (ready_in s.kept moment) in_flight.0 in_flight.1

  pub revert_needed : need.Revert ≡ need_in (waiting_of s moment) → IsDue Revert (waiting_of s moment)
  revert_needed is = revert_in (waiting_of s moment) is

  pub carry_needed : need.Carry ≡ need_in (waiting_of s moment) → IsDue Carry (waiting_of s moment)
  carry_needed is = carry_in (waiting_of s moment) is

  pub nothing_needed : need.Nothing ≡ need_in (waiting_of s moment) → waiting_of s moment ≡ Free
  nothing_needed is = free_in (waiting_of s moment) is

  pub none_before : (event : Event) → IsDue event (waiting_of s moment) → s.flight ≡ None
  none_before event due = none_due s.flight (is_revert_due s.kept moment) (ready_in s.kept moment) event due

  pub none_waits : waiting_of s moment ≡ Free → s.flight ≡ None
  none_waits is = none_free s.flight (is_revert_due s.kept moment) (ready_in s.kept moment) is

due_fits_in : (w : Waiting) (event : Event) → IsDue event w → FitsIn w event
due_fits_in (InFlight made) event due = absurd due
due_fits_in Missed event due = subst (FitsIn Missed) (sym due) tt
due_fits_in (Ready waiting) event due = subst (FitsIn (Ready waiting)) (sym due) tt
due_fits_in Free event due = absurd due

due_askable : (w : Waiting) (event : Event) (s : State) (caller : ℕ) → IsDue event w → IsAskable s caller event
due_askable (InFlight made) event s caller due = absurd due
due_askable Missed event s caller due = subst (IsAskable s caller) (sym due) tt
due_askable (Ready waiting) event s caller due = subst (IsAskable s caller) (sym due) tt
due_askable Free event s caller due = absurd due

-- what is due fits
pub due_fits : (s : State) (caller moment : ℕ) (event : Event) → IsDue event (waiting_of s moment) → s.greatest ≤ moment → Fits s caller moment event
due_fits s caller moment event due no_earlier =
    record { no_earlier = no_earlier; askable = due_askable (waiting_of s moment) event s caller due; fits = due_fits_in (waiting_of s moment) event due }

-- and is no command
pub due_no_command : (w : Waiting) (event : Event) → IsDue event w → is_command event ≡ false
due_no_command (InFlight made) event due = absurd due
due_no_command Missed event due = ap is_command due
due_no_command (Ready waiting) event due = ap is_command due
due_no_command Free event due = absurd due

-- what is due makes an entry after which nothing waits any more
due_step : (w : Waiting) (s : State) (caller : ℕ) (event : Event) (outcome : Outcome) (turned : Turned) → IsDue event w → StepsFrom w s caller event outcome turned
    → (done : Turned) × Ends outcome s done turned × ((moment : ℕ) → waiting_of done.state moment ≡ Free) × (done.state.greatest ≡ s.greatest)
due_step (InFlight made) s caller event outcome turned due steps = absurd due
due_step Missed s caller event outcome turned due steps =
    (reverted s, subst (λ e. StepsFrom Missed s caller e outcome turned) due steps, λ moment. refl, refl)
due_step (Ready waiting) s caller event outcome turned due steps =
    let carries : Carries s waiting outcome turned = subst (λ e. StepsFrom (Ready waiting) s caller e outcome turned) due steps in
    (carried s waiting carries.same, carries.ends, λ moment. refl, refl)
due_step Free s caller event outcome turned due steps = absurd due

-- once it is done, nothing comes before the next command
pub after_due : (s : State) (caller moment : ℕ) (event : Event) (turned : Turned) → IsDue event (waiting_of s moment) → Steps s caller moment event Done turned
    → (waiting_of turned.state moment ≡ Free) × (turned.state.greatest ≡ moment)
after_due s caller moment event turned due steps =
    let (done, is, calm, now) = due_step (waiting_of s moment) (later s moment) caller event Done turned due steps in
    (ap (λ t. waiting_of t.state moment) is ∙ calm moment, ap (λ t. t.state.greatest) is ∙ now)

-- where a disk fails it stays in flight
pub after_failed : (s : State) (caller moment : ℕ) (event : Event) (turned : Turned) → IsDue event (waiting_of s moment) → Steps s caller moment event Fault turned → turned.state.greatest ≡ moment
after_failed s caller moment event turned due steps =
    let step = due_step (waiting_of s moment) (later s moment) caller event Fault turned due steps in
    ap (λ t. t.state.greatest) step.1.is
