-- One event of the machine in memory, where nothing is in flight.
use Rattle.std.proofs.Common.{◌≡◌, ℕ, ◌-◌, List, [], ◌∷◌, ◌++◌, length, Bool, true, false, refl, sym, ap, subst, ◌∙◌, Option, None, Some}
use Rattle.config_core.specs.declared.event.Event.{Event}
use Rattle.config_core.specs.declared.event.Event.TheVariants.{Settle, Revert, Carry, Command as CommandOf}
use Rattle.config_core.specs.declared.event.Outcome.TheVariants.{Done}
use Rattle.config_core.specs.declared.effect.Effect.{Effect}
use Rattle.config_core.specs.declared.effect.Effect.TheVariants as effect
use Rattle.config_core.specs.Callers.{caller_of, with_caller}
use Rattle.config_core.specs.Entries.{taken}
use Rattle.config_core.specs.Levels.{Position, at_top}
use Rattle.config_core.specs.declared.reply.Reply.{Reply}
use Rattle.commit_ledger.specs.declared.entry.Scheduled.{Scheduled}
use Rattle.commit_ledger.specs.Kept.{is_revert_due, ready_in}
use Rattle.config_core.specs.State.{State, Made}
use Rattle.config_core.specs.Plan.{PreparedView, made_in, made_of}
use Rattle.config_core.specs.Serving.{left_if}
use Rattle.commands.specs.declared.command.Mode.{Mode}
use Rattle.std.proofs.Math.ListN.{length-set}
use Rattle.config_core.specs.Machine.{Fits, FitsIn, later, waiting_for, waiting_of}
use Rattle.config_core.specs.Prepared.{CanEnd, IsPrepared, applied, effected, ended, replied, settled_in}
use Rattle.session_history.specs.declared.history.Happened.{Happened}
use Rattle.service.specs.Taking.{Happens, done_event}

-- with nothing in flight, what stands before a command is a missed deadline, a scheduled commit whose time has come, or nothing
waits : (s : State) (moment : ℕ) → s.flight ≡ None → waiting_of s moment ≡ waiting_for None (is_revert_due s.kept moment) (ready_in s.kept moment)
waits s moment free = ap (λ flight. waiting_for flight (is_revert_due s.kept moment) (ready_in s.kept moment)) free

can_end : (missed : Bool) (ready : Option Scheduled) (event : Event) (made : Option Made) → FitsIn (waiting_for None missed ready) event
    → CanEnd (waiting_for None missed ready) event made Done
can_end true ready (Settle is_kept) made fits = absurd fits
can_end true ready Revert made fits = tt
can_end true ready Carry made fits = absurd fits
can_end true ready (CommandOf command) made fits = absurd fits
can_end false (Some waiting) (Settle is_kept) made fits = absurd fits
can_end false (Some waiting) Revert made fits = absurd fits
can_end false (Some waiting) Carry made fits = tt
can_end false (Some waiting) (CommandOf command) made fits = absurd fits
can_end false None (Settle is_kept) made fits = absurd fits
can_end false None Revert made fits = absurd fits
can_end false None Carry made fits = absurd fits
can_end false None (CommandOf command) made fits = tt

-- an event that fits may be done
can_be_done : (s : State) (moment : ℕ) (event : Event) (made : Option Made) → s.flight ≡ None → FitsIn (waiting_of s moment) event → CanEnd (waiting_of s moment) event made Done
can_be_done s moment event made free fits =
    let same : waiting_of s moment ≡ waiting_for None (is_revert_due s.kept moment) (ready_in s.kept moment) = waits s moment free in
    subst (λ w. CanEnd w event made Done) (sym same)
    (can_end (is_revert_due s.kept moment) (ready_in s.kept moment) event made (subst (λ w. FitsIn w event) same fits))

moved : (s : State) (caller : ℕ) (mode : Option Mode) (position : Position) → length (with_caller s caller mode position).callers ≡ length s.callers
moved s caller mode position = length-set s.callers (caller - 1) _

-- leaving the mode or not
left : (quit : Bool) (caller : ℕ) (s : State) → s.flight ≡ None → ((left_if quit caller s).flight ≡ None) × (length (left_if quit caller s).callers ≡ length s.callers)
left true caller s free = (free, moved s caller None at_top)
left false caller s free = (free, refl)

-- what is done leaves nothing in flight, and as many callers
keeps : (e : Effect) (caller : ℕ) (s : State) → s.flight ≡ None → ((effected e caller Done s).flight ≡ None) × (length (effected e caller Done s).callers ≡ length s.callers)
keeps effect.Stay caller s free = (free, refl)
keeps (effect.Leave fresh) caller s free = (free, moved s caller None at_top)
keeps (effect.Enter mode own) caller s free = (free, moved s caller (Some mode) at_top)
keeps (effect.Move position) caller s free = (free, moved s caller (caller_of s caller).mode position)
keeps (effect.Edit next) caller s free = (free, refl)
keeps (effect.Settle is_kept) caller s free =
    (ap (λ flight. (settled_in flight is_kept s).flight) free ∙ free, ap (λ flight. length (settled_in flight is_kept s).callers) free)
keeps (effect.Append a) caller s free = left a.quit caller (taken s (made_of a)) refl

-- a step that was prepared and carried out
pub Happens-of : (caller moment : ℕ) (event : Event) (reply : Reply) (plan : PreparedView) (s s' : State) (events events' : List Happened) → Fits s caller moment event → s.flight ≡ None → IsPrepared s caller moment event plan →
    s' ≡ applied plan Done s → reply ≡ replied plan.effect plan.reply Done → events' ≡ events ++ done_event caller moment event ∷ [] → Happens caller moment event reply s s' events events'
Happens-of caller moment event reply plan s s' events events' fits free prepared is replies grown = record {
  turned = ended plan Done s;
  fits = fits;
  steps = prepared.steps Done (can_be_done s moment event (made_in plan.effect) free fits.fits);
  state = is;
  replied = replies;
  grown = grown;
  free = ap (λ x. x.flight) is ∙ (keeps plan.effect plan.caller (later s plan.moment) free).0;
  callers = ap (λ x. length x.callers) is ∙ (keeps plan.effect plan.caller (later s plan.moment) free).1;
}
