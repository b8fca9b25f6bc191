-- A prepared step is one of the machine, with each outcome that the event may have.
use Rattle.std.proofs.Common.{◌≡◌, ◌∙◌, ℕ, Bool, true, false, Option, Some, None, refl, sym, ap, subst}
use Rattle.std.specs.Prelude.{IfSome, IsSome}
use Rattle.commands.specs.declared.command.Command.{Command}
use Rattle.commit_ledger.specs.declared.entry.Scheduled.{Scheduled}
use Rattle.commit_ledger.specs.Kept.{is_revert_due, ready_in}
use Rattle.config_core.specs.declared.event.Event.TheVariants.{Carry, Command as CommandOf}
use Rattle.config_core.specs.declared.event.Outcome.{Outcome}
use Rattle.config_core.specs.declared.event.Outcome.TheVariants.{Done, Fault}
use Rattle.config_core.specs.declared.reply.Reply.{Reply}
use Rattle.config_core.specs.declared.effect.Effect.{Effect}
use Rattle.config_core.specs.declared.effect.Effect.TheVariants.{Stay, Leave, Enter, Move, Edit, Settle, Append}
use Rattle.config_core.specs.State.{State, Made}
use Rattle.config_core.specs.Plan.{PreparedView, made_of, made_in}
use Rattle.config_core.specs.Serving.{Turned, Serves}
use Rattle.config_core.specs.Entries.{carry_made}
use Rattle.config_core.specs.Machine.{Ready, Free, waiting_for, waiting_of, carried, Carries, FitsIn, StepsFrom, Ends, Steps, later}
use Rattle.config_core.specs.Prepared.{effected, replied, ended, turned_by, Prepares, IsPrepared, CanEnd}

-- what an effect leaves where it is done
abbrev done_by : Effect → ℕ → Reply → State → Turned
done_by effect caller reply s = record { state = effected effect caller Done s; reply = reply; made = made_in effect }

abbrev left_by : Effect → ℕ → Reply → Outcome → State → Turned
left_by effect caller reply outcome s =
    record { state = effected effect caller outcome s; reply = replied effect reply outcome; made = made_in effect }

ends_free : (command : Command) (caller : ℕ) (s : State) (effect : Effect) (reply : Reply) (outcome : Outcome)
    → CanEnd Free (CommandOf command) (made_in effect) outcome → Ends outcome s (done_by effect caller reply s) (left_by effect caller reply outcome s)
ends_free command caller s Stay reply Done can = refl
ends_free command caller s (Leave fresh) reply Done can = refl
ends_free command caller s (Enter mode own) reply Done can = refl
ends_free command caller s (Move position) reply Done can = refl
ends_free command caller s (Edit next) reply Done can = refl
ends_free command caller s (Settle is_kept) reply Done can = refl
ends_free command caller s (Append a) reply Done can = refl
ends_free command caller s (Append a) reply Fault can = record { made = made_of a; makes = refl; is = refl }
ends_free command caller s Stay reply Fault can = absurd can
ends_free command caller s (Leave fresh) reply Fault can = absurd can
ends_free command caller s (Enter mode own) reply Fault can = absurd can
ends_free command caller s (Move position) reply Fault can = absurd can
ends_free command caller s (Edit next) reply Fault can = absurd can
ends_free command caller s (Settle is_kept) reply Fault can = absurd can

-- a command that fits with nothing in flight has nothing before it
free_here : (flight : Option Made) (missed : Bool) (ready : Option Scheduled) (command : Command) → flight ≡ None
    → FitsIn (waiting_for flight missed ready) (CommandOf command) → waiting_for flight missed ready ≡ Free
free_here (Some made) missed ready command none fits = absurd (cc)
free_here None true ready command none fits = absurd fits
free_here None false None command none fits = refl
free_here None false (Some w) command none fits = absurd fits

pub free_prepared : (s : State) (caller moment : ℕ) (command : Command) (plan : PreparedView) → s.flight ≡ None
    → FitsIn (waiting_of s moment) (CommandOf command) → Prepares s moment (Serves (later s moment) caller command) plan
    → IsPrepared s caller moment (CommandOf command) plan
free_prepared s caller moment command plan none fits prep = record { follows = prep.follows; steps = steps }
  where
    free : waiting_of s moment ≡ Free
    free = free_here s.flight (is_revert_due s.kept moment) (ready_in s.kept moment) command none fits

    steps : (outcome : Outcome) → CanEnd (waiting_of s moment) (CommandOf command) (made_in plan.effect) outcome
        → Steps s caller moment (CommandOf command) outcome (ended plan outcome s)
    steps outcome can =
        subst (λ w. StepsFrom w (later s moment) caller (CommandOf command) outcome (ended plan outcome s)) (sym free)
        record {
          done = turned_by plan s;
          serves = prep.steps;
          ends =
              subst (λ (m : ℕ). Ends outcome (later s m) (turned_by plan s) (ended plan outcome s)) prep.at_moment
              (ends_free command plan.caller (later s plan.moment) plan.effect plan.reply outcome
              (subst (λ w. CanEnd w (CommandOf command) (made_in plan.effect) outcome) free can));
        }

-- a step that makes an entry ends so, with each outcome
ends_made : (s : State) (made : Made) (effect : Effect) (caller : ℕ) (reply : Reply) (outcome : Outcome) → made_in effect ≡ Some made
    → Ends outcome s (done_by effect caller reply s) (left_by effect caller reply outcome s)
ends_made s made (Append a) caller reply Done is = refl
ends_made s made (Append a) caller reply Fault is = record { made = made_of a; makes = refl; is = refl }
ends_made s made Stay caller reply outcome is = absurd (cc)
ends_made s made (Leave fresh) caller reply outcome is = absurd (cc)
ends_made s made (Enter mode own) caller reply outcome is = absurd (cc)
ends_made s made (Move position) caller reply outcome is = absurd (cc)
ends_made s made (Edit next) caller reply outcome is = absurd (cc)
ends_made s made (Settle is_kept) caller reply outcome is = absurd (cc)

-- a scheduled commit that fits is ready
ready_here : (flight : Option Made) (missed : Bool) (ready : Option Scheduled) → FitsIn (waiting_for flight missed ready) Carry → IsSome ready
ready_here (Some made) missed ready fits = absurd fits
ready_here None true ready fits = absurd fits
ready_here None false None fits = absurd fits
ready_here None false (Some w) fits = refl

pub carry_is_ready : (s : State) (moment : ℕ) → FitsIn (waiting_of s moment) Carry → IsSome (ready_in s.kept moment)
carry_is_ready s moment fits = ready_here s.flight (is_revert_due s.kept moment) (ready_in s.kept moment) fits

carry_here : (flight : Option Made) (missed : Bool) (ready : Option Scheduled) (w : Scheduled) → ready ≡ Some w
    → FitsIn (waiting_for flight missed ready) Carry → waiting_for flight missed ready ≡ Ready w
carry_here (Some made) missed ready w is fits = absurd fits
carry_here None true ready w is fits = absurd fits
carry_here None false None w is fits = absurd fits
carry_here None false (Some one) w is fits = cc

module _ (s : State) (caller moment : ℕ) (plan : PreparedView) (fits : FitsIn (waiting_of s moment) Carry) where
  carry_ends : (w : Scheduled) → ready_in s.kept moment ≡ Some w → Prepares s moment (Carries (later s moment) w Done) plan → (outcome : Outcome)
      → Steps s caller moment Carry outcome (ended plan outcome s)
  carry_ends w is prep outcome =
      let same = prep.steps.same in
      let made : made_in plan.effect ≡ Some (carry_made (later s moment) w same) = ap (λ (t : Turned). t.made) prep.steps.ends in
      let here : waiting_of s moment ≡ Ready w = carry_here s.flight (is_revert_due s.kept moment) (ready_in s.kept moment) w is fits in
      let ends : Ends outcome (later s moment) (turned_by plan s) (ended plan outcome s) =
      subst (λ (m : ℕ). Ends outcome (later s m) (turned_by plan s) (ended plan outcome s)) prep.at_moment
      (ends_made (later s plan.moment) (carry_made (later s moment) w same) plan.effect plan.caller plan.reply outcome made)
      in
      subst (λ x. StepsFrom x (later s moment) caller Carry outcome (ended plan outcome s)) (sym here)
      record {
        same = same;
        told = prep.steps.told;
        ends = subst (λ (t : Turned). Ends outcome (later s moment) t (ended plan outcome s)) prep.steps.ends ends;
      }

  by_ready : (ready : Option Scheduled) → ready_in s.kept moment ≡ ready → IsSome ready
      → IfSome ready (λ w. Prepares s moment (Carries (later s moment) w Done) plan) → IsPrepared s caller moment Carry plan
  by_ready None is some prep = absurd (cc)
  by_ready (Some w) is some prep = record { follows = prep.follows; steps = λ outcome can. carry_ends w is prep outcome }

  pub carry_prepared : IfSome (ready_in s.kept moment) (λ w. Prepares s moment (Carries (later s moment) w Done) plan) → IsPrepared s caller moment Carry plan
  carry_prepared prep = by_ready (ready_in s.kept moment) refl (carry_is_ready s moment fits) prep
