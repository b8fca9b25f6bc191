-- Events that lead on from a sound state.
use Rattle.std.proofs.Common.{ℕ, zero, suc, List, [], ◌∷◌, refl}
use Rattle.config_core.specs.declared.event.Event.{Event}
use Rattle.config_core.specs.declared.event.Outcome.{Outcome}
use Rattle.config_core.specs.Soundness.{IsSoundState}
use Rattle.config_core.specs.State.{State, IsActiveAccepted}
use Rattle.config_core.specs.Serving.{Turned}
use Rattle.config_core.specs.Machine.{Fits, Steps}
use Rattle.session_history.specs.declared.history.Happened.{Happened}
use Rattle.session_history.specs.Events.{Leads, StaysAccepted}

module _ (step_sound : (s : State) (caller moment : ℕ) (event : Event) (outcome : Outcome) (turned : Turned) → IsSoundState s
    → Fits s caller moment event → Steps s caller moment event outcome turned → IsSoundState turned.state)
    (accepted : (s : State) → IsSoundState s → IsActiveAccepted s) where
  -- the first events lead to a state whose active configuration is accepted, and so do they all
  pub leads_accepted : (s : State) (events : List Happened) (last : State) → IsSoundState s → Leads s events last → StaysAccepted s events
  leads_accepted s events last sound leads zero = record { last = s; leads = refl; accepted = accepted s sound }
  leads_accepted s [] last sound leads (suc count) = record { last = s; leads = refl; accepted = accepted s sound }
  leads_accepted s (event ∷ events) last sound leads (suc count) =
      let kept : IsSoundState leads.1.state = step_sound s event.caller event.moment event.event event.outcome leads.1 sound leads.0 leads.2 in
      let more = leads_accepted leads.1.state events last kept leads.3 count in
      record { last = more.last; leads = (leads.0, leads.1, leads.2, more.leads); accepted = more.accepted }
