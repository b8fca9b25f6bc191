-- What `rollback 0` leaves.
use Rattle.std.proofs.Common.{◌≡◌, ℕ, zero, suc, ◌-◌, List, [], ◌∷◌, refl, sym, ap, ◌∙◌, Option, None, Some}
use Rattle.std.specs.Prelude.{slice_get, slice_set, unwrap_or}
use Rattle.candidate.specs.Edits.{CandidateView}
use Rattle.commands.specs.declared.command.Command.TheVariants.{Rollback}
use Rattle.commit_ledger.specs.declared.entry.Commit.{Commit}
use Rattle.commit_ledger.specs.Kept.{kept_commits, nth_last}
use Rattle.config_core.specs.declared.event.Event.TheVariants.{Command as CommandOf}
use Rattle.config_core.specs.declared.event.Outcome.TheVariants as outcomes
use Rattle.config_core.specs.declared.reply.Refusal.{Refusal}
use Rattle.config_core.specs.declared.reply.Refusal.TheVariants.{NoRollback}
use Rattle.config_core.specs.declared.reply.Reply.TheVariants.{Loaded, Refused}
use Rattle.config_core.specs.State.{State, fresh_of}
use Rattle.config_core.specs.Access.{bar_to}
use Rattle.config_core.specs.Callers.{candidate_of, own_in, own_of, owns_with, shared_with, with_candidate}
use Rattle.config_core.specs.Serving.{Turned, Unless, RollsTo}
use Rattle.config_core.specs.Machine.{Waiting, InFlight, Missed, Ready, Free, waiting_of, StepsFrom, Steps, later}

-- a candidate that is put in the place of an own one stands there
set_there : (owns : List (Option CandidateView)) (place : ℕ) (own next : CandidateView) → own_in (slice_get owns place) ≡ Some own
    → own_in (slice_get (slice_set owns place (Some next)) place) ≡ Some next
set_there [] place own next is = absurd (cc)
set_there (one ∷ owns) zero own next is = refl
set_there (one ∷ owns) (suc place) own next is = set_there owns place own next is

edited_by : (s : State) (caller : ℕ) (own : Option CandidateView) (next : CandidateView) → own_of s caller ≡ own
    → unwrap_or (own_in (slice_get (owns_with own s.own caller next) (caller - 1))) (shared_with own s.shared next) ≡ next
edited_by s caller None next is = ap (λ (o : Option CandidateView). unwrap_or o next) is
edited_by s caller (Some own) next is = ap (λ (o : Option CandidateView). unwrap_or o s.shared) (set_there s.own (caller - 1) own next is)

-- the candidate that a caller edits from now on is that one
edits_it : (s : State) (caller : ℕ) (next : CandidateView) → candidate_of (with_candidate s caller next) caller ≡ next
edits_it s caller next = edited_by s caller (own_of s caller) next refl

-- the caller's candidate is the last commit's, without edits
abbrev IsFresh : State → ℕ → Type 0
IsFresh s caller = candidate_of s caller ≡ fresh_of s.kept.last

not_loaded : (refusal : Refusal) → Refused refusal ≡ Loaded → ⊥
not_loaded refusal e = cc

rolled : (s : State) (caller : ℕ) (commit : Option Commit) (turned : Turned) → RollsTo s caller 0 commit turned → turned.reply ≡ Loaded
    → IsFresh turned.state caller
rolled s caller None turned rolls loaded =
    absurd (not_loaded (NoRollback 0 (kept_commits s.kept)) (sym (ap (λ (t : Turned). t.reply) rolls) ∙ loaded))
rolled s caller (Some commit) turned rolls loaded =
    ap (λ (t : Turned). candidate_of t.state caller) rolls ∙ edits_it s caller (fresh_of s.kept.last)
    ∙ sym (ap (λ (t : Turned). fresh_of t.state.kept.last) rolls)

served : (bar : Option Refusal) (s : State) (caller : ℕ) (turned : Turned) → Unless bar s turned (RollsTo s caller 0 (nth_last s.kept 0) turned)
    → turned.reply ≡ Loaded → IsFresh turned.state caller
served None s caller turned rolls loaded = rolled s caller (nth_last s.kept 0) turned rolls loaded
served (Some refusal) s caller turned is loaded = absurd (not_loaded refusal (sym (ap (λ (t : Turned). t.reply) is) ∙ loaded))

stepped : (waiting : Waiting) (s : State) (caller : ℕ) (turned : Turned) → StepsFrom waiting s caller (CommandOf (Rollback 0)) outcomes.Done turned
    → turned.reply ≡ Loaded → IsFresh turned.state caller
stepped (InFlight made) s caller turned is loaded = absurd is
stepped Missed s caller turned is loaded = absurd is
stepped (Ready w) s caller turned is loaded = absurd is
stepped Free s caller turned is loaded =
    let same = ap (λ (t : Turned). t.state) is.ends in
    let fresh = served (bar_to s caller (Rollback 0)) s caller is.done is.serves (sym (ap (λ (t : Turned). t.reply) is.ends) ∙ loaded) in
    ap (λ (x : State). candidate_of x caller) same ∙ fresh ∙ sym (ap (λ (x : State). fresh_of x.kept.last) same)

pub rolls_back_to_fresh : (s : State) (caller moment : ℕ) (turned : Turned) → Steps s caller moment (CommandOf (Rollback 0)) outcomes.Done turned
    → turned.reply ≡ Loaded → candidate_of turned.state caller ≡ fresh_of turned.state.kept.last
rolls_back_to_fresh s caller moment turned steps loaded = stepped (waiting_of s moment) (later s moment) caller turned steps loaded
