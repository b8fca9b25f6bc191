-- Prepared steps.
use Rattle.std.proofs.Common.{◌≡◌, ℕ, List, Bool, true, false, refl, sym, ap, subst, inl, inr, Option, Some, None, Result, Ok, Err}
use Rattle.std.specs.Prelude.{MatchBool, IfOk}
use Rattle.commands.specs.declared.command.Form.{Form}
use Rattle.commands.specs.declared.command.LoadWay.{LoadWay}
use Rattle.commands.specs.declared.command.Op.{Op}
use Rattle.commands.specs.declared.command.Command.TheVariants.{Change, Load}
use Rattle.cfg_base.specs.declared.path.Step.{Step}
use Rattle.cfg_tree.specs.Full.{Expansion}
use Rattle.cfg_tree.specs.Statements.{Statements}
use Rattle.candidate.specs.Edits.{CandidateView, IsCandidateChange, IsEdited}
use Rattle.load_ops.specs.Answer.{IsLoad}
use Rattle.private_merge.specs.Merge.{IsMerge}
use Rattle.commit_ledger.specs.Kept.{active_of}
use Rattle.commit_check.specs.Accepts.{Accepts, IsAccepted}
use Rattle.config_core.specs.declared.effect.Effect.TheVariants.{Edit}
use Rattle.config_core.specs.declared.reply.Reply.{Reply}
use Rattle.config_core.specs.declared.reply.Refusal.{Refusal}
use Rattle.config_core.specs.declared.reply.Refusal.TheVariants.{Check}
use Rattle.config_core.specs.declared.reply.Reply.TheVariants.{Done, Loaded}
use Rattle.config_core.specs.Plan.{PreparedView}
use Rattle.config_core.specs.State.{State, fresh_of}
use Rattle.config_core.specs.Callers.{candidate_of, level_of}
use Rattle.config_core.specs.Serving.{Turned, refused, Unless, Does, Shows, Replaces, Updates, IsOwnMerge, Checks, ChecksWhole}
use Rattle.config_core.specs.Machine.{later}
use Rattle.config_core.specs.Prepared.{Prepares, turned_by}

-- a plan of an edit of the caller's candidate
abbrev edits : ℕ → ℕ → CandidateView → Reply → PreparedView
edits caller moment next reply = record { caller = caller; moment = moment; effect = Edit next; reply = reply }

-- a change of the candidate
pub prepares_change : (s : State) (caller moment : ℕ) (op : Op) (next : CandidateView) (plan : PreparedView)
    → IsCandidateChange (candidate_of s caller) next (level_of s caller) op → plan ≡ edits caller moment next Done
    → Prepares s moment (Does (later s moment) caller (Change op)) plan
prepares_change s caller moment op next plan change is =
    subst (Prepares s moment (Does (later s moment) caller (Change op))) (sym is) record {
      at_moment = refl;
      follows = tt;
      steps = inl record { next = next; change = change; is = refl };
    }

-- a map in the place of the candidate's
pub prepares_replaced : (s : State) (caller moment : ℕ) (made : Statements) (next : CandidateView) (plan : PreparedView)
    → IsEdited (candidate_of s caller) next made → plan ≡ edits caller moment next Loaded
    → Prepares s moment (Replaces (later s moment) caller made) plan
prepares_replaced s caller moment made next plan edited is =
    subst (Prepares s moment (Replaces (later s moment) caller made)) (sym is) record {
      at_moment = refl;
      follows = tt;
      steps = record { next = next; edited = edited; is = refl };
    }

-- an update of the candidate
pub prepares_updated : (s : State) (caller moment : ℕ) (merged : Statements) (next : CandidateView) (plan : PreparedView)
    → IsOwnMerge s (candidate_of s caller) merged → IsEdited (fresh_of s.kept.last) next merged → plan ≡ edits caller moment next Done
    → Prepares s moment (Updates (later s moment) caller) plan
prepares_updated s caller moment merged next plan merge edited is =
    subst (Prepares s moment (Updates (later s moment) caller)) (sym is) record {
      at_moment = refl;
      follows = tt;
      steps = record { merged = merged; merge = merge; next = next; edited = edited; is = refl };
    }

-- a step that is prepared is one of what it also is
pub prepares_as : {E : Type 0} (s : State) (moment : ℕ) (One Other : Turned → Type 0) (answer : Result PreparedView E)
    → ((turned : Turned) → One turned → Other turned) → IfOk answer (Prepares s moment One) → IfOk answer (Prepares s moment Other)
prepares_as s moment One Other (Err none) also h = tt
prepares_as s moment One Other (Ok plan) also h = record { at_moment = h.at_moment; follows = h.follows; steps = also (turned_by plan s) h.steps }

-- a load into the candidate
pub prepares_load : {E : Type 0} (s : State) (caller moment : ℕ) (way : LoadWay) (text : List ℕ) (made : Statements) (told : Bool) (answer : Result PreparedView E)
    → IsLoad way (candidate_of s caller).map text made told → IfOk answer (Prepares s moment (Replaces (later s moment) caller made))
    → IfOk answer (Prepares s moment (Does (later s moment) caller (Load way text)))
prepares_load s caller moment way text made told answer load =
    prepares_as s moment (Replaces (later s moment) caller made) (Does (later s moment) caller (Load way text)) answer
    (λ turned replaces. inl record { made = made; told = told; load = load; replaces = replaces })

-- what is done for an accepted configuration is done for its check
pub checks_accepted : (s : State) (m : Statements) (full : Expansion) (done turned : Turned) → IsAccepted m full → turned ≡ done → Checks s m turned done
checks_accepted s m full done turned accepted is = inl ((full, accepted), is)

-- a merge of an own candidate
pub own_merge : (s : State) (own : CandidateView) (base active mine merged : Statements) → base ≡ own.base → active ≡ active_of s.kept → mine ≡ own.map
    → IsMerge base active mine merged → IsOwnMerge s own merged
own_merge s own base active mine merged one two three merge =
    subst (λ (m : Statements). IsMerge own.base (active_of s.kept) m merged) three
    (subst (λ (m : Statements). IsMerge own.base m mine merged) two (subst (λ (m : Statements). IsMerge m active mine merged) one merge))

-- the check of the shared candidate, of what is merged of an own one, and of an own one that isn't merged
pub checks_shared : (s : State) (own : Option CandidateView) (turned : Turned) (accepted : Statements → Turned) → own ≡ None
    → Checks s s.shared.map turned (accepted s.shared.map) → ChecksWhole s own turned accepted
checks_shared s own turned accepted none checks = subst (λ (o : Option CandidateView). ChecksWhole s o turned accepted) (sym none) checks

pub checks_merged : (s : State) (own : Option CandidateView) (mine : CandidateView) (merged : Statements) (turned : Turned) (accepted : Statements → Turned)
    → own ≡ Some mine → IsOwnMerge s mine merged → Checks s merged turned (accepted merged) → ChecksWhole s own turned accepted
checks_merged s own mine merged turned accepted is merge checks =
    subst (λ (o : Option CandidateView). ChecksWhole s o turned accepted) (sym is) (inl record { merged = merged; merge = merge; checks = checks })

-- what is checked is accepted, or it is refused for a rule that it breaks or because it isn't merged
by_checks : (s : State) (m : Statements) (turned after : Turned) (P : Turned → Type 0) → (Accepts m → P after) → ((refusal : Refusal) → P (refused s refusal))
    → Checks s m turned after → P turned
by_checks s m turned after P done denied (inl checks) = subst P (sym checks.1) (done checks.0)
by_checks s m turned after P done denied (inr broken) = subst P (sym broken.is) (denied (Check broken.number broken.path))

pub by_check : (s : State) (own : Option CandidateView) (turned : Turned) (accepted : Statements → Turned) (P : Turned → Type 0)
    → ((m : Statements) → Accepts m → P (accepted m)) → ((refusal : Refusal) → P (refused s refusal)) → ChecksWhole s own turned accepted → P turned
by_check s None turned accepted P done denied checks = by_checks s s.shared.map turned (accepted s.shared.map) P (done s.shared.map) denied checks
by_check s (Some own) turned accepted P done denied (inl merged) =
    by_checks s merged.merged turned (accepted merged.merged) P (done merged.merged) denied merged.checks
by_check s (Some own) turned accepted P done denied (inr unmerged) = subst P (sym unmerged.is) (denied unmerged.refusal)

-- a show leaves the state as it was
pub shows_stay : (s : State) (m : Statements) (level : List Step) (asked : List (List ℕ)) (form : Form) (turned : Turned)
    → Shows s m level asked form turned → turned.state ≡ s
shows_stay s m level asked form turned shows = ap (λ (t : Turned). t.state) shows.is

-- a command is refused for what bars it, or is done
pub by_bar : (bar : Option Refusal) (s : State) (turned : Turned) (A P : Type 0) → ((refusal : Refusal) → turned ≡ refused s refusal → P) → (A → P)
    → Unless bar s turned A → P
by_bar None s turned A P barred done so = done so
by_bar (Some refusal) s turned A P barred done so = barred refusal so

-- the same, where what is done may need that nothing bars it
pub by_known_bar : (bar : Option Refusal) (s : State) (turned : Turned) (A P : Type 0) → ((refusal : Refusal) → turned ≡ refused s refusal → P) → (bar ≡ None → A → P)
    → Unless bar s turned A → P
by_known_bar None s turned A P barred done so = done refl so
by_known_bar (Some refusal) s turned A P barred done so = barred refusal so

-- one of two
pub by_bool : (b : Bool) (A B P : Type 0) → (A → P) → (B → P) → MatchBool b A B → P
by_bool true A B P first second so = first so
by_bool false A B P first second so = second so
