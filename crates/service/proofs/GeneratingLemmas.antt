-- A configuration that was made by three commands of the first caller.
use Rattle.std.proofs.Common.{◌≡◌, ◌≤◌, length, min, arith, ℕ, List, [], ◌∷◌, Some, Ok, Err, refl, sym, subst, ap, ◌∙◌}
use Rattle.std.specs.Prelude.{Result, IsOk, OnOk}
use Rattle.commands.specs.declared.command.Command.{Command}
use Rattle.std.specs.FinMap as map
use Rattle.cfg_tree.specs.Full.{Expansion}
use Rattle.cfg_tree.specs.Statements.{Statements, size_of}
use Rattle.commit_check.specs.Accepts.{IsAccepted}
use Rattle.curly_print.specs.Printed.{printed}
use Rattle.group_expand.specs.Expansion.{IsExpansion}
use Rattle.modes.specs.Texts.{gen_text}
use Rattle.commit_ledger.specs.Kept.{Kept, active_of, factory, kept_commits}
use Rattle.config_core.specs.State.{State, opening_of}
use Rattle.config_core.specs.declared.event.Event.{Event}
use Rattle.config_core.specs.declared.reply.Reply.{Reply}
use Rattle.session_history.specs.declared.history.Happened.{Happened}
use Rattle.session_history.specs.declared.history.History.{History}
use Rattle.session_history.specs.Events.{IsLegal, Leads}
use Rattle.session_history.proofs.EventLemmas.{Leads-append}
use Rattle.service.specs.Taking.{Happens, done_event}
use Rattle.service.specs.Generating.{Generates, IsToldOf, IsDone, IsGenerated, IsMadeFor}

-- an event leads on to the state that it leaves
pub leads_on : (caller moment : ℕ) (event : Event) (reply : Reply) (from s s' : State) (events events' : List Happened) → Leads from events s
    → Happens caller moment event reply s s' events events' → Leads from events' s'
leads_on caller moment event reply from s s' events events' leads h =
    subst (λ (l : List Happened). Leads from l s') (sym h.grown)
    (Leads-append from events (done_event caller moment event ∷ []) s s' leads (h.fits, h.turned, h.steps, h.state))

-- so three of them are a legal history
legal_of : (number : ℕ) (s s' : State) (events : List Happened) → Generates number s s' [] events → IsLegal s events
legal_of number s s' events g =
    (s', leads_on _ _ _ _ s g.loading s' g.two events (leads_on _ _ _ _ s g.editing g.loading g.one g.two (leads_on _ _ _ _ s s g.editing [] g.one refl g.entered) g.loaded) g.committed)

pub generated : (number : ℕ) (users : List (List ℕ)) (history : History) (text : List ℕ) (events : List Happened) → IsMadeFor number users events text
    → history.opening ≡ Some factory → history.users ≡ users → history.made ≡ record { a = 0; b = 0 } → history.events.items ≡ events → IsGenerated number users history text
generated number users history text events is opening users_is no_calls events_are = record {
  opening = opening;
  users_is = users_is;
  no_calls = no_calls;
  legal = legal_of number (opening_of factory users) made.last history.events.items made.generates;
  made = made;
}
  where
    made : IsMadeFor number users history.events.items text
    made = subst (λ (l : List Happened). IsMadeFor number users l text) (sym events_are) is

-- what holds where a result is Ok
pub on_ok_if : {T E : Type 0} (r : Result T E) (P : Type 0) → (IsOk r → P) → OnOk r P
on_ok_if (Ok x) P holds = holds refl
on_ok_if (Err e) P holds = tt

-- a command that had its reply
pub replied_so : (command : Command) (reply wanted : Reply) (s s' : State) (events events' : List Happened) → reply ≡ wanted → IsDone command reply s s' events events'
    → IsDone command wanted s s' events events'
replied_so command reply wanted s s' events events' is done = subst (λ (r : Reply). IsDone command r s s' events events') is done

-- what was made over the factory commit
pub made_for : (number : ℕ) (users : List (List ℕ)) (before events : List Happened) (text : List ℕ) (start kept : Kept) (s last : State) → s ≡ opening_of start users → start ≡ factory
    → before ≡ [] → Generates number s last before events → kept ≡ last.kept → IsToldOf kept text → IsMadeFor number users events text
made_for number users before events text start kept s last begins is none generates same counted = record {
  last = last;
  generates = subst (λ (t : State). Generates number t last [] events) (begins ∙ ap (λ (k : Kept). opening_of k users) is)
      (subst (λ (l : List Happened). Generates number s last l events) none generates);
  counted = subst (λ (k : Kept). IsToldOf k text) same counted;
}

-- what is reported of a list whose active configuration is accepted
pub counted_by : (kept : Kept) (m : Statements) (full : Expansion) (text : List ℕ) (statements expanded bytes commits : ℕ) → m ≡ active_of kept → IsAccepted m full
    → length (printed m []) ≤ 1048576 → statements ≡ size_of m → expanded ≡ map.len full → bytes ≡ min (length (printed m [])) 18446744073709551615 → commits ≡ kept_commits kept
    → text ≡ gen_text statements expanded bytes commits → IsToldOf kept text
counted_by kept m full text statements expanded bytes commits is accepted short statements_are expanded_are bytes_are commits_are told = record {
  full = full;
  expansion = subst (λ (x : Statements). IsExpansion x full) is accepted.expansion;
  told = told ∙ ap (λ (n : ℕ). gen_text n expanded bytes commits) (statements_are ∙ ap size_of is) ∙ ap (λ (n : ℕ). gen_text (size_of (active_of kept)) n bytes commits) expanded_are
      ∙ ap (λ (n : ℕ). gen_text (size_of (active_of kept)) (map.len full) n commits) (whole ∙ ap (λ (x : Statements). length (printed x [])) is)
      ∙ ap (λ (n : ℕ). gen_text (size_of (active_of kept)) (map.len full) (length (printed (active_of kept) [])) n) commits_are;
}
  where
    whole : bytes ≡ length (printed m [])
    whole = omega (arith, bytes_are, short)
