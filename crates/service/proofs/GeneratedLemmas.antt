-- Of so many interfaces one text is reported.
use Rattle.std.proofs.Common.{◌≡◌, length, ℕ, List, [], refl, sym, subst, ap, ◌∙◌}
use Rattle.std.specs.FinMap as map
use Rattle.commands.specs.declared.command.Command.{Command}
use Rattle.cfg_tree.specs.Full.{Expansion}
use Rattle.cfg_tree.specs.Statements.{Statements, size_of}
use Rattle.commit_ledger.specs.Kept.{Kept, active_of, factory, kept_commits}
use Rattle.config_core.specs.State.{State, opening_of}
use Rattle.config_core.specs.declared.reply.Reply.{Reply}
use Rattle.curly_print.specs.Printed.{printed}
use Rattle.group_expand.specs.Expansion.{IsExpansion}
use Rattle.modes.specs.Texts.{gen_text}
use Rattle.session_history.specs.declared.history.Happened.{Happened}
use Rattle.session_history.specs.declared.history.History.{History}
use Rattle.session_history.specs.Events.{Leads}
use Rattle.service.specs.Generating.{Generates, IsToldOf, IsDone, IsGenerated, IsMadeFor}
use Rattle.service.proofs.GeneratingLemmas.{leads_on}

-- one state, and one list of events
record Same (s t : State) (one other : List Happened) : Type 0 where
  state : s ≡ t
  events : one ≡ other

module _ (from : State) (one_state : (events : List Happened) (s t : State) → Leads from events s → Leads from events t → s ≡ t) where
  -- a command that was done leaves one state
  done_once : (command : Command) (reply : Reply) (s t s' t' : State) (es fs es' fs' : List Happened) → Leads from es s → Same s t es fs
      → IsDone command reply s s' es es' → IsDone command reply t t' fs fs' → Same s' t' es' fs'
  done_once command reply s t s' t' es fs es' fs' leads same first second =
      let again : IsDone command reply s t' es fs' =
      subst (λ x. IsDone command reply x t' es fs') (sym same.state) (subst (λ l. IsDone command reply t t' l fs') (sym same.events) second) in
      let grown : es' ≡ fs' = first.grown ∙ sym again.grown in
      record {
        state = one_state fs' s' t' (subst (λ l. Leads from l s') grown (leads_on _ _ _ _ from s s' es es' leads first)) (leads_on _ _ _ _ from s t' es fs' leads again);
        events = grown;
      }

  -- so do all three
  generates_once : (number : ℕ) (s' t' : State) (es fs : List Happened) → Generates number from s' [] es → Generates number from t' [] fs → s' ≡ t'
  generates_once number s' t' es fs g h =
      let begun : Leads from [] from = refl in
      let editing = leads_on _ _ _ _ from from g.editing [] g.one begun g.entered in
      let loading = leads_on _ _ _ _ from g.editing g.loading g.one g.two editing g.loaded in
      let one = done_once _ _ from from g.editing h.editing [] [] g.one h.one begun (record { state = refl; events = refl }) g.entered h.entered in
      let two = done_once _ _ g.editing h.editing g.loading h.loading g.one h.one g.two h.two editing one g.loaded h.loaded in
      (done_once _ _ g.loading h.loading s' t' g.two h.two es fs loading two g.committed h.committed).state

-- and what is reported of a list is one text
counted_once : ((m : Statements) (full other : Expansion) → IsExpansion m full → IsExpansion m other → full ≡ other)
    → (kept : Kept) (text other : List ℕ) → IsToldOf kept text → IsToldOf kept other → text ≡ other
counted_once one_full kept text other c d =
    c.told ∙ ap (λ full. gen_text (size_of (active_of kept)) (map.len full) (length (printed (active_of kept) [])) (kept_commits kept)) (one_full (active_of kept) c.full d.full c.expansion d.expansion) ∙ sym d.told

pub generated_once : ((events : List Happened) (users : List (List ℕ)) (s t : State) → Leads (opening_of factory users) events s → Leads (opening_of factory users) events t → s ≡ t)
    → ((m : Statements) (full other : Expansion) → IsExpansion m full → IsExpansion m other → full ≡ other)
    → (number : ℕ) (users : List (List ℕ)) (one other : History) (text text2 : List ℕ) → IsGenerated number users one text → IsGenerated number users other text2 → text ≡ text2
generated_once one_state one_full number users one other text text2 g h =
    let same : g.made.last ≡ h.made.last =
    generates_once (opening_of factory users) (λ events. one_state events users) number g.made.last h.made.last one.events.items other.events.items g.made.generates h.made.generates in
    counted_once one_full h.made.last.kept text text2 (subst (λ s. IsToldOf s.kept text) same g.made.counted) h.made.counted
