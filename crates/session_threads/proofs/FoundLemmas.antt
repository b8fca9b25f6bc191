-- Rights that were found earlier are those of a reader's last view, where it has no more views since.
use Rattle.std.proofs.Common.{◌≡◌, ℕ, List, [], length, Option, None, Some, sym, ap, subst, ◌∙◌, arith}
use mathlib.Core.List.{IsPrefix}
use Rattle.access_rules.specs.Needs.{first_missing, needs_of}
use Rattle.access_rules.specs.Rights.{rights_of}
use Rattle.access_rules.specs.declared.right.Right.{Right}
use Rattle.active_snapshot.specs.Views.{IsLast}
use Rattle.active_snapshot.proofs.PrefixLemmas.{IsPrefix-whole}
use Rattle.cfg_tree.specs.Full.{Expansion}
use Rattle.cfg_tree.specs.Statements.{Statements}
use Rattle.commands.specs.declared.command.Command.{Command}
use Rattle.commit_ledger.specs.Kept.{Kept, active_of}
use Rattle.group_expand.specs.Expansion.{IsExpansion}
use Rattle.session_threads.specs.declared.found.FoundRights.{FoundRights}
use Rattle.session_threads.specs.Access.{Lacks}
use Rattle.session_threads.specs.Found.{GiveRights, KnowsRights, WereFound}
use Rattle.session_threads.specs.Naming.{IsPrefix-same, IsPrefix-then}
use Rattle.session_threads.proofs.ListLemmas.{some_is}

-- they stay what they are as the list grows
pub KnowsRights-later : (asks : Option (List ℕ)) (list later : List Kept) (found : Option FoundRights) → IsPrefix list later
    → KnowsRights asks list found → KnowsRights asks later found
KnowsRights-later asks list later None grows knows = tt
KnowsRights-later asks list later (Some found) grows knows = record {
  front = knows.front;
  view = knows.view;
  first = (IsPrefix-then knows.front list later knows.first.0 grows, knows.first.1);
  is_last = knows.is_last;
  gives = knows.gives;
}

module _ (list : List Kept) (view : Kept) (user : List ℕ) (found : FoundRights) (is_last : IsLast list view)
    (number : found.views ≡ length list) where
  -- rights that were looked up in the expansion of the last view
  pub WereFound-last : ((m : Statements) (full other : Expansion) → IsExpansion m full → IsExpansion m other → full ≡ other)
      → (full : Expansion) → IsExpansion (active_of view) full → found.rights ≡ rights_of full user → WereFound (Some user) list found
  WereFound-last one full expands is = record {
    front = list;
    view = view;
    first = (IsPrefix-same list, sym number);
    is_last = is_last;
    gives = λ other other_expands.
        ap (λ (f : Expansion). rights_of f user) (one (active_of view) other full other_expands expands) ∙ sym is;
  }

  -- what is missing among rights of as many views as there are is what the user lacks
  pub Lacks-found : (command : Command) (right : Option Right) → WereFound (Some user) list found
      → right ≡ first_missing found.rights (needs_of [] command) → Lacks view user [] command right
  Lacks-found command right were is = λ full expands.
      let same : were.front ≡ list = IsPrefix-whole were.front list were.first.0 (omega (arith, number, were.first.1)) in
      let same_view : were.view ≡ view = some_is (sym were.is_last ∙ subst (λ l. IsLast l view) (sym same) is_last) in
      let gives = subst (λ (v : Kept). GiveRights v found.rights user) same_view were.gives in
      ap (λ words. first_missing words (needs_of [] command)) (gives full expands) ∙ sym is
