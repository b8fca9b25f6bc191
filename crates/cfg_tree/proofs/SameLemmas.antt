-- Two trees are the same exactly where their entries are.
use Rattle.std.proofs.Common.{eqb, eqb-true, ◌≡◌, ℕ, Bool, true, List, length, sym, ap, subst, ◌∙◌}
use Rattle.std.specs.FinMap as map
use Rattle.cfg_entries.specs.EntryMap.{EntryMap, IsOrdered, same_pair}
use Rattle.std.specs.Bool.{Decides}
use Rattle.std.specs.Cmp.Lexicographic.{pointwise, pointwise_decides}
use Rattle.std.proofs.lemmas.Bool.Decides.{Decides-and, Decides-like}
use Rattle.cfg_base.specs.Order.{path_cmp}
use Rattle.cfg_base.specs.declared.path.Step.{Step}
use Rattle.cfg_base.specs.declared.value.Value.{Value}
use Rattle.cfg_base.specs.contracts.value.ValuePartialEq.TheImpl as value
pub use Rattle.cfg_entries.proofs.SharingLemmas.{same_value}
use Rattle.cfg_tree.specs.Statements.{Statements}
use Rattle.cfg_tree.specs.Shown.{shown}
use Rattle.cfg_tree.proofs.MapLemmas.{same_path, entries_is}

same_entry : (p q : List Step × Value) → Decides (same_pair (value.ghosts).eq p q) (p ≡ q)
same_entry p q =
    Decides-like _
    (λ h i. (h.0 i, h.1 i))
    (λ e. (ap (λ (x : List Step × Value). x.0) e, ap (λ (x : List Step × Value). x.1) e))
    (Decides-and _ _ (same_path p.0 q.0) (same_value p.1 q.1))

-- the maps of two lists of entries in order are the same exactly where the lists are
entries_same : (a b : EntryMap (List Step) Value) → IsOrdered path_cmp a → IsOrdered path_cmp b → shown a ≡ shown b → a.entries ≡ b.entries
entries_same a b s t e = sym (entries_is a.entries s) ∙ ap (λ (m : Statements). map.entries m) e ∙ entries_is b.entries t

pub same_trees : (a b : EntryMap (List Step) Value) (m n : Statements) (r : Bool) → shown a ≡ m → shown b ≡ n
    → IsOrdered path_cmp a → IsOrdered path_cmp b
    → r ≡ pointwise (same_pair (value.ghosts).eq) a.entries b.entries
    → (r ≡ true → m ≡ n) × (m ≡ n → r ≡ true)
same_trees a b m n r va vb s t e =
    let decides = subst (λ (x : Bool). Decides x (a.entries ≡ b.entries)) (sym e) (pointwise_decides same_entry a.entries b.entries)
    in (
      λ h. sym va ∙ ap (λ (es : List (List Step × Value)). map.from_entries es) (decides.0 h) ∙ vb,
      λ h. decides.1 (entries_same a b s t (va ∙ h ∙ sym vb)),
    )

pub other_trees : (a b : EntryMap (List Step) Value) (m n : Statements) (i j : ℕ) → shown a ≡ m → shown b ≡ n
    → IsOrdered path_cmp a → IsOrdered path_cmp b → i ≡ length a.entries → j ≡ length b.entries → (i ≡ j → ⊥)
    → (eqb i j ≡ true → m ≡ n) × (m ≡ n → eqb i j ≡ true)
other_trees a b m n i j va vb s t ea eb differ = (
  λ h. absurd (differ (eqb-true i j h)),
  λ h. absurd (differ (ea ∙ ap (λ (es : List (List Step × Value)). length es) (entries_same a b s t (va ∙ h ∙ sym vb)) ∙ sym eb)),
)
