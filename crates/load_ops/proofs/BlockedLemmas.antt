-- The first protected statement that keeps a load is the least.
use Rattle.std.proofs.Common.{◌≡◌, Bool, T, true, false, ◌&&◌, List, [], ◌∷◌, ◌++◌, sym, ap, subst, ◌∙◌, Some, append-nil}
use Rattle.std.proofs.lemmas.List.{append_assoc}
use Rattle.std.specs.List.{AllByRecursion}
use Rattle.std.specs.Bool.{Decides}
use Rattle.std.specs.FinMap as map
use Rattle.std.specs.FinMap.Entries.{find, is_sorted}
use Rattle.cfg_base.specs.Order.{path_cmp}
use Rattle.cfg_base.specs.declared.path.Step.{Step}
use Rattle.cfg_base.specs.declared.value.Value.{Value}
use Rattle.cfg_entries.specs.EntryMap.{Pair}
use Rattle.cfg_entries.proofs.RowLemmas.{all_join}
use Rattle.cfg_tree.specs.Statements.{Statements}
use Rattle.edit_ops.specs.Block.{DiffersBelow, Blocks, IsFree, IsBlockedBy}
use Rattle.load_ops.specs.Texts.{spares_none}
use Rattle.load_ops.proofs.OrderLemmas.{found_all, middle_found, not_before}

-- the statements that a walk has passed keep nothing
pub record Passed (m n : Statements) (left : List (Pair Value)) : Type 0 where
  pub seen : List (Pair Value)
  pub all : map.entries m ≡ seen ++ left
  pub free : AllByRecursion (λ e. Blocks m n spares_none e.0 → ⊥) seen

pub passed_none : (m n : Statements) (left : List (Pair Value)) → left ≡ map.entries m → Passed m n left
passed_none m n left e = record { seen = []; all = sym e; free = tt }

same_some : (v w : Value) → Some v ≡ Some w → v ≡ w
same_some v w e = cc

neither : (a b : Bool) → (a && b) ≡ false → a ≡ true → b ≡ true → ⊥
neither a b h e f = cc

module _ (m n : Statements) (left rest : List (Pair Value)) (path : List Step) (value : Value) (passed : Passed m n left) (next : left ≡ (path, value) ∷ rest) where
  entries : map.entries m ≡ passed.seen ++ (path, value) ∷ rest
  entries = passed.all ∙ ap (λ (xs : List (Pair Value)). passed.seen ++ xs) next

  sorted : T (is_sorted path_cmp (passed.seen ++ (path, value) ∷ rest))
  sorted = subst (λ (xs : List (Pair Value)). T (is_sorted path_cmp xs)) entries (map.entries_sorted m)

  found : map.get m path ≡ Some value
  found =
      map.get-entries m path
      ∙ ap (λ (xs : List (Pair Value)). find path_cmp path xs) entries
      ∙ middle_found passed.seen (path, value) rest sorted

  blocks : value.protected ≡ true → DiffersBelow m n path → Blocks m n spares_none path
  blocks mark differs = record {
    is_protected = record { value = value; found = found; mark = mark };
    not_spared = λ never. never;
    differs = differs;
  }

  pub first_blocks : value.protected ≡ true → DiffersBelow m n path → IsBlockedBy m n spares_none path
  first_blocks mark differs = record {
    blocks = blocks mark differs;
    least = λ other kept.
        not_before (Blocks m n spares_none) other kept.is_protected.value passed.seen (path, value) rest sorted
        (ap (λ (xs : List (Pair Value)). find path_cmp other xs) (sym entries) ∙ sym (map.get-entries m other) ∙ kept.is_protected.found)
        passed.free kept;
  }

  pub passed_more : (Blocks m n spares_none path → ⊥) → Passed m n rest
  passed_more no_block = record {
    seen = passed.seen ++ (path, value) ∷ [];
    all = entries ∙ sym (append_assoc passed.seen ((path, value) ∷ []) rest);
    free = all_join _ passed.seen ((path, value) ∷ []) passed.free (no_block, tt);
  }

  -- a statement that isn't protected keeps nothing
  pub unmarked : value.protected ≡ false → Blocks m n spares_none path → ⊥
  unmarked h kept =
      let mark = ap (λ (v : Value). v.protected) (same_some value kept.is_protected.value (sym found ∙ kept.is_protected.found)) ∙ kept.is_protected.mark in cc

  -- nor does one at which and below which nothing changes
  pub unchanged : (b : Bool) → Decides b (DiffersBelow m n path) → b ≡ false → Blocks m n spares_none path → ⊥
  unchanged b decides h kept = let yes = decides.1 kept.differs in cc

pub passed_all : (m n : Statements) (left : List (Pair Value)) → Passed m n left → left ≡ [] → IsFree m n spares_none
passed_all m n left passed none path kept =
    found_all (λ q. Blocks m n spares_none q → ⊥) path kept.is_protected.value passed.seen
    (ap (λ (xs : List (Pair Value)). find path_cmp path xs)
    (sym (append-nil passed.seen) ∙ ap (λ (xs : List (Pair Value)). passed.seen ++ xs) (sym none) ∙ sym passed.all)
    ∙ sym (map.get-entries m path) ∙ kept.is_protected.found)
    passed.free kept
