-- Lists of which each item is tested one after the other, and the statements of a map as its entries.
use Rattle.std.proofs.Common.{◌≡◌, Bool, true, false, cond, List, [], ◌∷◌, Some, refl, sym, ◌∙◌, subst}
use Rattle.std.specs.Bool.{Decides}
use Rattle.std.specs.FinMap as map
use Rattle.std.specs.FinMap.Entries.{find}
use Rattle.std.specs.List.{AllByRecursion}
use Rattle.std.specs.Ordering.{eq_by_cmp}
use Rattle.cfg_base.specs.Order.{path_cmp}
use Rattle.cfg_base.specs.declared.path.Step.{Step}
use Rattle.cfg_base.specs.declared.value.Value.{Value}
use Rattle.cfg_tree.specs.FirstProfile.{IsFirstProfile, IsFirstStatement}
use Rattle.cfg_tree.specs.Statements.{Statements}
use Rattle.cfg_tree.proofs.FoundLemmas.{found_all}
use Rattle.cfg_tree.proofs.MapLemmas.{same_path}

-- where an item doesn't pass, not each does
pub failed_at : {X : Type 0} (P : X → Type 0) (all left rest : List X) (x : X) (b : Bool) → Decides b (P x) → b ≡ false → left ≡ x ∷ rest
    → (AllByRecursion P left → AllByRecursion P all) × (AllByRecursion P all → AllByRecursion P left) → AllByRecursion P all → ⊥
failed_at P all left rest x b told failed is (there, back) each =
    let passed : b ≡ true = told.1 (subst (AllByRecursion P) is (back each)).0 in
    let both : true ≡ false = sym passed ∙ failed in cc

-- what passes of each entry passes of what a look-up finds
passed_at : (P : List Step × Value → Type 0) (es : List (List Step × Value)) (q : List Step) (v : Value) → AllByRecursion P es → find path_cmp q es ≡ Some v → P (q, v)
passed_at P [] q v each found = cc
passed_at P (e ∷ es) q v each found = by_test (eq_by_cmp path_cmp q e.0) refl (λ rest. passed_at P es q v each.1 rest) found
  where
    by_test : (b : Bool) → eq_by_cmp path_cmp q e.0 ≡ b → (find path_cmp q es ≡ Some v → P (q, v)) → cond b (Some e.1) (find path_cmp q es) ≡ Some v → P (q, v)
    by_test false apart more rest = more rest
    by_test true same more here =
        let key : e.0 ≡ q = sym ((same_path q e.0).0 same) in
        let value : e.1 ≡ v = cc in
        subst (λ (x : Value). P (q, x)) value (subst (λ (k : List Step). P (k, e.1)) key each.0)

abbrev pub is_first_entry : List Step × Value → Type 0
is_first_entry e = IsFirstStatement e.0 e.1

pub entries_first : (m : Statements) → AllByRecursion is_first_entry (map.entries m) → IsFirstProfile m
entries_first m each path value found = passed_at is_first_entry (map.entries m) path value each (sym (map.get-entries m path) ∙ found)

pub first_entries : (m : Statements) → IsFirstProfile m → AllByRecursion is_first_entry (map.entries m)
first_entries m first = each (map.entries m) (found_all m)
  where
    each : (es : List (List Step × Value)) → AllByRecursion (λ e. map.get m e.0 ≡ Some e.1) es → AllByRecursion is_first_entry es
    each [] found = tt
    each (e ∷ es) found = (first e.0 e.1 found.0, each es found.1)
