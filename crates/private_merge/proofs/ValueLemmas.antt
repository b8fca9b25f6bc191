-- What is merged of three values of one path.
use Rattle.std.proofs.Common.{◌≡◌, ◌⊎◌, inl, inr, Bool, refl, sym, ap, ◌∙◌, Option, Some, None}
use Rattle.std.specs.Bool.{Decides}
use Rattle.cfg_base.specs.declared.value.Value.{Value}
use Rattle.cfg_base.specs.contracts.value.ValuePartialEq.TheImpl as value_order
use Rattle.cfg_tree.proofs.SameLemmas.{same_value}
use Rattle.cfg_tree.proofs.ValuesLemmas.{value_or_not}
use Rattle.private_merge.specs.Merge.{IsMergedValue}

pub values_same : (a b : Option Value) (v w : Value) (r : Bool) → a ≡ Some v → b ≡ Some w → r ≡ (value_order.ghosts).eq v w → Decides r (a ≡ b)
values_same a b v w r f g e = (λ h. f ∙ ap Some ((same_value v w).0 (sym e ∙ h)) ∙ sym g, λ h. e ∙ (same_value v w).1 (same_some (sym f ∙ h ∙ g)))
  where
    same_some : Some v ≡ Some w → v ≡ w
    same_some h = cc

-- one value is merged
pub merged_once : (base active mine one other : Option Value) → IsMergedValue base active mine one → IsMergedValue base active mine other → one ≡ other
merged_once base active mine one other (inl x) (inl y) = x.1 ∙ sym y.1
merged_once base active mine one other (inl x) (inr y) = absurd (x.0 y.0)
merged_once base active mine one other (inr x) (inl y) = absurd (y.0 x.0)
merged_once base active mine one other (inr x) (inr y) = x.1 ∙ sym y.1

-- and there is one
pub record HasMerged (base active mine : Option Value) : Type 0 where
  pub value : Option Value
  pub is : IsMergedValue base active mine value

pub has_merged : (base active mine : Option Value) → HasMerged base active mine
has_merged base active mine =
    value_or_not mine base (HasMerged base active mine)
    (λ same. record { value = active; is = inr (same, refl) })
    (λ differs. record { value = mine; is = inl (differs, refl) })

-- what isn't gone is a value
pub record Stays (base active mine : Option Value) : Type 0 where
  pub value : Value
  pub is : IsMergedValue base active mine (Some value)

pub stays : (base active mine : Option Value) → ¬ (IsMergedValue base active mine None) → Stays base active mine
stays base active mine not_gone = let all = has_merged base active mine in by_value all.value all.is
  where
    by_value : (o : Option Value) → IsMergedValue base active mine o → Stays base active mine
    by_value None is = absurd (not_gone is)
    by_value (Some v) is = record { value = v; is = is }

-- a value that is merged is one of the two sides'
pub one_of_both : (base active mine merged : Option Value) → IsMergedValue base active mine merged → (merged ≡ mine) ⊎ (merged ≡ active)
one_of_both base active mine merged (inl x) = inl x.1
one_of_both base active mine merged (inr x) = inr x.1
