-- The row that a statement's own first words begin is its own.
use Rattle.std.proofs.Common.{◌≡◌, ℕ, Bool, true, List, [], refl, ap, sym, subst, inl, inr}
use Rattle.cfg_base.specs.declared.kind.Shape.{Shape}
use Rattle.cfg_base.specs.declared.kind.Shape.TheVariants.{Fixed, Bare}
use Rattle.cfg_base.specs.declared.path.Step.{Step}
use Rattle.cfg_schema.specs.declared.answer.Child.{Child}
use Rattle.cfg_schema.specs.declared.answer.Child.TheVariants.{Row, BadName, Unknown}
use Rattle.cfg_schema.specs.Profile.{row_of, head_of, name_of, level_of, StandsBelow}
use Rattle.cfg_schema.specs.Child.{child_of, HasHead, IsNoHead, Begins}
use Rattle.cfg_schema.specs.Place.{has_words, HasWords}
use Rattle.cfg_schema.proofs.TestLemmas.{both_true, fixed}
use Rattle.cfg_schema.proofs.ChildLemmas.{child_begins}
use Rattle.cfg_schema.proofs.LevelLemmas.{StartsWith, starts_once, fits_once}

-- a step without a head
abbrev headless : Step
headless = record { head = []; name = [] }

headless_words : (id : ℕ) → (row_of id).shape ≡ Bare → HasWords id headless
headless_words id e = subst (λ (s : Shape). has_words s (head_of id) (name_of id) headless ≡ true) (sym e) refl

module _ (parent : ℕ) (in_group : Bool) (word next : List ℕ) (id : ℕ) where
  start : (other : ℕ) → HasHead parent in_group word other → ((row_of other).shape ≡ Fixed → name_of other ≡ next)
      → StartsWith (level_of parent in_group) word next other
  start other head name = record {
    within = head.0.0;
    stood = head.0.1;
    head = head.2;
    name = λ e. name (fixed _ e);
  }

  -- a head begins its own row, where a Fixed row's name follows
  pub head_begins_row : HasHead parent in_group word id → ((row_of id).shape ≡ Fixed → name_of id ≡ next)
      → child_of parent in_group word next ≡ Row id
  head_begins_row head name = by_child _ (child_begins parent in_group word next)
    where
      by_child : (c : Child) → Begins parent in_group word next c → c ≡ Row id
      by_child (Row other) (inl b) =
          ap (λ (n : ℕ). Row n) (starts_once (level_of parent in_group) word next other id (start other b.0 b.1) (start id head name))
      by_child (Row other) (inr b) = absurd (b.0 id head)
      by_child (BadName other) b = let fails = b.1 id head in absurd (fails.2 (name fails.1))
      by_child Unknown b = absurd (b.0 id head)

  -- a word that is no head begins the bare row of the level
  pub name_begins_row : IsNoHead parent in_group word → StandsBelow parent in_group id → (row_of id).shape ≡ Bare
      → child_of parent in_group word next ≡ Row id
  name_begins_row none stood bare = by_child _ (child_begins parent in_group word next)
    where
      by_child : (c : Child) → Begins parent in_group word next c → c ≡ Row id
      by_child (Row other) (inl b) = absurd (none other b.0)
      by_child (Row other) (inr b) =
          ap (λ (n : ℕ). Row n)
          (fits_once (level_of parent in_group) headless other id b.1.0 stood.0
          (both_true _ _ b.1.1 (headless_words other b.2)) (both_true _ _ stood.1 (headless_words id bare)))
      by_child (BadName other) b = absurd (none other b.0)
      by_child Unknown b = absurd (b.1 id stood bare)
