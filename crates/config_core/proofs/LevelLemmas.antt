-- Levels above a level, and the top.
use Rattle.std.proofs.Common.{◌≡◌, ◌↔◌, ℕ, zero, suc, ◌-◌, ◌<◌, ◌≤◌, ◌⊎◌, ⊎_elim, List, [], ◌∷◌, length, take, true, refl, sym, ap, subst, ◌∙◌, arith}
use Rattle.std.proofs.lemmas.List.{take_all, length-take-le}
use Rattle.std.proofs.lemmas.List.Elements.{All-nil}
use Rattle.std.specs.List.{All}
use Rattle.cfg_base.specs.declared.path.Step.{Step}
use Rattle.cfg_schema.specs.Place.{top_place}
use Rattle.cfg_tree.specs.Typed.{IsTypedPath, IsLevelPath}
use Rattle.cfg_tree.proofs.FollowLemmas.{parent_is_level, typed_front, typed_place}
use Rattle.cfg_tree.proofs.TopLemmas.{top_is_level}
use Rattle.config_core.specs.Levels.{AreLevels, is_level_at, is_level_place}

take_shorter : (path : List Step) (n : ℕ) → take n (take (suc n) path) ≡ take n path
take_shorter [] zero = refl
take_shorter [] (suc n) = refl
take_shorter (step ∷ path) zero = refl
take_shorter (step ∷ path) (suc n) = ap (λ (p : List Step). step ∷ p) (take_shorter path n)

one_less : (k n : ℕ) → k ≡ suc n → k - 1 ≡ n
one_less k n e = omega (arith, e)

or_all : (n m : ℕ) → (n < m) ⊎ (m ≤ n)
or_all n m = search arith

-- the first steps of a level are a level
pub level_front : (path : List Step) (n : ℕ) → IsLevelPath path → IsLevelPath (take n path)
level_front path n level =
    ⊎_elim
    (λ shorter.
    let long : length (take (suc n) path) ≡ suc n = length-take-le (suc n) path shorter
    in subst (λ (p : List Step). IsLevelPath p)
    (ap (λ (k : ℕ). take k (take (suc n) path)) (one_less _ n long) ∙ take_shorter path n)
    (parent_is_level (take (suc n) path) (omega (arith, long)) (typed_front path (suc n) level.typed)))
    (λ whole. subst (λ (p : List Step). IsLevelPath p) (sym (take_all n path whole)) level)
    (or_all n (length path))

-- a level with none remembered
pub alone : (level : List Step) (remembered : List (List Step)) → IsLevelPath level → remembered ≡ [] → AreLevels (record { level = level; remembered = remembered })
alone level remembered is_level none =
    record { here = is_level; before = subst (λ (levels : List (List Step)). All IsLevelPath levels) (sym none) (All-nil IsLevelPath) }

pub top_alone : (level : List Step) (remembered : List (List Step)) → level ≡ [] → remembered ≡ [] → AreLevels (record { level = level; remembered = remembered })
top_alone level remembered e none = alone level remembered (top_is_level level e) none

-- of a path that follows rows it is stated whether it is a level
pub level_told : (path : List Step) → IsTypedPath path → (is_level_at path ≡ true) ↔ IsLevelPath path
level_told path typed =
    let there = typed_place path top_place typed in (
      λ is. record { typed = typed; opens = λ here led. subst (λ place. is_level_place place ≡ true) led is },
      λ level. subst (λ place. is_level_place place ≡ true) (sym there.1) (level.opens there.0 there.1),
    )
