-- Which paths an expansion has.
use Rattle.std.proofs.Common.{◌≡◌, ◌≢◌, ◌⊎◌, inl, inr, Bool, true, false, cond, List, [], ◌∷◌, refl, sym, ap, ◌∙◌, Option, Some, None, is_some, option_map}
use Rattle.std.specs.Prelude.{IsSome, ◌↔◌}
use Rattle.std.specs.FinMap as finite
use Rattle.cfg_base.specs.declared.path.Step.{Step}
use Rattle.cfg_tree.specs.declared.full.Given.{Given}
use Rattle.cfg_tree.specs.Statements.{Statements}
use Rattle.cfg_tree.specs.Children.{steps_below}
use Rattle.cfg_tree.specs.Full.{Expansion}
use Rattle.group_expand.specs.Live.{Look, words_of}
use Rattle.group_expand.specs.Sources.{Source, sources}
use Rattle.group_expand.specs.Expansion.{Gift, is_own, gift_of, gift_at, first_gift, IsExpansion}

pub some_gift : (o : Option Given) → is_some (option_map gift_of o) ≡ is_some o
some_gift None = refl
some_gift (Some g) = refl

first_some : (look : Look) (xs : List Source) → IsSome (first_gift look xs) → xs ≢ []
first_some look [] h = λ e. cc
first_some look (x ∷ xs) h = λ e. cc

some_first : (look : Look) (xs : List Source) → xs ≢ [] → IsSome (first_gift look xs)
some_first look [] h = absurd (h refl)
some_first look (x ∷ xs) h = refl

gift_told : (look : Look) (own : Bool) (words : Gift) (xs : List Source)
    → IsSome (cond own (Some words) (first_gift look xs)) ↔ ((own ≡ true) ⊎ (xs ≢ []))
gift_told look true words xs = (λ h. inl refl, λ h. refl)
gift_told look false words xs = (λ h. inr (first_some look xs h), λ h. elim h [ inl e ↦ absurd (clash e) | inr k ↦ some_first look xs k ])
  where
    clash : false ≡ true → ⊥
    clash e = cc

-- a path is in the expansion where it is local or has a source
pub local_or_given : (m : Statements) (full : Expansion) (path : List Step) → IsExpansion m full → path ≢ []
    → IsSome (finite.get full path) ↔ ((is_own (finite.get m) path ≡ true) ⊎ (sources (finite.get m) (steps_below m) path ≢ []))
local_or_given m full path h some =
    let same : is_some (finite.get full path) ≡ is_some (gift_at (finite.get m) (steps_below m) path) = sym (some_gift (finite.get full path)) ∙ ap is_some (h.gifts path some)
    in let told = gift_told (finite.get m) (is_own (finite.get m) path) (record { words = words_of (finite.get m path); group = [] }) (sources (finite.get m) (steps_below m) path)
    in (λ there. told.0 (sym same ∙ there), λ why. same ∙ told.1 why)
