-- There is one expansion.
use Rattle.std.proofs.Common.{◌≡◌, true, List, [], ◌∷◌, refl, sym, ◌∙◌}
use Rattle.std.specs.FinMap as finite
use Rattle.cfg_base.specs.Order.{paths_total}
use Rattle.cfg_base.specs.declared.path.Step.{Step}
use Rattle.cfg_tree.specs.Full.{Expansion}
use Rattle.cfg_tree.proofs.MapLemmas.{path_same}
use Rattle.group_expand.specs.Live.{Look}
use Rattle.group_expand.specs.Expansion.{IsExpansionOf}
use Rattle.group_expand.proofs.AlikeLemmas.{expansions_same}

module _ (look : Look) (kids : List Step → List Step) (f g : Expansion) (one : IsExpansionOf look kids f) (other : IsExpansionOf look kids g) where
  same_at : (q : List Step) → finite.get f q ≡ finite.get g q
  same_at [] = one.top ∙ sym other.top
  same_at (s ∷ rest) =
      expansions_same look look kids kids (λ q h. refl) (λ t. true) (λ t r e. refl) refl refl refl (λ level w l e r. refl) f g one other s rest refl

  -- there is one expansion
  pub one_full : f ≡ g
  one_full = finite.same_map paths_total path_same f g same_at
