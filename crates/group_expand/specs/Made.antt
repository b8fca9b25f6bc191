-- The expansion as it is made: what the code puts at a path. For the inner functions.
use Rattle.std.specs.Prelude.{ℕ, not, ◌&&◌, List, [], ◌∷◌, ◌++◌, map, filter, is_some, Option, Some, None}
use Rattle.std.specs.FinMap as finite
use Rattle.std.specs.Option.{option_map}
use Rattle.cfg_base.specs.declared.path.Step.{Step}
use Rattle.cfg_base.specs.declared.path.TheConstants.{MAX_STEPS}
use Rattle.cfg_schema.specs.Profile.{same_word}
use Rattle.cfg_schema.specs.Place.{place_of}
use Rattle.cfg_tree.specs.Tree.{ordered_head, step_of}
use Rattle.cfg_tree.specs.declared.full.Given.{Given}
use Rattle.cfg_tree.specs.Full.{Expansion}
use Rattle.cfg_tree.specs.Children.{order_in}
use Rattle.group_expand.specs.Live.{Look, is_live}
use Rattle.group_expand.specs.Expansion.{Gift, is_own, gift_at}
use Rattle.group_expand.specs.Front.{steps_at}
use Rattle.group_expand.specs.Listed.{listed}

-- what a path has, with the order of its level
abbrev pub with_order : List (List ℕ) → Gift → Given
with_order order gift = record { words = gift.words; order = order; group = gift.group }

module _ (look : Look) (kids : List Step → List Step) where
  -- the steps of the children that are in the expansion
  abbrev pub present : List Step → List Step
  present path = filter (λ s. is_some (gift_at look kids (path ++ s ∷ []))) (steps_at look kids path)

  -- the order of a level
  abbrev pub order_of : List Step → Option (List ℕ) → List (List ℕ)
  order_of path None = []
  order_of path (Some head) =
      filter (λ name. is_live look (path ++ step_of head name ∷ [])) (order_in (look path))
      ++ map (λ s. s.name) (filter (λ s. same_word head s.head && not (is_own look (path ++ s ∷ []))) (present path))

  -- what is given at a path
  unfoldable pub given_at : List Step → Option Given
  given_at path = option_map (with_order (order_of path (ordered_head (place_of path)))) (gift_at look kids path)

  -- all that is made, in order, and as a map
  abbrev pub made : List (List Step × Given)
  made = listed given_at (steps_at look kids) MAX_STEPS []

  abbrev pub expansion_made : Expansion
  expansion_made = finite.from_entries made
