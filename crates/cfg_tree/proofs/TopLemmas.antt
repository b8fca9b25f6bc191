-- The top is a level.
use Rattle.std.proofs.Common.{◌≡◌, List, [], refl, sym, subst, Some, true}
use Rattle.cfg_base.specs.declared.path.Step.{Step}
use Rattle.cfg_schema.specs.declared.place.Place.{Place}
use Rattle.cfg_schema.specs.Profile.{profile, row_of, is_level}
use Rattle.cfg_schema.specs.Place.{top_place}
use Rattle.cfg_tree.specs.Typed.{IsLevelPath}

top_opens : is_level (row_of 0).shape ≡ true
unfolding profile
top_opens = refl

some_same : (p q : Place) → Some p ≡ Some q → p ≡ q
some_same p q e = cc

-- the top is a level that a typed map may have
pub top_is_level : (path : List Step) → path ≡ [] → IsLevelPath path
top_is_level path e = subst (λ (p : List Step). IsLevelPath p) (sym e) record {
  typed = tt;
  opens = λ here placed. subst (λ (p : Place). is_level (row_of p.row).shape ≡ true) (some_same top_place here placed) top_opens;
}
