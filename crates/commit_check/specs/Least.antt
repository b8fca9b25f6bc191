-- The least path of a property, in the order of paths.
use Rattle.std.specs.Prelude.{◌≡◌, List}
use Rattle.std.specs.declared.cmp.Ordering.TheVariants.{Less}
use Rattle.cfg_base.specs.Order.{path_cmp}
use Rattle.cfg_base.specs.declared.path.Step.{Step}

-- a property that no path has
abbrev pub Nowhere : (List Step → Type 0) → Type 0
Nowhere P = (path : List Step) → ¬ (P path)

-- the least path that has a property
pub record IsLeast (P : List Step → Type 0) (path : List Step) : Type 0 where
  pub has : P path
  pub least : (other : List Step) → path_cmp other path ≡ Less → ¬ (P other)
