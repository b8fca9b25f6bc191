-- Where the steps of a path stand: few in one block of memory, and more in one of their own.
-- How they are kept is this project's own.
use Rattle.std.specs.Prelude.{List, []}
use Rattle.cfg_base.specs.declared.path.Step.{Step}
use Rattle.cfg_base.specs.declared.path.Steps.{Steps}
use Rattle.cfg_base.specs.declared.path.Steps.TheVariants.{None, One, Two, Three, Four, Five, Six, More}

-- the steps that are kept
abbrev pub steps_of : Steps → List Step
steps_of None = []
steps_of (One steps) = steps.value
steps_of (Two steps) = steps.value
steps_of (Three steps) = steps.value
steps_of (Four steps) = steps.value
steps_of (Five steps) = steps.value
steps_of (Six steps) = steps.value
steps_of (More steps) = steps
