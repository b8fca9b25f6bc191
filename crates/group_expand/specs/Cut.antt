-- What stands below a path, cut at a step right below it. For the inner functions.
use Rattle.std.specs.Prelude.{Bool, false, not, List, length, filter, Option, Some, None, slice_get}
use Rattle.std.specs.Ordering.{is_lt}
use Rattle.cfg_base.specs.Order.{step_cmp}
use Rattle.cfg_base.specs.declared.path.Step.{Step}
use Rattle.group_expand.specs.Row.{StatementView}

-- a step comes before another one
abbrev pub comes_before : Step → Step → Bool
comes_before bound step = is_lt (step_cmp step bound)

-- the same of a step that may not be there
abbrev pub is_earlier : Step → Option Step → Bool
is_earlier bound None = false
is_earlier bound (Some step) = comes_before bound step

-- a statement's step right below a path comes before another one
abbrev pub is_before : List Step → Step → StatementView → Bool
is_before above bound x = is_earlier bound (slice_get x.path (length above))

-- the statements at and below the steps before one, and those at and below that one and the steps after it
abbrev pub before_of : List Step → Step → List StatementView → List StatementView
before_of above bound xs = filter (is_before above bound) xs

abbrev pub from_of : List Step → Step → List StatementView → List StatementView
from_of above bound xs = filter (λ x. not (is_before above bound x)) xs
