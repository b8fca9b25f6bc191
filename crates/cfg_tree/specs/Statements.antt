-- Statements by their paths. What a path and a parent are is this project's own.
use Rattle.std.specs.Prelude.{ℕ, ◌<◌, ◌-◌, Bool, List, [], length, take, slice_index_or, IsSome, refl}
use Rattle.std.specs.FinMap as map
use Rattle.std.specs.Coded.{Coded, code_by, coded×, coded_ℕ, coded_bool, coded_list}
use Rattle.cfg_base.specs.Order.{path_cmp}
pub use Rattle.cfg_base.specs.Order.{is_below}
use Rattle.cfg_base.specs.declared.path.Step.{Step}
use Rattle.cfg_base.specs.declared.value.Value.{Value}

abbrev pub word_code : Coded (List ℕ)
word_code = coded_list coded_ℕ

-- a step is stored as the pair of its words
abbrev pub step_code : Coded Step
step_code =
    code_by (List ℕ × List ℕ) (coded× word_code word_code) (λ s. (s.head, s.name)) (λ p. record { head = p.0; name = p.1 }) (λ _. refl)

-- a value is stored as its marks, and its order and words
abbrev pub value_code : Coded Value
value_code =
    code_by
    ((Bool × Bool) × (List (List ℕ) × List (List ℕ)))
    (coded× (coded× coded_bool coded_bool) (coded× (coded_list word_code) (coded_list word_code)))
    (λ v. ((v.inactive, v.protected), (v.order, v.words)))
    (λ p. record { inactive = p.0.0; protected = p.0.1; order = p.1.0; words = p.1.1 })
    (λ _. refl)

-- a finite map from paths to values, in the order of paths
abbrev pub Statements : Type 0
Statements = map.FinMap path_cmp Value

abbrev pub statements_code : Coded Statements
statements_code = map.code (coded_list step_code) value_code

-- how many statements there are
abbrev pub size_of : Statements → ℕ
size_of m = map.len m

-- the path without its last step
abbrev pub parent_of : List Step → List Step
parent_of path = take (length path - 1) path

abbrev pub no_step : Step
no_step = record { head = []; name = [] }

-- the last step of a path
abbrev pub last_of : List Step → Step
last_of path = slice_index_or path (length path - 1) no_step

-- a path has steps, and its parent is the top or a path of the map
pub record HasParent (m : Statements) (path : List Step) : Type 0 where
  pub steps : 0 < length path
  pub parent : 1 < length path → IsSome (map.get m (parent_of path))
