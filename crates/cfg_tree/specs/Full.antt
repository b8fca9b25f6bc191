-- An expansion: what stands at each path once groups are applied, and from whom. Junos OS CLI User Guide, on displaying inherited
-- configuration. That an empty group means a statement of the configuration itself is this project's own.
use Rattle.std.specs.Prelude.{ℕ, List, [], ◌≤◌, refl}
use Rattle.std.specs.FinMap as map
use Rattle.std.specs.Coded.{Coded, code_by, coded×, coded_list}
use Rattle.cfg_base.specs.Order.{path_cmp}
use Rattle.cfg_base.specs.declared.value.Value.{Value}
use Rattle.cfg_tree.specs.declared.full.Given.{Given}
use Rattle.cfg_tree.specs.declared.limit.TheConstants.{MAX_EXPANDED}
use Rattle.cfg_tree.specs.Statements.{word_code, step_code}

-- a finite map from paths to what is given there, in the order of paths
abbrev pub Expansion : Type 0
Expansion = map.FinMap path_cmp Given

-- what is given is stored as its words, its order and its group
abbrev pub given_code : Coded Given
given_code =
    code_by
    (List (List ℕ) × (List (List ℕ) × List ℕ))
    (coded× (coded_list word_code) (coded× (coded_list word_code) word_code))
    (λ g. (g.words, (g.order, g.group)))
    (λ p. record { words = p.0; order = p.1.0; group = p.1.1 })
    (λ _. refl)

abbrev pub expansion_code : Coded Expansion
expansion_code = map.code (coded_list step_code) given_code

-- what is given at the path of a statement of the configuration's own
abbrev pub own_given : Value → Given
own_given value = record { words = value.words; order = value.order; group = [] }

-- an expansion has so many paths at most
abbrev pub IsWithin : Expansion → Type 0
IsWithin full = map.len full ≤ MAX_EXPANDED
