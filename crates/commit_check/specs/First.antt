-- The first entry that a test takes, and where the statements of a rule stand. For the inner functions.
use Rattle.std.specs.Prelude.{ℕ, Bool, false, not, List, [], ◌∷◌, Option, Some, None, if◌then◌else◌}
use Rattle.cfg_base.specs.declared.path.Step.{Step}
use Rattle.cfg_schema.specs.Profile.{same_word, head_of}
use Rattle.commit_check.specs.declared.rule.KeyRule.{KeyRule}
use Rattle.commit_check.specs.declared.rule.KeyRule.TheVariants.{Addresses, Addresses6, VlanIds}
use Rattle.commit_check.specs.declared.rule.StatementRule.{StatementRule}
use Rattle.commit_check.specs.declared.rule.StatementRule.TheVariants.{UserClass, KnownClass, VlanTagging, PeerAs, Policies, PrefixLists, OneWay, Units, Network, Filters, FilterEnds}

-- the path of the first entry that a test takes
abbrev pub first_of : {X : Type 0} → (List Step × X → Bool) → List (List Step × X) → Option (List Step)
first_of test [] = None
first_of test (e ∷ es) = (if test e then Some e.0 else first_of test es)

-- the row at the top below which all statements stand that can break a rule
abbrev pub top_row : StatementRule → ℕ
top_row UserClass = 6
top_row KnownClass = 6
top_row VlanTagging = 30
top_row PeerAs = 51
top_row Policies = 51
top_row PrefixLists = 73
top_row OneWay = 43
top_row Units = 51
top_row Network = 43
top_row Filters = 30
top_row FilterEnds = 99

-- the row at the top below which all statements stand that have a key of a rule
abbrev pub key_row : KeyRule → ℕ
key_row Addresses = 30
key_row Addresses6 = 30
key_row VlanIds = 115

-- a path's first step has this head, or that of this row
abbrev pub is_headed : List ℕ → List Step → Bool
is_headed head [] = false
is_headed head (step ∷ steps) = same_word head step.head

abbrev pub is_under : ℕ → List Step → Bool
is_under row path = is_headed (head_of row) path

-- a path at the top has another head than this: no statement after it is below that head
abbrev pub has_left : List ℕ → List Step → Bool
has_left head [] = false
has_left head (step ∷ []) = not (same_word head step.head)
has_left head (step ∷ next ∷ steps) = false
