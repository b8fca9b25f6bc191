-- Statements of a kind that have the key of another one: addresses of interfaces, and the numbers of VLANs. That no two of them
-- may is this project's own. Bytes by number: / is 47.
use Rattle.std.specs.Prelude.{◌≡◌, ◌==◌, ℕ, Bool, true, List, [], ◌∷◌, Option, Some, None, IsSome, if◌then◌else◌, slice_index_or}
use Rattle.std.specs.FinMap as map
use Rattle.std.specs.List.{before_first}
use Rattle.std.specs.declared.cmp.Ordering.TheVariants.{Less}
use Rattle.cfg_base.specs.Order.{path_cmp}
use Rattle.cfg_base.specs.Words.{lists}
use Rattle.cfg_base.specs.declared.path.Step.{Step}
use Rattle.cfg_tree.specs.Statements.{last_of}
use Rattle.cfg_tree.specs.Full.{Expansion}
use Rattle.cfg_tree.specs.declared.full.Given.{Given}
use Rattle.commit_check.specs.declared.rule.KeyRule.{KeyRule}
use Rattle.commit_check.specs.declared.rule.KeyRule.TheVariants.{Addresses, Addresses6, VlanIds}
use Rattle.commit_check.specs.Kinds.{begin_as}

-- `interfaces NAME unit N family inet address PREFIX`, the same of `inet6`, and `vlans NAME vlan-id`
abbrev pub has_key : KeyRule → List Step → Bool
has_key Addresses path = begin_as (30 ∷ 31 ∷ 36 ∷ 40 ∷ 42 ∷ []) path
has_key Addresses6 path = begin_as (30 ∷ 31 ∷ 36 ∷ 93 ∷ 95 ∷ []) path
has_key VlanIds path = begin_as (115 ∷ 116 ∷ 118 ∷ []) path

-- the four numbers or the eight groups of a prefix, as they are kept: what stands before the slash
abbrev pub numbers_in : List ℕ → List ℕ
numbers_in prefix = before_first (λ b. b == 47) prefix

-- of an address its numbers or groups, and of a VLAN's number its word
abbrev pub key_with : KeyRule → List Step → List (List ℕ) → List ℕ
key_with Addresses path words = numbers_in (last_of path).name
key_with Addresses6 path words = numbers_in (last_of path).name
key_with VlanIds path words = slice_index_or words 0 []

abbrev pub words_in : Option Given → List (List ℕ)
words_in None = []
words_in (Some given) = given.words

abbrev pub key_of : KeyRule → Expansion → List Step → List ℕ
key_of rule full path = key_with rule path (words_in (map.get full path))

-- a statement of the expansion whose key one at an earlier path has too
pub record Repeats (rule : KeyRule) (full : Expansion) (path : List Step) : Type 0 where
  pub there : IsSome (map.get full path)
  pub keyed : has_key rule path ≡ true
  pub other : List Step
  pub other_there : IsSome (map.get full other)
  pub other_keyed : has_key rule other ≡ true
  pub same : key_of rule full other ≡ key_of rule full path
  pub earlier : path_cmp other path ≡ Less

-- For the inner functions: the first of these paths whose key is among those that were met, here or before.
abbrev pub first_repeat : KeyRule → List (List ℕ) → List (List Step × Given) → Option (List Step)
first_repeat rule met [] = None
first_repeat rule met (e ∷ es) =
    (if has_key rule e.0 then (if lists met (key_with rule e.0 e.1.words) then Some e.0 else first_repeat rule (key_with rule e.0 e.1.words ∷ met) es)
    else first_repeat rule met es)
