-- The rules of commit check: their numbers, and at which paths each of them fails. Junos OS CLI User Guide, on commit check; which rules there are,
-- and their numbers, is this project's own.
use Rattle.std.specs.Prelude.{◌≡◌, ℕ, ◌<◌, Bool, true, List, [], length, Some}
use Rattle.std.specs.FinMap as map
use Rattle.cfg_base.specs.declared.path.Step.{Step}
use Rattle.cfg_tree.specs.Statements.{Statements}
use Rattle.cfg_tree.specs.Full.{Expansion}
use Rattle.cfg_tree.specs.declared.full.Given.{Given}
use Rattle.cfg_tree.specs.declared.limit.TheConstants.{MAX_EXPANDED}
use Rattle.curly_print.specs.Printed.{printed}
use Rattle.commit_check.specs.declared.rule.CommitRule.{CommitRule}
use Rattle.commit_check.specs.declared.rule.CommitRule.TheVariants.{Width, Groups, Each, Apart, TextLength}
use Rattle.commit_check.specs.declared.rule.StatementRule.{StatementRule}
use Rattle.commit_check.specs.declared.rule.StatementRule.TheVariants.{UserClass, KnownClass, VlanTagging, PeerAs, Policies, PrefixLists, OneWay, Units, Network, Filters, FilterEnds}
use Rattle.commit_check.specs.declared.rule.KeyRule.{KeyRule}
use Rattle.commit_check.specs.declared.rule.KeyRule.TheVariants.{Addresses, Addresses6, VlanIds}
use Rattle.commit_check.specs.declared.rule.TheConstants.{MAX_TEXT}
use Rattle.commit_check.specs.Groups.{names_no_group}
use Rattle.commit_check.specs.Units.{names_no_unit}
use Rattle.commit_check.specs.Network.{has_stray_bits}
use Rattle.commit_check.specs.Repeats.{Repeats}
use Rattle.commit_check.specs.Tests.{lacks_class, names_no_class, lacks_tagging, lacks_peer_as, names_no_policy, names_no_list, lacks_one_way, names_no_filter, ends_twice}

-- a rule's number
abbrev pub number_of_each : StatementRule → ℕ
number_of_each UserClass = 2
number_of_each KnownClass = 3
number_of_each VlanTagging = 4
number_of_each PeerAs = 6
number_of_each Policies = 7
number_of_each PrefixLists = 8
number_of_each OneWay = 9
number_of_each Units = 10
number_of_each Network = 11
number_of_each Filters = 14
number_of_each FilterEnds = 15

abbrev pub number_of_key : KeyRule → ℕ
number_of_key Addresses = 5
number_of_key Addresses6 = 13
number_of_key VlanIds = 16

abbrev pub number_of : CommitRule → ℕ
number_of Width = 0
number_of Groups = 1
number_of (Each rule) = number_of_each rule
number_of (Apart rule) = number_of_key rule
number_of TextLength = 12

-- a statement, by its path and its words, breaks a rule
abbrev pub breaks : StatementRule → Expansion → List Step → List (List ℕ) → Bool
breaks UserClass full path words = lacks_class full path
breaks KnownClass full path words = names_no_class full path words
breaks VlanTagging full path words = lacks_tagging full path
breaks PeerAs full path words = lacks_peer_as full path
breaks Policies full path words = names_no_policy full path words
breaks PrefixLists full path words = names_no_list full path
breaks OneWay full path words = lacks_one_way full path
breaks Units full path words = names_no_unit full path
breaks Network full path words = has_stray_bits path
breaks Filters full path words = names_no_filter full path words
breaks FilterEnds full path words = ends_twice full path

-- a statement of the expansion that breaks a rule stands at a path
pub record BreaksAt (rule : StatementRule) (full : Expansion) (path : List Step) : Type 0 where
  pub given : Given
  pub there : map.get full path ≡ Some given
  pub told : breaks rule full path given.words ≡ true

-- what is asked of the whole configuration fails at the top
pub record AtTop (P : Type 0) (path : List Step) : Type 0 where
  pub top : path ≡ []
  pub fails : P

-- a rule doesn't hold at a path, for a configuration and its expansion
abbrev pub Fails : CommitRule → Statements → Expansion → List Step → Type 0
Fails Width m full path = AtTop (MAX_EXPANDED < map.len full) path
Fails Groups m full path = names_no_group m path ≡ true
Fails (Each rule) m full path = BreaksAt rule full path
Fails (Apart rule) m full path = Repeats rule full path
Fails TextLength m full path = AtTop (MAX_TEXT < length (printed m [])) path
