-- The statements of a rule are below the rule's row at the top, and steps that are of rows are as many.
use Rattle.std.proofs.Common.{◌≡◌, ◌<◌, ℕ, Bool, true, false, not, ◌&&◌, ◌||◌, List, [], ◌∷◌, length, map as each, filter, refl, arith, ap, sym, subst, ◌∙◌, Option, None}
use Rattle.std.specs.FinMap as map
use Rattle.std.specs.List.{list_any}
use Rattle.std.specs.Ordering.{is_le}
use Rattle.std.specs.BTreeMap.{is_at}
use Rattle.std.specs.BTreeSet.{BTreeSet}
use Rattle.cfg_base.specs.Order.{word_cmp, path_cmp}
use Rattle.cfg_base.specs.Words.{Knows}
use Rattle.cfg_base.specs.declared.path.Step.{Step}
use Rattle.cfg_base.specs.declared.path.TheConstants.{MAX_STEPS}
use Rattle.cfg_schema.specs.Profile.{same_word, head_of, is_step_of}
use Rattle.cfg_tree.specs.Full.{Expansion}
use Rattle.cfg_tree.specs.declared.full.Given.{Given}
use Rattle.commit_check.specs.declared.rule.StatementRule.{StatementRule}
use Rattle.commit_check.specs.declared.rule.StatementRule.TheVariants.{UserClass, KnownClass, VlanTagging, PeerAs, Policies, PrefixLists, OneWay, Units, Network, Filters, FilterEnds}
use Rattle.commit_check.specs.Kinds.{begin_as, plain, is_user, is_user_class, is_vlan_id, is_route, is_neighbor, is_policy_list, is_from_list, is_filter_use, is_filter_end}
use Rattle.commit_check.specs.Units.{is_ospf_interface}
use Rattle.commit_check.specs.Rules.{breaks}
use Rattle.commit_check.specs.First.{first_of, top_row, key_row, has_left, is_headed, is_under}
use Rattle.commit_check.specs.Repeats.{has_key, first_repeat}
use Rattle.commit_check.specs.declared.rule.KeyRule.{KeyRule}
use Rattle.commit_check.specs.declared.rule.KeyRule.TheVariants.{Addresses, Addresses6, VlanIds}
use Rattle.commit_check.proofs.UnderLemmas.{under_after, AreOut, IsGrouped, grouped, none_first, none_repeats, first_of-filter, first_repeat-filter}

first_true : (a b : Bool) → (a && b) ≡ true → a ≡ true
first_true true b h = refl
first_true false b h = cc

second_true : (a b : Bool) → (a && b) ≡ true → b ≡ true
second_true true b h = h
second_true false b h = cc

-- steps that are of rows are as many as these
as_many : (rows : List ℕ) (steps : List Step) → begin_as rows steps ≡ true → length steps ≡ length rows
as_many [] [] h = refl
as_many [] (s ∷ ss) h = cc
as_many (r ∷ rs) [] h = cc
as_many (r ∷ rs) (s ∷ ss) h = let more = as_many rs ss (second_true (is_step_of r s) _ h) in omega (arith, more)

-- so paths of these kinds have room for a step more
pub user_short : (path : List Step) → is_user path ≡ true → length path < MAX_STEPS
user_short path h = let long = as_many (6 ∷ 11 ∷ 14 ∷ []) path h in omega (arith, long)

pub route_short : (path : List Step) → is_route path ≡ true → length path < MAX_STEPS
route_short path h = let long = as_many (43 ∷ 44 ∷ 45 ∷ []) path h in omega (arith, long)

pub end_short : (path : List Step) → is_filter_end path ≡ true → length path < MAX_STEPS
end_short path h = let long = as_many (99 ∷ 100 ∷ 101 ∷ 102 ∷ 110 ∷ []) path h in omega (arith, long)

pub neighbor_long : (path : List Step) → is_neighbor path ≡ true → length path ≡ 4
neighbor_long path h = as_many (51 ∷ 52 ∷ 53 ∷ 59 ∷ []) path h

pub never_as : (rows : List ℕ) (steps : List Step) → (length steps ≡ length rows → ⊥) → false ≡ begin_as rows steps
never_as rows steps h = by (begin_as rows steps) refl
  where
    by : (b : Bool) → begin_as rows steps ≡ b → false ≡ begin_as rows steps
    by true e = absurd (h (as_many rows steps e))
    by false e = sym e

-- a path of rows begins with the head of the first
head_under : (r : ℕ) (rs : List ℕ) (path : List Step) → begin_as (r ∷ rs) path ≡ true → is_under r path ≡ true
head_under r rs [] h = cc
head_under r rs (s ∷ ss) h = first_true (same_word (head_of r) s.head) _ (first_true (is_step_of r s) _ h)

any_under : (r : ℕ) (tails : List (List ℕ)) (path : List Step) → list_any (λ rows. begin_as rows path) (each (λ rows. r ∷ rows) tails) ≡ true
    → is_under r path ≡ true
any_under r [] path h = cc
any_under r (rows ∷ tails) path h = by (begin_as (r ∷ rows) path) refl h (any_under r tails path)
  where
    by : (b : Bool) → begin_as (r ∷ rows) path ≡ b → (b || list_any (λ rows. begin_as rows path) (each (λ rows. r ∷ rows) tails)) ≡ true
        → (list_any (λ rows. begin_as rows path) (each (λ rows. r ∷ rows) tails) ≡ true → is_under r path ≡ true)
        → is_under r path ≡ true
    by true e k go = head_under r rows path e
    by false e k go = go k

-- a statement that breaks a rule is below the rule's row at the top
breaks_under : (rule : StatementRule) (full : Expansion) (path : List Step) (words : List (List ℕ)) → breaks rule full path words ≡ true
    → is_under (top_row rule) path ≡ true
breaks_under UserClass full path words h = head_under 6 (11 ∷ 14 ∷ []) path (first_true (is_user path) _ h)
breaks_under KnownClass full path words h = head_under 6 (11 ∷ 14 ∷ 17 ∷ []) path (first_true (is_user_class path) _ h)
breaks_under VlanTagging full path words h = head_under 30 (31 ∷ 36 ∷ 39 ∷ []) path (first_true (is_vlan_id path) _ h)
breaks_under PeerAs full path words h = head_under 51 (52 ∷ 53 ∷ 59 ∷ []) path (first_true (is_neighbor path) _ h)
breaks_under Policies full path words h =
    any_under 51 ((52 ∷ 53 ∷ 56 ∷ []) ∷ (52 ∷ 53 ∷ 57 ∷ []) ∷ (52 ∷ 53 ∷ 59 ∷ 61 ∷ []) ∷ (52 ∷ 53 ∷ 59 ∷ 62 ∷ []) ∷ (64 ∷ 65 ∷ []) ∷ []) path
    (first_true (is_policy_list path) _ h)
breaks_under PrefixLists full path words h =
    any_under 73 ((76 ∷ 77 ∷ 78 ∷ 81 ∷ []) ∷ (76 ∷ 91 ∷ 81 ∷ []) ∷ []) path (first_true (is_from_list path) _ h)
breaks_under OneWay full path words h = head_under 43 (44 ∷ 45 ∷ []) path (first_true (is_route path) _ h)
breaks_under Units full path words h = head_under 51 (64 ∷ 66 ∷ 67 ∷ []) path (first_true (is_ospf_interface path) _ h)
breaks_under Network full path words h = head_under 43 (44 ∷ 45 ∷ []) path (first_true (is_route path) _ h)
breaks_under Filters full path words h =
    any_under 30 ((31 ∷ 36 ∷ 40 ∷ 96 ∷ 97 ∷ []) ∷ (31 ∷ 36 ∷ 40 ∷ 96 ∷ 98 ∷ []) ∷ []) path (first_true (is_filter_use path) _ h)
breaks_under FilterEnds full path words h = head_under 99 (100 ∷ 101 ∷ 102 ∷ 110 ∷ []) path (first_true (is_filter_end path) _ h)

-- and so is one with a key
key_under : (rule : KeyRule) (path : List Step) → has_key rule path ≡ true → is_under (key_row rule) path ≡ true
key_under Addresses path h = head_under 30 (31 ∷ 36 ∷ 40 ∷ 42 ∷ []) path h
key_under Addresses6 path h = head_under 30 (31 ∷ 36 ∷ 93 ∷ 95 ∷ []) path h
key_under VlanIds path h = head_under 115 (116 ∷ 118 ∷ []) path h

-- the entries from a path on
abbrev Entry : Type 0
Entry = List Step × Given

abbrev from : List Step → Expansion → List Entry
from start full = filter (λ e. is_le (path_cmp start e.0)) (map.entries full)

-- the first statement that breaks a rule, from the row at the top on, is the first of all
pub first_behind : (rule : StatementRule) (full : Expansion) (start : List Step) → start ≡ plain (top_row rule) ∷ []
    → first_of {X = Given} (λ e. breaks rule full e.0 e.1.words) (from start full) ≡ first_of (λ e. breaks rule full e.0 e.1.words) (map.entries full)
first_behind rule full start e =
    first_of-filter (λ x. breaks rule full x.0 x.1.words) (λ x. is_le (path_cmp start x.0)) (map.entries full)
    (λ x h. subst (λ (s : List Step). is_le (path_cmp s x.0) ≡ true) (sym e) (under_after (top_row rule) x.0 (breaks_under rule full x.0 x.1.words h)))

pub repeat_behind : (rule : KeyRule) (full : Expansion) (start : List Step) → start ≡ plain (key_row rule) ∷ []
    → first_repeat rule [] (from start full) ≡ first_repeat rule [] (map.entries full)
repeat_behind rule full start e =
    first_repeat-filter rule (λ x. is_le (path_cmp start x.0)) (map.entries full) []
    (λ x h. subst (λ (s : List Step). is_le (path_cmp s x.0) ≡ true) (sym e) (under_after (key_row rule) x.0 (key_under rule x.0 h)))

-- these entries are grouped
pub from_grouped : (row : ℕ) (full : Expansion) (start : List Step) → start ≡ plain row ∷ [] → IsGrouped row (from start full)
from_grouped row full start e =
    subst (λ (s : List Step). IsGrouped row (from s full)) (sym e) (grouped row (map.entries full) (map.entries_sorted full))

-- a path at which a walk has left a head doesn't have it
left_is_out : (head : List ℕ) (path : List Step) → true ≡ has_left head path → is_headed head path ≡ false
left_is_out head [] h = cc
left_is_out head (s ∷ []) h = by (same_word head s.head) h
  where
    by : (b : Bool) → true ≡ not b → b ≡ false
    by false e = refl
    by true e = cc
left_is_out head (s ∷ t ∷ ts) h = cc

-- where a walk has left the row nothing more is found
module _ (full : Expansion) (head : List ℕ) (e : Entry) (es left : List Entry) (all : Option (List Step)) (first : left ≡ e ∷ es)
    (away : true ≡ has_left head e.0) where
  out : (row : ℕ) → head ≡ head_of row → IsGrouped row left → AreOut row left
  out row headed groups =
      let here : is_under row e.0 ≡ false = ap (λ (h : List ℕ). is_headed h e.0) (sym headed) ∙ left_is_out head e.0 away
      in subst (λ (xs : List Entry). AreOut row xs) (sym first) (here, (subst (λ (xs : List Entry). IsGrouped row xs) first groups).0 here)

  pub no_more_breaks : (rule : StatementRule) → head ≡ head_of (top_row rule) → IsGrouped (top_row rule) left
      → first_of (λ x. breaks rule full x.0 x.1.words) left ≡ all → None ≡ all
  no_more_breaks rule headed groups found =
      sym
      (none_first (top_row rule) (λ x. breaks rule full x.0 x.1.words) left (λ x h. breaks_under rule full x.0 x.1.words h)
      (out (top_row rule) headed groups))
      ∙ found

  pub no_more_keys : (rule : KeyRule) (met : List (List ℕ)) → head ≡ head_of (key_row rule) → IsGrouped (key_row rule) left
      → first_repeat rule met left ≡ all → None ≡ all
  no_more_keys rule met headed groups found =
      sym (none_repeats (key_row rule) rule met left (key_under rule) (out (key_row rule) headed groups)) ∙ found

-- an empty set has no words
pub nothing_met : (known : BTreeSet (List ℕ)) → known.keys ≡ [] → Knows [] known
nothing_met known none word = ap (λ (words : List (List ℕ)). list_any (is_at (word_cmp word)) words) none
