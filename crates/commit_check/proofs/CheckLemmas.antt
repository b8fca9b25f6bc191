-- The rules in their order: each configuration is accepted or has one first fault.
use Rattle.std.proofs.Common.{◌≡◌, ◌⊎◌, inl, inr, ℕ, zero, suc, ◌+◌, ◌<◌, ◌≤◌, nat_eq, nat_lt, Bool, true, false, ◌&&◌, List, [], ◌∷◌, length, take, drop, slice_index_or, ◌-◌, refl, sym, ap, subst, ◌∙◌, Option, Some, None, arith, eqb-true}
use Rattle.std.proofs.Math.Seq.{take-length}
use Rattle.std.specs.FinMap as map
use Rattle.std.specs.List.{AllByRecursion}
use Rattle.std.specs.declared.cmp.Ordering.{Ordering}
use Rattle.std.specs.declared.cmp.Ordering.TheVariants.{Less, Equal, Greater}
use Rattle.std.specs.Prelude.{MatchOption}
use Rattle.std.specs.Ordering.{is_eq, ordering_reverse}
use Rattle.std.proofs.lemmas.Bool.Decides.{nat_tests}
use Rattle.cfg_base.specs.Order.{path_cmp, paths_total}
use Rattle.cfg_base.specs.declared.path.Step.{Step}
use Rattle.cfg_schema.proofs.TestLemmas.{both}
use Rattle.cfg_tree.specs.Statements.{Statements}
use Rattle.cfg_tree.specs.Children.{steps_below}
use Rattle.cfg_tree.proofs.MapLemmas.{same_path}
use Rattle.cfg_tree.specs.Full.{Expansion}
use Rattle.cfg_tree.specs.Tree.{IsTree}
use Rattle.cfg_tree.specs.declared.limit.TheConstants.{MAX_EXPANDED}
use Rattle.curly_print.specs.Printed.{printed}
use Rattle.group_expand.specs.Expansion.{IsExpansion}
use Rattle.group_expand.specs.Made.{expansion_made}
use Rattle.group_expand.proofs.TreeLemmas.{tree_full}
use Rattle.group_expand.proofs.OneFullLemmas.{one_full}
use Rattle.commit_check.specs.declared.fault.CheckFault.{CheckFault}
use Rattle.commit_check.specs.declared.fault.CheckFault.TheVariants.{Rule, NoMemory}
use Rattle.commit_check.specs.declared.rule.CommitRule.{CommitRule}
use Rattle.commit_check.specs.declared.rule.CommitRule.TheVariants.{Width, Groups, Each, Apart, TextLength}
use Rattle.commit_check.specs.declared.rule.StatementRule.TheVariants.{UserClass, KnownClass, VlanTagging, PeerAs, Policies, PrefixLists, OneWay, Units, Network, Filters, FilterEnds}
use Rattle.commit_check.specs.declared.rule.KeyRule.TheVariants.{Addresses, Addresses6, VlanIds}
use Rattle.commit_check.specs.declared.rule.TheConstants.{RULES, MAX_TEXT}
use Rattle.commit_check.specs.Least.{Nowhere, IsLeast}
use Rattle.commit_check.specs.Rules.{number_of, Fails, AtTop}
use Rattle.commit_check.specs.Accepts.{Holds, IsAccepted, Accepts, IsFirst, IsCheckFault}
use Rattle.commit_check.specs.Among.{IsFirstAmong, IsFaultAmong}
use Rattle.commit_check.proofs.LeastLemmas.{at_top, top_least, nowhere_top, breach_least, unknown_least}
use Rattle.commit_check.proofs.RepeatLemmas.{repeat_least}

-- the rule of a number
rule_of : ℕ → CommitRule
rule_of n = at n (Width ∷ RULES)
  where
    at : ℕ → List CommitRule → CommitRule
    at n [] = Width
    at zero (rule ∷ rules) = rule
    at (suc n) (rule ∷ rules) = at n rules

rule_back : (rule : CommitRule) → rule_of (number_of rule) ≡ rule
unfolding rule_of
rule_back Width = refl
rule_back Groups = refl
rule_back (Each UserClass) = refl
rule_back (Each KnownClass) = refl
rule_back (Each VlanTagging) = refl
rule_back (Apart Addresses) = refl
rule_back (Each PeerAs) = refl
rule_back (Each Policies) = refl
rule_back (Each PrefixLists) = refl
rule_back (Each OneWay) = refl
rule_back (Each Units) = refl
rule_back (Each Network) = refl
rule_back TextLength = refl
rule_back (Apart Addresses6) = refl
rule_back (Each Filters) = refl
rule_back (Each FilterEnds) = refl
rule_back (Apart VlanIds) = refl

pub same_number : (rule other : CommitRule) → number_of rule ≡ number_of other → rule ≡ other
same_number rule other e = sym (rule_back rule) ∙ ap rule_of e ∙ rule_back other

-- the numbers of rules rise by one
numbered : ℕ → List CommitRule → Bool
numbered n [] = true
numbered n (rule ∷ rules) = nat_eq (number_of rule) n && numbered (n + 1) rules

rules_numbered : numbered 1 RULES ≡ true
unfolding numbered
rules_numbered = refl

rules_length : length RULES ≡ 16
rules_length = refl

number_most : (rule : CommitRule) → number_of rule < 17
number_most Width = omega arith
number_most Groups = omega arith
number_most (Each UserClass) = omega arith
number_most (Each KnownClass) = omega arith
number_most (Each VlanTagging) = omega arith
number_most (Apart Addresses) = omega arith
number_most (Each PeerAs) = omega arith
number_most (Each Policies) = omega arith
number_most (Each PrefixLists) = omega arith
number_most (Each OneWay) = omega arith
number_most (Each Units) = omega arith
number_most (Each Network) = omega arith
number_most TextLength = omega arith
number_most (Apart Addresses6) = omega arith
number_most (Each Filters) = omega arith
number_most (Each FilterEnds) = omega arith
number_most (Apart VlanIds) = omega arith

less_or_same : (a n : ℕ) (P : Type 0) → a < n + 1 → (a < n → P) → (a ≡ n → P) → P
less_or_same a n P h less same = by_test (nat_lt a n) refl
  where
    is_less : (a n : ℕ) → nat_lt a n ≡ true → a < n
    is_less a n e = grind (arith, nat_tests)

    is_same : (a n : ℕ) → a < n + 1 → nat_lt a n ≡ false → a ≡ n
    is_same a n h e = grind (arith, nat_tests)

    by_test : (b : Bool) → nat_lt a n ≡ b → P
    by_test true e = less (is_less a n e)
    by_test false e = same (is_same a n h e)

module _ (m : Statements) (full : Expansion) where
  -- all rules of lower numbers hold
  abbrev Below : ℕ → Type 0
  Below n = (other : CommitRule) → number_of other < n → Holds other m full

  below_more : (n : ℕ) (rule : CommitRule) → number_of rule ≡ n → Below n → Holds rule m full → Below (n + 1)
  below_more n rule e below holds other less =
      less_or_same (number_of other) n (Holds other m full) less (below other)
      (λ same. subst (λ (r : CommitRule). Holds r m full) (same_number rule other (e ∙ sym same)) holds)

  below_all : (n : ℕ) (rules : List CommitRule) → numbered n rules ≡ true → Below n → AllByRecursion (λ rule. Holds rule m full) rules → Below (n + length rules)
  unfolding numbered
  below_all n [] num below all other less = below other (omega (arith, less))
  below_all n (rule ∷ rules) num below all other less =
      let parts = both (nat_eq (number_of rule) n) _ num
      in below_all (n + 1) rules parts.1 (below_more n rule (eqb-true (number_of rule) n parts.0) below all.0) all.1 other (omega (arith, less))

  width_holds : map.len full ≤ MAX_EXPANDED → Holds Width m full
  width_holds few p f = let wide = f.fails in omega (arith, few, wide)

  below_one : map.len full ≤ MAX_EXPANDED → Below 1
  below_one few = below_more 0 Width refl (λ other less. absurd (omega (arith, less))) (width_holds few)

  pub all_hold : map.len full ≤ MAX_EXPANDED → AllByRecursion (λ rule. Holds rule m full) RULES → (rule : CommitRule) → Holds rule m full
  all_hold few all rule =
      below_all 1 RULES rules_numbered (below_one few) all rule (let most = number_most rule in let count = rules_length in omega (arith, most, count))

  pub accepted : IsTree m → IsExpansion m full → map.len full ≤ MAX_EXPANDED → AllByRecursion (λ rule. Holds rule m full) RULES → IsAccepted m full
  accepted tree expansion few all = record { tree = tree; expansion = expansion; holds = all_hold few all }

  first_is : (n : ℕ) (rules : List CommitRule) (number : ℕ) (path : List Step) → numbered n rules ≡ true → Below n → IsExpansion m full
      → IsFirstAmong rules m full number path → IsFirst m number path
  unfolding numbered
  first_is n [] number path num below expansion first = absurd first
  first_is n (rule ∷ rules) number path num below expansion (inl here) =
      let parts = both (nat_eq (number_of rule) n) _ num
      in let named = eqb-true (number_of rule) n parts.0
      in record {
        full = full;
        expansion = expansion;
        rule = rule;
        named = sym here.0;
        least = here.1;
        before = λ other less. below other (let is = here.0 in omega (arith, less, named, is));
      }
  first_is n (rule ∷ rules) number path num below expansion (inr more) =
      let parts = both (nat_eq (number_of rule) n) _ num
      in first_is (n + 1) rules number path parts.1 (below_more n rule (eqb-true (number_of rule) n parts.0) below more.0) expansion more.1

  pub fault_is : IsExpansion m full → map.len full ≤ MAX_EXPANDED → (fault : CheckFault) → IsFaultAmong RULES m full fault → IsCheckFault m fault
  fault_is expansion few (Rule number path) first = first_is 1 RULES number path rules_numbered (below_one few) expansion first
  fault_is expansion few NoMemory first = tt

-- the first rule and the others, as the pattern `[rule, rules @ ..]` gives them
first_and_rest : (rules : List CommitRule) → 1 ≤ length rules → rules ≡ slice_index_or rules 0 Width ∷ take (length rules - 1) (drop 1 rules)
first_and_rest [] some = absurd (omega (arith, some))
first_and_rest (rule ∷ rules) some =
    let count : length (rule ∷ rules) - 1 ≡ length rules = omega arith
    in ap (λ (rest : List CommitRule). rule ∷ rest) (sym (ap (λ (n : ℕ). take n rules) count ∙ take-length rules))

-- a later rule's fault is the first where the first rule holds
pub later_fault : (m : Statements) (full : Expansion) (rules : List CommitRule) → 1 ≤ length rules → Holds (slice_index_or rules 0 Width) m full
    → (fault : CheckFault) → IsFaultAmong (take (length rules - 1) (drop 1 rules)) m full fault → IsFaultAmong rules m full fault
later_fault m full rules some holds (Rule number path) first =
    subst (λ (list : List CommitRule). IsFirstAmong list m full number path) (sym (first_and_rest rules some)) (inr (holds, first))
later_fault m full rules some holds NoMemory first = tt

-- an expansion with too many paths
pub wide_is : (m : Statements) → (full : Expansion) × IsExpansion m full × (MAX_EXPANDED < map.len full) → IsFirst m 0 []
wide_is m (full, expansion, wide) = record {
  full = full;
  expansion = expansion;
  rule = Width;
  named = refl;
  least = at_top (MAX_EXPANDED < map.len full) wide;
  before = λ other less. absurd (omega (arith, less));
}

-- each rule holds or has a least path where it doesn't
least_or_not : {P : List Step → Type 0} (found : Option (List Step)) → MatchOption found (Nowhere P) (IsLeast P) → Nowhere P ⊎ ((path : List Step) × IsLeast P path)
least_or_not None none = inl none
least_or_not (Some path) least = inr (path, least)

above_or_not : (most n : ℕ) → Nowhere (AtTop (most < n)) ⊎ ((path : List Step) × IsLeast (AtTop (most < n)) path)
above_or_not most n = by_test (nat_lt most n) refl
  where
    by_test : (b : Bool) → nat_lt most n ≡ b → Nowhere (AtTop (most < n)) ⊎ ((path : List Step) × IsLeast (AtTop (most < n)) path)
    by_test true e = inr ([], top_least most n e)
    by_test false e = inl (nowhere_top most n e)

holds_or_fails : (rule : CommitRule) (m : Statements) (full : Expansion) → Holds rule m full ⊎ ((path : List Step) × IsLeast (Fails rule m full) path)
holds_or_fails Width m full = above_or_not MAX_EXPANDED (map.len full)
holds_or_fails Groups m full = least_or_not _ (unknown_least m _ refl)
holds_or_fails (Each rule) m full = least_or_not _ (breach_least rule full _ refl)
holds_or_fails (Apart rule) m full = least_or_not _ (repeat_least rule full _ refl)
holds_or_fails TextLength m full = above_or_not MAX_TEXT (length (printed m []))

all_or_first : (rules : List CommitRule) (m : Statements) (full : Expansion)
    → AllByRecursion (λ rule. Holds rule m full) rules ⊎ ((number : ℕ) × (path : List Step) × IsFirstAmong rules m full number path)
all_or_first [] m full = inl tt
all_or_first (rule ∷ rules) m full = by_rule (holds_or_fails rule m full) (all_or_first rules m full)
  where
    by_rest : Holds rule m full → AllByRecursion (λ rule. Holds rule m full) rules ⊎ ((number : ℕ) × (path : List Step) × IsFirstAmong rules m full number path)
        → AllByRecursion (λ rule. Holds rule m full) (rule ∷ rules) ⊎ ((number : ℕ) × (path : List Step) × IsFirstAmong (rule ∷ rules) m full number path)
    by_rest holds (inl all) = inl (holds, all)
    by_rest holds (inr first) = inr (first.0, first.1, inr (holds, first.2))

    by_rule : Holds rule m full ⊎ ((path : List Step) × IsLeast (Fails rule m full) path)
        → AllByRecursion (λ rule. Holds rule m full) rules ⊎ ((number : ℕ) × (path : List Step) × IsFirstAmong rules m full number path)
        → AllByRecursion (λ rule. Holds rule m full) (rule ∷ rules) ⊎ ((number : ℕ) × (path : List Step) × IsFirstAmong (rule ∷ rules) m full number path)
    by_rule (inl holds) rest = by_rest holds rest
    by_rule (inr least) rest = inr (number_of rule, least.0, inl (refl, least.1))

-- a tree is accepted or has a first fault
accepted_by : (m : Statements) → IsTree m → (full : Expansion) → IsExpansion m full → Accepts m ⊎ ((number : ℕ) × (path : List Step) × IsFirst m number path)
accepted_by m tree full expansion = by_width (nat_lt MAX_EXPANDED (map.len full)) refl (all_or_first RULES m full)
  where
    few : (most n : ℕ) → nat_lt most n ≡ false → n ≤ most
    few most n e = grind (arith, nat_tests)

    many : (most n : ℕ) → nat_lt most n ≡ true → most < n
    many most n e = grind (arith, nat_tests)

    by_first : map.len full ≤ MAX_EXPANDED → AllByRecursion (λ rule. Holds rule m full) RULES ⊎ ((number : ℕ) × (path : List Step) × IsFirstAmong RULES m full number path)
        → Accepts m ⊎ ((number : ℕ) × (path : List Step) × IsFirst m number path)
    by_first within (inl all) = inl (full, accepted m full tree expansion within all)
    by_first within (inr first) = inr (first.0, first.1, first_is m full 1 RULES first.0 first.1 rules_numbered (below_one m full within) expansion first.2)

    by_width : (b : Bool) → nat_lt MAX_EXPANDED (map.len full) ≡ b
        → AllByRecursion (λ rule. Holds rule m full) RULES ⊎ ((number : ℕ) × (path : List Step) × IsFirstAmong RULES m full number path)
        → Accepts m ⊎ ((number : ℕ) × (path : List Step) × IsFirst m number path)
    by_width true e found = inr (0, [], wide_is m (full, expansion, many MAX_EXPANDED (map.len full) e))
    by_width false e found = by_first (few MAX_EXPANDED (map.len full) e) found

pub accepted_or_not : (m : Statements) → IsTree m → Accepts m ⊎ ((number : ℕ) × (path : List Step) × IsFirst m number path)
accepted_or_not m tree = accepted_by m tree (expansion_made (map.get m) (steps_below m)) (tree_full m tree)

-- what is accepted has no fault
pub accepted_apart : (m : Statements) (number : ℕ) (path : List Step) → Accepts m → IsFirst m number path → ⊥
accepted_apart m number path accepts first =
    let same = one_full (map.get m) (steps_below m) accepts.0 first.full accepts.1.expansion first.expansion
    in subst (λ (full : Expansion). Holds first.rule m full) same (accepts.1.holds first.rule) path first.least.has

-- the least path of a property is one
least_one : (P : List Step → Type 0) (p q : List Step) → IsLeast P p → IsLeast P q → p ≡ q
least_one P p q one other = by_order (path_cmp p q) refl
  where
    by_order : (o : Ordering) → path_cmp p q ≡ o → p ≡ q
    by_order Less e = absurd (other.least p e one.has)
    by_order Equal e = (same_path p q).0 (ap is_eq e)
    by_order Greater e = absurd (one.least q (paths_total.antisymm q p ∙ ap ordering_reverse e) other.has)

lower : (m : Statements) (n k : ℕ) (p q : List Step) → IsFirst m n p → IsFirst m k q → n < k → ⊥
lower m n k p q one other less =
    let same = one_full (map.get m) (steps_below m) one.full other.full one.expansion other.expansion
    in let named = one.named
    in let holds = other.before one.rule (omega (arith, less, named))
    in holds p (subst (λ (full : Expansion). Fails one.rule m full p) same one.least.has)

-- the first fault is one
pub first_one : (m : Statements) (n k : ℕ) (p q : List Step) → IsFirst m n p → IsFirst m k q → (n ≡ k) × (p ≡ q)
first_one m n k p q one other =
    let number : n ≡ k = same_of n k (lower m n k p q one other) (lower m k n q p other one)
    in let rules : one.rule ≡ other.rule = same_number one.rule other.rule (one.named ∙ number ∙ sym other.named)
    in let full = one_full (map.get m) (steps_below m) one.full other.full one.expansion other.expansion
    in let least = subst (λ (f : Expansion). IsLeast (Fails other.rule m f) p) full (subst (λ (r : CommitRule). IsLeast (Fails r m one.full) p) rules one.least)
    in (number, least_one (Fails other.rule m other.full) p q least other.least)
  where
    same_of : (a b : ℕ) → (a < b → ⊥) → (b < a → ⊥) → a ≡ b
    same_of a b f g = omega (arith, f, g)

-- what is accepted is within its limits
within : (most n : ℕ) → Nowhere (AtTop (most < n)) → n ≤ most
within most n none = by_test (nat_lt most n) refl
  where
    less : (a b : ℕ) → nat_lt a b ≡ true → a < b
    less a b h = grind (arith, nat_tests)

    most_of : (a b : ℕ) → nat_lt a b ≡ false → b ≤ a
    most_of a b h = grind (arith, nat_tests)

    by_test : (b : Bool) → nat_lt most n ≡ b → n ≤ most
    by_test true e = absurd (none [] (record { top = refl; fails = less most n e }))
    by_test false e = most_of most n e

pub text_within : (m : Statements) → Accepts m → IsTree m × (length (printed m []) ≤ MAX_TEXT)
text_within m (full, accepted) = (accepted.tree, within MAX_TEXT (length (printed m [])) (accepted.holds TextLength))

pub expansion_within : (m : Statements) (full : Expansion) → IsAccepted m full → map.len full ≤ MAX_EXPANDED
expansion_within m full accepted = within MAX_EXPANDED (map.len full) (accepted.holds Width)
