-- What the walks find is the least path at which a rule doesn't hold.
use Rattle.std.proofs.Common.{◌≡◌, ℕ, ◌<◌, ◌≤◌, nat_lt, Bool, true, false, cond, not, List, [], ◌∷◌, refl, sym, ap, ◌∙◌, Option, Some, None, arith}
use Rattle.std.specs.Prelude.{MatchOption}
use Rattle.std.specs.FinMap as map
use Rattle.std.specs.List.{list_any}
use Rattle.std.specs.declared.cmp.Ordering.TheVariants.{Less}
use Rattle.std.proofs.lemmas.Bool.Decides.{nat_tests}
use Rattle.cfg_base.specs.Order.{path_cmp}
use Rattle.cfg_base.specs.declared.path.Step.{Step}
use Rattle.cfg_base.specs.declared.value.Value.{Value}
use Rattle.cfg_schema.proofs.TestLemmas.{both}
use Rattle.cfg_tree.specs.Statements.{Statements}
use Rattle.cfg_tree.specs.Full.{Expansion}
use Rattle.group_expand.specs.Live.{is_live, words_of}
use Rattle.group_expand.specs.Expansion.{is_apply}
use Rattle.commit_check.specs.declared.rule.StatementRule.{StatementRule}
use Rattle.commit_check.specs.Least.{Nowhere, IsLeast}
use Rattle.commit_check.specs.Groups.{is_group, names_no_group}
use Rattle.commit_check.specs.Rules.{breaks, BreaksAt, AtTop}
use Rattle.commit_check.specs.First.{first_of}
use Rattle.commit_check.proofs.FirstLemmas.{Taken, none_taken, first_taken}

-- a property that is the same as another one
least_by : (P Q : List Step → Type 0) → ((p : List Step) → P p → Q p) → ((p : List Step) → Q p → P p) → (p : List Step) → IsLeast P p → IsLeast Q p
least_by P Q to from p l = record { has = to p l.has; least = λ q less f. l.least q less (from q f) }

-- what is found first among the entries of a map, where the entries that are taken are those that have a property
module _ {X : Type 0} (m : map.FinMap path_cmp X) (test : List Step × X → Bool) (P : List Step → Type 0)
    (to : (p : List Step) → Taken test (map.entries m) p → P p) (from : (p : List Step) → P p → Taken test (map.entries m) p) where
  found_least : (found : Option (List Step)) → found ≡ first_of test (map.entries m) → MatchOption found (Nowhere P) (IsLeast P)
  found_least None e = λ p f. none_taken test (map.entries m) (sym e) p (from p f)
  found_least (Some p) e = least_by (Taken test (map.entries m)) P to from p (first_taken test (map.entries m) p (map.entries_sorted m) (sym e))

-- a statement that breaks a rule
pub breach_least : (rule : StatementRule) (full : Expansion) (found : Option (List Step))
    → found ≡ first_of (λ e. breaks rule full e.0 e.1.words) (map.entries full) → MatchOption found (Nowhere (BreaksAt rule full)) (IsLeast (BreaksAt rule full))
breach_least rule full =
    found_least full (λ e. breaks rule full e.0 e.1.words) (BreaksAt rule full)
    (λ p t. record { given = t.value; there = map.get-entries full p ∙ t.there; told = t.told })
    (λ p b. record { value = b.given; there = sym (map.get-entries full p) ∙ b.there; told = b.told })

-- a statement that applies or excepts a group which isn't there
unknown_there : (m : Statements) (p : List Step) → names_no_group m p ≡ true → (v : Value) × (map.get m p ≡ Some v)
unknown_there m p h = by_value (map.get m p) refl
  where
    none_any : (live : Bool) (o : Option Value) → o ≡ None → list_any (λ name. not (is_group m name)) (cond live (words_of o) []) ≡ false
    none_any true o e = ap (λ (x : Option Value). list_any (λ name. not (is_group m name)) (words_of x)) e
    none_any false o e = refl

    by_value : (o : Option Value) → map.get m p ≡ o → (v : Value) × (map.get m p ≡ Some v)
    by_value (Some v) e = (v, e)
    by_value None e =
        let some = (both (is_apply p) _ h).1 in let none = none_any (is_live (map.get m) p) (map.get m p) e in let c = sym some ∙ none in cc

pub unknown_least : (m : Statements) (found : Option (List Step)) → found ≡ first_of (λ e. names_no_group m e.0) (map.entries m)
    → MatchOption found (Nowhere (λ p. names_no_group m p ≡ true)) (IsLeast (λ p. names_no_group m p ≡ true))
unknown_least m =
    found_least m (λ e. names_no_group m e.0) (λ p. names_no_group m p ≡ true)
    (λ p t. t.told)
    (λ p h. let there = unknown_there m p h in record { value = there.0; there = sym (map.get-entries m p) ∙ there.1; told = h })

-- nothing is before the top
pub none_before_top : (p : List Step) → path_cmp p [] ≡ Less → ⊥
none_before_top [] e = cc
none_before_top (s ∷ p) e = cc

-- what is asked of the whole configuration
pub at_top : (P : Type 0) → P → IsLeast (AtTop P) []
at_top P p = record { has = record { top = refl; fails = p }; least = λ q less f. none_before_top q less }

pub top_least : (m n : ℕ) → nat_lt m n ≡ true → IsLeast (AtTop (m < n)) []
top_least m n h = at_top (m < n) (less m n h)
  where
    less : (m n : ℕ) → nat_lt m n ≡ true → m < n
    less m n h = grind (arith, nat_tests)

pub nowhere_top : (m n : ℕ) → nat_lt m n ≡ false → Nowhere (AtTop (m < n))
nowhere_top m n h p f = let less = f.fails in let more = most m n h in omega (arith, less, more)
  where
    most : (m n : ℕ) → nat_lt m n ≡ false → n ≤ m
    most m n h = grind (arith, nat_tests)
