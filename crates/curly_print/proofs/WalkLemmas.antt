-- The walk over a tree that counts the bytes of its text, one statement ahead.
use Rattle.std.proofs.Common.{◌≡◌, ℕ, ◌+◌, ◌^◌, ◌<◌, nat_lt, Bool, false, List, [], ◌∷◌, ◌++◌, length, refl, sym, ap, ◌∙◌, Option, Some, None, Bor, arith}
use Rattle.std.specs.Prelude.{MatchOption}
use Rattle.std.specs.FinMap as map
use Rattle.std.specs.List.{sum_by}
use Rattle.std.proofs.lemmas.List.{append_assoc}
use Rattle.std.proofs.lemmas.List.Sums.{sum_by-cons}
use Rattle.cfg_base.specs.declared.path.Step.{Step}
use Rattle.cfg_base.specs.declared.value.Value.{Value}
use Rattle.cfg_entries.specs.EntryMap.{Pair}
use Rattle.cfg_tree.specs.Statements.{Statements}
use Rattle.cfg_tree.specs.Tree.{IsTree}
use Rattle.curly_print.specs.Length.{holds, own_len, entry_len, capped}
use Rattle.printing_order.proofs.FollowedLemmas.{followed, unfollowed}
use Rattle.curly_print.proofs.HoldsLemmas.{next_longer, last_holds}

-- what is left of a walk that has one statement in hand
abbrev pub pending : Option (Bor (List Step) × Bor Value) → List (Pair Value) → List (Pair Value)
pending None left = []
pending (Some found) left = (found.0.now, found.1.now) ∷ left

-- so much of the tree's entries is counted
pub record IsWalk (m : Statements) (total : ℕ) (left : List (Pair Value)) : Type 0 where
  pub counted : capped (total + sum_by (entry_len m) left) ≡ capped (sum_by (entry_len m) (map.entries m))
  pub small : total < 2 ^ 64
  pub front : List (Pair Value)
  pub are : map.entries m ≡ front ++ left

abbrev pub IsNextOf : List (Pair Value) → List (Pair Value) → Option (Bor (List Step) × Bor Value) → Type 0
IsNextOf old new next = MatchOption next (old ≡ []) (λ found. old ≡ (found.0.now, found.1.now) ∷ new)

pub pending_is : (old new : List (Pair Value)) (next : Option (Bor (List Step) × Bor Value)) → IsNextOf old new next → pending next new ≡ old
pending_is old new None e = sym e
pending_is old new (Some found) e = sym e

pub walk_begins : (m : Statements) (new : List (Pair Value)) (next : Option (Bor (List Step) × Bor Value)) → IsNextOf (map.entries m) new next → IsWalk m 0 (pending next new)
walk_begins m new next e = record {
  counted = let same = ap (λ (es : List (Pair Value)). sum_by (entry_len m) es) (pending_is _ new next e) in omega (arith, same);
  small = omega arith;
  front = [];
  are = sym (pending_is _ new next e);
}

-- whether the next statement has more steps than one shows whether this one holds others
pub held : (m : Statements) → IsTree m → (front old new : List (Pair Value)) (e : Pair Value) (next : Option (Bor (List Step) × Bor Value)) (b : Bool)
    → map.entries m ≡ front ++ e ∷ old → IsNextOf old new next → MatchOption next (b ≡ false) (λ found. b ≡ nat_lt (length e.0) (length found.0.now)) → b ≡ holds m e.0
held m tree front old new e None b are is told =
    told ∙ last_holds m tree e.0 (unfollowed m front e (are ∙ ap (λ (es : List (Pair Value)). front ++ e ∷ es) is))
held m tree front old new e (Some found) b are is told =
    told ∙ next_longer m tree e.0 found.0.now found.1.now
    (followed m front new e (found.0.now, found.1.now) (are ∙ ap (λ (es : List (Pair Value)). front ++ e ∷ es) is))

-- one more statement is counted
pub walk_goes_on : (m : Statements) → IsTree m → (total new_total : ℕ) (old new : List (Pair Value)) (e : Pair Value) (next : Option (Bor (List Step) × Bor Value)) (b : Bool)
    → IsWalk m total (e ∷ old) → IsNextOf old new next → MatchOption next (b ≡ false) (λ found. b ≡ nat_lt (length e.0) (length found.0.now))
    → new_total ≡ capped (total + capped (own_len b e.0 e.1)) → IsWalk m new_total (pending next new)
walk_goes_on m tree total new_total old new e next b walk is told sum = record {
  counted = count _ refl;
  small = omega (arith, sum);
  front = walk.front ++ e ∷ [];
  are = walk.are ∙ sym (append_assoc walk.front (e ∷ []) old) ∙ ap (λ (es : List (Pair Value)). (walk.front ++ e ∷ []) ++ es) (sym (pending_is old new next is));
}
  where
    here : b ≡ holds m e.0
    here = held m tree walk.front old new e next b walk.are is told

    count : (w : ℕ) → sum_by (entry_len m) old ≡ w → capped (new_total + sum_by (entry_len m) (pending next new)) ≡ capped (sum_by (entry_len m) (map.entries m))
    count w f =
        let left = ap (λ (es : List (Pair Value)). sum_by (entry_len m) es) (pending_is old new next is)
        in let own = ap (λ (h : Bool). own_len h e.0 e.1) here
        in let whole = sum_by-cons (entry_len m) e old
        in let counted = walk.counted
        in omega (arith, left, own, whole, counted, sum, f)
