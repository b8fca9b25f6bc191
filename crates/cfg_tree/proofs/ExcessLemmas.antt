-- Paths that are counted in the order in which they are met.
use Rattle.std.proofs.Common.{◌≡◌, ℕ, zero, suc, ◌+◌, ◌<◌, ◌≤◌, Bool, true, false, not, cond, ◌||◌, List, [], ◌∷◌, ◌++◌, take, length, get_or, refl, sym, ap, subst, ◌∙◌, arith}
use Rattle.std.specs.BTreeSet.{BTreeSet, contains}
use Rattle.std.specs.Ordering.{eq_by_cmp}
use Rattle.std.proofs.lemmas.List.{take_more, get_or-map, length-map}
use Rattle.cfg_base.specs.Order.{path_cmp}
use Rattle.cfg_base.specs.declared.path.Step.{Step}
use Rattle.cfg_base.specs.declared.value.Value.{Value}
use Rattle.cfg_entries.specs.EntryMap.{Pair}
use Rattle.cfg_tree.specs.declared.limit.TheConstants.{MAX_STATEMENTS}
use Rattle.cfg_tree.specs.Limit.{paths_of, different, IsPathPast}
use Rattle.cfg_tree.proofs.LimitLemmas.{is_met, same_either, met-push, different-more}

-- the set has exactly these paths
abbrev pub KnowsPaths : List (List Step) → BTreeSet (List Step) → Type 0
KnowsPaths paths known = (path : List Step) → contains path_cmp known path ≡ is_met paths path

-- so many of the first paths are different, and no more than a tree has statements
abbrev pub Counts : List (List Step) → ℕ → BTreeSet (List Step) → ℕ → Type 0
Counts paths at known count = KnowsPaths (take at paths) known × (count ≡ different (take at paths)) × (count ≤ MAX_STATEMENTS)

pub less_room : (n m : ℕ) → n ≤ m → (n ≡ m → ⊥) → n < m
less_room zero zero l ne = absurd (ne refl)
less_room zero (suc m) l ne = omega arith
less_room (suc n) zero l ne = absurd (omega (arith, l))
less_room (suc n) (suc m) l ne =
    let go = less_room n m (omega (arith, l)) (λ e. ne (ap suc e)) in omega (arith, go)

not_is : (new b : Bool) → new ≡ not b → b ≡ not new
not_is new true e = ap not (sym e)
not_is new false e = ap not (sym e)

known_or : (a b : Bool) → cond a true b ≡ (b || a)
known_or true true = refl
known_or true false = refl
known_or false true = refl
known_or false false = refl

-- the path of the item at a place
pub path_at : (items : List (Pair Value)) (at : ℕ) (d : Pair Value) → at < length items → (get_or items at d).0 ≡ get_or (paths_of items) at (get_or items at d).0
path_at items at d l = sym (get_or-map (λ (e : Pair Value). e.0) items at d (get_or items at d).0 l)

pub within : (items : List (Pair Value)) (at : ℕ) → at < length items → at < length (paths_of items)
within items at l = subst (λ (n : ℕ). at < n) (sym (length-map items (λ (e : Pair Value). e.0))) l

module _ (paths : List (List Step)) (at : ℕ) (known learnt : BTreeSet (List Step)) (count : ℕ) (new : Bool) (path : List Step)
    (counts : Counts paths at known count) (l : at < length paths) (is : path ≡ get_or paths at path)
    (told : new ≡ not (contains path_cmp known path))
    (knows : (other : List Step) → contains path_cmp learnt other ≡ cond (eq_by_cmp path_cmp path other) true (contains path_cmp known other)) where
  met : is_met (take at paths) path ≡ not new
  met = sym (counts.0 path) ∙ not_is new _ told

  one_more : take (at + 1) paths ≡ take at paths ++ path ∷ []
  one_more = take_more paths at path l ∙ ap (λ (p : List Step). take at paths ++ p ∷ []) (sym is)

  knows_more : KnowsPaths (take (at + 1) paths) learnt
  knows_more q =
      knows q
      ∙ ap (λ (b : Bool). cond (eq_by_cmp path_cmp path q) true b) (counts.0 q)
      ∙ known_or (eq_by_cmp path_cmp path q) (is_met (take at paths) q)
      ∙ ap (λ (b : Bool). is_met (take at paths) q || b) (same_either path q)
      ∙ sym (met-push (take at paths) path q)
      ∙ ap (λ (ps : List (List Step)). is_met ps q) (sym one_more)

  different_now : different (take (at + 1) paths) ≡ cond (not new) (different (take at paths)) (different (take at paths) + 1)
  different_now =
      different-more paths at path l
      ∙ ap (λ (p : List Step). cond (is_met (take at paths) p) (different (take at paths)) (different (take at paths) + 1)) (sym is)
      ∙ ap (λ (b : Bool). cond b (different (take at paths)) (different (take at paths) + 1)) met

  -- a new path where there is room
  pub counted_new : new ≡ true → count < MAX_STATEMENTS → Counts paths (at + 1) learnt (count + 1)
  counted_new e room = (
    knows_more,
    ap (λ (k : ℕ). k + 1) counts.1 ∙ sym (different_now ∙ ap (λ (b : Bool). cond (not b) (different (take at paths)) (different (take at paths) + 1)) e),
    omega (arith, room),
  )

  -- a path that was met before
  pub counted_old : new ≡ false → Counts paths (at + 1) learnt count
  counted_old e = (
    knows_more,
    counts.1 ∙ sym (different_now ∙ ap (λ (b : Bool). cond (not b) (different (take at paths)) (different (take at paths) + 1)) e),
    counts.2,
  )

  -- a new path where there is none
  pub is_past : new ≡ true → count ≡ MAX_STATEMENTS → IsPathPast paths at
  is_past e full = record {
    within = l;
    full = sym counts.1 ∙ full;
    new =
        different_now
        ∙ ap (λ (b : Bool). cond (not b) (different (take at paths)) (different (take at paths) + 1)) e
        ∙ ap (λ (k : ℕ). k + 1) (sym counts.1 ∙ full);
  }
