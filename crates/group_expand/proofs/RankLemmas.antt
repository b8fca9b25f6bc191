-- Offers by their ranks: what is joined for a step is what a walk over all offers of a level picks for it.
use Rattle.std.proofs.Common.{◌≡◌, ℕ, suc, ◌+◌, ◌<◌, Bool, true, false, not, nat_lt, cond, List, [], ◌∷◌, ◌++◌, filter, map, take, drop, get_or, length, refl, sym, ap, ◌∙◌, arith, append_assoc, is_none}
use Rattle.std.specs.Prelude.{◌&&◌, flat_map}
use Rattle.std.specs.List.{AllByRecursion, prefix_len}
use Rattle.cfg_base.specs.declared.path.Step.{Step}
use Rattle.group_expand.specs.Sources.{fits_wildcard}
use Rattle.group_expand.specs.Offer.{Offer, offer_for, is_for, is_wild}
use Rattle.group_expand.specs.Level.{Ranked, with_ranks, is_wild_at, is_unmatched, is_at}
use Rattle.group_expand.specs.Runs.{begins_own, comes_before, is_matched, joined}
use Rattle.group_expand.proofs.ListLemmas.{filter_map}

all_kept : {X : Type 0} (P : X → Type 0) (t : X → Bool) (xs : List X) → AllByRecursion P xs → AllByRecursion P (filter t xs)
all_kept P t [] h = tt
all_kept P t (x ∷ xs) h = by_test (t x) (all_kept P t xs h.1)
  where
    by_test : (b : Bool) → AllByRecursion P (filter t xs) → AllByRecursion P (cond b (x ∷ filter t xs) (filter t xs))
    by_test true k = (h.0, k)
    by_test false k = k

-- all have a rank after one
abbrev AreBehind : ℕ → List Ranked → Type 0
AreBehind rank rs = AllByRecursion (λ r. rank < r.rank) rs

ranked_behind : (rank from : ℕ) → rank < from → (os : List Offer) → AreBehind rank (with_ranks from os)
ranked_behind rank from l [] = tt
ranked_behind rank from l (o ∷ os) = (l, ranked_behind rank (from + 1) (omega (arith, l)) os)

take_more : {X : Type 0} (x : X) (xs : List X) (k : ℕ) → take (1 + k) (x ∷ xs) ≡ x ∷ take k xs
take_more x xs k = let e : 1 + k ≡ suc k = omega arith in ap (λ (j : ℕ). take j (x ∷ xs)) e

drop_more : {X : Type 0} (x : X) (xs : List X) (k : ℕ) → drop (1 + k) (x ∷ xs) ≡ drop k xs
drop_more x xs k = let e : 1 + k ≡ suc k = omega arith in ap (λ (j : ℕ). drop j (x ∷ xs)) e

-- the offers without their ranks
pub offers_ranked : (rank : ℕ) (os : List Offer) → map (λ r. r.offer) (with_ranks rank os) ≡ os
offers_ranked rank [] = refl
offers_ranked rank (o ∷ os) = ap (λ (xs : List Offer). o ∷ xs) (offers_ranked (rank + 1) os)

pub plain_ranked : (rank : ℕ) (os : List Offer) → map (λ r. r.offer) (filter is_unmatched (with_ranks rank os)) ≡ filter (λ o. not (is_wild o)) os
plain_ranked rank os =
    sym (filter_map (λ (o : Offer). not (is_wild o)) (λ (r : Ranked). r.offer) (with_ranks rank os)) ∙ ap (filter (λ (o : Offer). not (is_wild o))) (offers_ranked rank os)

abbrev pub begins : List Offer → Bool
begins [] = false
begins (o ∷ os) = is_none o.group

begins_map : (rs : List Ranked) → begins_own rs ≡ begins (map (λ r. r.offer) rs)
begins_map [] = refl
begins_map (r ∷ rs) = refl

-- whether the plain offers for a step begin with the configuration's own
pub begins_ranked : (s : Step) (rank : ℕ) (os : List Offer)
    → begins_own (filter (is_at s) (filter is_unmatched (with_ranks rank os))) ≡ begins (filter (is_for s) (filter (λ o. not (is_wild o)) os))
begins_ranked s rank os =
    begins_map (filter (is_at s) (filter is_unmatched (with_ranks rank os)))
    ∙ ap begins (sym (filter_map (is_for s) (λ (r : Ranked). r.offer) (filter is_unmatched (with_ranks rank os))))
    ∙ ap (λ (xs : List Offer). begins (filter (is_for s) xs)) (plain_ranked rank os)

module _ (s : Step) where
  -- an offer before all wildcards that are left, and a wildcard before all offers that are left
  joined_first : (r : Ranked) (rs ws : List Ranked) → AreBehind r.rank ws → joined s (r ∷ rs) ws ≡ r.offer ∷ joined s rs ws
  joined_first r rs [] h = refl
  joined_first r rs (w ∷ ws) h =
      ap (λ (b : Bool). map (λ (x : Ranked). x.offer) (take (cond b (1 + prefix_len (comes_before w.rank) rs) 0) (r ∷ rs))
      ++ offer_for s w.offer ∷ joined s (drop (cond b (1 + prefix_len (comes_before w.rank) rs) 0) (r ∷ rs)) ws) earlier
      ∙ ap (λ (xs : List Ranked). map (λ (x : Ranked). x.offer) xs ++ offer_for s w.offer ∷ joined s (drop (1 + prefix_len (comes_before w.rank) rs) (r ∷ rs)) ws)
      (take_more r rs (prefix_len (comes_before w.rank) rs))
      ∙ ap (λ (xs : List Ranked). r.offer ∷ (map (λ (x : Ranked). x.offer) (take (prefix_len (comes_before w.rank) rs) rs) ++ offer_for s w.offer ∷ joined s xs ws))
      (drop_more r rs (prefix_len (comes_before w.rank) rs))
    where
      earlier : nat_lt r.rank w.rank ≡ true
      earlier = let k = h.0 in grind (arith, k)

  joined_wild : (w : Ranked) (rs ws : List Ranked) → AreBehind w.rank rs → joined s rs (w ∷ ws) ≡ offer_for s w.offer ∷ joined s rs ws
  joined_wild w [] ws h = refl
  joined_wild w (r ∷ rs) ws h =
      ap (λ (b : Bool). map (λ (x : Ranked). x.offer) (take (cond b (1 + prefix_len (comes_before w.rank) rs) 0) (r ∷ rs))
      ++ offer_for s w.offer ∷ joined s (drop (cond b (1 + prefix_len (comes_before w.rank) rs) 0) (r ∷ rs)) ws) later
    where
      later : nat_lt r.rank w.rank ≡ false
      later = let k = h.0 in grind (arith, k)

  -- what an offer of a level gives for a step, where its wildcards may match
  abbrev pub picked : Bool → Offer → List Offer
  picked may o = cond (is_wild o) (cond (may && fits_wildcard s o.step) (offer_for s o ∷ []) []) (cond (is_for s o) (o ∷ []) [])

  abbrev plain_at : ℕ → List Offer → List Ranked
  plain_at rank os = filter (is_at s) (filter is_unmatched (with_ranks rank os))

  abbrev wild_at : ℕ → List Offer → List Ranked
  wild_at rank os = filter (is_matched s) (filter is_wild_at (with_ranks rank os))

  pub joined_is : (b : Bool) (rank : ℕ) (os : List Offer) → joined s (plain_at rank os) (cond b (wild_at rank os) []) ≡ flat_map (picked b) os
  joined_is true rank [] = refl
  joined_is false rank [] = refl
  joined_is b rank (o ∷ os) = by_tests (is_wild o) (is_for s o) (fits_wildcard s o.step) b refl refl refl (joined_is b (rank + 1) os)
    where
      at : Ranked
      at = record { rank = rank; offer = o }

      plain_behind : AreBehind rank (plain_at (rank + 1) os)
      plain_behind = all_kept _ (is_at s) (filter is_unmatched (with_ranks (rank + 1) os)) (all_kept _ is_unmatched (with_ranks (rank + 1) os) (ranked_behind rank (rank + 1) (omega arith) os))

      wild_behind : AreBehind rank (wild_at (rank + 1) os)
      wild_behind = all_kept _ (is_matched s) (filter is_wild_at (with_ranks (rank + 1) os)) (all_kept _ is_wild_at (with_ranks (rank + 1) os) (ranked_behind rank (rank + 1) (omega arith) os))

      may_behind : (may : Bool) → AreBehind rank (cond may (wild_at (rank + 1) os) [])
      may_behind true = wild_behind
      may_behind false = tt

      by_tests : (wild same fits may : Bool) → is_wild o ≡ wild → is_for s o ≡ same → fits_wildcard s o.step ≡ fits
          → joined s (plain_at (rank + 1) os) (cond may (wild_at (rank + 1) os) []) ≡ flat_map (picked may) os
          → joined s (filter (is_at s) (cond (not wild) (at ∷ filter is_unmatched (with_ranks (rank + 1) os)) (filter is_unmatched (with_ranks (rank + 1) os))))
          (cond may (filter (is_matched s) (cond wild (at ∷ filter is_wild_at (with_ranks (rank + 1) os)) (filter is_wild_at (with_ranks (rank + 1) os)))) [])
          ≡ cond wild (cond (may && fits) (offer_for s o ∷ []) []) (cond same (o ∷ []) []) ++ flat_map (picked may) os
      by_tests true same true true e f g go =
          ap (λ (c : Bool). joined s (plain_at (rank + 1) os) (cond c (at ∷ wild_at (rank + 1) os) (wild_at (rank + 1) os))) g
          ∙ joined_wild at (plain_at (rank + 1) os) (wild_at (rank + 1) os) plain_behind ∙ ap (λ (xs : List Offer). offer_for s o ∷ xs) go
      by_tests true same false true e f g go =
          ap (λ (c : Bool). joined s (plain_at (rank + 1) os) (cond c (at ∷ wild_at (rank + 1) os) (wild_at (rank + 1) os))) g ∙ go
      by_tests true same fits false e f g go = go
      by_tests false true fits may e f g go =
          ap (λ (c : Bool). joined s (cond c (at ∷ plain_at (rank + 1) os) (plain_at (rank + 1) os)) (cond may (wild_at (rank + 1) os) [])) f
          ∙ joined_first at (plain_at (rank + 1) os) (cond may (wild_at (rank + 1) os) []) (may_behind may) ∙ ap (λ (xs : List Offer). o ∷ xs) go
      by_tests false false fits may e f g go =
          ap (λ (c : Bool). joined s (cond c (at ∷ plain_at (rank + 1) os) (plain_at (rank + 1) os)) (cond may (wild_at (rank + 1) os) [])) f ∙ go

  -- one wildcard more, which matches or doesn't
  pub joined_more : (made part new : List Offer) (left rest : List Ranked) (w : Ranked) (fits : Bool) (count : ℕ) → fits ≡ is_matched s w
      → count ≡ cond fits (prefix_len (comes_before w.rank) left) 0 → part ≡ made ++ map (λ r. r.offer) (take count left) → new ≡ part ++ cond fits (offer_for s w.offer ∷ []) []
      → rest ≡ drop count left → (more : List Ranked) → new ++ joined s rest more ≡ made ++ joined s left (cond (is_matched s w) (w ∷ more) more)
  joined_more made part new left rest w fits count is counted partly whole behind more =
      ap (λ (os : List Offer). os ++ joined s rest more) (whole ∙ ap (λ (os : List Offer). os ++ cond fits (offer_for s w.offer ∷ []) []) partly)
      ∙ append_assoc (made ++ map (λ r. r.offer) (take count left)) (cond fits (offer_for s w.offer ∷ []) []) (joined s rest more)
      ∙ append_assoc made (map (λ r. r.offer) (take count left)) (cond fits (offer_for s w.offer ∷ []) [] ++ joined s rest more)
      ∙ ap (λ (rs : List Ranked). made ++ (map (λ r. r.offer) (take count left) ++ (cond fits (offer_for s w.offer ∷ []) [] ++ joined s rs more))) behind
      ∙ ap (λ (n : ℕ). made ++ (map (λ r. r.offer) (take n left) ++ (cond fits (offer_for s w.offer ∷ []) [] ++ joined s (drop n left) more))) counted
      ∙ ap (λ (os : List Offer). made ++ os) (by_fit fits)
      ∙ ap (λ (b : Bool). made ++ joined s left (cond b (w ∷ more) more)) is
    where
      by_fit : (b : Bool)
          → map (λ r. r.offer) (take (cond b (prefix_len (comes_before w.rank) left) 0) left)
          ++ (cond b (offer_for s w.offer ∷ []) [] ++ joined s (drop (cond b (prefix_len (comes_before w.rank) left) 0) left) more)
          ≡ joined s left (cond b (w ∷ more) more)
      by_fit true = refl
      by_fit false = refl

  -- the same of the first of the wildcards that are left
  pub first_more : (made part new : List Offer) (left rest : List Ranked) (wild more : List Ranked) (w : Ranked) (fits : Bool) (count : ℕ) (all : List Offer) → 0 < length wild → w ≡ get_or wild 0 w
      → fits ≡ is_matched s w → count ≡ cond fits (prefix_len (comes_before w.rank) left) 0 → part ≡ made ++ map (λ r. r.offer) (take count left)
      → new ≡ part ++ cond fits (offer_for s w.offer ∷ []) [] → rest ≡ drop count left → more ≡ drop 1 wild
      → made ++ joined s left (filter (is_matched s) wild) ≡ all → new ++ joined s rest (filter (is_matched s) more) ≡ all
  first_more made part new left rest [] more w fits count all some first is counted partly whole behind on e = absurd (omega (arith, some))
  first_more made part new left rest (x ∷ xs) more w fits count all some first is counted partly whole behind on e =
      ap (λ (ws : List Ranked). new ++ joined s rest (filter (is_matched s) ws)) on
      ∙ joined_more made part new left rest w fits count is counted partly whole behind (filter (is_matched s) xs)
      ∙ ap (λ (y : Ranked). made ++ joined s left (cond (is_matched s y) (y ∷ filter (is_matched s) xs) (filter (is_matched s) xs))) first
      ∙ e
