-- Above a path of the expansion stand paths of the expansion.
use Rattle.std.proofs.Common.{◌≡◌, ◌≢◌, ◌⊎◌, inl, inr, ◌<◌, Bool, true, false, not, cond, List, [], ◌∷◌, ◌++◌, length, filter, map, refl, sym, ap, subst, ◌∙◌, arith, Some, is_some}
use Rattle.std.specs.Prelude.{IsSome, ◌&&◌, ◌||◌}
use Rattle.std.specs.List.{flat_map, list_any}
use Rattle.cfg_base.specs.Words.{lists}
use Rattle.cfg_base.specs.declared.path.Step.{Step}
use Rattle.group_expand.specs.Live.{Look, is_live, live_from, live_words, words_of}
use Rattle.group_expand.specs.Sources.{source, apply_step, is_wildcard, is_outside, is_plain, applied, excepted, fitting, fitting_below, sources}
use Rattle.group_expand.specs.Expansion.{is_apply, is_own, first_gift, gift_at}
use Rattle.group_expand.specs.Front.{grown, raw, front, applied_at, kept_at}
use Rattle.group_expand.proofs.FrontLemmas.{raw_more}
use Rattle.group_expand.specs.Sources.{Source}

pub both : (a b : Bool) → (a && b) ≡ true → (a ≡ true) × (b ≡ true)
both true b e = (refl, e)
both false b e = cc

-- what is live has live paths above
pub live_above : (look : Look) (above rest : List Step) (s : Step) → live_from look above (rest ++ s ∷ []) ≡ true → live_from look above rest ≡ true
live_above look above [] s e = refl
live_above look above (t ∷ rest) s e =
    let h = both _ _ e in ap (λ (b : Bool). b && live_from look (above ++ t ∷ []) rest) h.0 ∙ live_above look (above ++ t ∷ []) rest s h.1

outside_above : (p : List Step) (s : Step) → p ≢ [] → is_outside (p ++ s ∷ []) ≡ is_outside p
outside_above [] s h = absurd (h refl)
outside_above (t ∷ p) s h = refl

wild_above : (p : List Step) (s : Step) → list_any (λ (t : Step). is_wildcard t.name) (p ++ s ∷ []) ≡ false → list_any (λ (t : Step). is_wildcard t.name) p ≡ false
wild_above [] s e = refl
wild_above (t ∷ p) s e = by_test (is_wildcard t.name) e (wild_above p s)
  where
    by_test : (b : Bool) → (b || list_any (λ (t : Step). is_wildcard t.name) (p ++ s ∷ [])) ≡ false
        → (list_any (λ (t : Step). is_wildcard t.name) (p ++ s ∷ []) ≡ false → list_any (λ (t : Step). is_wildcard t.name) p ≡ false)
        → (b || list_any (λ (t : Step). is_wildcard t.name) p) ≡ false
    by_test true e go = e
    by_test false e go = go e

pub negated : (b : Bool) → not b ≡ true → b ≡ false
negated true e = cc
negated false e = refl

plain_above : (p : List Step) (s : Step) → is_plain (p ++ s ∷ []) ≡ true → is_plain p ≡ true
plain_above p s e = ap not (wild_above p s (negated _ e))

-- some element
pub record HasOne {X : Type 0} (xs : List X) : Type 0 where
  pub has : 0 < length xs

some_of_flat : {X Y : Type 0} (f : X → List Y) (xs : List X) → HasOne (flat_map f xs) → HasOne xs
some_of_flat f [] h = absurd (let m = h.has in omega arith)
some_of_flat f (x ∷ xs) h = record { has = omega arith }

some_of_filter : {X : Type 0} (t : X → Bool) (xs : List X) → HasOne (filter t xs) → HasOne xs
some_of_filter t [] h = h
some_of_filter t (x ∷ xs) h = record { has = omega arith }

pub some_of_append : {X : Type 0} (xs ys : List X) → HasOne (xs ++ ys) → HasOne xs ⊎ HasOne ys
some_of_append [] ys h = inr h
some_of_append (x ∷ xs) ys h = inl (record { has = omega arith })

module _ (look : Look) (kids : List Step → List Step) where
  words_live : (p : List Step) → HasOne (live_words look p) → is_live look p ≡ true
  words_live p h = by_test (is_live look p) refl h
    where
      by_test : (b : Bool) → is_live look p ≡ b → HasOne (cond b (words_of (look p)) []) → is_live look p ≡ true
      by_test true e k = e
      by_test false e k = absurd (let m = k.has in omega arith)

  -- a path that brings something to its children is live and no apply statement, or has sources
  front_some : ((p : List Step) (s : Step) → is_live look (p ++ s ∷ []) ≡ true → is_apply p ≡ false)
      → (p : List Step) → HasOne (front look kids p) → ((is_live look p ≡ true) × (is_apply p ≡ false)) ⊎ HasOne (raw look kids p)
  unfolding front
  front_some apart p h = elim (some_of_append (flat_map (λ g. map (source g) (fitting look kids g p)) (applied_at look kids p)) (kept_at look kids p) h) [
    | inl k ↦
        let some : HasOne (applied look kids p)
        = some_of_filter (λ g. not (lists (excepted look kids p) g || false)) (applied look kids p) (some_of_flat (λ g. map (source g) (fitting look kids g p)) (applied_at look kids p) k)
        in let l = words_live (p ++ apply_step ∷ []) some
        in inl (live_above look [] p apply_step l, apart p apply_step l)
    | inr k ↦ inr (some_of_filter (λ x. not (lists (excepted look kids p) x.group)) (raw look kids p) k)
  ]

  first_full : (xs : List Source) → IsSome (first_gift look xs) → HasOne xs
  first_full [] h = cc
  first_full (x ∷ xs) h = record { has = omega arith }

  full_first : (xs : List Source) → HasOne xs → IsSome (first_gift look xs)
  full_first [] h = absurd (let m = h.has in omega arith)
  full_first (x ∷ xs) h = refl

  -- what a path without an apply statement's end has, by its parts
  pub gift_parts : (p : List Step) → IsSome (gift_at look kids p)
      → (is_live look p ≡ true) × (is_outside p ≡ true) × (is_apply p ≡ false) ⊎ ((is_outside p ≡ true) × (is_plain p ≡ true) × HasOne (raw look kids p))
  gift_parts p h = by_own (is_own look p) refl h
    where
      by_plain : (b : Bool) → (is_outside p && is_plain p) ≡ b → IsSome (first_gift look (cond b (raw look kids p) []))
          → (is_outside p ≡ true) × (is_plain p ≡ true) × HasOne (raw look kids p)
      by_plain true e k = let t = both _ _ e in (t.0, t.1, first_full _ k)
      by_plain false e k = cc

      by_own : (b : Bool) → is_own look p ≡ b → IsSome (cond b (Some (record { words = words_of (look p); group = [] })) (first_gift look (sources look kids p)))
          → (is_live look p ≡ true) × (is_outside p ≡ true) × (is_apply p ≡ false) ⊎ ((is_outside p ≡ true) × (is_plain p ≡ true) × HasOne (raw look kids p))
      by_own true e k = let t = both _ _ e in let u = both _ _ t.1 in inl (t.0, u.0, negated _ u.1)
      by_own false e k = inr (by_plain _ refl k)

  gift_own : (p : List Step) → is_live look p ≡ true → is_outside p ≡ true → is_apply p ≡ false → IsSome (gift_at look kids p)
  gift_own p l o a =
      let e : is_own look p ≡ true
      = ap (λ (b : Bool). b && (is_outside p && not (is_apply p))) l ∙ ap (λ (b : Bool). b && not (is_apply p)) o ∙ ap not a
      in ap (λ (b : Bool). is_some (cond b (Some (record { words = words_of (look p); group = [] })) (first_gift look (sources look kids p)))) e

  gift_given : (p : List Step) → is_outside p ≡ true → is_plain p ≡ true → HasOne (raw look kids p) → IsSome (gift_at look kids p)
  gift_given p o a h = by_own (is_own look p)
    where
      e : (is_outside p && is_plain p) ≡ true
      e = ap (λ (b : Bool). b && is_plain p) o ∙ a

      by_own : (b : Bool) → IsSome (cond b (Some (record { words = words_of (look p); group = [] })) (first_gift look (sources look kids p)))
      by_own true = refl
      by_own false = ap (λ (b : Bool). is_some (first_gift look (cond b (raw look kids p) []))) e ∙ full_first _ h

  -- the parent of a path of the expansion is in it, where no live path stands below an apply statement
  pub gift_above : ((p : List Step) (s : Step) → is_live look (p ++ s ∷ []) ≡ true → is_apply p ≡ false)
      → (p : List Step) (s : Step) → p ≢ [] → IsSome (gift_at look kids (p ++ s ∷ [])) → IsSome (gift_at look kids p)
  gift_above apart p s some h = elim (gift_parts (p ++ s ∷ []) h) [
    | inl (l, o, a) ↦ gift_own p (live_above look [] p s l) (sym (outside_above p s some) ∙ o) (apart p s l)
    | inr (o, a, r) ↦
        let f : HasOne (front look kids p) = some_of_flat (grown (fitting_below look kids (is_live look (p ++ s ∷ [])) s)) (front look kids p) (subst (λ (xs : List Source). HasOne xs) (raw_more look kids p s) r)
        in elim (front_some apart p f) [
          | inl (l, b) ↦ gift_own p l (sym (outside_above p s some) ∙ o) b
          | inr k ↦ gift_given p (sym (outside_above p s some) ∙ o) (plain_above p s a) k
        ]
  ]
