-- What members that are put in turn have at a key.
use Rattle.std.proofs.Common.{◌≡◌, Bool, true, false, not, cond, ℕ, List, [], ◌∷◌, ◌++◌, refl, sym, ap, ◌∙◌, Option, Some}
use Rattle.std.specs.Prelude.{◌&&◌, ◌||◌}
use Rattle.std.specs.List.{AllByRecursion}
use Rattle.cfg_base.specs.Words.{lists, same_word}
use Rattle.cfg_schema.proofs.TestLemmas.{same, same_is}
use Rattle.serde_json.specs.Data.{Data, Members, put}
use Rattle.serde_json.specs.Find.{get_member}
use Rattle.serde_json.proofs.Views.{get_member-put, get_member-put_other}
use Rattle.json_text.specs.Written.{Pair, put_all}

get_put : (q k : List ℕ) (d : Data) (ms : Members) → get_member q (put k d ms) ≡ cond (same_word q k) (Some d) (get_member q ms)
get_put q k d ms = by_test (same_word q k) refl
  where
    by_test : (b : Bool) → same_word q k ≡ b → get_member q (put k d ms) ≡ cond b (Some d) (get_member q ms)
    by_test true e = ap (λ (w : List ℕ). get_member w (put k d ms)) (same q k e) ∙ get_member-put k d ms
    by_test false e = get_member-put_other q k d ms (λ f. let g : same_word q k ≡ true = same_is q k f in let c = sym e ∙ g in cc)

-- the value of the last pair with a key
abbrev pub last_with : List ℕ → Option Data → List Pair → Option Data
last_with key o [] = o
last_with key o (p ∷ ps) = last_with key (cond (same_word key p.0) (Some p.1) o) ps

pub get-put_all : (key : List ℕ) (ms : Members) (ps : List Pair) → get_member key (put_all ms ps) ≡ last_with key (get_member key ms) ps
get-put_all key ms [] = refl
get-put_all key ms (p ∷ ps) = get-put_all key (put p.0 p.1 ms) ps ∙ ap (λ (o : Option Data). last_with key o ps) (get_put key p.0 p.1 ms)

pub last-append : (key : List ℕ) (o : Option Data) (ps qs : List Pair) → last_with key o (ps ++ qs) ≡ last_with key (last_with key o ps) qs
last-append key o [] qs = refl
last-append key o (p ∷ ps) qs = last-append key (cond (same_word key p.0) (Some p.1) o) ps qs

-- each pair's key is among these
abbrev pub Among : List (List ℕ) → List Pair → Type 0
Among keys ps = AllByRecursion (λ p. lists keys p.0 ≡ true) ps

pub among-append : (keys : List (List ℕ)) (ps qs : List Pair) → Among keys ps → Among keys qs → Among keys (ps ++ qs)
among-append keys [] qs a b = b
among-append keys (p ∷ ps) qs a b = (a.0, among-append keys ps qs a.1 b)

pub among-more : (keys others : List (List ℕ)) → ((k : List ℕ) → lists keys k ≡ true → lists others k ≡ true) → (ps : List Pair) → Among keys ps → Among others ps
among-more keys others more [] a = tt
among-more keys others more (p ∷ ps) a = (more p.0 a.0, among-more keys others more ps a.1)

-- a key that isn't among them is found in none
pub last-none : (keys : List (List ℕ)) (key : List ℕ) (o : Option Data) (ps : List Pair) → lists keys key ≡ false → Among keys ps → last_with key o ps ≡ o
last-none keys key o [] other a = refl
last-none keys key o (p ∷ ps) other a =
    ap (λ (b : Bool). last_with key (cond b (Some p.1) o) ps) (apart (same_word key p.0) refl) ∙ last-none keys key o ps other a.1
  where
    apart : (b : Bool) → same_word key p.0 ≡ b → b ≡ false
    apart true e = let k : lists keys key ≡ true = ap (lists keys) (same key p.0 e) ∙ a.0 in let c = sym other ∙ k in cc
    apart false e = refl

-- lists of keys
either : (a b : Bool) → (a || b) ≡ true → (b ≡ false → a ≡ true)
either true b e f = refl
either false true e f = cc
either false false e f = e

pub lists-left : (xs ys : List (List ℕ)) (k : List ℕ) → lists xs k ≡ true → lists (xs ++ ys) k ≡ true
lists-left [] ys k h = cc
lists-left (x ∷ xs) ys k h = by_test (same_word k x) h (lists-left xs ys k)
  where
    by_test : (b : Bool) → (b || lists xs k) ≡ true → (lists xs k ≡ true → lists (xs ++ ys) k ≡ true) → (b || lists (xs ++ ys) k) ≡ true
    by_test true h go = refl
    by_test false h go = go h

pub lists-right : (xs ys : List (List ℕ)) (k : List ℕ) → lists ys k ≡ true → lists (xs ++ ys) k ≡ true
lists-right [] ys k h = h
lists-right (x ∷ xs) ys k h = by_test (same_word k x) (lists-right xs ys k h)
  where
    by_test : (b : Bool) → lists (xs ++ ys) k ≡ true → (b || lists (xs ++ ys) k) ≡ true
    by_test true go = refl
    by_test false go = go

-- each key once
abbrev pub distinct : List (List ℕ) → Bool
distinct [] = true
distinct (k ∷ ks) = not (lists ks k) && distinct ks

both : (a b : Bool) → (a && b) ≡ true → (a ≡ true) × (b ≡ true)
both true true e = (refl, refl)
both true false e = cc
both false b e = cc

not_true : (a : Bool) → not a ≡ true → a ≡ false
not_true false e = refl
not_true true e = cc

-- what is in the first part isn't in the rest
pub distinct-apart : (xs ys : List (List ℕ)) (k : List ℕ) → distinct (xs ++ ys) ≡ true → lists xs k ≡ true → lists ys k ≡ false
distinct-apart [] ys k d h = cc
distinct-apart (x ∷ xs) ys k d h = by_test (same_word k x) refl h (λ f. distinct-apart xs ys k (both _ _ d).1 f)
  where
    absent : same_word k x ≡ true → (c : Bool) → lists ys k ≡ c → c ≡ false
    absent e true g =
        let there = lists-right xs ys x (ap (lists ys) (sym (same k x e)) ∙ g) in let gone = not_true _ (both _ _ d).0 in let c = sym there ∙ gone in cc
    absent e false g = refl

    by_test : (b : Bool) → same_word k x ≡ b → (b || lists xs k) ≡ true → (lists xs k ≡ true → lists ys k ≡ false) → lists ys k ≡ false
    by_test true e f go = absent e (lists ys k) refl
    by_test false e f go = go f

pub distinct-after : (xs ys : List (List ℕ)) → distinct (xs ++ ys) ≡ true → distinct ys ≡ true
distinct-after [] ys d = d
distinct-after (x ∷ xs) ys d = distinct-after xs ys (both _ _ d).1

pub distinct-back : (xs ys : List (List ℕ)) (k : List ℕ) → distinct (xs ++ ys) ≡ true → lists ys k ≡ true → lists xs k ≡ false
distinct-back xs ys k d h = by_test (lists xs k) refl
  where
    by_test : (b : Bool) → lists xs k ≡ b → b ≡ false
    by_test true e = let gone = distinct-apart xs ys k d e in let c = sym h ∙ gone in cc
    by_test false e = refl
