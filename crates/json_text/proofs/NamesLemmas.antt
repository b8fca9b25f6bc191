-- The names of the objects of a list, one more at a time.
use Rattle.std.proofs.Common.{◌≡◌, ◌⊎◌, inl, inr, ◌<◌, ℕ, Bool, true, false, not, cond, ◌&&◌, List, [], ◌∷◌, ◌++◌, length, refl, sym, ap, subst, ◌∙◌, Option, Some, None, arith, append_assoc, append-nil, true≢false}
use Rattle.std.specs.Prelude.{◌||◌, Result, Ok, Err, IfOk, OnOk}
use Rattle.std.specs.List.{AllByRecursion, IsDistinct, list_all}
use Rattle.std.specs.List.Sorted.{IsStrictlySortedBy}
use Rattle.std.specs.Ordering.{is_lt}
use Rattle.std.specs.declared.cmp.Ordering.{Ordering}
use Rattle.std.specs.declared.cmp.Ordering.TheVariants.{Less, Equal, Greater}
use Rattle.std.specs.BTreeSet.{BTreeSet, contains}
use Rattle.std.proofs.lemmas.List.Folds.{list_all-append}
use Rattle.cfg_base.specs.Order.{word_cmp, words_total}
use Rattle.cfg_base.specs.Words.{Knows, lists, same_word}
use Rattle.json_text.specs.declared.names.Names.{Names}
use Rattle.json_text.specs.Said.{AreInOrder}
use Rattle.json_text.specs.Faults.{is_placed}
use Rattle.json_text.specs.Checking.{EndsIn, Keeps, Tracks, is_after}
use Rattle.json_text.proofs.WordsLemmas.{knows_more, distinct_more, is_new, none_distinct}

none_sorted : IsStrictlySortedBy word_cmp []
unfolding IsStrictlySortedBy
none_sorted = tt

none_in_order : (ordered : Bool) → AreInOrder ordered []
none_in_order true = none_distinct
none_in_order false = none_sorted

pub none_tracked : (ordered : Bool) (names : Names) → Knows [] names.known → names.last ≡ None → Tracks ordered [] names
none_tracked true names k e = record { in_order = none_in_order true; keeps = k }
none_tracked false names k e = record { in_order = none_in_order false; keeps = subst (λ (o : Option (List ℕ)). EndsIn [] o) (sym e) refl }

-- names that keep the user's order
not_listed : (b : Bool) → not b ≡ true → b ≡ false
not_listed true e = cc
not_listed false e = refl

pub tracked_known : (seen : List (List ℕ)) (name : List ℕ) (old new : Names) → Tracks true seen old
    → ((other : List ℕ) → contains word_cmp new.known other ≡ (same_word other name || contains word_cmp old.known other))
    → is_placed true seen name ≡ true → Tracks true (seen ++ name ∷ []) new
tracked_known seen name old new t step placed =
    record { in_order = distinct_more seen name t.in_order (not_listed (lists seen name) placed); keeps = knows_more seen name old.known new.known t.keeps step }

-- names in the order of their bytes
less : (o : Ordering) → is_lt o ≡ true → o ≡ Less
less Less e = refl
less Equal e = cc
less Greater e = cc

all_less : (seen : List (List ℕ)) (name : List ℕ) → list_all (λ other. is_lt (word_cmp other name)) seen ≡ true → AllByRecursion (λ other. word_cmp other name ≡ Less) seen
all_less [] name h = tt
all_less (x ∷ seen) name h = by_test (is_lt (word_cmp x name)) refl h (all_less seen name)
  where
    by_test : (b : Bool) → is_lt (word_cmp x name) ≡ b → (b && list_all (λ other. is_lt (word_cmp other name)) seen) ≡ true
        → (list_all (λ other. is_lt (word_cmp other name)) seen ≡ true → AllByRecursion (λ other. word_cmp other name ≡ Less) seen)
        → AllByRecursion (λ other. word_cmp other name ≡ Less) (x ∷ seen)
    by_test true e k go = (less (word_cmp x name) e, go k)
    by_test false e k go = cc

all_push : (P : List ℕ → Type 0) (xs : List (List ℕ)) (y : List ℕ) → AllByRecursion P xs → P y → AllByRecursion P (xs ++ y ∷ [])
all_push P [] y a p = (p, tt)
all_push P (x ∷ xs) y a p = (a.0, all_push P xs y a.1 p)

sorted_more : (seen : List (List ℕ)) (name : List ℕ) → IsStrictlySortedBy word_cmp seen → AllByRecursion (λ other. word_cmp other name ≡ Less) seen
    → IsStrictlySortedBy word_cmp (seen ++ name ∷ [])
unfolding IsStrictlySortedBy
sorted_more [] name s a = (tt, tt)
sorted_more (x ∷ seen) name s a = (all_push (λ y. word_cmp x y ≡ Less) seen name s.0 a.0, sorted_more seen name s.1 a.1)

-- names below the last are below one that is after it
all_below : (front : List (List ℕ)) (last : List ℕ) → IsStrictlySortedBy word_cmp (front ++ last ∷ []) → AllByRecursion (λ other. word_cmp other last ≡ Less) front
unfolding IsStrictlySortedBy
all_below [] last s = tt
all_below (x ∷ front) last s = (at_end front s.0, all_below front last s.1)
  where
    at_end : (ys : List (List ℕ)) → AllByRecursion (λ y. word_cmp x y ≡ Less) (ys ++ last ∷ []) → word_cmp x last ≡ Less
    at_end [] a = a.0
    at_end (y ∷ ys) a = at_end ys a.1

all_placed : (front : List (List ℕ)) (last name : List ℕ) → AllByRecursion (λ other. word_cmp other last ≡ Less) front → word_cmp last name ≡ Less
    → list_all (λ other. is_lt (word_cmp other name)) front ≡ true
all_placed [] last name a l = refl
all_placed (x ∷ front) last name a l =
    let below : word_cmp x name ≡ Less = words_total.trans x last name a.0 l
    in ap (λ (o : Ordering). is_lt o && list_all (λ other. is_lt (word_cmp other name)) front) below ∙ all_placed front last name a.1 l

and_last : (a b : Bool) → (b ≡ true → a ≡ true) → (a && (b && true)) ≡ b
and_last true true h = refl
and_last true false h = refl
and_last false true h = let c = h refl in cc
and_last false false h = refl

last_decides : (front : List (List ℕ)) (last name : List ℕ) → IsStrictlySortedBy word_cmp (front ++ last ∷ [])
    → is_placed false (front ++ last ∷ []) name ≡ is_lt (word_cmp last name)
last_decides front last name s =
    list_all-append (λ other. is_lt (word_cmp other name)) front (last ∷ [])
    ∙ and_last (list_all (λ other. is_lt (word_cmp other name)) front) (is_lt (word_cmp last name))
    (λ h. all_placed front last name (all_below front last s) (less (word_cmp last name) h))

ends_decide : (seen : List (List ℕ)) (last : Option (List ℕ)) (name : List ℕ) → EndsIn seen last → IsStrictlySortedBy word_cmp seen
    → is_after last name ≡ is_placed false seen name
ends_decide seen None name e s = sym (ap (λ (ns : List (List ℕ)). is_placed false ns name) e)
ends_decide seen (Some last) name e s =
    sym (ap (λ (ns : List (List ℕ)). is_placed false ns name) e.1
    ∙ last_decides e.0 last name (subst (λ (ns : List (List ℕ)). IsStrictlySortedBy word_cmp ns) e.1 s))

pub after_is_placed : (seen : List (List ℕ)) (name : List ℕ) (old : Names) → Tracks false seen old → is_after old.last name ≡ is_placed false seen name
after_is_placed seen name old t = ends_decide seen old.last name t.keeps t.in_order

pub tracked_last : (seen : List (List ℕ)) (name : List ℕ) (old new : Names) → Tracks false seen old → new.last ≡ Some name
    → is_placed false seen name ≡ true → Tracks false (seen ++ name ∷ []) new
tracked_last seen name old new t e placed = record {
  in_order = sorted_more seen name t.in_order (all_less seen name placed);
  keeps = subst (λ (o : Option (List ℕ)). EndsIn (seen ++ name ∷ []) o) (sym e) (seen, refl);
}

-- the two ways to put a name
abbrev IsPut : Bool → List (List ℕ) → List ℕ → Names → Bool → Type 0
IsPut ordered seen name new placed = (placed ≡ is_placed ordered seen name) × (placed ≡ true → Tracks ordered (seen ++ name ∷ []) new)

pub put_known : {E : Type 0} (result : Result Bool E) (ordered : Bool) → ordered ≡ true → (seen : List (List ℕ)) (name : List ℕ) (old new : Names) → Tracks ordered seen old
    → IfOk result (λ placed. placed ≡ not (contains word_cmp old.known name))
    → OnOk result ((other : List ℕ) → contains word_cmp new.known other ≡ (same_word other name || contains word_cmp old.known other))
    → IfOk result (IsPut ordered seen name new)
put_known (Err e) ordered o seen name old new t placed knows = tt
put_known (Ok new_one) false o seen name old new t placed knows = cc
put_known (Ok new_one) true o seen name old new t placed knows =
    let is : new_one ≡ is_placed true seen name = is_new seen name old.known new_one t.keeps placed in
    (is, λ e. tracked_known seen name old new t knows (sym is ∙ e))

pub put_last : {E : Type 0} (result : Result Bool E) (ordered : Bool) → ordered ≡ false → (seen : List (List ℕ)) (name : List ℕ) (old new : Names) → Tracks ordered seen old
    → IfOk result (λ placed. placed ≡ is_after old.last name) → IfOk result (λ placed. placed ≡ true → new.last ≡ Some name)
    → IfOk result (IsPut ordered seen name new)
put_last (Err e) ordered o seen name old new t placed last = tt
put_last (Ok after) true o seen name old new t placed last = cc
put_last (Ok after) false o seen name old new t placed last =
    let is : after ≡ is_placed false seen name = placed ∙ after_is_placed seen name old t in
    (is, λ e. tracked_last seen name old new t (last e) (sym is ∙ e))
