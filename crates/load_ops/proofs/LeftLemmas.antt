-- What is left once tagged paths are gone, path by path: that a walk which goes past what stands below a tagged path finds it.
use Rattle.std.proofs.Common.{◌≡◌, ◌⊎◌, inl, inr, ⊎_elim, ℕ, Bool, T, true, false, cond, ◌&&◌, ◌||◌, List, [], ◌∷◌, ◌++◌, take, get_or, refl, sym, ap, subst, ◌∙◌, Option, Some, None, Ordering, Less, Equal, Greater, is_some, is_lt, is_le, length, ◌+◌, ◌<◌, ◌≤◌, append-nil, arith}
use Rattle.std.specs.Prelude.{IfSome}
use Rattle.std.proofs.lemmas.List.{append_assoc}
use Rattle.cfg_base.specs.declared.path.TheConstants.{MAX_STEPS}
use Rattle.cfg_schema.specs.declared.place.Place.{Place}
use Rattle.cfg_schema.specs.Place.{place_of}
use Rattle.cfg_schema.proofs.LevelLemmas.{shallow}
use Rattle.cfg_tree.specs.Tree.{ordered_head}
use Rattle.std.specs.List.{list_any, AllByRecursion}
use Rattle.std.specs.Ordering.{eq_by_cmp}
use Rattle.std.specs.BTreeSet.{BTreeSet, contains}
use Rattle.std.specs.FinMap.Entries.{find, is_sorted, below_all}
use Rattle.std.proofs.lemmas.List.{take_more}
use Rattle.cfg_base.specs.Order.{path_cmp}
use Rattle.cfg_base.specs.declared.path.Step.{Step}
use Rattle.cfg_base.specs.declared.value.Value.{Value}
use Rattle.cfg_entries.specs.EntryMap.{Pair}
use Rattle.cfg_entries.proofs.OrderLemmas.{flipped}
use Rattle.cfg_tree.specs.Statements.{is_below}
use Rattle.cfg_tree.proofs.MapLemmas.{same_path}
use Rattle.cfg_tree.proofs.BelowLemmas.{below_between, below_self}
use Rattle.cfg_tree.proofs.LimitLemmas.{same_either, met-push}
use Rattle.edit_ops.proofs.WayLemmas.{below_trans, below_not_after}
use Rattle.load_ops.specs.Left.{is_tagged, is_replaced, value_left, left_at}
use Rattle.load_ops.specs.Parts.{Knows, is_covered, entries_left}
use Rattle.load_ops.proofs.OrderLemmas.{first, second, is_less, find_none, found_all, all_less}

known_or : (a b : Bool) → cond a true b ≡ (b || a)
known_or true true = refl
known_or true false = refl
known_or false true = refl
known_or false false = refl

-- a set that learns the next path knows one more
pub known_more : (paths : List (List Step)) (at : ℕ) (path d : List Step) (known learnt : BTreeSet (List Step)) → at < length paths → path ≡ get_or paths at d
    → Knows (take at paths) known
    → ((other : List Step) → contains path_cmp learnt other ≡ cond (eq_by_cmp path_cmp path other) true (contains path_cmp known other))
    → Knows (take (at + 1) paths) learnt
known_more paths at path d known learnt l is knows learns q =
    learns q
    ∙ ap (λ (b : Bool). cond (eq_by_cmp path_cmp path q) true b) (knows q)
    ∙ known_or (eq_by_cmp path_cmp path q) (is_tagged (take at paths) q)
    ∙ ap (λ (b : Bool). is_tagged (take at paths) q || b) (same_either path q)
    ∙ sym (met-push (take at paths) path q)
    ∙ ap (λ (ps : List (List Step)). is_tagged ps q) (sym (take_more paths at d l ∙ ap (λ (p : List Step). take at paths ++ p ∷ []) (sym is)))

clash : (b : Bool) → b ≡ true → b ≡ false → ⊥
clash b t f = cc

either_first : (a b : Bool) → a ≡ true → (a || b) ≡ true
either_first true b h = refl
either_first false b h = cc

either_second : (a b : Bool) → b ≡ true → (a || b) ≡ true
either_second true b h = refl
either_second false b h = h

-- what holds of a tagged path holds of one of them
any_tag : (p : List Step → Bool) (tags : List (List Step)) (t : List Step) → is_tagged tags t ≡ true → p t ≡ true → list_any p tags ≡ true
any_tag p [] t h k = cc
any_tag p (x ∷ tags) t h k = by_tie (eq_by_cmp path_cmp t x) refl h (λ f. any_tag p tags t f k)
  where
    by_tie : (b : Bool) → eq_by_cmp path_cmp t x ≡ b → (b || is_tagged tags t) ≡ true → (is_tagged tags t ≡ true → list_any p tags ≡ true)
        → (p x || list_any p tags) ≡ true
    by_tie true e f go = either_first _ _ (ap p (sym ((same_path t x).0 e)) ∙ k)
    by_tie false e f go = either_second _ _ (go f)

-- a tagged path at or above another one
pub record Above (tags : List (List Step)) (path : List Step) : Type 0 where
  pub above : List Step
  pub tagged : is_tagged tags above ≡ true
  pub on_way : is_below above path ≡ true

pub above_of : (tags : List (List Step)) (path : List Step) → is_replaced tags path ≡ true → Above tags path
above_of [] path h = cc
above_of (x ∷ tags) path h = by_test (is_below x path) refl h (λ f. above_of tags path f)
  where
    by_test : (b : Bool) → is_below x path ≡ b → (b || is_replaced tags path) ≡ true → (is_replaced tags path ≡ true → Above tags path) → Above (x ∷ tags) path
    by_test true e f go = record { above = x; tagged = either_first _ _ ((same_path x x).1 refl); on_way = e }
    by_test false e f go =
        let rest = go f in record { above = rest.above; tagged = either_second _ _ rest.tagged; on_way = rest.on_way }

pub replaced_by_tag : (tags : List (List Step)) (t path : List Step) → is_tagged tags t ≡ true → is_below t path ≡ true → is_replaced tags path ≡ true
replaced_by_tag tags t path h k = any_tag (λ above. is_below above path) tags t h k

-- what is below a path that goes, goes
pub replaced_below : (tags : List (List Step)) (p q : List Step) → is_replaced tags p ≡ true → is_below p q ≡ true → is_replaced tags q ≡ true
replaced_below tags p q h k =
    let a = above_of tags p h in replaced_by_tag tags a.above q a.tagged (below_trans a.above p q a.on_way k)

abbrev pub is_there : List Step → List (Pair Value) → Bool
is_there q es = is_some (find path_cmp q es)

there_or : (q : List Step) (e : Pair Value) (es : List (Pair Value)) → is_there q (e ∷ es) ≡ true → (q ≡ e.0) ⊎ (is_there q es ≡ true)
there_or q e es h = by_tie (eq_by_cmp path_cmp q e.0) refl h
  where
    by_tie : (b : Bool) → eq_by_cmp path_cmp q e.0 ≡ b → is_some (cond b (Some e.1) (find path_cmp q es)) ≡ true → (q ≡ e.0) ⊎ (is_there q es ≡ true)
    by_tie true t f = inl ((same_path q e.0).0 t)
    by_tie false t f = inr f

there_rest : (q : List Step) (e : Pair Value) (es : List (Pair Value)) → is_there q es ≡ true → is_there q (e ∷ es) ≡ true
there_rest q e es h = by_tie (eq_by_cmp path_cmp q e.0)
  where
    by_tie : (b : Bool) → is_some (cond b (Some e.1) (find path_cmp q es)) ≡ true
    by_tie true = refl
    by_tie false = h

there_first : (e : Pair Value) (es : List (Pair Value)) → is_there e.0 (e ∷ es) ≡ true
there_first e es = ap (λ (b : Bool). is_some (cond b (Some e.1) (find path_cmp e.0 es))) ((same_path e.0 e.0).1 refl)

-- what is among entries that stand after a path is after it
there_behind : (k q : List Step) (es : List (Pair Value)) → T (below_all path_cmp k es) → is_there q es ≡ true → path_cmp k q ≡ Less
there_behind k q es h there = by_value (find path_cmp q es) refl there
  where
    by_value : (o : Option Value) → find path_cmp q es ≡ o → is_some o ≡ true → path_cmp k q ≡ Less
    by_value None f g = cc
    by_value (Some v) f g = found_all (λ p. path_cmp k p ≡ Less) q v es f (all_less k es h)

le_less : (o : Ordering) → o ≡ Less → is_le o ≡ true
le_less Less h = refl
le_less Equal h = cc
le_less Greater h = cc

all_behind : (k : List Step) (es : List (Pair Value)) → T (below_all path_cmp k es) → AllByRecursion (λ e. is_le (path_cmp k e.0) ≡ true) es
all_behind k [] h = tt
all_behind k (e ∷ es) h = (le_less _ (is_less _ (first _ _ h)), all_behind k es (second _ _ h))

-- a walk stands after a path that goes; what is tagged above what is left is that path, or above it, or is left too
pub record Passed (tags : List (List Step)) (gone : Option (List Step)) (left : List (Pair Value)) : Type 0 where
  pub sorted : T (is_sorted path_cmp left)
  pub goes : (g : List Step) → gone ≡ Some g → (is_replaced tags g ≡ true) × AllByRecursion (λ e. is_le (path_cmp g e.0) ≡ true) left
  pub above : (t q : List Step) → is_tagged tags t ≡ true → is_below t q ≡ true → is_there q left ≡ true → (is_covered gone q ≡ true) ⊎ (is_there t left ≡ true)

module _ (tags : List (List Step)) (gone : Option (List Step)) (left rest : List (Pair Value)) (path : List Step) (value : Value)
    (passed : Passed tags gone left) (next : left ≡ (path, value) ∷ rest) where
  here : Passed tags gone ((path, value) ∷ rest)
  here = subst (λ (xs : List (Pair Value)). Passed tags gone xs) next passed

  behind : T (below_all path_cmp path rest)
  behind = first _ _ here.sorted

  some_same : (a b : List Step) → Some a ≡ Some b → a ≡ b
  some_same a b e = cc

  -- what is below what went goes
  pub covered_goes : is_covered gone path ≡ true → is_replaced tags path ≡ true
  covered_goes h = by_gone gone refl h
    where
      by_gone : (o : Option (List Step)) → gone ≡ o → is_covered o path ≡ true → is_replaced tags path ≡ true
      by_gone None e f = cc
      by_gone (Some g) e f = replaced_below tags g path (here.goes g e).0 f

  pub tagged_goes : is_tagged tags path ≡ true → is_replaced tags path ≡ true
  tagged_goes h = replaced_by_tag tags path path h (below_self path)

  -- what is neither below it nor tagged stays
  pub other_stays : is_covered gone path ≡ false → is_tagged tags path ≡ false → is_replaced tags path ≡ false
  other_stays f g = by_test (is_replaced tags path) refl
    where
      none_above : Above tags path → ⊥
      none_above a =
          ⊎_elim
          (λ covered. clash _ covered f)
          (λ there.
          ⊎_elim
          (λ same. clash _ (subst (λ (p : List Step). is_tagged tags p ≡ true) same a.tagged) g)
          (λ later. below_not_after a.above path a.on_way (flipped path a.above (there_behind path a.above rest behind later)))
          (there_or a.above (path, value) rest there))
          (here.above a.above path a.tagged a.on_way (there_first (path, value) rest))

      by_test : (b : Bool) → is_replaced tags path ≡ b → b ≡ false
      by_test true e = absurd (none_above (above_of tags path e))
      by_test false e = refl

  goes_on : (g : List Step) → gone ≡ Some g → (is_replaced tags g ≡ true) × AllByRecursion (λ e. is_le (path_cmp g e.0) ≡ true) rest
  goes_on g e = let both = here.goes g e in (both.0, both.1.1)

  covers_more : (q : List Step) → is_covered gone path ≡ true → is_below path q ≡ true → is_covered gone q ≡ true
  covers_more q h k = by_gone gone h
    where
      by_gone : (o : Option (List Step)) → is_covered o path ≡ true → is_covered o q ≡ true
      by_gone None f = cc
      by_gone (Some g) f = below_trans g path q f k

  pub past_covered : is_covered gone path ≡ true → Passed tags gone rest
  past_covered h = record {
    sorted = second _ _ here.sorted;
    goes = goes_on;
    above = λ t q tagged below there.
        ⊎_elim
        (λ covered. inl covered)
        (λ found.
        ⊎_elim
        (λ same. inl (covers_more q h (subst (λ (p : List Step). is_below p q ≡ true) same below)))
        (λ later. inr later)
        (there_or t (path, value) rest found))
        (here.above t q tagged below (there_rest q (path, value) rest there));
  }

  -- nothing after a path that isn't below what went is
  covers_less : (q : List Step) → is_covered gone path ≡ false → is_there q rest ≡ true → is_covered gone q ≡ true → ⊥
  covers_less q f there h = by_gone gone refl f h
    where
      by_gone : (o : Option (List Step)) → gone ≡ o → is_covered o path ≡ false → is_covered o q ≡ true → ⊥
      by_gone None e u v = cc
      by_gone (Some g) e u v = clash _ (below_between g path q (here.goes g e).1.0 (there_behind path q rest behind there) v) u

  pub past_tagged : is_covered gone path ≡ false → is_tagged tags path ≡ true → Passed tags (Some path) rest
  past_tagged f h = record {
    sorted = second _ _ here.sorted;
    goes = λ g e. subst (λ (p : List Step). (is_replaced tags p ≡ true) × AllByRecursion (λ x. is_le (path_cmp p x.0) ≡ true) rest) (some_same path g e)
        (tagged_goes h, all_behind path rest behind);
    above = λ t q tagged below there.
        ⊎_elim
        (λ covered. absurd (covers_less q f there covered))
        (λ found.
        ⊎_elim
        (λ same. inl (subst (λ (p : List Step). is_below p q ≡ true) same below))
        (λ later. inr later)
        (there_or t (path, value) rest found))
        (here.above t q tagged below (there_rest q (path, value) rest there));
  }

  pub past_other : is_tagged tags path ≡ false → Passed tags gone rest
  past_other g = record {
    sorted = second _ _ here.sorted;
    goes = goes_on;
    above = λ t q tagged below there.
        ⊎_elim
        (λ covered. inl covered)
        (λ found.
        ⊎_elim
        (λ same. absurd (clash _ (subst (λ (p : List Step). is_tagged tags p ≡ true) same tagged) g))
        (λ later. inr later)
        (there_or t (path, value) rest found))
        (here.above t q tagged below (there_rest q (path, value) rest there));
  }

  -- the entries that are left, with the first one gone, and with it
  pub left_without : is_replaced tags path ≡ true → entries_left tags left ≡ entries_left tags rest
  left_without h =
      ap (λ (xs : List (Pair Value)). entries_left tags xs) next
      ∙ ap (λ (b : Bool). cond b (entries_left tags rest) ((path, value_left tags path value) ∷ entries_left tags rest)) h

  pub left_with : is_replaced tags path ≡ false → entries_left tags left ≡ (path, value_left tags path value) ∷ entries_left tags rest
  left_with h =
      ap (λ (xs : List (Pair Value)). entries_left tags xs) next
      ∙ ap (λ (b : Bool). cond b (entries_left tags rest) ((path, value_left tags path value) ∷ entries_left tags rest)) h

below_left : (tags : List (List Step)) (k : List Step) (es : List (Pair Value)) → T (below_all path_cmp k es) → T (below_all path_cmp k (entries_left tags es))
below_left tags k [] h = tt
below_left tags k (e ∷ es) h = by_test (is_replaced tags e.0) (below_left tags k es (second _ _ h))
  where
    by_less : (b : Bool) → b ≡ true → T (below_all path_cmp k (entries_left tags es)) → T (b && below_all path_cmp k (entries_left tags es))
    by_less true f g = g
    by_less false f g = cc

    lt : (o : Ordering) → o ≡ Less → is_lt o ≡ true
    lt o f = ap is_lt f

    by_test : (b : Bool) → T (below_all path_cmp k (entries_left tags es))
        → T (below_all path_cmp k (cond b (entries_left tags es) ((e.0, value_left tags e.0 e.1) ∷ entries_left tags es)))
    by_test true rest = rest
    by_test false rest = by_less _ (lt _ (is_less _ (first _ _ h))) rest

both_hold : (a b : Bool) → T a → T b → T (a && b)
both_hold true b h k = k
both_hold false b h k = absurd h

pub sorted_left : (tags : List (List Step)) (es : List (Pair Value)) → T (is_sorted path_cmp es) → T (is_sorted path_cmp (entries_left tags es))
sorted_left tags [] h = tt
sorted_left tags (e ∷ es) h = by_test (is_replaced tags e.0) (sorted_left tags es (second _ _ h))
  where
    by_test : (b : Bool) → T (is_sorted path_cmp (entries_left tags es))
        → T (is_sorted path_cmp (cond b (entries_left tags es) ((e.0, value_left tags e.0 e.1) ∷ entries_left tags es)))
    by_test true rest = rest
    by_test false rest = both_hold _ _ (below_left tags e.0 es (first _ _ h)) rest

-- what is found among the entries that are left
pub find_left : (tags : List (List Step)) (q : List Step) (es : List (Pair Value)) → T (is_sorted path_cmp es)
    → find path_cmp q (entries_left tags es) ≡ left_at tags q (find path_cmp q es)
find_left tags q [] h = refl
find_left tags q (e ∷ es) h =
    by_tests (eq_by_cmp path_cmp q e.0) (is_replaced tags e.0) refl refl (find_left tags q es (second _ _ h))
  where
    own : (p : List Step) (b : Bool) → is_replaced tags p ≡ b → left_at tags p (Some e.1) ≡ cond b None (Some (value_left tags p e.1))
    own p b f = ap (λ (c : Bool). cond c None (Some (value_left tags p e.1))) f

    by_tests : (t b : Bool) → eq_by_cmp path_cmp q e.0 ≡ t → is_replaced tags e.0 ≡ b
        → find path_cmp q (entries_left tags es) ≡ left_at tags q (find path_cmp q es)
        → find path_cmp q (cond b (entries_left tags es) ((e.0, value_left tags e.0 e.1) ∷ entries_left tags es))
        ≡ left_at tags q (cond t (Some e.1) (find path_cmp q es))
    by_tests true true f g go =
        let same = (same_path q e.0).0 f
        in subst (λ (p : List Step). find path_cmp p (entries_left tags es) ≡ left_at tags p (Some e.1)) (sym same)
        (find_none e.0 (entries_left tags es) (below_left tags e.0 es (first _ _ h)) ∙ sym (own e.0 true g))
    by_tests true false f g go =
        ap (λ (c : Bool). cond c (Some (value_left tags e.0 e.1)) (find path_cmp q (entries_left tags es))) f
        ∙ sym (ap (λ (p : List Step). left_at tags p (Some e.1)) ((same_path q e.0).0 f) ∙ own e.0 false g)
    by_tests false true f g go = go
    by_tests false false f g go = ap (λ (c : Bool). cond c (Some (value_left tags e.0 e.1)) (find path_cmp q (entries_left tags es))) f ∙ go

-- one more entry that is left
pub kept_on : (items more all parts rest : List (Pair Value)) (e f : Pair Value) → items ++ parts ≡ all → parts ≡ e ∷ rest → more ≡ items ++ f ∷ [] → f ≡ e
    → more ++ rest ≡ all
kept_on items more all parts rest e f whole first pushed same =
    ap (λ (xs : List (Pair Value)). xs ++ rest) (pushed ∙ ap (λ (p : Pair Value). items ++ p ∷ []) same)
    ∙ append_assoc items (e ∷ []) rest
    ∙ ap (λ (xs : List (Pair Value)). items ++ xs) (sym first)
    ∙ whole

pub kept_same : (items all parts rest : List (Pair Value)) → items ++ parts ≡ all → parts ≡ rest → items ++ rest ≡ all
kept_same items all parts rest whole same = ap (λ (xs : List (Pair Value)). items ++ xs) (sym same) ∙ whole

pub kept_all : (items all parts : List (Pair Value)) → items ++ parts ≡ all → parts ≡ [] → items ≡ all
kept_all items all parts whole none = sym (append-nil items) ∙ ap (λ (xs : List (Pair Value)). items ++ xs) (sym none) ∙ whole

pub told : (a b c : Bool) → a ≡ b → a ≡ c → b ≡ c
told a b c e f = sym e ∙ f

pub begun : (items xs ys : List (Pair Value)) → items ≡ [] → xs ≡ ys → items ++ xs ≡ ys
begun items xs ys none same = ap (λ (zs : List (Pair Value)). zs ++ xs) none ∙ same

-- a path with an ordered row below it takes one more step
head_of_none : (head : List ℕ) → ordered_head None ≡ Some head → ⊥
head_of_none head e = cc

pub takes_child : (path : List Step) (head : List ℕ) → ordered_head (place_of path) ≡ Some head → length path + 1 ≤ MAX_STEPS
takes_child path head e = by_place (place_of path) refl e (shallow path)
  where
    by_place : (o : Option Place) → place_of path ≡ o → ordered_head o ≡ Some head → IfSome o (λ _. length path ≤ 9) → length path + 1 ≤ MAX_STEPS
    by_place None f g h = absurd (head_of_none head g)
    by_place (Some here) f g h = omega (arith, h)
