-- A value with a fault means nothing.
use Rattle.std.proofs.Common.{◌≡◌, ◌⊎◌, inl, inr, ◌<◌, ℕ, zero, suc, length, Bool, true, false, not, cond, ◌&&◌, List, [], ◌∷◌, ◌++◌, refl, sym, ap, subst, ◌∙◌, Option, Some, None, decimal, if◌then◌else◌, arith}
use Rattle.std.specs.Prelude.{◌||◌, find}
use Rattle.std.specs.List.{AllByRecursion, IsDistinct, list_all}
use Rattle.std.specs.List.Sorted.{IsStrictlySortedBy}
use Rattle.std.specs.Ordering.{nat_cmp, match_ordering, is_lt}
use Rattle.std.specs.Cmp.Lexicographic.{slice_cmp}
use Rattle.std.specs.declared.cmp.Ordering.{Ordering}
use Rattle.std.specs.declared.cmp.Ordering.TheVariants.{Less, Equal, Greater}
use Rattle.std.proofs.lemmas.Map.Lookups.{exact_bytes}
use Rattle.cfg_base.specs.Order.{word_cmp}
use Rattle.cfg_base.specs.Words.{lists, same_word}
use Rattle.cfg_base.specs.declared.kind.Kind.{Kind}
use Rattle.cfg_base.specs.declared.kind.Shape.{Shape}
use Rattle.cfg_base.specs.declared.kind.Shape.TheVariants.{Container, Fixed, Keyed, Bare, Leaf, Flag, Many}
use Rattle.cfg_base.specs.declared.path.Step.{Step}
use Rattle.cfg_base.specs.declared.path.TheConstants.{MAX_STEPS}
use Rattle.cfg_schema.specs.Profile.{row_of, head_of, is_level, rows_below}
use Rattle.cfg_schema.proofs.TestLemmas.{both, not_true, same, same_is}
use Rattle.cfg_tree.specs.Statements.{Statements}
use Rattle.cfg_tree.specs.Tree.{step_of}
use Rattle.cfg_values.specs.Spelling.{IsSpelling, IsCanonicalOf}
use Rattle.cfg_values.proofs.SpellingLemmas.{IsCanonicalOf-unique}
use Rattle.serde_json.specs.Data.{Data, Num, unsigned, negative, float, null, boolean, number, string, array, object, Items, no_items, item, Members, no_members, member}
use Rattle.serde_json.specs.Find.{get_member}
use Rattle.json_text.specs.declared.fault.JsonFault.{JsonFault}
use Rattle.json_text.specs.declared.fault.JsonFault.TheVariants.{Form}
use Rattle.json_text.specs.Keys.{name_key, marks_key, key_of, row_keys, own_keys, keys_below, keys_at}
use Rattle.json_text.specs.Said.{Item, Spot, spot_at, IsNumberOf, IsWordOf, AreWordsOf, AreManyWords, AreInOrder, IsNameIn, SaysLevel, SaysObject, SaysEach, SaysList, IsLeafWord, IsTrueFlag, SaysRow, SaysRowIf, SaysRows, AreKeys, SaysInside, top_spot, Says, single_of}
use Rattle.json_text.specs.declared.key.KeyKind.{KeyKind}
use Rattle.json_text.specs.declared.key.KeyKind.TheVariants.{Own, OfRow, OfMarks, NoKey}
use Rattle.json_text.specs.Faults.{has_key, has_marks_key, kind_by, kind_among, key_kind, single_path, AreNoMarksAt, NumberFault, LeafNumberFault, LeafFault, WordsFault, ManyFault, is_placed, LevelFault, ObjectFault, NameFault, HasName, ItemsFault, ListFault, RowFault, MemberFault, MembersFault, FaultInside, whole, IsFirstFault}
use Rattle.json_text.proofs.OneLemmas.{some_same, string_same, array_same, name_same}

-- words
pub spelled : (kind : Kind) (bytes word : List ℕ) → IsCanonicalOf kind bytes word → IsSpelling kind bytes
spelled kind bytes word c = record { value = c.value; spells = c.spells }

number_apart : (kind : Kind) (path : List Step) (n : Num) (f : JsonFault) (word : List ℕ) → LeafNumberFault kind path n f → IsNumberOf kind n word → ⊥
number_apart kind path (unsigned n) f word (inl x) y = let bad : NumberFault kind path (unsigned n) f = x.1 in bad.0 (spelled kind (decimal n) word y.1)
number_apart kind path (unsigned n) f word (inr x) y = x.0 y.0
number_apart kind path (negative z) f word x y = y
number_apart kind path (float v) f word x y = y

pub leaf_apart : (kind : Kind) (path : List Step) (d : Data) (f : JsonFault) (word : List ℕ) → LeafFault kind path d f → IsWordOf kind d word → ⊥
leaf_apart kind path null f word x y = y
leaf_apart kind path (boolean b) f word x y = y
leaf_apart kind path (number n) f word x y = number_apart kind path n f word x y
leaf_apart kind path (string s) f word x y = x.0 (spelled kind s word y)
leaf_apart kind path (array ds) f word x y = y
leaf_apart kind path (object ms) f word x y = y

pub not_both : (b : Bool) → b ≡ true → b ≡ false → ⊥
not_both true e f = cc
not_both false e f = cc

swapped : (v w : List ℕ) → same_word v w ≡ false → same_word w v ≡ false
swapped v w h = by_test (same_word w v) refl
  where
    by_test : (b : Bool) → same_word w v ≡ b → b ≡ false
    by_test true e = absurd (not_both (same_word v w) (same_is v w (sym (same w v e))) h)
    by_test false e = refl

not_pushed : (seen : List (List ℕ)) (v w : List ℕ) → lists seen w ≡ false → same_word w v ≡ false → lists (seen ++ v ∷ []) w ≡ false
not_pushed [] v w h k = ap (λ (t : Bool). t || false) k
not_pushed (x ∷ seen) v w h k = by_test (same_word w x) refl h (λ r. not_pushed seen v w r k)
  where
    by_test : (b : Bool) → same_word w x ≡ b → (b || lists seen w) ≡ false → (lists seen w ≡ false → lists (seen ++ v ∷ []) w ≡ false)
        → (same_word w x || lists (seen ++ v ∷ []) w) ≡ false
    by_test true e r go = cc
    by_test false e r go = ap (λ (t : Bool). t || lists (seen ++ v ∷ []) w) e ∙ go r

unseen : (seen : List (List ℕ)) (v : List ℕ) (words : List (List ℕ)) → AllByRecursion (λ y. same_word v y ≡ false) words
    → AllByRecursion (λ w. lists seen w ≡ false) words → AllByRecursion (λ w. lists (seen ++ v ∷ []) w ≡ false) words
unseen seen v [] d a = tt
unseen seen v (w ∷ words) d a = (not_pushed seen v w a.0 (swapped v w d.0), unseen seen v words d.1 a.1)

none_seen : (words : List (List ℕ)) → AllByRecursion (λ w. lists [] w ≡ false) words
none_seen [] = tt
none_seen (w ∷ words) = (refl, none_seen words)

words_next : (kind : Kind) (path : List Step) (seen : List (List ℕ)) (s : List ℕ) (ds : Items) (w : List ℕ) (f : JsonFault) (word : List ℕ)
    → IsCanonicalOf kind s word → ((lists seen word ≡ true) × (f ≡ Form path)) ⊎ ((lists seen word ≡ false) × WordsFault kind path (seen ++ word ∷ []) ds f)
    → IsCanonicalOf kind s w → lists seen w ≡ false → (WordsFault kind path (seen ++ w ∷ []) ds f → ⊥) → ⊥
words_next kind path seen s ds w f word canon (inl t) c a go =
    not_both (lists seen w) (ap (lists seen) (IsCanonicalOf-unique kind s w word c canon) ∙ t.0) a
words_next kind path seen s ds w f word canon (inr t) c a go =
    go (subst (λ (v : List ℕ). WordsFault kind path (seen ++ v ∷ []) ds f) (IsCanonicalOf-unique kind s word w canon c) t.1)

words_apart : (kind : Kind) (path : List Step) (seen : List (List ℕ)) (ds : Items) (words : List (List ℕ)) (f : JsonFault)
    → WordsFault kind path seen ds f → AreWordsOf kind ds words → IsDistinct same_word words → AllByRecursion (λ w. lists seen w ≡ false) words → ⊥
unfolding IsDistinct
words_apart kind path seen no_items words f x y d a = x
words_apart kind path seen (item (string s) ds) [] f x y d a = y
words_apart kind path seen (item (string s) ds) (w ∷ words) f (inl x) y d a = x.0 (spelled kind s w y.0)
words_apart kind path seen (item (string s) ds) (w ∷ words) f (inr x) y d a =
    words_next kind path seen s ds w f x.0 x.1 x.2 y.0 a.0 (λ r. words_apart kind path (seen ++ w ∷ []) ds words f r y.1 d.1 (unseen seen w words d.0 a.1))
words_apart kind path seen (item null ds) words f x y d a = y
words_apart kind path seen (item (boolean t) ds) words f x y d a = y
words_apart kind path seen (item (number n) ds) words f x y d a = y
words_apart kind path seen (item (array es) ds) words f x y d a = y
words_apart kind path seen (item (object ms) ds) words f x y d a = y

no_words : (kind : Kind) (words : List (List ℕ)) → AreWordsOf kind no_items words → 0 < length words → ⊥
no_words kind [] y n = absurd (omega (arith, n))
no_words kind (w ∷ words) y n = y

pub many_apart : (kind : Kind) (path : List Step) (d : Data) (f : JsonFault) (words : List (List ℕ)) → ManyFault kind path d f → AreManyWords kind d words → ⊥
many_apart kind path null f words x y = let e = y.is in cc
many_apart kind path (boolean b) f words x y = let e = y.is in cc
many_apart kind path (number n) f words x y = let e = y.is in cc
many_apart kind path (string s) f words x y = let e = y.is in cc
many_apart kind path (object ms) f words x y = let e = y.is in cc
many_apart kind path (array no_items) f words x y =
    no_words kind words (subst (λ (ds : Items). AreWordsOf kind ds words) (sym (array_same no_items y.items y.is)) y.each) y.some
many_apart kind path (array (item d ds)) f words x y =
    words_apart kind path [] (item d ds) words f x (subst (λ (es : Items). AreWordsOf kind es words) (sym (array_same (item d ds) y.items y.is)) y.each) y.once (none_seen words)

-- names in order
abbrev before : Bool → List ℕ → List ℕ → Bool
before true v n = not (same_word n v)
before false v n = is_lt (word_cmp v n)

in_order_head : (ordered : Bool) (v : List ℕ) (names : List (List ℕ)) → AreInOrder ordered (v ∷ names) → AllByRecursion (λ n. before ordered v n ≡ true) names
unfolding IsDistinct IsStrictlySortedBy
in_order_head true v names o = differ names o.0
  where
    differ : (ns : List (List ℕ)) → AllByRecursion (λ y. same_word v y ≡ false) ns → AllByRecursion (λ n. before true v n ≡ true) ns
    differ [] a = tt
    differ (n ∷ ns) a = (ap not (swapped v n a.0), differ ns a.1)
in_order_head false v names o = less names o.0
  where
    less : (ns : List (List ℕ)) → AllByRecursion (λ y. word_cmp v y ≡ Less) ns → AllByRecursion (λ n. before false v n ≡ true) ns
    less [] a = tt
    less (n ∷ ns) a = (ap is_lt a.0, less ns a.1)

in_order_tail : (ordered : Bool) (v : List ℕ) (names : List (List ℕ)) → AreInOrder ordered (v ∷ names) → AreInOrder ordered names
unfolding IsDistinct IsStrictlySortedBy
in_order_tail true v names o = o.1
in_order_tail false v names o = o.1

pushed_listed : (seen : List (List ℕ)) (v n : List ℕ) → not (lists seen n) ≡ true → not (same_word n v) ≡ true → not (lists (seen ++ v ∷ []) n) ≡ true
pushed_listed seen v n h k = ap not (not_pushed seen v n (is_false (lists seen n) h) (is_false (same_word n v) k))
  where
    is_false : (b : Bool) → not b ≡ true → b ≡ false
    is_false true e = cc
    is_false false e = refl

pushed_less : (seen : List (List ℕ)) (v n : List ℕ) → list_all (λ other. is_lt (word_cmp other n)) seen ≡ true → is_lt (word_cmp v n) ≡ true
    → list_all (λ other. is_lt (word_cmp other n)) (seen ++ v ∷ []) ≡ true
pushed_less [] v n h k = ap (λ (t : Bool). t && true) k
pushed_less (x ∷ seen) v n h k = by_test (is_lt (word_cmp x n)) refl h (λ r. pushed_less seen v n r k)
  where
    by_test : (b : Bool) → is_lt (word_cmp x n) ≡ b → (b && list_all (λ other. is_lt (word_cmp other n)) seen) ≡ true
        → (list_all (λ other. is_lt (word_cmp other n)) seen ≡ true → list_all (λ other. is_lt (word_cmp other n)) (seen ++ v ∷ []) ≡ true)
        → (is_lt (word_cmp x n) && list_all (λ other. is_lt (word_cmp other n)) (seen ++ v ∷ [])) ≡ true
    by_test true e r go = ap (λ (t : Bool). t && list_all (λ other. is_lt (word_cmp other n)) (seen ++ v ∷ [])) e ∙ go r
    by_test false e r go = cc

placed_more : (ordered : Bool) (seen : List (List ℕ)) (v : List ℕ) (names : List (List ℕ)) → AllByRecursion (λ n. before ordered v n ≡ true) names
    → AllByRecursion (λ n. is_placed ordered seen n ≡ true) names → AllByRecursion (λ n. is_placed ordered (seen ++ v ∷ []) n ≡ true) names
placed_more ordered seen v [] b p = tt
placed_more true seen v (n ∷ names) b p = (pushed_listed seen v n p.0 b.0, placed_more true seen v names b.1 p.1)
placed_more false seen v (n ∷ names) b p = (pushed_less seen v n p.0 b.0, placed_more false seen v names b.1 p.1)

placed_first : (ordered : Bool) (names : List (List ℕ)) → AllByRecursion (λ n. is_placed ordered [] n ≡ true) names
placed_first ordered [] = tt
placed_first true (n ∷ names) = (refl, placed_first true names)
placed_first false (n ∷ names) = (refl, placed_first false names)

-- what stands at the key of a row
pub name_apart : (here : Spot) (id : ℕ) (found : Option Data) (f : JsonFault) (bytes name : List ℕ) → NameFault here id found f
    → found ≡ Some (string bytes) → IsNameIn here.place id (row_of id).shape bytes name → ⊥
name_apart here id None f bytes name x e y = cc
name_apart here id (Some null) f bytes name x e y = cc
name_apart here id (Some (boolean b)) f bytes name x e y = cc
name_apart here id (Some (number n)) f bytes name x e y = cc
name_apart here id (Some (array ds)) f bytes name x e y = cc
name_apart here id (Some (object ms)) f bytes name x e y = cc
name_apart here id (Some (string s)) f bytes name x e y =
    let b : s ≡ bytes = string_same s bytes (some_same (string s) (string bytes) e) in
    x.0 name (subst (λ (w : List ℕ). IsNameIn here.place id (row_of id).shape w name) (sym b) y)

-- no key of the level
in_neither : (xs ys : List (List ℕ)) (k : List ℕ) → lists xs k ≡ false → lists ys k ≡ false → lists (xs ++ ys) k ≡ false
in_neither [] ys k h g = g
in_neither (x ∷ xs) ys k h g = by_test (same_word k x) refl h (λ r. in_neither xs ys k r g)
  where
    by_test : (b : Bool) → same_word k x ≡ b → (b || lists xs k) ≡ false → (lists xs k ≡ false → lists (xs ++ ys) k ≡ false) → (same_word k x || lists (xs ++ ys) k) ≡ false
    by_test true e r go = cc
    by_test false e r go = ap (λ (t : Bool). t || lists (xs ++ ys) k) e ∙ go r

not_in_row : (key : List ℕ) (id : ℕ) → has_key key id ≡ false → has_marks_key key id ≡ false → lists (row_keys id) key ≡ false
not_in_row key id h m =
    in_neither (key_of id ∷ []) (if is_level (row_of id).shape then [] else marks_key (key_of id) ∷ []) key (ap (λ (t : Bool). t || false) h) (by_level (is_level (row_of id).shape) m)
  where
    by_level : (b : Bool) → (not b && same_word key (marks_key (key_of id))) ≡ false → lists (if b then [] else marks_key (key_of id) ∷ []) key ≡ false
    by_level true e = refl
    by_level false e = ap (λ (t : Bool). t || false) e

passes_none : (test : ℕ → Bool) (id : ℕ) (ids : List ℕ) → find test (id ∷ ids) ≡ None → (test id ≡ false) × (find test ids ≡ None)
passes_none test id ids h = by_test (test id) refl
  where
    by_test : (b : Bool) → test id ≡ b → (test id ≡ false) × (find test ids ≡ None)
    by_test true e = let c : Some id ≡ None = sym (ap (λ (t : Bool). cond t (Some id) (find test ids)) e) ∙ h in cc
    by_test false e = (e, sym (ap (λ (t : Bool). cond t (Some id) (find test ids)) e) ∙ h)

absent : (key : List ℕ) (ids : List ℕ) → find (has_key key) ids ≡ None → find (has_marks_key key) ids ≡ None → lists (keys_below ids) key ≡ false
absent key [] h m = refl
absent key (id ∷ ids) h m =
    let a = passes_none (has_key key) id ids h in let b = passes_none (has_marks_key key) id ids m in
    in_neither (row_keys id) (keys_below ids) key (not_in_row key id a.0 b.0) (absent key ids a.1 b.1)

no_key : (own : List (List ℕ)) (rows : List ℕ) (key : List ℕ) → kind_among rows own key ≡ NoKey → lists (own ++ keys_below rows) key ≡ false
no_key own rows key h = by_own (lists own key) refl
  where
    by_marks : lists own key ≡ false → find (has_key key) rows ≡ None → (o : Option ℕ) → find (has_marks_key key) rows ≡ o → kind_by None o ≡ NoKey
        → lists (own ++ keys_below rows) key ≡ false
    by_marks e n (Some r) f k = let c : OfMarks r ≡ NoKey = k in cc
    by_marks e n None f k = in_neither own (keys_below rows) key e (absent key rows n f)

    by_row : lists own key ≡ false → (o : Option ℕ) → find (has_key key) rows ≡ o → kind_by o (find (has_marks_key key) rows) ≡ NoKey
        → lists (own ++ keys_below rows) key ≡ false
    by_row e (Some r) f k = let c : OfRow r ≡ NoKey = k in cc
    by_row e None f k = by_marks e f (find (has_marks_key key) rows) refl k

    by_own : (b : Bool) → lists own key ≡ b → lists (own ++ keys_below rows) key ≡ false
    by_own true e =
        let c : Own ≡ NoKey = sym (ap (λ (t : Bool). if t then Own else kind_by (find (has_key key) rows) (find (has_marks_key key) rows)) e) ∙ h in cc
    by_own false e =
        by_row e (find (has_key key) rows) refl
        (sym (ap (λ (t : Bool). if t then Own else kind_by (find (has_key key) rows) (find (has_marks_key key) rows)) e) ∙ h)

module _ (Inner : Members → Spot → List Item → Type 0) (Faulty : Members → Spot → JsonFault → Type 0)
    (apart : (ms : Members) (here : Spot) (items : List Item) (f : JsonFault) → Faulty ms here f → Inner ms here items → ⊥) where
  pub level_apart : (here : Spot) (id : ℕ) (step : Step) (ms : Members) (f : JsonFault) (items : List Item)
      → LevelFault Inner Faulty (spot_at here id step) ms f → SaysLevel Inner here id step ms items → ⊥
  level_apart here id step ms f items (inl x) y = x.0 y.inactive y.protected y.marks
  level_apart here id step ms f items (inr x) y = apart ms (spot_at here id step) y.inner f x.1 y.inside

  pub object_apart : (here : Spot) (id : ℕ) (step : Step) (d : Data) (f : JsonFault) (items : List Item)
      → ObjectFault Inner Faulty (spot_at here id step) d f → SaysObject Inner here id step d items → ⊥
  object_apart here id step null f items x y = y
  object_apart here id step (boolean b) f items x y = y
  object_apart here id step (number n) f items x y = y
  object_apart here id step (string s) f items x y = y
  object_apart here id step (array ds) f items x y = y
  object_apart here id step (object ms) f items x y = level_apart here id step ms f items x y

  inner_next : (here : Spot) (id : ℕ) (seen : List (List ℕ)) (ms : Members) (ds : Items) (f : JsonFault) (name : List ℕ) (items : List Item)
      → LevelFault Inner Faulty (spot_at here id (step_of (head_of id) name)) ms f
      ⊎ ((own : List Item) × SaysLevel Inner here id (step_of (head_of id) name) ms own × ItemsFault Inner Faulty here id (seen ++ name ∷ []) ds f)
      → SaysLevel Inner here id (step_of (head_of id) name) ms items → (ItemsFault Inner Faulty here id (seen ++ name ∷ []) ds f → ⊥) → ⊥
  inner_next here id seen ms ds f name items (inl x) y go = level_apart here id (step_of (head_of id) name) ms f items x y
  inner_next here id seen ms ds f name items (inr x) y go = go x.2

  place_next : (here : Spot) (id : ℕ) (seen : List (List ℕ)) (ms : Members) (ds : Items) (f : JsonFault) (name : List ℕ) (items : List Item)
      → ((is_placed (row_of id).ordered seen name ≡ false) × (f ≡ Form (here.path ++ step_of (head_of id) name ∷ [])))
      ⊎ ((is_placed (row_of id).ordered seen name ≡ true)
      × (LevelFault Inner Faulty (spot_at here id (step_of (head_of id) name)) ms f
      ⊎ ((own : List Item) × SaysLevel Inner here id (step_of (head_of id) name) ms own × ItemsFault Inner Faulty here id (seen ++ name ∷ []) ds f)))
      → SaysLevel Inner here id (step_of (head_of id) name) ms items → is_placed (row_of id).ordered seen name ≡ true
      → (ItemsFault Inner Faulty here id (seen ++ name ∷ []) ds f → ⊥) → ⊥
  place_next here id seen ms ds f name items (inl x) y p go = not_both (is_placed (row_of id).ordered seen name) p x.0
  place_next here id seen ms ds f name items (inr x) y p go = inner_next here id seen ms ds f name items x.1 y go

  items_apart : (here : Spot) (id : ℕ) (seen : List (List ℕ)) (ds : Items) (names : List (List ℕ)) (f : JsonFault) (items : List Item)
      → ItemsFault Inner Faulty here id seen ds f → SaysEach Inner here id ds names items → AreInOrder (row_of id).ordered names
      → AllByRecursion (λ n. is_placed (row_of id).ordered seen n ≡ true) names → ⊥
  items_apart here id seen no_items names f items x y o p = x
  items_apart here id seen (item null ds) names f items x y o p = y
  items_apart here id seen (item (boolean t) ds) names f items x y o p = y
  items_apart here id seen (item (number n) ds) names f items x y o p = y
  items_apart here id seen (item (string s) ds) names f items x y o p = y
  items_apart here id seen (item (array es) ds) names f items x y o p = y
  items_apart here id seen (item (object ms) ds) [] f items x y o p = y
  items_apart here id seen (item (object ms) ds) (n ∷ names) f items (inl x) y o p = name_apart here id (get_member name_key ms) f y.2.bytes n x y.2.there y.2.is_name
  items_apart here id seen (item (object ms) ds) (n ∷ names) f items (inr x) y o p =
      let has : HasName here id ms x.0 = x.1 in
      let bytes : has.bytes ≡ y.2.bytes = string_same has.bytes y.2.bytes (some_same (string has.bytes) (string y.2.bytes) (sym has.there ∙ y.2.there)) in
      let name : n ≡ x.0 =
      name_same here.place id (row_of id).shape has.bytes n x.0
      (subst (λ (w : List ℕ). IsNameIn here.place id (row_of id).shape w n) (sym bytes) y.2.is_name) has.is_name in
      place_next here id seen ms ds f x.0 y.0 x.2
      (subst (λ (w : List ℕ). SaysLevel Inner here id (step_of (head_of id) w) ms y.0) name y.2.level)
      (subst (λ (w : List ℕ). is_placed (row_of id).ordered seen w ≡ true) name p.0)
      (λ r. items_apart here id (seen ++ n ∷ []) ds names f y.1
      (subst (λ (w : List ℕ). ItemsFault Inner Faulty here id (seen ++ w ∷ []) ds f) (sym name) r) y.3
      (in_order_tail (row_of id).ordered n names o) (placed_more (row_of id).ordered seen n names (in_order_head (row_of id).ordered n names o) p.1))

  no_names : (here : Spot) (id : ℕ) (names : List (List ℕ)) (items : List Item) → SaysEach Inner here id no_items names items → 0 < length names → ⊥
  no_names here id [] items y n = absurd (omega (arith, n))
  no_names here id (w ∷ names) items y n = let e : w ∷ names ≡ [] = y.0 in cc

  pub list_apart : (here : Spot) (id : ℕ) (d : Data) (f : JsonFault) (items : List Item) → ListFault Inner Faulty here id d f → SaysList Inner here id d items → ⊥
  list_apart here id null f items x y = let e = y.is in cc
  list_apart here id (boolean b) f items x y = let e = y.is in cc
  list_apart here id (number n) f items x y = let e = y.is in cc
  list_apart here id (string s) f items x y = let e = y.is in cc
  list_apart here id (object ms) f items x y = let e = y.is in cc
  list_apart here id (array no_items) f items x y =
      no_names here id y.names items (subst (λ (ds : Items). SaysEach Inner here id ds y.names items) (sym (array_same no_items y.objects y.is)) y.each) y.some
  list_apart here id (array (item d ds)) f items x y =
      items_apart here id [] (item d ds) y.names f items x
      (subst (λ (es : Items). SaysEach Inner here id es y.names items) (sym (array_same (item d ds) y.objects y.is)) y.each)
      y.in_order (placed_first (row_of id).ordered y.names)

  pub row_apart : (shape : Shape) (here : Spot) (id : ℕ) (d : Data) (marks : Option Data) (f : JsonFault) (items : List Item)
      → RowFault Inner Faulty shape here id d f → SaysRow Inner shape here id d marks items → ⊥
  row_apart Container here id d marks f items x y = object_apart here id (single_of id) d f items x y
  row_apart Fixed here id d marks f items x y = object_apart here id (single_of id) d f items x y
  row_apart Keyed here id d marks f items x y = list_apart here id d f items x y
  row_apart Bare here id d marks f items x y = list_apart here id d f items x y
  row_apart Leaf here id d marks f items x y =
      let w : IsLeafWord (row_of id).value_kind d y.words = y.are_words in leaf_apart (row_of id).value_kind (single_path here id) d f w.word x w.is_word
  row_apart Flag here id d marks f items x y = let w : IsTrueFlag d y.words = y.are_words in x.0 w.is
  row_apart Many here id d marks f items x y = many_apart (row_of id).value_kind (single_path here id) d f y.words x y.are_words

  -- a key with a row, with a row's marks, and with neither
  of_row : (own : List (List ℕ)) (rows : List ℕ) (key : List ℕ) (id : ℕ) → kind_among rows own key ≡ OfRow id → find (has_key key) rows ≡ Some id
  of_row own rows key id h = by_own (lists own key) refl
    where
      by_marks : (o : Option ℕ) → kind_by None o ≡ OfRow id → None ≡ Some id
      by_marks (Some r) e = cc
      by_marks None e = cc

      by_row : (o : Option ℕ) → kind_by o (find (has_marks_key key) rows) ≡ OfRow id → o ≡ Some id
      by_row (Some r) e = let f : OfRow r ≡ OfRow id = e in cc
      by_row None e = by_marks (find (has_marks_key key) rows) e

      by_own : (b : Bool) → lists own key ≡ b → find (has_key key) rows ≡ Some id
      by_own true e =
          let f : Own ≡ OfRow id = sym (ap (λ (t : Bool). if t then Own else kind_by (find (has_key key) rows) (find (has_marks_key key) rows)) e) ∙ h in cc
      by_own false e =
          by_row (find (has_key key) rows)
          (sym (ap (λ (t : Bool). if t then Own else kind_by (find (has_key key) rows) (find (has_marks_key key) rows)) e) ∙ h)

  of_marks : (own : List (List ℕ)) (rows : List ℕ) (key : List ℕ) (id : ℕ) → kind_among rows own key ≡ OfMarks id → find (has_marks_key key) rows ≡ Some id
  of_marks own rows key id h = by_own (lists own key) refl
    where
      by_marks : (o : Option ℕ) → kind_by None o ≡ OfMarks id → o ≡ Some id
      by_marks (Some r) e = let f : OfMarks r ≡ OfMarks id = e in cc
      by_marks None e = cc

      by_row : (o : Option ℕ) → kind_by o (find (has_marks_key key) rows) ≡ OfMarks id → find (has_marks_key key) rows ≡ Some id
      by_row (Some r) e = let f : OfRow r ≡ OfMarks id = e in cc
      by_row None e = by_marks (find (has_marks_key key) rows) e

      by_own : (b : Bool) → lists own key ≡ b → find (has_marks_key key) rows ≡ Some id
      by_own true e =
          let f : Own ≡ OfMarks id = sym (ap (λ (t : Bool). if t then Own else kind_by (find (has_key key) rows) (find (has_marks_key key) rows)) e) ∙ h in cc
      by_own false e =
          by_row (find (has_key key) rows)
          (sym (ap (λ (t : Bool). if t then Own else kind_by (find (has_key key) rows) (find (has_marks_key key) rows)) e) ∙ h)

  row_told : (test : ℕ → Bool) (here : Spot) (ms : Members) (ids : List ℕ) (items : List Item) (id : ℕ) → SaysRows Inner here ms ids items → find test ids ≡ Some id
      → (test id ≡ true) × ((own : List Item) × SaysRowIf Inner here id (get_member (key_of id) ms) (get_member (marks_key (key_of id)) ms) own)
  row_told test here ms [] items id x e = cc
  row_told test here ms (first ∷ ids) items id x e = by_test (test first) refl (row_told test here ms ids x.1 id x.3)
    where
      by_test : (b : Bool) → test first ≡ b
          → (find test ids ≡ Some id → (test id ≡ true) × ((own : List Item) × SaysRowIf Inner here id (get_member (key_of id) ms) (get_member (marks_key (key_of id)) ms) own))
          → (test id ≡ true) × ((own : List Item) × SaysRowIf Inner here id (get_member (key_of id) ms) (get_member (marks_key (key_of id)) ms) own)
      by_test true f go =
          let first_is : first ≡ id = some_same first id (sym (ap (λ (t : Bool). cond t (Some first) (find test ids)) f) ∙ e) in
          subst (λ (n : ℕ). (test n ≡ true) × ((own : List Item) × SaysRowIf Inner here n (get_member (key_of n) ms) (get_member (marks_key (key_of n)) ms) own))
          first_is (f, (x.0, x.2))
      by_test false f go = go (sym (ap (λ (t : Bool). cond t (Some first) (find test ids)) f) ∙ e)

  found_listed : (here : Spot) (ms : Members) (key : List ℕ) (d : Data) → AreKeys here.place ms → get_member key ms ≡ Some d → lists (keys_at here.place) key ≡ true
  found_listed here no_members key d a e = cc
  found_listed here (member other x ms) key d a e = by_order (slice_cmp nat_cmp key other) refl (found_listed here ms key d a.1)
    where
      by_order : (o : Ordering) → slice_cmp nat_cmp key other ≡ o → (get_member key ms ≡ Some d → lists (keys_at here.place) key ≡ true) → lists (keys_at here.place) key ≡ true
      by_order Less f go = go (sym (ap (λ (o : Ordering). match_ordering o (get_member key ms) (Some x) (get_member key ms)) f) ∙ e)
      by_order Greater f go = go (sym (ap (λ (o : Ordering). match_ordering o (get_member key ms) (Some x) (get_member key ms)) f) ∙ e)
      by_order Equal f go = subst (λ (k : List ℕ). lists (keys_at here.place) k ≡ true) (sym (exact_bytes key other f)) a.0

  marks_apart : (shape : Shape) (here : Spot) (id : ℕ) (x d : Data) (items : List Item) → is_level shape ≡ false → AreNoMarksAt (Some d)
      → SaysRow Inner shape here id x (Some d) items → ⊥
  marks_apart Container here id x d items low u y = not_both false (sym low) refl
  marks_apart Fixed here id x d items low u y = not_both false (sym low) refl
  marks_apart Keyed here id x d items low u y = not_both false (sym low) refl
  marks_apart Bare here id x d items low u y = not_both false (sym low) refl
  marks_apart Leaf here id x d items low u y = u y.inactive y.protected y.marked
  marks_apart Flag here id x d items low u y = u y.inactive y.protected y.marked
  marks_apart Many here id x d items low u y = u y.inactive y.protected y.marked

  marks_case : (here : Spot) (id : ℕ) (all : Members) (d : Data) (own : List Item) → is_level (row_of id).shape ≡ false
      → (o : Option Data) → get_member (key_of id) all ≡ o → SaysRowIf Inner here id o (Some d) own
      → (AreNoMarksAt (Some d)) ⊎ (get_member (key_of id) all ≡ None) → ⊥
  marks_case here id all d own low None e y u = let c : Some d ≡ None = y.1 low in cc
  marks_case here id all d own low (Some v) e y (inl u) = marks_apart (row_of id).shape here id v d own low u y
  marks_case here id all d own low (Some v) e y (inr n) = let c : Some v ≡ None = sym e ∙ n in cc

  member_apart : (here : Spot) (all : Members) (items : List Item) → SaysRows Inner here all (rows_below here.place.row here.place.in_group) items → AreKeys here.place all
      → (key : List ℕ) (d : Data) → get_member key all ≡ Some d → (kind : KeyKind) → key_kind here.place key ≡ kind → (f : JsonFault)
      → MemberFault Inner Faulty here all kind key d f → ⊥
  member_apart here all items told keys key d found Own e f x = x
  member_apart here all items told keys key d found (OfRow id) e f x =
      let rows = rows_below here.place.row here.place.in_group in
      let t = row_told (has_key key) here all rows items id told (of_row (own_keys here.place.row) rows key id e) in
      let there : get_member (key_of id) all ≡ Some d = ap (λ (k : List ℕ). get_member k all) (sym (same key (key_of id) t.0)) ∙ found in
      row_apart (row_of id).shape here id d (get_member (marks_key (key_of id)) all) f t.1.0 x
      (subst (λ (o : Option Data). SaysRowIf Inner here id o (get_member (marks_key (key_of id)) all) t.1.0) there t.1.1)
  member_apart here all items told keys key d found (OfMarks id) e f x =
      let rows = rows_below here.place.row here.place.in_group in
      let t = row_told (has_marks_key key) here all rows items id told (of_marks (own_keys here.place.row) rows key id e) in
      let tests = both (not (is_level (row_of id).shape)) (same_word key (marks_key (key_of id))) t.0 in
      let there : get_member (marks_key (key_of id)) all ≡ Some d = ap (λ (k : List ℕ). get_member k all) (sym (same key (marks_key (key_of id)) tests.1)) ∙ found in
      marks_case here id all d t.1.0 (not_true (is_level (row_of id).shape) tests.0) (get_member (key_of id) all) refl
      (subst (λ (o : Option Data). SaysRowIf Inner here id (get_member (key_of id) all) o t.1.0) there t.1.1) x.0
  member_apart here all items told keys key d found NoKey e f x =
      not_both (lists (keys_at here.place) key) (found_listed here all key d keys found)
      (no_key (own_keys here.place.row) (rows_below here.place.row here.place.in_group) key e)

  members_apart : (here : Spot) (all : Members) (items : List Item) → SaysRows Inner here all (rows_below here.place.row here.place.in_group) items → AreKeys here.place all
      → (ms : Members) (f : JsonFault) → MembersFault Inner Faulty here all ms f → ⊥
  members_apart here all items told keys no_members f x = x
  members_apart here all items told keys (member key d ms) f (inl x) = member_apart here all items told keys key d x.0 (key_kind here.place key) refl f x.1
  members_apart here all items told keys (member key d ms) f (inr x) = members_apart here all items told keys ms f x.1

pub levels_apart : (levels : ℕ) (ms : Members) (here : Spot) (items : List Item) (f : JsonFault) → FaultInside levels ms here f → SaysInside levels ms here items → ⊥
unfolding FaultInside SaysInside
levels_apart zero ms here items f x y = y
levels_apart (suc levels) ms here items f x y = members_apart (SaysInside levels) (FaultInside levels) (levels_apart levels) here ms items y.1 y.0 ms f x

pub whole_one : (a b : Members) → whole a ≡ whole b → a ≡ b
whole_one a b e = cc

pub fault_apart : (d : Data) (f : JsonFault) (m : Statements) → IsFirstFault d f → Says d m → ⊥
fault_apart d f m (inl x) y = x.0 y.members y.is
fault_apart d f m (inr x) y =
    let members : x.0 ≡ y.members = whole_one x.0 y.members (sym x.1 ∙ y.is) in
    levels_apart MAX_STEPS x.0 top_spot y.items f x.2 (subst (λ (ms : Members). SaysInside MAX_STEPS ms top_spot y.items) (sym members) y.inside)
