-- Where each member of a level's object fits, each key is one of the level's, and the object tells statements.
use Rattle.std.proofs.Common.{◌≡◌, ◌≢◌, ◌<◌, ℕ, suc, length, Bool, true, false, not, cond, ◌&&◌, List, [], ◌∷◌, ◌++◌, refl, sym, ap, subst, ◌∙◌, Option, Some, None, is_some, append_assoc, append-nil, if◌then◌else◌}
use Rattle.std.specs.Prelude.{◌||◌, find}
use Rattle.std.specs.Ordering.{nat_cmp, match_ordering}
use Rattle.std.specs.Cmp.Lexicographic.{slice_cmp}
use Rattle.std.specs.declared.cmp.Ordering.{Ordering}
use Rattle.std.specs.declared.cmp.Ordering.TheVariants.{Less, Equal, Greater}
use Rattle.std.proofs.lemmas.Grind.{flat_map-append}
use Rattle.std.proofs.lemmas.Map.Lookups.{exact_bytes}
use Rattle.cfg_base.specs.Words.{lists, same_word}
use Rattle.cfg_base.specs.declared.kind.Shape.{Shape}
use Rattle.cfg_base.specs.declared.kind.Shape.TheVariants.{Container, Fixed, Keyed, Bare, Leaf, Flag, Many}
use Rattle.cfg_schema.specs.Profile.{profile, row_of, is_level, rows_below}
use Rattle.cfg_schema.proofs.TestLemmas.{same, same_is}
use Rattle.serde_json.specs.Data.{Data, Members, no_members, member}
use Rattle.serde_json.specs.Find.{get_member}
use Rattle.json_text.specs.Keys.{marks_key, key_of, row_keys, own_keys, keys_below, keys_at}
use Rattle.json_text.specs.Said.{Item, Spot, statement_said, SaysRow, SaysRowIf, SaysRows, AreKeys, SaysInside, single_of}
use Rattle.json_text.specs.declared.key.KeyKind.{KeyKind}
use Rattle.json_text.specs.declared.key.KeyKind.TheVariants.{Own, OfRow, OfMarks, NoKey}
use Rattle.json_text.specs.Faults.{has_key, has_marks_key, kind_by, kind_among, key_kind, AreMarksAt, RowFits, MemberFits, MembersFit}
use Rattle.json_text.proofs.KeyLemmas.{keys_once}
use Rattle.json_text.proofs.LookLemmas.{lists-left, lists-right, distinct, distinct-back, distinct-after, distinct-apart}

-- a test that passes for rows with the key alone passes for no row without it
find_past : (test : ℕ → Bool) (key : List ℕ) → ((id : ℕ) → test id ≡ true → lists (row_keys id) key ≡ true)
    → (front back : List ℕ) → lists (keys_below front) key ≡ false → find test (front ++ back) ≡ find test back
find_past test key own [] back h = refl
find_past test key own (id ∷ front) back h = by_test (test id) refl (find_past test key own front back)
  where
    rest : (t : Bool) → lists (keys_below front) key ≡ t → t ≡ false
    rest false f = refl
    rest true f =
        let there : lists (keys_below (id ∷ front)) key ≡ true = lists-right (row_keys id) (keys_below front) key f in let c = sym h ∙ there in cc

    by_test : (b : Bool) → test id ≡ b → (lists (keys_below front) key ≡ false → find test (front ++ back) ≡ find test back)
        → cond (test id) (Some id) (find test (front ++ back)) ≡ find test back
    by_test true e go =
        let there : lists (keys_below (id ∷ front)) key ≡ true = lists-left (row_keys id) (keys_below front) key (own id e) in let c = sym h ∙ there in cc
    by_test false e go = ap (λ (t : Bool). cond t (Some id) (find test (front ++ back))) e ∙ go (rest (lists (keys_below front) key) refl)

find_none : (test : ℕ → Bool) (key : List ℕ) → ((id : ℕ) → test id ≡ true → lists (row_keys id) key ≡ true)
    → (ids : List ℕ) → lists (keys_below ids) key ≡ false → find test ids ≡ None
find_none test key own ids h = ap (find test) (sym (append-nil ids)) ∙ find_past test key own ids [] h

find_some : (test : ℕ → Bool) (key : List ℕ) → ((id : ℕ) → test id ≡ true → lists (row_keys id) key ≡ true)
    → (ids : List ℕ) (id : ℕ) → find test ids ≡ Some id → lists (keys_below ids) key ≡ true
find_some test key own [] id h = cc
find_some test key own (first ∷ ids) id h = by_test (test first) refl (find_some test key own ids id)
  where
    by_test : (b : Bool) → test first ≡ b → (find test ids ≡ Some id → lists (keys_below ids) key ≡ true) → lists (keys_below (first ∷ ids)) key ≡ true
    by_test true e go = lists-left (row_keys first) (keys_below ids) key (own first e)
    by_test false e go =
        lists-right (row_keys first) (keys_below ids) key (go (sym (ap (λ (t : Bool). cond t (Some first) (find test ids)) e) ∙ h))

key_is_own : (key : List ℕ) (id : ℕ) → has_key key id ≡ true → lists (row_keys id) key ≡ true
key_is_own key id e = lists-left (key_of id ∷ []) (if is_level (row_of id).shape then [] else marks_key (key_of id) ∷ []) key (ap (λ (t : Bool). t || false) e)

marks_are_own : (key : List ℕ) (id : ℕ) → has_marks_key key id ≡ true → lists (row_keys id) key ≡ true
marks_are_own key id e = by_level (is_level (row_of id).shape) e
  where
    by_level : (b : Bool) → (not b && same_word key (marks_key (key_of id))) ≡ true → lists (key_of id ∷ (if b then [] else marks_key (key_of id) ∷ [])) key ≡ true
    by_level true h = cc
    by_level false h = lists-right (key_of id ∷ []) (marks_key (key_of id) ∷ []) key (ap (λ (t : Bool). t || false) h)

-- a key of a row is no key of another, nor of the level's own statement
record IsAlone (own : List (List ℕ)) (front back : List ℕ) (key : List ℕ) : Type 0 where
  of_own : lists own key ≡ false
  of_front : lists (keys_below front) key ≡ false
  of_back : lists (keys_below back) key ≡ false

is_alone : (own : List (List ℕ)) (front back : List ℕ) (id : ℕ) (key : List ℕ)
    → distinct (own ++ keys_below (front ++ id ∷ back)) ≡ true → lists (row_keys id) key ≡ true → IsAlone own front back key
is_alone own front back id key d h = record {
  of_own = distinct-back own (keys_below front ++ (row_keys id ++ keys_below back)) key all
      (lists-right (keys_below front) (row_keys id ++ keys_below back) key in_row);
  of_front = distinct-back (keys_below front) (row_keys id ++ keys_below back) key behind in_row;
  of_back = distinct-apart (row_keys id) (keys_below back) key (distinct-after (keys_below front) (row_keys id ++ keys_below back) behind) h;
}
  where
    all : distinct (own ++ (keys_below front ++ (row_keys id ++ keys_below back))) ≡ true
    all = ap (λ (ks : List (List ℕ)). distinct (own ++ ks)) (sym (flat_map-append row_keys front (id ∷ back))) ∙ d

    in_row : lists (row_keys id ++ keys_below back) key ≡ true
    in_row = lists-left (row_keys id) (keys_below back) key h

    behind : distinct (keys_below front ++ (row_keys id ++ keys_below back)) ≡ true
    behind = distinct-after own (keys_below front ++ (row_keys id ++ keys_below back)) all

key_kind_is : (own : List (List ℕ)) (front back : List ℕ) (id : ℕ) → distinct (own ++ keys_below (front ++ id ∷ back)) ≡ true
    → kind_among (front ++ id ∷ back) own (key_of id) ≡ OfRow id
key_kind_is own front back id d =
    ap (λ (t : Bool). if t then Own else kind_by (find (has_key (key_of id)) (front ++ id ∷ back)) (find (has_marks_key (key_of id)) (front ++ id ∷ back))) alone.of_own
    ∙ ap (λ (f : Option ℕ). kind_by f (find (has_marks_key (key_of id)) (front ++ id ∷ back)))
    (find_past (has_key (key_of id)) (key_of id) (key_is_own (key_of id)) front (id ∷ back) alone.of_front
    ∙ ap (λ (t : Bool). cond t (Some id) (find (has_key (key_of id)) back)) itself)
  where
    itself : has_key (key_of id) id ≡ true
    itself = same_is (key_of id) (key_of id) refl

    alone : IsAlone own front back (key_of id)
    alone = is_alone own front back id (key_of id) d (key_is_own (key_of id) id itself)

longer : (x : ℕ) (k : List ℕ) → x ∷ k ≡ k → ⊥
longer x [] e = cc
longer x (y ∷ k) e = longer y k (let tail : y ∷ k ≡ k = cc in tail)

marks_kind_is : (own : List (List ℕ)) (front back : List ℕ) (id : ℕ) → distinct (own ++ keys_below (front ++ id ∷ back)) ≡ true
    → is_level (row_of id).shape ≡ false → kind_among (front ++ id ∷ back) own (marks_key (key_of id)) ≡ OfMarks id
marks_kind_is own front back id d low =
    ap (λ (t : Bool). if t then Own else kind_by (find (has_key key) (front ++ id ∷ back)) (find (has_marks_key key) (front ++ id ∷ back))) alone.of_own
    ∙ ap (λ (f : Option ℕ). kind_by f (find (has_marks_key key) (front ++ id ∷ back)))
    (find_past (has_key key) key (key_is_own key) front (id ∷ back) alone.of_front
    ∙ ap (λ (t : Bool). cond t (Some id) (find (has_key key) back)) (other (has_key key id) refl)
    ∙ find_none (has_key key) key (key_is_own key) back alone.of_back)
    ∙ ap (kind_by None)
    (find_past (has_marks_key key) key (marks_are_own key) front (id ∷ back) alone.of_front
    ∙ ap (λ (t : Bool). cond t (Some id) (find (has_marks_key key) back)) itself)
  where
    key : List ℕ
    key = marks_key (key_of id)

    itself : has_marks_key (marks_key (key_of id)) id ≡ true
    itself = ap (λ (b : Bool). not b && same_word (marks_key (key_of id)) (marks_key (key_of id))) low ∙ same_is (marks_key (key_of id)) (marks_key (key_of id)) refl

    other : (b : Bool) → has_key (marks_key (key_of id)) id ≡ b → b ≡ false
    other false e = refl
    other true e = absurd (longer 64 (key_of id) (same (marks_key (key_of id)) (key_of id) e))

    alone : IsAlone own front back (marks_key (key_of id))
    alone = is_alone own front back id (marks_key (key_of id)) d (marks_are_own (marks_key (key_of id)) id itself)

-- what fits at the key of a row, with marks that fit, tells the row's statements
row_from_fit : (Inner : Members → Spot → List Item → Type 0) (shape : Shape) (here : Spot) (id : ℕ) (d : Data) (marks : Option Data) → RowFits Inner shape here id d
    → (is_level shape ≡ false → AreMarksAt marks) → (own : List Item) × SaysRow Inner shape here id d marks own
row_from_fit Inner Container here id d marks x m = x
row_from_fit Inner Fixed here id d marks x m = x
row_from_fit Inner Keyed here id d marks x m = x
row_from_fit Inner Bare here id d marks x m = x
row_from_fit Inner Leaf here id d marks x m =
    let set = m refl in
    (statement_said here id (single_of id) set.0 set.1 x.0, record { inactive = set.0; protected = set.1; marked = set.2; words = x.0; are_words = x.1; said = refl })
row_from_fit Inner Flag here id d marks x m =
    let set = m refl in
    (statement_said here id (single_of id) set.0 set.1 [], record { inactive = set.0; protected = set.1; marked = set.2; words = []; are_words = record { is = x; none = refl }; said = refl })
row_from_fit Inner Many here id d marks x m =
    let set = m refl in
    (statement_said here id (single_of id) set.0 set.1 x.0, record { inactive = set.0; protected = set.1; marked = set.2; words = x.0; are_words = x.1; said = refl })

-- what fits at every key tells the rows' statements, one row after the other
module _ (Inner : Members → Spot → List Item → Type 0) (here : Spot) (ms : Members)
    (fits : (key : List ℕ) (d : Data) → get_member key ms ≡ Some d → MemberFits Inner here ms (key_kind here.place key) d)
    (once : distinct (keys_at here.place) ≡ true) where
  row_fits : (front back : List ℕ) (id : ℕ) → rows_below here.place.row here.place.in_group ≡ front ++ id ∷ back
      → (own : List Item) × SaysRowIf Inner here id (get_member (key_of id) ms) (get_member (marks_key (key_of id)) ms) own
  row_fits front back id rows = by_found (get_member (key_of id) ms) refl
    where
      differ : distinct (own_keys here.place.row ++ keys_below (front ++ id ∷ back)) ≡ true
      differ = ap (λ (ids : List ℕ). distinct (own_keys here.place.row ++ keys_below ids)) (sym rows) ∙ once

      kind_of : (key : List ℕ) → key_kind here.place key ≡ kind_among (front ++ id ∷ back) (own_keys here.place.row) key
      kind_of key = ap (λ (ids : List ℕ). kind_among ids (own_keys here.place.row) key) rows

      unmarked : get_member (key_of id) ms ≡ None → is_level (row_of id).shape ≡ false → (o : Option Data) → get_member (marks_key (key_of id)) ms ≡ o → o ≡ None
      unmarked absent low None e = refl
      unmarked absent low (Some d) e =
          let fit = subst (λ (kind : KeyKind). MemberFits Inner here ms kind d)
          (kind_of (marks_key (key_of id)) ∙ marks_kind_is (own_keys here.place.row) front back id differ low) (fits (marks_key (key_of id)) d e) in
          let there : is_some (get_member (key_of id) ms) ≡ true = fit.1 in
          let gone : is_some (get_member (key_of id) ms) ≡ false = ap (λ (o : Option Data). is_some o) absent in
          let c = sym gone ∙ there in cc

      marked : is_level (row_of id).shape ≡ false → (o : Option Data) → get_member (marks_key (key_of id)) ms ≡ o → AreMarksAt o
      marked low None e = (false, false, (refl, refl))
      marked low (Some d) e =
          let fit = subst (λ (kind : KeyKind). MemberFits Inner here ms kind d)
          (kind_of (marks_key (key_of id)) ∙ marks_kind_is (own_keys here.place.row) front back id differ low) (fits (marks_key (key_of id)) d e) in
          fit.0

      by_found : (o : Option Data) → get_member (key_of id) ms ≡ o
          → (own : List Item) × SaysRowIf Inner here id o (get_member (marks_key (key_of id)) ms) own
      by_found None e = ([], (refl, λ low. unmarked e low (get_member (marks_key (key_of id)) ms) refl))
      by_found (Some d) e =
          row_from_fit Inner (row_of id).shape here id d (get_member (marks_key (key_of id)) ms)
          (subst (λ (kind : KeyKind). MemberFits Inner here ms kind d)
          (kind_of (key_of id) ∙ key_kind_is (own_keys here.place.row) front back id differ) (fits (key_of id) d e))
          (λ low. marked low (get_member (marks_key (key_of id)) ms) refl)

  pub rows_fit : (front ids : List ℕ) → rows_below here.place.row here.place.in_group ≡ front ++ ids → (items : List Item) × SaysRows Inner here ms ids items
  rows_fit front [] rows = ([], refl)
  rows_fit front (id ∷ ids) rows =
      let own = row_fits front ids id rows in
      let others = rows_fit (front ++ id ∷ []) ids (rows ∙ sym (append_assoc front (id ∷ []) ids)) in
      (own.0 ++ others.0, (own.0, others.0, own.1, others.1, refl))

  pub level_fits : (items : List Item) × SaysRows Inner here ms (rows_below here.place.row here.place.in_group) items
  level_fits = rows_fit [] (rows_below here.place.row here.place.in_group) refl

-- each member that fits is found at its key, and its key is one of the level's
some_same : {A : Type 0} (x y : A) → Some x ≡ Some y → x ≡ y
some_same x y e = cc

is_key : (rows : List ℕ) (own : List (List ℕ)) (key : List ℕ) → kind_among rows own key ≢ NoKey → lists (own ++ keys_below rows) key ≡ true
is_key rows own key h = by_own (lists own key) refl
  where
    kind_when : lists own key ≡ false → kind_among rows own key ≡ kind_by (find (has_key key) rows) (find (has_marks_key key) rows)
    kind_when e = ap (λ (t : Bool). if t then Own else kind_by (find (has_key key) rows) (find (has_marks_key key) rows)) e

    by_marks : lists own key ≡ false → find (has_key key) rows ≡ None → (o : Option ℕ) → find (has_marks_key key) rows ≡ o → lists (keys_below rows) key ≡ true
    by_marks e n (Some id) f = find_some (has_marks_key key) key (marks_are_own key) rows id f
    by_marks e n None f =
        absurd (h (kind_when e ∙ ap (λ (r : Option ℕ). kind_by r (find (has_marks_key key) rows)) n ∙ ap (kind_by None) f))

    by_row : lists own key ≡ false → (o : Option ℕ) → find (has_key key) rows ≡ o → lists (keys_below rows) key ≡ true
    by_row e (Some id) f = find_some (has_key key) key (key_is_own key) rows id f
    by_row e None f = by_marks e f (find (has_marks_key key) rows) refl

    by_own : (b : Bool) → lists own key ≡ b → lists (own ++ keys_below rows) key ≡ true
    by_own true e = lists-left own (keys_below rows) key e
    by_own false e = lists-right own (keys_below rows) key (by_row e (find (has_key key) rows) refl)

module _ (Inner : Members → Spot → List Item → Type 0) (here : Spot) (all : Members) where
  fits_no_less : (key : List ℕ) (d : Data) (kind : KeyKind) → MemberFits Inner here all kind d → kind ≢ NoKey
  fits_no_less key d Own fit = λ e. cc
  fits_no_less key d (OfRow id) fit = λ e. cc
  fits_no_less key d (OfMarks id) fit = λ e. cc
  fits_no_less key d NoKey fit = absurd fit

  keys_fit : (ms : Members) → MembersFit Inner here all ms → AreKeys here.place ms
  keys_fit no_members fit = tt
  keys_fit (member key d ms) fit =
      (is_key (rows_below here.place.row here.place.in_group) (own_keys here.place.row) key (fits_no_less key d (key_kind here.place key) fit.0), keys_fit ms fit.1)

  found_fits : (ms : Members) → MembersFit Inner here all ms
      → (key : List ℕ) (d : Data) → get_member key ms ≡ Some d → MemberFits Inner here all (key_kind here.place key) d
  found_fits no_members fit key d e = cc
  found_fits (member other x ms) fit key d e = by_order (slice_cmp nat_cmp key other) refl (found_fits ms fit.1 key d)
    where
      by_order : (o : Ordering) → slice_cmp nat_cmp key other ≡ o
          → (get_member key ms ≡ Some d → MemberFits Inner here all (key_kind here.place key) d) → MemberFits Inner here all (key_kind here.place key) d
      by_order Less f go = go (sym (ap (λ (o : Ordering). match_ordering o (get_member key ms) (Some x) (get_member key ms)) f) ∙ e)
      by_order Greater f go = go (sym (ap (λ (o : Ordering). match_ordering o (get_member key ms) (Some x) (get_member key ms)) f) ∙ e)
      by_order Equal f go =
          let same_value : x ≡ d = some_same x d (sym (ap (λ (o : Ordering). match_ordering o (get_member key ms) (Some x) (get_member key ms)) f) ∙ e) in
          let same_key : other ≡ key = sym (exact_bytes key other f) in
          subst (λ (y : Data). MemberFits Inner here all (key_kind here.place key) y) same_value
          (subst (λ (k : List ℕ). MemberFits Inner here all (key_kind here.place k) x) same_key fit.0)

pub fitting_says : (levels : ℕ) (here : Spot) (ms : Members) → here.place.row < length profile → MembersFit (SaysInside levels) here ms ms
    → (items : List Item) × SaysInside (suc levels) ms here items
unfolding SaysInside
fitting_says levels here ms within fit =
    let rows = level_fits (SaysInside levels) here ms (found_fits (SaysInside levels) here ms ms fit) (keys_once here.place within) in
    (rows.0, (keys_fit (SaysInside levels) here ms ms fit, rows.1))
