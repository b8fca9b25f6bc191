-- Which values are lists of marks.
use Rattle.std.proofs.Common.{◌≡◌, ◌⊎◌, inl, inr, ◌<◌, ◌≤◌, get_or, ℕ, zero, suc, Bool, true, false, ◌&&◌, List, [], ◌∷◌, length, codes, refl, sym, ap, subst, ◌∙◌, Option, Some, None, arith, true≢false}
use Rattle.std.specs.Prelude.{◌||◌}
use Rattle.std.specs.Bool.{Decides}
use Rattle.std.specs.List.{AllByRecursion, IsDistinct}
use Rattle.cfg_base.specs.Words.{lists, same_word}
use Rattle.cfg_schema.proofs.TestLemmas.{same, same_is}
use Rattle.serde_json.specs.Data.{Data, null, boolean, number, string, array, object, Items, no_items, item}
use Rattle.serde_json.specs.View.{items_of, items_view, view}
use Rattle.serde_json.specs.declared.value.Value.{Value}
use Rattle.json_text.specs.Written.{strings, marks_set}
use Rattle.json_text.specs.Said.{AreMarks, MarksIn}
use Rattle.json_text.specs.Faults.{AreMarksAt}
use Rattle.json_text.proofs.OneLemmas.{array_same, string_same}

abbrev pub inactive_word : List ℕ
inactive_word = codes "inactive"

abbrev pub protect_word : List ℕ
protect_word = codes "protect"

abbrev pub IsMark : Data → Type 0
IsMark d = (d ≡ string inactive_word) ⊎ (d ≡ string protect_word)

abbrev IsMarkWord : List ℕ → Type 0
IsMarkWord word = (word ≡ inactive_word) ⊎ (word ≡ protect_word)

abbrev pub ListOfMarks : Items → Type 0
ListOfMarks ds = AreMarksAt (Some (array ds))

known_word : (word : List ℕ) → lists (marks_set true true) word ≡ true → IsMarkWord word
known_word word h = by_first (same_word word inactive_word) refl (same_word word protect_word) refl h
  where
    by_first : (a : Bool) → same_word word inactive_word ≡ a → (b : Bool) → same_word word protect_word ≡ b → (a || (b || false)) ≡ true → IsMarkWord word
    by_first true e b f k = inl (same word inactive_word e)
    by_first false e true f k = inr (same word protect_word f)
    by_first false e false f k = cc

as_mark : (d : Data) (word : List ℕ) → d ≡ string word → IsMarkWord word → IsMark d
as_mark d word e (inl h) = inl (e ∙ ap string h)
as_mark d word e (inr h) = inr (e ∙ ap string h)

-- one mark
first_item : (d e : Data) (ds es : Items) → item d ds ≡ item e es → d ≡ e
first_item d e ds es h = cc

rest_items : (d e : Data) (ds es : Items) → item d ds ≡ item e es → ds ≡ es
rest_items d e ds es h = cc

one_set : (d : Data) → IsMark d → ListOfMarks (item d no_items)
unfolding IsDistinct
one_set d (inl e) = (
  true,
  false,
  record {
    words = inactive_word ∷ [];
    is = ap (λ (x : Data). array (item x no_items)) e;
    marks = record { some = omega arith; once = (tt, tt); known = (refl, tt); is_inactive = refl; is_protected = refl };
  },
)
one_set d (inr e) = (
  false,
  true,
  record {
    words = protect_word ∷ [];
    is = ap (λ (x : Data). array (item x no_items)) e;
    marks = record { some = omega arith; once = (tt, tt); known = (refl, tt); is_inactive = refl; is_protected = refl };
  },
)

one_is : (d : Data) (words : List (List ℕ)) → array (item d no_items) ≡ array (items_of (strings words))
    → AllByRecursion (λ word. lists (marks_set true true) word ≡ true) words → IsMark d
one_is d [] e k = let c : item d no_items ≡ no_items = array_same (item d no_items) no_items e in cc
one_is d (word ∷ words) e k =
    let f : item d no_items ≡ item (string word) (items_of (strings words)) = array_same (item d no_items) (item (string word) (items_of (strings words))) e
    in as_mark d word (first_item d (string word) no_items (items_of (strings words)) f) (known_word word k.0)

pub one_decides : (d : Data) (b : Bool) → Decides b (IsMark d) → Decides b (ListOfMarks (item d no_items))
one_decides d b h = (λ e. one_set d (h.0 e), λ m. h.1 (one_is d m.2.words m.2.is m.2.marks.known))

-- two marks
abbrev EitherWay : Data → Data → Type 0
EitherWay d e = ((d ≡ string inactive_word) × (e ≡ string protect_word)) ⊎ ((d ≡ string protect_word) × (e ≡ string inactive_word))

two_set : (d e : Data) → EitherWay d e → ListOfMarks (item d (item e no_items))
unfolding IsDistinct
two_set d e (inl h) = (
  true,
  true,
  record {
    words = inactive_word ∷ protect_word ∷ [];
    is = ap (λ (x : Data). array (item x (item e no_items))) h.0 ∙ ap (λ (x : Data). array (item (string inactive_word) (item x no_items))) h.1;
    marks = record { some = omega arith; once = ((refl, tt), (tt, tt)); known = (refl, (refl, tt)); is_inactive = refl; is_protected = refl };
  },
)
two_set d e (inr h) = (
  true,
  true,
  record {
    words = protect_word ∷ inactive_word ∷ [];
    is = ap (λ (x : Data). array (item x (item e no_items))) h.0 ∙ ap (λ (x : Data). array (item (string protect_word) (item x no_items))) h.1;
    marks = record { some = omega arith; once = ((refl, tt), (tt, tt)); known = (refl, (refl, tt)); is_inactive = refl; is_protected = refl };
  },
)

not_same : (a b : List ℕ) → a ≡ b → same_word a b ≡ false → ⊥
not_same a b e f = true≢false (sym (same_is a b e) ∙ f)

apart_marks : (d e : Data) (v w : List ℕ) → d ≡ string v → e ≡ string w → same_word v w ≡ false → IsMarkWord v → IsMarkWord w → EitherWay d e
apart_marks d e v w f g n (inl a) (inl b) = absurd (not_same v w (a ∙ sym b) n)
apart_marks d e v w f g n (inl a) (inr b) = inl (f ∙ ap string a, g ∙ ap string b)
apart_marks d e v w f g n (inr a) (inl b) = inr (f ∙ ap string a, g ∙ ap string b)
apart_marks d e v w f g n (inr a) (inr b) = absurd (not_same v w (a ∙ sym b) n)

two_are : (d e : Data) (words : List (List ℕ)) → item d (item e no_items) ≡ items_of (strings words)
    → AllByRecursion (λ word. lists (marks_set true true) word ≡ true) words → IsDistinct same_word words → EitherWay d e
unfolding IsDistinct
two_are d e [] f k o = cc
two_are d e (v ∷ []) f k o = let c : item e no_items ≡ no_items = rest_items d (string v) (item e no_items) no_items f in cc
two_are d e (v ∷ w ∷ words) f k o =
    let rest : item e no_items ≡ item (string w) (items_of (strings words)) = rest_items d (string v) (item e no_items) (item (string w) (items_of (strings words))) f
    in apart_marks d e v w (first_item d (string v) (item e no_items) (item (string w) (items_of (strings words))) f)
    (first_item e (string w) no_items (items_of (strings words)) rest) o.0.0 (known_word v k.0) (known_word w k.1.0)

both_ways : (d e : Data) (a b c f : Bool) → Decides a (d ≡ string inactive_word) → Decides b (d ≡ string protect_word)
    → Decides c (e ≡ string inactive_word) → Decides f (e ≡ string protect_word) → Decides (a && f || b && c) (EitherWay d e)
both_ways d e true b c true p q r s = (λ h. inl (p.0 refl, s.0 refl), λ w. refl)
both_ways d e true true true false p q r s = (λ h. inr (q.0 refl, r.0 refl), λ w. refl)
both_ways d e false true true f p q r s = (λ h. inr (q.0 refl, r.0 refl), λ w. refl)
both_ways d e true true false false p q r s = (λ h. cc, λ w. never w)
  where
    never : EitherWay d e → false ≡ true
    never (inl w) = s.1 w.1
    never (inr w) = r.1 w.1
both_ways d e true false c false p q r s = (λ h. cc, λ w. never w)
  where
    never : EitherWay d e → false ≡ true
    never (inl w) = s.1 w.1
    never (inr w) = q.1 w.0
both_ways d e false true false f p q r s = (λ h. cc, λ w. never w)
  where
    never : EitherWay d e → false ≡ true
    never (inl w) = p.1 w.0
    never (inr w) = r.1 w.1
both_ways d e false false c f p q r s = (λ h. cc, λ w. never w)
  where
    never : EitherWay d e → false ≡ true
    never (inl w) = p.1 w.0
    never (inr w) = q.1 w.0

pub two_decide : (d e : Data) (a b c f : Bool) → Decides a (d ≡ string inactive_word) → Decides b (d ≡ string protect_word)
    → Decides c (e ≡ string inactive_word) → Decides f (e ≡ string protect_word) → Decides (a && f || b && c) (ListOfMarks (item d (item e no_items)))
two_decide d e a b c f p q r s =
    let way = both_ways d e a b c f p q r s
    in (λ h. two_set d e (way.0 h), λ m. way.1 (two_are d e m.2.words (array_same (item d (item e no_items)) (items_of (strings m.2.words)) m.2.is) m.2.marks.known m.2.marks.once))

-- no marks, and more than two
pub none_decides : Decides false (ListOfMarks no_items)
none_decides = (λ h. cc, λ m. absurd (none m.2.words (array_same no_items (items_of (strings m.2.words)) m.2.is) m.2.marks.some))
  where
    none : (words : List (List ℕ)) → no_items ≡ items_of (strings words) → 0 < length words → ⊥
    none [] e h = omega (arith, h)
    none (word ∷ words) e h = cc

three_words : (u v w : List ℕ) → same_word u v ≡ false → same_word u w ≡ false → same_word v w ≡ false → IsMarkWord u → IsMarkWord v → IsMarkWord w → ⊥
three_words u v w a b c (inl x) (inl y) z = not_same u v (x ∙ sym y) a
three_words u v w a b c (inr x) (inr y) z = not_same u v (x ∙ sym y) a
three_words u v w a b c (inl x) (inr y) (inl z) = not_same u w (x ∙ sym z) b
three_words u v w a b c (inl x) (inr y) (inr z) = not_same v w (y ∙ sym z) c
three_words u v w a b c (inr x) (inl y) (inl z) = not_same v w (y ∙ sym z) c
three_words u v w a b c (inr x) (inl y) (inr z) = not_same u w (x ∙ sym z) b

many_are : (a b c : Data) (ds : Items) (words : List (List ℕ)) → item a (item b (item c ds)) ≡ items_of (strings words)
    → AllByRecursion (λ word. lists (marks_set true true) word ≡ true) words → IsDistinct same_word words → ⊥
unfolding IsDistinct
many_are a b c ds [] f k o = cc
many_are a b c ds (u ∷ []) f k o = let e : item b (item c ds) ≡ no_items = rest_items a (string u) (item b (item c ds)) no_items f in cc
many_are a b c ds (u ∷ v ∷ []) f k o =
    let e : item b (item c ds) ≡ item (string v) no_items = rest_items a (string u) (item b (item c ds)) (item (string v) no_items) f
    in let g : item c ds ≡ no_items = rest_items b (string v) (item c ds) no_items e in cc
many_are a b c ds (u ∷ v ∷ w ∷ words) f k o =
    three_words u v w o.0.0 o.0.1.0 o.1.0.0 (known_word u k.0) (known_word v k.1.0) (known_word w k.1.1.0)

pub many_decide : (a b c : Data) (ds : Items) → Decides false (ListOfMarks (item a (item b (item c ds))))
many_decide a b c ds =
    (λ h. cc, λ m. absurd (many_are a b c ds m.2.words (array_same (item a (item b (item c ds))) (items_of (strings m.2.words)) m.2.is) m.2.marks.known m.2.marks.once))

-- another value is no list
pub no_list_decides : (d : Data) → ((ds : Items) → d ≡ array ds → ⊥) → Decides false (AreMarksAt (Some d))
no_list_decides d other = (λ h. cc, λ m. absurd (other (items_of (strings m.2.words)) m.2.is))

-- a list of values by their number
pub one_value : (vs : List Value) (one : Value) (b : Bool) → 1 ≤ length vs → length vs < 2 → one ≡ get_or vs 0 one → Decides b (IsMark (view one))
    → Decides b (ListOfMarks (items_view vs))
one_value [] one b l m e d = absurd (omega (arith, l))
one_value (v ∷ w ∷ vs) one b l m e d = absurd (omega (arith, m))
one_value (v ∷ []) one b l m e d = one_decides (view v) b (subst (λ (x : Value). Decides b (IsMark (view x))) e d)

pub two_values : (vs : List Value) (one other : Value) (a b c f : Bool) → 2 ≤ length vs → length vs < 3 → one ≡ get_or vs 0 one → other ≡ get_or vs 1 other
    → Decides a (view one ≡ string inactive_word) → Decides b (view one ≡ string protect_word)
    → Decides c (view other ≡ string inactive_word) → Decides f (view other ≡ string protect_word)
    → Decides (a && f || b && c) (ListOfMarks (items_view vs))
two_values [] one other a b c f l m e g p q r s = absurd (omega (arith, l))
two_values (v ∷ []) one other a b c f l m e g p q r s = absurd (omega (arith, l))
two_values (v ∷ w ∷ x ∷ vs) one other a b c f l m e g p q r s = absurd (omega (arith, m))
two_values (v ∷ w ∷ []) one other a b c f l m e g p q r s =
    two_decide (view v) (view w) a b c f (subst (λ (x : Value). Decides a (view x ≡ string inactive_word)) e p)
    (subst (λ (x : Value). Decides b (view x ≡ string protect_word)) e q) (subst (λ (x : Value). Decides c (view x ≡ string inactive_word)) g r)
    (subst (λ (x : Value). Decides f (view x ≡ string protect_word)) g s)

pub no_value : (vs : List Value) → length vs < 1 → Decides false (ListOfMarks (items_view vs))
no_value [] l = none_decides
no_value (v ∷ vs) l = absurd (omega (arith, l))

pub many_values : (vs : List Value) → 3 ≤ length vs → Decides false (ListOfMarks (items_view vs))
many_values [] l = absurd (omega (arith, l))
many_values (v ∷ []) l = absurd (omega (arith, l))
many_values (v ∷ w ∷ []) l = absurd (omega (arith, l))
many_values (v ∷ w ∷ x ∷ vs) l = many_decide (view v) (view w) (view x) (items_view vs)
