-- The value of a change fits its statement's row.
use Rattle.std.proofs.Common.{◌≡◌, ℕ, zero, suc, ◌≤◌, ◌<◌, Bool, true, false, not, List, [], ◌∷◌, length, filter, refl, sym, ap, subst, ◌∙◌, Some, None, is_some, arith}
use Rattle.std.specs.List.{IsDistinct}
use Rattle.std.specs.FinMap as map
use Rattle.std.proofs.lemmas.List.Elements.{All-nil, All-filter}
use Rattle.cfg_base.specs.declared.kind.Kind.{Kind}
use Rattle.cfg_base.specs.declared.kind.Shape.{Shape}
use Rattle.cfg_base.specs.declared.kind.Shape.TheVariants.{Container, Fixed, Keyed, Bare, Leaf, Flag, Many}
use Rattle.cfg_base.specs.declared.path.Step.{Step}
use Rattle.cfg_base.specs.declared.value.Value.{Value}
use Rattle.cfg_schema.specs.declared.place.Place.{Place}
use Rattle.cfg_schema.specs.Profile.{row_of, same_word}
use Rattle.cfg_schema.specs.Place.{place_of}
use Rattle.cfg_values.specs.Spelling.{IsCanonical}
use Rattle.cfg_resolve.specs.declared.target.Target.{Target}
use Rattle.cfg_tree.specs.Statements.{Statements}
use Rattle.cfg_tree.specs.Typed.{AreCounted, AreCanonical, AreWordsOf}
use Rattle.cfg_tree.specs.Tree.{lists, IsTree}
use Rattle.cfg_tree.specs.Change.{FitsProfile}
use Rattle.cfg_resolve.specs.Resolve.{AreGiven}
use Rattle.edit_ops.specs.Value.{no_value, has_words, is_many, at_row, words_set, joined, value_set, words_without}
use Rattle.edit_ops.specs.Made.{IsTarget, IsEnough, IsOther, IsNewStatement, IsPart}
use Rattle.cfg_base.proofs.WordLemmas.{joined-distinct, joined-all, joined-longer, joined-some, distinct-left, fewer-left}

-- the words that are set are counted, where there are enough
counted_set : (shape : Shape) (old given : List (List ℕ)) → AreGiven shape given → (has_words shape ≡ true → 0 < length given)
    → (is_many shape ≡ true → IsDistinct same_word old × ((0 < length old → 0 < length (joined old given)) × (length old ≡ 0 → 0 < length (joined old given))))
    → AreCounted shape (words_set (is_many shape) old given)
counted_set Container old given g some many = g
counted_set Fixed old given g some many = g
counted_set Keyed old given g some many = g
counted_set Bare old given g some many = g
counted_set Flag old given g some many = g
counted_set Leaf old given g some many = let one = some refl in omega (arith, g, one)
counted_set Many old given g some many =
    let (distinct, (longer, first)) = many refl in (by_length (length old) refl longer first, joined-distinct old given distinct)
  where
    by_length : (n : ℕ) → length old ≡ n → (0 < length old → 0 < length (joined old given)) → (length old ≡ 0 → 0 < length (joined old given)) → 0 < length (joined old given)
    by_length zero e longer first = first e
    by_length (suc n) e longer first = longer (omega (arith, e))

row_is : (f : Shape → Bool) (path : List Step) (here : Place) → place_of path ≡ Some here → at_row f (place_of path) ≡ f (row_of here.row).shape
row_is f path here e = ap (at_row f) e

many_has_words : (shape : Shape) → is_many shape ≡ true → has_words shape ≡ true
many_has_words Container h = h
many_has_words Fixed h = h
many_has_words Keyed h = h
many_has_words Bare h = h
many_has_words Leaf h = refl
many_has_words Flag h = h
many_has_words Many h = refl

counted_distinct : (shape : Shape) (words : List (List ℕ)) → is_many shape ≡ true → AreCounted shape words → IsDistinct same_word words
counted_distinct Container words h c = cc
counted_distinct Fixed words h c = cc
counted_distinct Keyed words h c = cc
counted_distinct Bare words h c = cc
counted_distinct Leaf words h c = cc
counted_distinct Flag words h c = cc
counted_distinct Many words h c = c.1

canonical_set : (kind : Kind) (b : Bool) (old given : List (List ℕ)) → (b ≡ true → AreCanonical kind old) → AreCanonical kind given
    → AreCanonical kind (words_set b old given)
canonical_set kind true old given many g = joined-all (IsCanonical kind) old given (many refl) g
canonical_set kind false old given many g = g

-- what is set fits, where the old words of a Many are different and canonical
set_fits : (old : Value) (target : Target) → IsTarget target → IsEnough target
    → ((here : Place) → place_of target.path ≡ Some here → is_many (row_of here.row).shape ≡ true
    → IsDistinct same_word old.words × AreCanonical (row_of here.row).value_kind old.words)
    → FitsProfile target.path (value_set target.path old target.words)
set_fits old target is_target enough many = record {
  typed = is_target.typed;
  words = λ here e. subst (λ (b : Bool). AreWordsOf here.row (words_set b old.words target.words)) (sym (row_is is_many target.path here e))
      (counted here e, canonical_set _ _ old.words target.words (λ h. (many here e h).1) (is_target.canonical here e));
}
  where
    enough_here : (here : Place) → place_of target.path ≡ Some here → has_words (row_of here.row).shape ≡ true → 0 < length target.words
    enough_here here e h = enough (row_is has_words target.path here e ∙ h)

    first_word : (old : List (List ℕ)) → 0 < length target.words → length old ≡ 0 → 0 < length (joined old target.words)
    first_word [] some none = joined-some target.words some
    first_word (x ∷ old) some none = absurd (not_none none)
      where
        not_none : length (x ∷ old) ≡ 0 → ⊥
        not_none e = omega (arith, e)

    through : {a b : ℕ} → a ≤ b → 0 < a → 0 < b
    through f g = omega (arith, f, g)

    counted : (here : Place) → place_of target.path ≡ Some here
        → AreCounted (row_of here.row).shape (words_set (is_many (row_of here.row).shape) old.words target.words)
    counted here e =
        counted_set (row_of here.row).shape old.words target.words (is_target.given here e) (enough_here here e)
        (λ h. (
          (many here e h).0,
          (
            λ some. through (joined-longer old.words target.words) some,
            λ none. first_word old.words (enough_here here e (many_has_words _ h)) none,
          ),
        ))

pub other_set : (m : Statements) (old : Value) (target : Target) → IsTree m → map.get m target.path ≡ Some old → IsTarget target → IsEnough target
    → IsOther m target.path (value_set target.path old target.words)
other_set m old target tree found is_target enough = record {
  steps = is_target.steps;
  old = old;
  found = found;
  order = refl;
  fits = set_fits old target is_target enough
      (λ here e h. let typed = tree.typed.words target.path old here found e in (counted_distinct _ old.words h typed.0, typed.1));
}

no_words : IsDistinct same_word []
unfolding IsDistinct
no_words = tt

pub new_set : (m : Statements) (target : Target) → map.get m target.path ≡ None → IsTarget target → IsEnough target
    → IsNewStatement m target.path (value_set target.path no_value target.words)
new_set m target none is_target enough = record {
  steps = is_target.steps;
  none = none;
  order = refl;
  fits = set_fits no_value target is_target enough (λ here e h. (no_words, All-nil _));
}

-- a value with the words that are there fits
pub other_mark : (m : Statements) (path : List Step) (old value : Value) → IsTree m → map.get m path ≡ Some old → value.order ≡ old.order
    → value.words ≡ old.words → IsOther m path value
other_mark m path old value tree found order words = record {
  steps = (tree.statements.parents path (ap is_some found)).steps;
  old = old;
  found = found;
  order = order;
  fits = record {
    typed = tree.typed.paths path (ap is_some found);
    words = λ here e. subst (λ (ws : List (List ℕ)). AreWordsOf here.row ws) (sym words) (tree.typed.words path old here found e);
  };
}

counted_left : (shape : Shape) (t : List ℕ → Bool) (words : List (List ℕ)) → AreCounted shape words → 0 < length (filter t words) → AreCounted shape (filter t words)
counted_left Container t words c some = ap (filter t) c
counted_left Fixed t words c some = ap (filter t) c
counted_left Keyed t words c some = ap (filter t) c
counted_left Bare t words c some = ap (filter t) c
counted_left Flag t words c some = ap (filter t) c
counted_left Leaf t words c some = let few = fewer-left t words in omega (arith, c, some, few)
counted_left Many t words c some = (some, distinct-left t words c.1)

-- and so does one with some of them
pub part : (m : Statements) (path : List Step) (value : Value) (gone : List (List ℕ)) → IsTree m → map.get m path ≡ Some value
    → IsPart m path value (words_without value.words gone)
part m path value gone tree found = record {
  found = found;
  fits = λ some. record {
    typed = tree.typed.paths path (ap is_some found);
    words = λ here e. let typed = tree.typed.words path value here found e
        in (
          counted_left _ (λ (word : List ℕ). not (lists gone word)) value.words typed.0 some,
          All-filter (λ (word : List ℕ). not (lists gone word)) (IsCanonical (row_of here.row).value_kind) value.words typed.1,
        );
  };
}
