-- The `set` lines of a configuration, made in order, make its statements without their marks.
use Rattle.std.proofs.Common.{◌≡◌, ◌≢◌, ℕ, ◌<◌, Bool, true, false, List, [], ◌∷◌, ◌++◌, length, take, map as each, refl, sym, ap, subst, ◌∙◌, Option, Some, None, if◌then◌else◌, arith, length-append}
use Rattle.std.specs.FinMap as map
use Rattle.cfg_base.specs.Words.{lists}
use Rattle.cfg_base.specs.declared.kind.Shape.{Shape}
use Rattle.cfg_base.specs.declared.kind.Shape.TheVariants.{Many}
use Rattle.cfg_base.specs.declared.path.Step.{Step}
use Rattle.cfg_base.specs.declared.value.Value.{Value}
use Rattle.cfg_entries.specs.EntryMap.{Pair}
use Rattle.cfg_schema.specs.declared.place.Place.{Place}
use Rattle.cfg_schema.specs.Profile.{row_of}
use Rattle.cfg_schema.specs.Place.{place_of}
use Rattle.cfg_tree.specs.Statements.{Statements, is_below}
use Rattle.cfg_tree.specs.Typed.{AreCanonical, AreWordsOf}
use Rattle.cfg_tree.specs.Change.{put_at}
use Rattle.cfg_tree.specs.Gather.{is_many}
use Rattle.cfg_tree.specs.OwnWords.{own_words}
use Rattle.cfg_resolve.specs.Resolve.{AreGiven}
use Rattle.cfg_tree.proofs.PathLemmas.{child_longer}
use Rattle.cfg_tree.proofs.StepLemmas.{puts}
use Rattle.edit_ops.specs.Value.{value_or_none, value_set, words_set, at_row, is_many_at, has_words, has_words_at}
use Rattle.edit_ops.specs.Change.{set_of}
use Rattle.edit_ops.proofs.NearLemmas.{set_near}
use Rattle.set_text.specs.Printed.{Line, set_line}
use Rattle.set_laws.proofs.LookLemmas.{plain, Unprotected, put_open, put_stays, put_twice, IsReached, set_is, not_below}

-- a statement as it is said without its marks
abbrev pub bare_item : Pair Value → Pair Value
bare_item item = (item.0, plain item.1.words)

abbrev pub bare : List (Pair Value) → List (Pair Value)
bare items = each bare_item items

-- a `set` line is made of the statement that it is of, at a path that passes a test
pub record Sets (m : Statements) (passes : List Step → Type 0) (x : Statements) (it : Line) (y : Statements) : Type 0 where
  pub path : List Step
  pub passed : passes path
  pub words : List (List ℕ)
  pub value : Value
  pub found : map.get m path ≡ Some value
  pub is_line : it ≡ set_line (own_words path ++ words)
  pub given : (here : Place) → place_of path ≡ Some here → AreGiven (row_of here.row).shape words × AreCanonical (row_of here.row).value_kind words
  pub enough : has_words_at path ≡ true → 0 < length words
  pub made : y ≡ set_of x path words
  pub differs : map.get x path ≢ map.get y path
  pub open_before : Unprotected x
  pub open_after : Unprotected y

abbrev pub SetsAll : Statements → (List Step → Type 0) → Statements → List Line → Statements → Type 0
SetsAll m passes x [] y = x ≡ y
SetsAll m passes x (it ∷ lines) y = (next : Statements) × Sets m passes x it next × SetsAll m passes next lines y

pub sets_both : (m : Statements) (passes : List Step → Type 0) (x y z : Statements) (xs ys : List Line) → SetsAll m passes x xs y → SetsAll m passes y ys z → SetsAll m passes x (xs ++ ys) z
sets_both m passes x y z [] ys one two = subst (λ (s : Statements). SetsAll m passes s ys z) (sym one) two
sets_both m passes x y z (l ∷ xs) ys one two = (one.0, one.1, sets_both m passes one.0 y z xs ys one.2 two)

-- a test that is at most as narrow
pub sets_wider : (m : Statements) (p q : List Step → Type 0) (x y : Statements) (lines : List Line) → ((path : List Step) → p path → q path) → SetsAll m p x lines y → SetsAll m q x lines y
sets_wider m p q x y [] wide one = one
sets_wider m p q x y (l ∷ lines) wide one = (
  one.0,
  record {
    path = one.1.path;
    passed = wide one.1.path one.1.passed;
    words = one.1.words;
    value = one.1.value;
    found = one.1.found;
    is_line = one.1.is_line;
    given = one.1.given;
    enough = one.1.enough;
    made = one.1.made;
    differs = one.1.differs;
    open_before = one.1.open_before;
    open_after = one.1.open_after;
  },
  sets_wider m p q one.0 y lines wide one.2,
)

pub sets_open : (m : Statements) (passes : List Step → Type 0) (x y : Statements) (lines : List Line) → Unprotected x → SetsAll m passes x lines y → Unprotected y
sets_open m passes x y [] start one = subst Unprotected one start
sets_open m passes x y (l ∷ lines) start one = sets_open m passes one.0 y lines one.1.open_after one.2

-- at a child, below it, and below a path
abbrev pub AtChild : List Step → Step → List Step → Type 0
AtChild p s q = (rest : List Step) × (q ≡ p ++ s ∷ rest)

abbrev pub Below : List Step → List Step → Type 0
Below p q = (s : Step) × (rest : List Step) × (q ≡ p ++ s ∷ rest)

-- sets at a child leave what is at another one
pub sets_kept : (m : Statements) (p : List Step) (s t : Step) (rest : List Step) (x y : Statements) (lines : List Line) → (t ≡ s → ⊥) → SetsAll m (AtChild p s) x lines y → map.get y (p ++ t ∷ rest) ≡ map.get x (p ++ t ∷ rest)
sets_kept m p s t rest x y [] apart one = ap (λ (z : Statements). map.get z (p ++ t ∷ rest)) (sym one)
sets_kept m p s t rest x y (l ∷ lines) apart one =
    sets_kept m p s t rest one.0 y lines apart one.2
    ∙ ap (λ (z : Statements). map.get z (p ++ t ∷ rest)) one.1.made
    ∙ set_near x one.1.path one.1.words (p ++ t ∷ rest)
    (by_test (is_below (p ++ t ∷ rest) one.1.path) refl)
  where
    by_test : (b : Bool) → is_below (p ++ t ∷ rest) one.1.path ≡ b → b ≡ false
    by_test true e =
        absurd (apart (not_below p rest one.1.passed.0 s t (ap (λ (q : List Step). is_below (p ++ t ∷ rest) q) (sym one.1.passed.1) ∙ e)))
    by_test false e = refl

-- a new statement whose levels are there
module _ (m : Statements) (p : List Step) (s : Step) (v : Value) (found : map.get m (p ++ s ∷ []) ≡ Some v) (here : Place) (placed : place_of (p ++ s ∷ []) ≡ Some here)
    (fits : AreWordsOf here.row v.words) where
  abbrev child : List Step
  child = p ++ s ∷ []

  long : 0 < length (p ++ s ∷ [])
  long = omega (arith, child_longer p s)

  same_here : (there : Place) → place_of (p ++ s ∷ []) ≡ Some there → here ≡ there
  same_here there e = let both = sym placed ∙ e in cc

  many_is : is_many_at (p ++ s ∷ []) ≡ is_many (row_of here.row).shape
  many_is = ap (at_row is_many) placed

  some_is : has_words_at (p ++ s ∷ []) ≡ has_words (row_of here.row).shape
  some_is = ap (at_row has_words) placed

  canonical_part : (words : List (List ℕ)) → AreCanonical (row_of here.row).value_kind words → AreGiven (row_of here.row).shape words → (there : Place) → place_of (p ++ s ∷ []) ≡ Some there → AreGiven (row_of there.row).shape words × AreCanonical (row_of there.row).value_kind words
  canonical_part words canonical given there e =
      subst (λ (h : Place). AreGiven (row_of h.row).shape words × AreCanonical (row_of h.row).value_kind words) (same_here there e) (given, canonical)

  -- the statement is set for the first time
  pub set_first : (x : Statements) (words : List (List ℕ)) → IsReached x (p ++ s ∷ []) → map.get x (p ++ s ∷ []) ≡ None → Unprotected x
      → AreCanonical (row_of here.row).value_kind words → AreGiven (row_of here.row).shape words → (has_words (row_of here.row).shape ≡ true → 0 < length words)
      → ((b : Bool) → words_set b [] words ≡ words)
      → Sets m (AtChild p s) x (set_line (own_words (p ++ s ∷ []) ++ words)) (put_at x (p ++ s ∷ []) (plain words))
  set_first x words reached new start canonical given some same = record {
    path = p ++ s ∷ [];
    passed = ([], refl);
    words = words;
    value = v;
    found = found;
    is_line = refl;
    given = canonical_part words canonical given;
    enough = λ e. some (sym some_is ∙ e);
    made =
        sym (set_is x (p ++ s ∷ []) words long reached
        ∙ ap (λ (o : Option Value). put_at x (p ++ s ∷ []) (value_set (p ++ s ∷ []) (value_or_none o) words)) new
        ∙ ap (λ (ws : List (List ℕ)). put_at x (p ++ s ∷ []) (plain ws)) (same (is_many_at (p ++ s ∷ []))));
    differs = λ e. let h = sym new ∙ e ∙ (puts x (p ++ s ∷ []) (plain words) long).here in cc;
    open_before = start;
    open_after = put_open x (p ++ s ∷ []) (plain words) long refl start;
  }

  -- a word more of a Many
  pub set_more : (x : Statements) (front : List (List ℕ)) (w : List ℕ) → IsReached x (p ++ s ∷ []) → map.get x (p ++ s ∷ []) ≡ None → Unprotected x
      → (row_of here.row).shape ≡ Many → AreCanonical (row_of here.row).value_kind (w ∷ []) → lists front w ≡ false
      → Sets m (AtChild p s) (put_at x (p ++ s ∷ []) (plain front)) (set_line (own_words (p ++ s ∷ []) ++ w ∷ [])) (put_at x (p ++ s ∷ []) (plain (front ++ w ∷ [])))
  set_more x front w reached new start shape canonical unlisted = record {
    path = p ++ s ∷ [];
    passed = ([], refl);
    words = w ∷ [];
    value = v;
    found = found;
    is_line = refl;
    given = canonical_part (w ∷ []) canonical (subst (λ (k : Shape). AreGiven k (w ∷ [])) (sym shape) tt);
    enough = λ e. omega arith;
    made =
        sym (set_is (put_at x (p ++ s ∷ []) (plain front)) (p ++ s ∷ []) (w ∷ []) long (λ k some within. put_stays x (p ++ s ∷ []) (take k (p ++ s ∷ [])) (plain front) (reached k some within))
        ∙ ap (λ (o : Option Value). put_at (put_at x (p ++ s ∷ []) (plain front)) (p ++ s ∷ []) (value_set (p ++ s ∷ []) (value_or_none o) (w ∷ []))) (puts x (p ++ s ∷ []) (plain front) long).here
        ∙ ap (λ (b : Bool). put_at (put_at x (p ++ s ∷ []) (plain front)) (p ++ s ∷ []) (plain (words_set b front (w ∷ [])))) (many_is ∙ ap is_many shape)
        ∙ ap (λ (b : Bool). put_at (put_at x (p ++ s ∷ []) (plain front)) (p ++ s ∷ []) (plain (if b then front else front ++ w ∷ []))) unlisted
        ∙ put_twice x (p ++ s ∷ []) (plain front) (plain (front ++ w ∷ [])) long new);
    differs = λ e.
        let same = sym (puts x (p ++ s ∷ []) (plain front) long).here ∙ e ∙ (puts x (p ++ s ∷ []) (plain (front ++ w ∷ [])) long).here in
        longer front w (words_are (plain front) (plain (front ++ w ∷ [])) same);
    open_before = put_open x (p ++ s ∷ []) (plain front) long refl start;
    open_after = put_open x (p ++ s ∷ []) (plain (front ++ w ∷ [])) long refl start;
  }
    where
      words_are : (a b : Value) → Some a ≡ Some b → a.words ≡ b.words
      words_are a b e = cc

      longer : (ws : List (List ℕ)) (u : List ℕ) → ws ≡ ws ++ u ∷ [] → ⊥
      longer ws u e = let k = ap (λ (us : List (List ℕ)). length us) e in omega (arith, k, length-append ws (u ∷ []))
