-- A row's words determine its steps: a step with the words of a row is one of it, and of no row with other words.
use Rattle.std.proofs.Common.{◌≡◌, ◌<◌, ◌==◌, ℕ, zero, suc, Bool, true, false, not, ◌&&◌, ◌||◌, List, [], ◌∷◌, length, refl, arith, sym, ap, ◌∙◌, eqb-true}
use Rattle.std.specs.List.{list_all}
use Rattle.cfg_base.specs.declared.kind.Shape.{Shape}
use Rattle.cfg_base.specs.declared.kind.Shape.TheVariants.{Container, Fixed, Keyed, Bare, Leaf, Flag, Many}
use Rattle.cfg_base.specs.declared.path.Step.{Step}
use Rattle.cfg_schema.specs.declared.table.Line.{Line}
use Rattle.cfg_schema.specs.Keyword.{spelled}
use Rattle.cfg_schema.specs.Profile.{profile, line_at, row_of, head_of, name_of, has_row_words, is_step_of, is_bare, is_fixed, same_word}
use Rattle.cfg_schema.specs.Place.{has_words, HasWords}
use Rattle.cfg_schema.proofs.TestLemmas.{both, both_true, same, same_is}
use Rattle.cfg_schema.proofs.LevelLemmas.{bare_head}

-- a row that isn't Fixed has no name of its own, and neither has an ordered one
abbrev names_fit : Line → Bool
names_fit line =
    (is_fixed line.shape || (length (spelled line.name) == 0)) && (not line.ordered || (length (spelled line.name) == 0))

profile_names : list_all names_fit profile ≡ true
unfolding profile
profile_names = refl

-- also past the end of the table
names_past : (lines : List Line) (id : ℕ) → list_all names_fit lines ≡ true → names_fit (line_at lines id) ≡ true
names_past [] id h = refl
names_past (line ∷ lines) zero h = (both (names_fit line) _ h).0
names_past (line ∷ lines) (suc id) h = names_past lines id (both (names_fit line) _ h).1

names_at : (id : ℕ)
    → ((is_fixed (line_at profile id).shape || (length (name_of id) == 0)) ≡ true)
    × ((not (line_at profile id).ordered || (length (name_of id) == 0)) ≡ true)
names_at id =
    both (is_fixed (line_at profile id).shape || (length (name_of id) == 0)) _ (names_past profile id profile_names)

first : (a b : Bool) → a ≡ true → (a || b) ≡ true
first true b h = refl
first false b h = cc

second : (a b : Bool) → b ≡ true → (a || b) ≡ true
second true b h = refl
second false b h = h

empty : (xs : List ℕ) → (length xs == 0) ≡ true → xs ≡ []
empty [] h = refl
empty (x ∷ xs) h = let e = eqb-true (length (x ∷ xs)) 0 h in absurd (omega (arith, e))

told_by : (shape : Shape) (head name : List ℕ) (step : Step) → (not (is_bare shape) || same_word head []) ≡ true
    → (is_fixed shape || (length name == 0)) ≡ true → has_words shape head name step ≡ true → has_row_words head name step ≡ true
told_by Fixed head name step h e w =
    let parts = both (same_word head step.head) _ w in both_true _ _ parts.0 (second (length name == 0) _ parts.1)
told_by Bare head name step h e w =
    both_true _ _ (same_is head step.head (same _ _ h ∙ sym (empty step.head w))) (first (length name == 0) _ e)
told_by Keyed head name step h e w = both_true _ _ w (first (length name == 0) _ e)
told_by Container head name step h e w = both_true _ _ (both (same_word head step.head) _ w).0 (first (length name == 0) _ e)
told_by Leaf head name step h e w = both_true _ _ (both (same_word head step.head) _ w).0 (first (length name == 0) _ e)
told_by Flag head name step h e w = both_true _ _ (both (same_word head step.head) _ w).0 (first (length name == 0) _ e)
told_by Many head name step h e w = both_true _ _ (both (same_word head step.head) _ w).0 (first (length name == 0) _ e)

-- a step with the words of a row is one of it
pub told : (id : ℕ) (step : Step) → id < length profile → HasWords id step → is_step_of id step ≡ true
told id step below words =
    told_by (line_at profile id).shape (head_of id) (name_of id) step (bare_head id below) (names_at id).0 words

-- the steps of an ordered row are known by its head
pub ordered_told : (id : ℕ) (step : Step) → (row_of id).ordered ≡ true → is_step_of id step ≡ same_word (head_of id) step.head
ordered_told id step ordered =
    by_head (same_word (head_of id) step.head) (length (name_of id) == 0) (same_word (name_of id) step.name)
    (nameless (line_at profile id).ordered (length (name_of id) == 0) (names_at id).1 ordered)
  where
    nameless : (a b : Bool) → (not a || b) ≡ true → a ≡ true → b ≡ true
    nameless true b h e = h
    nameless false b h e = cc

    by_head : (a b c : Bool) → b ≡ true → (a && (b || c)) ≡ a
    by_head true true c h = refl
    by_head false true c h = refl
    by_head a false c h = cc

-- no step has both rows' words: they have two heads, or two names
abbrev pub others : List ℕ → List ℕ → List ℕ → List ℕ → Bool
others head name other_head other_name =
    not (same_word head other_head)
    || (not (length name == 0) && (not (length other_name == 0) && not (same_word name other_name)))

abbrev pub words_differ : ℕ → ℕ → Bool
words_differ id other = others (head_of id) (name_of id) (head_of other) (name_of other)

apart_by : (head name other_head other_name : List ℕ) (step : Step) → others head name other_head other_name ≡ true
    → has_row_words head name step ≡ true → has_row_words other_head other_name step ≡ true → ⊥
apart_by head name other_head other_name step apart h k =
    let one = both (same_word head step.head) _ h
    in let two = both (same_word other_head step.head) _ k
    in let heads = same_is head other_head (same _ _ one.0 ∙ sym (same _ _ two.0))
    in by_names (length name == 0) (length other_name == 0)
    (ap (λ (b : Bool). not b || (not (length name == 0) && (not (length other_name == 0) && not (same_word name other_name)))) (sym heads) ∙ apart)
    one.1 two.1
  where
    by_names : (a b : Bool) → (not a && (not b && not (same_word name other_name))) ≡ true → (a || same_word name step.name) ≡ true
        → (b || same_word other_name step.name) ≡ true → ⊥
    by_names true b e f g = cc
    by_names false true e f g = cc
    by_names false false e f g = let d = same_is name other_name (same _ _ f ∙ sym (same _ _ g)) in cc

-- a step of one row is none of a row with other words
pub told_apart : (id other : ℕ) (step : Step) → words_differ id other ≡ true → is_step_of id step ≡ true → is_step_of other step ≡ true → ⊥
told_apart id other step = apart_by (head_of id) (name_of id) (head_of other) (name_of other) step
