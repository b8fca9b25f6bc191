-- The own words of a step that leads from a place, by the shape of its row.
use Rattle.std.proofs.Common.{◌≡◌, ◌≢◌, ℕ, ◌<◌, ◌==◌, Bool, true, false, not, ◌||◌, List, [], ◌∷◌, ◌++◌, length, refl, ap, subst, ◌∙◌, Some, arith, eqb-true}
use Rattle.std.specs.List.{list_all}
use Rattle.std.proofs.lemmas.List.Elements.{All-head, All-tail}
use Rattle.cfg_base.specs.declared.path.Step.{Step}
use Rattle.cfg_base.specs.declared.kind.Kind.{Kind}
use Rattle.cfg_base.specs.declared.kind.Shape.{Shape}
use Rattle.cfg_base.specs.declared.kind.Shape.TheVariants.{Container, Fixed, Keyed, Bare, Leaf, Flag, Many}
use Rattle.cfg_schema.specs.declared.table.Line.{Line}
use Rattle.cfg_schema.specs.declared.place.Place.{Place}
use Rattle.cfg_schema.specs.declared.answer.Child.TheVariants as begun
use Rattle.cfg_schema.specs.Keyword.{spelled}
use Rattle.cfg_schema.specs.Profile.{profile, no_line, row_of, head_of, name_of, is_bare, is_fixed, same_word, level_of, StandsBelow}
use Rattle.cfg_schema.specs.Child.{child_of, HasHead}
use Rattle.cfg_schema.specs.Place.{has_words, place_after}
use Rattle.cfg_schema.proofs.TestLemmas.{both, both_true, not_bare, fixed_is, not_true, other_of, not_is_true, same, same_is}
use Rattle.cfg_schema.proofs.LevelLemmas.{all_at, head_is, led_to}
use Rattle.cfg_schema.proofs.BegunLemmas.{head_begins_row}
use Rattle.cfg_values.specs.Spelling.{IsCanonical}
use Rattle.cfg_tree.specs.Typed.{IsNamed, AreCanonical, AllSpelled}
use Rattle.cfg_tree.specs.Tree.{step_of}
use Rattle.cfg_tree.specs.OwnWords.{word_if_any, words_of_step}
use Rattle.cfg_tree.proofs.TypedLemmas.{bare_step}
use Rattle.cfg_tree.proofs.FollowLemmas.{headless_is_bare}
use Rattle.cfg_tree.proofs.NameLemmas.{name_some}

-- a word that isn't empty is one of the own words
one_word : (word : List ℕ) → 0 < length word → word_if_any word ≡ word ∷ []
one_word [] h = absurd (omega (arith, h))
one_word (b ∷ bytes) h = refl

empty : (xs : List ℕ) → (length xs == 0) ≡ true → xs ≡ []
empty [] h = refl
empty (x ∷ xs) h = let e = eqb-true (length (x ∷ xs)) 0 h in absurd (omega (arith, e))

-- the name of a Fixed row isn't empty
abbrev has_fixed_name : Line → Bool
has_fixed_name line = not (is_fixed line.shape) || not (same_word (spelled line.name) [])

profile_fixed_names : list_all has_fixed_name profile ≡ true
unfolding profile
profile_fixed_names = refl

some_bytes : (bytes : List ℕ) → bytes ≢ [] → 0 < length bytes
some_bytes [] h = absurd (h refl)
some_bytes (b ∷ bytes) h = omega arith

pub fixed_name_some : (id : ℕ) → id < length profile → (row_of id).shape ≡ Fixed → 0 < length (name_of id)
fixed_name_some id within e =
    let test = all_at has_fixed_name profile id no_line profile_fixed_names within
    in let named = not_true _ (other_of _ _ test (not_is_true _ (fixed_is _ e)))
    in some_bytes (name_of id) (λ f. let t = same_is _ _ f in cc)

-- words that are canonical are spellings of themselves
pub all_spelled : (kind : Kind) (words : List (List ℕ)) → AreCanonical kind words → AllSpelled kind words words
all_spelled kind [] h = tt
all_spelled kind (word ∷ words) h =
    (All-head (IsCanonical kind) word words h, all_spelled kind words (All-tail (IsCanonical kind) word words h))

-- a shape whose steps have a head and no name
abbrev pub is_plain : Shape → Bool
is_plain Container = true
is_plain Leaf = true
is_plain Flag = true
is_plain Many = true
is_plain _ = false

plain_name : (shape : Shape) (head name : List ℕ) (step : Step) → is_plain shape ≡ true → has_words shape head name step ≡ true → step.name ≡ []
plain_name Container head name step e h = empty step.name (both (same_word head step.head) _ h).1
plain_name Leaf head name step e h = empty step.name (both (same_word head step.head) _ h).1
plain_name Flag head name step e h = empty step.name (both (same_word head step.head) _ h).1
plain_name Many head name step e h = empty step.name (both (same_word head step.head) _ h).1
plain_name Fixed head name step e h = cc
plain_name Keyed head name step e h = cc
plain_name Bare head name step e h = cc

pub fixed_name : (head name : List ℕ) (step : Step) → has_words Fixed head name step ≡ true → name ≡ step.name
fixed_name head name step h = same _ _ (both (same_word head step.head) _ h).1

-- a step that leads from a place to the next one
module _ (here next : Place) (step : Step) (led : place_after here step ≡ Some next) where
  pub stood : StandsBelow here.row here.in_group next.row
  stood = (led_to here next step led).stood

  pub words_at : (shape : Shape) → (row_of next.row).shape ≡ shape → has_words shape (head_of next.row) (name_of next.row) step ≡ true
  words_at shape e = subst (λ (s : Shape). has_words s (head_of next.row) (name_of next.row) step ≡ true) e (led_to here next step led).words

  has_head : (row_of next.row).shape ≢ Bare → HasHead here.row here.in_group step.head next.row
  has_head other = (
    stood,
    other,
    head_is (level_of here.row here.in_group) step next.row stood.0 (both_true _ _ stood.1 (led_to here next step led).words),
  )

  head_some : (row_of next.row).shape ≢ Bare → 0 < length step.head
  head_some other = some_bytes step.head (λ e. other (headless_is_bare here next step led e))

  -- the own words of the step, and the step of them
  pub plain_words : (shape : Shape) → (row_of next.row).shape ≡ shape → is_plain shape ≡ true → (row_of next.row).shape ≢ Bare
      → words_of_step step ≡ step.head ∷ []
  plain_words shape e plain other =
      ap (λ (n : List ℕ). word_if_any step.head ++ word_if_any n) (plain_name shape _ _ step plain (words_at shape e))
      ∙ ap (λ (ws : List (List ℕ)). ws ++ []) (one_word step.head (head_some other))

  pub plain_step : (shape : Shape) → (row_of next.row).shape ≡ shape → is_plain shape ≡ true → step ≡ step_of step.head []
  plain_step shape e plain = ap (λ (n : List ℕ). step_of step.head n) (plain_name shape _ _ step plain (words_at shape e))

  pub two_words : (row_of next.row).shape ≢ Bare → 0 < length step.name → words_of_step step ≡ step.head ∷ step.name ∷ []
  two_words other some =
      ap (λ (ws : List (List ℕ)). ws ++ word_if_any step.name) (one_word step.head (head_some other))
      ∙ ap (λ (ws : List (List ℕ)). step.head ∷ ws) (one_word step.name some)

  pub bare_words : (row_of next.row).shape ≡ Bare → 0 < length step.name → words_of_step step ≡ step.name ∷ []
  bare_words e some =
      ap (λ (h : List ℕ). word_if_any h ++ word_if_any step.name) (bare_step here next step led e)
      ∙ one_word step.name some

  pub bare_step_is : (row_of next.row).shape ≡ Bare → step ≡ step_of [] step.name
  bare_step_is e = ap (λ (h : List ℕ). step_of h step.name) (bare_step here next step led e)

  pub begins_own : (word : List ℕ) → (row_of next.row).shape ≢ Bare → ((row_of next.row).shape ≡ Fixed → name_of next.row ≡ word)
      → child_of here.row here.in_group step.head word ≡ begun.Row next.row
  begins_own word other name = head_begins_row here.row here.in_group step.head word next.row (has_head other) name

  pub other_shape : (shape : Shape) → (row_of next.row).shape ≡ shape → is_bare shape ≡ false → (row_of next.row).shape ≢ Bare
  other_shape shape e f = not_bare _ (ap is_bare e ∙ f)

  headed : (row_of next.row).shape ≢ Bare → 0 < length (words_of_step step)
  headed other =
      let is = ap (λ (ws : List (List ℕ)). length (ws ++ word_if_any step.name)) (one_word step.head (head_some other)) in omega (arith, is)

  -- a step has words of its own
  pub step_some : (shape : Shape) → (row_of next.row).shape ≡ shape → IsNamed here next.row shape step.name → 0 < length (words_of_step step)
  step_some Bare e named =
      let is = ap (λ (ws : List (List ℕ)). length ws) (bare_words e (name_some next.row here.in_group step.name stood.0 named.0)) in omega (arith, is)
  step_some Container e named = headed (other_shape Container e refl)
  step_some Fixed e named = headed (other_shape Fixed e refl)
  step_some Keyed e named = headed (other_shape Keyed e refl)
  step_some Leaf e named = headed (other_shape Leaf e refl)
  step_some Flag e named = headed (other_shape Flag e refl)
  step_some Many e named = headed (other_shape Many e refl)
