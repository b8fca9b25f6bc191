-- How a step of a tree is printed: as a part that the grammar reads as this step, with its words.
use Rattle.std.proofs.Common.{◌≡◌, ◌≢◌, ℕ, ◌<◌, ◌==◌, Some, Bool, true, false, not, ◌||◌, ◌&&◌, nat_eq, List, [], ◌∷◌, ◌++◌, length, map as each, codes, refl, sym, ap, subst, ◌∙◌, if◌then◌else◌, arith, append-nil}
use Rattle.std.specs.List.{IsDistinct, AllByRecursion}
use Rattle.std.specs.Cmp.Lexicographic.{pointwise}
use Rattle.std.proofs.lemmas.List.{append_assoc}
use Rattle.std.proofs.lemmas.List.Elements.{All-head}
use Rattle.std.proofs.lemmas.Map.Keys.{IsDistinct-head, IsDistinct-tail}
use Rattle.cfg_base.specs.declared.kind.Shape.{Shape}
use Rattle.cfg_base.specs.declared.kind.Shape.TheVariants.{Container, Fixed, Keyed, Bare, Leaf, Flag, Many}
use Rattle.cfg_base.specs.declared.path.Step.{Step}
use Rattle.cfg_base.specs.Words.{joined, lists, same_word}
use Rattle.cfg_base.proofs.WordLemmas.{lists_more}
use Rattle.cfg_lex.specs.declared.token.TokenKind.TheVariants as kind
use Rattle.cfg_lex.specs.Lexed.{is_word_kind, is_bare_kind}
use Rattle.cfg_lex.specs.Mark.{is_mark as is_mark_word}
use Rattle.cfg_lex.specs.Printed.{IsPrintable, is_plain}
use Rattle.cfg_schema.specs.declared.place.Place.{Place}
use Rattle.cfg_schema.specs.declared.answer.Child.TheVariants as begun
use Rattle.cfg_schema.specs.Profile.{row_of, is_bare, is_level, level_of}
use Rattle.cfg_schema.specs.Child.{child_of}
use Rattle.cfg_schema.specs.Place.{place_after}
use Rattle.cfg_schema.proofs.TestLemmas.{both, both_true, neither, not_true, same, same_is}
use Rattle.cfg_schema.proofs.LevelLemmas.{head_is, led_to}
use Rattle.cfg_schema.proofs.BegunLemmas.{name_begins_row}
use Rattle.cfg_values.specs.Spelling.{IsCanonical}
use Rattle.cfg_tree.specs.Typed.{IsNamed, AreCounted, AreCanonical, AreWordsOf, AllSpelled}
use Rattle.cfg_tree.specs.Tree.{step_of}
use Rattle.cfg_tree.specs.OwnWords.{words_of_step, own_words}
use Rattle.cfg_tree.proofs.NameLemmas.{name_some}
use Rattle.cfg_tree.proofs.TypedLemmas.{bare_step}
use Rattle.cfg_tree.proofs.OwnLemmas.{stood, words_at, plain_words, plain_step, two_words, bare_words, begins_own, other_shape, fixed_name, fixed_name_some, all_spelled, is_plain as is_plain_shape}
use Rattle.curly_grammar.specs.Grammar.{IsWord, is_mark, Part, One, Two, Listed, spell_part, head_of as head_token, next_of, AreWords, IsValue, StandsFor, word_of}
use Rattle.curly_text.proofs.LexedLemmas.{lexed_word}
use Rattle.curly_text.proofs.LayoutLemmas.{word_tokens, value_tokens}
use Rattle.curly_text.proofs.PrintableLemmas.{AllPrintable, name_printable, heads_printable}

-- a printed word is a word
pub is_word : (word : List ℕ) → IsWord (lexed_word word)
is_word word = by_plain (is_plain word)
  where
    by_plain : (b : Bool) → is_word_kind (if b then kind.Bare else kind.Quoted) ≡ true
    by_plain true = refl
    by_plain false = refl

are_words : (words : List (List ℕ)) → AllByRecursion IsWord (word_tokens words)
are_words [] = tt
are_words (word ∷ words) = (is_word word, are_words words)

-- and no mark
other_word : (mark word : List ℕ) → pointwise nat_eq word mark ≡ false → same_word mark word ≡ false
other_word mark word h = by_test (same_word mark word) refl
  where
    by_test : (b : Bool) → same_word mark word ≡ b → b ≡ false
    by_test true e = let f = same_is word mark (sym (same mark word e)) in cc
    by_test false e = refl

pub no_mark : (word : List ℕ) → is_mark (lexed_word word) ≡ false
no_mark word = by_plain (is_plain word) refl
  where
    none : (a b c : Bool) → a ≡ false → b ≡ false → c ≡ false → (a || (b || c)) ≡ false
    none a b c e f g = ap (λ (x : Bool). x || (b || c)) e ∙ ap (λ (x : Bool). x || c) f ∙ g

    by_plain : (b : Bool) → is_plain word ≡ b
        → ((is_bare_kind (if b then kind.Bare else kind.Quoted) && same_word (codes "inactive:") word)
        || ((is_bare_kind (if b then kind.Bare else kind.Quoted) && same_word (codes "protect:") word)
        || (is_bare_kind (if b then kind.Bare else kind.Quoted) && same_word (codes "replace:") word))) ≡ false
    by_plain false e = refl
    by_plain true e =
        let free = not_true (is_mark_word word) (both (not (is_mark_word word)) _ (both (not (length word == 0)) _ e).1).0
        in let first = neither (pointwise nat_eq word (codes "inactive:")) _ free
        in let second = neither (pointwise nat_eq word (codes "protect:")) _ first.1
        in let third = neither (pointwise nat_eq word (codes "replace:")) _ second.1
        in none _ _ _ (other_word (codes "inactive:") word first.0) (other_word (codes "protect:") word second.0) (other_word (codes "replace:") word third.0)

-- different words, joined, are themselves
joined_apart : (words more : List (List ℕ)) → AllByRecursion (λ w. lists words w ≡ false) more → IsDistinct same_word more → joined words more ≡ words ++ more
joined_apart words [] apart distinct = sym (append-nil words)
joined_apart words (w ∷ more) apart distinct =
    ap (λ (b : Bool). joined (if b then words else words ++ w ∷ []) more) apart.0
    ∙ joined_apart (words ++ w ∷ []) more (others more apart.1 (IsDistinct-head same_word w more distinct)) (IsDistinct-tail same_word w more distinct)
    ∙ append_assoc words (w ∷ []) more
  where
    others : (vs : List (List ℕ)) → AllByRecursion (λ v. lists words v ≡ false) vs → AllByRecursion (λ v. same_word w v ≡ false) vs
        → AllByRecursion (λ v. lists (words ++ w ∷ []) v ≡ false) vs
    others [] h k = tt
    others (v ∷ vs) h k = (lists_more words w v ∙ ap (λ (b : Bool). b || same_word v w) h.0 ∙ other_word v w k.0, others vs h.1 k.1)

none_listed : (words : List (List ℕ)) → AllByRecursion (λ w. lists [] w ≡ false) words
none_listed [] = tt
none_listed (w ∷ words) = (refl, none_listed words)

joined_once : (words : List (List ℕ)) → IsDistinct same_word words → joined [] words ≡ words
joined_once words distinct = joined_apart [] words (none_listed words) distinct

words_back : (words : List (List ℕ)) → each word_of (word_tokens words) ≡ words
words_back [] = refl
words_back (w ∷ words) = ap (λ (ws : List (List ℕ)). w ∷ ws) (words_back words)

-- a step is printed as a part
pub record IsWritten (here : Place) (step : Step) (next : Place) (words : List (List ℕ)) : Type 0 where
  pub part : Part
  pub spelled : spell_part part ≡ word_tokens (own_words (step ∷ [])) ++ value_tokens words
  pub are_words : AreWords part
  pub begins : child_of here.row here.in_group (head_token part).word (next_of part) ≡ begun.Row next.row
  pub stands_for : StandsFor (row_of next.row).shape (row_of next.row).name_kind (row_of next.row).value_kind here.in_group part step words
  pub unmarked : is_mark (head_token part) ≡ false

no_fixed_container : Container ≢ Fixed
no_fixed_container f = cc

no_fixed_keyed : Keyed ≢ Fixed
no_fixed_keyed f = cc

no_fixed_leaf : Leaf ≢ Fixed
no_fixed_leaf f = cc

no_fixed_flag : Flag ≢ Fixed
no_fixed_flag f = cc

no_fixed_many : Many ≢ Fixed
no_fixed_many f = cc

module _ (here next : Place) (step : Step) (led : place_after here step ≡ Some next) where
  abbrev Stands : Shape → Part → List (List ℕ) → Type 0
  Stands shape part words = StandsFor shape (row_of next.row).name_kind (row_of next.row).value_kind here.in_group part step words

  build : (shape : Shape) (part : Part) (own words : List (List ℕ)) → (row_of next.row).shape ≡ shape → words_of_step step ≡ own
      → spell_part part ≡ word_tokens own ++ value_tokens words → AreWords part
      → child_of here.row here.in_group (head_token part).word (next_of part) ≡ begun.Row next.row → Stands shape part words → is_mark (head_token part) ≡ false
      → IsWritten here step next words
  build shape part own words e own_is spelled words_are begins stands unmarked = record {
    part = part;
    spelled =
        spelled ∙ sym (ap (λ (ws : List (List ℕ)). word_tokens ws ++ value_tokens words) (append-nil (words_of_step step) ∙ own_is));
    are_words = words_are;
    begins = begins;
    stands_for = subst (λ (s : Shape). Stands s part words) (sym e) stands;
    unmarked = unmarked;
  }

  begins_unfixed : (shape : Shape) (word : List ℕ) → (row_of next.row).shape ≡ shape → is_bare shape ≡ false → shape ≢ Fixed
      → child_of here.row here.in_group step.head word ≡ begun.Row next.row
  begins_unfixed shape word e unbare unfixed =
      begins_own here next step led word (other_shape here next step led shape e unbare) (λ f. absurd (unfixed (sym e ∙ f)))

  -- a step of a level has no words
  written_level : (shape : Shape) → (row_of next.row).shape ≡ shape → is_level shape ≡ true → IsNamed here next.row shape step.name → IsWritten here step next []
  written_level Container e level named =
      build Container (One (lexed_word step.head)) (step.head ∷ []) [] e
      (plain_words here next step led Container e refl (other_shape here next step led Container e refl)) refl (is_word step.head)
      (begins_unfixed Container [] e refl no_fixed_container) (plain_step here next step led Container e refl, refl) (no_mark step.head)
  written_level Fixed e level named =
      let name = fixed_name _ _ step (words_at here next step led Fixed e)
      in build Fixed (Two (lexed_word step.head) (lexed_word step.name)) (step.head ∷ step.name ∷ []) [] e
      (two_words here next step led (other_shape here next step led Fixed e refl)
      (subst (λ (n : List ℕ). 0 < length n) name (fixed_name_some next.row (stood here next step led).0 e)))
      refl (is_word step.head, is_word step.name) (begins_own here next step led step.name (other_shape here next step led Fixed e refl) (λ f. name))
      (refl, refl) (no_mark step.head)
  written_level Keyed e level named =
      build Keyed (Two (lexed_word step.head) (lexed_word step.name)) (step.head ∷ step.name ∷ []) [] e
      (two_words here next step led (other_shape here next step led Keyed e refl) (name_some next.row here.in_group step.name (stood here next step led).0 named))
      refl (is_word step.head, is_word step.name) (begins_unfixed Keyed step.name e refl no_fixed_keyed) (refl, named, refl) (no_mark step.head)
  written_level Bare e level named =
      build Bare (One (lexed_word step.name)) (step.name ∷ []) [] e
      (bare_words here next step led e (name_some next.row here.in_group step.name (stood here next step led).0 named.0))
      refl (is_word step.name) (name_begins_row here.row here.in_group step.name [] next.row named.1 (stood here next step led) e)
      (bare_step here next step led e, named.0, refl) (no_mark step.name)
  written_level Leaf e level named = cc
  written_level Flag e level named = cc
  written_level Many e level named = cc

  -- a statement of one word, after its head
  written_value : (shape : Shape) (word : List ℕ) → (row_of next.row).shape ≡ shape → is_bare shape ≡ false → shape ≢ Fixed → words_of_step step ≡ step.head ∷ []
      → Stands shape (Two (lexed_word step.head) (lexed_word word)) (word ∷ []) → IsWritten here step next (word ∷ [])
  written_value shape word e unbare unfixed own stands =
      build shape (Two (lexed_word step.head) (lexed_word word)) (step.head ∷ []) (word ∷ []) e own refl
      (is_word step.head, is_word word) (begins_unfixed shape word e unbare unfixed) stands (no_mark step.head)

  value_is : (word : List ℕ) → AreCanonical (row_of next.row).value_kind (word ∷ []) → IsValue (row_of next.row).value_kind word (word ∷ [])
  value_is word canonical = record { word = word; canonical = All-head (IsCanonical (row_of next.row).value_kind) word [] canonical; alone = refl }

  written_leaf : (words : List (List ℕ)) → (row_of next.row).shape ≡ Leaf → length words ≡ 1 → AreCanonical (row_of next.row).value_kind words → IsWritten here step next words
  written_leaf [] e one canonical = absurd (omega (arith, one))
  written_leaf (word ∷ []) e one canonical =
      written_value Leaf word e refl no_fixed_leaf (plain_words here next step led Leaf e refl (other_shape here next step led Leaf e refl))
      (plain_step here next step led Leaf e refl, value_is word canonical)
  written_leaf (word ∷ w ∷ words) e one canonical = absurd (omega (arith, one))

  written_flag : (row_of next.row).shape ≡ Flag → IsWritten here step next []
  written_flag e =
      build Flag (One (lexed_word step.head)) (step.head ∷ []) [] e
      (plain_words here next step led Flag e refl (other_shape here next step led Flag e refl)) refl (is_word step.head)
      (begins_unfixed Flag [] e refl no_fixed_flag) (plain_step here next step led Flag e refl, refl) (no_mark step.head)

  written_many : (words : List (List ℕ)) → (row_of next.row).shape ≡ Many → AreCounted Many words → AreCanonical (row_of next.row).value_kind words
      → IsWritten here step next words
  written_many [] e counted canonical = absurd (omega (arith, counted.0))
  written_many (word ∷ []) e counted canonical =
      written_value Many word e refl no_fixed_many (plain_words here next step led Many e refl (other_shape here next step led Many e refl))
      (plain_step here next step led Many e refl, value_is word canonical)
  written_many (word ∷ w ∷ words) e counted canonical =
      build Many (Listed (lexed_word step.head) (word_tokens (word ∷ w ∷ words))) (step.head ∷ []) (word ∷ w ∷ words) e
      (plain_words here next step led Many e refl (other_shape here next step led Many e refl)) refl
      (is_word step.head, omega arith, are_words (word ∷ w ∷ words)) (begins_unfixed Many [] e refl no_fixed_many) (
        plain_step here next step led Many e refl,
        record {
          all = word ∷ w ∷ words;
          canonical = subst (λ (ws : List (List ℕ)). AllSpelled (row_of next.row).value_kind ws (word ∷ w ∷ words)) (sym (words_back (word ∷ w ∷ words)))
              (all_spelled (row_of next.row).value_kind (word ∷ w ∷ words) canonical);
          once = sym (joined_once (word ∷ w ∷ words) counted.1);
        },
      )
      (no_mark step.head)

  -- each step of a tree, with the words of its value
  written_by : (shape : Shape) (words : List (List ℕ)) → (row_of next.row).shape ≡ shape → IsNamed here next.row shape step.name → AreCounted shape words
      → AreCanonical (row_of next.row).value_kind words → IsWritten here step next words
  written_by Leaf words e named counted canonical = written_leaf words e counted canonical
  written_by Many words e named counted canonical = written_many words e counted canonical
  written_by Flag words e named counted canonical = subst (λ (ws : List (List ℕ)). IsWritten here step next ws) (sym counted) (written_flag e)
  written_by Container words e named counted canonical =
      subst (λ (ws : List (List ℕ)). IsWritten here step next ws) (sym counted) (written_level Container e refl named)
  written_by Fixed words e named counted canonical =
      subst (λ (ws : List (List ℕ)). IsWritten here step next ws) (sym counted) (written_level Fixed e refl named)
  written_by Keyed words e named counted canonical =
      subst (λ (ws : List (List ℕ)). IsWritten here step next ws) (sym counted) (written_level Keyed e refl named)
  written_by Bare words e named counted canonical =
      subst (λ (ws : List (List ℕ)). IsWritten here step next ws) (sym counted) (written_level Bare e refl named)

  pub written : (words : List (List ℕ)) → IsNamed here next.row (row_of next.row).shape step.name → AreWordsOf next.row words → IsWritten here step next words
  written words named are = written_by (row_of next.row).shape words refl named are.0 are.1

  -- its own words can be printed
  nothing_printable : IsPrintable []
  nothing_printable = record { short = omega arith; printing = refl }

  head_printable : IsPrintable step.head
  head_printable =
      let head = head_is (level_of here.row here.in_group) step next.row (stood here next step led).0 (both_true _ _ (stood here next step led).1 (led_to here next step led).words)
      in subst (λ (w : List ℕ). IsPrintable w) head (heads_printable next.row (stood here next step led).0).0

  plain_printable : (shape : Shape) → (row_of next.row).shape ≡ shape → is_plain_shape shape ≡ true → IsPrintable step.name
  plain_printable shape e plain =
      subst (λ (w : List ℕ). IsPrintable w) (sym (ap (λ (s : Step). s.name) (plain_step here next step led shape e plain))) nothing_printable

  name_printable_by : (shape : Shape) → (row_of next.row).shape ≡ shape → IsNamed here next.row shape step.name → IsPrintable step.name
  name_printable_by Keyed e named = name_printable here.in_group (row_of next.row).name_kind step.name named
  name_printable_by Bare e named = name_printable here.in_group (row_of next.row).name_kind step.name named.0
  name_printable_by Fixed e named =
      subst (λ (w : List ℕ). IsPrintable w) (fixed_name _ _ step (words_at here next step led Fixed e)) (heads_printable next.row (stood here next step led).0).1
  name_printable_by Container e named = plain_printable Container e refl
  name_printable_by Leaf e named = plain_printable Leaf e refl
  name_printable_by Flag e named = plain_printable Flag e refl
  name_printable_by Many e named = plain_printable Many e refl

  both_printable : (head name : List ℕ) → IsPrintable head → IsPrintable name → AllPrintable (own_words (step_of head name ∷ []))
  both_printable [] [] h k = tt
  both_printable [] (n ∷ name) h k = (k, tt)
  both_printable (b ∷ head) [] h k = (h, tt)
  both_printable (b ∷ head) (n ∷ name) h k = (h, (k, tt))

  pub own_printable : IsNamed here next.row (row_of next.row).shape step.name → AllPrintable (own_words (step ∷ []))
  own_printable named = both_printable step.head step.name head_printable (name_printable_by (row_of next.row).shape refl named)
