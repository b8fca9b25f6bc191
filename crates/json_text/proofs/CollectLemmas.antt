-- The statements that a value says are fit for a tree: each one's parent comes before it, its path follows rows, and its name and its words are
-- of their kinds.
use Rattle.std.proofs.Common.{◌≡◌, ◌<◌, ◌==◌, ◌||◌, ℕ, zero, suc, Bool, true, false, not, List, [], ◌∷◌, ◌++◌, length, refl, sym, ap, subst, ◌∙◌, Option, Some, None, is_some, arith, decimal}
use Rattle.std.specs.Prelude.{IsSome}
use Rattle.std.specs.FinMap as map
use Rattle.std.specs.List.{AllByRecursion}
use Rattle.std.proofs.lemmas.List.Elements.{All-nil, All-cons}
use Rattle.cfg_base.specs.declared.kind.Kind.{Kind}
use Rattle.cfg_base.specs.declared.kind.Shape.{Shape}
use Rattle.cfg_base.specs.declared.kind.Shape.TheVariants.{Container, Fixed, Keyed, Bare, Leaf, Flag, Many}
use Rattle.cfg_base.specs.declared.path.Step.{Step}
use Rattle.cfg_base.specs.declared.path.TheConstants.{MAX_STEPS}
use Rattle.cfg_schema.specs.declared.place.Place.{Place}
use Rattle.cfg_schema.specs.Profile.{profile, row_of, head_of, name_of, is_bare, is_named, rows_below, same_word, StandsBelow}
use Rattle.cfg_schema.specs.Place.{has_words, HasWords, top_place, entered, place_of, place_after, and_then}
use Rattle.cfg_schema.proofs.LevelLemmas.{leads, bare_head}
use Rattle.cfg_schema.proofs.TestLemmas.{both_true, same, same_is}
use Rattle.cfg_tree.specs.Statements.{Statements, parent_of, last_of}
use Rattle.cfg_tree.specs.Stated.{stated, AreSaid}
use Rattle.cfg_tree.specs.Tree.{step_of, IsStatementMap, IsTyped}
use Rattle.cfg_tree.specs.Typed.{IsNamed, IsTypedPath, AreCounted, AreCanonical, AreWordsOf}
use Rattle.cfg_tree.proofs.NameLemmas.{name_again, name_no_head}
use Rattle.cfg_tree.proofs.PathLemmas.{child_longer, split, same_ends}
use Rattle.cfg_tree.proofs.StatedLemmas.{said_join, said_keep, stated_here, stays_there}
use Rattle.cfg_tree.proofs.TreeLemmas.{nothing_is}
use Rattle.cfg_tree.proofs.TypedLemmas.{place_snoc, follows_snoc}
use Rattle.cfg_values.specs.Spelling.{IsCanonical}
use Rattle.cfg_values.proofs.SpellingLemmas.{IsCanonical-from}
use Rattle.serde_json.specs.Data.{Data, Num, unsigned, negative, float, null, boolean, number, string, array, object, Items, no_items, item, Members}
use Rattle.serde_json.specs.Find.{get_member}
use Rattle.json_text.specs.Keys.{key_of, marks_key}
use Rattle.json_text.specs.Said as said
use Rattle.json_text.specs.Said.{Item, Spot, spot_at, name_by, single_of, value_said, IsNumberOf, IsWordOf, AreManyWords, statement_said, IsNameIn, SaysLevel, SaysObject, SaysNamed, SaysEach, SaysList, SaysWords, IsLeafWord, IsTrueFlag, SaysRow, SaysRowIf, SaysRows, SaysInside, top_spot, Says}
use Rattle.json_text.proofs.RowLemmas.{all_stand}

some_same : {A : Type 0} (x y : A) → Some x ≡ Some y → x ≡ y
some_same x y e = cc

-- the top, or a statement that is there
record Stands (m : Statements) (here : Spot) : Type 0 where
  placed : place_of here.path ≡ Some here.place
  typed : IsTypedPath here.path
  there : 0 < length here.path → IsSome (map.get m here.path)

stands_on : (m : Statements) (told : List Item) (here : Spot) → Stands m here → Stands (stated m told) here
stands_on m told here h = record { placed = h.placed; typed = h.typed; there = λ some. stays_there m told here.path (h.there some) }

parent_child : (path : List Step) (step : Step) → parent_of (path ++ step ∷ []) ≡ path
parent_child path step =
    sym (same_ends path (parent_of (path ++ step ∷ [])) step (last_of (path ++ step ∷ [])) (split (path ++ step ∷ []) (omega (arith, child_longer path step)))).0

-- the words of statements
counted_by : (id : ℕ) (shape : Shape) (words : List (List ℕ)) → (row_of id).shape ≡ shape → AreCounted shape words → AreCanonical (row_of id).value_kind words → AreWordsOf id words
counted_by id shape words e h g = (subst (λ (s : Shape). AreCounted s words) (sym e) h, g)

no_words : (id : ℕ) (shape : Shape) → (row_of id).shape ≡ shape → AreCounted shape [] → AreWordsOf id []
no_words id shape e h = counted_by id shape [] e h (All-nil (IsCanonical (row_of id).value_kind))

number_kept : (kind : Kind) (n : Num) (word : List ℕ) → IsNumberOf kind n word → IsCanonical kind word
number_kept kind (unsigned n) word h = IsCanonical-from kind (decimal n) word h.1
number_kept kind (negative z) word h = absurd h
number_kept kind (float x) word h = absurd h

word_kept : (kind : Kind) (d : Data) (word : List ℕ) → IsWordOf kind d word → IsCanonical kind word
word_kept kind null word h = absurd h
word_kept kind (boolean b) word h = absurd h
word_kept kind (number n) word h = number_kept kind n word h
word_kept kind (string s) word h = IsCanonical-from kind s word h
word_kept kind (array ds) word h = absurd h
word_kept kind (object ms) word h = absurd h

words_kept : (kind : Kind) (ds : Items) (words : List (List ℕ)) → said.AreWordsOf kind ds words → AreCanonical kind words
words_kept kind no_items [] h = All-nil (IsCanonical kind)
words_kept kind no_items (word ∷ words) h = absurd h
words_kept kind (item (string s) ds) [] h = absurd h
words_kept kind (item (string s) ds) (word ∷ words) h = All-cons (IsCanonical kind) word words (IsCanonical-from kind s word h.0) (words_kept kind ds words h.1)
words_kept kind (item null ds) words h = absurd h
words_kept kind (item (boolean b) ds) words h = absurd h
words_kept kind (item (number n) ds) words h = absurd h
words_kept kind (item (array es) ds) words h = absurd h
words_kept kind (item (object ms) ds) words h = absurd h

leaf_counted : (id : ℕ) (d : Data) (words : List (List ℕ)) → (row_of id).shape ≡ Leaf → IsLeafWord (row_of id).value_kind d words → AreWordsOf id words
leaf_counted id d words e h =
    let kept = All-cons (IsCanonical (row_of id).value_kind) h.word [] (word_kept (row_of id).value_kind d h.word h.is_word) (All-nil (IsCanonical (row_of id).value_kind))
    in subst (λ (ws : List (List ℕ)). AreWordsOf id ws) (sym h.alone) (counted_by id Leaf (h.word ∷ []) e refl kept)

flag_counted : (id : ℕ) (d : Data) (words : List (List ℕ)) → (row_of id).shape ≡ Flag → IsTrueFlag d words → AreWordsOf id words
flag_counted id d words e h = subst (λ (ws : List (List ℕ)). AreWordsOf id ws) (sym h.none) (no_words id Flag e refl)

many_counted : (id : ℕ) (d : Data) (words : List (List ℕ)) → (row_of id).shape ≡ Many → AreManyWords (row_of id).value_kind d words → AreWordsOf id words
many_counted id d words e h = counted_by id Many words e (h.some, h.once) (words_kept (row_of id).value_kind h.items words h.each)

-- the words of a row's step
words_by : (id : ℕ) (shape : Shape) (step : Step) → (row_of id).shape ≡ shape → has_words shape (head_of id) (name_of id) step ≡ true → HasWords id step
words_by id shape step e h = subst (λ (s : Shape). has_words s (head_of id) (name_of id) step ≡ true) (sym e) h

single_by : (id : ℕ) (shape : Shape) → (row_of id).shape ≡ shape → single_of id ≡ step_of (head_of id) (name_by shape (name_of id))
single_by id shape e = ap (λ (s : Shape). step_of (head_of id) (name_by s (name_of id))) e

single_words : (id : ℕ) (shape : Shape) → is_named shape ≡ false
    → has_words shape (head_of id) (name_of id) (step_of (head_of id) (name_by shape (name_of id))) ≡ true
single_words id Container n = both_true _ _ (same_is (head_of id) (head_of id) refl) refl
single_words id Fixed n = both_true _ _ (same_is (head_of id) (head_of id) refl) (same_is (name_of id) (name_of id) refl)
single_words id Keyed n = cc
single_words id Bare n = cc
single_words id Leaf n = both_true _ _ (same_is (head_of id) (head_of id) refl) refl
single_words id Flag n = both_true _ _ (same_is (head_of id) (head_of id) refl) refl
single_words id Many n = both_true _ _ (same_is (head_of id) (head_of id) refl) refl

-- the one step of a row without names has its words
pub single_has : (id : ℕ) (shape : Shape) → (row_of id).shape ≡ shape → is_named shape ≡ false → HasWords id (single_of id)
single_has id shape e n =
    subst (λ (s : Step). HasWords id s) (sym (single_by id shape e)) (words_by id shape (step_of (head_of id) (name_by shape (name_of id))) e (single_words id shape n))

no_head : (id : ℕ) → id < length profile → (row_of id).shape ≡ Bare → head_of id ≡ []
no_head id within e = same (head_of id) [] (ap (λ (s : Shape). not (is_bare s) || same_word (head_of id) []) (sym e) ∙ bare_head id within)

-- and each step with a name of a row with names has that row's
pub named_has : (id : ℕ) (shape : Shape) (name : List ℕ) → id < length profile → (row_of id).shape ≡ shape → is_named shape ≡ true → HasWords id (step_of (head_of id) name)
named_has id Keyed name within e n = words_by id Keyed (step_of (head_of id) name) e (same_is (head_of id) (head_of id) refl)
named_has id Bare name within e n = words_by id Bare (step_of (head_of id) name) e (ap (λ (w : List ℕ). length w == 0) (no_head id within e))
named_has id Container name within e n = cc
named_has id Fixed name within e n = cc
named_has id Leaf name within e n = cc
named_has id Flag name within e n = cc
named_has id Many name within e n = cc

named_by : (here : Place) (id : ℕ) (shape : Shape) (name : List ℕ) → (row_of id).shape ≡ shape → IsNamed here id shape name → IsNamed here id (row_of id).shape name
named_by here id shape name e h = subst (λ (s : Shape). IsNamed here id s name) (sym e) h

-- what is said below a statement that stands
record Follows (m : Statements) (here : Spot) (id : ℕ) (step : Step) (told : List Item) : Type 0 where
  said : AreSaid m told
  stands : Stands (stated m told) (spot_at here id step)

module _ (m : Statements) (here : Spot) (stands : Stands m here) (id : ℕ) (stood : StandsBelow here.place.row here.place.in_group id) where
  -- one statement
  one_follows : (step : Step) (inactive protected : Bool) (words : List (List ℕ)) → HasWords id step → IsNamed here.place id (row_of id).shape step.name → AreWordsOf id words
      → Follows m here id step (statement_said here id step inactive protected words)
  one_follows step inactive protected words has named are =
      let led = leads here.place id step stood has
      in let path = here.path ++ step ∷ []
      in let long : 0 < length path = omega (arith, child_longer here.path step)
      in let placed = place_snoc here.path step top_place ∙ ap (λ (o : Option Place). and_then (λ h. place_after h step) o) stands.placed ∙ led
      in let typed = follows_snoc here.path step top_place here.place (entered here.place id) stands.typed stands.placed led named
      in let value = value_said inactive protected words
      in record {
        said = (
          record {
            parent = record {
              steps = long;
              parent = λ deep.
                  subst (λ (p : List Step). IsSome (map.get m p)) (sym (parent_child here.path step))
                  (stands.there (omega (arith, deep, child_longer here.path step)));
            };
            fits = record { typed = typed; words = λ at there. subst (λ (p : Place). AreWordsOf p.row words) (some_same _ _ (sym placed ∙ there)) are };
            order = refl;
          },
          tt,
        );
        stands = record { placed = placed; typed = typed; there = λ some. ap is_some (stated_here m (path, value) long) };
      }

-- the name of a row's step is of its kind
single_named : (here : Place) (id : ℕ) (shape : Shape) → (row_of id).shape ≡ shape → is_named shape ≡ false → IsNamed here id (row_of id).shape (single_of id).name
single_named here id shape e n =
    subst (λ (s : Step). IsNamed here id (row_of id).shape s.name) (sym (single_by id shape e)) (named_by here id shape (name_by shape (name_of id)) e (by_shape shape n))
  where
    by_shape : (s : Shape) → is_named s ≡ false → IsNamed here id s (name_by s (name_of id))
    by_shape Container n = tt
    by_shape Fixed n = tt
    by_shape Keyed n = cc
    by_shape Bare n = cc
    by_shape Leaf n = tt
    by_shape Flag n = tt
    by_shape Many n = tt

named_named : (here : Place) (id : ℕ) (shape : Shape) (bytes name : List ℕ) → id < length profile → (row_of id).shape ≡ shape → IsNameIn here id shape bytes name
    → IsNamed here id shape name
named_named here id Keyed bytes name within e h = name_again here.in_group (row_of id).name_kind bytes name h
named_named here id Bare bytes name within e h =
    (name_again here.in_group (row_of id).name_kind bytes name h.0, name_no_head id here.row here.in_group bytes name within e h.0 h.1)
named_named here id Container bytes name within e h = tt
named_named here id Fixed bytes name within e h = tt
named_named here id Leaf bytes name within e h = tt
named_named here id Flag bytes name within e h = tt
named_named here id Many bytes name within e h = tt

-- a statement with a name has no words
level_words : (id : ℕ) (shape : Shape) → (row_of id).shape ≡ shape → is_named shape ≡ true → AreWordsOf id []
level_words id Keyed e n = no_words id Keyed e refl
level_words id Bare e n = no_words id Bare e refl
level_words id Container e n = cc
level_words id Fixed e n = cc
level_words id Leaf e n = cc
level_words id Flag e n = cc
level_words id Many e n = cc

module _ (Inner : Members → Spot → List Item → Type 0)
    (fits : (m : Statements) (ms : Members) (here : Spot) (told : List Item) → Stands m here → Inner ms here told → AreSaid m told) where
  level_fits : (m : Statements) (here : Spot) (id : ℕ) (step : Step) (ms : Members) (told : List Item) → Stands m here → StandsBelow here.place.row here.place.in_group id
      → HasWords id step → IsNamed here.place id (row_of id).shape step.name → AreWordsOf id [] → SaysLevel Inner here id step ms told → AreSaid m told
  level_fits m here id step ms told stands stood has named none h =
      let own = statement_said here id step h.inactive h.protected []
      in let one = one_follows m here stands id stood step h.inactive h.protected [] has named none
      in subst (λ (es : List Item). AreSaid m es) (sym h.said)
      (said_join m own h.inner one.said (fits (stated m own) ms (spot_at here id step) h.inner one.stands h.inside))

  object_fits : (m : Statements) (here : Spot) (id : ℕ) (step : Step) (d : Data) (told : List Item) → Stands m here → StandsBelow here.place.row here.place.in_group id
      → HasWords id step → IsNamed here.place id (row_of id).shape step.name → AreWordsOf id [] → SaysObject Inner here id step d told → AreSaid m told
  object_fits m here id step null told stands stood has named none h = absurd h
  object_fits m here id step (boolean b) told stands stood has named none h = absurd h
  object_fits m here id step (number n) told stands stood has named none h = absurd h
  object_fits m here id step (string s) told stands stood has named none h = absurd h
  object_fits m here id step (array ds) told stands stood has named none h = absurd h
  object_fits m here id step (object ms) told stands stood has named none h = level_fits m here id step ms told stands stood has named none h

  module _ (here : Spot) (id : ℕ) (stood : StandsBelow here.place.row here.place.in_group id) where
    each_fits : (ds : Items) (m : Statements) (names : List (List ℕ)) (told : List Item) → is_named (row_of id).shape ≡ true → Stands m here
        → SaysEach Inner here id ds names told → AreSaid m told
    each_fits no_items m names told n stands h = subst (λ (es : List Item). AreSaid m es) (sym h.1) tt
    each_fits (item (object ms) ds) m [] told n stands h = absurd h
    each_fits (item (object ms) ds) m (name ∷ names) told n stands h =
        let named = named_named here.place id (row_of id).shape h.2.bytes name stood.0 refl h.2.is_name
        in let first = level_fits m here id (step_of (head_of id) name) ms h.0 stands stood (named_has id (row_of id).shape name stood.0 refl n) named
        (level_words id (row_of id).shape refl n) h.2.level
        in let more = each_fits ds (stated m h.0) names h.1 n (stands_on m h.0 here stands) h.3
        in subst (λ (es : List Item). AreSaid m es) (sym h.4) (said_join m h.0 h.1 first more)
    each_fits (item null ds) m names told n stands h = absurd h
    each_fits (item (boolean b) ds) m names told n stands h = absurd h
    each_fits (item (number k) ds) m names told n stands h = absurd h
    each_fits (item (string s) ds) m names told n stands h = absurd h
    each_fits (item (array es) ds) m names told n stands h = absurd h

    alone_fits : (m : Statements) (Words : List (List ℕ) → Type 0) (marks : Option Data) (told : List Item) → Stands m here → HasWords id (single_of id)
        → IsNamed here.place id (row_of id).shape (single_of id).name → ((words : List (List ℕ)) → Words words → AreWordsOf id words)
        → SaysWords Words here id marks told → AreSaid m told
    alone_fits m Words marks told stands has named are h =
        subst (λ (es : List Item). AreSaid m es) (sym h.said)
        (one_follows m here stands id stood (single_of id) h.inactive h.protected h.words has named (are h.words h.are_words)).said

    row_fits : (shape : Shape) (m : Statements) (d : Data) (marks : Option Data) (told : List Item) → (row_of id).shape ≡ shape → Stands m here
        → SaysRow Inner shape here id d marks told → AreSaid m told
    row_fits Container m d marks told e stands h =
        object_fits m here id (single_of id) d told stands stood (single_has id Container e refl) (single_named here.place id Container e refl) (no_words id Container e refl) h
    row_fits Fixed m d marks told e stands h =
        object_fits m here id (single_of id) d told stands stood (single_has id Fixed e refl) (single_named here.place id Fixed e refl) (no_words id Fixed e refl) h
    row_fits Keyed m d marks told e stands h = each_fits h.objects m h.names told (ap (λ (s : Shape). is_named s) e) stands h.each
    row_fits Bare m d marks told e stands h = each_fits h.objects m h.names told (ap (λ (s : Shape). is_named s) e) stands h.each
    row_fits Leaf m d marks told e stands h =
        alone_fits m _ marks told stands (single_has id Leaf e refl) (single_named here.place id Leaf e refl) (λ words w. leaf_counted id d words e w) h
    row_fits Flag m d marks told e stands h =
        alone_fits m _ marks told stands (single_has id Flag e refl) (single_named here.place id Flag e refl) (λ words w. flag_counted id d words e w) h
    row_fits Many m d marks told e stands h =
        alone_fits m _ marks told stands (single_has id Many e refl) (single_named here.place id Many e refl) (λ words w. many_counted id d words e w) h

    if_fits : (m : Statements) (found marks : Option Data) (told : List Item) → Stands m here → SaysRowIf Inner here id found marks told → AreSaid m told
    if_fits m None marks told stands h = subst (λ (es : List Item). AreSaid m es) (sym h.0) tt
    if_fits m (Some d) marks told stands h = row_fits (row_of id).shape m d marks told refl stands h

  rows_fit : (here : Spot) (ms : Members) (ids : List ℕ) (m : Statements) (told : List Item) → AllByRecursion (StandsBelow here.place.row here.place.in_group) ids → Stands m here
      → SaysRows Inner here ms ids told → AreSaid m told
  rows_fit here ms [] m told stood stands h = subst (λ (es : List Item). AreSaid m es) (sym h) tt
  rows_fit here ms (id ∷ ids) m told stood stands h =
      let first = if_fits here id stood.0 m (get_member (key_of id) ms) (get_member (marks_key (key_of id)) ms) h.0 stands h.2
      in let more = rows_fit here ms ids (stated m h.0) h.1 stood.1 (stands_on m h.0 here stands) h.3
      in subst (λ (es : List Item). AreSaid m es) (sym h.4) (said_join m h.0 h.1 first more)

levels_fit : (levels : ℕ) (m : Statements) (ms : Members) (here : Spot) (told : List Item) → Stands m here → SaysInside levels ms here told → AreSaid m told
unfolding SaysInside
levels_fit zero m ms here told stands h = absurd h
levels_fit (suc levels) m ms here told stands h =
    rows_fit (SaysInside levels) (levels_fit levels) here ms (rows_below here.place.row here.place.in_group) m told (all_stand here.place) stands h.1

top_stands : Stands map.empty top_spot
top_stands = record { placed = refl; typed = tt; there = λ some. absurd (omega (arith, some)) }

-- what stands in the whole object may be said from nothing
pub inside_fits : (ms : Members) (told : List Item) → SaysInside MAX_STEPS ms top_spot told → AreSaid map.empty told
inside_fits ms told h = levels_fit MAX_STEPS map.empty ms top_spot told top_stands h

-- so what a value says is a map of statements of the profile
pub said_typed : (d : Data) (m : Statements) → Says d m → IsStatementMap m × IsTyped m
said_typed d m h =
    let kept = said_keep map.empty h.items nothing_is.statements nothing_is.typed (inside_fits h.members h.items h.inside)
    in (subst (λ (n : Statements). IsStatementMap n) (sym h.makes) kept.0, subst (λ (n : Statements). IsTyped n) (sym h.makes) kept.1)
