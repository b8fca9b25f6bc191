-- What a reader says may be said: each statement's levels come before it, and its path and its words are of the profile.
use Rattle.std.proofs.Common.{◌≡◌, ◌≢◌, ℕ, ◌<◌, ◌⊎◌, Bool, true, false, List, [], ◌∷◌, ◌++◌, length, Option, Some, is_some, refl, sym, ap, subst, ◌∙◌, inl, inr, arith}
use Rattle.std.specs.Prelude.{IsSome}
use Rattle.std.specs.FinMap as map
use Rattle.std.specs.List.{AllByRecursion, IsDistinct}
use Rattle.std.proofs.lemmas.List.Elements.{All-nil, All-cons, All-push}
use Rattle.cfg_base.specs.declared.kind.Shape.{Shape}
use Rattle.cfg_base.specs.declared.kind.Shape.TheVariants.{Container, Fixed, Keyed, Bare, Leaf, Flag, Many}
use Rattle.cfg_base.specs.declared.path.Step.{Step}
use Rattle.cfg_base.specs.declared.value.Value.{Value}
use Rattle.cfg_base.specs.Words.{joined, same_word}
use Rattle.cfg_base.proofs.WordLemmas.{joined-distinct, joined-all, joined-some}
use Rattle.cfg_entries.specs.EntryMap.{Pair}
use Rattle.cfg_lex.specs.declared.token.TokenKind.{TokenKind}
use Rattle.cfg_lex.specs.declared.token.TokenKind.TheVariants as kind
use Rattle.cfg_lex.specs.Lexed.{Lexed}
use Rattle.cfg_schema.specs.declared.answer.Child.{Child}
use Rattle.cfg_schema.specs.declared.answer.Child.TheVariants as begun
use Rattle.cfg_schema.specs.declared.place.Place.{Place}
use Rattle.cfg_schema.specs.Profile.{row_of, head_of, name_of, StandsBelow}
use Rattle.cfg_schema.specs.Child.{Begins}
use Rattle.cfg_schema.specs.Place.{top_place, place_after, place_of, and_then, has_words, HasWords, entered}
use Rattle.cfg_schema.proofs.ChildLemmas.{child_begins}
use Rattle.cfg_schema.proofs.LevelLemmas.{leads}
use Rattle.cfg_schema.proofs.TestLemmas.{both_true, same_is}
use Rattle.cfg_values.specs.Spelling.{IsCanonical}
use Rattle.cfg_values.proofs.SpellingLemmas.{IsCanonical-from}
use Rattle.cfg_tree.specs.Statements.{Statements, parent_of, last_of, HasParent}
use Rattle.cfg_tree.specs.Stated.{stated, AreSaid}
use Rattle.cfg_tree.specs.Tree.{step_of}
use Rattle.cfg_tree.specs.Typed.{IsNamed, IsTypedPath, AreCounted, AreCanonical, AreWordsOf}
use Rattle.cfg_tree.proofs.NameLemmas.{name_again, name_no_head}
use Rattle.cfg_tree.proofs.PathLemmas.{child_longer, split, same_ends}
use Rattle.cfg_tree.proofs.StatedLemmas.{stated-append, said_join, stated_here, stays_there}
use Rattle.cfg_tree.proofs.TypedLemmas.{place_snoc, follows_snoc}
use Rattle.curly_grammar.specs.declared.phase.Marks.{Marks}
use Rattle.curly_grammar.specs.declared.phase.Phase.{Phase}
use Rattle.curly_grammar.specs.declared.phase.Phase.TheVariants.{Between, Marked, Naming, Valuing, Listing, After}
use Rattle.curly_grammar.specs.Grammar.{Level, is_mark, is_open}
use Rattle.curly_grammar.specs.Reading as reading
use Rattle.curly_grammar.specs.Reading.{ReadState, start, Run, Turn, turned, quiet, whole, item_of, below, child_at, HasRows, BeginsAs, BeginsStep, NamesAs, NamesStep, TakesFirst, TakesAfter, TakesWord, TakesSemicolon, TakesOpenBrace, Leaves, TakesCloseBrace, TakesOpenBracket, TakesCloseBracket, TakesWordTo, TakesBy, Takes, Goes}
use Rattle.curly_grammar.proofs.GoesLemmas.{other_shape}
use Rattle.curly_grammar.proofs.HeadLemmas.{row_stands, row_head, row_bare, row_name}
use Rattle.curly_grammar.proofs.LeftLemmas.{shape_many}
use Rattle.curly_grammar.proofs.ClosingLemmas.{WantsName, IsFair}

some_same : {A : Type 0} (x y : A) → Some x ≡ Some y → x ≡ y
some_same x y e = cc

-- a level has the path that leads to its row
pub record IsLed (level : Level) : Type 0 where
  pub placed : place_of level.path ≡ Some level.place
  pub typed : IsTypedPath level.path

-- a level is the top or a statement that is there
pub record Stands (m : Statements) (level : Level) : Type 0 where
  pub led : IsLed level
  pub there : 0 < length level.path → IsSome (map.get m level.path)

-- a statement may come next: its parent is there
pub record Comes (m : Statements) (level : Level) : Type 0 where
  pub led : IsLed level
  pub parent : HasParent m level.path

pub record ComesWith (m : Statements) (level : Level) : Type 0 where
  pub comes : Comes m level
  pub shape : ((row_of level.place.row).shape ≡ Leaf) ⊎ ((row_of level.place.row).shape ≡ Many)

pub record ListComes (m : Statements) (level : Level) (words : List (List ℕ)) : Type 0 where
  pub comes : Comes m level
  pub many : (row_of level.place.row).shape ≡ Many
  pub canonical : AreCanonical (row_of level.place.row).value_kind words

pub record NameComes (m : Statements) (at : Level) (head : List ℕ) : Type 0 where
  pub stands : Stands m at
  pub wants : WantsName at head

-- what is known of what has been read of a statement
abbrev pub IsSoundPhase : Statements → Phase → Level → Type 0
IsSoundPhase m Between here = Unit {0}
IsSoundPhase m (Marked marks) here = HasRows here
IsSoundPhase m (Naming marks at head) here = NameComes m at head
IsSoundPhase m (Valuing marks level) here = ComesWith m level
IsSoundPhase m (Listing marks level words) here = ListComes m level words
IsSoundPhase m (After level) here = Stands m level

-- and of a state, where these statements are there
pub record IsSound (m : Statements) (s : ReadState) : Type 0 where
  pub here : Stands m s.here
  pub outer : AllByRecursion (Stands m) s.outer
  pub phase : IsSoundPhase m s.phase s.here

pub sound_fair : (m : Statements) (phase : Phase) (here : Level) → IsSoundPhase m phase here → IsFair phase here
sound_fair m Between here h = tt
sound_fair m (Marked marks) here h = h
sound_fair m (Naming marks at head) here h = h.wants
sound_fair m (Valuing marks level) here h = tt
sound_fair m (Listing marks level words) here h = tt
sound_fair m (After level) here h = tt

stands_on : (m : Statements) (xs : List (Pair Value)) (level : Level) → Stands m level → Stands (stated m xs) level
stands_on m xs level h = record { led = h.led; there = λ some. stays_there m xs level.path (h.there some) }

all_stand_on : (m : Statements) (xs : List (Pair Value)) (levels : List Level) → AllByRecursion (Stands m) levels → AllByRecursion (Stands (stated m xs)) levels
all_stand_on m xs [] h = tt
all_stand_on m xs (level ∷ levels) h = (stands_on m xs level h.0, all_stand_on m xs levels h.1)

parent_child : (path : List Step) (step : Step) → parent_of (path ++ step ∷ []) ≡ path
parent_child path step =
    sym (same_ends path (parent_of (path ++ step ∷ [])) step (last_of (path ++ step ∷ [])) (split (path ++ step ∷ []) (omega (arith, child_longer path step)))).0

-- the statement of a row and a step below a level that stands
comes_below : (m : Statements) (at : Level) (row : ℕ) (step : Step) → Stands m at → StandsBelow at.place.row at.place.in_group row → HasWords row step
    → IsNamed at.place row (row_of row).shape step.name → Comes m (below at row step)
comes_below m at row step stands stood words named =
    let led = leads at.place row step stood words
    in record {
      led = record {
        placed = place_snoc at.path step top_place ∙ ap (λ (o : Option Place). and_then (λ h. place_after h step) o) stands.led.placed ∙ led;
        typed = follows_snoc at.path step top_place at.place (entered at.place row) stands.led.typed stands.led.placed led named;
      };
      parent = record {
        steps = omega (arith, child_longer at.path step);
        parent = λ long.
            subst (λ (p : List Step). IsSome (map.get m p)) (sym (parent_child at.path step))
            (stands.there (omega (arith, long, child_longer at.path step)));
      };
    }

no_names : IsDistinct same_word []
unfolding IsDistinct
no_names = tt

one_name : (word : List ℕ) → IsDistinct same_word (word ∷ [])
unfolding IsDistinct
one_name word = (tt, tt)

same_step : (head word : List ℕ) → head ≡ word → same_word head word ≡ true
same_step head word e = same_is head word e

-- the words of a step are those of its row
words_by : (row : ℕ) (shape : Shape) (step : Step) → (row_of row).shape ≡ shape → has_words shape (head_of row) (name_of row) step ≡ true → HasWords row step
words_by row shape step e h = subst (λ (s : Shape). has_words s (head_of row) (name_of row) step ≡ true) (sym e) h

named_by : (here : Place) (row : ℕ) (shape : Shape) (name : List ℕ) → (row_of row).shape ≡ shape → IsNamed here row shape name → IsNamed here row (row_of row).shape name
named_by here row shape name e h = subst (λ (s : Shape). IsNamed here row s name) (sym e) h

counted_by : (row : ℕ) (shape : Shape) (words : List (List ℕ)) → (row_of row).shape ≡ shape → AreCounted shape words → AreCanonical (row_of row).value_kind words → AreWordsOf row words
counted_by row shape words e h g = (subst (λ (s : Shape). AreCounted s words) (sym e) h, g)

-- what a turn says may be said, and leads on
pub record IsSoundTurn (m : Statements) (here : Level) (turn : Turn) : Type 0 where
  pub said : AreSaid m turn.items
  pub phase : IsSoundPhase (stated m turn.items) turn.phase here

module _ (m : Statements) (here : Level) where
  turn_is : (one two : Turn) → one ≡ two → IsSoundTurn m here two → IsSoundTurn m here one
  turn_is one two e h = subst (λ (t : Turn). IsSoundTurn m here t) (sym e) h

  quiet_sound : (turn : Turn) (phase : Phase) → turn ≡ quiet phase → IsSoundPhase m phase here → IsSoundTurn m here turn
  quiet_sound turn phase e h = turn_is turn (quiet phase) e record { said = tt; phase = h }

  -- a whole step
  whole_sound : (turn : Turn) (marks : Marks) (level : Level) (words : List (List ℕ)) → turn ≡ whole marks level words → Comes m level → AreWordsOf level.place.row words
      → IsSoundTurn m here turn
  whole_sound turn marks level words e comes are =
      turn_is turn (whole marks level words) e record {
        said = (
          record {
            parent = comes.parent;
            fits = record { typed = comes.led.typed; words = λ at placed. subst (λ (p : Place). AreWordsOf p.row words) (some_same _ _ (sym comes.led.placed ∙ placed)) are };
            order = refl;
          },
          tt,
        );
        phase = record {
          led = comes.led;
          there = λ some. ap is_some (stated_here m (item_of marks level words) some);
        };
      }

module _ (m : Statements) (here : Level) (at : Level) (marks : Marks) (stands : Stands m at) where
  -- a step of a head alone
  alone_comes : (shape : Shape) (word : List ℕ) (row : ℕ) → (row_of row).shape ≡ shape → shape ≢ Bare → child_at at word [] ≡ begun.Row row
      → (head_of row ≡ word → has_words shape (head_of row) (name_of row) (step_of word []) ≡ true) → IsNamed at.place row shape []
      → Comes m (below at row (step_of word []))
  alone_comes shape word row e not_bare is words named =
      let head = row_head at.place.row at.place.in_group word [] row is (λ f. not_bare (sym e ∙ f))
      in comes_below m at row (step_of word []) stands head.0 (words_by row shape (step_of word []) e (words head.2)) (named_by at.place row shape [] e named)

  begins_as_sound : (shape : Shape) (word : List ℕ) (row : ℕ) (turn : Turn) → (row_of row).shape ≡ shape → child_at at word [] ≡ begun.Row row
      → BeginsAs shape (row_of row).name_kind row at marks word turn → IsSoundTurn m here turn
  begins_as_sound Container word row turn e is h =
      whole_sound m here turn marks _ [] h
      (alone_comes Container word row e (λ x. cc) is (λ f. both_true _ _ (same_step _ word f) refl) tt)
      (counted_by row Container [] e refl (All-nil (IsCanonical (row_of row).value_kind)))
  begins_as_sound Flag word row turn e is h =
      whole_sound m here turn marks _ [] h
      (alone_comes Flag word row e (λ x. cc) is (λ f. both_true _ _ (same_step _ word f) refl) tt)
      (counted_by row Flag [] e refl (All-nil (IsCanonical (row_of row).value_kind)))
  begins_as_sound Bare word row turn e is h =
      let stood = row_stands at.place.row at.place.in_group word [] row is
      in whole_sound m here turn marks _ [] h.makes
      (comes_below m at row (step_of [] h.name) stands stood (words_by row Bare (step_of [] h.name) e refl)
      (named_by at.place row Bare h.name e (
        name_again at.place.in_group (row_of row).name_kind word h.name h.is_name,
        name_no_head row at.place.row at.place.in_group word h.name stood.0 e h.is_name (row_bare at.place.row at.place.in_group word [] row is e),
      )))
      (counted_by row Bare [] e refl (All-nil (IsCanonical (row_of row).value_kind)))
  begins_as_sound Keyed word row turn e is h =
      quiet_sound m here turn (Naming marks at word) h record {
        stands = stands;
        wants = record { row = row; has_head = row_head at.place.row at.place.in_group word [] row is (other_shape _ Keyed Bare e (λ x. cc)); shape = inl e };
      }
  begins_as_sound Fixed word row turn e is h =
      quiet_sound m here turn (Naming marks at word) h record {
        stands = stands;
        wants = record { row = row; has_head = row_head at.place.row at.place.in_group word [] row is (other_shape _ Fixed Bare e (λ x. cc)); shape = inr e };
      }
  begins_as_sound Leaf word row turn e is h =
      quiet_sound m here turn (Valuing marks (below at row (step_of word []))) h record {
        comes = alone_comes Leaf word row e (λ x. cc) is (λ f. both_true _ _ (same_step _ word f) refl) tt;
        shape = inl e;
      }
  begins_as_sound Many word row turn e is h =
      quiet_sound m here turn (Valuing marks (below at row (step_of word []))) h record {
        comes = alone_comes Many word row e (λ x. cc) is (λ f. both_true _ _ (same_step _ word f) refl) tt;
        shape = inr e;
      }

  begins_sound : (word : List ℕ) (turn : Turn) → BeginsStep (child_at at word []) at marks word turn → IsSoundTurn m here turn
  begins_sound word turn = by_child (child_at at word []) refl (child_begins at.place.row at.place.in_group word [])
    where
      by_child : (c : Child) → child_at at word [] ≡ c → Begins at.place.row at.place.in_group word [] c → BeginsStep c at marks word turn → IsSoundTurn m here turn
      by_child begun.Unknown is b h = absurd h
      by_child (begun.BadName row) is b h =
          quiet_sound m here turn (Naming marks at word) h record { stands = stands; wants = record { row = row; has_head = b.0; shape = inr (b.1 row b.0).1 } }
      by_child (begun.Row row) is b h = begins_as_sound (row_of row).shape word row turn refl is h

  names_as_sound : (shape : Shape) (head word : List ℕ) (row : ℕ) (turn : Turn) → (row_of row).shape ≡ shape → child_at at head word ≡ begun.Row row
      → NamesAs shape (row_of row).name_kind row at marks head word turn → IsSoundTurn m here turn
  names_as_sound Keyed head word row turn e is h =
      let found = row_head at.place.row at.place.in_group head word row is (other_shape _ Keyed Bare e (λ x. cc))
      in whole_sound m here turn marks _ [] h.makes
      (comes_below m at row (step_of head h.name) stands found.0 (words_by row Keyed (step_of head h.name) e (same_step _ head found.2))
      (named_by at.place row Keyed h.name e (name_again at.place.in_group (row_of row).name_kind word h.name h.is_name)))
      (counted_by row Keyed [] e refl (All-nil (IsCanonical (row_of row).value_kind)))
  names_as_sound Fixed head word row turn e is h =
      let found = row_head at.place.row at.place.in_group head word row is (other_shape _ Fixed Bare e (λ x. cc))
      in whole_sound m here turn marks _ [] h
      (comes_below m at row (step_of head word) stands found.0
      (words_by row Fixed (step_of head word) e (both_true _ _ (same_step _ head found.2) (same_step _ word (row_name at.place.row at.place.in_group head word row is e))))
      (named_by at.place row Fixed word e tt))
      (counted_by row Fixed [] e refl (All-nil (IsCanonical (row_of row).value_kind)))
  names_as_sound Container head word row turn e is h = absurd h
  names_as_sound Bare head word row turn e is h = absurd h
  names_as_sound Leaf head word row turn e is h = absurd h
  names_as_sound Flag head word row turn e is h = absurd h
  names_as_sound Many head word row turn e is h = absurd h

  names_sound : (head word : List ℕ) (turn : Turn) → NamesStep (child_at at head word) at marks head word turn → IsSoundTurn m here turn
  names_sound head word turn = by_child (child_at at head word) refl
    where
      by_child : (c : Child) → child_at at head word ≡ c → NamesStep c at marks head word turn → IsSoundTurn m here turn
      by_child begun.Unknown is h = absurd h
      by_child (begun.BadName row) is h = absurd h
      by_child (begun.Row row) is h = names_as_sound (row_of row).shape head word row turn refl is h

-- one value of a statement, or the values of a list
one_counted : (row : ℕ) (word : List ℕ) → ((row_of row).shape ≡ Leaf) ⊎ ((row_of row).shape ≡ Many) → IsCanonical (row_of row).value_kind word → AreWordsOf row (word ∷ [])
one_counted row word (inl e) h = counted_by row Leaf (word ∷ []) e refl (All-cons (IsCanonical (row_of row).value_kind) word [] h (All-nil (IsCanonical (row_of row).value_kind)))
one_counted row word (inr e) h =
    counted_by row Many (word ∷ []) e (omega arith, one_name word) (All-cons (IsCanonical (row_of row).value_kind) word [] h (All-nil (IsCanonical (row_of row).value_kind)))

list_counted : (row : ℕ) (words : List (List ℕ)) → (row_of row).shape ≡ Many → 0 < length words → AreCanonical (row_of row).value_kind words → AreWordsOf row (joined [] words)
list_counted row words e some h =
    counted_by row Many (joined [] words) e (joined-some words some, joined-distinct [] words no_names)
    (joined-all (IsCanonical (row_of row).value_kind) [] words (All-nil (IsCanonical (row_of row).value_kind)) h)

first_sound : (m : Statements) (here : Level) (marks : Marks) (mark : Bool) (token : Lexed) (turn : Turn) → Stands m here → TakesFirst mark here marks token turn → IsSoundTurn m here turn
first_sound m here marks true token turn stands h = quiet_sound m here turn _ h.1 h.0
first_sound m here marks false token turn stands h = begins_sound m here here marks stands token.word turn h

further_sound : (m : Statements) (here : Level) (opens : Bool) (level : Level) (word : List ℕ) (turn : Turn) → Stands m level → TakesAfter opens level word turn → IsSoundTurn m here turn
further_sound m here true level word turn stands h = begins_sound m here level reading.no_marks stands word turn h
further_sound m here false level word turn stands h = absurd h

word_sound : (m : Statements) (phase : Phase) (here : Level) (token : Lexed) (turn : Turn) → Stands m here → IsSoundPhase m phase here → TakesWord phase here token turn → IsSoundTurn m here turn
word_sound m Between here token turn stands sound h = first_sound m here reading.no_marks (is_mark token) token turn stands h
word_sound m (Marked marks) here token turn stands sound h = first_sound m here marks (is_mark token) token turn stands h
word_sound m (Naming marks at head) here token turn stands sound h = names_sound m here at marks sound.stands head token.word turn h
word_sound m (Valuing marks level) here token turn stands sound h =
    whole_sound m here turn marks level _ h.makes sound.comes (one_counted level.place.row h.word sound.shape (IsCanonical-from _ token.word h.word h.spelled))
word_sound m (Listing marks level words) here token turn stands sound h =
    quiet_sound m here turn _ h.makes record {
      comes = sound.comes;
      many = sound.many;
      canonical = All-push (IsCanonical (row_of level.place.row).value_kind) words h.word sound.canonical (IsCanonical-from _ token.word h.word h.spelled);
    }
word_sound m (After level) here token turn stands sound h = further_sound m here (is_open level) level token.word turn sound h

-- what a run says may be said, and leads on
pub record IsSoundRun (m : Statements) (run : Run) : Type 0 where
  pub said : AreSaid m run.items
  pub state : IsSound (stated m run.items) run.state

module _ (m : Statements) (s : ReadState) (run : Run) (sound : IsSound m s) where
  run_is : (two : Run) → run ≡ two → IsSoundRun m two → IsSoundRun m run
  run_is two e h = subst (λ (r : Run). IsSoundRun m r) (sym e) h

  turned_sound : (turn : Turn) → run ≡ turned s turn → IsSoundTurn m s.here turn → IsSoundRun m run
  turned_sound turn e h =
      run_is (turned s turn) e record {
        said = h.said;
        state = record { here = stands_on m turn.items s.here sound.here; outer = all_stand_on m turn.items s.outer sound.outer; phase = h.phase };
      }

  semicolon_sound : (phase : Phase) → TakesSemicolon phase s run → IsSoundRun m run
  semicolon_sound (After level) h = run_is _ h record { said = tt; state = record { here = sound.here; outer = sound.outer; phase = tt } }
  semicolon_sound Between h = absurd h
  semicolon_sound (Marked marks) h = absurd h
  semicolon_sound (Naming marks at head) h = absurd h
  semicolon_sound (Valuing marks level) h = absurd h
  semicolon_sound (Listing marks level words) h = absurd h

  open_sound : (phase : Phase) → IsSoundPhase m phase s.here → TakesOpenBrace phase s run → IsSoundRun m run
  open_sound (After level) stands h = run_is _ h.1 record { said = tt; state = record { here = stands; outer = (sound.here, sound.outer); phase = tt } }
  open_sound Between stands h = absurd h
  open_sound (Marked marks) stands h = absurd h
  open_sound (Naming marks at head) stands h = absurd h
  open_sound (Valuing marks level) stands h = absurd h
  open_sound (Listing marks level words) stands h = absurd h

  leave_sound : (outer : List Level) → AllByRecursion (Stands m) outer → Leaves outer run → IsSoundRun m run
  leave_sound [] stand h = absurd h
  leave_sound (up ∷ outer) stand h = run_is _ h record { said = tt; state = record { here = stand.0; outer = stand.1; phase = tt } }

  close_sound : (phase : Phase) → TakesCloseBrace phase s run → IsSoundRun m run
  close_sound Between h = leave_sound s.outer sound.outer h
  close_sound (Marked marks) h = absurd h
  close_sound (Naming marks at head) h = absurd h
  close_sound (Valuing marks level) h = absurd h
  close_sound (Listing marks level words) h = absurd h
  close_sound (After level) h = absurd h

  list_sound : (phase : Phase) → IsSoundPhase m phase s.here → TakesOpenBracket phase s run → IsSoundRun m run
  list_sound (Valuing marks level) comes h =
      run_is _ h.1 record {
        said = tt;
        state = record {
          here = sound.here;
          outer = sound.outer;
          phase = record { comes = comes.comes; many = shape_many _ h.0; canonical = All-nil (IsCanonical (row_of level.place.row).value_kind) };
        };
      }
  list_sound Between comes h = absurd h
  list_sound (Marked marks) comes h = absurd h
  list_sound (Naming marks at head) comes h = absurd h
  list_sound (Listing marks level words) comes h = absurd h
  list_sound (After level) comes h = absurd h

  end_list_sound : (phase : Phase) → IsSoundPhase m phase s.here → TakesCloseBracket phase s run → IsSoundRun m run
  end_list_sound (Listing marks level words) list h =
      turned_sound (whole marks level (joined [] words)) h.1
      (whole_sound m s.here _ marks level (joined [] words) refl list.comes (list_counted level.place.row words list.many h.0 list.canonical))
  end_list_sound Between list h = absurd h
  end_list_sound (Marked marks) list h = absurd h
  end_list_sound (Naming marks at head) list h = absurd h
  end_list_sound (Valuing marks level) list h = absurd h
  end_list_sound (After level) list h = absurd h

  word_to_sound : (token : Lexed) → TakesWordTo s token run → IsSoundRun m run
  word_to_sound token h = turned_sound h.turn h.makes (word_sound m s.phase s.here token h.turn sound.here sound.phase h.taken)

  by_kind_sound : (k : TokenKind) (token : Lexed) → TakesBy k s token run → IsSoundRun m run
  by_kind_sound kind.Semicolon token h = semicolon_sound s.phase h
  by_kind_sound kind.OpenBrace token h = open_sound s.phase sound.phase h
  by_kind_sound kind.CloseBrace token h = close_sound s.phase h
  by_kind_sound kind.OpenBracket token h = list_sound s.phase sound.phase h
  by_kind_sound kind.CloseBracket token h = end_list_sound s.phase sound.phase h
  by_kind_sound kind.Bare token h = word_to_sound token h
  by_kind_sound kind.Quoted token h = word_to_sound token h

pub takes_sound : (m : Statements) (s : ReadState) (token : Lexed) (run : Run) → IsSound m s → Takes s token run → IsSoundRun m run
takes_sound m s token run sound h = by_kind_sound m s run sound token.kind token h

pub goes_sound : (tokens : List Lexed) (m : Statements) (s : ReadState) (run : Run) → IsSound m s → Goes s tokens run → IsSoundRun m run
goes_sound [] m s run sound h = subst (λ (r : Run). IsSoundRun m r) (sym h) record { said = tt; state = sound }
goes_sound (token ∷ tokens) m s run sound h =
    let one = takes_sound m s token h.0 sound h.2
    in let more = goes_sound tokens (stated m h.0.items) h.0.state h.1 one.state h.3
    in subst (λ (r : Run). IsSoundRun m r) (sym h.4) record {
      said = said_join m h.0.items h.1.items one.said more.said;
      state = subst (λ (n : Statements). IsSound n h.1.state) (sym (stated-append m h.0.items h.1.items)) more.state;
    }

-- before the first token nothing is there
pub start_sound : IsSound map.empty start
start_sound = record { here = record { led = record { placed = refl; typed = tt }; there = λ some. absurd (omega (arith, some)) }; outer = tt; phase = tt }

-- what is read from the start
pub read_sound : (tokens : List Lexed) (run : Run) → Goes start tokens run → IsSoundRun map.empty run
read_sound tokens run h = goes_sound tokens map.empty start run start_sound h
