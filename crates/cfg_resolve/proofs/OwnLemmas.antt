-- A statement's own words are read as that statement.
use Rattle.std.proofs.Common.{◌≡◌, ◌≢◌, ℕ, ◌<◌, ◌≤◌, ◌==◌, Bool, true, false, List, [], ◌∷◌, ◌++◌, length, refl, sym, ap, subst, ◌∙◌, Option, Some, is_some, Ok, Err, Result, MatchBool, inl, arith, length-append, eqb-true}
use Rattle.std.specs.Prelude.{IsSome}
use Rattle.std.specs.FinMap as map
use Rattle.std.proofs.lemmas.List.{append_assoc, append-nil, drop_at}
use Rattle.std.proofs.lemmas.List.Elements.{All-head}
use Rattle.cfg_base.specs.declared.path.Step.{Step}
use Rattle.cfg_base.specs.declared.value.Value.{Value}
use Rattle.cfg_base.specs.declared.kind.Shape.{Shape}
use Rattle.cfg_base.specs.declared.kind.Shape.TheVariants.{Container, Fixed, Keyed, Bare, Leaf, Flag, Many}
use Rattle.cfg_schema.specs.declared.place.Place.{Place}
use Rattle.cfg_schema.specs.declared.answer.Child.{Child}
use Rattle.cfg_schema.specs.declared.answer.Child.TheVariants as begun
use Rattle.cfg_schema.specs.Profile.{row_of, is_level}
use Rattle.cfg_schema.specs.Child.{child_of}
use Rattle.cfg_schema.specs.Place.{top_place, entered, place_after, and_then, place_from}
use Rattle.cfg_schema.proofs.LevelLemmas.{led_to}
use Rattle.cfg_schema.proofs.BegunLemmas.{name_begins_row}
use Rattle.cfg_values.specs.Spelling.{IsCanonical}
use Rattle.cfg_resolve.specs.declared.front.Front.{Front}
use Rattle.cfg_resolve.specs.declared.front.Front.TheVariants.{Level, Statement}
use Rattle.cfg_resolve.specs.declared.target.Target.{Target}
use Rattle.cfg_resolve.specs.declared.target.WordsFault.{WordsFault}
use Rattle.cfg_tree.specs.Statements.{Statements}
use Rattle.cfg_tree.specs.Typed.{IsNamed, FollowsFrom, AreCounted, AreCanonical}
use Rattle.cfg_tree.specs.Tree.{step_of, IsTree}
use Rattle.cfg_resolve.specs.Resolve.{first_of, IsStatement, IsBegun, IsFront, Reads, no_words, refused, whole, ended, goes_on, target, ResolvesTo, AreGiven, IsTargetBelow}
use Rattle.cfg_tree.specs.OwnWords.{words_of_step, own_words}
use Rattle.cfg_tree.proofs.FollowLemmas.{follows_behind, below_is_level}
use Rattle.cfg_tree.proofs.NameLemmas.{name_some}
use Rattle.cfg_tree.proofs.OwnLemmas.{fixed_name_some, all_spelled, is_plain, fixed_name, stood, words_at, plain_words, plain_step, two_words, bare_words, bare_step_is, begins_own, other_shape, step_some}

some_same : {A : Type 0} (x y : A) → Some x ≡ Some y → x ≡ y
some_same x y e = cc

place_behind : (level rest : List Step) (start here : Place) → FollowsFrom (level ++ rest) start → place_from level start ≡ Some here
    → place_from (level ++ rest) start ≡ place_from rest here
place_behind [] rest start here f e = ap (place_from rest) (some_same start here e)
place_behind (s ∷ level) rest start here f e =
    ap (and_then (place_from (level ++ rest))) f.1
    ∙ place_behind level rest f.0 here f.3 (ap (and_then (place_from level)) (sym f.1) ∙ e)

some_left : (n : ℕ) (b : Bool) → (n == 0) ≡ b → 0 < n → b ≡ false
some_left n true e some = let z = eqb-true n 0 e in absurd (omega (arith, z, some))
some_left n false e some = refl

match_no : (c : Bool) (P Q : Type 0) → c ≡ false → Q → MatchBool c P Q
match_no true P Q e q = cc
match_no false P Q e q = q

-- a level is given no words
no_words_given : (shape : Shape) (words : List (List ℕ)) → is_level shape ≡ true → AreGiven shape words → words ≡ []
no_words_given Container words e h = h
no_words_given Fixed words e h = h
no_words_given Keyed words e h = h
no_words_given Bare words e h = h
no_words_given Flag words e h = h
no_words_given Leaf words e h = cc
no_words_given Many words e h = cc

-- a step that leads from a place to the next one
module _ (here next : Place) (step : Step) (led : place_after here step ≡ Some next) where
  -- words that begin the row say what a statement of the row is
  front_of : (word : List ℕ) (rest : List (List ℕ)) (shape : Shape) (front : Front) → (row_of next.row).shape ≡ shape
      → child_of here.row here.in_group word (first_of rest) ≡ begun.Row next.row
      → IsStatement here next.row (row_of next.row).name_kind (row_of next.row).value_kind shape word rest front
      → IsFront here (word ∷ rest) front
  front_of word rest shape front e begins said =
      subst (λ (c : Child). IsBegun here c word rest front) (sym begins)
      (subst (λ (s : Shape). IsStatement here next.row (row_of next.row).name_kind (row_of next.row).value_kind s word rest front) (sym e) said)

  level_is : (s : Step) (used : ℕ) → step ≡ s → Level step next used ≡ Level s (entered here next.row) used
  level_is s used e =
      ap (λ (t : Step). Level t next used) e ∙ ap (λ (p : Place). Level s p used) (led_to here next step led).is_entered

  -- the own words of a level enter it, whatever follows
  abbrev Enters : Type 0
  Enters = (more : List (List ℕ)) → IsFront here (words_of_step step ++ more) (Level step next (length (words_of_step step)))

  entered_by_words : (words : List (List ℕ)) → words_of_step step ≡ words
      → ((more : List (List ℕ)) → IsFront here (words ++ more) (Level step next (length words))) → Enters
  entered_by_words words e h more =
      subst (λ (ws : List (List ℕ)). IsFront here (ws ++ more) (Level step next (length ws))) (sym e) (h more)

  container_enters : (row_of next.row).shape ≡ Container → (row_of next.row).shape ≢ Bare → Enters
  container_enters e other =
      entered_by_words (step.head ∷ []) (plain_words here next step led Container e refl other)
      (λ more. front_of step.head more Container _ e (begins_own here next step led (first_of more) other (λ f. absurd (apart (sym e ∙ f))))
      (level_is (step_of step.head []) 1 (plain_step here next step led Container e refl)))
    where
      apart : Container ≡ Fixed → ⊥
      apart f = cc

  fixed_enters : (row_of next.row).shape ≡ Fixed → (row_of next.row).shape ≢ Bare → Enters
  fixed_enters e other =
      let name = fixed_name _ _ step (words_at here next step led Fixed e)
      in entered_by_words (step.head ∷ step.name ∷ [])
      (two_words here next step led other (subst (λ (n : List ℕ). 0 < length n) name (fixed_name_some next.row (stood here next step led).0 e)))
      (λ more. front_of step.head (step.name ∷ more) Fixed _ e (begins_own here next step led step.name other (λ f. name)) (level_is step 2 refl))

  keyed_enters : (row_of next.row).shape ≡ Keyed → (row_of next.row).shape ≢ Bare → IsNamed here next.row Keyed step.name → Enters
  keyed_enters e other named =
      entered_by_words (step.head ∷ step.name ∷ []) (two_words here next step led other (name_some next.row here.in_group step.name (stood here next step led).0 named))
      (λ more. front_of step.head (step.name ∷ more) Keyed _ e (begins_own here next step led step.name other (λ f. absurd (apart (sym e ∙ f))))
      (match_no _ _ _ (some_left (length (step.name ∷ more)) _ refl (omega arith))
      (inl record { name = step.name; is_name = named; entered_is = level_is step 2 refl })))
    where
      apart : Keyed ≡ Fixed → ⊥
      apart f = cc

  bare_enters : (row_of next.row).shape ≡ Bare → IsNamed here next.row Bare step.name → Enters
  bare_enters e named =
      entered_by_words (step.name ∷ []) (bare_words here next step led e (name_some next.row here.in_group step.name (stood here next step led).0 named.0))
      (λ more. front_of step.name more Bare _ e (name_begins_row here.row here.in_group step.name (first_of more) next.row named.1 (stood here next step led) e)
      (inl record { name = step.name; is_name = named.0; entered_is = level_is (step_of [] step.name) 1 (bare_step_is here next step led e) }))

  enters : (shape : Shape) → (row_of next.row).shape ≡ shape → is_level shape ≡ true → IsNamed here next.row shape step.name → Enters
  enters Container e level named = container_enters e (other_shape here next step led Container e refl)
  enters Fixed e level named = fixed_enters e (other_shape here next step led Fixed e refl)
  enters Keyed e level named = keyed_enters e (other_shape here next step led Keyed e refl) named
  enters Bare e level named = bare_enters e named
  enters Leaf e level named = cc
  enters Flag e level named = cc
  enters Many e level named = cc

  -- the own words of a statement that is no level, and words that it may be given, are the whole of it
  abbrev Ends : List (List ℕ) → Type 0
  Ends words = IsFront here (words_of_step step ++ words) (Statement step words)

  statement_is : (shape : Shape) (words : List (List ℕ)) → (row_of next.row).shape ≡ shape → is_plain shape ≡ true
      → Statement step words ≡ Statement (step_of step.head []) words
  statement_is shape words e plain = ap (λ (s : Step). Statement s words) (plain_step here next step led shape e plain)

  ended_by : (shape : Shape) (words : List (List ℕ)) → (row_of next.row).shape ≡ shape → is_plain shape ≡ true
      → (row_of next.row).shape ≢ Bare → shape ≢ Fixed
      → IsStatement here next.row (row_of next.row).name_kind (row_of next.row).value_kind shape step.head words (Statement step words) → Ends words
  ended_by shape words e plain other no_fixed said =
      subst (λ (ws : List (List ℕ)). IsFront here (ws ++ words) (Statement step words)) (sym (plain_words here next step led shape e plain other))
      (front_of step.head words shape _ e (begins_own here next step led (first_of words) other (λ f. absurd (no_fixed (sym e ∙ f)))) said)

  leaf_said : (words : List (List ℕ)) → (row_of next.row).shape ≡ Leaf → length words ≤ 1 → AreCanonical (row_of next.row).value_kind words
      → IsStatement here next.row (row_of next.row).name_kind (row_of next.row).value_kind Leaf step.head words (Statement step words)
  leaf_said [] e few canonical = statement_is Leaf [] e refl
  leaf_said (word ∷ []) e few canonical =
      inl record { word = word; spelled = All-head (IsCanonical (row_of next.row).value_kind) word [] canonical; only = statement_is Leaf (word ∷ []) e refl }
  leaf_said (word ∷ w ∷ words) e few canonical = absurd (omega (arith, few))

  ends : (shape : Shape) (words : List (List ℕ)) → (row_of next.row).shape ≡ shape → is_level shape ≡ false
      → AreGiven shape words → AreCanonical (row_of next.row).value_kind words → Ends words
  ends Leaf words e level given canonical =
      ended_by Leaf words e refl (other_shape here next step led Leaf e refl) (λ f. cc) (leaf_said words e given canonical)
  ends Flag words e level given canonical =
      subst Ends (sym given) (ended_by Flag [] e refl (other_shape here next step led Flag e refl) (λ f. cc) (statement_is Flag [] e refl))
  ends Many words e level given canonical =
      ended_by Many words e refl (other_shape here next step led Many e refl) (λ f. cc)
      (inl record { words = words; spelled = all_spelled (row_of next.row).value_kind words canonical; whole = statement_is Many words e refl })
  ends Container words e level given canonical = cc
  ends Fixed words e level given canonical = cc
  ends Keyed words e level given canonical = cc
  ends Bare words e level given canonical = cc

  -- so words that follow them are read below the level
  goes : (so_far : List Step) (more : List (List ℕ)) (answer : Result Target WordsFault) → is_level (row_of next.row).shape ≡ true
      → IsNamed here next.row (row_of next.row).shape step.name → 0 < length more → Reads (so_far ++ step ∷ []) next more answer
      → Reads so_far here (words_of_step step ++ more) answer
  goes so_far more answer level named some read =
      let long = length-append (words_of_step step) more
      in goes_on so_far here next (words_of_step step ++ more) step (length (words_of_step step)) answer (omega (arith, long, some))
      (enters (row_of next.row).shape refl level named more) (omega (arith, long, some))
      (subst (λ (ws : List (List ℕ)). Reads (so_far ++ step ∷ []) next ws answer) (sym (drop_at (words_of_step step) more (length (words_of_step step)) refl)) read)

  -- and they end at the statement of the step, with the words that it may be given
  stops : (so_far : List Step) (words : List (List ℕ)) (level : Bool) → is_level (row_of next.row).shape ≡ level
      → IsNamed here next.row (row_of next.row).shape step.name → 0 < length (words_of_step step)
      → AreGiven (row_of next.row).shape words → AreCanonical (row_of next.row).value_kind words
      → Reads so_far here (words_of_step step ++ words) (Ok (target (so_far ++ step ∷ []) words))
  stops so_far words true e named some given canonical =
      subst (λ (ws : List (List ℕ)). Reads so_far here (words_of_step step ++ ws) (Ok (target (so_far ++ step ∷ []) ws)))
      (sym (no_words_given (row_of next.row).shape words e given))
      (ended so_far here next (words_of_step step ++ []) step (length (words_of_step step)) (omega (arith, length-append {A = List ℕ} (words_of_step step) [], some))
      (enters (row_of next.row).shape refl e named []) (omega (arith, length-append {A = List ℕ} (words_of_step step) [])))
  stops so_far words false e named some given canonical =
      whole so_far here (words_of_step step ++ words) words step (omega (arith, length-append (words_of_step step) words, some))
      (ends (row_of next.row).shape words refl e given canonical)

not_found : (fault : WordsFault) (found : Target) (answer : Result Target WordsFault) → answer ≡ Err fault → answer ≡ Ok found → ⊥
not_found fault found answer e f = cc

-- where words name a statement there are some
named_some : (path : List Step) (here : Place) (words : List (List ℕ)) (answer : Result Target WordsFault) (found : Target)
    → Reads path here words answer → answer ≡ Ok found → 0 < length words
named_some _ _ _ _ found (no_words path here) e = absurd (not_found _ found _ refl e)
named_some _ _ _ _ found (refused path here words reason step some front) e = some
named_some _ _ _ _ found (whole path here words values step some front) e = some
named_some _ _ _ _ found (ended path here next words step used some front few) e = some
named_some _ _ _ _ found (goes_on path here next words step used answer some front more rest) e = some

-- the steps from a place on, and words that the last of them may be given
pub record EndsWith (here : Place) (rest : List Step) (words : List (List ℕ)) : Type 0 where
  pub given : (there : Place) → place_from rest here ≡ Some there → AreGiven (row_of there.row).shape words
  pub canonical : (there : Place) → place_from rest here ≡ Some there → AreCanonical (row_of there.row).value_kind words

-- the own words of steps, and words that the last may be given, are read as those steps
own_reads : (rest so_far : List Step) (here : Place) (words : List (List ℕ)) → 0 < length rest → FollowsFrom rest here → EndsWith here rest words
    → Reads so_far here (own_words rest ++ words) (Ok (target (so_far ++ rest) words))
own_reads [] so_far here words some f end = absurd (omega (arith, some))
own_reads (step ∷ []) so_far here words some f end =
    let there = ap (and_then (place_from [])) f.1
    in subst (λ (ws : List (List ℕ)). Reads so_far here (ws ++ words) (Ok (target (so_far ++ step ∷ []) words))) (sym (append-nil (words_of_step step)))
    (stops here f.0 step f.1 so_far words _ refl f.2 (step_some here f.0 step f.1 _ refl f.2) (end.given f.0 there) (end.canonical f.0 there))
own_reads (step ∷ s ∷ more) so_far here words some f end =
    let along = ap (and_then (place_from (s ∷ more))) f.1
    in let read = own_reads (s ∷ more) (so_far ++ step ∷ []) f.0 words (omega arith) f.3 (record {
      given = λ there e. end.given there (along ∙ e);
      canonical = λ there e. end.canonical there (along ∙ e);
    })
    in let level = below_is_level f.0 f.3.0.row (stood here f.0 step f.1).0 (stood f.0 f.3.0 s f.3.1)
    in let went = goes here f.0 step f.1 so_far (own_words (s ∷ more) ++ words) _ level f.2 (named_some _ _ _ _ _ read refl) read
    in subst (λ (ws : List (List ℕ)). Reads so_far here ws (Ok (target (so_far ++ step ∷ s ∷ more) words)))
    (sym (append_assoc (words_of_step step) (own_words (s ∷ more)) words))
    (subst (λ (p : List Step). Reads so_far here (words_of_step step ++ (own_words (s ∷ more) ++ words)) (Ok (target p words)))
    (append_assoc so_far (step ∷ []) (s ∷ more)) went)

-- the own words of a statement below a level name it there
pub below_named : (level rest : List Step) (words : List (List ℕ)) → IsTargetBelow level (target (level ++ rest) words)
    → ResolvesTo level (own_words rest ++ words) (Ok (target (level ++ rest) words))
below_named level rest words t here placed =
    let along = place_behind level rest top_place here t.typed placed
    in own_reads rest level here words
    (let long = ap (λ (p : List Step). length p) t.below in omega (arith, long, length-append level rest, length-append level t.rest, t.steps))
    (follows_behind level rest top_place here t.typed placed)
    record { given = λ there e. t.given there (along ∙ e); canonical = λ there e. t.canonical there (along ∙ e) }

-- as many words as a statement has are as many as it may be given
counted_given : (shape : Shape) (words : List (List ℕ)) → AreCounted shape words → AreGiven shape words
counted_given Leaf words h = omega (arith, h)
counted_given Many words h = tt
counted_given Container words h = h
counted_given Fixed words h = h
counted_given Keyed words h = h
counted_given Bare words h = h
counted_given Flag words h = h

is_some_of : (o : Option Value) (value : Value) → o ≡ Some value → IsSome o
is_some_of o value e = ap (λ (x : Option Value). is_some x) e

-- so each statement of a configuration is named by its own words
pub kept_named : (m : Statements) (path : List Step) (value : Value) → IsTree m → map.get m path ≡ Some value
    → ResolvesTo [] (own_words path ++ value.words) (Ok (target path value.words))
kept_named m path value tree e =
    let there = is_some_of _ value e
    in below_named [] path value.words (record {
      rest = path;
      steps = (tree.statements.parents path there).steps;
      below = refl;
      typed = tree.typed.paths path there;
      given = λ here f. counted_given (row_of here.row).shape value.words (tree.typed.words path value here e f).0;
      canonical = λ here f. (tree.typed.words path value here e f).1;
    })
