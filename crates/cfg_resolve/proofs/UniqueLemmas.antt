-- Of the same words at most one answer is read.
use Rattle.std.proofs.Common.{◌≡◌, ◌≢◌, ℕ, zero, suc, ◌<◌, ◌≤◌, ◌==◌, Bool, true, false, List, [], ◌∷◌, ◌++◌, length, drop, refl, sym, ap, subst, ◌∙◌, Ok, Err, Result, MatchBool, inl, inr, ◌⊎◌, arith}
use Rattle.std.specs.Prelude.{slice_index_or}
use Rattle.cfg_base.specs.declared.path.Step.{Step}
use Rattle.cfg_base.specs.declared.kind.Kind.{Kind}
use Rattle.cfg_base.specs.declared.kind.Shape.{Shape}
use Rattle.cfg_base.specs.declared.kind.Shape.TheVariants.{Container, Fixed, Keyed, Bare, Leaf, Flag, Many}
use Rattle.cfg_schema.specs.declared.place.Place.{Place}
use Rattle.cfg_schema.specs.declared.answer.Child.{Child}
use Rattle.cfg_schema.specs.declared.answer.Child.TheVariants as begun
use Rattle.cfg_schema.specs.Profile.{row_of}
use Rattle.cfg_schema.specs.Child.{child_of}
use Rattle.cfg_schema.specs.Place.{top_place, entered}
use Rattle.cfg_values.specs.Spelling.{IsSpelling, IsCanonicalOf}
use Rattle.cfg_values.proofs.SpellingLemmas.{IsCanonicalOf-unique}
use Rattle.cfg_resolve.specs.declared.front.Front.{Front}
use Rattle.cfg_resolve.specs.declared.front.Front.TheVariants.{Level, Statement, Refused}
use Rattle.cfg_resolve.specs.declared.front.Why.TheVariants as why
use Rattle.cfg_resolve.specs.declared.target.Target.{Target}
use Rattle.cfg_resolve.specs.declared.target.WordsFault.{WordsFault}
use Rattle.cfg_resolve.specs.declared.target.WordsFault.TheVariants.{Unknown, BadValue, Incomplete, Extra, NoMemory}
use Rattle.cfg_tree.specs.Tree.{step_of}
use Rattle.cfg_tree.specs.Typed.{AllSpelled, IsLevelPath}
use Rattle.cfg_resolve.specs.Resolve.{first_of, IsNamedLevel, IsLeafWord, AreManyWords, IsStatement, IsBegun, IsFront, IsReadingOf, Reads, no_words, refused, whole, ended, goes_on, fault_of, target, ResolvesTo}
use Rattle.cfg_tree.proofs.FollowLemmas.{typed_place}
use Rattle.cfg_tree.proofs.NameLemmas.{name_unique}

match_both : (c : Bool) (P Q P' Q' R : Type 0) → (P → P' → R) → (Q → Q' → R) → MatchBool c P Q → MatchBool c P' Q' → R
match_both true P Q P' Q' R f g h k = f h k
match_both false P Q P' Q' R f g h k = g h k

two_fronts : (a f g : Front) → f ≡ a → g ≡ a → f ≡ g
two_fronts a f g h k = h ∙ sym k

is_spelling : (kind : Kind) (bytes word : List ℕ) → IsCanonicalOf kind bytes word → IsSpelling kind bytes
is_spelling kind bytes word h = record { value = h.value; spells = h.spells }

named_unique : (here : Place) (id : ℕ) (kind : Kind) (head bytes : List ℕ) (used : ℕ) (f g : Front)
    → IsNamedLevel here id kind head bytes used f → IsNamedLevel here id kind head bytes used g → f ≡ g
named_unique here id kind head bytes used f g (inl a) (inl b) =
    a.entered_is
    ∙ ap (λ (n : List ℕ). Level (step_of head n) (entered here id) used) (name_unique here.in_group kind bytes a.name b.name a.is_name b.is_name)
    ∙ sym b.entered_is
named_unique here id kind head bytes used f g (inl a) (inr b) = absurd (b.none a.name a.is_name)
named_unique here id kind head bytes used f g (inr a) (inl b) = absurd (a.none b.name b.is_name)
named_unique here id kind head bytes used f g (inr a) (inr b) = a.refused ∙ sym b.refused

leaf_unique : (kind : Kind) (step : Step) (bytes : List ℕ) (count : ℕ) (f g : Front)
    → IsLeafWord kind step bytes count f → IsLeafWord kind step bytes count g → f ≡ g
leaf_unique kind step bytes count f g (inl a) (inl b) =
    match_both (count == 1) (f ≡ Statement step (a.word ∷ [])) (f ≡ Refused why.Extra step) (g ≡ Statement step (b.word ∷ [])) (g ≡ Refused why.Extra step)
    (f ≡ g)
    (λ h k. h ∙ ap (λ (w : List ℕ). Statement step (w ∷ [])) (IsCanonicalOf-unique kind bytes a.word b.word a.spelled b.spelled) ∙ sym k)
    (two_fronts (Refused why.Extra step) f g) a.only b.only
leaf_unique kind step bytes count f g (inl a) (inr b) = absurd (b.none (is_spelling kind bytes a.word a.spelled))
leaf_unique kind step bytes count f g (inr a) (inl b) = absurd (a.none (is_spelling kind bytes b.word b.spelled))
leaf_unique kind step bytes count f g (inr a) (inr b) = a.refused ∙ sym b.refused

all_unique : (kind : Kind) (bytes xs ys : List (List ℕ)) → AllSpelled kind bytes xs → AllSpelled kind bytes ys → xs ≡ ys
all_unique kind [] [] [] h k = refl
all_unique kind [] (x ∷ xs) ys h k = elim h [ ]
all_unique kind [] [] (y ∷ ys) h k = elim k [ ]
all_unique kind (b ∷ bytes) [] ys h k = elim h [ ]
all_unique kind (b ∷ bytes) (x ∷ xs) [] h k = elim k [ ]
all_unique kind (b ∷ bytes) (x ∷ xs) (y ∷ ys) h k =
    ap (λ (w : List ℕ). w ∷ xs) (IsCanonicalOf-unique kind b x y h.0 k.0) ∙ ap (λ (ws : List (List ℕ)). y ∷ ws) (all_unique kind bytes xs ys h.1 k.1)

spelled_at : (kind : Kind) (bytes words : List (List ℕ)) (place : ℕ) → AllSpelled kind bytes words → place < length bytes
    → IsSpelling kind (slice_index_or bytes place [])
spelled_at kind [] words place h within = absurd (omega arith)
spelled_at kind (b ∷ bytes) [] place h within = elim h [ ]
spelled_at kind (b ∷ bytes) (w ∷ words) zero h within = is_spelling kind b w h.0
spelled_at kind (b ∷ bytes) (w ∷ words) (suc place) h within = spelled_at kind bytes words place h.1 (omega arith)

many_unique : (kind : Kind) (step : Step) (bytes : List (List ℕ)) (f g : Front) → AreManyWords kind step bytes f → AreManyWords kind step bytes g → f ≡ g
many_unique kind step bytes f g (inl a) (inl b) =
    a.whole ∙ ap (λ (ws : List (List ℕ)). Statement step ws) (all_unique kind bytes a.words b.words a.spelled b.spelled) ∙ sym b.whole
many_unique kind step bytes f g (inl a) (inr b) = absurd (b.none (spelled_at kind bytes a.words b.place a.spelled b.within))
many_unique kind step bytes f g (inr a) (inl b) = absurd (a.none (spelled_at kind bytes b.words a.place b.spelled a.within))
many_unique kind step bytes f g (inr a) (inr b) = a.refused ∙ sym b.refused

module _ (here : Place) (id : ℕ) (names values : Kind) (word : List ℕ) (rest : List (List ℕ)) (f g : Front) where
  statement_unique : (shape : Shape) → IsStatement here id names values shape word rest f → IsStatement here id names values shape word rest g → f ≡ g
  statement_unique Container h k = h ∙ sym k
  statement_unique Fixed h k = h ∙ sym k
  statement_unique Keyed h k =
      match_both (length rest == 0) (f ≡ Refused why.Incomplete (step_of word [])) (IsNamedLevel here id names word (first_of rest) 2 f)
      (g ≡ Refused why.Incomplete (step_of word [])) (IsNamedLevel here id names word (first_of rest) 2 g) (f ≡ g)
      (two_fronts (Refused why.Incomplete (step_of word [])) f g) (named_unique here id names word (first_of rest) 2 f g) h k
  statement_unique Bare h k = named_unique here id names [] word 1 f g h k
  statement_unique Flag h k =
      match_both (length rest == 0) (f ≡ Statement (step_of word []) []) (f ≡ Refused why.Extra (step_of word []))
      (g ≡ Statement (step_of word []) []) (g ≡ Refused why.Extra (step_of word [])) (f ≡ g)
      (two_fronts (Statement (step_of word []) []) f g) (two_fronts (Refused why.Extra (step_of word [])) f g) h k
  statement_unique Leaf h k =
      match_both (length rest == 0) (f ≡ Statement (step_of word []) []) (IsLeafWord values (step_of word []) (first_of rest) (length rest) f)
      (g ≡ Statement (step_of word []) []) (IsLeafWord values (step_of word []) (first_of rest) (length rest) g) (f ≡ g)
      (two_fronts (Statement (step_of word []) []) f g) (leaf_unique values (step_of word []) (first_of rest) (length rest) f g) h k
  statement_unique Many h k = many_unique values (step_of word []) rest f g h k

begun_unique : (here : Place) (child : Child) (word : List ℕ) (rest : List (List ℕ)) (f g : Front)
    → IsBegun here child word rest f → IsBegun here child word rest g → f ≡ g
begun_unique here begun.Unknown word rest f g h k = h ∙ sym k
begun_unique here (begun.BadName id) word rest f g h k =
    match_both (length rest == 0) (f ≡ Refused why.Incomplete (step_of word [])) (f ≡ Refused why.BadValue (step_of word (first_of rest)))
    (g ≡ Refused why.Incomplete (step_of word [])) (g ≡ Refused why.BadValue (step_of word (first_of rest))) (f ≡ g)
    (two_fronts (Refused why.Incomplete (step_of word [])) f g) (two_fronts (Refused why.BadValue (step_of word (first_of rest))) f g) h k
begun_unique here (begun.Row id) word rest f g h k =
    statement_unique here id (row_of id).name_kind (row_of id).value_kind word rest f g (row_of id).shape h k

-- what the words at the front say is one thing
pub front_unique : (here : Place) (words : List (List ℕ)) (f g : Front) → IsFront here words f → IsFront here words g → f ≡ g
front_unique here words f g h k =
    begun_unique here (child_of here.row here.in_group (first_of words) (first_of (drop 1 words))) (first_of words) (drop 1 words) f g h k

-- what follows from what the front says
abbrev After : List Step → List (List ℕ) → Front → Result Target WordsFault → Type 0
After path words (Refused reason step) answer = answer ≡ Err (fault_of reason (path ++ step ∷ []))
After path words (Statement step values) answer = answer ≡ Ok (target (path ++ step ∷ []) values)
After path words (Level step next used) answer =
    ((length words ≤ used) × (answer ≡ Ok (target (path ++ step ∷ []) [])))
    ⊎ ((used < length words) × Reads (path ++ step ∷ []) next (drop used words) answer)

record Goes (path : List Step) (here : Place) (words : List (List ℕ)) (answer : Result Target WordsFault) : Type 0 where
  some : 0 < length words
  front : Front
  is_front : IsFront here words front
  after : After path words front answer

record Stops (path : List Step) (words : List (List ℕ)) (answer : Result Target WordsFault) : Type 0 where
  none : length words ≡ 0
  is : answer ≡ Err (Incomplete path)

-- how an answer was read
inverted : (path : List Step) (here : Place) (words : List (List ℕ)) (answer : Result Target WordsFault) → Reads path here words answer
    → Stops path words answer ⊎ Goes path here words answer
inverted _ _ _ _ (no_words path here) = inl record { none = refl; is = refl }
inverted _ _ _ _ (refused path here words reason step some front) = inr record { some = some; front = Refused reason step; is_front = front; after = refl }
inverted _ _ _ _ (whole path here words values step some front) = inr record { some = some; front = Statement step values; is_front = front; after = refl }
inverted _ _ _ _ (ended path here next words step used some front few) =
    inr record { some = some; front = Level step next used; is_front = front; after = inl (few, refl) }
inverted _ _ _ _ (goes_on path here next words step used answer some front more rest) =
    inr record { some = some; front = Level step next used; is_front = front; after = inr (more, rest) }

-- what follows from this front
after_front : (path : List Step) (here : Place) (words : List (List ℕ)) (front : Front) (answer : Result Target WordsFault) → 0 < length words
    → IsFront here words front → Stops path words answer ⊎ Goes path here words answer → After path words front answer
after_front path here words front answer some is_front (inl s) = absurd (omega (arith, some, s.none))
after_front path here words front answer some is_front (inr g) =
    subst (λ (f : Front). After path words f answer) (front_unique here words g.front front g.is_front is_front) g.after

stopped : (path : List Step) (here : Place) (answer : Result Target WordsFault) → Stops path [] answer ⊎ Goes path here [] answer → answer ≡ Err (Incomplete path)
stopped path here answer (inl s) = s.is
stopped path here answer (inr g) = absurd (omega (arith, g.some))

level_ends : (path : List Step) (words : List (List ℕ)) (step : Step) (next : Place) (used : ℕ) (answer : Result Target WordsFault) → length words ≤ used
    → After path words (Level step next used) answer → answer ≡ Ok (target (path ++ step ∷ []) [])
level_ends path words step next used answer few (inl h) = h.1
level_ends path words step next used answer few (inr h) = absurd (omega (arith, few, h.0))

level_goes : (path : List Step) (words : List (List ℕ)) (step : Step) (next : Place) (used : ℕ) (answer : Result Target WordsFault) → used < length words
    → After path words (Level step next used) answer → Reads (path ++ step ∷ []) next (drop used words) answer
level_goes path words step next used answer more (inl h) = absurd (omega (arith, more, h.0))
level_goes path words step next used answer more (inr h) = h.1

-- words have at most one answer
pub Reads-unique : (path : List Step) (here : Place) (words : List (List ℕ)) (one : Result Target WordsFault) → Reads path here words one
    → (other : Result Target WordsFault) → Reads path here words other → one ≡ other
Reads-unique _ _ _ _ (no_words path here) other r = sym (stopped path here other (inverted path here [] other r))
Reads-unique _ _ _ _ (refused path here words reason step some front) other r =
    sym (after_front path here words (Refused reason step) other some front (inverted path here words other r))
Reads-unique _ _ _ _ (whole path here words values step some front) other r =
    sym (after_front path here words (Statement step values) other some front (inverted path here words other r))
Reads-unique _ _ _ _ (ended path here next words step used some front few) other r =
    sym (level_ends path words step next used other few (after_front path here words (Level step next used) other some front (inverted path here words other r)))
Reads-unique _ _ _ _ (goes_on path here next words step used answer some front more rest) other r =
    Reads-unique (path ++ step ∷ []) next (drop used words) answer rest other
    (level_goes path words step next used other more (after_front path here words (Level step next used) other some front (inverted path here words other r)))

-- an answer other than for want of memory is read
reads_of : (path : List Step) (here : Place) (words : List (List ℕ)) (answer : Result Target WordsFault) → answer ≢ Err NoMemory
    → IsReadingOf path here words answer → Reads path here words answer
reads_of path here words (Ok found) some r = r
reads_of path here words (Err (Unknown at)) some r = r
reads_of path here words (Err (BadValue at)) some r = r
reads_of path here words (Err (Incomplete at)) some r = r
reads_of path here words (Err (Extra at)) some r = r
reads_of path here words (Err NoMemory) some r = absurd (some refl)

-- at a level words have at most one answer but for want of memory
pub resolved_once : (level : List Step) (words : List (List ℕ)) (one other : Result Target WordsFault) → IsLevelPath level
    → ResolvesTo level words one → ResolvesTo level words other → one ≢ Err NoMemory → other ≢ Err NoMemory → one ≡ other
resolved_once level words one other is_level r s a b =
    let there = typed_place level top_place is_level.typed
    in Reads-unique level there.0 words one (reads_of level there.0 words one a (r there.0 there.1)) other
    (reads_of level there.0 words other b (s there.0 there.1))
