-- What words name is a statement of a path that a typed map may have, with words of its kind.
use Rattle.std.proofs.Common.{◌≡◌, ◌≢◌, ℕ, ◌==◌, Bool, true, false, List, [], ◌∷◌, ◌++◌, length, drop, refl, sym, ap, subst, ◌∙◌, Some, Ok, Err, Result, MatchBool, inl, inr, arith}
use Rattle.std.specs.Prelude.{IfOk}
use Rattle.std.proofs.lemmas.List.{append_assoc}
use Rattle.std.proofs.lemmas.List.Elements.{All-nil, All-cons}
use Rattle.cfg_base.specs.declared.path.Step.{Step}
use Rattle.cfg_base.specs.declared.kind.Kind.{Kind}
use Rattle.cfg_base.specs.declared.kind.Shape.{Shape}
use Rattle.cfg_base.specs.declared.kind.Shape.TheVariants.{Container, Fixed, Keyed, Bare, Leaf, Flag, Many}
use Rattle.cfg_schema.specs.declared.place.Place.{Place}
use Rattle.cfg_schema.specs.declared.answer.Child.{Child}
use Rattle.cfg_schema.specs.declared.answer.Child.TheVariants as begun
use Rattle.cfg_schema.specs.Profile.{row_of, head_of, name_of, is_bare, StandsBelow}
use Rattle.cfg_schema.specs.Child.{child_of, Begins, IsNoHead}
use Rattle.cfg_schema.specs.Place.{has_words, top_place, entered, place_after, and_then, place_of}
use Rattle.cfg_schema.proofs.TestLemmas.{both_true, same_is, not_bare}
use Rattle.cfg_schema.proofs.ChildLemmas.{child_begins}
use Rattle.cfg_schema.proofs.LevelLemmas.{leads}
use Rattle.cfg_values.specs.Spelling.{IsCanonical}
use Rattle.cfg_values.proofs.SpellingLemmas.{IsCanonical-from}
use Rattle.cfg_resolve.specs.declared.front.Front.{Front}
use Rattle.cfg_resolve.specs.declared.front.Front.TheVariants.{Level, Statement, Refused}
use Rattle.cfg_resolve.specs.declared.front.Why.{Why}
use Rattle.cfg_resolve.specs.declared.front.Why.TheVariants as why
use Rattle.cfg_resolve.specs.declared.target.Target.{Target}
use Rattle.cfg_resolve.specs.declared.target.WordsFault.{WordsFault}
use Rattle.cfg_tree.specs.Typed.{IsNamed, IsTypedPath, AreCanonical, AllSpelled, IsLevelPath}
use Rattle.cfg_tree.specs.Tree.{step_of}
use Rattle.cfg_resolve.specs.Resolve.{first_of, IsNamedLevel, IsLeafWord, IsStatement, IsBegun, IsFront, IsReadingOf, Reads, no_words, refused, whole, ended, goes_on, target, ResolvesTo, AreGiven, IsTargetBelow}
use Rattle.cfg_tree.proofs.TypedLemmas.{place_snoc, follows_snoc}
use Rattle.cfg_tree.proofs.FollowLemmas.{typed_place}
use Rattle.cfg_tree.proofs.NameLemmas.{name_again, name_no_head}

-- a step leads to a place, by a name of its row
pub record Leads (here : Place) (step : Step) (next : Place) : Type 0 where
  pub place : place_after here step ≡ Some next
  pub named : IsNamed here next.row (row_of next.row).shape step.name

match_one : (c : Bool) (P Q R : Type 0) → (P → R) → (Q → R) → MatchBool c P Q → R
match_one true P Q R f g h = f h
match_one false P Q R f g h = g h

not_refused : (s : Step) (p : Place) (n : ℕ) (w : Why) (t : Step) → Level s p n ≡ Refused w t → ⊥
not_refused s p n w t e = cc

not_statement : (s : Step) (p : Place) (n : ℕ) (t : Step) (ws : List (List ℕ)) → Level s p n ≡ Statement t ws → ⊥
not_statement s p n t ws e = cc

not_level : (s : Step) (ws : List (List ℕ)) (t : Step) (p : Place) (n : ℕ) → Statement s ws ≡ Level t p n → ⊥
not_level s ws t p n e = cc

never_refused : (s : Step) (ws : List (List ℕ)) (w : Why) (t : Step) → Statement s ws ≡ Refused w t → ⊥
never_refused s ws w t e = cc

level_step : (s t : Step) (p q : Place) (m n : ℕ) → Level s p m ≡ Level t q n → s ≡ t
level_step s t p q m n e = cc

level_place : (s t : Step) (p q : Place) (m n : ℕ) → Level s p m ≡ Level t q n → p ≡ q
level_place s t p q m n e = cc

statement_step : (s t : Step) (ws vs : List (List ℕ)) → Statement s ws ≡ Statement t vs → s ≡ t
statement_step s t ws vs e = cc

statement_words : (s t : Step) (ws vs : List (List ℕ)) → Statement s ws ≡ Statement t vs → ws ≡ vs
statement_words s t ws vs e = cc

-- what a begun row says
module _ (here : Place) (id : ℕ) (word next : List ℕ) where
  stood : Begins here.row here.in_group word next (begun.Row id) → StandsBelow here.row here.in_group id
  stood (inl h) = h.0.0
  stood (inr h) = h.1

  head_is : Begins here.row here.in_group word next (begun.Row id) → (row_of id).shape ≢ Bare → head_of id ≡ word
  head_is (inl h) other = h.0.2
  head_is (inr h) other = absurd (other h.2)

  name_is : Begins here.row here.in_group word next (begun.Row id) → (row_of id).shape ≡ Fixed → name_of id ≡ next
  name_is (inl h) e = h.1 e
  name_is (inr h) e = absurd (apart (sym h.2 ∙ e))
    where
      apart : Bare ≡ Fixed → ⊥
      apart f = cc

  no_head : Begins here.row here.in_group word next (begun.Row id) → (row_of id).shape ≡ Bare → IsNoHead here.row here.in_group word
  no_head (inl h) e = absurd (h.0.1 e)
  no_head (inr h) e = h.0

-- a step with the words of a row that stands below leads to it
row_leads : (here : Place) (id : ℕ) (step : Step) (shape : Shape) → StandsBelow here.row here.in_group id → (row_of id).shape ≡ shape
    → has_words shape (head_of id) (name_of id) step ≡ true → IsNamed here id shape step.name → Leads here step (entered here id)
row_leads here id step shape stands_there e words named = record {
  place = leads here id step stands_there (subst (λ (s : Shape). has_words s (head_of id) (name_of id) step ≡ true) (sym e) words);
  named = subst (λ (s : Shape). IsNamed here id s step.name) (sym e) named;
}

level_moved : (here : Place) (id : ℕ) (s t : Step) (next : Place) (m n : ℕ) → Level s next m ≡ Level t (entered here id) n
    → Leads here t (entered here id) → Leads here s next
level_moved here id s t next m n e l =
    subst (λ (x : Step). Leads here x next) (sym (level_step s t next _ m n e))
    (subst (λ (p : Place). Leads here t p) (sym (level_place s t next _ m n e)) l)

other_shape : (s t : Shape) → s ≡ t → is_bare t ≡ false → s ≢ Bare
other_shape s t e f = not_bare s (ap is_bare e ∙ f)

module _ (here : Place) (id : ℕ) (word : List ℕ) (rest : List (List ℕ)) (b : Begins here.row here.in_group word (first_of rest) (begun.Row id)) where
  -- a statement without a name of its own
  plain_leads : (shape : Shape) → (row_of id).shape ≡ shape → is_bare shape ≡ false → has_words shape word (name_of id) (step_of word []) ≡ true
      → IsNamed here id shape [] → Leads here (step_of word []) (entered here id)
  plain_leads shape e other words named =
      row_leads here id (step_of word []) shape (stood here id word (first_of rest) b) e
      (subst (λ (h : List ℕ). has_words shape h (name_of id) (step_of word []) ≡ true)
      (sym (head_is here id word (first_of rest) b (other_shape _ shape e other))) words) named

  keyed_leads : (step : Step) (next : Place) (used : ℕ) → (row_of id).shape ≡ Keyed
      → IsNamedLevel here id (row_of id).name_kind word (first_of rest) 2 (Level step next used) → Leads here step next
  keyed_leads step next used e (inl h) =
      level_moved here id step _ next used 2 h.entered_is
      (row_leads here id (step_of word h.name) Keyed (stood here id word (first_of rest) b) e
      (same_is _ _ (head_is here id word (first_of rest) b (other_shape _ Keyed e refl)))
      (name_again here.in_group (row_of id).name_kind (first_of rest) h.name h.is_name))
  keyed_leads step next used e (inr h) = absurd (not_refused step next used _ _ h.refused)

  bare_leads : (step : Step) (next : Place) (used : ℕ) → (row_of id).shape ≡ Bare
      → IsNamedLevel here id (row_of id).name_kind [] word 1 (Level step next used) → Leads here step next
  bare_leads step next used e (inl h) =
      level_moved here id step _ next used 1 h.entered_is
      (row_leads here id (step_of [] h.name) Bare (stood here id word (first_of rest) b) e refl (
        name_again here.in_group (row_of id).name_kind word h.name h.is_name,
        name_no_head id here.row here.in_group word h.name (stood here id word (first_of rest) b).0 e h.is_name (no_head here id word (first_of rest) b e),
      ))
  bare_leads step next used e (inr h) = absurd (not_refused step next used _ _ h.refused)

  fixed_leads : (row_of id).shape ≡ Fixed → Leads here (step_of word (first_of rest)) (entered here id)
  fixed_leads e =
      row_leads here id (step_of word (first_of rest)) Fixed (stood here id word (first_of rest) b) e
      (both_true _ _ (same_is _ _ (head_is here id word (first_of rest) b (other_shape _ Fixed e refl))) (same_is _ _ (name_is here id word (first_of rest) b e))) tt

  no_leaf : (step : Step) (next : Place) (used : ℕ)
      → IsLeafWord (row_of id).value_kind (step_of word []) (first_of rest) (length rest) (Level step next used) → Leads here step next
  no_leaf step next used (inl l) =
      match_one (length rest == 1) (Level step next used ≡ Statement (step_of word []) (l.word ∷ [])) (Level step next used ≡ Refused why.Extra (step_of word []))
      (Leads here step next) (λ f. absurd (not_statement step next used (step_of word []) (l.word ∷ []) f)) (λ f. absurd (not_refused step next used why.Extra (step_of word []) f)) l.only
  no_leaf step next used (inr l) = absurd (not_refused step next used _ _ l.refused)

  -- a level that words enter is below the place
  level_leads : (step : Step) (next : Place) (used : ℕ) (shape : Shape) → (row_of id).shape ≡ shape
      → IsStatement here id (row_of id).name_kind (row_of id).value_kind shape word rest (Level step next used) → Leads here step next
  level_leads step next used Container e h =
      level_moved here id step _ next used 1 h (plain_leads Container e refl (both_true _ _ (same_is word word refl) refl) tt)
  level_leads step next used Fixed e h = level_moved here id step _ next used 2 h (fixed_leads e)
  level_leads step next used Keyed e h =
      match_one (length rest == 0) (Level step next used ≡ Refused why.Incomplete (step_of word []))
      (IsNamedLevel here id (row_of id).name_kind word (first_of rest) 2 (Level step next used)) (Leads here step next)
      (λ f. absurd (not_refused step next used why.Incomplete (step_of word []) f)) (keyed_leads step next used e) h
  level_leads step next used Bare e h = bare_leads step next used e h
  level_leads step next used Flag e h =
      match_one (length rest == 0) (Level step next used ≡ Statement (step_of word []) []) (Level step next used ≡ Refused why.Extra (step_of word []))
      (Leads here step next) (λ f. absurd (not_statement step next used (step_of word []) [] f)) (λ f. absurd (not_refused step next used why.Extra (step_of word []) f)) h
  level_leads step next used Leaf e h =
      match_one (length rest == 0) (Level step next used ≡ Statement (step_of word []) [])
      (IsLeafWord (row_of id).value_kind (step_of word []) (first_of rest) (length rest) (Level step next used)) (Leads here step next)
      (λ f. absurd (not_statement step next used (step_of word []) [] f)) (no_leaf step next used) h
  level_leads step next used Many e (inl h) = absurd (not_statement step next used _ _ h.whole)
  level_leads step next used Many e (inr h) = absurd (not_refused step next used _ _ h.refused)

-- a whole statement is below the place, with words of its row
pub record Gives (here : Place) (step : Step) (words : List (List ℕ)) : Type 0 where
  pub next : Place
  pub leads : Leads here step next
  pub given : AreGiven (row_of next.row).shape words
  pub canonical : AreCanonical (row_of next.row).value_kind words

no_canonical : (kind : Kind) → AreCanonical kind []
no_canonical kind = All-nil (IsCanonical kind)

none_given : (shape : Shape) → AreGiven shape []
none_given Leaf = omega arith
none_given Many = tt
none_given Container = refl
none_given Fixed = refl
none_given Keyed = refl
none_given Bare = refl
none_given Flag = refl

all_canonical : (kind : Kind) (bytes words : List (List ℕ)) → AllSpelled kind bytes words → AreCanonical kind words
all_canonical kind [] [] h = no_canonical kind
all_canonical kind [] (w ∷ words) h = elim h [ ]
all_canonical kind (b ∷ bytes) [] h = elim h [ ]
all_canonical kind (b ∷ bytes) (w ∷ words) h =
    All-cons (IsCanonical kind) w words (IsCanonical-from kind b w h.0) (all_canonical kind bytes words h.1)

statement_moved : (here : Place) (s t : Step) (ws vs : List (List ℕ)) → Statement s ws ≡ Statement t vs → Gives here t vs → Gives here s ws
statement_moved here s t ws vs e g =
    subst (λ (x : Step). Gives here x ws) (sym (statement_step s t ws vs e))
    (subst (λ (xs : List (List ℕ)). Gives here t xs) (sym (statement_words s t ws vs e)) g)

module _ (here : Place) (id : ℕ) (word : List ℕ) (rest : List (List ℕ)) (b : Begins here.row here.in_group word (first_of rest) (begun.Row id)) where
  gives : (shape : Shape) (words : List (List ℕ)) → (row_of id).shape ≡ shape → is_bare shape ≡ false
      → has_words shape word (name_of id) (step_of word []) ≡ true → IsNamed here id shape []
      → AreGiven shape words → AreCanonical (row_of id).value_kind words → Gives here (step_of word []) words
  gives shape words e other has named given canonical = record {
    next = entered here id;
    leads = plain_leads here id word rest b shape e other has named;
    given = subst (λ (s : Shape). AreGiven s words) (sym e) given;
    canonical = canonical;
  }

  own_words : has_words Flag word (name_of id) (step_of word []) ≡ true
  own_words = both_true _ _ (same_is word word refl) refl

  leaf_gives : (step : Step) (words : List (List ℕ)) → (row_of id).shape ≡ Leaf
      → IsLeafWord (row_of id).value_kind (step_of word []) (first_of rest) (length rest) (Statement step words) → Gives here step words
  leaf_gives step words e (inl l) =
      match_one (length rest == 1) (Statement step words ≡ Statement (step_of word []) (l.word ∷ [])) (Statement step words ≡ Refused why.Extra (step_of word []))
      (Gives here step words)
      (λ f. statement_moved here step (step_of word []) words (l.word ∷ []) f
      (gives Leaf (l.word ∷ []) e refl own_words tt (omega arith)
      (All-cons (IsCanonical (row_of id).value_kind) l.word [] (IsCanonical-from (row_of id).value_kind (first_of rest) l.word l.spelled) (no_canonical (row_of id).value_kind))))
      (λ f. absurd (never_refused step words why.Extra (step_of word []) f)) l.only
  leaf_gives step words e (inr l) = absurd (never_refused step words _ _ l.refused)

  no_keyed : (step : Step) (words : List (List ℕ)) → IsNamedLevel here id (row_of id).name_kind word (first_of rest) 2 (Statement step words) → Gives here step words
  no_keyed step words (inl l) = absurd (not_level step words _ _ _ l.entered_is)
  no_keyed step words (inr l) = absurd (never_refused step words _ _ l.refused)

  statement_gives : (step : Step) (words : List (List ℕ)) (shape : Shape) → (row_of id).shape ≡ shape
      → IsStatement here id (row_of id).name_kind (row_of id).value_kind shape word rest (Statement step words) → Gives here step words
  statement_gives step words Container e h = absurd (not_level step words _ _ _ h)
  statement_gives step words Fixed e h = absurd (not_level step words _ _ _ h)
  statement_gives step words Keyed e h =
      match_one (length rest == 0) (Statement step words ≡ Refused why.Incomplete (step_of word []))
      (IsNamedLevel here id (row_of id).name_kind word (first_of rest) 2 (Statement step words)) (Gives here step words)
      (λ f. absurd (never_refused step words why.Incomplete (step_of word []) f)) (no_keyed step words) h
  statement_gives step words Bare e (inl l) = absurd (not_level step words _ _ _ l.entered_is)
  statement_gives step words Bare e (inr l) = absurd (never_refused step words _ _ l.refused)
  statement_gives step words Flag e h =
      match_one (length rest == 0) (Statement step words ≡ Statement (step_of word []) []) (Statement step words ≡ Refused why.Extra (step_of word []))
      (Gives here step words)
      (λ f. statement_moved here step (step_of word []) words [] f (gives Flag [] e refl own_words tt refl (no_canonical (row_of id).value_kind)))
      (λ f. absurd (never_refused step words why.Extra (step_of word []) f)) h
  statement_gives step words Leaf e h =
      match_one (length rest == 0) (Statement step words ≡ Statement (step_of word []) [])
      (IsLeafWord (row_of id).value_kind (step_of word []) (first_of rest) (length rest) (Statement step words)) (Gives here step words)
      (λ f. statement_moved here step (step_of word []) words [] f (gives Leaf [] e refl own_words tt (omega arith) (no_canonical (row_of id).value_kind)))
      (leaf_gives step words e) h
  statement_gives step words Many e (inl l) =
      statement_moved here step _ words _ l.whole
      (gives Many l.words e refl own_words tt tt (all_canonical (row_of id).value_kind rest l.words l.spelled))
  statement_gives step words Many e (inr l) = absurd (never_refused step words _ _ l.refused)

begun_leads : (here : Place) (child : Child) (word : List ℕ) (rest : List (List ℕ)) (step : Step) (next : Place) (used : ℕ)
    → Begins here.row here.in_group word (first_of rest) child → IsBegun here child word rest (Level step next used) → Leads here step next
begun_leads here begun.Unknown word rest step next used b h = absurd (not_refused step next used _ _ h)
begun_leads here (begun.BadName id) word rest step next used b h =
    match_one (length rest == 0) (Level step next used ≡ Refused why.Incomplete (step_of word [])) (Level step next used ≡ Refused why.BadValue (step_of word (first_of rest)))
    (Leads here step next) (λ f. absurd (not_refused step next used why.Incomplete (step_of word []) f)) (λ f. absurd (not_refused step next used why.BadValue (step_of word (first_of rest)) f)) h
begun_leads here (begun.Row id) word rest step next used b h = level_leads here id word rest b step next used (row_of id).shape refl h

begun_gives : (here : Place) (child : Child) (word : List ℕ) (rest : List (List ℕ)) (step : Step) (words : List (List ℕ))
    → Begins here.row here.in_group word (first_of rest) child → IsBegun here child word rest (Statement step words) → Gives here step words
begun_gives here begun.Unknown word rest step words b h = absurd (never_refused step words _ _ h)
begun_gives here (begun.BadName id) word rest step words b h =
    match_one (length rest == 0) (Statement step words ≡ Refused why.Incomplete (step_of word [])) (Statement step words ≡ Refused why.BadValue (step_of word (first_of rest)))
    (Gives here step words) (λ f. absurd (never_refused step words why.Incomplete (step_of word []) f)) (λ f. absurd (never_refused step words why.BadValue (step_of word (first_of rest)) f)) h
begun_gives here (begun.Row id) word rest step words b h = statement_gives here id word rest b step words (row_of id).shape refl h

front_leads : (here : Place) (words : List (List ℕ)) (step : Step) (next : Place) (used : ℕ) → IsFront here words (Level step next used) → Leads here step next
front_leads here words step next used h =
    begun_leads here (child_of here.row here.in_group (first_of words) (first_of (drop 1 words))) (first_of words) (drop 1 words) step next used
    (child_begins here.row here.in_group (first_of words) (first_of (drop 1 words))) h

front_gives : (here : Place) (words : List (List ℕ)) (step : Step) (values : List (List ℕ)) → IsFront here words (Statement step values) → Gives here step values
front_gives here words step values h =
    begun_gives here (child_of here.row here.in_group (first_of words) (first_of (drop 1 words))) (first_of words) (drop 1 words) step values
    (child_begins here.row here.in_group (first_of words) (first_of (drop 1 words))) h

some_same : {A : Type 0} (x y : A) → Some x ≡ Some y → x ≡ y
some_same x y e = cc

-- one step more below a typed path
module _ (path : List Step) (here : Place) (typed : IsTypedPath path) (placed : place_of path ≡ Some here) (step : Step) (next : Place) (l : Leads here step next) where
  longer_placed : place_of (path ++ step ∷ []) ≡ Some next
  longer_placed = place_snoc path step top_place ∙ ap (and_then (λ (h : Place). place_after h step)) placed ∙ l.place

  longer_typed : IsTypedPath (path ++ step ∷ [])
  longer_typed = follows_snoc path step top_place here next typed placed l.place l.named

  target_here : (words : List (List ℕ)) → AreGiven (row_of next.row).shape words → AreCanonical (row_of next.row).value_kind words
      → IsTargetBelow path (target (path ++ step ∷ []) words)
  target_here words given canonical = record {
    rest = step ∷ [];
    steps = omega arith;
    below = refl;
    typed = longer_typed;
    given = λ there e. subst (λ (p : Place). AreGiven (row_of p.row).shape words) (some_same next there (sym longer_placed ∙ e)) given;
    canonical = λ there e. subst (λ (p : Place). AreCanonical (row_of p.row).value_kind words) (some_same next there (sym longer_placed ∙ e)) canonical;
  }

  target_further : (found : Target) → IsTargetBelow (path ++ step ∷ []) found → IsTargetBelow path found
  target_further found t = record {
    rest = step ∷ t.rest;
    steps = omega arith;
    below = t.below ∙ append_assoc path (step ∷ []) t.rest;
    typed = t.typed;
    given = t.given;
    canonical = t.canonical;
  }

-- answers that are some of these
abbrev found_of : Target → Result Target WordsFault
found_of found = Ok found

abbrev fault_answer : WordsFault → Result Target WordsFault
fault_answer fault = Err fault

ok_same : (a b : Target) → found_of a ≡ found_of b → a ≡ b
ok_same a b e = cc

ok_err : (a : Target) (f : WordsFault) → fault_answer f ≡ found_of a → ⊥
ok_err a f e = cc

target_of : (path : List Step) (here : Place) (words : List (List ℕ)) (answer : Result Target WordsFault) → Reads path here words answer
    → (found : Target) → answer ≡ Ok found → IsTypedPath path → place_of path ≡ Some here → IsTargetBelow path found
target_of _ _ _ _ (no_words path here) found e typed placed = absurd (ok_err found _ e)
target_of _ _ _ _ (refused path here words reason step some front) found e typed placed = absurd (ok_err found _ e)
target_of _ _ _ _ (whole path here words values step some front) found e typed placed =
    let g = front_gives here words step values front
    in subst (λ (t : Target). IsTargetBelow path t) (ok_same _ found e) (target_here path here typed placed step g.next g.leads values g.given g.canonical)
target_of _ _ _ _ (ended path here next words step used some front few) found e typed placed =
    let l = front_leads here words step next used front
    in subst (λ (t : Target). IsTargetBelow path t) (ok_same _ found e) (target_here path here typed placed step next l [] (none_given (row_of next.row).shape) (no_canonical (row_of next.row).value_kind))
target_of _ _ _ _ (goes_on path here next words step used answer some front more rest) found e typed placed =
    let l = front_leads here words step next used front
    in target_further path here typed placed step next l found
    (target_of (path ++ step ∷ []) next (drop used words) answer rest found e (longer_typed path here typed placed step next l) (longer_placed path here typed placed step next l))

-- what words name below a level is a statement that a typed map may have, with words of its kind
pub resolved_target : (level : List Step) (words : List (List ℕ)) (found : Target) → IsLevelPath level → ResolvesTo level words (Ok found) → IsTargetBelow level found
resolved_target level words found is_level r =
    let there = typed_place level top_place is_level.typed
    in target_of level there.0 words (Ok found) (r there.0 there.1) found refl is_level.typed there.1

-- the same of what is read from a level on
pub reading_target : (level steps path : List Step) (here : Place) (words : List (List ℕ)) (answer : Result Target WordsFault) → IsTypedPath level
    → steps ≡ level → Some here ≡ place_of steps → path ≡ level → IsReadingOf path here words answer → IfOk answer (λ found. IsTargetBelow level found)
reading_target level steps path here words (Ok found) typed e placed f r =
    target_of level here words (Ok found) (subst (λ (p : List Step). Reads p here words (Ok found)) f r) found refl typed
    (ap (λ (p : List Step). place_of p) (sym e) ∙ sym placed)
reading_target level steps path here words (Err fault) typed e placed f r = tt

-- where a level that words enter leads to
pub level_entered : (path longer : List Step) (here : Place) (words : List (List ℕ)) (front : Front) (step : Step) (next : Place) (used : ℕ)
    → place_of path ≡ Some here → IsFront here words front → front ≡ Level step next used → longer ≡ path ++ step ∷ [] → place_of longer ≡ Some next
level_entered path longer here words front step next used placed h e f =
    let l = front_leads here words step next used (subst (λ (x : Front). IsFront here words x) e h)
    in ap (λ (p : List Step). place_of p) f
    ∙ place_snoc path step top_place
    ∙ ap (and_then (λ (p : Place). place_after p step)) placed
    ∙ l.place

-- what stands below a level that is the top
pub below_top : (level : List Step) (answer : Result Target WordsFault) → level ≡ [] → IfOk answer (λ found. IsTargetBelow level found)
    → IfOk answer (λ found. IsTargetBelow [] found)
below_top level answer e h = subst (λ (l : List Step). IfOk answer (λ found. IsTargetBelow l found)) e h
