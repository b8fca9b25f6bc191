-- Each statement at the top is of a section, and begins with the first word of those that name it.
use Rattle.std.proofs.Common.{◌≡◌, inl, inr, ◌<◌, ℕ, Bool, true, false, not, List, [], ◌∷◌, ◌++◌, length, drop, refl, sym, ap, subst, ◌∙◌, append_assoc, is_some, Result, Ok, Err}
use Rattle.std.specs.Prelude.{◌||◌, ◌&&◌, ◌==◌, MatchBool}
use Rattle.std.specs.List.{list_all}
use Rattle.cfg_base.specs.declared.kind.Kind.{Kind}
use Rattle.cfg_base.specs.declared.kind.Shape.{Shape}
use Rattle.cfg_base.specs.declared.kind.Shape.TheVariants.{Container, Fixed, Keyed, Bare, Leaf, Flag, Many}
use Rattle.cfg_base.specs.declared.path.Step.{Step}
use Rattle.cfg_schema.specs.declared.answer.Child.{Child}
use Rattle.cfg_schema.specs.declared.answer.Child.TheVariants as begun
use Rattle.cfg_schema.specs.declared.place.Place.{Place}
use Rattle.cfg_schema.specs.declared.table.Line.{Line}
use Rattle.cfg_schema.specs.Keyword.{spelled}
use Rattle.cfg_schema.specs.Profile.{profile, line_at, no_line, stands, level_of, row_of, is_bare}
use Rattle.cfg_schema.specs.Child.{Begins, child_of}
use Rattle.cfg_schema.specs.Place.{top_place}
use Rattle.cfg_schema.proofs.ChildLemmas.{child_begins}
use Rattle.cfg_schema.proofs.LevelLemmas.{all_at, head_is, led_to}
use Rattle.cfg_schema.proofs.TestLemmas.{both_true, other_of, bare_is}
use Rattle.cfg_resolve.specs.declared.front.Front.{Front}
use Rattle.cfg_resolve.specs.declared.front.Front.TheVariants.{Level, Statement, Refused}
use Rattle.cfg_resolve.specs.declared.front.Why.TheVariants as why
use Rattle.cfg_resolve.specs.declared.target.Target.{Target}
use Rattle.cfg_resolve.specs.declared.target.WordsFault.{WordsFault}
use Rattle.cfg_resolve.specs.Resolve.{IsFront, IsBegun, IsStatement, IsNamedLevel, IsLeafWord, Reads, ResolvesTo, first_of, no_words, refused, whole, ended, goes_on}
use Rattle.cfg_tree.specs.Tree.{step_of}
use Rattle.cfg_tree.specs.Typed.{IsTypedPath}
use Rattle.access_rules.specs.Sections.{section_of}

-- a row at the top has a head, which is of a section
abbrev in_section : Line → Bool
in_section line = not (stands (level_of 0 false) line) || (is_some (section_of (spelled line.head)) && not (is_bare line.shape))

all_in_section : list_all in_section profile ≡ true
unfolding profile
all_in_section = refl

row_in_section : (id : ℕ) → id < length profile → stands (level_of 0 false) (line_at profile id) ≡ true
    → (is_some (section_of (spelled (line_at profile id).head)) ≡ true) × (is_bare (line_at profile id).shape ≡ false)
row_in_section id below stood =
    let k = other_of (not (stands (level_of 0 false) (line_at profile id))) _ (all_at in_section profile id no_line all_in_section below) (ap not stood)
    in parts _ _ k
  where
    parts : (a b : Bool) → (a && not b) ≡ true → (a ≡ true) × (b ≡ false)
    parts true false e = (refl, refl)
    parts true true e = cc
    parts false b e = cc

pub typed_section : (s : Step) (rest : List Step) → IsTypedPath (s ∷ rest) → is_some (section_of s.head) ≡ true
typed_section s rest typed =
    let led = led_to top_place typed.0 s typed.1
    in let head = head_is (level_of 0 false) s typed.0.row led.stood.0 (both_true _ _ led.stood.1 led.words)
    in sym (ap (λ (w : List ℕ). is_some (section_of w)) head) ∙ (row_in_section typed.0.row led.stood.0 led.stood.1).0

-- a step of a statement that words name begins with a word
abbrev BeginsWith : List ℕ → Front → Type 0
BeginsWith word (Level step next used) = step.head ≡ word
BeginsWith word (Statement step values) = step.head ≡ word
BeginsWith word (Refused reason step) = Unit {0}

match_one : (c : Bool) (P Q R : Type 0) → (P → R) → (Q → R) → MatchBool c P Q → R
match_one true P Q R f g h = f h
match_one false P Q R f g h = g h

is_it : (word : List ℕ) (front it : Front) → BeginsWith word it → front ≡ it → BeginsWith word front
is_it word front it h e = subst (BeginsWith word) (sym e) h

module _ (here : Place) (id : ℕ) (nk vk : Kind) (word : List ℕ) (rest : List (List ℕ)) (front : Front) where
  named_begins : IsNamedLevel here id nk word (first_of rest) 2 front → BeginsWith word front
  named_begins (inl l) = is_it word front (Level (step_of word l.name) _ 2) refl l.entered_is
  named_begins (inr l) = is_it word front (Refused why.BadValue _) tt l.refused

  leaf_begins : IsLeafWord vk (step_of word []) (first_of rest) (length rest) front → BeginsWith word front
  leaf_begins (inl l) =
      match_one (length rest == 1) (front ≡ Statement (step_of word []) (l.word ∷ [])) (front ≡ Refused why.Extra (step_of word [])) (BeginsWith word front)
      (is_it word front (Statement (step_of word []) (l.word ∷ [])) refl) (is_it word front (Refused why.Extra (step_of word [])) tt) l.only
  leaf_begins (inr l) = is_it word front (Refused why.BadValue (step_of word [])) tt l.refused

  statement_begins : (shape : Shape) → is_bare shape ≡ false → IsStatement here id nk vk shape word rest front → BeginsWith word front
  statement_begins Container e h = is_it word front (Level (step_of word []) _ 1) refl h
  statement_begins Fixed e h = is_it word front (Level (step_of word (first_of rest)) _ 2) refl h
  statement_begins Keyed e h =
      match_one (length rest == 0) (front ≡ Refused why.Incomplete (step_of word [])) (IsNamedLevel here id nk word (first_of rest) 2 front) (BeginsWith word front)
      (is_it word front (Refused why.Incomplete (step_of word [])) tt) named_begins h
  statement_begins Bare e h = cc
  statement_begins Flag e h =
      match_one (length rest == 0) (front ≡ Statement (step_of word []) []) (front ≡ Refused why.Extra (step_of word [])) (BeginsWith word front)
      (is_it word front (Statement (step_of word []) []) refl) (is_it word front (Refused why.Extra (step_of word [])) tt) h
  statement_begins Leaf e h =
      match_one (length rest == 0) (front ≡ Statement (step_of word []) []) (IsLeafWord vk (step_of word []) (first_of rest) (length rest) front) (BeginsWith word front)
      (is_it word front (Statement (step_of word []) []) refl) leaf_begins h
  statement_begins Many e (inl l) = is_it word front (Statement (step_of word []) l.words) refl l.whole
  statement_begins Many e (inr l) = is_it word front (Refused why.BadValue (step_of word [])) tt l.refused

begun_begins : (child : Child) (word : List ℕ) (rest : List (List ℕ)) (front : Front) → Begins 0 false word (first_of rest) child
    → IsBegun top_place child word rest front → BeginsWith word front
begun_begins begun.Unknown word rest front b h = is_it word front (Refused why.Unknown (step_of word [])) tt h
begun_begins (begun.BadName id) word rest front b h =
    match_one (length rest == 0) (front ≡ Refused why.Incomplete (step_of word [])) (front ≡ Refused why.BadValue (step_of word (first_of rest))) (BeginsWith word front)
    (is_it word front (Refused why.Incomplete (step_of word [])) tt) (is_it word front (Refused why.BadValue (step_of word (first_of rest))) tt) h
begun_begins (begun.Row id) word rest front b h =
    statement_begins top_place id (row_of id).name_kind (row_of id).value_kind word rest front (row_of id).shape (not_bare b) h
  where
    not_bare : Begins 0 false word (first_of rest) (begun.Row id) → is_bare (row_of id).shape ≡ false
    not_bare (inl l) = (row_in_section id l.0.0.0 l.0.0.1).1
    not_bare (inr l) = let e : is_bare (row_of id).shape ≡ true = bare_is (row_of id).shape l.2 in let f = (row_in_section id l.1.0 l.1.1).1 in cc

front_begins : (words : List (List ℕ)) (front : Front) → IsFront top_place words front → BeginsWith (first_of words) front
front_begins words front h =
    begun_begins (child_of 0 false (first_of words) (first_of (drop 1 words))) (first_of words) (drop 1 words) front
    (child_begins 0 false (first_of words) (first_of (drop 1 words))) h

abbrev found_of : Target → Result Target WordsFault
found_of found = Ok found

abbrev fault_answer : WordsFault → Result Target WordsFault
fault_answer fault = Err fault

ok_same : (a b : Target) → found_of a ≡ found_of b → a ≡ b
ok_same a b e = cc

ok_err : (a : Target) (f : WordsFault) → fault_answer f ≡ found_of a → ⊥
ok_err a f e = cc

-- what words name stands below the path from which they are read
read_below : (path : List Step) (here : Place) (words : List (List ℕ)) (answer : Result Target WordsFault) → Reads path here words answer
    → (found : Target) → answer ≡ Ok found → (rest : List Step) × (found.path ≡ path ++ rest)
read_below _ _ _ _ (no_words path here) found e = absurd (ok_err found _ e)
read_below _ _ _ _ (refused path here words reason step some front) found e = absurd (ok_err found _ e)
read_below _ _ _ _ (whole path here words values step some front) found e = (step ∷ [], sym (ap (λ (t : Target). t.path) (ok_same _ found e)))
read_below _ _ _ _ (ended path here next words step used some front few) found e = (step ∷ [], sym (ap (λ (t : Target). t.path) (ok_same _ found e)))
read_below _ _ _ _ (goes_on path here next words step used answer some front more rest) found e =
    let k = read_below (path ++ step ∷ []) next (drop used words) answer rest found e in (step ∷ k.0, k.1 ∙ append_assoc path (step ∷ []) k.0)

-- the first step of a path, and that it begins with a word
pub record StartsBy (word : List ℕ) (path : List Step) : Type 0 where
  pub first : Step
  pub rest : List Step
  pub is : path ≡ first ∷ rest
  pub head : first.head ≡ word

-- at the top the statement that words name begins with the first of them
starts_by : (path : List Step) (here : Place) (words : List (List ℕ)) (answer : Result Target WordsFault) → Reads path here words answer
    → (found : Target) → answer ≡ Ok found → path ≡ [] → here ≡ top_place → StartsBy (first_of words) found.path
starts_by _ _ _ _ (no_words path here) found e top at = absurd (ok_err found _ e)
starts_by _ _ _ _ (refused path here words reason step some front) found e top at = absurd (ok_err found _ e)
starts_by _ _ _ _ (whole path here words values step some front) found e top at =
    record {
      first = step;
      rest = [];
      is = sym (ap (λ (t : Target). t.path) (ok_same _ found e)) ∙ ap (λ (p : List Step). p ++ step ∷ []) top;
      head = front_begins words (Statement step values) (subst (λ (p : Place). IsFront p words (Statement step values)) at front);
    }
starts_by _ _ _ _ (ended path here next words step used some front few) found e top at =
    record {
      first = step;
      rest = [];
      is = sym (ap (λ (t : Target). t.path) (ok_same _ found e)) ∙ ap (λ (p : List Step). p ++ step ∷ []) top;
      head = front_begins words (Level step next used) (subst (λ (p : Place). IsFront p words (Level step next used)) at front);
    }
starts_by _ _ _ _ (goes_on path here next words step used answer some front more rest) found e top at =
    let k = read_below (path ++ step ∷ []) next (drop used words) answer rest found e
    in record {
      first = step;
      rest = k.0;
      is = k.1 ∙ ap (λ (p : List Step). (p ++ step ∷ []) ++ k.0) top;
      head = front_begins words (Level step next used) (subst (λ (p : Place). IsFront p words (Level step next used)) at front);
    }

pub named_starts : (words : List (List ℕ)) (found : Target) → ResolvesTo [] words (Ok found) → StartsBy (first_of words) found.path
named_starts words found r = starts_by [] top_place words (Ok found) (r top_place refl) found refl refl refl
