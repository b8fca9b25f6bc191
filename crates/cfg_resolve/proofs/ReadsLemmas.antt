-- Each exit of the reader is one rule of what words say.
use Rattle.std.proofs.Common.{◌≡◌, ℕ, zero, suc, ◌<◌, ◌≤◌, ◌==◌, Bool, true, false, List, [], ◌∷◌, ◌++◌, length, drop, sym, ap, subst, ◌∙◌, Ok, Err, Result, MatchBool, eqb-true, inl, inr, arith, length-drop}
use Rattle.cfg_base.specs.declared.path.Step.{Step}
use Rattle.cfg_base.specs.declared.kind.Kind.{Kind}
use Rattle.cfg_base.specs.declared.kind.Shape.{Shape}
use Rattle.cfg_base.specs.declared.kind.Shape.TheVariants.{Container, Fixed, Keyed, Bare, Leaf, Flag, Many}
use Rattle.cfg_schema.specs.declared.place.Place.{Place}
use Rattle.cfg_schema.specs.declared.answer.Child.{Child}
use Rattle.cfg_schema.specs.declared.answer.Child.TheVariants as begun
use Rattle.cfg_schema.specs.Profile.{row_of}
use Rattle.cfg_schema.specs.Child.{child_of}
use Rattle.cfg_resolve.specs.declared.front.Front.{Front}
use Rattle.cfg_resolve.specs.declared.front.Front.TheVariants.{Level, Statement, Refused}
use Rattle.cfg_resolve.specs.declared.front.Why.{Why}
use Rattle.cfg_resolve.specs.declared.front.Why.TheVariants as why
use Rattle.cfg_tree.specs.Tree.{step_of}
use Rattle.cfg_resolve.specs.declared.target.Target.{Target}
use Rattle.cfg_resolve.specs.declared.target.WordsFault.{WordsFault}
use Rattle.cfg_resolve.specs.declared.target.WordsFault.TheVariants.{Unknown, BadValue, Incomplete, Extra, NoMemory}
use Rattle.cfg_resolve.specs.Resolve.{first_of, IsNamedLevel, IsLeafWord, IsStatement, IsBegun, IsFront, IsReadingOf, Reads, no_words, whole, ended, goes_on, fault_of, target}
use Rattle.cfg_resolve.specs.Resolve as says

of_reads : (path : List Step) (here : Place) (words : List (List ℕ)) (answer : Result Target WordsFault) → Reads path here words answer → IsReadingOf path here words answer
of_reads path here words (Ok found) r = r
of_reads path here words (Err (Unknown at)) r = r
of_reads path here words (Err (BadValue at)) r = r
of_reads path here words (Err (Incomplete at)) r = r
of_reads path here words (Err (Extra at)) r = r
of_reads path here words (Err NoMemory) r = tt

-- without words
pub reading_none : (path : List Step) (here : Place) (words : List (List ℕ)) → true ≡ (length words == 0) → IsReadingOf path here words (Err (Incomplete path))
reading_none path here [] e = no_words path here
reading_none path here (x ∷ words) e = let z = eqb-true (length (x ∷ words)) 0 (sym e) in absurd (omega (arith, z))

some_words : (n : ℕ) → false ≡ (n == 0) → 0 < n
some_words zero e = cc
some_words (suc n) e = omega arith

module _ (path : List Step) (here : Place) (words : List (List ℕ)) (front : Front) (some : false ≡ (length words == 0)) (is_front : IsFront here words front) where
  pub reading_refused : (reason : Why) (step : Step) (longer : List Step) (fault : WordsFault) → front ≡ Refused reason step → longer ≡ path ++ step ∷ []
      → fault ≡ fault_of reason longer → IsReadingOf path here words (Err fault)
  reading_refused reason step longer fault e f g =
      subst (λ (x : WordsFault). IsReadingOf path here words (Err x)) (sym (g ∙ ap (λ (p : List Step). fault_of reason p) f))
      (of_reads path here words _ (says.refused path here words reason step (some_words _ some) (subst (λ (x : Front). IsFront here words x) e is_front)))

  pub reading_whole : (step : Step) (values : List (List ℕ)) (longer : List Step) → front ≡ Statement step values → longer ≡ path ++ step ∷ []
      → IsReadingOf path here words (Ok (target longer values))
  reading_whole step values longer e f =
      subst (λ (p : List Step). IsReadingOf path here words (Ok (target p values))) (sym f)
      (whole path here words values step (some_words _ some) (subst (λ (x : Front). IsFront here words x) e is_front))

  pub reading_ended : (step : Step) (next : Place) (used : ℕ) (longer : List Step) (none : List (List ℕ)) → front ≡ Level step next used → longer ≡ path ++ step ∷ []
      → length words ≤ used → none ≡ [] → IsReadingOf path here words (Ok (target longer none))
  reading_ended step next used longer none e f few g =
      subst (λ (ws : List (List ℕ)). IsReadingOf path here words (Ok (target longer ws))) (sym g)
      (subst (λ (p : List Step). IsReadingOf path here words (Ok (target p []))) (sym f)
      (ended path here next words step used (some_words _ some) (subst (λ (x : Front). IsFront here words x) e is_front) few))

  on : (step : Step) (next : Place) (used : ℕ) → IsFront here words (Level step next used) → used < length words → (answer : Result Target WordsFault)
      → IsReadingOf (path ++ step ∷ []) next (drop used words) answer → IsReadingOf path here words answer
  on step next used f more (Ok found) r = goes_on path here next words step used _ (some_words _ some) f more r
  on step next used f more (Err (Unknown at)) r = goes_on path here next words step used _ (some_words _ some) f more r
  on step next used f more (Err (BadValue at)) r = goes_on path here next words step used _ (some_words _ some) f more r
  on step next used f more (Err (Incomplete at)) r = goes_on path here next words step used _ (some_words _ some) f more r
  on step next used f more (Err (Extra at)) r = goes_on path here next words step used _ (some_words _ some) f more r
  on step next used f more (Err NoMemory) r = tt

  pub reading_on : (step : Step) (next : Place) (used : ℕ) (longer : List Step) (rest : List (List ℕ)) (answer : Result Target WordsFault)
      → front ≡ Level step next used → longer ≡ path ++ step ∷ [] → used < length words → rest ≡ drop used words
      → IsReadingOf longer next rest answer → IsReadingOf path here words answer
  reading_on step next used longer rest answer e f more g r =
      on step next used (subst (λ (x : Front). IsFront here words x) e is_front) more answer
      (subst (λ (p : List Step). IsReadingOf p next (drop used words) answer) f
      (subst (λ (ws : List (List ℕ)). IsReadingOf longer next ws answer) g r))

level_used : (s t : Step) (p q : Place) (m n : ℕ) → Level s p m ≡ Level t q n → m ≡ n
level_used s t p q m n e = cc

match_absurd : (c : Bool) (P Q : Type 0) → (P → ⊥) → (Q → ⊥) → MatchBool c P Q → ⊥
match_absurd true P Q f g h = f h
match_absurd false P Q f g h = g h

not_statement : (s : Step) (p : Place) (n : ℕ) (t : Step) (ws : List (List ℕ)) → Level s p n ≡ Statement t ws → ⊥
not_statement s p n t ws e = cc

not_refused : (s : Step) (p : Place) (n : ℕ) (w : Why) (t : Step) → Level s p n ≡ Refused w t → ⊥
not_refused s p n w t e = cc

keyed_uses : (here : Place) (id : ℕ) (a : Kind) (word bytes : List ℕ) (step : Step) (next : Place) (used : ℕ) (c : Bool)
    → MatchBool c (Level step next used ≡ Refused why.Incomplete (step_of word [])) (IsNamedLevel here id a word bytes 2 (Level step next used)) → 0 < used
keyed_uses here id a word bytes step next used true h = absurd (not_refused step next used _ _ h)
keyed_uses here id a word bytes step next used false (inl h) = let e = level_used _ _ _ _ _ _ h.entered_is in omega (arith, e)
keyed_uses here id a word bytes step next used false (inr h) = absurd (not_refused step next used _ _ h.refused)

no_leaf : (b : Kind) (t : Step) (bytes : List ℕ) (count : ℕ) (step : Step) (next : Place) (used : ℕ) → IsLeafWord b t bytes count (Level step next used) → ⊥
no_leaf b t bytes count step next used (inl h) =
    match_absurd _ _ _ (not_statement step next used _ _) (not_refused step next used _ _) h.only
no_leaf b t bytes count step next used (inr h) = not_refused step next used _ _ h.refused

statement_uses : (here : Place) (id : ℕ) (a b : Kind) (shape : Shape) (word : List ℕ) (rest : List (List ℕ)) (step : Step) (next : Place) (used : ℕ)
    → IsStatement here id a b shape word rest (Level step next used) → 0 < used
statement_uses here id a b Container word rest step next used h = let e = level_used _ _ _ _ _ _ h in omega (arith, e)
statement_uses here id a b Fixed word rest step next used h = let e = level_used _ _ _ _ _ _ h in omega (arith, e)
statement_uses here id a b Bare word rest step next used (inl h) = let e = level_used _ _ _ _ _ _ h.entered_is in omega (arith, e)
statement_uses here id a b Bare word rest step next used (inr h) = let e = h.refused in cc
statement_uses here id a b Keyed word rest step next used h = keyed_uses here id a word (first_of rest) step next used _ h
statement_uses here id a b Flag word rest step next used h =
    absurd (match_absurd _ _ _ (not_statement step next used _ _) (not_refused step next used _ _) h)
statement_uses here id a b Leaf word rest step next used h =
    absurd (match_absurd _ _ _ (not_statement step next used _ _) (no_leaf b _ (first_of rest) (length rest) step next used) h)
statement_uses here id a b Many word rest step next used (inl h) = absurd (not_statement step next used _ _ h.whole)
statement_uses here id a b Many word rest step next used (inr h) = absurd (not_refused step next used _ _ h.refused)

begun_uses : (here : Place) (child : Child) (word : List ℕ) (rest : List (List ℕ)) (step : Step) (next : Place) (used : ℕ)
    → IsBegun here child word rest (Level step next used) → 0 < used
begun_uses here begun.Unknown word rest step next used h = cc
begun_uses here (begun.BadName id) word rest step next used h =
    absurd (match_absurd _ _ _ (not_refused step next used _ _) (not_refused step next used _ _) h)
begun_uses here (begun.Row id) word rest step next used h = statement_uses here id _ _ (row_of id).shape word rest step next used h

-- a level takes a word
pub front_uses : (here : Place) (words : List (List ℕ)) (front : Front) (step : Step) (next : Place) (used : ℕ) → IsFront here words front → front ≡ Level step next used → 0 < used
front_uses here words front step next used h e = begun_uses here (child_of here.row here.in_group (first_of words) (first_of (drop 1 words))) (first_of words) (drop 1 words) step next used (subst (λ (x : Front). IsFront here words x) e h)

-- so fewer words are left
pub fewer_words : (here : Place) (words : List (List ℕ)) (front : Front) (step : Step) (next : Place) (used : ℕ) (rest : List (List ℕ))
    → IsFront here words front → front ≡ Level step next used → used < length words → rest ≡ drop used words → length rest < length words
fewer_words here words front step next used rest h e more f =
    let some = front_uses here words front step next used h e
    in omega (arith, some, more, ap (λ (ws : List (List ℕ)). length ws) f, length-drop used words)
