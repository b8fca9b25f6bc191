-- A walk over the runs of a level, and the names that are inherited there.
use Rattle.std.proofs.Common.{◌≡◌, ℕ, ◌<◌, Bool, true, false, cond, List, [], ◌∷◌, ◌++◌, ◌==◌, eqb-true, length, filter, map, Option, Some, None, refl, sym, ap, ◌∙◌, arith, append_assoc}
use Rattle.cfg_base.specs.Words.{lists}
use Rattle.cfg_base.specs.declared.path.Step.{Step}
use Rattle.cfg_tree.specs.Statements.{no_step}
use Rattle.group_expand.specs.Level.{Ranked, Level, is_at}
use Rattle.group_expand.specs.Runs.{first_step, steps_of, is_inherited, name_of, order_if, order_for}
use Rattle.group_expand.specs.Node.{Node}
use Rattle.group_expand.proofs.NodeLemmas.{append_nothing}
use Rattle.group_expand.proofs.StepsLemmas.{IsRunStep}

name_is : (head : List ℕ) (wild run : List Ranked) (s : Step) → 0 < length run → first_step run no_step ≡ s → name_of head wild run ≡ cond (is_inherited head s wild run) (s.name ∷ []) []
name_is head wild [] s some e = absurd (omega (arith, some))
name_is head wild (r ∷ rs) s some e = ap (λ (t : Step). cond (is_inherited head t wild (r ∷ rs)) (t.name ∷ []) []) e

pub name_none : (head : List ℕ) (wild run : List Ranked) (s : Step) (order : List (List ℕ)) → 0 < length run → s ≡ first_step run no_step → is_inherited head s wild run ≡ false
    → order ≡ order ++ name_of head wild run
name_none head wild run s order some first none =
    sym (append_nothing order)
    ∙ ap (λ (xs : List (List ℕ)). order ++ xs) (sym (name_is head wild run s some (sym first) ∙ ap (λ (b : Bool). cond b (s.name ∷ []) []) none))

module _ (head : List ℕ) (level : Level) where
  abbrev inherited_at : Step → Bool
  inherited_at s = is_inherited head s level.wild (filter (is_at s) level.plain)

  abbrev pub names_left : List Ranked → List (List ℕ)
  names_left left = map (λ s. s.name) (filter (λ s. is_inherited head s level.wild (filter (is_at s) level.plain)) (steps_of left))

  -- one run more
  pub names_more : (left run rest : List Ranked) (before now all : List (List ℕ)) → IsRunStep level.plain left run rest → before ++ names_left left ≡ all → now ≡ before ++ name_of head level.wild run
      → now ++ names_left rest ≡ all
  names_more left run rest before now all step e f =
      ap (λ (xs : List (List ℕ)). xs ++ names_left rest) (f ∙ ap (λ (xs : List (List ℕ)). before ++ xs) (name_is head level.wild run step.step step.some (step.first no_step)))
      ∙ append_assoc before (cond (is_inherited head step.step level.wild run) (step.step.name ∷ []) []) (names_left rest)
      ∙ ap (λ (r : List Ranked). before ++ (cond (is_inherited head step.step level.wild r) (step.step.name ∷ []) [] ++ names_left rest)) step.whole
      ∙ ap (λ (xs : List (List ℕ)). before ++ xs) (by_test (inherited_at step.step) refl)
      ∙ ap (λ (ss : List Step). before ++ map (λ s. s.name) (filter (λ s. is_inherited head s level.wild (filter (is_at s) level.plain)) ss)) (sym step.steps)
      ∙ e
    where
      by_test : (b : Bool) → inherited_at step.step ≡ b
          → cond b (step.step.name ∷ []) [] ++ names_left rest
          ≡ map (λ s. s.name) (cond b (step.step ∷ filter (λ s. is_inherited head s level.wild (filter (is_at s) level.plain)) (steps_of rest)) (filter (λ s. is_inherited head s level.wild (filter (is_at s) level.plain)) (steps_of rest)))
      by_test true e = refl
      by_test false e = refl

-- where nothing stands below a path, it has no order
none_listed : (names : List (List ℕ)) → filter (lists []) names ++ [] ≡ []
none_listed [] = refl
none_listed (name ∷ names) = none_listed names

pub nothing_ordered : (head : Option (List ℕ)) (own : Option Node) (wild : List Ranked) → order_for head own [] (record { plain = []; wild = wild }) ≡ []
nothing_ordered None own wild = refl
nothing_ordered (Some head) own wild = none_listed (order_if own)

empty : {X : Type 0} (xs : List X) → true ≡ (length xs == 0) → xs ≡ []
empty [] h = refl
empty (x ∷ xs) h = let e = eqb-true (length (x ∷ xs)) 0 (sym h) in absurd (omega (arith, e))

pub no_order : (head : Option (List ℕ)) (own : Option Node) (children : List Node) (level : Level) (order : List (List ℕ))
    → order ≡ [] → true ≡ (length children == 0) → true ≡ (length level.plain == 0) → order ≡ order_for head own children level
no_order head own children level order e f g =
    e
    ∙ sym (nothing_ordered head own level.wild)
    ∙ ap (λ (ns : List Node). order_for head own ns (record { plain = []; wild = level.wild })) (sym (empty children f))
    ∙ ap (λ (rs : List Ranked). order_for head own children (record { plain = rs; wild = level.wild })) (sym (empty level.plain g))
