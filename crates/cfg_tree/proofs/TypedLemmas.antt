-- A path is typed where its parent is and its last step is.
use Rattle.std.proofs.Common.{zero, suc, get_or, take, ◌-◌, is_some, eqb-true, ◌==◌, arith, ◌≡◌, ℕ, ◌<◌, Bool, true, false, List, [], ◌∷◌, ◌++◌, length, refl, sym, ap, subst, ◌∙◌, Option, Some, None}
use Rattle.std.specs.Prelude.{IsSome}
use Rattle.cfg_base.specs.declared.path.Step.{Step}
use Rattle.cfg_base.specs.declared.value.Value.{Value}
use Rattle.cfg_base.specs.declared.kind.Shape.{Shape}
use Rattle.cfg_base.specs.declared.kind.Shape.TheVariants.{Container, Fixed, Keyed, Bare, Leaf, Flag, Many}
use Rattle.cfg_schema.specs.declared.place.Place.{Place}
use Rattle.cfg_schema.specs.declared.rows.Row.{Row}
use Rattle.cfg_schema.specs.Profile.{row_of}
use Rattle.cfg_schema.specs.Child.{IsNoHead}
use Rattle.cfg_schema.specs.Place.{top_place, place_after, and_then, place_from, place_of}
use Rattle.cfg_schema.specs.Place.{has_words}
use Rattle.cfg_schema.proofs.LevelLemmas.{led_to}
use Rattle.cfg_tree.specs.Statements.{parent_of, last_of, no_step}
use Rattle.cfg_tree.specs.Typed.{IsNamed, IsNameBy, FollowsFrom, IsTypedPath, IsRight, AreWordsOf}
use Rattle.cfg_tree.specs.Change.{FitsProfile, IsAlmostFit}
use Rattle.cfg_tree.proofs.PathLemmas.{split}

some_same : {A : Type 0} (x y : A) → Some x ≡ Some y → x ≡ y
some_same x y e = cc

-- the place of a path with one more step
pub place_snoc : (above : List Step) (step : Step) (here : Place)
    → place_from (above ++ step ∷ []) here ≡ and_then (λ h. place_after h step) (place_from above here)
place_snoc [] step here = one (place_after here step)
  where
    one : (o : Option Place) → and_then (place_from []) o ≡ o
    one None = refl
    one (Some next) = refl
place_snoc (s ∷ above) step here = go (place_after here s) (λ next. place_snoc above step next)
  where
    go : (o : Option Place) → ((next : Place) → place_from (above ++ step ∷ []) next ≡ and_then (λ h. place_after h step) (place_from above next))
        → and_then (place_from (above ++ step ∷ [])) o ≡ and_then (λ h. place_after h step) (and_then (place_from above) o)
    go None each = refl
    go (Some next) each = each next

-- what follows rows, and one step more
pub follows_snoc : (above : List Step) (step : Step) (start here next : Place) → FollowsFrom above start → place_from above start ≡ Some here
    → place_after here step ≡ Some next → IsNamed here next.row (row_of next.row).shape step.name → FollowsFrom (above ++ step ∷ []) start
follows_snoc [] step start here next f e g named =
    let same = some_same start here e
    in (next, ap (λ (h : Place). place_after h step) same ∙ g, subst (λ (h : Place). IsNamed h next.row (row_of next.row).shape step.name) (sym same) named, tt)
follows_snoc (s ∷ above) step start here next f e g named =
    let along = ap (and_then (place_from above)) (sym f.1) ∙ e
    in (f.0, f.1, f.2, follows_snoc above step f.0 here next f.3 along g named)

pub follows_last : (above : List Step) (step : Step) (start here next : Place) → FollowsFrom (above ++ step ∷ []) start → place_from above start ≡ Some here
    → place_after here step ≡ Some next → IsNamed here next.row (row_of next.row).shape step.name
follows_last [] step start here next f e g =
    let same = some_same start here e
    in let next_is = some_same _ _ (sym f.1 ∙ ap (λ (h : Place). place_after h step) same ∙ g)
    in subst (λ (n : Place). IsNamed here n.row (row_of n.row).shape step.name) next_is
    (subst (λ (h : Place). IsNamed h f.0.row (row_of f.0.row).shape step.name) same f.2)
follows_last (s ∷ above) step start here next f e g =
    follows_last above step f.0 here next f.3 (ap (and_then (place_from above)) (sym f.1) ∙ e) g

named_by : (here : Place) (id : ℕ) (shape : Shape) (name : List ℕ) → IsNameBy here.in_group shape (row_of id).name_kind name
    → (shape ≡ Bare → IsNoHead here.row here.in_group name) → IsNamed here id shape name
named_by here id Keyed name n b = n
named_by here id Bare name n b = (n, b refl)
named_by here id Container name n b = tt
named_by here id Fixed name n b = tt
named_by here id Leaf name n b = tt
named_by here id Flag name n b = tt
named_by here id Many name n b = tt

name_of_named : (here : Place) (id : ℕ) (shape : Shape) (name : List ℕ) → IsNamed here id shape name → IsNameBy here.in_group shape (row_of id).name_kind name
name_of_named here id Keyed name n = n
name_of_named here id Bare name n = n.0
name_of_named here id Container name n = tt
name_of_named here id Fixed name n = tt
name_of_named here id Leaf name n = tt
name_of_named here id Flag name n = tt
name_of_named here id Many name n = tt

empty : (xs : List ℕ) → (length xs == 0) ≡ true → xs ≡ []
empty [] h = refl
empty (x ∷ xs) h = let e = eqb-true (length (x ∷ xs)) 0 h in absurd (omega (arith, e))

headless : (shape : Shape) (head name : List ℕ) (step : Step) → has_words shape head name step ≡ true → shape ≡ Bare → step.head ≡ []
headless Bare head name step h e = empty step.head h
headless Container head name step h e = cc
headless Fixed head name step h e = cc
headless Keyed head name step h e = cc
headless Leaf head name step h e = cc
headless Flag head name step h e = cc
headless Many head name step h e = cc

-- a step that follows a bare row has no head
pub bare_step : (here next : Place) (step : Step) → place_after here step ≡ Some next → (row_of next.row).shape ≡ Bare → step.head ≡ []
bare_step here next step e bare = headless (row_of next.row).shape _ _ step (led_to here next step e).words bare

module _ (path : List Step) (value : Value) (almost : IsAlmostFit path value) where
  -- where the path leads, by its parent and its last step
  pub place_by : (here next : Place) → place_of (parent_of path) ≡ Some here → place_after here (last_of path) ≡ Some next → place_of path ≡ Some next
  place_by here next e f =
      ap (λ (p : List Step). place_of p) (split path almost.steps)
      ∙ place_snoc (parent_of path) (last_of path) top_place
      ∙ ap (and_then (λ (h : Place). place_after h (last_of path))) e
      ∙ f

  pub no_place : and_then (λ (h : Place). place_after h (last_of path)) (place_of (parent_of path)) ≡ None → place_of path ≡ None
  no_place e =
      ap (λ (p : List Step). place_of p) (split path almost.steps)
      ∙ place_snoc (parent_of path) (last_of path) top_place
      ∙ e

  bare_head : (here next : Place) → place_after here (last_of path) ≡ Some next → (row_of next.row).shape ≡ Bare → (last_of path).head ≡ []
  bare_head here next f bare = bare_step here next (last_of path) f bare

  -- the path and the value fit, where the name and the words are of the row's kinds
  pub right_fits : (here next : Place) → place_of (parent_of path) ≡ Some here → place_after here (last_of path) ≡ Some next
      → IsRight (row_of next.row) here.in_group (last_of path).name value.words → FitsProfile path value
  right_fits here next e f right = record {
    typed = subst (λ (p : List Step). IsTypedPath p) (sym (split path almost.steps))
        (follows_snoc (parent_of path) (last_of path) top_place here next almost.parent e f
        (named_by here next.row _ (last_of path).name right.0 (λ bare. almost.bare here e (bare_head here next f bare))));
    words = λ there placed.
        let same = some_same _ _ (sym (place_by here next e f) ∙ placed)
        in subst (λ (p : Place). AreWordsOf p.row value.words) same (almost.words next (place_by here next e f), right.1);
  }

  -- and only there
  pub fits_right : (here next : Place) → place_of (parent_of path) ≡ Some here → place_after here (last_of path) ≡ Some next
      → FitsProfile path value → IsRight (row_of next.row) here.in_group (last_of path).name value.words
  fits_right here next e f fit = (
    name_of_named here next.row _ (last_of path).name
        (follows_last (parent_of path) (last_of path) top_place here next
        (subst (λ (p : List Step). IsTypedPath p) (split path almost.steps) fit.typed) e f),
    (fit.words next (place_by here next e f)).1,
  )

any_default : (xs : List Step) (i : ℕ) (d e : Step) → i < length xs → get_or xs i d ≡ get_or xs i e
any_default [] i d e h = absurd (omega arith)
any_default (x ∷ xs) zero d e h = refl
any_default (x ∷ xs) (suc i) d e h = any_default xs i d e (omega arith)

-- the two parts of a path's steps are its parent and its last step
pub above_is : (steps path above : List Step) → steps ≡ path → above ≡ take (length steps - 1) steps → above ≡ parent_of path
above_is steps path above e f = f ∙ ap (λ (p : List Step). take (length p - 1) p) e

pub last_is : (steps path : List Step) (last : Step) → 0 < length path → steps ≡ path → last ≡ get_or steps (length steps - 1) last → last ≡ last_of path
last_is steps path last long e f =
    f ∙ ap (λ (p : List Step). get_or p (length p - 1) last) e ∙ any_default path (length path - 1) last no_step (omega arith)

module _ (path : List Step) (value : Value) (almost : IsAlmostFit path value) (above : List Step) (last : Step)
    (is_above : above ≡ parent_of path) (is_last : last ≡ last_of path) where
  pub unknown_path : and_then (λ h. place_after h last) (place_of above) ≡ None → place_of path ≡ None
  unknown_path e =
      no_place path value almost
      (sym (ap (λ (s : Step). and_then (λ (h : Place). place_after h s) (place_of (parent_of path))) is_last)
      ∙ sym (ap (λ (p : List Step). and_then (λ (h : Place). place_after h last) (place_of p)) is_above)
      ∙ e)

  module _ (here next : Place) (row : Row) (words : List (List ℕ)) (e : place_of above ≡ Some here) (f : place_after here last ≡ Some next)
      (is_row : row ≡ row_of next.row) (is_words : words ≡ value.words) where
    from_parent : place_of (parent_of path) ≡ Some here
    from_parent = sym (ap (λ (p : List Step). place_of p) is_above) ∙ e

    by_last : place_after here (last_of path) ≡ Some next
    by_last = sym (ap (λ (s : Step). place_after here s) is_last) ∙ f

    pub good_path : IsRight row here.in_group last.name words → FitsProfile path value
    good_path right =
        right_fits path value almost here next from_parent by_last
        (subst (λ (r : Row). IsRight r here.in_group (last_of path).name value.words) is_row
        (subst (λ (s : Step). IsRight row here.in_group s.name value.words) is_last
        (subst (λ (ws : List (List ℕ)). IsRight row here.in_group last.name ws) is_words right)))

    pub bad_path : ¬ (IsRight row here.in_group last.name words) → IsSome (place_of path) × ¬ (FitsProfile path value)
    bad_path wrong = (
      ap (λ (o : Option Place). is_some o) (place_by path value almost here next from_parent by_last),
      λ fit. wrong
          (subst (λ (ws : List (List ℕ)). IsRight row here.in_group last.name ws) (sym is_words)
          (subst (λ (s : Step). IsRight row here.in_group s.name value.words) (sym is_last)
          (subst (λ (r : Row). IsRight r here.in_group (last_of path).name value.words) (sym is_row)
          (fits_right path value almost here next from_parent by_last fit)))),
    )

pub not_both : (b : Bool) → b ≡ true → b ≡ false → ⊥
not_both true t f = cc
not_both false t f = cc
