-- What was a configuration is one still, and of the first profile.
use Rattle.std.proofs.Common.{◌≡◌, ◌<◌, ◌==◌, ℕ, zero, suc, Bool, true, false, List, [], ◌∷◌, Option, Some, is_some, refl, sym, ap, subst, ◌∙◌, arith, eqb-true, eq-eqb}
use Rattle.std.specs.Prelude.{Contains}
use Rattle.std.specs.List.{AllByRecursion}
use Rattle.std.specs.FinMap as finite
use Rattle.std.proofs.lemmas.List.Elements.{All-from_recursion}
use Rattle.cfg_base.specs.declared.kind.Choice.TheVariants.{Permission}
use Rattle.cfg_base.specs.declared.kind.Kind.TheVariants.{OneOf}
use Rattle.cfg_base.specs.declared.kind.Shape.{Shape}
use Rattle.cfg_base.specs.declared.kind.Shape.TheVariants.{Container, Fixed, Keyed, Bare, Leaf, Flag, Many}
use Rattle.cfg_base.specs.declared.path.Step.{Step}
use Rattle.cfg_schema.specs.declared.place.Place.{Place}
use Rattle.cfg_schema.specs.declared.rows.Row.{Row}
use Rattle.cfg_schema.specs.Profile.{profile, row_of}
use Rattle.cfg_schema.specs.Place.{and_then, place_after, place_from, place_of, top_place}
use Rattle.cfg_schema.proofs.LevelLemmas.{led_to}
use Rattle.cfg_values.specs.Choice.{words_of}
use Rattle.cfg_values.specs.Spelling.{IsCanonical}
use Rattle.cfg_tree.specs.declared.first_profile.TheConstants.{FIRST_ROWS, PERMISSIONS}
use Rattle.cfg_tree.specs.FirstProfile.{IsFirstProfile, first_permissions}
use Rattle.cfg_tree.specs.Statements.{Statements}
use Rattle.cfg_tree.specs.Tree.{IsOrderBy, IsTree, ordered_head}
use Rattle.cfg_tree.specs.Typed.{AreCanonical, AreCounted, AreWordsOf, FollowsFrom, IsName, IsNamed}
use Rattle.profile_laws.specs.Before.{was_ordered_head, was_place_from, was_place_of, was_row}
use Rattle.profile_laws.specs.Was.{FollowedFrom, WasNamed, WasTree, WereWords}
use Rattle.profile_laws.proofs.TableLemmas.{lead_on, no_new_head, same_order, same_row}

-- a path leads to one place by the rows of before and by those of now, and that is of a row of the first profile
pub record Led (path : List Step) (start : Place) : Type 0 where
  pub here : Place
  pub was : was_place_from path start ≡ Some here
  pub is : place_from path start ≡ Some here
  pub small : here.row < FIRST_ROWS

named_on : (here next : Place) (step : Step) → here.row < FIRST_ROWS → place_after here step ≡ Some next → next.row < FIRST_ROWS
    → WasNamed here next.row (was_row next.row).shape step.name → IsNamed here next.row (row_of next.row).shape step.name
named_on here next step h leads small was =
    subst (λ (s : Shape). IsNamed here next.row s step.name) (ap (λ (r : Row). r.shape) same)
    (by_shape (was_row next.row).shape (λ bare. ap (λ (r : Row). r.shape) (sym same) ∙ bare) was)
  where
    same : was_row next.row ≡ row_of next.row
    same = same_row next.row small

    kind : IsName here.in_group (was_row next.row).name_kind step.name → IsName here.in_group (row_of next.row).name_kind step.name
    kind named = subst (λ (r : Row). IsName here.in_group r.name_kind step.name) same named

    by_shape : (shape : Shape) → (shape ≡ Bare → (row_of next.row).shape ≡ Bare) → WasNamed here next.row shape step.name → IsNamed here next.row shape step.name
    by_shape Keyed bare named = kind named
    by_shape Bare bare named = (kind named.0, no_new_head here next.row step.name h (led_to here next step leads).stood (bare refl) named.1)
    by_shape Container bare named = tt
    by_shape Fixed bare named = tt
    by_shape Leaf bare named = tt
    by_shape Flag bare named = tt
    by_shape Many bare named = tt

pub followed : (path : List Step) (start : Place) → start.row < FIRST_ROWS → FollowedFrom path start → FollowsFrom path start × Led path start
followed [] start h f = (tt, record { here = start; was = refl; is = refl; small = h })
followed (step ∷ rest) start h f =
    let on = lead_on start f.0 step h f.1
    in let more = followed rest f.0 on.1 f.3
    in (
      (f.0, on.0, named_on start f.0 step h on.0 on.1 f.2, more.0),
      record {
        here = more.1.here;
        was = ap (and_then (was_place_from rest)) f.1 ∙ more.1.was;
        is = ap (and_then (place_from rest)) on.0 ∙ more.1.is;
        small = more.1.small;
      },
    )

-- the permissions of before are some of those of now
permitted : (word : List ℕ) → Contains first_permissions word → Contains (words_of Permission) word
permitted word (zero, within, is) = (0, omega arith, is)
permitted word (suc zero, within, is) = (1, omega arith, is)
permitted word (suc (suc zero), within, is) = (2, omega arith, is)
permitted word (suc (suc (suc zero)), within, is) = (11, omega arith, is)
permitted word (suc (suc (suc (suc zero))), within, is) = (12, omega arith, is)
permitted word (suc (suc (suc (suc (suc k)))), within, is) = absurd (omega (arith, within))

permissions_kind : (row_of PERMISSIONS).value_kind ≡ OneOf Permission
unfolding profile
permissions_kind = refl

permissions_are : (words : List (List ℕ)) → AllByRecursion (Contains first_permissions) words → AllByRecursion (IsCanonical (OneOf Permission)) words
permissions_are [] each = tt
permissions_are (word ∷ words) each =
    (record { value = word; spells = (permitted word each.0, refl); canonical_is = refl }, permissions_are words each.1)

words_are : (id : ℕ) (words : List (List ℕ)) → id < FIRST_ROWS → WereWords id words → AreWordsOf id words
words_are id words h were = (subst (λ (r : Row). AreCounted r.shape words) (same_row id h) were.counted, by_row (id == PERMISSIONS) refl)
  where
    by_row : (b : Bool) → (id == PERMISSIONS) ≡ b → AreCanonical (row_of id).value_kind words
    by_row true e =
        let is : id ≡ PERMISSIONS = eqb-true id PERMISSIONS e
        in subst (λ (n : ℕ). AreCanonical (row_of n).value_kind words) (sym is)
        (subst (λ k. AreCanonical k words) (sym permissions_kind) (All-from_recursion (IsCanonical (OneOf Permission)) words (permissions_are words (were.permissions is))))
    by_row false e =
        subst (λ (r : Row). AreCanonical r.value_kind words) (same_row id h)
        (were.others (λ is. let c : false ≡ true = sym e ∙ eq-eqb id PERMISSIONS is in cc))

some_same : {A : Type 0} (x y : A) → Some x ≡ Some y → x ≡ y
some_same x y k = cc

module _ (m : Statements) (was : WasTree m) where
  pub follows : (path : List Step) → is_some (finite.get m path) ≡ true → FollowsFrom path top_place × Led path top_place
  follows path there = followed path top_place (omega arith) (was.paths path there)

  pub is_tree : IsTree m
  is_tree = record {
    statements = record {
      top = was.top;
      parents = was.parents;
      orders = λ path value found.
          let led = (follows path (ap is_some found)).1
          in let same : was_ordered_head (was_place_of path) ≡ ordered_head (place_of path)
          = ap was_ordered_head led.was ∙ sym (same_order led.here led.small) ∙ ap ordered_head (sym led.is)
          in subst (λ (o : Option (List ℕ)). IsOrderBy m path o value.order) same (was.orders path value found);
    };
    typed = record {
      paths = λ path there. (follows path there).0;
      words = λ path value here found placed.
          let led = (follows path (ap is_some found)).1
          in subst (λ (p : Place). AreWordsOf p.row value.words) (some_same _ _ (sym led.is ∙ placed)) (words_are led.here.row value.words led.small (was.words path value led.here found led.was));
    };
    few = was.few;
  }

  pub is_first : IsFirstProfile m
  is_first path value found here placed =
      let led = (follows path (ap is_some found)).1
      in subst (λ (p : Place). (p.row < FIRST_ROWS) × (p.row ≡ PERMISSIONS → AllByRecursion (Contains first_permissions) value.words)) (some_same _ _ (sym led.is ∙ placed))
      (led.small, (was.words path value led.here found led.was).permissions)
