-- What is a configuration, and of the first profile, was one before.
use Rattle.std.proofs.Common.{◌≡◌, ◌≢◌, ◌<◌, ℕ, true, List, [], ◌∷◌, ◌++◌, Option, Some, None, is_some, refl, sym, ap, subst, ◌∙◌, arith, append_assoc}
use Rattle.std.specs.FinMap as finite
use Rattle.cfg_base.specs.declared.kind.Shape.{Shape}
use Rattle.cfg_base.specs.declared.kind.Shape.TheVariants.{Container, Fixed, Keyed, Bare, Leaf, Flag, Many}
use Rattle.cfg_base.specs.declared.path.Step.{Step}
use Rattle.cfg_base.specs.declared.value.Value.{Value}
use Rattle.cfg_schema.specs.declared.place.Place.{Place}
use Rattle.cfg_schema.specs.declared.rows.Row.{Row}
use Rattle.cfg_schema.specs.Profile.{row_of}
use Rattle.cfg_schema.specs.Place.{and_then, place_after, place_of, top_place}
use Rattle.cfg_tree.specs.declared.first_profile.TheConstants.{FIRST_ROWS}
use Rattle.cfg_tree.specs.FirstProfile.{IsFirstProfile}
use Rattle.cfg_tree.specs.Statements.{Statements}
use Rattle.cfg_tree.specs.Tree.{IsOrderBy, IsTree, ordered_head}
use Rattle.cfg_tree.specs.Typed.{AreCanonical, AreCounted, FollowsFrom, IsName, IsNamed}
use Rattle.cfg_tree.proofs.TypedLemmas.{place_snoc}
use Rattle.group_expand.proofs.DepthLemmas.{above_there}
use Rattle.profile_laws.specs.Before.{was_ordered_head, was_place_from, was_place_of, was_row}
use Rattle.profile_laws.specs.Was.{FollowedFrom, WasNamed, WasTree}
use Rattle.profile_laws.proofs.TableLemmas.{lead_back, no_head_before, same_order, same_row}
use Rattle.profile_laws.proofs.TypedLemmas.{Led}
use Rattle.profile_laws.proofs.ExpansionLemmas.{led_on}

some_same : {A : Type 0} (x y : A) → Some x ≡ Some y → x ≡ y
some_same x y k = cc

named_back : (here next : Place) (name : List ℕ) → here.row < FIRST_ROWS → next.row < FIRST_ROWS → IsNamed here next.row (row_of next.row).shape name → WasNamed here next.row (was_row next.row).shape name
named_back here next name h small is = subst (λ (s : Shape). WasNamed here next.row s name) (ap (λ (r : Row). r.shape) (sym same)) (by_shape (row_of next.row).shape is)
  where
    same : was_row next.row ≡ row_of next.row
    same = same_row next.row small

    kind : IsName here.in_group (row_of next.row).name_kind name → IsName here.in_group (was_row next.row).name_kind name
    kind named = subst (λ (r : Row). IsName here.in_group r.name_kind name) (sym same) named

    by_shape : (shape : Shape) → IsNamed here next.row shape name → WasNamed here next.row shape name
    by_shape Keyed named = kind named
    by_shape Bare named = (kind named.0, no_head_before here name h named.1)
    by_shape Container named = tt
    by_shape Fixed named = tt
    by_shape Leaf named = tt
    by_shape Flag named = tt
    by_shape Many named = tt

longer : (above : List Step) (s : Step) → above ++ s ∷ [] ≢ []
longer [] s e = cc
longer (x ∷ above) s e = cc

module _ (m : Statements) (tree : IsTree m) (first : IsFirstProfile m) where
  small_at : (path : List Step) (here : Place) → is_some (finite.get m path) ≡ true → place_of path ≡ Some here → here.row < FIRST_ROWS
  small_at path here there placed = by_value (finite.get m path) refl there
    where
      by_value : (o : Option Value) → finite.get m path ≡ o → is_some o ≡ true → here.row < FIRST_ROWS
      by_value None e some = cc
      by_value (Some value) e some = (first path value e here placed).0

  back : (above rest : List Step) (here : Place) → place_of above ≡ Some here → here.row < FIRST_ROWS → is_some (finite.get m (above ++ rest)) ≡ true → FollowsFrom rest here
      → FollowedFrom rest here × ((there : Place) × (was_place_from rest here ≡ Some there))
  back above [] here placed h there f = (tt, (here, refl))
  back above (step ∷ rest) here placed h there f =
      let on : place_of (above ++ step ∷ []) ≡ Some f.0 = place_snoc above step top_place ∙ ap (and_then (λ p. place_after p step)) placed ∙ f.1
      in let whole : is_some (finite.get m ((above ++ step ∷ []) ++ rest)) ≡ true = ap (λ (p : List Step). is_some (finite.get m p)) (append_assoc above (step ∷ []) rest) ∙ there
      in let small = small_at (above ++ step ∷ []) f.0 (above_there m tree (above ++ step ∷ []) rest (longer above step) whole) on
      in let was = lead_back here f.0 step h f.1 small
      in let more = back (above ++ step ∷ []) rest f.0 on small whole f.3
      in ((f.0, was, named_back here f.0 step.name h small f.2, more.0), (more.1.0, ap (and_then (was_place_from rest)) was ∙ more.1.1))

  led : (path : List Step) → is_some (finite.get m path) ≡ true → Led path top_place
  led path there =
      let found = back [] path top_place refl (omega arith) there (tree.typed.paths path there)
      in led_on path top_place found.1.0 (omega arith) found.1.1

  pub was_tree : WasTree m
  was_tree = record {
    top = tree.statements.top;
    parents = tree.statements.parents;
    orders = λ path value found.
        let l = led path (ap is_some found)
        in let same : ordered_head (place_of path) ≡ was_ordered_head (was_place_of path)
        = ap ordered_head l.is ∙ same_order l.here l.small ∙ ap was_ordered_head (sym l.was)
        in subst (λ (o : Option (List ℕ)). IsOrderBy m path o value.order) same (tree.statements.orders path value found);
    paths = λ path there. (back [] path top_place refl (omega arith) there (tree.typed.paths path there)).0;
    words = λ path value here found placed.
        let l = led path (ap is_some found)
        in let is : place_of path ≡ Some here = l.is ∙ sym l.was ∙ placed
        in let small : here.row < FIRST_ROWS = subst (λ (p : Place). p.row < FIRST_ROWS) (some_same _ _ (sym l.was ∙ placed)) l.small
        in let words = tree.typed.words path value here found is
        in record {
          counted = subst (λ (r : Row). AreCounted r.shape value.words) (sym (same_row here.row small)) words.0;
          permissions = (first path value found here is).1;
          others = λ other. subst (λ (r : Row). AreCanonical r.value_kind value.words) (sym (same_row here.row small)) words.1;
        };
    few = tree.few;
  }
