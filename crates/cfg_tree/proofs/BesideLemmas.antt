-- A path and another name beside it: neither is below the other, and both have the same place, head and parent.
use Rattle.std.proofs.Common.{◌≡◌, ◌≢◌, ℕ, ◌+◌, ◌<◌, Bool, true, false, List, [], ◌∷◌, ◌++◌, length, length-append, append-nil, append_assoc, refl, sym, ap, subst, ◌∙◌, Option, Some, None, is_some, arith}
use Rattle.std.specs.FinMap as map
use Rattle.std.specs.Ordering.{eq_by_cmp}
use Rattle.cfg_base.specs.Order.{step_cmp}
use Rattle.cfg_base.specs.declared.path.Step.{Step}
use Rattle.cfg_base.specs.declared.value.Value.{Value}
use Rattle.cfg_schema.specs.declared.place.Place.{Place}
use Rattle.cfg_schema.specs.Keyword.{spelled}
use Rattle.cfg_schema.specs.Profile.{profile, line_at, level_of, same_word}
use Rattle.cfg_schema.specs.Place.{top_place, entered, place_after, and_then, place_from, place_of}
use Rattle.cfg_schema.proofs.LevelLemmas.{led_to, head_is}
use Rattle.cfg_schema.proofs.TestLemmas.{both, both_true}
use Rattle.cfg_tree.specs.Statements.{Statements, parent_of, last_of, is_below, HasParent}
use Rattle.cfg_tree.specs.Typed.{FollowsFrom, IsTypedPath}
use Rattle.cfg_tree.specs.Tree.{ordered_head, IsStatementMap}
use Rattle.cfg_tree.specs.Change.{has_head, is_ordered}
use Rattle.cfg_tree.specs.Moving.{IsNewName}
use Rattle.cfg_tree.proofs.MapLemmas.{same_step}
use Rattle.cfg_tree.proofs.PathLemmas.{split, same_ends, child_longer}
use Rattle.cfg_tree.proofs.TypedLemmas.{place_snoc}
use Rattle.cfg_tree.proofs.FollowLemmas.{follows_behind, typed_place, typed_front, typed_last}
use Rattle.cfg_tree.proofs.ReadyLemmas.{no_child}

-- what begins with a path as long begins with that path
same_front : (p q rest : List Step) → length p ≡ length q → is_below p (q ++ rest) ≡ true → p ≡ q
same_front [] [] rest e h = refl
same_front [] (y ∷ q) rest e h = absurd (omega (arith, e))
same_front (x ∷ p) [] rest e h = absurd (omega (arith, e))
same_front (x ∷ p) (y ∷ q) rest e h =
    let parts = both (eq_by_cmp step_cmp x y) _ h
    in ap (λ (s : Step). s ∷ p) ((same_step x y).0 parts.0) ∙ ap (λ (ss : List Step). y ∷ ss) (same_front p q rest (omega (arith, e)) parts.1)

apart_by : (p q rest : List Step) → length p ≡ length q → p ≢ q → is_below p (q ++ rest) ≡ false
apart_by p q rest e differs = by_test _ refl
  where
    by_test : (b : Bool) → is_below p (q ++ rest) ≡ b → b ≡ false
    by_test true h = absurd (differs (same_front p q rest e h))
    by_test false h = refl

-- the place after a path
place_append : (p rest : List Step) (start : Place) → place_from (p ++ rest) start ≡ and_then (place_from rest) (place_from p start)
place_append [] rest start = refl
place_append (s ∷ p) rest start = go (place_after start s) (λ next. place_append p rest next)
  where
    go : (o : Option Place) → ((next : Place) → place_from (p ++ rest) next ≡ and_then (place_from rest) (place_from p next))
        → and_then (place_from (p ++ rest)) o ≡ and_then (place_from rest) (and_then (place_from p) o)
    go None each = refl
    go (Some next) each = each next

some_same : {A : Type 0} (x y : A) → Some x ≡ Some y → x ≡ y
some_same x y e = cc

follows_join : (p rest : List Step) (start here : Place) → FollowsFrom p start → place_from p start ≡ Some here → FollowsFrom rest here → FollowsFrom (p ++ rest) start
follows_join [] rest start here f e g = subst (λ (h : Place). FollowsFrom rest h) (sym (some_same start here e)) g
follows_join (s ∷ p) rest start here f e g =
    (f.0, f.1, f.2, follows_join p rest f.0 here f.3 (ap (and_then (place_from p)) (sym f.1) ∙ e) g)

-- the parent of what stands after a path
pub parent_behind : (p rest : List Step) → 0 < length rest → parent_of (p ++ rest) ≡ p ++ parent_of rest
parent_behind p rest long =
    (same_ends (parent_of (p ++ rest)) (p ++ parent_of rest) (last_of (p ++ rest)) (last_of rest)
    (sym (split (p ++ rest) (omega (arith, length-append p rest, long)))
    ∙ ap (λ (r : List Step). p ++ r) (split rest long)
    ∙ sym (append_assoc p (parent_of rest) (last_of rest ∷ [])))).0

nothing : (o : Option Value) → is_some o ≡ is_some {T = Value} None → o ≡ None
nothing None e = refl
nothing (Some v) e = cc

-- nothing stands below a path that isn't there
pub none_behind : (m : Statements) (path rest : List Step) → IsStatementMap m → 0 < length path → map.get m path ≡ None → map.get m (path ++ rest) ≡ None
none_behind m path [] statements long none = ap (map.get m) (append-nil path) ∙ none
none_behind m path (s ∷ rest) statements long none =
    ap (map.get m) (sym (append_assoc path (s ∷ []) rest))
    ∙ none_behind m (path ++ s ∷ []) rest statements (omega (arith, child_longer path s)) (nothing _ (no_child m path s statements long none))

has_head_by : (o : Option (List ℕ)) (s t : Step) → s.head ≡ t.head → has_head o s ≡ has_head o t
has_head_by None s t e = refl
has_head_by (Some head) s t e = ap (same_word head) e

heads_by : (here next : Place) (step : Step) → place_after here step ≡ Some next → spelled (line_at profile next.row).head ≡ step.head
heads_by here next step e =
    let led = led_to here next step e
    in head_is (level_of here.row here.in_group) step next.row led.stood.0 (both_true _ _ led.stood.1 led.words)

-- the place of a path by its parent and its last step
pub place_last : (path : List Step) (here next : Place) → 0 < length path → place_of (parent_of path) ≡ Some here
    → place_after here (last_of path) ≡ Some next → place_of path ≡ Some next
place_last path here next long e f =
    ap (λ (p : List Step). place_of p) (split path long) ∙ place_snoc (parent_of path) (last_of path) top_place
    ∙ ap (and_then (λ (h : Place). place_after h (last_of path))) e ∙ f

-- two paths of one row below one parent have the same head
pub same_heads : (from to : List Step) → 0 < length from → 0 < length to → IsTypedPath from → IsTypedPath to → parent_of to ≡ parent_of from
    → place_of to ≡ place_of from → (last_of to).head ≡ (last_of from).head
same_heads from to long long_to typed typed_to beside row =
    let here = typed_place (parent_of from) top_place (typed_front from _ typed)
    in let here_to = ap (λ (p : List Step). place_of p) beside ∙ here.1
    in let led_from = typed_last from long typed here.0 here.1
    in let led_new = typed_last to long_to typed_to here.0 here_to
    in let same_next = some_same _ _ (sym (place_last to here.0 led_new.0 long_to here_to led_new.1) ∙ row
    ∙ place_last from here.0 led_from.0 long here.1 led_from.1)
    in sym (heads_by here.0 led_new.0 (last_of to) led_new.1)
    ∙ ap (λ (p : Place). spelled (line_at profile p.row).head) same_next
    ∙ heads_by here.0 led_from.0 (last_of from) led_from.1

-- and two paths of rows of one number below one parent have the same place
pub same_places : (from to : List Step) (here there : Place) → 0 < length from → 0 < length to → IsTypedPath from → IsTypedPath to
    → parent_of to ≡ parent_of from → place_of from ≡ Some here → place_of to ≡ Some there → here.row ≡ there.row → place_of to ≡ place_of from
same_places from to here there long long_to typed typed_to beside at_from at_to rows =
    let above = typed_place (parent_of from) top_place (typed_front from _ typed)
    in let above_to = ap (λ (p : List Step). place_of p) beside ∙ above.1
    in let one = typed_last from long typed above.0 above.1
    in let two = typed_last to long_to typed_to above.0 above_to
    in let one_is = some_same _ _ (sym at_from ∙ place_last from above.0 one.0 long above.1 one.1)
    in let two_is = some_same _ _ (sym at_to ∙ place_last to above.0 two.0 long_to above_to two.1)
    in at_to
    ∙ ap (λ (p : Place). Some p)
    (two_is ∙ (led_to above.0 two.0 (last_of to) two.1).is_entered
    ∙ ap (entered above.0) (sym (ap (λ (p : Place). p.row) two_is) ∙ sym rows ∙ ap (λ (p : Place). p.row) one_is)
    ∙ sym (led_to above.0 one.0 (last_of from) one.1).is_entered ∙ sym one_is)
    ∙ sym at_from

module _ (m : Statements) (from to : List Step) (statements : IsStatementMap m) (new : IsNewName m from to) where
  pub from_parent : HasParent m from
  from_parent = statements.parents from new.there

  pub lengths : length to ≡ length from
  lengths =
      let one = ap (λ (p : List Step). length p) (split from from_parent.steps)
      in let two = ap (λ (p : List Step). length p) (split to new.steps)
      in two ∙ child_longer (parent_of to) (last_of to) ∙ ap (λ (p : List Step). length p + 1) new.beside
      ∙ sym (child_longer (parent_of from) (last_of from)) ∙ sym one

  pub differ_there : from ≢ to
  differ_there e = let there = new.there in let none = ap is_some (ap (map.get m) e ∙ new.none) in cc

  pub to_apart : (rest : List Step) → is_below from (to ++ rest) ≡ false
  to_apart rest = apart_by from to rest (sym lengths) differ_there

  pub from_apart : (rest : List Step) → is_below to (from ++ rest) ≡ false
  from_apart rest = apart_by to from rest lengths (λ e. differ_there (sym e))

  pub none_new : (rest : List Step) → map.get m (to ++ rest) ≡ None
  none_new rest = none_behind m to rest statements new.steps new.none

  pub same_place : (rest : List Step) → place_of (to ++ rest) ≡ place_of (from ++ rest)
  same_place rest = place_append to rest top_place ∙ ap (and_then (place_from rest)) new.row ∙ sym (place_append from rest top_place)

  -- a path that is typed below the old name is so below the new one
  pub typed_new : (rest : List Step) → IsTypedPath (from ++ rest) → IsTypedPath (to ++ rest)
  typed_new rest typed =
      let here = typed_place to top_place new.typed
      in follows_join to rest top_place here.0 new.typed here.1
      (follows_behind from rest top_place here.0 typed (sym new.row ∙ here.1))

  pub heads : IsTypedPath from → (last_of to).head ≡ (last_of from).head
  heads typed = same_heads from to from_parent.steps new.steps typed new.typed new.beside new.row

  pub ordered_alike : IsTypedPath from → is_ordered to ≡ is_ordered from
  ordered_alike typed =
      ap (λ (p : List Step). has_head (ordered_head (place_of p)) (last_of to)) new.beside
      ∙ has_head_by (ordered_head (place_of (parent_of from))) (last_of to) (last_of from) (heads typed)
