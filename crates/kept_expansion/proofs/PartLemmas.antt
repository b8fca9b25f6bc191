-- The part of a configuration is a tree, and has what decides what stands at and below its paths.
use Rattle.std.proofs.Common.{◌≡◌, ℕ, zero, suc, ◌+◌, get_or, ◌<◌, ◌≤◌, Bool, true, false, not, cond, List, [], ◌∷◌, ◌++◌, length, filter, refl, sym, ap, subst, ◌∙◌, arith, Option, Some, None, is_some, inl, inr}
use Rattle.std.specs.Prelude.{◌&&◌, ◌||◌, IsSome}
use Rattle.std.specs.FinMap as finite
use Rattle.std.specs.FinMap.Entries.{find-where_key, is_sorted-where_key, same_entries}
use Rattle.std.specs.List.{list_any, AllByRecursion}
use Rattle.std.specs.Ordering.{is_eq, eq_by_cmp}
use Rattle.std.specs.Cmp.{tied_itself}
use Rattle.std.proofs.lemmas.List.{length-append, append-nil}
use Rattle.cfg_base.specs.Order.{word_cmp, words_total, step_cmp, path_cmp, paths_total}
use Rattle.cfg_base.specs.declared.path.Step.{Step}
use Rattle.cfg_base.specs.declared.value.Value.{Value}
use Rattle.cfg_schema.specs.Place.{place_of}
use Rattle.cfg_schema.proofs.TestLemmas.{both, both_true}
use Rattle.cfg_tree.specs.declared.limit.TheConstants.{MAX_STATEMENTS}
use Rattle.cfg_tree.specs.Statements.{Statements, size_of, parent_of, last_of, is_below, HasParent}
use Rattle.cfg_tree.specs.Tree.{IsTree, IsStatementMap, IsTyped, IsOrderBy, ordered_head, step_of}
use Rattle.cfg_tree.proofs.MapLemmas.{path_same, same_path, same_step}
use Rattle.cfg_tree.proofs.PathLemmas.{split}
use Rattle.cfg_tree.proofs.BelowLemmas.{below_first, below_more, below_self}
use Rattle.group_expand.specs.Sources.{groups_step, is_outside}
use Rattle.group_expand.specs.Runs.{is_apply_step}
use Rattle.group_expand.specs.Expansion.{is_apply}
use Rattle.group_expand.proofs.ApartLemmas.{nothing_below_apply, parent_is}
use Rattle.group_expand.proofs.NodeLemmas.{comparable}
use Rattle.group_expand.proofs.RowLemmas.{below_trans}
use Rattle.group_expand.proofs.StepLemmas.{last_is}
use Rattle.kept_expansion.specs.Roots.{IsRoot}
use Rattle.kept_expansion.specs.Changes.{is_reached}
use Rattle.kept_expansion.specs.Part.{applies_above, is_near, in_part, part_of}
use Rattle.kept_expansion.proofs.PickLemmas.{Picked, pick}

pub left_or : (a b : Bool) → a ≡ true → (a || b) ≡ true
left_or true b e = refl
left_or false b e = cc

pub right_or : (a b : Bool) → b ≡ true → (a || b) ≡ true
right_or true b e = refl
right_or false b e = e

either : {P : Type 0} (a b : Bool) → (a || b) ≡ true → (a ≡ true → P) → (b ≡ true → P) → P
either true b e f g = f refl
either false b e f g = g e

-- what a look-up in the part gives
pub get-part : (roots : List (List Step)) (m : Statements) (q : List Step) → finite.get (part_of roots m) q ≡ cond (in_part roots q) (finite.get m q) None
get-part roots m q = finite.get-retain_keys m (in_part roots) q (λ x same. ap (in_part roots) (sym ((same_path q x).0 (ap is_eq same))))

pub in_part_same : (roots : List (List Step)) (m : Statements) (q : List Step) → in_part roots q ≡ true → finite.get m q ≡ finite.get (part_of roots m) q
in_part_same roots m q e = sym (get-part roots m q ∙ ap (λ (b : Bool). cond b (finite.get m q) None) e)

-- its entries
pub entries-part : (roots : List (List Step)) (m : Statements) → finite.entries (part_of roots m) ≡ filter (λ e. in_part roots e.0) (finite.entries m)
entries-part roots m =
    same_entries path_cmp paths_total path_same (finite.entries (part_of roots m)) (filter (λ e. in_part roots e.0) (finite.entries m))
    (finite.entries_sorted (part_of roots m)) (is_sorted-where_key path_cmp (in_part roots) (finite.entries m) (finite.entries_sorted m))
    (λ q. sym (finite.get-entries (part_of roots m) q)
    ∙ get-part roots m q
    ∙ ap (λ (o : Option Value). cond (in_part roots q) o None) (finite.get-entries m q)
    ∙ sym (find-where_key path_cmp (in_part roots) q (λ x same. ap (in_part roots) (sym ((same_path q x).0 (ap is_eq same)))) (finite.entries m)))

-- what stands near one of the paths is in the part
near_in : (roots : List (List Step)) (q : List Step) (t : List Step → Bool) (picked : Picked t roots) → is_near q picked.one ≡ true → in_part roots q ≡ true
near_in roots q t picked e = right_or (not (is_outside q)) _ (picked.among (is_near q) e)

pub at_group : (roots : List (List Step)) (rest : List Step) → in_part roots (groups_step ∷ rest) ≡ true
at_group roots rest = left_or _ (list_any (is_near (groups_step ∷ rest)) roots) refl

-- below a root
pub at_root : (roots : List (List Step)) (q : List Step) → is_reached roots q ≡ true → in_part roots q ≡ true
at_root roots q e = let picked = pick (λ r. is_below r q) roots e in near_in roots q _ picked (left_or _ _ picked.passes)

-- above what is below a root, and what applies there
module _ (roots : List (List Step)) (p : List Step) (e : is_reached roots p ≡ true) where
  picked : Picked (λ r. is_below r p) roots
  picked = pick (λ r. is_below r p) roots e

  pub above_root : (a : List Step) → is_below a p ≡ true → in_part roots a ≡ true
  above_root a h = near_in roots a _ picked (elim (comparable picked.one a p picked.passes h) [
    | inl k ↦ left_or _ _ k
    | inr k ↦ right_or (is_below picked.one a) _ (left_or _ _ k)
  ])

  pub applied_root : (a : List Step) (s : Step) → is_apply_step s ≡ true → is_below a p ≡ true → in_part roots (a ++ s ∷ []) ≡ true
  applied_root a s is h = near_in roots (a ++ s ∷ []) _ picked (elim (comparable picked.one a p picked.passes h) [
    | inl k ↦ left_or _ _ (below_more picked.one a s k)
    | inr k ↦
        right_or (is_below picked.one (a ++ s ∷ [])) _ (right_or (is_below (a ++ s ∷ []) picked.one) _
        (both_true _ _ (ap is_apply_step (last_is a s) ∙ is) (ap (λ (q : List Step). is_below q picked.one) (parent_is a s) ∙ k)))
  ])

-- the parent of what is near a root is near it, or the top
near_parent : (root p : List Step) (s : Step) → is_near (p ++ s ∷ []) root ≡ true → is_near p root ≡ true
near_parent root p s e =
    either (is_below root (p ++ s ∷ [])) _ e
    (λ h. by_test (is_below root p) refl h)
    (λ h. either (is_below (p ++ s ∷ []) root) _ h
    (λ k. right_or (is_below root p) _ (left_or _ _ (below_trans p (p ++ s ∷ []) root (below_more p p s (below_self p)) k)))
    (λ k. right_or (is_below root p) _ (left_or _ _ (ap (λ (q : List Step). is_below q root) (sym (parent_is p s)) ∙ (both (is_apply_step (last_of (p ++ s ∷ []))) _ k).1))))
  where
    by_test : (b : Bool) → is_below root p ≡ b → is_below root (p ++ s ∷ []) ≡ true → is_near p root ≡ true
    by_test true f h = left_or _ _ f
    by_test false f h =
        right_or (is_below root p) _ (left_or _ _
        (ap (is_below p) (below_first root p s h f) ∙ below_more p p s (below_self p)))

part_parent : (roots : List (List Step)) (p : List Step) (s : Step) → 0 < length p → in_part roots (p ++ s ∷ []) ≡ true → in_part roots p ≡ true
part_parent roots p s long e =
    either (not (is_outside (p ++ s ∷ []))) _ e
    (λ h. left_or _ _ (in_groups p long h))
    (λ h. let picked = pick (is_near (p ++ s ∷ [])) roots h in near_in roots p _ picked (near_parent picked.one p s picked.passes))
  where
    in_groups : (q : List Step) → 0 < length q → not (is_outside (q ++ s ∷ [])) ≡ true → not (is_outside q) ≡ true
    in_groups [] l h = absurd (omega (arith, l))
    in_groups (x ∷ q) l h = h

applies : (p : List Step) → is_apply_step (last_of p) ≡ true → is_apply p ≡ true
applies [] e = cc
applies (x ∷ p) e = e

-- an ordered child of what is in the part is in it
module _ (m : Statements) (tree : IsTree m) (roots : List (List Step)) (ok : AllByRecursion IsRoot roots) where
  part_child : (p : List Step) (head name : List ℕ) → ordered_head (place_of p) ≡ Some head → in_part roots p ≡ true → IsSome (finite.get m (p ++ step_of head name ∷ []))
      → in_part roots (p ++ step_of head name ∷ []) ≡ true
  part_child p head name ordered e there =
      either (not (is_outside p)) _ e
      (λ h. left_or _ _ (in_groups p h))
      (λ h. let picked = pick (is_near p) roots h in let root = picked.each IsRoot ok
      in either (is_below picked.one p) _ picked.passes
      (λ k. near_in roots _ _ picked (left_or _ _ (below_more picked.one p (step_of head name) k)))
      (λ k. either (is_below p picked.one) _ k
      (λ j. by_test picked root (is_below picked.one p) refl j)
      (λ j. let c = sym (applies p (both (is_apply_step (last_of p)) _ j).0) ∙ nothing_below_apply m tree p (step_of head name) there in cc)))
    where
      in_groups : (q : List Step) → not (is_outside q) ≡ true → not (is_outside (q ++ step_of head name ∷ [])) ≡ true
      in_groups [] h = cc
      in_groups (x ∷ q) h = h

      by_test : (picked : Picked (is_near p) roots) → IsRoot picked.one → (b : Bool) → is_below picked.one p ≡ b → is_below p picked.one ≡ true
          → in_part roots (p ++ step_of head name ∷ []) ≡ true
      by_test picked root true f j = near_in roots _ _ picked (left_or _ _ (below_more picked.one p (step_of head name) f))
      by_test picked root false f j = let c = sym (root.unordered p j f) ∙ ordered in cc

  some_of : (b : Bool) (o : Option Value) → IsSome (cond b o None) → (b ≡ true) × IsSome o
  some_of true o h = (refl, h)
  some_of false o h = cc

  value_of : (b : Bool) (o : Option Value) (v : Value) → cond b o None ≡ Some v → (b ≡ true) × (o ≡ Some v)
  value_of true o v h = (refl, h)
  value_of false o v h = cc

  there_in : (q : List Step) → IsSome (finite.get (part_of roots m) q) → (in_part roots q ≡ true) × IsSome (finite.get m q)
  there_in q h = some_of _ _ (subst (λ (o : Option Value). IsSome o) (get-part roots m q) h)

  value_in : (q : List Step) (v : Value) → finite.get (part_of roots m) q ≡ Some v → (in_part roots q ≡ true) × (finite.get m q ≡ Some v)
  value_in q v h = value_of _ _ v (sym (get-part roots m q) ∙ h)

  parents_in : (path : List Step) → IsSome (finite.get (part_of roots m) path) → HasParent (part_of roots m) path
  parents_in path h =
      let k = there_in path h in let up = tree.statements.parents path k.1
      in record {
        steps = up.steps;
        parent = λ long.
            let ends = split path up.steps
            in let inside : in_part roots (parent_of path) ≡ true
            = part_parent roots (parent_of path) (last_of path) (parent_long path long ends) (ap (in_part roots) (sym ends) ∙ k.0)
            in subst (λ (o : Option Value). IsSome o) (in_part_same roots m (parent_of path) inside) (up.parent long);
      }
    where
      parent_long : (q : List Step) → 1 < length q → q ≡ parent_of q ++ last_of q ∷ [] → 0 < length (parent_of q)
      parent_long q long is =
          let a = ap (λ (xs : List Step). length xs) is in let b = length-append (parent_of q) (last_of q ∷ []) in omega (arith, long, a, b)

  order_in : (path : List Step) (names : List (List ℕ)) (head : Option (List ℕ)) → ordered_head (place_of path) ≡ head → in_part roots path ≡ true
      → IsOrderBy m path head names → IsOrderBy (part_of roots m) path head names
  order_in path names None is e h = h
  order_in path names (Some head) is e h = record {
    once = h.once;
    each = λ name. h.each name ∙ child name (is_some (finite.get m (path ++ step_of head name ∷ []))) refl;
  }
    where
      some_is : (o : Option Value) → is_some o ≡ true → IsSome o
      some_is None f = cc
      some_is (Some v) f = search

      none_is : (b : Bool) (o : Option Value) → is_some o ≡ false → is_some (cond b o None) ≡ false
      none_is true o f = f
      none_is false o f = refl

      child : (name : List ℕ) (b : Bool) → is_some (finite.get m (path ++ step_of head name ∷ [])) ≡ b
          → is_some (finite.get m (path ++ step_of head name ∷ [])) ≡ is_some (finite.get (part_of roots m) (path ++ step_of head name ∷ []))
      child name true f = ap is_some (in_part_same roots m _ (part_child path head name is e (some_is _ f)))
      child name false f =
          f ∙ sym (ap is_some (get-part roots m _) ∙ none_is (in_part roots (path ++ step_of head name ∷ [])) _ f)

  few : size_of (part_of roots m) ≤ MAX_STATEMENTS
  few = let a = finite.len-entries (part_of roots m) in let b = ap (λ (es : List (List Step × Value)). length es) (entries-part roots m)
      in let c = fewer (λ e. in_part roots e.0) (finite.entries m) in let d = finite.len-entries m in let k = tree.few in omega (arith, a, b, c, d, k)
    where
      fewer : {X : Type 0} (t : X → Bool) (xs : List X) → length (filter t xs) ≤ length xs
      fewer t [] = omega arith
      fewer t (x ∷ xs) = by_test (t x) (fewer t xs)
        where
          by_test : (b : Bool) → length (filter t xs) ≤ length xs → length (cond b (x ∷ filter t xs) (filter t xs)) ≤ length (x ∷ xs)
          by_test true h = omega (arith, h)
          by_test false h = omega (arith, h)

  top_none : (b : Bool) (o : Option Value) → o ≡ None → cond b o None ≡ None
  top_none true o e = e
  top_none false o e = refl

  pub part_statements : IsStatementMap (part_of roots m)
  part_statements = record {
    top = get-part roots m [] ∙ top_none (in_part roots []) _ tree.statements.top;
    parents = parents_in;
    orders = λ path value there.
        let k = value_in path value there in order_in path value.order (ordered_head (place_of path)) refl k.0 (tree.statements.orders path value k.1);
  }

  pub part_typed : IsTyped (part_of roots m)
  part_typed = record {
    paths = λ path there. tree.typed.paths path (there_in path there).1;
    words = λ path value here there place. tree.typed.words path value here (value_in path value there).1 place;
  }

  pub part_tree : IsTree (part_of roots m)
  part_tree = record { statements = part_statements; typed = part_typed; few = few }

-- what the code asks of a path
pub applies_is : (path root front : List Step) (s : Step) (a b : Bool) → a ≡ is_apply_step s → a ≡ true → s ≡ last_of path → front ≡ parent_of path → b ≡ is_below front root
    → b ≡ applies_above path root
applies_is path root front s a b is e last parent below =
    below
    ∙ ap (λ (q : List Step). is_below q root) parent
    ∙ sym (ap (λ (c : Bool). c && is_below (parent_of path) root) (ap is_apply_step (sym last) ∙ sym is ∙ e))

-- where nothing is left, all is there
pub none_left : {X : Type 0} (t : X → Bool) (items left all : List X) → left ≡ [] → items ++ filter t left ≡ all → items ≡ all
none_left t items left all none h = sym (append-nil items) ∙ ap (λ (xs : List _). items ++ filter t xs) (sym none) ∙ h

-- a path that is near another one has its steps, but for its own last one
same_at : (a p : List Step) (i : ℕ) (d : Step) → is_below a p ≡ true → i < length a → get_or a i d ≡ get_or p i d
same_at [] p i d e h = absurd (omega (arith, h))
same_at (x ∷ a) [] i d e h = cc
same_at (x ∷ a) (y ∷ p) zero d e h = (same_step x y).0 (both (eq_by_cmp step_cmp x y) (is_below a p) e).0
same_at (x ∷ a) (y ∷ p) (suc i) d e h = same_at a p i d (both (eq_by_cmp step_cmp x y) (is_below a p) e).1 (omega (arith, h))

front_at : (a b : List Step) (i : ℕ) (d : Step) → i < length a → get_or (a ++ b) i d ≡ get_or a i d
front_at [] b i d h = absurd (omega (arith, h))
front_at (x ∷ a) b zero d h = refl
front_at (x ∷ a) b (suc i) d h = front_at a b i d (omega (arith, h))

any_at : (a : List Step) (i : ℕ) (d c : Step) → i < length a → get_or a i d ≡ get_or a i c
any_at [] i d c h = absurd (omega (arith, h))
any_at (x ∷ a) zero d c h = refl
any_at (x ∷ a) (suc i) d c h = any_at a i d c (omega (arith, h))

near_at : (p r : List Step) (i : ℕ) (d : Step) → i + 1 < length p → i < length r → is_near p r ≡ true → get_or p i d ≡ get_or r i d
near_at p r i d in_p in_r e =
    either (is_below r p) _ e
    (λ h. sym (same_at r p i d h in_r))
    (λ h. either (is_below p r) _ h
    (λ k. same_at p r i d k (omega (arith, in_p)))
    (λ k.
    let ends = split p (omega (arith, in_p)) in let longer = ap (λ (xs : List Step). length xs) ends
    in let parts = length-append (parent_of p) (last_of p ∷ [])
    in let above : i < length (parent_of p) = omega (arith, in_p, longer, parts)
    in ap (λ (xs : List Step). get_or xs i d) ends
    ∙ front_at (parent_of p) (last_of p ∷ []) i d above
    ∙ same_at (parent_of p) r i d (both (is_apply_step (last_of p)) _ k).1 above))

-- the last step that both would have
pub near_last : (p r ps rs : List Step) (i : ℕ) (x y : Step) (told : Bool) → i + 1 < length p → i < length r → ps ≡ p → rs ≡ r → x ≡ get_or ps i x → y ≡ get_or rs i y
    → told ≡ (eq_by_cmp word_cmp x.head y.head && eq_by_cmp word_cmp x.name y.name) → is_near p r ≡ true → told ≡ true
near_last p r ps rs i x y told in_p in_r is_p is_r is_x is_y is e =
    is
    ∙ ap (λ (z : Step). eq_by_cmp word_cmp z.head y.head && eq_by_cmp word_cmp z.name y.name) same
    ∙ both_true _ _ (ap is_eq (tied_itself words_total y.head)) (ap is_eq (tied_itself words_total y.name))
  where
    same : x ≡ y
    same =
        is_x
        ∙ ap (λ (xs : List Step). get_or xs i x) is_p
        ∙ near_at p r i x in_p in_r e
        ∙ any_at r i x y in_r
        ∙ ap (λ (xs : List Step). get_or xs i y) (sym is_r)
        ∙ sym is_y
