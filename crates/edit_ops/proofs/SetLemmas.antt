-- Putting the levels above a statement, and then the statement.
use Rattle.std.proofs.Common.{◌≡◌, ◌≢◌, ⊎_elim, ℕ, zero, suc, ◌+◌, ◌-◌, ◌≤◌, ◌<◌, Bool, true, false, ◌&&◌, List, length, take, refl, sym, ap, subst, ◌∙◌, Option, Some, None, Ok, Err, is_some, is_none, arith, if◌then◌else◌}
use Rattle.std.specs.Prelude.{IsSome}
use Rattle.std.specs.FinMap as map
use Rattle.std.proofs.lemmas.List.{length-take-le}
use Rattle.std.proofs.lemmas.Bool.{cases_lt}
use Rattle.std.proofs.lemmas.List.Elements.{All-nil}
use Rattle.cfg_base.specs.declared.path.Step.{Step}
use Rattle.cfg_base.specs.declared.value.Value.{Value}
use Rattle.cfg_tree.specs.declared.limit.TheConstants.{MAX_STATEMENTS}
use Rattle.cfg_tree.specs.declared.fault.TreeFault.{TreeFault}
use Rattle.cfg_tree.specs.declared.fault.TreeFault.TheVariants as tree_fault
use Rattle.cfg_tree.specs.Statements.{Statements, size_of, last_of, is_below, HasParent}
use Rattle.cfg_tree.specs.Typed.{IsTypedPath, IsLevelPath}
use Rattle.cfg_tree.specs.Tree.{IsTree}
use Rattle.cfg_tree.specs.Change.{is_ordered, put_last, put_at, IsReady, FitsProfile, IsPutFault}
use Rattle.std.specs.Bool.{Decides}
use Rattle.cfg_base.specs.contracts.value.ValuePartialEq.TheImpl as equal
use Rattle.cfg_tree.proofs.SameLemmas.{same_value}
use Rattle.cfg_tree.proofs.FollowLemmas.{typed_front, typed_place, parent_is_level, level_counted}
use Rattle.cfg_tree.proofs.ReadyLemmas.{level_ready, new_ready}
use Rattle.edit_ops.specs.declared.fault.EditFault.{EditFault}
use Rattle.edit_ops.specs.declared.fault.EditFault.TheVariants.{Unknown, BadValue, Incomplete, Extra, NotNamed, NotOrdered, NotThere, AlreadyThere, Protected, TooMany, NoMemory}
use Rattle.edit_ops.specs.Block.{Blocks}
use Rattle.edit_ops.specs.Value.{no_value}
use Rattle.edit_ops.specs.Change.{with_level, with_levels}
use Rattle.edit_ops.specs.Made.{guarded, IsOpen, IsFirstProtected, IsGuardFault, IsPartMade, IsLevelReady, IsRoomFault, IsLevelsFault, IsOther, IsNewStatement, IsItself, LevelsPut, fault_of_put}
use Rattle.edit_ops.proofs.WayLemmas.{below_take, below_short, way_whole}
use Rattle.edit_ops.proofs.NearLemmas.{IsNear, put_near, put_here, put_by_other, put_same, size_new, put_grows, levels-more, levels_near, levels_grow, take_take, front_parent}
use Rattle.edit_ops.proofs.BlockLemmas.{near_on_way, near_free, near_blocked}

-- a put is refused only for lack of room, where the value fits
pub put_fault : (m : Statements) (path : List Step) (value : Value) (fault : TreeFault) → FitsProfile path value → IsPutFault m path value fault
    → IsRoomFault m path (fault_of_put fault)
put_fault m path value (tree_fault.Unknown refused) fits (is, none) =
    let (here, found) = typed_place path _ fits.typed in let k = sym found ∙ none in cc
put_fault m path value (tree_fault.BadValue refused) fits (is, some, not) = absurd (not fits)
put_fault m path value tree_fault.TooMany fits (fits2, none, full) = (none, full)
put_fault m path value tree_fault.NoMemory fits h = tt

steps_long : (k : ℕ) (path : List Step) → k + 1 < length path → length (take (k + 1) path) ≡ k + 1
steps_long k path h = length-take-le (k + 1) path (omega (arith, h))

-- a missing level is ready to be put
pub level_is_ready : (m : Statements) (path : List Step) (value : Value) → IsTree m → IsLevelReady m path → map.get m path ≡ None → value ≡ no_value
    → IsReady m path value
level_is_ready m path value tree level none e =
    level_ready m path value tree.statements level.level level.parent none (ap (λ (v : Value). v.order) e) (ap (λ (v : Value). v.words) e)

pub level_fits : (m : Statements) (path : List Step) (value : Value) → IsLevelReady m path → value ≡ no_value → FitsProfile path value
level_fits m path value level e = subst (λ (v : Value). FitsProfile path v) (sym e) record {
  typed = level.level.typed;
  words = λ here f. (level_counted _ (level.level.opens here f), All-nil _);
}

-- the next level may be put
pub next_ready : (m n : Statements) (k : ℕ) (path : List Step) → IsTypedPath path → k < length path - 1 → LevelsPut m n k path
    → IsLevelReady n (take (k + 1) path)
next_ready m n k path typed h put = record {
  level = level;
  parent = parent;
}
  where
    inside : k + 1 < length path
    inside = omega (arith, h)

    long : length (take (k + 1) path) ≡ k + 1
    long = steps_long k path inside

    level : IsLevelPath (take (k + 1) path)
    level =
        subst IsLevelPath (take_take (k + 1) path inside)
        (parent_is_level (take (suc (k + 1)) path)
        (subst (λ (i : ℕ). 0 < i) (sym (length-take-le (suc (k + 1)) path (omega (arith, h)))) (omega arith))
        (typed_front path (suc (k + 1)) typed))

    parent : HasParent n (take (k + 1) path)
    parent = record {
      steps = subst (λ (i : ℕ). 0 < i) (sym long) (omega arith);
      parent = λ more. subst (λ (p : List Step). IsSome (map.get n p)) (sym (front_parent k path (omega (arith, h))))
          (put.there (some_before (subst (λ (i : ℕ). 1 < i) long more)));
    }
      where
        some_before : 1 < k + 1 → 0 < k
        some_before e = omega (arith, e)

level_here : (n : Statements) (level : List Step) (b : Bool) → is_some (map.get n level) ≡ b → 0 < length level
    → IsSome (map.get (if b then n else put_at n level no_value) level)
level_here n level true e long = e
level_here n level false e long = ap is_some (put_here n level no_value long)

pub levels_none : (m : Statements) (path : List Step) → LevelsPut m m 0 path
levels_none m path = record { is = refl; there = λ some. absurd (none some) }
  where
    none : 0 < 0 → ⊥
    none e = omega (arith, e)

-- and then one more is put
pub levels_more : (m n new : Statements) (k : ℕ) (path : List Step) → k < length path - 1 → LevelsPut m n k path → new ≡ with_level n (take (k + 1) path)
    → LevelsPut m new (k + 1) path
levels_more m n new k path h put e = record {
  is = e ∙ ap (λ (x : Statements). with_level x (take (k + 1) path)) put.is ∙ sym (levels-more m k path);
  there = λ _. subst (λ (x : Statements). IsSome (map.get x (take (k + 1) path))) (sym e)
      (level_here n (take (k + 1) path) _ refl (subst (λ (i : ℕ). 0 < i) (sym (steps_long k path (omega (arith, h)))) (omega arith)));
}

-- a level that finds no room leaves too many statements for the whole
pub levels_fault : (m n : Statements) (k : ℕ) (path : List Step) (fault : EditFault) → k < length path - 1 → LevelsPut m n k path
    → IsRoomFault n (take (k + 1) path) fault → IsLevelsFault m (length path - 1) path fault
levels_fault m n k path (Unknown p) h put e = absurd e
levels_fault m n k path (BadValue p) h put e = absurd e
levels_fault m n k path (Incomplete p) h put e = absurd e
levels_fault m n k path (Extra p) h put e = absurd e
levels_fault m n k path (NotThere p) h put e = absurd e
levels_fault m n k path (NotNamed p) h put e = absurd e
levels_fault m n k path (NotOrdered p) h put e = absurd e
levels_fault m n k path (AlreadyThere p) h put e = absurd e
levels_fault m n k path (Protected p) h put e = absurd e
levels_fault m n k path TooMany h put (none, full) =
    subst (λ (i : ℕ). MAX_STATEMENTS < size_of (with_levels m i path)) whole (above _ _ grown more)
  where
    put_one : with_level n (take (k + 1) path) ≡ put_at n (take (k + 1) path) no_value
    put_one = ap (λ (o : Option Value). if is_some o then n else put_at n (take (k + 1) path) no_value) none

    more : size_of (with_levels m (k + 1) path) ≡ MAX_STATEMENTS + 1
    more =
        ap size_of (levels-more m k path)
        ∙ ap (λ (x : Statements). size_of (with_level x (take (k + 1) path))) (sym put.is)
        ∙ ap size_of put_one
        ∙ size_new n (take (k + 1) path) no_value none
        ∙ ap (λ (i : ℕ). i + 1) full

    grown : size_of (with_levels m (k + 1) path) ≤ size_of (with_levels m (k + 1 + (length path - 1 - (k + 1))) path)
    grown = levels_grow m (k + 1) (length path - 1 - (k + 1)) path

    whole : k + 1 + (length path - 1 - (k + 1)) ≡ length path - 1
    whole = omega (arith, h)

    above : (a b : ℕ) → a ≤ b → a ≡ MAX_STATEMENTS + 1 → MAX_STATEMENTS < b
    above a b e f = omega (arith, e, f)
levels_fault m n k path NoMemory h put e = tt

-- a change on the way to a path, which the guard lets pass or refuses
module _ (m n : Statements) (path : List Step) (count : ℕ) (spared : List Step → Type 0) (on_way : (q : List Step) → Blocks m n spared q → is_below q path ≡ true)
    (differs : map.get m path ≢ map.get n path)
    (few : (q : List Step) → is_below q path ≡ true → ¬ (spared q) → length q ≤ count)
    (unspared : (found : List Step) → IsFirstProtected m count path found → ¬ (spared found)) where
  other_map : n ≢ m
  other_map e = differs (ap (λ (x : Statements). map.get x path) (sym e))

  pub let_pass : IsOpen m count path → IsPartMade m (Ok n) spared (Ok (Some n))
  let_pass free = (refl, other_map, near_free m n path spared on_way count free few)

  pub crowded : IsOpen m count path → MAX_STATEMENTS < size_of n → IsPartMade m (Ok n) spared (Err TooMany)
  crowded free many = (n, refl, near_free m n path spared on_way count free few, many)

  pub refused : (fault : EditFault) → IsGuardFault m count path fault → IsPartMade m (Ok n) spared (Err fault)
  refused (Unknown p) e = absurd e
  refused (BadValue p) e = absurd e
  refused (Incomplete p) e = absurd e
  refused (Extra p) e = absurd e
  refused (NotThere p) e = absurd e
  refused (NotNamed p) e = absurd e
  refused (NotOrdered p) e = absurd e
  refused (AlreadyThere p) e = absurd e
  refused (Protected p) first = (n, refl, near_blocked m n path spared on_way count p differs first (unspared p first))
  refused TooMany e = absurd e
  refused NoMemory e = tt

-- which levels are guarded: all on the way but what is spared
pub few_guarded : (spared : Bool) (path q : List Step) → is_below q path ≡ true → ¬ (IsItself spared path q) → length q ≤ guarded spared (length path)
few_guarded false path q on h = below_short q path on
few_guarded true path q on h = shorter (below_short q path on)
  where
    shorter : length q ≤ length path → length q ≤ length path - 1
    shorter e = ⊎_elim
        (λ less. omega (arith, less))
        (λ same. absurd (h (below_take q path on ∙ ap (λ (k : ℕ). take k path) (all_of e same) ∙ way_whole path)))
        (cases_lt (length q) (length path))
      where
        all_of : length q ≤ length path → length path ≤ length q → length q ≡ length path
        all_of a b = omega (arith, a, b)

pub unspared_found : (m : Statements) (spared : Bool) (path found : List Step) → 0 < length path
    → IsFirstProtected m (guarded spared (length path)) path found → ¬ (IsItself spared path found)
unspared_found m false path found long first e = e
unspared_found m true path found long first e = too_long (ap (λ (p : List Step). length p) (sym first.found_is ∙ e))
  where
    too_long : length (take first.count path) ≡ length path → ⊥
    too_long same =
        let short = length-take-le first.count path (fits first.within)
        in wrong first.within (sym short ∙ same)
      where
        fits : first.count ≤ length path - 1 → first.count ≤ length path
        fits e = omega (arith, e)

        wrong : first.count ≤ length path - 1 → first.count ≡ length path → ⊥
        wrong a b = omega (arith, a, b, long)

-- another value for a statement that is there
module _ (m : Statements) (path : List Step) (value : Value) (spared : Bool) (tree : IsTree m) (other : IsOther m path value) where
  pub unchanged : map.get m path ≡ Some value → IsPartMade m (Ok (put_at m path value)) (IsItself spared path) (Ok None)
  unchanged same = (ap (λ (x : Statements). Ok x) (put_same m path value same), tree.few)

  differs : ¬ (map.get m path ≡ Some value) → map.get m path ≢ map.get (put_at m path value) path
  differs h e = h (e ∙ put_here m path value other.steps)

  pub replaced : ¬ (map.get m path ≡ Some value) → IsOpen m (guarded spared (length path)) path
      → IsPartMade m (Ok (put_at m path value)) (IsItself spared path) (Ok (Some (put_at m path value)))
  replaced h free =
      let_pass m (put_at m path value) path (guarded spared (length path)) (IsItself spared path)
      (near_on_way m (put_at m path value) path (IsItself spared path) (put_near m path value)) (differs h)
      (few_guarded spared path) (λ found. unspared_found m spared path found other.steps) free

  pub replace_refused : ¬ (map.get m path ≡ Some value) → (fault : EditFault) → IsGuardFault m (guarded spared (length path)) path fault
      → IsPartMade m (Ok (put_at m path value)) (IsItself spared path) (Err fault)
  replace_refused h =
      refused m (put_at m path value) path (guarded spared (length path)) (IsItself spared path)
      (near_on_way m (put_at m path value) path (IsItself spared path) (put_near m path value)) (differs h)
      (few_guarded spared path) (λ found. unspared_found m spared path found other.steps)

-- whether what is there is a value
pub has_value : (o : Option Value) (there value : Value) (r : Bool) → Some there ≡ o → r ≡ (equal.ghosts).eq there value → Decides r (o ≡ Some value)
has_value o there value r e f = (λ h. sym e ∙ ap Some ((same_value there value).0 (sym f ∙ h)), λ h. f ∙ (same_value there value).1 (inner (e ∙ h)))
  where
    inner : Some there ≡ Some value → there ≡ value
    inner g = cc

pub not_so : {P : Type 0} → (P → false ≡ true) → ¬ P
not_so h p = let k = h p in cc

-- a new statement, and the levels above it
levels_apart : (m : Statements) (n : ℕ) (path : List Step) → n < length path → map.get m path ≡ None → map.get (with_levels m n path) path ≡ None
levels_apart m zero path h none = none
levels_apart m (suc n) path h none = by_level _ (levels_apart m n path (omega (arith, h)) none)
  where
    shorter : (k : ℕ) → k < length path → path ≢ take k path
    shorter k e same = off (ap (λ (p : List Step). length p) same ∙ length-take-le k path (omega (arith, e)))
      where
        off : length path ≡ k → ⊥
        off f = omega (arith, e, f)

    by_level : (b : Bool) → map.get (with_levels m n path) path ≡ None
        → map.get (if b then with_levels m n path else put_at (with_levels m n path) (take (suc n) path) no_value) path ≡ None
    by_level true e = e
    by_level false e =
        put_by_other (with_levels m n path) (take (suc n) path) path no_value
        (put_last (last_of (take (suc n) path)).name) (is_none (map.get (with_levels m n path) (take (suc n) path)) && is_ordered (take (suc n) path))
        (shorter (suc n) h)
        (λ same. shorter n (omega (arith, h)) (same ∙ take_take n path (omega (arith, h))))
        ∙ e

module _ (m : Statements) (path : List Step) (value : Value) (new : IsNewStatement m path value) where
  abbrev goal : Statements
  goal = put_at (with_levels m (length path - 1) path) path value

  abbrev nothing : List Step → Type 0
  nothing q = ⊥

  goal_near : IsNear m goal path
  goal_near q h = put_near (with_levels m (length path - 1) path) path value q h ∙ levels_near m (length path - 1) path q h

  goal_way : (q : List Step) → Blocks m goal nothing q → is_below q path ≡ true
  goal_way = near_on_way m goal path nothing goal_near

  goal_differs : map.get m path ≢ map.get goal path
  goal_differs e = let k = sym new.none ∙ e ∙ put_here (with_levels m (length path - 1) path) path value new.steps in cc

  all_guarded : (q : List Step) → is_below q path ≡ true → ¬ ⊥ → length q ≤ length path
  all_guarded q on h = below_short q path on

  pub added : IsOpen m (length path) path → IsPartMade m (Ok goal) (λ _. ⊥) (Ok (Some goal))
  added free = let_pass m goal path (length path) nothing goal_way goal_differs all_guarded (λ found first e. e) free

  pub add_refused : (fault : EditFault) → IsGuardFault m (length path) path fault → IsPartMade m (Ok goal) (λ _. ⊥) (Err fault)
  add_refused = refused m goal path (length path) nothing goal_way goal_differs all_guarded (λ found first e. e)

  pub add_crowded : IsOpen m (length path) path → (fault : EditFault) → IsLevelsFault m (length path - 1) path fault → IsPartMade m (Ok goal) (λ _. ⊥) (Err fault)
  add_crowded free (Unknown p) e = absurd e
  add_crowded free (BadValue p) e = absurd e
  add_crowded free (Incomplete p) e = absurd e
  add_crowded free (Extra p) e = absurd e
  add_crowded free (NotThere p) e = absurd e
  add_crowded free (NotNamed p) e = absurd e
  add_crowded free (NotOrdered p) e = absurd e
  add_crowded free (AlreadyThere p) e = absurd e
  add_crowded free (Protected p) e = absurd e
  add_crowded free TooMany e =
      crowded m goal path (length path) nothing goal_way goal_differs all_guarded (λ found first f. f) free
      (through (put_grows (with_levels m (length path - 1) path) path value))
    where
      through : size_of (with_levels m (length path - 1) path) ≤ size_of goal → MAX_STATEMENTS < size_of goal
      through g = omega (arith, e, g)
  add_crowded free NoMemory e = tt

  pub add_room : IsOpen m (length path) path → (fault : EditFault) → IsRoomFault (with_levels m (length path - 1) path) path fault
      → IsPartMade m (Ok goal) (λ _. ⊥) (Err fault)
  add_room free (Unknown p) e = absurd e
  add_room free (BadValue p) e = absurd e
  add_room free (Incomplete p) e = absurd e
  add_room free (Extra p) e = absurd e
  add_room free (NotThere p) e = absurd e
  add_room free (NotNamed p) e = absurd e
  add_room free (NotOrdered p) e = absurd e
  add_room free (AlreadyThere p) e = absurd e
  add_room free (Protected p) e = absurd e
  add_room free TooMany e =
      crowded m goal path (length path) nothing goal_way goal_differs all_guarded (λ found first f. f) free
      (above (size_new (with_levels m (length path - 1) path) path value e.0 ∙ ap (λ (i : ℕ). i + 1) e.1))
    where
      above : size_of goal ≡ MAX_STATEMENTS + 1 → MAX_STATEMENTS < size_of goal
      above f = omega (arith, f)
  add_room free NoMemory e = tt

  pub new_is_ready : (next : Statements) → IsTree next → LevelsPut m next (length path - 1) path → IsReady next path value
  new_is_ready next tree put =
      new_ready next path value tree.statements new.fits.typed
      record {
        steps = new.steps;
        parent = λ more. put.there (some_above more);
      }
      (ap (λ (x : Statements). map.get x path) put.is ∙ levels_apart m (length path - 1) path (last_above new.steps) new.none)
      new.order (λ here e. (new.fits.words here e).0)
    where
      some_above : 1 < length path → 0 < length path - 1
      some_above e = omega (arith, e)

      last_above : 0 < length path → length path - 1 < length path
      last_above e = omega (arith, e)
