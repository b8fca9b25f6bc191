-- Another place in the user's order.
use Rattle.std.proofs.Common.{◌≡◌, ◌≢◌, ◌<◌, ℕ, Bool, true, false, not, List, [], ◌∷◌, ◌++◌, length, refl, sym, ap, subst, ◌∙◌, Option, Some, None, Ok, Err, is_some, is_none}
use Rattle.std.specs.Prelude.{IsSome}
use Rattle.std.specs.FinMap as map
use Rattle.cfg_base.specs.declared.path.Step.{Step}
use Rattle.cfg_base.specs.declared.value.Value.{Value}
use Rattle.cfg_base.specs.contracts.value.ValuePartialEq.TheImpl as equal
use Rattle.cfg_schema.specs.Place.{place_of}
use Rattle.cfg_schema.proofs.TestLemmas.{not_is_false, same}
use Rattle.cfg_tree.specs.Statements.{Statements, parent_of, last_of}
use Rattle.cfg_tree.specs.Typed.{AreWordsOf}
use Rattle.cfg_tree.specs.Tree.{ordered_head, step_of, IsOrderBy, IsOrderOf, IsTree}
use Rattle.cfg_tree.specs.Change.{has_head, is_ordered, with_order_of, put_at, IsReady, FitsProfile}
use Rattle.cfg_tree.proofs.SameLemmas.{same_value}
use Rattle.cfg_tree.proofs.PathLemmas.{split}
use Rattle.cfg_tree.proofs.FollowLemmas.{bare_name}
use Rattle.cfg_tree.proofs.BesideLemmas.{same_heads}
use Rattle.edit_ops.specs.declared.fault.EditFault.{EditFault}
use Rattle.edit_ops.specs.declared.fault.EditFault.TheVariants.{Unknown, BadValue, Incomplete, Extra, NotNamed, NotOrdered, NotThere, AlreadyThere, Protected, TooMany, NoMemory}
use Rattle.edit_ops.specs.Change.{is_name_for, insert_causes, inserted, inserted_at, moved_beside}
use Rattle.edit_ops.specs.Made.{IsBesidePath, IsUnrefused, IsReordered, IsOpen, IsGuardFault, IsRoomFault, IsPartMade}
use Rattle.edit_ops.proofs.WayLemmas.{below_short}
use Rattle.edit_ops.proofs.NearLemmas.{put_near, put_here, put_same, put_there}
use Rattle.edit_ops.proofs.BlockLemmas.{nothing_spared, near_on_way}
use Rattle.edit_ops.proofs.SetLemmas.{let_pass, refused}
use Rattle.edit_ops.proofs.NextToLemmas.{lists-moved, distinct-moved}
use Rattle.edit_ops.proofs.MoveLemmas.{first_holds_not, is_there, other_steps, same_parents, same_place}

-- another order for a statement that is there
module _ (m : Statements) (path : List Step) (old value : Value) (tree : IsTree m) (again : IsReordered m path old value) where
  there : IsSome (map.get m path)
  there = ap is_some again.found

  steps : 0 < length path
  steps = (tree.statements.parents path there).steps

  pub fits_again : FitsProfile path value
  fits_again = record {
    typed = tree.typed.paths path there;
    words = λ here e. subst (λ (ws : List (List ℕ)). AreWordsOf here.row ws) (sym again.words) (tree.typed.words path old here again.found e);
  }

  pub ready_again : IsReady m path value
  ready_again = record {
    parent = tree.statements.parents path there;
    order = again.order;
    words = λ here e. (fits_again.words here e).0;
    bare = λ here e headless. bare_name path steps (tree.typed.paths path there) here e headless;
  }

  pub order_same : value ≡ old → IsPartMade m (Ok (put_at m path value)) (λ _. ⊥) (Ok None)
  order_same e = (ap (λ (x : Statements). Ok x) (put_same m path value (again.found ∙ ap (λ (v : Value). Some v) (sym e))), tree.few)

  differs : value ≢ old → map.get m path ≢ map.get (put_at m path value) path
  differs h e = h (same_some (sym (put_here m path value steps) ∙ sym e ∙ again.found))
    where
      same_some : Some value ≡ Some old → value ≡ old
      same_some f = cc

  pub order_made : value ≢ old → (n : Statements) → n ≡ put_at m path value → IsOpen m (length path) path → IsPartMade m (Ok (put_at m path value)) (λ _. ⊥) (Ok (Some n))
  order_made h n e free =
      subst (λ (x : Statements). IsPartMade m (Ok (put_at m path value)) (λ _. ⊥) (Ok (Some x))) (sym e)
      (let_pass m (put_at m path value) path (length path) nothing_spared (near_on_way m (put_at m path value) path nothing_spared (put_near m path value)) (differs h)
      (λ q on _. below_short q path on) (λ found first f. f) free)

  pub order_refused : value ≢ old → (fault : EditFault) → IsGuardFault m (length path) path fault → IsPartMade m (Ok (put_at m path value)) (λ _. ⊥) (Err fault)
  order_refused h =
      refused m (put_at m path value) path (length path) nothing_spared (near_on_way m (put_at m path value) path nothing_spared (put_near m path value)) (differs h)
      (λ q on _. below_short q path on) (λ found first f. f)

  pub order_room : (fault : EditFault) → IsRoomFault m path fault → IsPartMade m (Ok (put_at m path value)) (λ _. ⊥) (Err fault)
  order_room TooMany e = let k = sym again.found ∙ e.0 in cc
  order_room NoMemory e = tt
  order_room (Unknown p) e = absurd e
  order_room (BadValue p) e = absurd e
  order_room (Incomplete p) e = absurd e
  order_room (Extra p) e = absurd e
  order_room (NotNamed p) e = absurd e
  order_room (NotOrdered p) e = absurd e
  order_room (NotThere p) e = absurd e
  order_room (AlreadyThere p) e = absurd e
  order_room (Protected p) e = absurd e

-- a test of two values
pub value_differs : (old value : Value) → false ≡ (equal.ghosts).eq old value → value ≢ old
value_differs old value e same = let k = e ∙ (same_value old value).1 (sym same) in cc

pub value_same : (old value : Value) → true ≡ (equal.ghosts).eq old value → value ≡ old
value_same old value e = sym ((same_value old value).0 (sym e))

module _ (m : Statements) (before : Bool) (path anchor : List Step) (tree : IsTree m) (beside : IsBesidePath path anchor)
    (allowed : IsUnrefused (insert_causes m path anchor)) where
  one : (not (is_name_for path anchor) ≡ false)
      × IsUnrefused ((not (is_ordered path), NotOrdered path) ∷ (is_none (map.get m path), NotThere path) ∷ (is_none (map.get m anchor), NotThere anchor) ∷ [])
  one =
      first_holds_not (not (is_name_for path anchor), NotNamed path)
      ((not (is_ordered path), NotOrdered path) ∷ (is_none (map.get m path), NotThere path) ∷ (is_none (map.get m anchor), NotThere anchor) ∷ []) allowed

  two : (not (is_ordered path) ≡ false) × IsUnrefused ((is_none (map.get m path), NotThere path) ∷ (is_none (map.get m anchor), NotThere anchor) ∷ [])
  two =
      first_holds_not (not (is_ordered path), NotOrdered path)
      ((is_none (map.get m path), NotThere path) ∷ (is_none (map.get m anchor), NotThere anchor) ∷ []) one.1

  three : (is_none (map.get m path) ≡ false) × IsUnrefused ((is_none (map.get m anchor), NotThere anchor) ∷ [])
  three = first_holds_not (is_none (map.get m path), NotThere path) ((is_none (map.get m anchor), NotThere anchor) ∷ []) two.1

  named : is_name_for path anchor ≡ true
  named = not_is_false (is_name_for path anchor) one.0

  ordered : is_ordered path ≡ true
  ordered = not_is_false (is_ordered path) two.0

  path_there : IsSome (map.get m path)
  path_there = is_there (map.get m path) three.0

  anchor_there : IsSome (map.get m anchor)
  anchor_there = is_there (map.get m anchor) (first_holds_not (is_none (map.get m anchor), NotThere anchor) [] three.1).0

  pub anchor_steps : 0 < length anchor
  anchor_steps = other_steps path anchor beside named

  parents : parent_of anchor ≡ parent_of path
  parents = same_parents path anchor beside named

  heads : (last_of anchor).head ≡ (last_of path).head
  heads =
      let typed = tree.typed.paths path path_there
      in same_heads path anchor beside.steps anchor_steps typed beside.typed parents (same_place path anchor beside named typed)

  -- the names of the children are the same
  order_by : (o : Option (List ℕ)) (names : List (List ℕ)) → has_head o (last_of path) ≡ true → IsOrderBy m (parent_of path) o names
      → IsOrderBy m (parent_of path) o (moved_beside before (last_of path).name (last_of anchor).name names)
  order_by None names headed order = cc
  order_by (Some h) names headed order = record {
    once = distinct-moved before (last_of path).name (last_of anchor).name names order.once;
    each = λ name. lists-moved before (last_of path).name (last_of anchor).name names name
        (order.each (last_of path).name ∙ ap (λ (p : List Step). is_some (map.get m p)) (child path refl beside.steps head) ∙ path_there)
        (order.each (last_of anchor).name ∙ ap (λ (p : List Step). is_some (map.get m p)) (child anchor parents anchor_steps (head ∙ sym heads)) ∙ anchor_there)
        ∙ order.each name;
  }
    where
      head : h ≡ (last_of path).head
      head = same _ _ headed

      child : (p : List Step) → parent_of p ≡ parent_of path → 0 < length p → h ≡ (last_of p).head → parent_of path ++ step_of h (last_of p).name ∷ [] ≡ p
      child p above some e =
          ap (λ (x : List ℕ). parent_of path ++ step_of x (last_of p).name ∷ []) e
          ∙ ap (λ (q : List Step). q ++ last_of p ∷ []) (sym above) ∙ sym (split p some)

  pub moved_order : (old value : Value) → map.get m (parent_of path) ≡ Some old
      → value ≡ record old { order = moved_beside before (last_of path).name (last_of anchor).name old.order } → IsReordered m (parent_of path) old value
  moved_order old value found e = record {
    found = found;
    order = subst (λ (v : Value). IsOrderOf m (parent_of path) v.order) (sym e)
        (order_by (ordered_head (place_of (parent_of path))) old.order ordered (tree.statements.orders (parent_of path) old found));
    words = ap (λ (v : Value). v.words) e;
  }

  -- what is inserted is another order of the parent
  pub insert_is : (old value : Value) → map.get m (parent_of path) ≡ Some old
      → value ≡ record old { order = moved_beside before (last_of path).name (last_of anchor).name old.order }
      → inserted_at m before path anchor ≡ Ok (put_at m (parent_of path) value)
  insert_is old value found e =
      allowed (inserted m before path anchor)
      ∙ ap (λ (x : Statements). Ok x)
      (ap (with_order_of m (parent_of path) (moved_beside before (last_of path).name (last_of anchor).name)) found
      ∙ ap (map.insert m (parent_of path)) (sym e)
      ∙ sym (put_there m (parent_of path) old value found))
