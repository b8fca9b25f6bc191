-- What is taken away.
use Rattle.std.proofs.Common.{◌≡◌, ◌≢◌, ◌⊎◌, ℕ, ◌-◌, ◌==◌, ◌<◌, Bool, true, false, List, [], ◌∷◌, length, refl, sym, ap, subst, ◌∙◌, Option, Some, None, Ok, Err, if◌then◌else◌}
use Rattle.std.specs.Prelude.{IsSome}
use Rattle.std.specs.List.{list_all}
use Rattle.std.specs.FinMap as map
use Rattle.cfg_base.specs.declared.path.Step.{Step}
use Rattle.cfg_base.specs.declared.value.Value.{Value}
use Rattle.cfg_tree.specs.Statements.{Statements, parent_of, last_of, is_below}
use Rattle.cfg_tree.specs.Tree.{lists}
use Rattle.cfg_tree.specs.Change.{is_ordered, without, with_order, put_at, removed, cleared}
use Rattle.cfg_tree.proofs.BelowLemmas.{below_self}
use Rattle.cfg_tree.proofs.TypedLemmas.{not_both}
use Rattle.cfg_tree.proofs.PathLemmas.{order_other}
use Rattle.cfg_tree.proofs.StepLemmas.{cleared_below, cleared_other, parent_out, below_out}
use Rattle.edit_ops.specs.declared.fault.EditFault.{EditFault}
use Rattle.edit_ops.specs.declared.fault.EditFault.TheVariants.{Unknown, BadValue, Incomplete, Extra, NotNamed, NotOrdered, NotThere, AlreadyThere, Protected, TooMany, NoMemory}
use Rattle.edit_ops.specs.Block.{Blocks}
use Rattle.edit_ops.specs.Value.{words_without}
use Rattle.edit_ops.specs.Change.{left_at, deleted_of, marked}
use Rattle.edit_ops.specs.Made.{IsOpen, IsGuardFault, IsOpenBelow, IsBelowFault, IsPartMade}
use Rattle.edit_ops.proofs.WayLemmas.{take_below}
use Rattle.edit_ops.proofs.BlockLemmas.{nothing_spared, on_way_or_below, taken_free, taken_blocked, taken_blocked_below}

removed_by_gone : (m : Statements) (path q : List Step) (b : Bool) → 0 < length path → is_below path q ≡ true
    → map.get (if b then with_order (cleared m path) (parent_of path) (without (last_of path).name) else cleared m path) q ≡ None
removed_by_gone m path q true long h = order_other _ (parent_of path) q _ (below_out path q h (parent_out path long)) ∙ cleared_below m path q h
removed_by_gone m path q false long h = cleared_below m path q h

removed_by_other : (m : Statements) (path q : List Step) (b : Bool) → is_below path q ≡ false → is_below q path ≡ false
    → map.get (if b then with_order (cleared m path) (parent_of path) (without (last_of path).name) else cleared m path) q ≡ map.get m q
removed_by_other m path q true h k =
    order_other _ (parent_of path) q _
    (λ e. not_both _ (ap (λ (p : List Step). is_below p path) e ∙ take_below (length path - 1) path) k)
    ∙ cleared_other m path q h
removed_by_other m path q false h k = cleared_other m path q h

module _ (m : Statements) (path : List Step) (long : 0 < length path) (there : IsSome (map.get m path)) where
  old : (value : Value) × (map.get m path ≡ Some value)
  old = by_value (map.get m path) refl there
    where
      by_value : (o : Option Value) → map.get m path ≡ o → IsSome o → (value : Value) × (map.get m path ≡ Some value)
      by_value None e h = cc
      by_value (Some value) e h = (value, e)

  gone : (q : List Step) → is_below path q ≡ true → map.get (removed m path) q ≡ None
  gone q h = removed_by_gone m path q (is_ordered path) long h

  stays : (q : List Step) → is_below path q ≡ false → is_below q path ≡ false → map.get (removed m path) q ≡ map.get m q
  stays q h k = removed_by_other m path q (is_ordered path) h k

  near : (q : List Step) → Blocks m (removed m path) nothing_spared q → (is_below q path ≡ true) ⊎ (is_below path q ≡ true)
  near = on_way_or_below m (removed m path) path stays

  differs : removed m path ≢ m
  differs e =
      let (value, found) = old
      in let k = sym found ∙ ap (λ (x : Statements). map.get x path) (sym e) ∙ gone path (below_self path) in cc

  pub taken : (n : Statements) → n ≡ removed m path → IsOpen m (length path) path → IsOpenBelow m path
      → IsPartMade m (Ok (removed m path)) (λ _. ⊥) (Ok (Some n))
  taken n e free below =
      subst (λ (x : Statements). IsPartMade m (Ok (removed m path)) (λ _. ⊥) (Ok (Some x))) (sym e)
      (refl, differs, taken_free m (removed m path) path old.0 old.1 gone near free below)

  pub take_refused : (fault : EditFault) → IsGuardFault m (length path) path fault → IsPartMade m (Ok (removed m path)) (λ _. ⊥) (Err fault)
  take_refused (Unknown p) e = absurd e
  take_refused (BadValue p) e = absurd e
  take_refused (Incomplete p) e = absurd e
  take_refused (Extra p) e = absurd e
  take_refused (NotThere p) e = absurd e
  take_refused (NotNamed p) e = absurd e
  take_refused (NotOrdered p) e = absurd e
  take_refused (AlreadyThere p) e = absurd e
  take_refused (Protected p) first = (removed m path, refl, taken_blocked m (removed m path) path old.0 old.1 gone near (length path) p first)
  take_refused TooMany e = absurd e
  take_refused NoMemory e = tt

  pub take_refused_below : (fault : EditFault) → IsOpen m (length path) path → IsBelowFault m path fault
      → IsPartMade m (Ok (removed m path)) (λ _. ⊥) (Err fault)
  take_refused_below (Unknown p) free e = absurd e
  take_refused_below (BadValue p) free e = absurd e
  take_refused_below (Incomplete p) free e = absurd e
  take_refused_below (Extra p) free e = absurd e
  take_refused_below (NotThere p) free e = absurd e
  take_refused_below (NotNamed p) free e = absurd e
  take_refused_below (NotOrdered p) free e = absurd e
  take_refused_below (AlreadyThere p) free e = absurd e
  take_refused_below (Protected p) free first =
      (removed m path, refl, taken_blocked_below m (removed m path) path old.0 old.1 gone near p free first)
  take_refused_below TooMany free e = absurd e
  take_refused_below NoMemory free e = tt

-- words are left: the statement is put with them
pub left_is : (m : Statements) (path : List Step) (value : Value) (left : List (List ℕ)) → false ≡ (length left == 0)
    → left_at m path value left ≡ put_at m path (record value { words = left })
left_is m path value [] h = cc
left_is m path value (word ∷ left) h = refl

-- words that are there are taken
pub deleted_is : (m : Statements) (path : List Step) (o : Option Value) (value : Value) (words : List (List ℕ)) → Some value ≡ o
    → false ≡ (length words == 0) → list_all (lists value.words) words ≡ true
    → deleted_of m path o words ≡ Some (left_at m path value (words_without value.words words))
deleted_is m path o value [] e h all = cc
deleted_is m path o value (word ∷ words) e h all =
    ap (λ (x : Option Value). deleted_of m path x (word ∷ words)) (sym e)
    ∙ ap (λ (b : Bool). if b then Some (left_at m path value (words_without value.words (word ∷ words))) else None) all

-- a mark of a statement that is there
pub mark_is : (m : Statements) (path : List Step) (o : Option Value) (value : Value) (f : Value → Value) → Some value ≡ o
    → marked m path o f ≡ Some (put_at m path (f value))
mark_is m path o value f e = ap (λ (x : Option Value). marked m path x f) (sym e)

-- values of the same fields
pub same_fields : (v w : Value) → (v.inactive ≡ w.inactive) × ((v.protected ≡ w.protected) × ((v.order ≡ w.order) × (v.words ≡ w.words))) → v ≡ w
same_fields v w (i, (p, (o, ws))) = λ k. record { inactive = i k; protected = p k; order = o k; words = ws k }
