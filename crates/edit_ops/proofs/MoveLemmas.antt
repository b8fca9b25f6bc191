-- Another name for a statement, a copy of it, and another place in the order: what keeps them, and what is refused.
use Rattle.std.proofs.Common.{◌≡◌, ◌≢◌, ◌⊎◌, inl, ⊎_elim, ◌==◌, eqb-true, ◌-◌, ◌≤◌, ◌<◌, Bool, true, false, not, List, [], ◌∷◌, ◌++◌, length, length-append, append-nil, refl, sym, ap, subst, ◌∙◌, Option, Some, None, Result, Ok, Err, is_some, is_none, arith, if◌then◌else◌}
use Rattle.std.specs.Prelude.{IsSome}
use Rattle.std.specs.FinMap as map
use Rattle.cfg_base.specs.declared.path.Step.{Step}
use Rattle.cfg_base.specs.declared.value.Value.{Value}
use Rattle.cfg_schema.specs.declared.place.Place.{Place}
use Rattle.cfg_schema.specs.Place.{place_of}
use Rattle.cfg_schema.proofs.TestLemmas.{both, not_is_false}
use Rattle.cfg_tree.specs.declared.moving.CopyFault.{CopyFault}
use Rattle.cfg_tree.specs.declared.moving.CopyFault.TheVariants as copy
use Rattle.cfg_tree.specs.Statements.{Statements, parent_of, last_of, is_below}
use Rattle.cfg_tree.specs.Typed.{IsTypedPath}
use Rattle.cfg_tree.specs.Tree.{IsTree}
use Rattle.cfg_tree.specs.Moving.{IsNewName, IsCopyFault, Moves, renamed, copied, names_copied, names_renamed}
use Rattle.cfg_tree.proofs.PathLemmas.{split, child_longer, same_or_not}
use Rattle.cfg_tree.proofs.BelowLemmas.{below_self, below_first}
use Rattle.cfg_tree.proofs.OnceLemmas.{below_rest}
use Rattle.cfg_tree.proofs.BesideLemmas.{parent_behind, none_new, same_places}
use Rattle.cfg_tree.proofs.PartLemmas.{below_more_steps}
use Rattle.cfg_tree.proofs.MovesLemmas.{by_place}
use Rattle.cfg_tree.proofs.RenamedLemmas.{renamed_moves, copied_moves}
use Rattle.edit_ops.specs.declared.fault.EditFault.{EditFault}
use Rattle.edit_ops.specs.declared.fault.EditFault.TheVariants.{Unknown, BadValue, Incomplete, Extra, NotNamed, NotOrdered, NotThere, AlreadyThere, Protected, TooMany, NoMemory}
use Rattle.edit_ops.specs.Value.{at_row, has_name}
use Rattle.edit_ops.specs.Change.{same_row, is_name_for, Cause, unless, move_causes, renamed_to, copied_to}
use Rattle.edit_ops.specs.Block.{IsProtected, Blocks}
use Rattle.edit_ops.specs.Made.{IsBesidePath, IsCause, IsUnrefused, IsOpen, IsGuardFault, IsOpenBelow, IsBelowFault, IsPartMade, fault_of_copy}
use Rattle.edit_ops.proofs.WayLemmas.{take_below, below_short, below_trans, comparable, on_way_or_not}
use Rattle.edit_ops.proofs.BlockLemmas.{nothing_spared, taken_free, taken_blocked, taken_blocked_below}
use Rattle.edit_ops.proofs.SetLemmas.{let_pass, crowded, refused}

-- where no cause holds, the first doesn't, and none of the others
pub first_holds_not : (cause : Cause) (causes : List Cause) → IsUnrefused (cause ∷ causes) → (cause.0 ≡ false) × IsUnrefused causes
first_holds_not cause causes none = by_test _ refl
  where
    clash : (n : Statements) → cause.0 ≡ true → ⊥
    clash n e = let k : Err cause.1 ≡ Ok n = sym (ap (λ (b : Bool). if b then Err cause.1 else unless causes n) e) ∙ none n in cc

    by_test : (b : Bool) → cause.0 ≡ b → (cause.0 ≡ false) × IsUnrefused causes
    by_test true e = absurd (clash map.empty e)
    by_test false e = (e, λ n. sym (ap (λ (b : Bool). if b then Err cause.1 else unless causes n) e) ∙ none n)

-- a cause that holds refuses the change
pub cause_refuses : (m n : Statements) (causes : List Cause) (spared : List Step → Type 0) (fault : EditFault) → IsCause causes fault
    → IsPartMade m (unless causes n) spared (Err fault)
cause_refuses m n causes spared (Protected p) c = absurd c
cause_refuses m n causes spared TooMany c = absurd c
cause_refuses m n causes spared NoMemory c = tt
cause_refuses m n causes spared (Unknown p) c = c n
cause_refuses m n causes spared (BadValue p) c = c n
cause_refuses m n causes spared (Incomplete p) c = c n
cause_refuses m n causes spared (Extra p) c = c n
cause_refuses m n causes spared (NotNamed p) c = c n
cause_refuses m n causes spared (NotOrdered p) c = c n
cause_refuses m n causes spared (NotThere p) c = c n
cause_refuses m n causes spared (AlreadyThere p) c = c n

pub is_there : (o : Option Value) → is_none o ≡ false → IsSome o
is_there None e = cc
is_there (Some v) e = refl

some_is : (o : Option Value) → IsSome o → (v : Value) × (o ≡ Some v)
some_is None h = cc
some_is (Some v) h = (v, refl)

is_absent : (o : Option Value) → is_some o ≡ false → o ≡ None
is_absent None e = refl
is_absent (Some v) e = cc

-- what another name for a statement is
record SameRow (path other : List Step) : Type 0 where
  here : Place
  there : Place
  at_path : place_of path ≡ Some here
  at_other : place_of other ≡ Some there
  rows : here.row ≡ there.row

same_rows : (path other : List Step) → same_row (place_of path) (place_of other) ≡ true → SameRow path other
same_rows path other = by_places _ _ refl refl
  where
    by_places : (a b : Option Place) → place_of path ≡ a → place_of other ≡ b → same_row a b ≡ true → SameRow path other
    by_places None b e f h = cc
    by_places (Some here) None e f h = cc
    by_places (Some here) (Some there) e f h = record { here = here; there = there; at_path = e; at_other = f; rows = eqb-true here.row there.row h }

one_more : (rest : List Step) → length rest ≡ 1 → parent_of rest ≡ []
one_more [] e = absurd (omega (arith, e))
one_more (s ∷ []) e = refl
one_more (s ∷ t ∷ rest) e = absurd (omega (arith, e))

module _ (path other : List Step) (beside : IsBesidePath path other) (named : is_name_for path other ≡ true) where
  parts : (length other ≡ length path) × SameRow path other
  parts =
      let inner = both (length other == length path) _ (both (at_row has_name (place_of path)) _ named).1
      in (eqb-true (length other) (length path) inner.0, same_rows path other inner.1)

  pub other_steps : 0 < length other
  other_steps = let some = beside.steps in let same = parts.0 in omega (arith, some, same)

  pub same_parents : parent_of other ≡ parent_of path
  same_parents =
      ap parent_of beside.below ∙ parent_behind (parent_of path) beside.rest beside.some
      ∙ ap (λ (r : List Step). parent_of path ++ r) (one_more beside.rest alone) ∙ append-nil (parent_of path)
    where
      alone : length beside.rest ≡ 1
      alone =
          let whole = ap (λ (p : List Step). length p) beside.below
          in let one = ap (λ (p : List Step). length p) (split path beside.steps)
          in omega (arith, whole, parts.0, one, child_longer (parent_of path) (last_of path), length-append (parent_of path) beside.rest)

  pub same_place : IsTypedPath path → place_of other ≡ place_of path
  same_place typed =
      same_places path other parts.1.here parts.1.there beside.steps other_steps typed beside.typed same_parents parts.1.at_path parts.1.at_other parts.1.rows

module _ (m : Statements) (path other : List Step) (tree : IsTree m) (beside : IsBesidePath path other) (allowed : IsUnrefused (move_causes m path other)) where
  none_named : (not (is_name_for path other) ≡ false) × IsUnrefused ((is_none (map.get m path), NotThere path) ∷ (is_some (map.get m other), AlreadyThere other) ∷ [])
  none_named = first_holds_not (not (is_name_for path other), NotNamed path) ((is_none (map.get m path), NotThere path) ∷ (is_some (map.get m other), AlreadyThere other) ∷ []) allowed

  none_missing : (is_none (map.get m path) ≡ false) × IsUnrefused ((is_some (map.get m other), AlreadyThere other) ∷ [])
  none_missing = first_holds_not (is_none (map.get m path), NotThere path) ((is_some (map.get m other), AlreadyThere other) ∷ []) none_named.1

  named : is_name_for path other ≡ true
  named = not_is_false (is_name_for path other) none_named.0

  there : IsSome (map.get m path)
  there = is_there (map.get m path) none_missing.0

  none : map.get m other ≡ None
  none = is_absent (map.get m other) (first_holds_not (is_some (map.get m other), AlreadyThere other) [] none_missing.1).0

  pub new_name : IsNewName m path other
  new_name = record {
    there = there;
    none = none;
    steps = other_steps path other beside named;
    typed = beside.typed;
    beside = same_parents path other beside named;
    row = same_place path other beside named (tree.typed.paths path there);
  }

  old : (v : Value) × (map.get m path ≡ Some v)
  old = some_is (map.get m path) there

  -- nothing at the new name or below it is there, so nothing there is protected
  not_new : (q rest : List Step) → IsProtected m q → q ≡ other ++ rest → ⊥
  not_new q rest p e = let gone = ap (map.get m) e ∙ none_new m path other tree.statements new_name rest in let k = sym p.found ∙ gone in cc

  -- what is protected on the way to the new name is on the way to the parent
  on_parent : (q : List Step) → IsProtected m q → is_below q other ≡ true → is_below q (parent_of other) ≡ true
  on_parent q p on =
      on_way_or_not q (parent_of other) (is_below q (parent_of other) ≡ true) (λ e. e)
      (λ e. absurd (not_new q [] p
      (below_first q (parent_of other) (last_of other) (ap (is_below q) (sym (split other new_name.steps)) ∙ on) e
      ∙ sym (split other new_name.steps) ∙ sym (append-nil other))))

  above_path : (q : List Step) → is_below q (parent_of path) ≡ true → is_below q path ≡ true
  above_path q on = below_trans q (parent_of path) path on (take_below (length path - 1) path)

  above_other : (q : List Step) → is_below q (parent_of path) ≡ true → is_below q other ≡ true
  above_other q on =
      below_trans q (parent_of other) other (ap (is_below q) new_name.beside ∙ on) (take_below (length other - 1) other)

  -- what is above a place at the new name or below it, and protected, is on the way to the new name
  at_new : (q place rest : List Step) → IsProtected m q → is_below q place ≡ true → place ≡ other ++ rest → is_below q other ≡ true
  at_new q place rest p below e =
      ⊎_elim (λ on. on)
      (λ under. let r = below_rest other q under in absurd (not_new q r.0 p r.1))
      (comparable q other place below (ap (is_below other) e ∙ below_more_steps other rest))

  rename_moves : Moves m (renamed m path other) path other false (names_renamed path other)
  rename_moves = renamed_moves m path other tree new_name

  gone : (q : List Step) → is_below path q ≡ true → map.get (renamed m path other) q ≡ None
  gone q h = let r = below_rest path q h in ap (map.get (renamed m path other)) r.1 ∙ rename_moves.old r.0

  -- what keeps another name is on the way to the statement or below it
  near_or_below : (q : List Step) → Blocks m (renamed m path other) nothing_spared q → (is_below q path ≡ true) ⊎ (is_below path q ≡ true)
  near_or_below q b =
      by_place m (renamed m path other) path other false (names_renamed path other) tree new_name rename_moves b.differs.place
      ((is_below q path ≡ true) ⊎ (is_below path q ≡ true))
      (λ rest e. inl (above_path q (ap (is_below q) (sym new_name.beside) ∙ on_parent q b.is_protected (at_new q b.differs.place rest b.is_protected b.differs.below e))))
      (λ rest e. comparable q path b.differs.place b.differs.below (ap (is_below path) e ∙ below_more_steps path rest))
      (λ out_path out_other. same_or_not b.differs.place (parent_of path) ((is_below q path ≡ true) ⊎ (is_below path q ≡ true))
      (λ same. inl (above_path q (ap (is_below q) (sym same) ∙ b.differs.below)))
      (λ differs. absurd (b.differs.differs (sym (rename_moves.others b.differs.place out_path out_other differs)))))

  renamed_differs : renamed m path other ≢ m
  renamed_differs e =
      let k = sym old.1 ∙ ap (λ (x : Statements). map.get x path) (sym e) ∙ gone path (below_self path) in cc

  made_rename : (r : Result (Option Statements) EditFault) → IsPartMade m (Ok (renamed m path other)) nothing_spared r → IsPartMade m (renamed_to m path other) nothing_spared r
  made_rename r h = subst (λ (g : Result Statements EditFault). IsPartMade m g nothing_spared r) (sym (allowed (renamed m path other))) h

  pub rename_made : (n : Statements) → n ≡ renamed m path other → IsOpen m (length path) path → IsOpenBelow m path
      → IsPartMade m (renamed_to m path other) (λ _. ⊥) (Ok (Some n))
  rename_made n e free below =
      made_rename (Ok (Some n))
      (subst (λ (x : Statements). IsPartMade m (Ok (renamed m path other)) (λ _. ⊥) (Ok (Some x))) (sym e)
      (refl, renamed_differs, taken_free m (renamed m path other) path old.0 old.1 gone near_or_below free below))

  pub rename_refused : (fault : EditFault) → IsGuardFault m (length path) path fault → IsPartMade m (renamed_to m path other) (λ _. ⊥) (Err fault)
  rename_refused (Protected p) first =
      made_rename (Err (Protected p))
      (renamed m path other, refl, taken_blocked m (renamed m path other) path old.0 old.1 gone near_or_below (length path) p first)
  rename_refused NoMemory e = tt
  rename_refused (Unknown p) e = absurd e
  rename_refused (BadValue p) e = absurd e
  rename_refused (Incomplete p) e = absurd e
  rename_refused (Extra p) e = absurd e
  rename_refused (NotNamed p) e = absurd e
  rename_refused (NotOrdered p) e = absurd e
  rename_refused (NotThere p) e = absurd e
  rename_refused (AlreadyThere p) e = absurd e
  rename_refused TooMany e = absurd e

  pub rename_refused_below : (fault : EditFault) → IsOpen m (length path) path → IsBelowFault m path fault → IsPartMade m (renamed_to m path other) (λ _. ⊥) (Err fault)
  rename_refused_below (Protected p) free first =
      made_rename (Err (Protected p))
      (renamed m path other, refl, taken_blocked_below m (renamed m path other) path old.0 old.1 gone near_or_below p free first)
  rename_refused_below NoMemory free e = tt
  rename_refused_below (Unknown p) free e = absurd e
  rename_refused_below (BadValue p) free e = absurd e
  rename_refused_below (Incomplete p) free e = absurd e
  rename_refused_below (Extra p) free e = absurd e
  rename_refused_below (NotNamed p) free e = absurd e
  rename_refused_below (NotOrdered p) free e = absurd e
  rename_refused_below (NotThere p) free e = absurd e
  rename_refused_below (AlreadyThere p) free e = absurd e
  rename_refused_below TooMany free e = absurd e

  copy_moves : Moves m (copied m path other) path other true (names_copied other)
  copy_moves = copied_moves m path other tree new_name

  -- what keeps a copy is on the way to it
  copy_way : (q : List Step) → Blocks m (copied m path other) nothing_spared q → is_below q other ≡ true
  copy_way q b =
      by_place m (copied m path other) path other true (names_copied other) tree new_name copy_moves b.differs.place (is_below q other ≡ true)
      (λ rest e. at_new q b.differs.place rest b.is_protected b.differs.below e)
      (λ rest e. absurd (b.differs.differs (ap (map.get m) e ∙ sym (copy_moves.old rest) ∙ ap (map.get (copied m path other)) (sym e))))
      (λ out_path out_other. same_or_not b.differs.place (parent_of path) (is_below q other ≡ true)
      (λ same. above_other q (ap (is_below q) (sym same) ∙ b.differs.below))
      (λ differs. absurd (b.differs.differs (sym (copy_moves.others b.differs.place out_path out_other differs)))))

  copied_differs : map.get m other ≢ map.get (copied m path other) other
  copied_differs e =
      let k = sym none ∙ e ∙ ap (map.get (copied m path other)) (sym (append-nil other)) ∙ copy_moves.new [] ∙ ap (map.get m) (append-nil path) ∙ old.1 in cc

  made_copy : (r : Result (Option Statements) EditFault) → IsPartMade m (Ok (copied m path other)) nothing_spared r → IsPartMade m (copied_to m path other) nothing_spared r
  made_copy r h = subst (λ (g : Result Statements EditFault). IsPartMade m g nothing_spared r) (sym (allowed (copied m path other))) h

  all_guarded : (q : List Step) → is_below q other ≡ true → ¬ ⊥ → length q ≤ length other
  all_guarded q on h = below_short q other on

  pub copy_made : (n : Statements) → n ≡ copied m path other → IsOpen m (length other) other → IsPartMade m (copied_to m path other) (λ _. ⊥) (Ok (Some n))
  copy_made n e free =
      made_copy (Ok (Some n))
      (subst (λ (x : Statements). IsPartMade m (Ok (copied m path other)) (λ _. ⊥) (Ok (Some x))) (sym e)
      (let_pass m (copied m path other) other (length other) nothing_spared copy_way copied_differs all_guarded (λ found first f. f) free))

  pub copy_refused : (fault : EditFault) → IsGuardFault m (length other) other fault → IsPartMade m (copied_to m path other) (λ _. ⊥) (Err fault)
  copy_refused fault e =
      made_copy (Err fault)
      (refused m (copied m path other) other (length other) nothing_spared copy_way copied_differs all_guarded (λ found first f. f) fault e)

  pub copy_crowded : (why : CopyFault) → IsOpen m (length other) other → IsCopyFault m path other why → IsPartMade m (copied_to m path other) (λ _. ⊥) (Err (fault_of_copy why))
  copy_crowded copy.TooMany free many =
      made_copy (Err TooMany)
      (crowded m (copied m path other) other (length other) nothing_spared copy_way copied_differs all_guarded (λ found first f. f) free many)
  copy_crowded copy.NoMemory free e = tt
