-- The lines of a configuration make it.
use Rattle.std.proofs.Common.{◌≡◌, ◌≢◌, ℕ, ◌+◌, ◌<◌, ◌≤◌, Bool, true, false, ◌||◌, ◌&&◌, List, [], ◌∷◌, ◌++◌, length, flat_map, refl, sym, ap, subst, ◌∙◌, Option, Some, None, is_some, option_map, append-nil, Result, Ok}
use Rattle.std.specs.FinMap as map
use Rattle.std.specs.List.{list_any, AllByRecursion}
use Rattle.std.specs.Ordering.{eq_by_cmp}
use Rattle.cfg_base.specs.Order.{path_cmp}
use Rattle.commands.specs.declared.command.Op.TheVariants as op
use Rattle.cfg_base.specs.declared.path.Step.{Step}
use Rattle.cfg_base.specs.declared.path.TheConstants.{MAX_STEPS}
use Rattle.cfg_base.specs.declared.value.Value.{Value}
use Rattle.cfg_lex.specs.Printed.{IsPrintable}
use Rattle.cfg_schema.specs.declared.place.Place.{Place}
use Rattle.cfg_schema.specs.Profile.{profile, row_of}
use Rattle.cfg_schema.specs.Place.{top_place, place_of}
use Rattle.cfg_tree.specs.declared.limit.TheConstants.{MAX_STATEMENTS}
use Rattle.cfg_resolve.specs.declared.target.Target.{Target}
use Rattle.cfg_resolve.specs.declared.target.WordsFault.{WordsFault}
use Rattle.cfg_tree.specs.Statements.{Statements, size_of, is_below}
use Rattle.cfg_tree.specs.Typed.{FollowsFrom}
use Rattle.cfg_tree.specs.Tree.{IsTree}
use Rattle.cfg_tree.specs.Change.{put_at}
use Rattle.cfg_tree.specs.OwnWords.{words_of_step, own_words}
use Rattle.cfg_resolve.specs.Resolve.{Reads, no_words, refused, whole, ended, goes_on, ResolvesTo, target}
use Rattle.cfg_tree.specs.Stated.{stated}
use Rattle.cfg_tree.proofs.FollowLemmas.{typed_place}
use Rattle.cfg_tree.proofs.MapLemmas.{same_statements}
use Rattle.cfg_tree.proofs.PathLemmas.{same_or_not, get_other}
use Rattle.edit_ops.specs.Change.{marked, if_there}
use Rattle.edit_ops.specs.Answer.{IsChange}
use Rattle.edit_ops.specs.Block.{IsFree, IsSpared}
use Rattle.edit_ops.proofs.NearLemmas.{put_there}
use Rattle.set_text.specs.Printed.{Line, deactivate_line, protect_line, deactivates_in, protects_in, deactivates_of, protects_of, paths_below, opens_at, shown_by, lines_shown, lines_of, printed_set}
use Rattle.set_text.specs.Back.{changes_of, IsReadable, AreReadable}
use Rattle.set_text.proofs.BackLemmas.{read_back}
use Rattle.curly_text.proofs.FillLemmas.{items_below}
use Rattle.curly_text.proofs.PrintableLemmas.{AllPrintable, words_printable}
use Rattle.curly_text.proofs.WrittenLemmas.{own_printable}
use Rattle.load_ops.specs.Lines.{AreMade, IsLineLoad}
use Rattle.set_laws.specs.Apart.{IsProtectedApart}
use Rattle.set_laws.proofs.SetLemmas.{SetsAll, Below, bare}
use Rattle.set_laws.proofs.FillLemmas.{set_lines, sets_from_none}
use Rattle.set_laws.proofs.BareLemmas.{bare_is, bare_size, printed_there}
use Rattle.set_laws.proofs.ChangeLemmas.{made_both, named, named_alone, sets_made}
use Rattle.set_laws.proofs.MarkLemmas.{after, after_has, marks_made}

-- what stands at a path before and after its inactive mark was met, and its protected mark
abbrev with_inactive : Bool → Value → Value
with_inactive met v = record v { inactive = met && v.inactive; protected = false }

abbrev with_protected : Bool → Value → Value
with_protected met v = record v { protected = met && v.protected }

abbrev no_path : List Step → Bool
no_path q = false

false_by : (b : Bool) → (b && false) ≡ false
false_by true = refl
false_by false = refl

inactive_kept : (b : Bool) (v : Value) → v.inactive ≡ false → with_inactive b v ≡ with_inactive true v
inactive_kept b v e =
    ap (λ (c : Bool). record v { inactive = b && c; protected = false }) e
    ∙ ap (λ (c : Bool). record v { inactive = c; protected = false }) (false_by b ∙ sym e)

protected_kept : (b : Bool) (v : Value) → v.protected ≡ false → with_protected b v ≡ with_protected true v
protected_kept b v e =
    ap (λ (c : Bool). record v { protected = b && c }) e
    ∙ ap (λ (c : Bool). record v { protected = c }) (false_by b ∙ sym e)

inactive_apart : (v : Value) → v.inactive ≡ true → with_inactive false v ≢ with_inactive true v
inactive_apart v e same = let f = ap (λ (w : Value). w.inactive) same in cc

protected_apart : (v : Value) → v.protected ≡ true → with_protected false v ≢ with_protected true v
protected_apart v e same = let f = ap (λ (w : Value). w.protected) same in cc

-- the lines of the marks of a statement
module _ (m : Statements) (tree : IsTree m) (kept : IsProtectedApart m) where
  inactive_line : (path : List Step) (v : Value) (number : ℕ) (x y : Statements) → map.get m path ≡ Some v → v.inactive ≡ true → (told : Bool) → IsChange x y [] (op.Deactivate (own_words path)) told
      → AreMade x (changes_of number (deactivates_of m path)) y
  inactive_line path v number x y found e told change =
      subst (λ (ls : List Line). AreMade x (changes_of number ls) y)
      (sym (ap (deactivates_in path) found ∙ inactive_is path v e))
      (y, told, change, refl)
    where
      inactive_is : (q : List Step) (w : Value) → w.inactive ≡ true → deactivates_in q (Some w) ≡ deactivate_line (own_words q) ∷ []
      inactive_is q w f = by_mark w.inactive f
        where
          by_mark : (b : Bool) → b ≡ true → deactivates_in q (Some (record w { inactive = b })) ≡ deactivate_line (own_words q) ∷ []
          by_mark true g = refl
          by_mark false g = absurd cc

  no_inactive_line : (path : List Step) (v : Value) → map.get m path ≡ Some v → v.inactive ≡ false → deactivates_of m path ≡ []
  no_inactive_line path v found e = ap (deactivates_in path) found ∙ by_mark v.inactive e
    where
      by_mark : (b : Bool) → b ≡ false → deactivates_in path (Some (record v { inactive = b })) ≡ []
      by_mark true g = absurd cc
      by_mark false g = refl

  protected_line : (path : List Step) (v : Value) (number : ℕ) (x y : Statements) → map.get m path ≡ Some v → v.protected ≡ true → (told : Bool) → IsChange x y [] (op.Protect (own_words path)) told
      → AreMade x (changes_of number (protects_of m path)) y
  protected_line path v number x y found e told change =
      subst (λ (ls : List Line). AreMade x (changes_of number ls) y) (sym (ap (protects_in path) found ∙ by_mark v.protected e)) (y, told, change, refl)
    where
      by_mark : (b : Bool) → b ≡ true → protects_in path (Some (record v { protected = b })) ≡ protect_line (own_words path) ∷ []
      by_mark true g = refl
      by_mark false g = absurd cc

  no_protected_line : (path : List Step) (v : Value) → map.get m path ≡ Some v → v.protected ≡ false → protects_of m path ≡ []
  no_protected_line path v found e = ap (protects_in path) found ∙ by_mark v.protected e
    where
      by_mark : (b : Bool) → b ≡ false → protects_in path (Some (record v { protected = b })) ≡ []
      by_mark true g = absurd cc
      by_mark false g = refl

  -- nothing is protected yet
  free_inactive : (x : Statements) (seen : List Step → Bool) (path : List Step) (v : Value) → ((q : List Step) → map.get x q ≡ option_map (with_inactive (seen q)) (map.get m q)) → map.get m path ≡ Some v
      → v.inactive ≡ true → seen path ≡ false → IsFree x (put_at x path (record (with_inactive (seen path) v) { inactive = true })) (IsSpared (op.Deactivate (own_words path)) path)
  free_inactive x seen path v are found e unseen q blocks = by_value (map.get m q) (sym (are q) ∙ blocks.is_protected.found) blocks.is_protected.mark
    where
      by_value : (o : Option Value) → option_map (with_inactive (seen q)) o ≡ Some blocks.is_protected.value → blocks.is_protected.value.protected ≡ true → ⊥
      by_value None f mark = cc
      by_value (Some w) f mark = let g : with_inactive (seen q) w ≡ blocks.is_protected.value = cc in let h = ap (λ (u : Value). u.protected) g in cc

  -- what is protected at or above a statement that gets the mark is that statement
  free_protected : (x : Statements) (seen : List Step → Bool) (path : List Step) (v : Value) → ((q : List Step) → map.get x q ≡ option_map (with_protected (seen q)) (map.get m q)) → map.get m path ≡ Some v
      → v.protected ≡ true → seen path ≡ false → IsFree x (put_at x path (record (with_protected (seen path) v) { protected = true })) (IsSpared (op.Protect (own_words path)) path)
  free_protected x seen path v are found e unseen q blocks = by_value (map.get m q) refl
    where
      there : map.get x path ≡ Some (with_protected (seen path) v)
      there = are path ∙ ap (λ (o : Option Value). option_map (with_protected (seen path)) o) found

      at_path : blocks.differs.place ≡ path
      at_path =
          same_or_not blocks.differs.place path (blocks.differs.place ≡ path) (λ same. same)
          (λ apart. absurd (blocks.differs.differs
          (sym (get_other x path blocks.differs.place (record (with_protected (seen path) v) { protected = true }) apart)
          ∙ ap (λ (n : Statements). map.get n blocks.differs.place) (sym (put_there x path (with_protected (seen path) v) (record (with_protected (seen path) v) { protected = true }) there)))))

      both : (a b : Bool) → (a && b) ≡ true → (a ≡ true) × (b ≡ true)
      both true b h = (refl, h)
      both false b h = absurd cc

      by_value : (o : Option Value) → map.get m q ≡ o → ⊥
      by_value None f = let g = sym blocks.is_protected.found ∙ are q ∙ ap (λ (o : Option Value). option_map (with_protected (seen q)) o) f in cc
      by_value (Some w) f =
          let g = sym blocks.is_protected.found ∙ are q ∙ ap (λ (o : Option Value). option_map (with_protected (seen q)) o) f in
          let same : blocks.is_protected.value ≡ with_protected (seen q) w = cc in
          let marks = both (seen q) w.protected (sym (ap (λ (u : Value). u.protected) same) ∙ blocks.is_protected.mark) in
          let is : q ≡ path =
          kept q path (record { value = w; found = f; mark = marks.1 }) (record { value = v; found = found; mark = e })
          (ap (λ (p : List Step). is_below q p) (sym at_path) ∙ blocks.differs.below) in
          let seen_too = ap seen (sym is) ∙ marks.0 in
          clash seen_too unseen
        where
          clash : {b : Bool} → b ≡ true → b ≡ false → ⊥
          clash h k = cc

  -- all statements were met
  met : (q : List Step) (v : Value) → map.get m q ≡ Some v → after (paths_below MAX_STEPS m []) no_path q ≡ true
  met q v found =
      after_has (paths_below MAX_STEPS m []) no_path q
      (or_false (list_any (eq_by_cmp path_cmp q) (paths_below MAX_STEPS m [])) (sym (printed_there m tree q) ∙ ap is_some found))
    where
      or_false : (b : Bool) → b ≡ true → (b || false) ≡ true
      or_false true h = refl
      or_false false h = absurd cc

  bare_few : size_of (stated map.empty (bare (items_below MAX_STEPS m []))) ≤ MAX_STATEMENTS
  bare_few = subst (λ (n : ℕ). n ≤ MAX_STATEMENTS) (sym (bare_size m tree)) tree.few

  -- after all inactive marks the protected ones are missing
  between : (last : Statements) → ((q : List Step) → map.get last q ≡ option_map (with_inactive (after (paths_below MAX_STEPS m []) no_path q)) (map.get m q)) → (q : List Step) → map.get last q ≡ option_map (with_protected (no_path q)) (map.get m q)
  between last are q = by_value (map.get m q) refl
    where
      by_value : (o : Option Value) → map.get m q ≡ o → map.get last q ≡ option_map (with_protected (no_path q)) (map.get m q)
      by_value None f =
          are q ∙ ap (λ (o : Option Value). option_map (with_inactive (after (paths_below MAX_STEPS m []) no_path q)) o) f
          ∙ sym (ap (λ (o : Option Value). option_map (with_protected (no_path q)) o) f)
      by_value (Some v) f =
          are q ∙ ap (λ (o : Option Value). option_map (with_inactive (after (paths_below MAX_STEPS m []) no_path q)) o) f
          ∙ ap (λ (b : Bool). Some (with_inactive b v)) (met q v f)
          ∙ sym (ap (λ (o : Option Value). option_map (with_protected (no_path q)) o) f)

  -- after all of them nothing is missing
  whole_at : (last : Statements) → ((q : List Step) → map.get last q ≡ option_map (with_protected (after (paths_below MAX_STEPS m []) no_path q)) (map.get m q)) → (q : List Step) → map.get last q ≡ map.get m q
  whole_at last are q = by_value (map.get m q) refl
    where
      by_value : (o : Option Value) → map.get m q ≡ o → map.get last q ≡ map.get m q
      by_value None f = are q ∙ ap (λ (o : Option Value). option_map (with_protected (after (paths_below MAX_STEPS m []) no_path q)) o) f ∙ sym f
      by_value (Some v) f =
          are q ∙ ap (λ (o : Option Value). option_map (with_protected (after (paths_below MAX_STEPS m []) no_path q)) o) f
          ∙ ap (λ (b : Bool). Some (with_protected b v)) (met q v f)
          ∙ sym f

  top_is_level : opens_at (place_of []) ≡ true
  unfolding profile
  top_is_level = refl

  lines_are : lines_of m [] ≡ lines_shown m (paths_below MAX_STEPS m [])
  lines_are = ap (λ (b : Bool). lines_shown m (shown_by b m [])) top_is_level

  -- the changes make the configuration
  made_back : AreMade (map.empty {R = path_cmp}) (changes_of 1 (lines_of m [])) m
  made_back =
      let sets : List Line = set_lines m (paths_below MAX_STEPS m []) in
      let first = marks_made m tree (λ v. v.inactive) (λ v. record v { inactive = true }) with_inactive op.Deactivate (deactivates_of m)
      (λ b v e. ap (λ (c : Bool). record v { inactive = c; protected = false }) (sym e)) inactive_kept inactive_apart (λ ws. refl) (λ ws. refl) (λ ws path. refl)
      (λ x ws path v e. ap (λ (o : Option Value). if_there path (marked x path o (λ value. record value { inactive = true }))) e)
      (λ path e. ap (deactivates_in path) e) inactive_line no_inactive_line free_inactive
      (stated map.empty (bare (items_below MAX_STEPS m []))) (1 + length sets) (paths_below MAX_STEPS m []) no_path (bare_is m tree) bare_few in
      let second = marks_made m tree (λ v. v.protected) (λ v. record v { protected = true }) with_protected op.Protect (protects_of m)
      (λ b v e. ap (λ (c : Bool). record v { protected = c }) (sym e)) protected_kept protected_apart (λ ws. refl) (λ ws. refl) (λ ws path. refl)
      (λ x ws path v e. ap (λ (o : Option Value). if_there path (marked x path o (λ value. record value { protected = true }))) e)
      (λ path e. ap (protects_in path) e) protected_line no_protected_line free_protected
      first.last (1 + length sets + length (flat_map (deactivates_of m) (paths_below MAX_STEPS m []))) (paths_below MAX_STEPS m []) no_path (between first.last first.all_are)
      (subst (λ (n : ℕ). n ≤ MAX_STATEMENTS) (sym first.all_size) bare_few) in
      let same : second.last ≡ m = same_statements second.last m (whole_at second.last second.all_are) in
      subst (λ (ls : List Line). AreMade map.empty (changes_of 1 ls) m) (sym lines_are)
      (subst (λ (n : Statements). AreMade map.empty (changes_of 1 (lines_shown m (paths_below MAX_STEPS m []))) n) same
      (made_both map.empty (stated map.empty (bare (items_below MAX_STEPS m []))) second.last 1 sets
      (flat_map (deactivates_of m) (paths_below MAX_STEPS m []) ++ flat_map (protects_of m) (paths_below MAX_STEPS m []))
      (sets_made m tree (Below []) 1 map.empty (stated map.empty (bare (items_below MAX_STEPS m []))) sets (sets_from_none m tree) bare_few)
      (made_both (stated map.empty (bare (items_below MAX_STEPS m []))) first.last second.last (1 + length sets)
      (flat_map (deactivates_of m) (paths_below MAX_STEPS m [])) (flat_map (protects_of m) (paths_below MAX_STEPS m [])) first.all_made second.all_made)))

  -- what names a statement has words
  reads_some : (path : List Step) (here : Place) (words : List (List ℕ)) (answer : Result Target WordsFault) → Reads path here words answer → (found : Target) → answer ≡ Ok found → 0 < length words
  reads_some path here words answer (no_words p h) found e = absurd cc
  reads_some path here words answer (refused p h ws reason step some front) found e = absurd cc
  reads_some path here words answer (whole p h ws values step some front) found e = some
  reads_some path here words answer (ended p h next ws step used some front short) found e = some
  reads_some path here words answer (goes_on p h next ws step used deeper some front more rest) found e = some

  resolved_some : (words : List (List ℕ)) (found : Target) → ResolvesTo [] words (Ok found) → 0 < length words
  resolved_some words found resolves = reads_some [] top_place words (Ok found) (resolves top_place refl) found refl

  -- the words of all lines can be printed
  each_printable : (words : List (List ℕ)) → AllPrintable words → AllByRecursion IsPrintable words
  each_printable [] h = tt
  each_printable (w ∷ words) h = (h.0, each_printable words h.1)

  both_printable : (xs ys : List (List ℕ)) → AllByRecursion IsPrintable xs → AllByRecursion IsPrintable ys → AllByRecursion IsPrintable (xs ++ ys)
  both_printable [] ys h k = k
  both_printable (x ∷ xs) ys h k = (h.0, both_printable xs ys h.1 k)

  steps_printable : (path : List Step) (here : Place) → FollowsFrom path here → AllByRecursion IsPrintable (own_words path)
  steps_printable [] here follows = tt
  steps_printable (s ∷ path) here follows =
      both_printable (words_of_step s) (own_words path)
      (subst (λ (ws : List (List ℕ)). AllByRecursion IsPrintable ws) (append-nil (words_of_step s)) (each_printable (own_words (s ∷ [])) (own_printable here follows.0 s follows.1 follows.2)))
      (steps_printable path follows.0 follows.3)

  own_printable_at : (path : List Step) (v : Value) → map.get m path ≡ Some v → AllByRecursion IsPrintable (own_words path)
  own_printable_at path v found = steps_printable path top_place (tree.typed.paths path (ap is_some found))

  both_readable : (xs ys : List Line) → AreReadable xs → AreReadable ys → AreReadable (xs ++ ys)
  both_readable [] ys h k = k
  both_readable (x ∷ xs) ys h k = (h.0, both_readable xs ys h.1 k)

  place_at : (path : List Step) (v : Value) → map.get m path ≡ Some v → (here : Place) × (place_of path ≡ Some here)
  place_at path v found = typed_place path top_place (tree.typed.paths path (ap is_some found))

  sets_readable : (passes : List Step → Type 0) (x y : Statements) (lines : List Line) → SetsAll m passes x lines y → AreReadable lines
  sets_readable passes x y [] sets = tt
  sets_readable passes x y (it ∷ lines) sets =
      let one = sets.1 in
      let here = place_at one.path one.value one.found in (
        subst IsReadable (sym one.is_line)
            (record {
              some = resolved_some (own_words one.path ++ one.words) (target one.path one.words) (named m tree one.path one.value one.words one.found one.given);
              words = both_printable (own_words one.path) one.words (own_printable_at one.path one.value one.found)
                  (each_printable one.words (words_printable (row_of here.0.row).value_kind one.words (one.given here.0 here.1).1));
            }),
        sets_readable passes sets.0 y lines sets.2,
      )

  mark_readable : (path : List Step) (v : Value) → map.get m path ≡ Some v → (0 < length (own_words path)) × AllByRecursion IsPrintable (own_words path)
  mark_readable path v found = (resolved_some (own_words path) (target path []) (named_alone m tree path v found), own_printable_at path v found)

  inactive_readable : (ps : List (List Step)) → AreReadable (flat_map (deactivates_of m) ps)
  inactive_readable [] = tt
  inactive_readable (p ∷ ps) = both_readable (deactivates_of m p) (flat_map (deactivates_of m) ps) (by_value (map.get m p) refl) (inactive_readable ps)
    where
      by_value : (o : Option Value) → map.get m p ≡ o → AreReadable (deactivates_in p o)
      by_value None f = tt
      by_value (Some v) f = by_mark v.inactive
        where
          by_mark : (b : Bool) → AreReadable (deactivates_in p (Some (record v { inactive = b })))
          by_mark true = (record { some = (mark_readable p v f).0; words = (mark_readable p v f).1 }, tt)
          by_mark false = tt

  protected_readable : (ps : List (List Step)) → AreReadable (flat_map (protects_of m) ps)
  protected_readable [] = tt
  protected_readable (p ∷ ps) = both_readable (protects_of m p) (flat_map (protects_of m) ps) (by_value (map.get m p) refl) (protected_readable ps)
    where
      by_value : (o : Option Value) → map.get m p ≡ o → AreReadable (protects_in p o)
      by_value None f = tt
      by_value (Some v) f = by_mark v.protected
        where
          by_mark : (b : Bool) → AreReadable (protects_in p (Some (record v { protected = b })))
          by_mark true = (record { some = (mark_readable p v f).0; words = (mark_readable p v f).1 }, tt)
          by_mark false = tt

  readable : AreReadable (lines_of m [])
  readable =
      subst AreReadable (sym lines_are)
      (both_readable (set_lines m (paths_below MAX_STEPS m [])) (flat_map (deactivates_of m) (paths_below MAX_STEPS m []) ++ flat_map (protects_of m) (paths_below MAX_STEPS m []))
      (sets_readable (Below []) map.empty (stated map.empty (bare (items_below MAX_STEPS m []))) (set_lines m (paths_below MAX_STEPS m [])) (sets_from_none m tree))
      (both_readable (flat_map (deactivates_of m) (paths_below MAX_STEPS m [])) (flat_map (protects_of m) (paths_below MAX_STEPS m [])) (inactive_readable (paths_below MAX_STEPS m [])) (protected_readable (paths_below MAX_STEPS m []))))

  pub makes_back : IsLineLoad map.empty (printed_set m []) m
  makes_back = record { lines = changes_of 1 (lines_of m []); asks = read_back (lines_of m []) readable; made = made_back }
