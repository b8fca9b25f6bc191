-- Which protected statement keeps a change: those on the way to its path, and those below what is taken away.
use Rattle.std.proofs.Common.{◌≡◌, ◌≢◌, ◌⊎◌, inl, ⊎_elim, ℕ, zero, suc, ◌≤◌, true, false, List, [], ◌∷◌, length, take, refl, sym, ap, subst, ◌∙◌, Some, None, arith}
use Rattle.std.proofs.lemmas.Bool.{cases_lt}
use Rattle.std.specs.declared.cmp.Ordering.TheVariants.{Less, Greater}
use Rattle.std.specs.FinMap as map
use Rattle.std.specs.Ordering.{ordering_reverse}
use Rattle.cfg_base.specs.Order.{path_cmp, paths_total}
use Rattle.cfg_base.specs.declared.path.Step.{Step}
use Rattle.cfg_base.specs.declared.value.Value.{Value}
use Rattle.cfg_tree.specs.Statements.{Statements, is_below}
use Rattle.cfg_schema.proofs.TestLemmas.{both_true}
use Rattle.cfg_tree.proofs.MapLemmas.{same_step}
use Rattle.cfg_tree.proofs.PathLemmas.{same_or_not}
use Rattle.cfg_tree.proofs.BelowLemmas.{below_self}
use Rattle.edit_ops.specs.Block.{IsProtected, Blocks, IsFree, IsBlockedBy}
use Rattle.edit_ops.specs.Made.{IsOpen, IsFirstProtected, IsOpenBelow, IsFirstBelow}
use Rattle.edit_ops.proofs.WayLemmas.{take_below, below_take, below_short, below_trans, comparable, below_not_after, below_before, on_way_or_not}
use Rattle.edit_ops.proofs.NearLemmas.{IsNear}

-- of two first parts of a path the shorter is on the way to the longer
take_on_way : (k j : ℕ) (path : List Step) → k ≤ j → is_below (take k path) (take j path) ≡ true
take_on_way zero j path h = refl
take_on_way (suc k) zero path h = absurd (none h)
  where
    none : suc k ≤ 0 → ⊥
    none e = omega (arith, e)
take_on_way (suc k) (suc j) [] h = refl
take_on_way (suc k) (suc j) (x ∷ path) h = both_true _ _ ((same_step x x).1 refl) (take_on_way k j path (omega (arith, h)))

protected_take : (m : Statements) (q path : List Step) → is_below q path ≡ true → IsProtected m q → IsProtected m (take (length q) path)
protected_take m q path on is_protected = subst (IsProtected m) (below_take q path on) is_protected

-- what is found first on the way isn't after what is on the way and protected
first_least : (m : Statements) (n : ℕ) (path found other : List Step) → IsFirstProtected m n path found → is_below other path ≡ true → IsProtected m other
    → path_cmp found other ≢ Greater
first_least m n path found other first on is_protected =
    ⊎_elim
    (λ early. absurd (first.free (length other) early (protected_take m other path on is_protected)))
    (λ late. below_not_after found other
    (subst (λ (p : List Step). is_below p other ≡ true) (sym first.found_is)
    (subst (λ (p : List Step). is_below (take first.count path) p ≡ true) (sym (below_take other path on))
    (take_on_way first.count (length other) path late))))
    (cases_lt (length other) first.count)

found_on_way : (m : Statements) (n : ℕ) (path found : List Step) → IsFirstProtected m n path found → is_below found path ≡ true
found_on_way m n path found first = ap (λ (p : List Step). is_below p path) first.found_is ∙ take_below first.count path

-- what keeps a change on the way to a path is on that way
pub near_on_way : (m n : Statements) (path : List Step) (spared : List Step → Type 0) → IsNear m n path → (q : List Step) → Blocks m n spared q
    → is_below q path ≡ true
near_on_way m n path spared near q b =
    on_way_or_not b.differs.place path (is_below q path ≡ true)
    (λ e. below_trans q b.differs.place path b.differs.below e)
    (λ e. absurd (b.differs.differs (sym (near b.differs.place e))))

module _ (m n : Statements) (path : List Step) (spared : List Step → Type 0) (on_way : (q : List Step) → Blocks m n spared q → is_below q path ≡ true) where
  -- a change on the way to a path is kept by nothing, where nothing on the way is protected but what is spared
  pub near_free : (count : ℕ) → IsOpen m count path → ((q : List Step) → is_below q path ≡ true → ¬ (spared q) → length q ≤ count) → IsFree m n spared
  near_free count free few q b =
      let on = on_way q b in free (length q) (few q on b.not_spared) (protected_take m q path on b.is_protected)

  -- and else by the first of these
  pub near_blocked : (count : ℕ) (found : List Step) → map.get m path ≢ map.get n path → IsFirstProtected m count path found → ¬ (spared found)
      → IsBlockedBy m n spared found
  near_blocked count found differs first not_spared = record {
    blocks = record {
      is_protected = first.is_protected;
      not_spared = not_spared;
      differs = record { place = path; below = found_on_way m count path found first; differs = differs };
    };
    least = λ other b. first_least m count path found other first (on_way other b) b.is_protected;
  }

not_greater : (a b : List Step) → path_cmp b a ≢ Less → path_cmp a b ≢ Greater
not_greater a b h g = h (paths_total.antisymm b a ∙ ap ordering_reverse g)

-- no statement is spared
abbrev pub nothing_spared : List Step → Type 0
nothing_spared q = ⊥

-- where all that is off the way stays but what is below a path, what keeps the change is on the way or below
pub on_way_or_below : (m n : Statements) (path : List Step)
    → ((q : List Step) → is_below path q ≡ false → is_below q path ≡ false → map.get n q ≡ map.get m q)
    → (q : List Step) → Blocks m n nothing_spared q → (is_below q path ≡ true) ⊎ (is_below path q ≡ true)
on_way_or_below m n path stays q b =
    on_way_or_not b.differs.place path ((is_below q path ≡ true) ⊎ (is_below path q ≡ true))
    (λ e. inl (below_trans q b.differs.place path b.differs.below e))
    (λ e. on_way_or_not path b.differs.place ((is_below q path ≡ true) ⊎ (is_below path q ≡ true))
    (λ f. comparable q path b.differs.place b.differs.below f)
    (λ f. absurd (b.differs.differs (sym (stays b.differs.place f e)))))

-- what is taken away, with all below it: only what is protected on the way or below keeps it
module _ (m n : Statements) (path : List Step) (old : Value) (there : map.get m path ≡ Some old)
    (gone : (q : List Step) → is_below path q ≡ true → map.get n q ≡ None)
    (near_or_below : (q : List Step) → Blocks m n nothing_spared q → (is_below q path ≡ true) ⊎ (is_below path q ≡ true)) where
  some_differs : (q : List Step) (value : Value) → map.get m q ≡ Some value → is_below path q ≡ true → map.get m q ≢ map.get n q
  some_differs q value e below same = let k = sym e ∙ same ∙ gone q below in cc

  pub taken_free : IsOpen m (length path) path → IsOpenBelow m path → IsFree m n nothing_spared
  taken_free free free_below q b =
      ⊎_elim
      (λ on. free (length q) (below_short q path on) (protected_take m q path on b.is_protected))
      (λ below. same_or_not path q ⊥
      (λ same. free (length q) (below_short q path (ap (λ (p : List Step). is_below q p) same ∙ below_self q))
      (protected_take m q path (ap (λ (p : List Step). is_below q p) same ∙ below_self q) b.is_protected))
      (λ differs. free_below q below (below_before path q below differs) b.is_protected))
      (near_or_below q b)

  pub taken_blocked : (count : ℕ) (found : List Step) → IsFirstProtected m count path found → IsBlockedBy m n nothing_spared found
  taken_blocked count found first = record {
    blocks = record {
      is_protected = first.is_protected;
      not_spared = λ none. none;
      differs = record { place = path; below = found_on_way m count path found first; differs = some_differs path old there (below_self path) };
    };
    least = λ other b. ⊎_elim
        (λ on. first_least m count path found other first on b.is_protected)
        (λ below. below_not_after found other (below_trans found path other (found_on_way m count path found first) below))
        (near_or_below other b);
  }

  pub taken_blocked_below : (found : List Step) → IsOpen m (length path) path → IsFirstBelow m path found → IsBlockedBy m n nothing_spared found
  taken_blocked_below found free first = record {
    blocks = record {
      is_protected = first.is_protected;
      not_spared = λ none. none;
      differs = record {
        place = found;
        below = below_self found;
        differs = some_differs found first.is_protected.value first.is_protected.found first.below;
      };
    };
    least = λ other b. ⊎_elim
        (λ on. absurd (free (length other) (below_short other path on) (protected_take m other path on b.is_protected)))
        (λ below. same_or_not path other (path_cmp found other ≢ Greater)
        (λ same. absurd (free (length other) (below_short other path (ap (λ (p : List Step). is_below other p) same ∙ below_self other))
        (protected_take m other path (ap (λ (p : List Step). is_below other p) same ∙ below_self other) b.is_protected)))
        (λ differs. not_greater found other (first.first other below (below_before path other below differs) b.is_protected)))
        (near_or_below other b);
  }
