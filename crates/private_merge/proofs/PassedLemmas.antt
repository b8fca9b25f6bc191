-- What is known of the paths that three walks side by side have passed, and of those that they have still to go through.
use Rattle.std.proofs.Common.{◌≡◌, ◌≢◌, ◌⊎◌, inl, inr, ⊎_elim, ℕ, ◌+◌, ◌<◌, T, List, [], ◌++◌, ◌∷◌, length, refl, sym, ap, subst, ◌∙◌, Option, Some, None, Greater, arith}
use Rattle.std.specs.FinMap as map
use Rattle.std.specs.FinMap.Entries.{find, is_sorted}
use Rattle.cfg_base.specs.Order.{path_cmp}
use Rattle.cfg_base.specs.declared.path.Step.{Step}
use Rattle.cfg_base.specs.declared.value.Value.{Value}
use Rattle.cfg_entries.specs.EntryMap.{Pair}
use Rattle.cfg_tree.specs.Statements.{Statements}
use Rattle.cfg_tree.specs.Values.{Stand, with_value, with_values}
use Rattle.cfg_tree.proofs.PathLemmas.{same_or_not}
use Rattle.cfg_tree.proofs.ValuesLemmas.{value_or_not, with_values-push, value_here, value_other}
use Rattle.private_merge.specs.Merge.{IsMergedAt, Conflicts, IsLeastConflict}
use Rattle.private_merge.specs.Walking.{SidesView, PlaceView, StandsIn, IsNextPlace, IsChanged, IsOwn, path_ahead, value_ahead, first_of, next_path, all_ahead, all_behind}
use Rattle.private_merge.proofs.ValueLemmas as values
use Rattle.private_merge.proofs.WalkLemmas.{IsUpTo, find_ahead, none_behind, others_behind, sorted_behind, not_before, first_up, up_to_itself, first_is, first_none, nothing_ahead, found_ahead, behind_length, behind_shorter}

-- a path that is still to come: the walks find what the maps have there, and what is made so far has the active value
pub record IsAhead (base active mine made : Statements) (ahead : SidesView) (q : List Step) : Type 0 where
  pub base_has : find path_cmp q ahead.base ≡ map.get base q
  pub active_has : find path_cmp q ahead.active ≡ map.get active q
  pub mine_has : find path_cmp q ahead.mine ≡ map.get mine q
  pub made_has : map.get made q ≡ map.get active q

-- a path that was passed: it doesn't conflict, and what is made has what is merged there
pub record IsSettled (base active mine made : Statements) (ahead : SidesView) (q : List Step) : Type 0 where
  pub no_base : find path_cmp q ahead.base ≡ None
  pub no_active : find path_cmp q ahead.active ≡ None
  pub no_mine : find path_cmp q ahead.mine ≡ None
  pub agrees : ¬ (Conflicts base active mine q)
  pub merged : IsMergedAt base active mine q (map.get made q)

pub record Passed (base active mine made : Statements) (ahead : SidesView) : Type 0 where
  pub base_sorted : T (is_sorted path_cmp ahead.base)
  pub active_sorted : T (is_sorted path_cmp ahead.active)
  pub mine_sorted : T (is_sorted path_cmp ahead.mine)
  pub each : (q : List Step) → IsAhead base active mine made ahead q ⊎ IsSettled base active mine made ahead q

-- how many entries the walks have still to go through
abbrev pub left : SidesView → ℕ
left ahead = length ahead.base + length ahead.active + length ahead.mine

pub passed_none : (base active mine : Statements) (own : List Stand) (ahead : SidesView) → own ≡ []
    → ahead ≡ all_ahead base active mine
    → Passed base active mine (with_values active own) ahead
passed_none base active mine own ahead none all =
    subst (λ (xs : List Stand). Passed base active mine (with_values active xs) ahead) (sym none)
    (subst (λ (a : SidesView). Passed base active mine active a) (sym all) record {
      base_sorted = map.entries_sorted base;
      active_sorted = map.entries_sorted active;
      mine_sorted = map.entries_sorted mine;
      each = λ q. inl record {
        base_has = sym (map.get-entries base q);
        active_has = sym (map.get-entries active q);
        mine_has = sym (map.get-entries mine q);
        made_has = refl;
      };
    })

-- where nothing stands on any side, nothing conflicts
no_conflict : (base active mine : Statements) (q : List Step) → map.get base q ≡ None → map.get active q ≡ None → map.get mine q ≡ None
    → ¬ (Conflicts base active mine q)
no_conflict base active mine q b a c (inl twice) = twice.by_me (c ∙ sym b)
no_conflict base active mine q b a c (inr loses) = never (values.one_of_both _ _ _ _ loses.there)
  where
    never : (Some loses.value ≡ map.get mine q) ⊎ (Some loses.value ≡ map.get active q) → ⊥
    never (inl e) = let f = e ∙ c in cc
    never (inr e) = let f = e ∙ a in cc

-- a path of which something is found on a side isn't before the one that comes next
module _ (base active mine made : Statements) (before : SidesView) (p : List Step) (passed : Passed base active mine made before) (next : next_path before ≡ Some p) where
  ups : (IsUpTo p before.base × IsUpTo p before.active) × IsUpTo p before.mine
  ups =
      let three = first_up p (first_of (path_ahead before.base) (path_ahead before.active)) (path_ahead before.mine) (up_to_itself p _ next)
      in (first_up p (path_ahead before.base) (path_ahead before.active) three.0, three.1)

  heads : (Q : Type 0) → (path_ahead before.base ≡ Some p → Q) → (path_ahead before.active ≡ Some p → Q) → (path_ahead before.mine ≡ Some p → Q) → Q
  heads Q f g h =
      ⊎_elim (λ two. ⊎_elim f g (first_is p (path_ahead before.base) (path_ahead before.active) two)) h
      (first_is p (first_of (path_ahead before.base) (path_ahead before.active)) (path_ahead before.mine) next)

  -- it is still to come
  coming : IsAhead base active mine made before p
  coming = ⊎_elim (λ ahead. ahead) (λ settled. absurd (never settled)) (passed.each p)
    where
      never : IsSettled base active mine made before p → ⊥
      never settled =
          heads ⊥ (λ e. found_ahead p before.base e settled.no_base) (λ e. found_ahead p before.active e settled.no_active)
          (λ e. found_ahead p before.mine e settled.no_mine)

  pub shorter : left (all_behind p before) < left before
  shorter =
      let b = behind_length p before.base
      in let a = behind_length p before.active
      in let c = behind_length p before.mine
      in heads (left (all_behind p before) < left before)
      (λ e. let s = behind_shorter p before.base e in omega (arith, s, a, c))
      (λ e. let s = behind_shorter p before.active e in omega (arith, b, s, c))
      (λ e. let s = behind_shorter p before.mine e in omega (arith, b, a, s))

  -- the first path that conflicts is the least
  pub least : Conflicts base active mine p → IsLeastConflict base active mine p
  least conflicts = record {
    conflicts = conflicts;
    least = λ q other. ⊎_elim (λ ahead. behind q ahead other) (λ settled. absurd (settled.agrees other)) (passed.each q);
  }
    where
      open_value : (q : List Step) (o : Option Value) (es : List (Pair Value)) → find path_cmp q es ≡ o → T (is_sorted path_cmp es) → IsUpTo p es
          → (o ≡ None → path_cmp p q ≢ Greater) → path_cmp p q ≢ Greater
      open_value q None es e s up go = go refl
      open_value q (Some v) es e s up go = not_before p q v es s up e

      behind : (q : List Step) → IsAhead base active mine made before q → Conflicts base active mine q
          → path_cmp p q ≢ Greater
      behind q ahead other =
          open_value q (map.get base q) before.base ahead.base_has passed.base_sorted ups.0.0 (λ b.
          open_value q (map.get active q) before.active ahead.active_has passed.active_sorted ups.0.1 (λ a.
          open_value q (map.get mine q) before.mine ahead.mine_has passed.mine_sorted ups.1 (λ c.
          absurd (no_conflict base active mine q b a c other))))

  -- a path that doesn't conflict is passed, where what is made then differs from what was made there alone
  pub passed_more : (after : SidesView) (now : Statements) → after ≡ all_behind p before → ¬ (Conflicts base active mine p)
      → IsMergedAt base active mine p (map.get now p) → ((q : List Step) → q ≢ p → map.get now q ≡ map.get made q)
      → Passed base active mine now after
  passed_more after now is agrees merged others = subst (λ (a : SidesView). Passed base active mine now a) (sym is) record {
    base_sorted = sorted_behind p before.base passed.base_sorted;
    active_sorted = sorted_behind p before.active passed.active_sorted;
    mine_sorted = sorted_behind p before.mine passed.mine_sorted;
    each = λ q.
        same_or_not q p _
        (λ same. inr (subst (λ (x : List Step). IsSettled base active mine now (all_behind p before) x) (sym same) here))
        (λ differs. ⊎_elim (λ ahead. inl (still q differs ahead)) (λ settled. inr (stays q differs settled)) (passed.each q));
  }
    where
      here : IsSettled base active mine now (all_behind p before) p
      here = record {
        no_base = none_behind p before.base passed.base_sorted ups.0.0;
        no_active = none_behind p before.active passed.active_sorted ups.0.1;
        no_mine = none_behind p before.mine passed.mine_sorted ups.1;
        agrees = agrees;
        merged = merged;
      }

      still : (q : List Step) → q ≢ p → IsAhead base active mine made before q → IsAhead base active mine now (all_behind p before) q
      still q differs ahead = record {
        base_has = others_behind p q before.base differs ∙ ahead.base_has;
        active_has = others_behind p q before.active differs ∙ ahead.active_has;
        mine_has = others_behind p q before.mine differs ∙ ahead.mine_has;
        made_has = others q differs ∙ ahead.made_has;
      }

      stays : (q : List Step) → q ≢ p → IsSettled base active mine made before q → IsSettled base active mine now (all_behind p before) q
      stays q differs settled = record {
        no_base = others_behind p q before.base differs ∙ settled.no_base;
        no_active = others_behind p q before.active differs ∙ settled.no_active;
        no_mine = others_behind p q before.mine differs ∙ settled.no_mine;
        agrees = settled.agrees;
        merged = subst (λ (o : Option Value). IsMergedAt base active mine q o) (sym (others q differs)) settled.merged;
      }

  -- what stands on each side
  base_is : value_ahead p before.base ≡ map.get base p
  base_is = find_ahead p before.base passed.base_sorted ups.0.0 ∙ coming.base_has

  active_is : value_ahead p before.active ≡ map.get active p
  active_is = find_ahead p before.active passed.active_sorted ups.0.1 ∙ coming.active_has

  mine_is : value_ahead p before.mine ≡ map.get mine p
  mine_is = find_ahead p before.mine passed.mine_sorted ups.1 ∙ coming.mine_has

  made_is : map.get made p ≡ map.get active p
  made_is = coming.made_has

module _ (base active mine : Statements) (own : List Stand) (before after : SidesView) (place : PlaceView)
    (passed : Passed base active mine (with_values active own) before) (next : IsNextPlace before after place) where
  pub stands_in : StandsIn base active mine place
  stands_in = record {
    base_has = ap (λ (s : PlaceView). s.base) next.stands ∙ base_is base active mine _ before place.path passed next.next;
    active_has = ap (λ (s : PlaceView). s.active) next.stands ∙ active_is base active mine _ before place.path passed next.next;
    mine_has = ap (λ (s : PlaceView). s.mine) next.stands ∙ mine_is base active mine _ before place.path passed next.next;
  }

  pub less_left : left after < left before
  less_left =
      subst (λ (a : SidesView). left a < left before) (sym next.rest) (shorter base active mine (with_values active own) before place.path passed next.next)

  -- a path at which the own value is put
  pub passed_changed : (entry : Stand) (more : List Stand) → ¬ (Conflicts base active mine place.path) → IsChanged place → entry ≡ (place.path, place.mine)
      → more ≡ own ++ entry ∷ [] → Passed base active mine (with_values active more) after
  passed_changed entry more agrees changed is all =
      passed_more base active mine (with_values active own) before place.path passed next.next after (with_values active more) next.rest agrees
      (inl (λ same. changed.0 (stands_in.mine_has ∙ same ∙ sym stands_in.base_has), put ∙ value_here _ _ _ ∙ stands_in.mine_has))
      (λ q differs. ap (λ (m : Statements). map.get m q) now ∙ value_other _ place.path q place.mine differs)
    where
      now : with_values active more ≡ with_value (with_values active own) place.path place.mine
      now =
          ap (λ (xs : List Stand). with_values active xs) (all ∙ ap (λ (e : Stand). own ++ e ∷ []) is)
          ∙ with_values-push active own place.path place.mine

      put : map.get (with_values active more) place.path
          ≡ map.get (with_value (with_values active own) place.path place.mine) place.path
      put = ap (λ (m : Statements). map.get m place.path) now

  -- one at which the active value stays
  pub passed_same : ¬ (Conflicts base active mine place.path) → ¬ (IsChanged place) → Passed base active mine (with_values active own) after
  passed_same agrees same =
      passed_more base active mine (with_values active own) before place.path passed next.next after (with_values active own) next.rest agrees
      merged (λ q differs. refl)
    where
      there : map.get (with_values active own) place.path ≡ map.get active place.path
      there = made_is base active mine (with_values active own) before place.path passed next.next

      merged : IsMergedAt base active mine place.path (map.get (with_values active own) place.path)
      merged =
          value_or_not (map.get mine place.path) (map.get base place.path) _
          (λ e. inr (e, there))
          (λ differs. inl (
            differs,
            value_or_not (map.get mine place.path) (map.get active place.path) _
                (λ e. there ∙ sym e)
                (λ apart. absurd (same (
                  λ e. differs (sym stands_in.mine_has ∙ e ∙ stands_in.base_has),
                  λ e. apart (sym stands_in.mine_has ∙ e ∙ stands_in.active_has),
                ))),
          ))

  pub first_conflict : Conflicts base active mine place.path → IsLeastConflict base active mine place.path
  first_conflict = least base active mine (with_values active own) before place.path passed next.next

-- where nothing is left, all is merged
pub passed_all : (base active mine : Statements) (own : List Stand) (ahead : SidesView) → Passed base active mine (with_values active own) ahead
    → next_path ahead ≡ None → IsOwn base active mine own
passed_all base active mine own ahead passed none = record {
  agree = λ q. ⊎_elim (λ still. no_conflict base active mine q (base_none q still) (active_none q still) (mine_none q still)) (λ settled. settled.agrees) (passed.each q);
  made = λ q.
      ⊎_elim (λ still. inr (mine_none q still ∙ sym (base_none q still), still.made_has)) (λ settled. settled.merged) (passed.each q);
}
  where
    two : (first_of (path_ahead ahead.base) (path_ahead ahead.active) ≡ None) × (path_ahead ahead.mine ≡ None)
    two = first_none (first_of (path_ahead ahead.base) (path_ahead ahead.active)) (path_ahead ahead.mine) none

    parts : (path_ahead ahead.base ≡ None) × (path_ahead ahead.active ≡ None)
    parts = first_none (path_ahead ahead.base) (path_ahead ahead.active) two.0

    empty : (q : List Step) (es : List (Pair Value)) (o : Option Value) → path_ahead es ≡ None → find path_cmp q es ≡ o → o ≡ None
    empty q es o e f = sym f ∙ ap (λ (xs : List (Pair Value)). find path_cmp q xs) (nothing_ahead es e)

    base_none : (q : List Step) → IsAhead base active mine (with_values active own) ahead q → map.get base q ≡ None
    base_none q still = empty q ahead.base _ parts.0 still.base_has

    active_none : (q : List Step) → IsAhead base active mine (with_values active own) ahead q → map.get active q ≡ None
    active_none q still = empty q ahead.active _ parts.1 still.active_has

    mine_none : (q : List Step) → IsAhead base active mine (with_values active own) ahead q → map.get mine q ≡ None
    mine_none q still = empty q ahead.mine _ two.1 still.mine_has
