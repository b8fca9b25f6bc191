-- Without groups nothing is inherited.
use Rattle.std.proofs.Common.{◌≡◌, ℕ, Bool, true, false, not, cond, List, [], ◌∷◌, ◌++◌, filter, map, refl, sym, ap, ◌∙◌, Option, Some, None, is_some}
use Rattle.std.specs.Prelude.{◌&&◌, ◌||◌, flat_map}
use Rattle.std.specs.FinMap as finite
use Rattle.std.specs.List.{AllByRecursion, list_any}
use Rattle.std.specs.Ordering.{eq_by_cmp}
use Rattle.cfg_base.specs.Words.{lists}
use Rattle.cfg_base.specs.Order.{path_cmp}
use Rattle.cfg_base.specs.declared.path.Step.{Step}
use Rattle.cfg_base.specs.declared.value.Value.{Value}
use Rattle.cfg_schema.specs.Profile.{same_word}
use Rattle.cfg_schema.specs.Place.{place_of}
use Rattle.cfg_tree.specs.Statements.{Statements, last_of}
use Rattle.cfg_tree.specs.Tree.{step_of, ordered_head}
use Rattle.cfg_tree.specs.Children.{is_child, order_in, steps_below}
use Rattle.cfg_tree.specs.Full.{Expansion}
use Rattle.cfg_tree.proofs.MapLemmas.{same_path}
use Rattle.group_expand.specs.Live.{Look, is_active, is_live, words_of}
use Rattle.group_expand.specs.Sources.{Source, source, groups_step, fitting_from, fitting, applied, excepted, sources_by, is_outside, is_plain, outward}
use Rattle.group_expand.specs.Expansion.{Gift, is_own, first_gift, gift_at, own_part, own_order, order_by, inherited_names, IsExpansion, IsLivePart}
use Rattle.group_expand.proofs.NodeLemmas.{append_nothing}
use Rattle.group_expand.proofs.SourceLemmas.{some_gift}

module _ (look : Look) (kids : List Step → List Step) (none : look (groups_step ∷ []) ≡ None) where
  nothing_found : (above rest : List Step) → fitting_from look kids above [] rest ≡ []
  nothing_found above [] = refl
  nothing_found above (s ∷ rest) = nothing_found (above ++ s ∷ []) rest

  no_fit : (g : List ℕ) (p : List Step) → fitting look kids g p ≡ []
  no_fit g p =
      ap (λ (o : Option Value). fitting_from look kids [] (cond (is_active o && (is_active (look (groups_step ∷ step_of [] g ∷ [])) && true)) ((groups_step ∷ step_of [] g ∷ []) ∷ []) []) p) none
      ∙ nothing_found [] p

  no_brought : (p : List Step) (gs : List (List ℕ)) → flat_map (λ g. map (source g) (fitting look kids g p)) gs ≡ []
  no_brought p [] = refl
  no_brought p (g ∷ gs) = ap (λ (qs : List (List Step)). map (source g) qs ++ flat_map (λ h. map (source h) (fitting look kids h p)) gs) (no_fit g p) ∙ no_brought p gs

  no_sources : (p : List Step) (levels : List (List Step)) (out : List ℕ → Bool) → sources_by look kids (λ g. fitting look kids g p) out levels ≡ []
  no_sources p [] out = refl
  no_sources p (level ∷ levels) out =
      ap (λ (xs : List Source). xs ++ sources_by look kids (λ g. fitting look kids g p) (λ g. lists (excepted look kids level) g || out g) levels)
      (no_brought p (filter (λ g. not (lists (excepted look kids level) g || out g)) (applied look kids level)))
      ∙ no_sources p levels (λ g. lists (excepted look kids level) g || out g)

  pub gift_own : (p : List Step) → gift_at look kids p ≡ own_part look p
  gift_own p = ap (λ (o : Option Gift). cond (is_own look p) (Some (record { words = words_of (look p); group = [] })) o) (ap (first_gift look) (by_test (is_outside p && is_plain p)))
    where
      by_test : (b : Bool) → cond b (sources_by look kids (λ g. fitting look kids g p) (λ g. false) (outward p)) [] ≡ []
      by_test true = no_sources p (outward p) (λ g. false)
      by_test false = refl

-- a key of an expansion is there
key_there : (full : Expansion) (front ks : List (List Step)) → front ++ ks ≡ finite.keys full → AllByRecursion (λ k. is_some (finite.get full k) ≡ true) ks
key_there full front [] e = tt
key_there full front (k ∷ ks) e =
    (finite.contains_key-keys full k ∙ ap (list_any (eq_by_cmp path_cmp k)) (sym e) ∙ among front, key_there full (front ++ k ∷ []) ks (assoc front ∙ e))
  where
    among : (fs : List (List Step)) → list_any (eq_by_cmp path_cmp k) (fs ++ k ∷ ks) ≡ true
    among [] = ap (λ (b : Bool). b || list_any (eq_by_cmp path_cmp k) ks) ((same_path k k).1 refl)
    among (f ∷ fs) = either (eq_by_cmp path_cmp k f) (among fs)
      where
        either : (b : Bool) → list_any (eq_by_cmp path_cmp k) (fs ++ k ∷ ks) ≡ true → (b || list_any (eq_by_cmp path_cmp k) (fs ++ k ∷ ks)) ≡ true
        either true h = refl
        either false h = h

    assoc : (fs : List (List Step)) → (fs ++ k ∷ []) ++ ks ≡ fs ++ k ∷ ks
    assoc [] = refl
    assoc (f ∷ fs) = ap (λ (xs : List (List Step)). f ∷ xs) (assoc fs)

module _ (m : Statements) (full : Expansion) (none : finite.get m (groups_step ∷ []) ≡ None) (h : IsExpansion m full) where
  there_own : (k : List Step) → is_some (finite.get full k) ≡ true → is_own (finite.get m) k ≡ true
  there_own [] there = let c = sym there ∙ ap is_some h.top in cc
  there_own (s ∷ k) there =
      by_own (is_own (finite.get m) (s ∷ k)) (record { words = words_of (finite.get m (s ∷ k)); group = [] }) (sym (ap is_some (h.gifts (s ∷ k) (λ e. cc) ∙ gift_own (finite.get m) (steps_below m) none (s ∷ k))) ∙ some_gift (finite.get full (s ∷ k)) ∙ there)
    where
      by_own : (b : Bool) (g : Gift) → is_some (cond b (Some g) None) ≡ true → b ≡ true
      by_own true g e = refl
      by_own false g e = cc

  none_inherited : (p : List Step) (head : List ℕ) → inherited_names (finite.get m) full head p ≡ []
  none_inherited p head = ap (λ (ks : List (List Step)). map (λ q. (last_of q).name) ks) (each (finite.keys full) (key_there full [] (finite.keys full) refl))
    where
      dropped : (a b c : Bool) → c ≡ true → (a && (b && not c)) ≡ false
      dropped true true c e = ap not e
      dropped true false c e = refl
      dropped false b c e = refl

      each : (ks : List (List Step)) → AllByRecursion (λ k. is_some (finite.get full k) ≡ true) ks
          → filter (λ q. is_child p q && (same_word head (last_of q).head && not (is_own (finite.get m) q))) ks ≡ []
      each [] a = refl
      each (k ∷ ks) a =
          ap (λ (b : Bool). cond b (k ∷ filter (λ q. is_child p q && (same_word head (last_of q).head && not (is_own (finite.get m) q))) ks) (filter (λ q. is_child p q && (same_word head (last_of q).head && not (is_own (finite.get m) q))) ks))
          (dropped (is_child p k) (same_word head (last_of k).head) (is_own (finite.get m) k) (there_own k a.0))
          ∙ each ks a.1

  -- the expansion is the live part
  pub live_part : IsLivePart m full
  live_part = record {
    gifts = λ path some. h.gifts path some ∙ gift_own (finite.get m) (steps_below m) none path;
    orders = λ path given there. h.orders path given there ∙ by_head path (ordered_head (place_of path));
  }
    where
      by_head : (path : List Step) (head : Option (List ℕ)) → order_by (finite.get m) full path head ≡ own_order (finite.get m) path head
      by_head path None = refl
      by_head path (Some head) =
          ap (λ (names : List (List ℕ)). filter (λ name. is_live (finite.get m) (path ++ step_of head name ∷ [])) (order_in (finite.get m path)) ++ names) (none_inherited path head)
          ∙ append_nothing _
