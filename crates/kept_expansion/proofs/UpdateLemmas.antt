-- An expansion with what changed told anew is that of the changed configuration.
use Rattle.std.proofs.Common.{◌≡◌, ◌≢◌, ℕ, Bool, true, false, not, cond, List, [], ◌∷◌, ◌++◌, filter, map, refl, sym, ap, subst, ◌∙◌, append_assoc, Option, Some, None, is_some, option_map, Result, Ok, Err, IfOk, IfSome}
use Rattle.std.specs.Prelude.{◌&&◌, IsErrOf}
use Rattle.std.specs.FinMap as finite
use Rattle.std.specs.List.{AllByRecursion}
use Rattle.cfg_base.specs.declared.path.Step.{Step}
use Rattle.cfg_base.specs.declared.value.Value.{Value}
use Rattle.cfg_schema.specs.Profile.{same_word}
use Rattle.cfg_schema.specs.Place.{place_of}
use Rattle.cfg_schema.proofs.TestLemmas.{both, both_true}
use Rattle.cfg_tree.specs.Statements.{Statements, last_of, is_below}
use Rattle.cfg_tree.specs.Tree.{step_of, ordered_head}
use Rattle.cfg_tree.specs.Children.{is_child, steps_below, order_in}
use Rattle.cfg_tree.specs.Full.{Expansion}
use Rattle.cfg_tree.specs.declared.full.Given.{Given}
use Rattle.cfg_tree.proofs.MapLemmas.{same_step}
use Rattle.cfg_tree.proofs.BelowLemmas.{below_first, below_more, below_self}
use Rattle.group_expand.specs.Live.{Look, is_active, live_from, is_live}
use Rattle.group_expand.specs.Sources.{groups_step, apply_step, except_step, is_outside}
use Rattle.group_expand.specs.Runs.{is_apply_step}
use Rattle.group_expand.specs.Expansion.{is_apply, is_own, gift_of, gift_at, inherited_names, order_by, IsExpansion}
use Rattle.group_expand.proofs.KeysLemmas.{passing_same, kids_same}
use Rattle.group_expand.proofs.PlacedLemmas.{child_split}
use Rattle.group_expand.proofs.RowLemmas.{below_trans}
use Rattle.kept_expansion.specs.Changes.{is_reached, DiffersOnlyAt, IsBehind, IsKept}
use Rattle.kept_expansion.specs.Roots.{IsRoot}
use Rattle.kept_expansion.specs.Part.{part_of}
use Rattle.kept_expansion.specs.Splice.{spliced}
use Rattle.kept_expansion.proofs.LocalLemmas.{gift_same}
use Rattle.kept_expansion.proofs.PartLemmas.{in_part_same, at_group, at_root, above_root, applied_root}
use Rattle.kept_expansion.proofs.PickLemmas.{pick, none_any}
use Rattle.kept_expansion.proofs.SpliceLemmas.{get-spliced}

-- a path is below its front
front_below : (a b : List Step) → is_below a (a ++ b) ≡ true
front_below [] b = refl
front_below (x ∷ a) b = both_true _ _ ((same_step x x).1 refl) (front_below a b)

-- the order of a level rests on what stands at its path and right below it
module _ (M N : Look) (full other : Expansion) (p : List Step)
    (here : M p ≡ N p)
    (live : (s : Step) → is_live M (p ++ s ∷ []) ≡ is_live N (p ++ s ∷ []))
    (there : (s : Step) → is_some (finite.get full (p ++ s ∷ [])) ≡ is_some (finite.get other (p ++ s ∷ []))) where
  abbrev is_new : Look → List ℕ → List Step → Bool
  is_new look head q = is_child p q && (same_word head (last_of q).head && not (is_own look q))

  own_same : (s : Step) → is_own M (p ++ s ∷ []) ≡ is_own N (p ++ s ∷ [])
  own_same s = ap (λ (b : Bool). b && (is_outside (p ++ s ∷ []) && not (is_apply (p ++ s ∷ [])))) (live s)

  test_same : (head : List ℕ) (q : List Step) → is_new M head q ≡ is_new N head q
  test_same head q = by_test (is_child p q) refl
    where
      by_test : (b : Bool) → is_child p q ≡ b → (b && (same_word head (last_of q).head && not (is_own M q))) ≡ (b && (same_word head (last_of q).head && not (is_own N q)))
      by_test false c = refl
      by_test true c =
          let at = child_split p q c
          in ap (λ (k : List Step). same_word head (last_of q).head && not (is_own M k)) at
          ∙ ap (λ (b : Bool). same_word head (last_of q).head && not b) (own_same (last_of q))
          ∙ sym (ap (λ (k : List Step). same_word head (last_of q).head && not (is_own N k)) at)

  names_there : (head : List ℕ) (q : List Step) → is_new N head q ≡ true → is_some (finite.get full q) ≡ is_some (finite.get other q)
  names_there head q h =
      let at = child_split p q (both (is_child p q) _ h).0
      in ap (λ (k : List Step). is_some (finite.get full k)) at ∙ there (last_of q) ∙ sym (ap (λ (k : List Step). is_some (finite.get other k)) at)

  names_same : (head : List ℕ) → inherited_names M full head p ≡ inherited_names N other head p
  names_same head =
      let tests : is_new M head ≡ is_new N head = λ i q. test_same head q i
      in ap (λ (t : List Step → Bool). map (λ q. (last_of q).name) (filter t (finite.keys full))) tests
      ∙ ap (map (λ (q : List Step). (last_of q).name)) (passing_same (is_new N head) full other (names_there head))

  live_names_same : (head : List ℕ) → filter (λ name. is_live M (p ++ step_of head name ∷ [])) (order_in (M p)) ≡ filter (λ name. is_live N (p ++ step_of head name ∷ [])) (order_in (N p))
  live_names_same head =
      let tests : (λ (name : List ℕ). is_live M (p ++ step_of head name ∷ [])) ≡ (λ (name : List ℕ). is_live N (p ++ step_of head name ∷ []))
      = λ i name. live (step_of head name) i
      in ap (λ (t : List ℕ → Bool). filter t (order_in (M p))) tests
      ∙ ap (λ (o : Option Value). filter (λ name. is_live N (p ++ step_of head name ∷ [])) (order_in o)) here

  pub level_same : (head : Option (List ℕ)) → order_by M full p head ≡ order_by N other p head
  level_same None = refl
  level_same (Some head) =
      ap (λ (names : List (List ℕ)). names ++ inherited_names M full head p) (live_names_same head)
      ∙ ap (λ (names : List (List ℕ)). filter (λ name. is_live N (p ++ step_of head name ∷ [])) (order_in (N p)) ++ names) (names_same head)

-- two look-ups that are the same at a path and above it
live_at : (M N : Look) (p : List Step) → ((a b : List Step) → p ≡ a ++ b → M a ≡ N a) → is_live M p ≡ is_live N p
live_at M N p same = from [] p refl
  where
    from : (above rest : List Step) → p ≡ above ++ rest → live_from M above rest ≡ live_from N above rest
    from above [] is = refl
    from above (s ∷ rest) is =
        ap (λ (o : Option Value). is_active o && live_from M (above ++ s ∷ []) rest)
        (same (above ++ s ∷ []) rest (is ∙ sym (append_assoc above (s ∷ []) rest)))
        ∙ ap (λ (b : Bool). is_active (N (above ++ s ∷ [])) && b) (from (above ++ s ∷ []) rest (is ∙ sym (append_assoc above (s ∷ []) rest)))

module _ (old new : Statements) (roots : List (List Step)) (ok : AllByRecursion IsRoot roots) (apart : DiffersOnlyAt old new roots) where
  -- at and below the roots: the new configuration and its part
  module _ (p : List Step) (e : is_reached roots p ≡ true) where
    part_above : (a b : List Step) → p ≡ a ++ b → finite.get new a ≡ finite.get (part_of roots new) a
    part_above a b is = in_part_same roots new a (above_root roots p e a (ap (is_below a) is ∙ front_below a b))

    part_gift : gift_at (finite.get new) (steps_below new) p ≡ gift_at (finite.get (part_of roots new)) (steps_below (part_of roots new)) p
    part_gift =
        gift_same (finite.get new) (finite.get (part_of roots new)) (steps_below new) (steps_below (part_of roots new)) groups
        (λ r. kids_same new (part_of roots new) (groups_step ∷ r) (λ s. groups (r ++ s ∷ []))) p
        (λ s a b is. part_above (s ∷ a) b is)
        (λ a s b is. applied a (s ∷ b) apply_step refl is)
        (λ a s b is. applied a (s ∷ b) except_step refl is)
        (in_part_same roots new p (at_root roots p e))
      where
        groups : (r : List Step) → finite.get new (groups_step ∷ r) ≡ finite.get (part_of roots new) (groups_step ∷ r)
        groups r = in_part_same roots new (groups_step ∷ r) (at_group roots r)

        applied : (a b : List Step) (s : Step) → is_apply_step s ≡ true → p ≡ a ++ b
            → finite.get new (a ++ s ∷ []) ≡ finite.get (part_of roots new) (a ++ s ∷ [])
        applied a b s is at = in_part_same roots new (a ++ s ∷ []) (applied_root roots p e a s is (ap (is_below a) at ∙ front_below a b))

    reached_more : (s : Step) → is_reached roots (p ++ s ∷ []) ≡ true
    reached_more s = let picked = pick (λ r. is_below r p) roots e in picked.among (λ r. is_below r (p ++ s ∷ [])) (below_more picked.one p s picked.passes)

  -- beside them: the old configuration and the new one
  module _ (p : List Step) (e : is_reached roots p ≡ false) where
    not_reached : (q : List Step) → ((root : List Step) → IsRoot root → is_below root q ≡ true → is_below root p ≡ true) → is_reached roots q ≡ false
    not_reached q go = by_test (is_reached roots q) refl
      where
        by_test : (b : Bool) → is_reached roots q ≡ b → b ≡ false
        by_test false f = refl
        by_test true f =
            let picked = pick (λ r. is_below r q) roots f
            in let c = sym (picked.among (λ r. is_below r p) (go picked.one (picked.each IsRoot ok) picked.passes)) ∙ e in cc

    old_above : (a b : List Step) → p ≡ a ++ b → finite.get old a ≡ finite.get new a
    old_above a b is =
        sym (apart a (not_reached a (λ root is_root h. below_trans root a p h (ap (is_below a) is ∙ front_below a b))))

    old_gift : gift_at (finite.get old) (steps_below old) p ≡ gift_at (finite.get new) (steps_below new) p
    old_gift =
        gift_same (finite.get old) (finite.get new) (steps_below old) (steps_below new) groups
        (λ r. kids_same old new (groups_step ∷ r) (λ s. groups (r ++ s ∷ []))) p
        (λ s a b is. old_above (s ∷ a) b is)
        (λ a s b is. sym (apart (a ++ apply_step ∷ []) (not_reached (a ++ apply_step ∷ [])
        (λ root is_root h. below_trans root a p (is_root.applied a h) (ap (is_below a) is ∙ front_below a (s ∷ b))))))
        (λ a s b is. sym (apart (a ++ except_step ∷ []) (not_reached (a ++ except_step ∷ [])
        (λ root is_root h. below_trans root a p (is_root.excepted a h) (ap (is_below a) is ∙ front_below a (s ∷ b))))))
        (sym (apart p e))
      where
        groups : (r : List Step) → finite.get old (groups_step ∷ r) ≡ finite.get new (groups_step ∷ r)
        groups r = sym (apart (groups_step ∷ r) (none_any (λ root. is_below root (groups_step ∷ r)) roots (all roots ok)))
          where
            all : (rs : List (List Step)) → AllByRecursion IsRoot rs → AllByRecursion (λ root. is_below root (groups_step ∷ r) ≡ false) rs
            all [] h = tt
            all (root ∷ rs) h = (h.0.outside r, all rs h.1)

    -- where an order is kept, what stands right below isn't reached either
    not_more : (head : List ℕ) → ordered_head (place_of p) ≡ Some head → (s : Step) → is_reached roots (p ++ s ∷ []) ≡ false
    not_more head ordered s = not_reached (p ++ s ∷ []) (λ root is_root h. by_test root is_root h (is_below root p) refl)
      where
        by_test : (root : List Step) → IsRoot root → is_below root (p ++ s ∷ []) ≡ true → (b : Bool) → is_below root p ≡ b → b ≡ true
        by_test root is_root h true f = refl
        by_test root is_root h false f =
            let above : is_below p root ≡ true = ap (is_below p) (below_first root p s h f) ∙ below_more p p s (below_self p)
            in let c = sym (is_root.unordered p above f) ∙ ordered in cc

  module _ (full part made : Expansion) (one : IsExpansion old full) (two : IsExpansion (part_of roots new) part)
      (get : (q : List Step) → finite.get made q ≡ cond (is_reached roots q) (finite.get part q) (finite.get full q)) where
    get_part : (q : List Step) → is_reached roots q ≡ true → finite.get made q ≡ finite.get part q
    get_part q e = get q ∙ ap (λ (b : Bool). cond b (finite.get part q) (finite.get full q)) e

    get_old : (q : List Step) → is_reached roots q ≡ false → finite.get made q ≡ finite.get full q
    get_old q e = get q ∙ ap (λ (b : Bool). cond b (finite.get part q) (finite.get full q)) e

    gifts : (path : List Step) → path ≢ [] → option_map gift_of (finite.get made path) ≡ gift_at (finite.get new) (steps_below new) path
    gifts path some = by_test (is_reached roots path) refl
      where
        by_test : (b : Bool) → is_reached roots path ≡ b → option_map gift_of (finite.get made path) ≡ gift_at (finite.get new) (steps_below new) path
        by_test true e = ap (option_map gift_of) (get_part path e) ∙ two.gifts path some ∙ sym (part_gift path e)
        by_test false e = ap (option_map gift_of) (get_old path e) ∙ one.gifts path some ∙ old_gift path e

    orders : (path : List Step) (given : Given) → finite.get made path ≡ Some given → given.order ≡ order_by (finite.get new) made path (ordered_head (place_of path))
    orders path given there = by_test (is_reached roots path) refl
      where
        by_head : is_reached roots path ≡ false → (head : Option (List ℕ)) → ordered_head (place_of path) ≡ head
            → order_by (finite.get old) full path head ≡ order_by (finite.get new) made path head
        by_head e None ordered = refl
        by_head e (Some head) ordered =
            level_same (finite.get old) (finite.get new) full made path (sym (apart path e))
            (λ s. live_at (finite.get old) (finite.get new) (path ++ s ∷ []) (λ a b is. old_above (path ++ s ∷ []) (not_more path e head ordered s) a b is))
            (λ s. ap is_some (sym (get_old (path ++ s ∷ []) (not_more path e head ordered s)))) (Some head)

        by_test : (b : Bool) → is_reached roots path ≡ b → given.order ≡ order_by (finite.get new) made path (ordered_head (place_of path))
        by_test true e =
            two.orders path given (sym (get_part path e) ∙ there)
            ∙ level_same (finite.get (part_of roots new)) (finite.get new) part made path (sym (in_part_same roots new path (at_root roots path e)))
            (λ s. live_at (finite.get (part_of roots new)) (finite.get new) (path ++ s ∷ []) (λ a b is. sym (part_above (path ++ s ∷ []) (reached_more path e s) a b is)))
            (λ s. ap is_some (sym (get_part (path ++ s ∷ []) (reached_more path e s)))) (ordered_head (place_of path))
        by_test false e = one.orders path given (sym (get_old path e) ∙ there) ∙ by_head e (ordered_head (place_of path)) refl

    top_not_reached : is_reached roots [] ≡ false
    top_not_reached = none_any (λ root. is_below root []) roots (all roots ok)
      where
        all : (rs : List (List Step)) → AllByRecursion IsRoot rs → AllByRecursion (λ root. is_below root [] ≡ false) rs
        all [] h = tt
        all (root ∷ rs) h = (h.0.top, all rs h.1)

    pub updated : IsExpansion new made
    updated = record { gifts = gifts; top = get_old [] top_not_reached ∙ one.top; orders = orders }

-- the same of a spliced expansion
pub spliced_is : (full part made : Expansion) (new other : Statements) (roots : List (List Step)) → IsBehind full new roots → AllByRecursion IsRoot roots → other ≡ part_of roots new
    → IsExpansion other part → made ≡ spliced full part roots → IsExpansion new made
spliced_is full part made new other roots behind ok same two is =
    updated behind.0 new roots ok behind.2 full part made behind.1 (subst (λ (m : Statements). IsExpansion m part) same two)
    (λ q. ap (λ (x : Expansion). finite.get x q) is ∙ get-spliced full part roots q)

pub ok_some : {T E : Type 0} (P Q : T → Type 0) → ((x : T) → P x → Q x) → (r : Result (Option T) E) → IfOk r (λ o. IfSome o P) → IfOk r (λ o. IfSome o Q)
ok_some P Q go (Ok None) h = h
ok_some P Q go (Ok (Some x)) h = go x h
ok_some P Q go (Err e) h = h

-- one refusal, of two calls
pub same_err : {T U E : Type 0} (x y : E) → IsErrOf {T = T} (Err x) y → IsErrOf {T = U} (Err x) y
same_err x y e = let same : x ≡ y = cc in ap (λ (z : _). Err z) same

-- what is kept is behind the configuration that it is kept of
pub kept_behind : (m : Statements) (kept : Option Expansion) (touched : List (List Step)) → IsKept m kept → IfSome kept (λ full. IsBehind full m touched)
kept_behind m None touched h = absurd h
kept_behind m (Some full) touched h = (m, h.0, λ q e. refl)
