-- One path more of the expansion, and one level.
use Rattle.std.proofs.Common.{◌≡◌, inl, inr, ℕ, zero, suc, ◌+◌, ◌-◌, ◌<◌, Bool, true, false, not, cond, List, [], ◌∷◌, ◌++◌, length, filter, map, refl, sym, ap, subst, ◌∙◌, arith, append_assoc, length-append, Option, Some, None, option_map}
use Rattle.std.specs.Prelude.{IsSome, ◌||◌, flat_map}
use Rattle.std.specs.List.{AllByRecursion}
use Rattle.cfg_base.specs.Words.{lists}
use Rattle.cfg_base.specs.declared.path.Step.{Step}
use Rattle.cfg_base.specs.declared.value.Value.{Value}
use Rattle.cfg_schema.specs.Place.{place_of}
use Rattle.cfg_tree.specs.declared.full.Given.{Given}
use Rattle.cfg_tree.specs.Statements.{no_step}
use Rattle.cfg_tree.specs.Tree.{step_of, ordered_head}
use Rattle.group_expand.specs.Live.{Look, is_active, is_live}
use Rattle.group_expand.specs.Sources as given
use Rattle.group_expand.specs.Sources.{groups_step, same_step, live_ones, applied, is_outside, is_plain, is_wildcard, fitting, sources_by, outward, excepted}
use Rattle.group_expand.specs.Expansion.{Gift, gift_at}
use Rattle.group_expand.specs.Front.{raw, front, applied_at, kept_at, steps_at}
use Rattle.group_expand.specs.Listed.{entry_and, listed}
use Rattle.group_expand.specs.Made.{with_order, order_of, given_at}
use Rattle.group_expand.specs.Row.{StatementView}
use Rattle.group_expand.specs.Node.{Node, children_of}
use Rattle.group_expand.specs.Fronts.{front_of}
use Rattle.group_expand.specs.Offer.{Offer, own_offer, offered}
use Rattle.group_expand.specs.Level.{Ranked, Level, IsLevel}
use Rattle.group_expand.specs.Runs.{first_step, steps_of, is_apply_step, own_of, own_gift, own_nodes, source_gift, run_gift, run_in, order_for}
use Rattle.group_expand.specs.Placed.{map_of, node_at, kids_at, offer_at, run_at, look_of, kids_of, given_below, given_for, IsRow, IsRight, IsLevelAt}
use Rattle.group_expand.proofs.NodeLemmas.{append_nothing}
use Rattle.group_expand.proofs.GivenLemmas.{from_live, ones_live, run_keeps, front_at}
use Rattle.group_expand.proofs.RunLemmas.{placed}
use Rattle.group_expand.proofs.OrderLemmas.{gift_told, order_is}
use Rattle.group_expand.proofs.PlanLemmas.{once_at, below_at, own_at, dead_kids}
use Rattle.group_expand.proofs.ClosedLemmas.{HasOne, both}
use Rattle.group_expand.proofs.ListedLemmas.{Among}
use Rattle.group_expand.proofs.ApartLemmas.{step_is}
use Rattle.group_expand.proofs.PlacedLemmas.{live_more}
use Rattle.group_expand.proofs.TameLemmas.{tree_tame}
use Rattle.group_expand.proofs.LevelAtLemmas.{level_at, found_step, among_steps}
use Rattle.group_expand.proofs.StepsLemmas.{IsRunStep}

-- all that a path's children are given from is live
module _ (look : Look) (kids : List Step → List Step) where
  abbrev AreLive : List given.Source → Type 0
  AreLive xs = AllByRecursion (λ x. is_live look x.from ≡ true) xs

  live_both : (xs ys : List given.Source) → AreLive xs → AreLive ys → AreLive (xs ++ ys)
  live_both [] ys h k = k
  live_both (x ∷ xs) ys h k = (h.0, live_both xs ys h.1 k)

  live_sources : (g : List ℕ) (qs : List (List Step)) → AllByRecursion (λ q. is_live look q ≡ true) qs → AreLive (map (given.source g) qs)
  live_sources g [] h = tt
  live_sources g (q ∷ qs) h = (h.0, live_sources g qs h.1)

  live_brought : (found : List ℕ → List (List Step)) → ((g : List ℕ) → AllByRecursion (λ q. is_live look q ≡ true) (found g)) → (gs : List (List ℕ))
      → AreLive (flat_map (λ g. map (given.source g) (found g)) gs)
  live_brought found h [] = tt
  live_brought found h (g ∷ gs) = live_both (map (given.source g) (found g)) _ (live_sources g (found g) (h g)) (live_brought found h gs)

  live_by : (found : List ℕ → List (List Step)) → ((g : List ℕ) → AllByRecursion (λ q. is_live look q ≡ true) (found g)) → (levels : List (List Step)) (out : List ℕ → Bool)
      → AreLive (sources_by look kids found out levels)
  live_by found h [] out = tt
  live_by found h (level ∷ levels) out =
      live_both (flat_map (λ g. map (given.source g) (found g)) (filter (λ g. not (lists (excepted look kids level) g || out g)) (applied look kids level))) _
      (live_brought found h (filter (λ g. not (lists (excepted look kids level) g || out g)) (applied look kids level)))
      (live_by found h levels (λ g. lists (excepted look kids level) g || out g))

  live_kept : (t : given.Source → Bool) (xs : List given.Source) → AreLive xs → AreLive (filter t xs)
  live_kept t [] h = tt
  live_kept t (x ∷ xs) h = by_test (t x) (live_kept t xs h.1)
    where
      by_test : (b : Bool) → AreLive (filter t xs) → AreLive (cond b (x ∷ filter t xs) (filter t xs))
      by_test true k = (h.0, k)
      by_test false k = k

own_of_run : (look : Look) (kids : List Step → List Step) (row : List StatementView) (p : List Step) (s : Step)
    → own_of (run_at look kids row p s) ≡ cond (is_live look (p ++ s ∷ [])) (Some (node_at look row (p ++ s ∷ []))) None
own_of_run look kids row p s = by_live (is_live look (p ++ s ∷ [])) (raw look kids (p ++ s ∷ []))
  where
    by_live : (b : Bool) (xs : List given.Source)
        → own_of (cond b (own_offer (node_at look row (p ++ s ∷ [])) ∷ []) [] ++ map (offer_at look row s) xs) ≡ cond b (Some (node_at look row (p ++ s ∷ []))) None
    by_live true xs = refl
    by_live false [] = refl
    by_live false (x ∷ xs) = refl

-- a run's own node has the path of its step
pub own_path : (row : List StatementView) (p : List Step) (s : Step) (run : List Offer) (node : Node) → run ≡ run_at (look_of row) (kids_of row) row p s → Some node ≡ own_of run → node.path ≡ p ++ s ∷ []
own_path row p s run node is own = by_live (is_live (look_of row) (p ++ s ∷ [])) (own ∙ ap own_of is ∙ own_of_run (look_of row) (kids_of row) row p s)
  where
    path_or : Option Node → List Step
    path_or None = []
    path_or (Some n) = n.path

    by_live : (b : Bool) → Some node ≡ cond b (Some (node_at (look_of row) row (p ++ s ∷ []))) None → node.path ≡ p ++ s ∷ []
    by_live true e = ap path_or e
    by_live false e = cc

outside_more : (p : List Step) (s t : Step) → is_outside (p ++ s ∷ []) ≡ true → is_outside ((p ++ s ∷ []) ++ t ∷ []) ≡ true
outside_more [] s t e = e
outside_more (u ∷ p) s t e = e

-- what a run gives, and a path that isn't there
module _ (row : List StatementView) (p : List Step) (s : Step) (run : List Offer) (path : List Step) (is : path ≡ p ++ s ∷ []) (run_is : run ≡ run_at (look_of row) (kids_of row) row p s)
    (plain : is_plain (p ++ s ∷ []) ≡ true) where
  pub gift_is : run_gift path s run ≡ gift_at (look_of row) (kids_of row) (p ++ s ∷ [])
  gift_is = ap (λ (q : List Step). run_gift q s run) is ∙ ap (run_gift (p ++ s ∷ []) s) run_is ∙ gift_told (look_of row) (kids_of row) row p s plain

  pub none_more : (n : ℕ) (made : List (List Step × Given)) → None ≡ run_gift path s run → made ≡ made ++ given_for row n p s
  unfolding given_at
  none_more n made e =
      sym (append_nothing made)
      ∙ ap (λ (o : Option Gift). made ++ entry_and (p ++ s ∷ []) (option_map (with_order (order_of (look_of row) (kids_of row) (p ++ s ∷ []) (ordered_head (place_of (p ++ s ∷ []))))) o) (given_below row n (p ++ s ∷ []))) (e ∙ gift_is)

module _ (row : List StatementView) (h : IsRow row)
    (tame : (p : List Step) (s : Step) → is_live (look_of row) (p ++ s ∷ []) ≡ true → is_outside (p ++ s ∷ []) ≡ true → is_wildcard s.name ≡ false) where
  abbrev L : Look
  L = look_of row

  abbrev K : List Step → List Step
  K = kids_of row

  fitting_live : (g : List ℕ) (p : List Step) → AllByRecursion (λ q. is_live L q ≡ true) (fitting L K g p)
  fitting_live g p = from_live L K row (once_at row) (below_at row h) [] (live_ones L K ((groups_step ∷ step_of [] g ∷ []) ∷ [])) p
      (ones_live L K row (once_at row) (below_at row h) ((groups_step ∷ step_of [] g ∷ []) ∷ []))

  front_live : (p : List Step) → AllByRecursion (λ x. is_live L x.from ≡ true) (front L K p)
  unfolding front
  front_live p =
      live_both L K (flat_map (λ g. map (given.source g) (fitting L K g p)) (applied_at L K p)) (kept_at L K p)
      (live_brought L K (λ g. fitting L K g p) (λ g. fitting_live g p) (applied_at L K p))
      (live_kept L K (λ x. not (lists (excepted L K p) x.group)) (raw L K p) (live_by L K (λ g. fitting L K g p) (λ g. fitting_live g p) (outward p) (λ g. false)))

  front_below : (p : List Step) → AllByRecursion (λ x. children_of (node_at L row x.from) ≡ kids_at L K row x.from) (front L K p)
  front_below p = each (front L K p) (front_live p)
    where
      each : (xs : List given.Source) → AllByRecursion (λ x. is_live L x.from ≡ true) xs → AllByRecursion (λ x. children_of (node_at L row x.from) ≡ kids_at L K row x.from) xs
      each [] k = tt
      each (x ∷ xs) k = (below_at row h x.from k.0, each xs k.1)

  kids_or_none : (q : List Step) → cond (is_live L q) (kids_at L K row q) [] ≡ kids_at L K row q
  kids_or_none q = by_live (is_live L q) refl
    where
      by_live : (b : Bool) → is_live L q ≡ b → cond b (kids_at L K row q) [] ≡ kids_at L K row q
      by_live true e = refl
      by_live false e = ap (λ (ss : List Step). map (λ s. node_at L row (q ++ s ∷ [])) ss) (sym (dead_kids L q e (K q)))

  module _ (p : List Step) (s : Step) (run : List Offer) (path : List Step) (is : path ≡ p ++ s ∷ []) (run_is : run ≡ run_at L K row p s) (plain : is_plain (p ++ s ∷ []) ≡ true) where
    module _ (gift : Gift) (there : Some gift ≡ run_gift path s run) where
      outside : is_outside (p ++ s ∷ []) ≡ true
      outside = by_test (is_outside (p ++ s ∷ [])) refl
        where
          clash : {g : Gift} → Some g ≡ None → ⊥
          clash e = cc

          by_test : (b : Bool) → is_outside (p ++ s ∷ []) ≡ b → b ≡ true
          by_test true e = refl
          by_test false e =
              absurd (clash (there ∙ ap (λ (q : List Step). run_gift q s run) is
              ∙ ap (λ (b : Bool). cond b (cond (is_apply_step s) (source_gift run) (own_gift (own_of run) (source_gift run))) None) e))

      children_are : (children : List Node) → children ≡ own_nodes (own_of run) → children ≡ kids_at L K row (p ++ s ∷ [])
      children_are children e =
          e ∙ ap (λ (r : List Offer). own_nodes (own_of r)) run_is ∙ ap own_nodes (own_of_run L K row p s) ∙ own_at row h (p ++ s ∷ []) ∙ kids_or_none (p ++ s ∷ [])

      -- the level below a path that is there
      pub level_is_at : (children : List Node) (level : Level) → children ≡ own_nodes (own_of run)
          → IsLevel (offered children (front_of (kids_at L K row (groups_step ∷ [])) path children run)) level → IsLevelAt L K row path level
      level_is_at children level e made =
          let front_is : front_of (kids_at L K row (groups_step ∷ [])) path children run ≡ map (placed L row) (front L K (p ++ s ∷ []))
          = ap (λ (q : List Step). front_of (kids_at L K row (groups_step ∷ [])) q children run) is
          ∙ ap (λ (ns : List Node). front_of (kids_at L K row (groups_step ∷ [])) (p ++ s ∷ []) ns run) (children_are children e ∙ sym (kids_or_none (p ++ s ∷ [])))
          ∙ ap (front_of (kids_at L K row (groups_step ∷ [])) (p ++ s ∷ []) (cond (is_live L (p ++ s ∷ [])) (kids_at L K row (p ++ s ∷ [])) [])) run_is
          ∙ front_at L K row (once_at row) (below_at row h) (p ++ s ∷ []) (run_at L K row p s) (run_keeps L K row (once_at row) (below_at row h) p s)
          in subst (λ (q : List Step). IsLevelAt L K row q level) (sym is)
          (level_at L K row (once_at row) (p ++ s ∷ []) plain (λ t live. tame (p ++ s ∷ []) t live (outside_more p s t outside)) (front_below (p ++ s ∷ [])) level
          (subst (λ (os : List Offer). IsLevel os level) (ap (λ (ns : List Node). offered ns (front_of (kids_at L K row (groups_step ∷ [])) path children run)) (children_are children e)
          ∙ ap (offered (kids_at L K row (p ++ s ∷ []))) front_is) made))

      -- what is given at a path that is there
      pub given_is : (children : List Node) (level : Level) (g : Given) → children ≡ own_nodes (own_of run)
          → IsLevel (offered children (front_of (kids_at L K row (groups_step ∷ [])) path children run)) level
          → g ≡ with_order (order_for (ordered_head (place_of path)) (own_of run) children level) gift → given_at L K (p ++ s ∷ []) ≡ Some g
      unfolding given_at
      given_is children level g e made is_g =
          let at_path : IsLevelAt L K row (p ++ s ∷ []) level = subst (λ (q : List Step). IsLevelAt L K row q level) is (level_is_at children level e made)
          in let head : Option (List ℕ) = ordered_head (place_of (p ++ s ∷ []))
          in let order : order_for (ordered_head (place_of path)) (own_of run) children level ≡ order_of L K (p ++ s ∷ []) head
          = ap (λ (q : List Step). order_for (ordered_head (place_of q)) (own_of run) children level) is
          ∙ ap (λ (o : Option Node). order_for head o children level) (ap own_of run_is ∙ own_of_run L K row p s)
          ∙ ap (λ (ns : List Node). order_for head (cond (is_live L (p ++ s ∷ [])) (Some (node_at L row (p ++ s ∷ []))) None) ns level) (children_are children e ∙ sym (kids_or_none (p ++ s ∷ [])))
          ∙ order_is L K row (once_at row) (p ++ s ∷ []) level head (λ t. outside_more p s t outside) at_path.steps at_path.right
          in ap (option_map (with_order (order_of L K (p ++ s ∷ []) head))) (sym (gift_is row p s run path is run_is plain) ∙ sym there)
          ∙ ap (λ (o : List (List ℕ)). Some (with_order o gift)) (sym order) ∙ ap Some (sym is_g)

-- a path that is there, and all below it
module _ (row : List StatementView) (p : List Step) (s : Step) (path : List Step) (is : path ≡ p ++ s ∷ []) (n : ℕ) (g : Given) (given_there : given_at (look_of row) (kids_of row) path ≡ Some g) where
  some_is : (path, g) ∷ given_below row n path ≡ given_for row n p s
  some_is =
      ap (λ (q : List Step). (q, g) ∷ given_below row n q) is
      ∙ ap (λ (o : Option Given). entry_and (p ++ s ∷ []) o (given_below row n (p ++ s ∷ []))) (sym (ap (given_at (look_of row) (kids_of row)) (sym is) ∙ given_there))

  pub some_more : (made pushed new : List (List Step × Given)) (q : List Step) → q ≡ path → pushed ≡ made ++ (q, g) ∷ [] → new ≡ pushed ++ given_below row n path → new ≡ made ++ given_for row n p s
  some_more made pushed new q same e f =
      f ∙ ap (λ (xs : List (List Step × Given)). xs ++ given_below row n path) (e ∙ ap (λ (r : List Step). made ++ (r, g) ∷ []) same)
      ∙ append_assoc made ((path, g) ∷ []) (given_below row n path) ∙ ap (λ (xs : List (List Step × Given)). made ++ xs) some_is

  pub some_wide : (made pushed : List (List Step × Given)) (q : List Step) (limit : ℕ) → pushed ≡ made ++ (q, g) ∷ []
      → limit < length pushed + length (given_below row n path) → limit < length made + length (given_for row n p s)
  some_wide made pushed q limit e k =
      let a = ap (λ (xs : List (List Step × Given)). length xs) e in let b = ap (λ (xs : List (List Step × Given)). length xs) some_is
      in omega (arith, k, a, b, length-append made ((q, g) ∷ []))

-- one level
module _ (row : List StatementView) (path : List Step) where
  pub nothing_below : (n : ℕ) → n ≡ 0 → given_below row n path ≡ []
  unfolding listed
  nothing_below n e = ap (λ (k : ℕ). given_below row k path) e

  below_more : (n : ℕ) → 0 < n → given_below row n path ≡ flat_map (given_for row (n - 1) path) (steps_at (look_of row) (kids_of row) path)
  unfolding listed
  below_more zero l = absurd (omega (arith, l))
  below_more (suc n) l = let e : n ≡ suc n - 1 = omega arith in ap (λ (k : ℕ). flat_map (given_for row k path) (steps_at (look_of row) (kids_of row) path)) e

  module _ (n : ℕ) (level : Level) (at_path : IsLevelAt (look_of row) (kids_of row) row path level) where
    abbrev pub one : Step → List (List Step × Given)
    one s = given_for row (n - 1) path s

    pub level_all : 0 < n → flat_map one (steps_of level.plain) ≡ given_below row n path
    level_all l = ap (flat_map one) at_path.steps ∙ sym (below_more n l)

    pub run_more : (left run rest : List Ranked) (made now all : List (List Step × Given)) (s : Step) (step : IsRunStep level.plain left run rest) → s ≡ first_step left no_step
        → made ++ flat_map one (steps_of left) ≡ all → now ≡ made ++ one s → now ++ flat_map one (steps_of rest) ≡ all
    run_more left run rest made now all s step is e f =
        ap (λ (xs : List (List Step × Given)). xs ++ flat_map one (steps_of rest)) f
        ∙ append_assoc made (one s) (flat_map one (steps_of rest))
        ∙ ap (λ (t : Step). made ++ (one t ++ flat_map one (steps_of rest))) (is ∙ step.ahead no_step)
        ∙ ap (λ (ss : List Step). made ++ flat_map one ss) (sym step.steps) ∙ e

    pub run_wide : (left run rest : List Ranked) (made start : List (List Step × Given)) (limit : ℕ) (s : Step) (step : IsRunStep level.plain left run rest) → 0 < n → s ≡ first_step left no_step
        → made ++ flat_map one (steps_of left) ≡ start ++ flat_map one (steps_of level.plain) → limit < length made + length (one s) → limit < length start + length (given_below row n path)
    run_wide left run rest made start limit s step l is e k =
        let a = ap (λ (xs : List (List Step × Given)). length xs) (e ∙ ap (λ (xs : List (List Step × Given)). start ++ xs) (level_all l))
        in let b = ap (λ (ss : List Step). length (flat_map one ss)) step.steps
        in let d = ap (λ (t : Step). length (one t)) (is ∙ step.ahead no_step)
        in omega (arith, k, a, b, d, length-append made (flat_map one (steps_of left)), length-append (one step.step) (flat_map one (steps_of rest)), length-append start (given_below row n path))

    pub level_done : (left : List Ranked) (made start : List (List Step × Given)) → 0 < n → length left ≡ 0 → made ++ flat_map one (steps_of left) ≡ start ++ flat_map one (steps_of level.plain)
        → made ≡ start ++ given_below row n path
    level_done [] made start l z e = sym (append_nothing made) ∙ e ∙ ap (λ (xs : List (List Step × Given)). start ++ xs) (level_all l)
    level_done (o ∷ os) made start l z e = absurd (omega (arith, z))

    among_all : (P : Step → Type 0) (ss : List Step) → AllByRecursion P ss → (u : Step) → Among u ss → P u
    among_all P [] h u m = absurd m
    among_all P (t ∷ ss) h u (inl e) = subst P e h.0
    among_all P (t ∷ ss) h u (inr m) = among_all P ss h.1 u m

    -- the offers of a run are those of its step
    pub run_right : (left run rest : List Ranked) (step : IsRunStep level.plain left run rest) → IsRight (look_of row) (kids_of row) row level path step.step
    run_right left run rest step =
        among_all (IsRight (look_of row) (kids_of row) row level path) (steps_at (look_of row) (kids_of row) path) at_path.right step.step
        (subst (λ (ss : List Step). Among step.step ss) at_path.steps
        (among_steps step.step level.plain (found_step step.step level.plain (subst (λ (rs : List Ranked). HasOne rs) step.whole (record { has = step.some })))))

    pub run_is_at : (left run rest : List Ranked) (step : IsRunStep level.plain left run rest) (s : Step) (made : List Offer) → s ≡ first_step left no_step → made ≡ run_in s level.wild run
        → made ≡ run_at (look_of row) (kids_of row) row path s
    run_is_at left run rest step s made e f =
        f ∙ ap (λ (t : Step). run_in t level.wild run) (e ∙ step.ahead no_step) ∙ ap (run_in step.step level.wild) step.whole ∙ (run_right left run rest step).run
        ∙ ap (run_at (look_of row) (kids_of row) row path) (sym (e ∙ step.ahead no_step))

    pub run_plain : (left run rest : List Ranked) (step : IsRunStep level.plain left run rest) (s : Step) → s ≡ first_step left no_step → is_plain (path ++ s ∷ []) ≡ true
    run_plain left run rest step s e = ap (λ (t : Step). is_plain (path ++ t ∷ [])) (e ∙ step.ahead no_step) ∙ (run_right left run rest step).plain

pub tame_row : (row : List StatementView) → IsRow row → (p : List Step) (s : Step) → is_live (look_of row) (p ++ s ∷ []) ≡ true → is_outside (p ++ s ∷ []) ≡ true → is_wildcard s.name ≡ false
tame_row row h p s live outside = tree_tame (map_of row) h.tree p s (there (look_of row (p ++ s ∷ [])) (both (is_live (look_of row) p) _ (sym (live_more (look_of row) p s) ∙ live)).1) outside
  where
    there : (o : Option Value) → is_active o ≡ true → IsSome o
    there None e = cc
    there (Some v) e = refl

-- the level of the top
pub top_level_is : (row : List StatementView) → IsRow row → (own : List Node) (level : Level) (top : List Step) → top ≡ [] → own ≡ kids_at (look_of row) (kids_of row) row []
    → IsLevel (offered own (front_of (kids_at (look_of row) (kids_of row) row (groups_step ∷ [])) top own [])) level → IsLevelAt (look_of row) (kids_of row) row [] level
top_level_is row h own level top none e made =
    level_at (look_of row) (kids_of row) row (once_at row) [] refl
    (λ s live. by_outside s live (is_outside (s ∷ [])) refl)
    (front_below row h (tame_row row h) []) level
    (subst (λ (os : List Offer). IsLevel os level)
    (ap (λ (ns : List Node). offered ns (front_of (kids_at (look_of row) (kids_of row) row (groups_step ∷ [])) [] ns [])) e
    ∙ ap (offered (kids_at (look_of row) (kids_of row) row [])) (front_at (look_of row) (kids_of row) row (once_at row) (below_at row h) [] [] (λ gone. refl)))
    (subst (λ (q : List Step). IsLevel (offered own (front_of (kids_at (look_of row) (kids_of row) row (groups_step ∷ [])) q own [])) level) none made))
  where
    by_outside : (s : Step) → is_live (look_of row) (s ∷ []) ≡ true → (b : Bool) → is_outside (s ∷ []) ≡ b → is_wildcard s.name ≡ false
    by_outside s live true e = tame_row row h [] s live e
    by_outside s live false e = sym (ap (λ (t : Step). is_wildcard t.name) (step_is groups_step s (back (same_step groups_step s) e)))
      where
        back : (c : Bool) → not c ≡ false → c ≡ true
        back true k = refl
        back false k = cc
