-- Configurations that are the same in a part of the top, and in each group that is applied in that part, have the same expansion there.
-- So configurations that differ only in what no live statement applies have one expansion.
use Rattle.std.proofs.Common.{◌≡◌, ◌≢◌, ℕ, Bool, true, false, not, cond, List, [], ◌∷◌, ◌++◌, filter, map, refl, sym, ap, ◌∙◌, append_assoc, Option, Some, None, is_some, option_map}
use Rattle.std.specs.Prelude.{◌&&◌, ◌||◌, flat_map}
use Rattle.std.specs.FinMap as finite
use Rattle.std.specs.List.{AllByRecursion}
use Rattle.cfg_base.specs.Words.{lists}
use Rattle.cfg_base.specs.declared.path.Step.{Step}
use Rattle.cfg_base.specs.declared.value.Value.{Value}
use Rattle.cfg_schema.specs.Profile.{same_word}
use Rattle.cfg_schema.specs.Place.{place_of}
use Rattle.cfg_schema.proofs.TestLemmas.{both, same_is}
use Rattle.cfg_tree.specs.Statements.{last_of}
use Rattle.cfg_tree.specs.Tree.{step_of, ordered_head}
use Rattle.cfg_tree.specs.Children.{is_child, order_in}
use Rattle.cfg_tree.specs.Full.{Expansion}
use Rattle.cfg_tree.specs.declared.full.Given.{Given}
use Rattle.group_expand.specs.Live.{Look, is_active, is_live, live_from, live_words, words_of}
use Rattle.group_expand.specs.Sources.{Source, source, groups_step, apply_step, except_step, fits_wildcard, fitting_below, fitting_from, fitting, live_ones, applied, excepted, sources_by, sources, is_outside, is_plain, outward_from, outward}
use Rattle.group_expand.specs.Expansion.{Gift, is_apply, is_own, first_gift, gift_of, gift_at, order_by, inherited_names, IsExpansionOf}
use Rattle.group_expand.proofs.KeysLemmas.{passing_same}
use Rattle.group_expand.proofs.PlacedLemmas.{child_split}

-- nothing is given below `groups`
none_inside : (L : Look) (I : List Step → List Step) (s : Step) (rest : List Step) → is_outside (s ∷ rest) ≡ false → gift_at L I (s ∷ rest) ≡ None
none_inside L I s rest e =
    ap (λ (b : Bool). cond {A = Option Gift} (is_live L (s ∷ rest) && (b && not (is_apply (s ∷ rest)))) (Some (record { words = words_of (L (s ∷ rest)); group = [] }))
    (first_gift L (cond (b && is_plain (s ∷ rest)) (sources_by L I (λ g. fitting L I g (s ∷ rest)) (λ g. false) (outward (s ∷ rest))) []))) e
    ∙ by_live (is_live L (s ∷ rest))
  where
    by_live : (b : Bool) → cond {A = Option Gift} (b && false) (Some (record { words = words_of (L (s ∷ rest)); group = [] })) None ≡ None
    by_live true = refl
    by_live false = refl

-- a level is the top, or in the part
abbrev pub IsLevelIn : (Step → Bool) → List Step → Type 0
IsLevelIn in_part [] = Unit {0}
IsLevelIn in_part (s ∷ rest) = in_part s ≡ true

module _ (M N : Look) (J K : List Step → List Step)
    (kids_same : (q : List Step) → ((s : Step) → M (q ++ s ∷ []) ≡ N (q ++ s ∷ [])) → J q ≡ K q)
    (in_part : Step → Bool)
    (inside : (s : Step) (r : List Step) → in_part s ≡ true → M (s ∷ r) ≡ N (s ∷ r))
    (apply_in : in_part apply_step ≡ true) (except_in : in_part except_step ≡ true)
    (top : M (groups_step ∷ []) ≡ N (groups_step ∷ []))
    (given : (level : List Step) (g : List ℕ) → IsLevelIn in_part level → lists (applied M J level) g ≡ true
    → (r : List Step) → M (groups_step ∷ step_of [] g ∷ r) ≡ N (groups_step ∷ step_of [] g ∷ r)) where
  live_from_same : (above rest : List Step) → ((r : List Step) → M (above ++ r) ≡ N (above ++ r)) → live_from M above rest ≡ live_from N above rest
  live_from_same above [] same = refl
  live_from_same above (s ∷ rest) same =
      ap (λ (o : Option Value). is_active o && live_from M (above ++ s ∷ []) rest) (same (s ∷ []))
      ∙ ap (λ (b : Bool). is_active (N (above ++ s ∷ [])) && b)
      (live_from_same (above ++ s ∷ []) rest (λ r. ap M (append_assoc above (s ∷ []) r) ∙ same (s ∷ r) ∙ sym (ap N (append_assoc above (s ∷ []) r))))

  -- in the part the same is live
  live_same : (s : Step) (rest : List Step) → in_part s ≡ true → is_live M (s ∷ rest) ≡ is_live N (s ∷ rest)
  live_same s rest e =
      ap (λ (o : Option Value). is_active o && live_from M (s ∷ []) rest) (inside s [] e)
      ∙ ap (λ (b : Bool). is_active (N (s ∷ [])) && b) (live_from_same (s ∷ []) rest (λ r. inside s r e))

  words_same : (s : Step) (rest : List Step) → in_part s ≡ true → live_words M (s ∷ rest) ≡ live_words N (s ∷ rest)
  words_same s rest e =
      ap (λ (b : Bool). cond b (words_of (M (s ∷ rest))) []) (live_same s rest e)
      ∙ ap (λ (o : Option Value). cond (is_live N (s ∷ rest)) (words_of o) []) (inside s rest e)

  applied_same : (level : List Step) → IsLevelIn in_part level → applied M J level ≡ applied N K level
  applied_same [] e = words_same apply_step [] apply_in
  applied_same (s ∷ rest) e = words_same s (rest ++ apply_step ∷ []) e

  excepted_same : (level : List Step) → IsLevelIn in_part level → excepted M J level ≡ excepted N K level
  excepted_same [] e = words_same except_step [] except_in
  excepted_same (s ∷ rest) e = words_same s (rest ++ except_step ∷ []) e

  -- of a group that is the same in both
  module _ (g : List ℕ) (alike : (r : List Step) → M (groups_step ∷ step_of [] g ∷ r) ≡ N (groups_step ∷ step_of [] g ∷ r)) where
    live_in : (r : List Step) → is_live M (groups_step ∷ step_of [] g ∷ r) ≡ is_live N (groups_step ∷ step_of [] g ∷ r)
    live_in r =
        ap (λ (o : Option Value). is_active o && (is_active (M (groups_step ∷ step_of [] g ∷ [])) && live_from M (groups_step ∷ step_of [] g ∷ []) r)) top
        ∙ ap (λ (o : Option Value). is_active (N (groups_step ∷ [])) && (is_active o && live_from M (groups_step ∷ step_of [] g ∷ []) r)) (alike [])
        ∙ ap (λ (b : Bool). is_active (N (groups_step ∷ [])) && (is_active (N (groups_step ∷ step_of [] g ∷ [])) && b)) (live_from_same (groups_step ∷ step_of [] g ∷ []) r alike)

  abbrev pub InGroup : List ℕ → List Step → Type 0
  InGroup g q = (r : List Step) × (q ≡ groups_step ∷ step_of [] g ∷ r)

  module _ (g : List ℕ) (alike : (r : List Step) → M (groups_step ∷ step_of [] g ∷ r) ≡ N (groups_step ∷ step_of [] g ∷ r)) where
    ones_same : (qs : List (List Step)) → AllByRecursion (InGroup g) qs → live_ones M J qs ≡ live_ones N K qs
    ones_same [] h = refl
    ones_same (q ∷ qs) h =
        ap (λ (b : Bool). cond b (q ∷ live_ones M J qs) (live_ones M J qs)) (ap (is_live M) h.0.1 ∙ live_in g alike h.0.0 ∙ sym (ap (is_live N) h.0.1))
        ∙ ap (λ (ps : List (List Step)). cond (is_live N q) (q ∷ ps) ps) (ones_same qs h.1)

    ones_in : (qs : List (List Step)) → AllByRecursion (InGroup g) qs → AllByRecursion (InGroup g) (live_ones M J qs)
    ones_in [] h = tt
    ones_in (q ∷ qs) h = by_test (is_live M q) (ones_in qs h.1)
      where
        by_test : (b : Bool) → AllByRecursion (InGroup g) (live_ones M J qs) → AllByRecursion (InGroup g) (cond b (q ∷ live_ones M J qs) (live_ones M J qs))
        by_test true k = (h.0, k)
        by_test false k = k

    more_in : (q : List Step) → InGroup g q → (s : Step) → InGroup g (q ++ s ∷ [])
    more_in q h s = (h.0 ++ s ∷ [], ap (λ (p : List Step). p ++ s ∷ []) h.1)

    others_in : (q : List Step) → InGroup g q → (ss : List Step) → AllByRecursion (InGroup g) (map (λ other. q ++ other ∷ []) ss)
    others_in q h [] = tt
    others_in q h (s ∷ ss) = (more_in q h s, others_in q h ss)

    kids_in : (q : List Step) → InGroup g q → J q ≡ K q
    kids_in q h = kids_same q (λ s. let k = more_in q h s in ap M k.1 ∙ alike k.0 ∙ sym (ap N k.1))

    below_same : (b : Bool) (s : Step) (q : List Step) → InGroup g q → fitting_below M J b s q ≡ fitting_below N K b s q
    below_same b s q h =
        ap (λ (ps : List (List Step)). ps ++ live_ones M J (map (λ other. q ++ other ∷ []) (cond b (filter (fits_wildcard s) (J q)) []))) (ones_same ((q ++ s ∷ []) ∷ []) (more_in q h s, tt))
        ∙ ap (λ (ps : List (List Step)). live_ones N K ((q ++ s ∷ []) ∷ []) ++ ps)
        (ones_same (map (λ other. q ++ other ∷ []) (cond b (filter (fits_wildcard s) (J q)) [])) (others_in q h (cond b (filter (fits_wildcard s) (J q)) []))
        ∙ ap (λ (ss : List Step). live_ones N K (map (λ other. q ++ other ∷ []) (cond b (filter (fits_wildcard s) ss) []))) (kids_in q h))

    in_both : (ps qs : List (List Step)) → AllByRecursion (InGroup g) ps → AllByRecursion (InGroup g) qs → AllByRecursion (InGroup g) (ps ++ qs)
    in_both [] qs h k = k
    in_both (p ∷ ps) qs h k = (h.0, in_both ps qs h.1 k)

    all_below : (b : Bool) (s : Step) (qs : List (List Step)) → AllByRecursion (InGroup g) qs
        → (flat_map (fitting_below M J b s) qs ≡ flat_map (fitting_below N K b s) qs) × AllByRecursion (InGroup g) (flat_map (fitting_below M J b s) qs)
    all_below b s [] h = (refl, tt)
    all_below b s (q ∷ qs) h =
        let more = all_below b s qs h.1
        in (
          ap (λ (ps : List (List Step)). ps ++ flat_map (fitting_below M J b s) qs) (below_same b s q h.0) ∙ ap (λ (ps : List (List Step)). fitting_below N K b s q ++ ps) more.0,
          in_both (fitting_below M J b s q) (flat_map (fitting_below M J b s) qs)
              (in_both (live_ones M J ((q ++ s ∷ []) ∷ [])) (live_ones M J (map (λ other. q ++ other ∷ []) (cond b (filter (fits_wildcard s) (J q)) [])))
              (ones_in ((q ++ s ∷ []) ∷ []) (more_in q h.0 s, tt))
              (ones_in (map (λ other. q ++ other ∷ []) (cond b (filter (fits_wildcard s) (J q)) [])) (others_in q h.0 (cond b (filter (fits_wildcard s) (J q)) []))))
              more.1,
        )

    -- the same fits, and is the same
    from_same : (above rest : List Step) (found : List (List Step)) → ((r : List Step) (s : Step) → is_live M (above ++ (r ++ s ∷ [])) ≡ is_live N (above ++ (r ++ s ∷ []))) → AllByRecursion (InGroup g) found
        → (fitting_from M J above found rest ≡ fitting_from N K above found rest) × AllByRecursion (InGroup g) (fitting_from M J above found rest)
    from_same above [] found live h = (refl, h)
    from_same above (s ∷ rest) found live h =
        let here = all_below (is_live M (above ++ s ∷ [])) s found h
        in let more = from_same (above ++ s ∷ []) rest (flat_map (fitting_below M J (is_live M (above ++ s ∷ [])) s) found)
        (λ r t. ap (is_live M) (append_assoc above (s ∷ []) (r ++ t ∷ [])) ∙ live (s ∷ r) t ∙ sym (ap (is_live N) (append_assoc above (s ∷ []) (r ++ t ∷ [])))) here.1
        in (
          more.0
              ∙ ap (λ (ps : List (List Step)). fitting_from N K (above ++ s ∷ []) ps rest)
              (here.0 ∙ ap (λ (b : Bool). flat_map (fitting_below N K b s) found) (live [] s)),
          more.1,
        )

    fitting_same : (s : Step) (rest : List Step) → in_part s ≡ true
        → (fitting M J g (s ∷ rest) ≡ fitting N K g (s ∷ rest)) × AllByRecursion (InGroup g) (fitting M J g (s ∷ rest))
    fitting_same s rest e =
        let start : live_ones M J ((groups_step ∷ step_of [] g ∷ []) ∷ []) ≡ live_ones N K ((groups_step ∷ step_of [] g ∷ []) ∷ []) = ones_same ((groups_step ∷ step_of [] g ∷ []) ∷ []) (([], refl), tt)
        in let first = all_below (is_live M (s ∷ [])) s (live_ones M J ((groups_step ∷ step_of [] g ∷ []) ∷ [])) (ones_in ((groups_step ∷ step_of [] g ∷ []) ∷ []) (([], refl), tt))
        in let more = from_same (s ∷ []) rest (flat_map (fitting_below M J (is_live M (s ∷ [])) s) (live_ones M J ((groups_step ∷ step_of [] g ∷ []) ∷ []))) (λ r t. live_same s (r ++ t ∷ []) e) first.1
        in (
          more.0
              ∙ ap (λ (ps : List (List Step)). fitting_from N K (s ∷ []) ps rest)
              (first.0 ∙ ap (λ (b : Bool). flat_map (fitting_below N K b s) (live_ones M J ((groups_step ∷ step_of [] g ∷ []) ∷ []))) (live_same s [] e)
              ∙ ap (flat_map (fitting_below N K (is_live N (s ∷ [])) s)) start),
          more.1,
        )

  abbrev pub AreRead : List Source → Type 0
  AreRead xs = AllByRecursion (λ x. M x.from ≡ N x.from) xs

  read_both : (xs ys : List Source) → AreRead xs → AreRead ys → AreRead (xs ++ ys)
  read_both [] ys h k = k
  read_both (x ∷ xs) ys h k = (h.0, read_both xs ys h.1 k)

  read_in : (g : List ℕ) (alike : (r : List Step) → M (groups_step ∷ step_of [] g ∷ r) ≡ N (groups_step ∷ step_of [] g ∷ r)) (qs : List (List Step)) → AllByRecursion (InGroup g) qs → AreRead (map (source g) qs)
  read_in g alike [] h = tt
  read_in g alike (q ∷ qs) h = (ap M h.0.1 ∙ alike h.0.0 ∙ sym (ap N h.0.1), read_in g alike qs h.1)

  -- a word of a list is one of these
  words_had : (ws front gs : List (List ℕ)) → front ++ gs ≡ ws → AllByRecursion (λ g. lists ws g ≡ true) gs
  words_had ws front [] e = tt
  words_had ws front (g ∷ gs) e = (ap (λ (us : List (List ℕ)). lists us g) (sym e) ∙ among front, words_had ws (front ++ g ∷ []) gs (append_assoc front (g ∷ []) gs ∙ e))
    where
      among : (fs : List (List ℕ)) → lists (fs ++ g ∷ gs) g ≡ true
      among [] = ap (λ (b : Bool). b || lists gs g) (same_is g g refl)
      among (f ∷ fs) = either (same_word g f) (among fs)
        where
          either : (b : Bool) → lists (fs ++ g ∷ gs) g ≡ true → (b || lists (fs ++ g ∷ gs) g) ≡ true
          either true h = refl
          either false h = h

  module _ (s : Step) (rest : List Step) (e : in_part s ≡ true) where
    brought_same : (level : List Step) → IsLevelIn in_part level → (gs : List (List ℕ)) → AllByRecursion (λ g. lists (applied M J level) g ≡ true) gs → (t : List ℕ → Bool)
        → (flat_map (λ g. map (source g) (fitting M J g (s ∷ rest))) (filter t gs) ≡ flat_map (λ g. map (source g) (fitting N K g (s ∷ rest))) (filter t gs))
        × AreRead (flat_map (λ g. map (source g) (fitting M J g (s ∷ rest))) (filter t gs))
    brought_same level l [] h t = (refl, tt)
    brought_same level l (g ∷ gs) h t = by_test (t g) (brought_same level l gs h.1 t)
      where
        by_test : (b : Bool)
            → (flat_map (λ g. map (source g) (fitting M J g (s ∷ rest))) (filter t gs) ≡ flat_map (λ g. map (source g) (fitting N K g (s ∷ rest))) (filter t gs))
            × AreRead (flat_map (λ g. map (source g) (fitting M J g (s ∷ rest))) (filter t gs))
            → (flat_map (λ g. map (source g) (fitting M J g (s ∷ rest))) (cond b (g ∷ filter t gs) (filter t gs)) ≡ flat_map (λ g. map (source g) (fitting N K g (s ∷ rest))) (cond b (g ∷ filter t gs) (filter t gs)))
            × AreRead (flat_map (λ g. map (source g) (fitting M J g (s ∷ rest))) (cond b (g ∷ filter t gs) (filter t gs)))
        by_test true k =
            let fit = fitting_same g (given level g l h.0) s rest e
            in (
              ap (λ (qs : List (List Step)). map (source g) qs ++ flat_map (λ g. map (source g) (fitting M J g (s ∷ rest))) (filter t gs)) fit.0
                  ∙ ap (λ (xs : List Source). map (source g) (fitting N K g (s ∷ rest)) ++ xs) k.0,
              read_both (map (source g) (fitting M J g (s ∷ rest))) (flat_map (λ g. map (source g) (fitting M J g (s ∷ rest))) (filter t gs)) (read_in g (given level g l h.0) (fitting M J g (s ∷ rest)) fit.1) k.1,
            )
        by_test false k = k

    by_same : (levels : List (List Step)) → AllByRecursion (IsLevelIn in_part) levels → (out : List ℕ → Bool)
        → (sources_by M J (λ g. fitting M J g (s ∷ rest)) out levels ≡ sources_by N K (λ g. fitting N K g (s ∷ rest)) out levels) × AreRead (sources_by M J (λ g. fitting M J g (s ∷ rest)) out levels)
    by_same [] h out = (refl, tt)
    by_same (level ∷ levels) h out =
        let t : List ℕ → Bool = λ g. not (lists (excepted M J level) g || out g)
        in let here = brought_same level h.0 (applied M J level) (words_had (applied M J level) [] (applied M J level) refl) t
        in let more = by_same levels h.1 (λ g. lists (excepted M J level) g || out g)
        in (
          ap (λ (xs : List Source). xs ++ sources_by M J (λ g. fitting M J g (s ∷ rest)) (λ g. lists (excepted M J level) g || out g) levels) here.0
              ∙ ap (λ (xs : List Source). flat_map (λ g. map (source g) (fitting N K g (s ∷ rest))) (filter t (applied M J level)) ++ xs) more.0
              ∙ ap (λ (ws : List (List ℕ)). flat_map (λ g. map (source g) (fitting N K g (s ∷ rest))) (filter (λ g. not (lists (excepted M J level) g || out g)) ws)
              ++ sources_by N K (λ g. fitting N K g (s ∷ rest)) (λ g. lists (excepted M J level) g || out g) levels) (applied_same level h.0)
              ∙ ap (λ (ws : List (List ℕ)). flat_map (λ g. map (source g) (fitting N K g (s ∷ rest))) (filter (λ g. not (lists ws g || out g)) (applied N K level))
              ++ sources_by N K (λ g. fitting N K g (s ∷ rest)) (λ g. lists ws g || out g) levels) (excepted_same level h.0),
          read_both (flat_map (λ g. map (source g) (fitting M J g (s ∷ rest))) (filter t (applied M J level))) (sources_by M J (λ g. fitting M J g (s ∷ rest)) (λ g. lists (excepted M J level) g || out g) levels) here.1 more.1,
        )

    levels_in : (above : List Step) (inner : List (List Step)) (more : List Step) → AllByRecursion (IsLevelIn in_part) inner
        → AllByRecursion (IsLevelIn in_part) (outward_from (s ∷ above) inner more)
    levels_in above inner [] h = h
    levels_in above inner (t ∷ more) h = levels_in (above ++ t ∷ []) ((s ∷ above) ∷ inner) more (e, h)

    sources_same : (sources M J (s ∷ rest) ≡ sources N K (s ∷ rest)) × AreRead (sources M J (s ∷ rest))
    sources_same = by_test (is_outside (s ∷ rest) && is_plain (s ∷ rest))
      where
        by_test : (b : Bool) → (cond b (sources_by M J (λ g. fitting M J g (s ∷ rest)) (λ g. false) (outward (s ∷ rest))) [] ≡ cond b (sources_by N K (λ g. fitting N K g (s ∷ rest)) (λ g. false) (outward (s ∷ rest))) [])
            × AreRead (cond b (sources_by M J (λ g. fitting M J g (s ∷ rest)) (λ g. false) (outward (s ∷ rest))) [])
        by_test true = by_same (outward (s ∷ rest)) (levels_in [] ([] ∷ []) rest (tt, tt)) (λ g. false)
        by_test false = (refl, tt)

    own_same : is_own M (s ∷ rest) ≡ is_own N (s ∷ rest)
    own_same = ap (λ (b : Bool). b && (is_outside (s ∷ rest) && not (is_apply (s ∷ rest)))) (live_same s rest e)

  first_same : (xs : List Source) → AreRead xs → first_gift M xs ≡ first_gift N xs
  first_same [] h = refl
  first_same (x ∷ xs) h = ap (λ (o : Option Value). Some (record { words = words_of o; group = x.group })) h.0

  -- the same is given at each path in the part
  pub gift_same : (s : Step) (rest : List Step) → in_part s ≡ true → gift_at M J (s ∷ rest) ≡ gift_at N K (s ∷ rest)
  gift_same s rest e =
      let k = sources_same s rest e
      in ap (λ (o : Option Value). cond (is_own M (s ∷ rest)) (Some (record { words = words_of o; group = [] })) (first_gift M (sources M J (s ∷ rest)))) (inside s rest e)
      ∙ ap (λ (g : Option Gift). cond (is_own M (s ∷ rest)) (Some (record { words = words_of (N (s ∷ rest)); group = [] })) g) (first_same (sources M J (s ∷ rest)) k.1 ∙ ap (first_gift N) k.0)
      ∙ ap (λ (b : Bool). cond b (Some (record { words = words_of (N (s ∷ rest)); group = [] })) (first_gift N (sources N K (s ∷ rest)))) (own_same s rest e)

  -- a child of a path, with a head, that isn't the configuration's own
  abbrev is_new : Look → List ℕ → List Step → List Step → Bool
  is_new look head path q = is_child path q && (same_word head (last_of q).head && not (is_own look q))

  -- expansions that have something at the same paths of the part
  module _ (full other : Expansion)
      (there : (s : Step) (rest : List Step) → in_part s ≡ true → is_some (finite.get full (s ∷ rest)) ≡ is_some (finite.get other (s ∷ rest)))
      (s : Step) (rest : List Step) (e : in_part s ≡ true) where
    test_same : (head : List ℕ) (q : List Step) → is_new M head (s ∷ rest) q ≡ is_new N head (s ∷ rest) q
    test_same head q = by_test (is_child (s ∷ rest) q) refl
      where
        by_test : (b : Bool) → is_child (s ∷ rest) q ≡ b
            → (b && (same_word head (last_of q).head && not (is_own M q))) ≡ (b && (same_word head (last_of q).head && not (is_own N q)))
        by_test false c = refl
        by_test true c =
            let at = child_split (s ∷ rest) q c
            in ap (λ (p : List Step). same_word head (last_of q).head && not (is_own M p)) at
            ∙ ap (λ (b : Bool). same_word head (last_of q).head && not b) (own_same s (rest ++ last_of q ∷ []) e)
            ∙ sym (ap (λ (p : List Step). same_word head (last_of q).head && not (is_own N p)) at)

    names_there : (head : List ℕ) (q : List Step) → is_new N head (s ∷ rest) q ≡ true → is_some (finite.get full q) ≡ is_some (finite.get other q)
    names_there head q h =
        let at = child_split (s ∷ rest) q (both (is_child (s ∷ rest) q) _ h).0
        in ap (λ (p : List Step). is_some (finite.get full p)) at
        ∙ there s (rest ++ last_of q ∷ []) e
        ∙ sym (ap (λ (p : List Step). is_some (finite.get other p)) at)

    names_same : (head : List ℕ) → inherited_names M full head (s ∷ rest) ≡ inherited_names N other head (s ∷ rest)
    names_same head =
        let tests : is_new M head (s ∷ rest) ≡ is_new N head (s ∷ rest) = λ i q. test_same head q i
        in ap (λ (t : List Step → Bool). map (λ q. (last_of q).name) (filter t (finite.keys full))) tests
        ∙ ap (map (λ (q : List Step). (last_of q).name)) (passing_same (is_new N head (s ∷ rest)) full other (names_there head))

    live_names_same : (head : List ℕ) → filter (λ name. is_live M ((s ∷ rest) ++ step_of head name ∷ [])) (order_in (M (s ∷ rest)))
        ≡ filter (λ name. is_live N ((s ∷ rest) ++ step_of head name ∷ [])) (order_in (N (s ∷ rest)))
    live_names_same head =
        let tests : (λ (name : List ℕ). is_live M (s ∷ (rest ++ step_of head name ∷ []))) ≡ (λ (name : List ℕ). is_live N (s ∷ (rest ++ step_of head name ∷ [])))
        = λ i name. live_same s (rest ++ step_of head name ∷ []) e i
        in ap (λ (t : List ℕ → Bool). filter t (order_in (M (s ∷ rest)))) tests
        ∙ ap (λ (o : Option Value). filter (λ name. is_live N (s ∷ (rest ++ step_of head name ∷ []))) (order_in o)) (inside s rest e)

    pub order_same : (head : Option (List ℕ)) → order_by M full (s ∷ rest) head ≡ order_by N other (s ∷ rest) head
    order_same None = refl
    order_same (Some head) =
        ap (λ (names : List (List ℕ)). names ++ inherited_names M full head (s ∷ rest)) (live_names_same head)
        ∙ ap (λ (names : List (List ℕ)). filter (λ name. is_live N ((s ∷ rest) ++ step_of head name ∷ [])) (order_in (N (s ∷ rest))) ++ names) (names_same head)

  gift_some : (o p : Option Given) → option_map gift_of o ≡ option_map gift_of p → is_some o ≡ is_some p
  gift_some None None e = refl
  gift_some None (Some y) e = cc
  gift_some (Some x) None e = cc
  gift_some (Some x) (Some y) e = refl

  -- their expansions have the same in the part
  module _ (full other : Expansion) (one : IsExpansionOf M J full) (two : IsExpansionOf N K other) where
    gifts_same : (s : Step) (rest : List Step) → in_part s ≡ true → option_map gift_of (finite.get full (s ∷ rest)) ≡ option_map gift_of (finite.get other (s ∷ rest))
    gifts_same s rest e = one.gifts (s ∷ rest) (λ k. cc) ∙ gift_same s rest e ∙ sym (two.gifts (s ∷ rest) (λ k. cc))

    given_same : (s : Step) (rest : List Step) → in_part s ≡ true → (o p : Option Given) → finite.get full (s ∷ rest) ≡ o → finite.get other (s ∷ rest) ≡ p
        → option_map gift_of o ≡ option_map gift_of p → o ≡ p
    given_same s rest e None None a b h = refl
    given_same s rest e None (Some y) a b h = cc
    given_same s rest e (Some x) None a b h = cc
    given_same s rest e (Some x) (Some y) a b h =
        let gift : gift_of x ≡ gift_of y = cc
        in let order : x.order ≡ y.order
        = one.orders (s ∷ rest) x a
        ∙ order_same full other (λ t more f. gift_some _ _ (gifts_same t more f)) s rest e (ordered_head (place_of (s ∷ rest)))
        ∙ sym (two.orders (s ∷ rest) y b)
        in let same : x ≡ y = λ i. record { words = (gift i).words; order = order i; group = (gift i).group }
        in ap Some same

    pub expansions_same : (s : Step) (rest : List Step) → in_part s ≡ true → finite.get full (s ∷ rest) ≡ finite.get other (s ∷ rest)
    expansions_same s rest e = given_same s rest e _ _ refl refl (gifts_same s rest e)

-- all but `groups`
abbrev is_open : Step → Bool
is_open s = is_outside (s ∷ [])

open_level : (level : List Step) → IsLevelIn is_open level → is_outside level ≡ true
open_level [] e = refl
open_level (s ∷ rest) e = e

-- where they are the same outside `groups`, and in each group that is applied, the expansion of one is that of the other
module _ (M N : Look) (J K : List Step → List Step)
    (kids_same : (q : List Step) → ((s : Step) → M (q ++ s ∷ []) ≡ N (q ++ s ∷ [])) → J q ≡ K q)
    (outside : (q : List Step) → is_outside q ≡ true → M q ≡ N q)
    (top : M (groups_step ∷ []) ≡ N (groups_step ∷ []))
    (given : (level : List Step) (g : List ℕ) → is_outside level ≡ true → lists (applied M J level) g ≡ true
    → (r : List Step) → M (groups_step ∷ step_of [] g ∷ r) ≡ N (groups_step ∷ step_of [] g ∷ r)) where
  open_gift : (s : Step) (rest : List Step) → is_open s ≡ true → gift_at M J (s ∷ rest) ≡ gift_at N K (s ∷ rest)
  open_gift = gift_same M N J K kids_same is_open (λ s r e. outside (s ∷ r) e) refl refl top (λ level g l. given level g (open_level level l))

  every_gift : (q : List Step) → q ≢ [] → gift_at M J q ≡ gift_at N K q
  every_gift [] some = absurd (some refl)
  every_gift (s ∷ rest) some = by_test (is_open s) refl
    where
      by_test : (b : Bool) → is_open s ≡ b → gift_at M J (s ∷ rest) ≡ gift_at N K (s ∷ rest)
      by_test true e = open_gift s rest e
      by_test false e = none_inside M J s rest e ∙ sym (none_inside N K s rest e)

  pub expansion_same : (full : Expansion) → IsExpansionOf M J full → IsExpansionOf N K full
  expansion_same full h = record {
    gifts = λ path some. h.gifts path some ∙ every_gift path some;
    top = h.top;
    orders = λ path given_there there. h.orders path given_there there ∙ same_at path given_there there (ordered_head (place_of path));
  }
    where
      same_at : (path : List Step) (g : Given) → finite.get full path ≡ Some g → (head : Option (List ℕ)) → order_by M full path head ≡ order_by N full path head
      same_at [] g there head = let c = sym h.top ∙ there in cc
      same_at (s ∷ path) g there head = by_test (is_open s) refl
        where
          by_test : (b : Bool) → is_open s ≡ b → order_by M full (s ∷ path) head ≡ order_by N full (s ∷ path) head
          by_test true e =
              order_same M N J K kids_same is_open (λ t r f. outside (t ∷ r) f) refl refl top (λ level w l. given level w (open_level level l)) full full
              (λ t r f. refl) s path e head
          by_test false e = let c = sym (ap (option_map gift_of) there) ∙ h.gifts (s ∷ path) (λ k. cc) ∙ none_inside M J s path e in cc
