-- What a path has rests on what stands at it and above it, on what is applied and excepted above it, and on the groups: on nothing else.
use Rattle.std.proofs.Common.{◌≡◌, ℕ, Bool, true, false, not, cond, List, [], ◌∷◌, ◌++◌, filter, map, refl, sym, ap, ◌∙◌, append_assoc, Option, Some}
use Rattle.std.specs.Prelude.{◌&&◌, ◌||◌, flat_map}
use Rattle.std.specs.List.{AllByRecursion}
use Rattle.std.proofs.lemmas.List.{append-nil}
use Rattle.cfg_base.specs.Words.{lists}
use Rattle.cfg_base.specs.declared.path.Step.{Step}
use Rattle.cfg_base.specs.declared.value.Value.{Value}
use Rattle.cfg_tree.specs.Tree.{step_of}
use Rattle.group_expand.specs.Live.{Look, is_active, is_live, live_from, words_of}
use Rattle.group_expand.specs.Sources.{Source, source, groups_step, apply_step, except_step, fits_wildcard, fitting_below, fitting_from, fitting, live_ones, applied, excepted, sources_by, sources, is_outside, is_plain, outward_from, outward}
use Rattle.group_expand.specs.Expansion.{Gift, is_apply, is_own, first_gift, gift_at}

module _ (M N : Look) (J K : List Step → List Step)
    (groups_same : (r : List Step) → M (groups_step ∷ r) ≡ N (groups_step ∷ r))
    (kids_same : (r : List Step) → J (groups_step ∷ r) ≡ K (groups_step ∷ r)) where
  live_from_same : (above rest : List Step) → ((s : Step) (a b : List Step) → rest ≡ s ∷ (a ++ b) → M (above ++ s ∷ a) ≡ N (above ++ s ∷ a)) → live_from M above rest ≡ live_from N above rest
  live_from_same above [] same = refl
  live_from_same above (s ∷ rest) same =
      ap (λ (o : Option Value). is_active o && live_from M (above ++ s ∷ []) rest) (same s [] rest refl)
      ∙ ap (λ (b : Bool). is_active (N (above ++ s ∷ [])) && b)
      (live_from_same (above ++ s ∷ []) rest (λ t a b is. ap M (append_assoc above (s ∷ []) (t ∷ a)) ∙ same s (t ∷ a) b (ap (λ (l : List Step). s ∷ l) is) ∙ sym (ap N (append_assoc above (s ∷ []) (t ∷ a)))))

  -- below `groups`
  abbrev pub InGroups : List Step → Type 0
  InGroups q = (r : List Step) × (q ≡ groups_step ∷ r)

  heads : (s t : Step) (xs ys : List Step) → s ∷ xs ≡ t ∷ ys → s ≡ t
  heads s t xs ys is = cc

  read_in_groups : (q : List Step) → InGroups q → M q ≡ N q
  read_in_groups q h = ap M h.1 ∙ groups_same h.0 ∙ sym (ap N h.1)

  live_in : (q : List Step) → InGroups q → is_live M q ≡ is_live N q
  live_in q h = ap (is_live M) h.1 ∙ live_from_same [] (groups_step ∷ h.0) same ∙ sym (ap (is_live N) h.1)
    where
      same : (s : Step) (a b : List Step) → groups_step ∷ h.0 ≡ s ∷ (a ++ b) → M (s ∷ a) ≡ N (s ∷ a)
      same s a b is = let e : s ≡ groups_step = sym (heads groups_step s h.0 (a ++ b) is) in ap (λ (z : Step). M (z ∷ a)) e ∙ groups_same a ∙ sym (ap (λ (z : Step). N (z ∷ a)) e)

  ones_same : (qs : List (List Step)) → AllByRecursion InGroups qs → live_ones M J qs ≡ live_ones N K qs
  ones_same [] h = refl
  ones_same (q ∷ qs) h =
      ap (λ (b : Bool). cond b (q ∷ live_ones M J qs) (live_ones M J qs)) (live_in q h.0)
      ∙ ap (λ (ps : List (List Step)). cond (is_live N q) (q ∷ ps) ps) (ones_same qs h.1)

  ones_in : (qs : List (List Step)) → AllByRecursion InGroups qs → AllByRecursion InGroups (live_ones M J qs)
  ones_in [] h = tt
  ones_in (q ∷ qs) h = by_test (is_live M q) (ones_in qs h.1)
    where
      by_test : (b : Bool) → AllByRecursion InGroups (live_ones M J qs) → AllByRecursion InGroups (cond b (q ∷ live_ones M J qs) (live_ones M J qs))
      by_test true k = (h.0, k)
      by_test false k = k

  more_in : (q : List Step) → InGroups q → (s : Step) → InGroups (q ++ s ∷ [])
  more_in q h s = (h.0 ++ s ∷ [], ap (λ (p : List Step). p ++ s ∷ []) h.1)

  others_in : (q : List Step) → InGroups q → (ss : List Step) → AllByRecursion InGroups (map (λ other. q ++ other ∷ []) ss)
  others_in q h [] = tt
  others_in q h (s ∷ ss) = (more_in q h s, others_in q h ss)

  kids_in : (q : List Step) → InGroups q → J q ≡ K q
  kids_in q h = ap J h.1 ∙ kids_same h.0 ∙ sym (ap K h.1)

  below_same : (b : Bool) (s : Step) (q : List Step) → InGroups q → fitting_below M J b s q ≡ fitting_below N K b s q
  below_same b s q h =
      ap (λ (ps : List (List Step)). ps ++ live_ones M J (map (λ other. q ++ other ∷ []) (cond b (filter (fits_wildcard s) (J q)) []))) (ones_same ((q ++ s ∷ []) ∷ []) (more_in q h s, tt))
      ∙ ap (λ (ps : List (List Step)). live_ones N K ((q ++ s ∷ []) ∷ []) ++ ps)
      (ones_same (map (λ other. q ++ other ∷ []) (cond b (filter (fits_wildcard s) (J q)) [])) (others_in q h (cond b (filter (fits_wildcard s) (J q)) []))
      ∙ ap (λ (ss : List Step). live_ones N K (map (λ other. q ++ other ∷ []) (cond b (filter (fits_wildcard s) ss) []))) (kids_in q h))

  in_both : (ps qs : List (List Step)) → AllByRecursion InGroups ps → AllByRecursion InGroups qs → AllByRecursion InGroups (ps ++ qs)
  in_both [] qs h k = k
  in_both (p ∷ ps) qs h k = (h.0, in_both ps qs h.1 k)

  all_below : (b : Bool) (s : Step) (qs : List (List Step)) → AllByRecursion InGroups qs
      → (flat_map (fitting_below M J b s) qs ≡ flat_map (fitting_below N K b s) qs) × AllByRecursion InGroups (flat_map (fitting_below M J b s) qs)
  all_below b s [] h = (refl, tt)
  all_below b s (q ∷ qs) h =
      let more = all_below b s qs h.1 in (
        ap (λ (ps : List (List Step)). ps ++ flat_map (fitting_below M J b s) qs) (below_same b s q h.0) ∙ ap (λ (ps : List (List Step)). fitting_below N K b s q ++ ps) more.0,
        in_both (fitting_below M J b s q) (flat_map (fitting_below M J b s) qs)
            (in_both (live_ones M J ((q ++ s ∷ []) ∷ [])) (live_ones M J (map (λ other. q ++ other ∷ []) (cond b (filter (fits_wildcard s) (J q)) [])))
            (ones_in ((q ++ s ∷ []) ∷ []) (more_in q h.0 s, tt))
            (ones_in (map (λ other. q ++ other ∷ []) (cond b (filter (fits_wildcard s) (J q)) [])) (others_in q h.0 (cond b (filter (fits_wildcard s) (J q)) []))))
            more.1,
      )

  from_same : (above rest : List Step) (found : List (List Step)) → ((a : List Step) (s : Step) (b : List Step) → rest ≡ a ++ s ∷ b → is_live M (above ++ (a ++ s ∷ [])) ≡ is_live N (above ++ (a ++ s ∷ [])))
      → AllByRecursion InGroups found → (fitting_from M J above found rest ≡ fitting_from N K above found rest) × AllByRecursion InGroups (fitting_from M J above found rest)
  from_same above [] found live h = (refl, h)
  from_same above (s ∷ rest) found live h =
      let here = all_below (is_live M (above ++ s ∷ [])) s found h in
      let more = from_same (above ++ s ∷ []) rest (flat_map (fitting_below M J (is_live M (above ++ s ∷ [])) s) found)
      (λ a t b is. ap (is_live M) (append_assoc above (s ∷ []) (a ++ t ∷ [])) ∙ live (s ∷ a) t b (ap (λ (l : List Step). s ∷ l) is) ∙ sym (ap (is_live N) (append_assoc above (s ∷ []) (a ++ t ∷ [])))) here.1 in (
        more.0
            ∙ ap (λ (ps : List (List Step)). fitting_from N K (above ++ s ∷ []) ps rest)
            (here.0 ∙ ap (λ (b : Bool). flat_map (fitting_below N K b s) found) (live [] s rest refl)),
        more.1,
      )

  abbrev pub AreRead : List Source → Type 0
  AreRead xs = AllByRecursion (λ x. M x.from ≡ N x.from) xs

  read_both : (xs ys : List Source) → AreRead xs → AreRead ys → AreRead (xs ++ ys)
  read_both [] ys h k = k
  read_both (x ∷ xs) ys h k = (h.0, read_both xs ys h.1 k)

  read_in : (g : List ℕ) (qs : List (List Step)) → AllByRecursion InGroups qs → AreRead (map (source g) qs)
  read_in g [] h = tt
  read_in g (q ∷ qs) h = (read_in_groups q h.0, read_in g qs h.1)

  -- one path: the statements at it and above it are the same in both, and what is applied and excepted above it
  module _ (p : List Step)
      (at : (s : Step) (a b : List Step) → p ≡ s ∷ (a ++ b) → M (s ∷ a) ≡ N (s ∷ a))
      (applies : (a : List Step) (s : Step) (b : List Step) → p ≡ a ++ s ∷ b → M (a ++ apply_step ∷ []) ≡ N (a ++ apply_step ∷ []))
      (excepts : (a : List Step) (s : Step) (b : List Step) → p ≡ a ++ s ∷ b → M (a ++ except_step ∷ []) ≡ N (a ++ except_step ∷ [])) where
    -- what stands right below a path above
    live_more : (a : List Step) (t : Step) → live_from M [] a ≡ live_from N [] a → M (a ++ t ∷ []) ≡ N (a ++ t ∷ []) → is_live M (a ++ t ∷ []) ≡ is_live N (a ++ t ∷ [])
    live_more a t above same = split M a t ∙ ap (λ (b : Bool). b && is_active (M (a ++ t ∷ []))) above ∙ ap (λ (o : Option Value). live_from N [] a && is_active o) same ∙ sym (split N a t)
      where
        ends : (L : Look) (above rest : List Step) (t : Step) → live_from L above (rest ++ t ∷ []) ≡ (live_from L above rest && is_active (L (above ++ (rest ++ t ∷ []))))
        ends L above [] t = both (is_active (L (above ++ t ∷ [])))
          where
            both : (b : Bool) → (b && true) ≡ b
            both true = refl
            both false = refl
        ends L above (s ∷ rest) t =
            ap (λ (b : Bool). is_active (L (above ++ s ∷ [])) && b) (ends L (above ++ s ∷ []) rest t ∙ ap (λ (q : List Step). live_from L (above ++ s ∷ []) rest && is_active (L q)) (append_assoc above (s ∷ []) (rest ++ t ∷ [])))
            ∙ joined (is_active (L (above ++ s ∷ []))) (live_from L (above ++ s ∷ []) rest) (is_active (L (above ++ (s ∷ (rest ++ t ∷ [])))))
          where
            joined : (x y z : Bool) → (x && (y && z)) ≡ ((x && y) && z)
            joined true y z = refl
            joined false y z = refl

        split : (L : Look) (a : List Step) (t : Step) → is_live L (a ++ t ∷ []) ≡ (live_from L [] a && is_active (L (a ++ t ∷ [])))
        split L a t = ends L [] a t

    pub live_above : (a b : List Step) → p ≡ a ++ b → is_live M a ≡ is_live N a
    live_above a b is = live_from_same [] a (λ s c d e. at s c (d ++ b) (is ∙ ap (λ (l : List Step). l ++ b) e ∙ ap (λ (l : List Step). s ∷ l) (append_assoc c d b)))

    applied_same : (a : List Step) (s : Step) (b : List Step) → p ≡ a ++ s ∷ b → applied M J a ≡ applied N K a
    applied_same a s b is =
        ap (λ (live : Bool). cond live (words_of (M (a ++ apply_step ∷ []))) []) (live_more a apply_step (live_above a (s ∷ b) is) (applies a s b is))
        ∙ ap (λ (o : Option Value). cond (is_live N (a ++ apply_step ∷ [])) (words_of o) []) (applies a s b is)

    excepted_same : (a : List Step) (s : Step) (b : List Step) → p ≡ a ++ s ∷ b → excepted M J a ≡ excepted N K a
    excepted_same a s b is =
        ap (λ (live : Bool). cond live (words_of (M (a ++ except_step ∷ []))) []) (live_more a except_step (live_above a (s ∷ b) is) (excepts a s b is))
        ∙ ap (λ (o : Option Value). cond (is_live N (a ++ except_step ∷ [])) (words_of o) []) (excepts a s b is)

    fitting_same : (g : List ℕ) → (fitting M J g p ≡ fitting N K g p) × AllByRecursion InGroups (fitting M J g p)
    fitting_same g =
        let start = ones_same ((groups_step ∷ step_of [] g ∷ []) ∷ []) ((step_of [] g ∷ [], refl), tt) in
        let more = from_same [] p (live_ones M J ((groups_step ∷ step_of [] g ∷ []) ∷ []))
        (λ a s b is. live_above (a ++ s ∷ []) b (is ∙ sym (append_assoc a (s ∷ []) b))) (ones_in ((groups_step ∷ step_of [] g ∷ []) ∷ []) ((step_of [] g ∷ [], refl), tt)) in
        (more.0 ∙ ap (λ (qs : List (List Step)). fitting_from N K [] qs p) start, more.1)

    abbrev pub LevelSame : List Step → Type 0
    LevelSame level = (applied M J level ≡ applied N K level) × (excepted M J level ≡ excepted N K level)

    brought_same : (gs : List (List ℕ)) (t : List ℕ → Bool)
        → (flat_map (λ g. map (source g) (fitting M J g p)) (filter t gs) ≡ flat_map (λ g. map (source g) (fitting N K g p)) (filter t gs))
        × AreRead (flat_map (λ g. map (source g) (fitting M J g p)) (filter t gs))
    brought_same [] t = (refl, tt)
    brought_same (g ∷ gs) t = by_test (t g) (brought_same gs t)
      where
        by_test : (b : Bool)
            → (flat_map (λ g. map (source g) (fitting M J g p)) (filter t gs) ≡ flat_map (λ g. map (source g) (fitting N K g p)) (filter t gs))
            × AreRead (flat_map (λ g. map (source g) (fitting M J g p)) (filter t gs))
            → (flat_map (λ g. map (source g) (fitting M J g p)) (cond b (g ∷ filter t gs) (filter t gs)) ≡ flat_map (λ g. map (source g) (fitting N K g p)) (cond b (g ∷ filter t gs) (filter t gs)))
            × AreRead (flat_map (λ g. map (source g) (fitting M J g p)) (cond b (g ∷ filter t gs) (filter t gs)))
        by_test true k =
            let fit = fitting_same g in (
              ap (λ (qs : List (List Step)). map (source g) qs ++ flat_map (λ g. map (source g) (fitting M J g p)) (filter t gs)) fit.0
                  ∙ ap (λ (xs : List Source). map (source g) (fitting N K g p) ++ xs) k.0,
              read_both (map (source g) (fitting M J g p)) (flat_map (λ g. map (source g) (fitting M J g p)) (filter t gs)) (read_in g (fitting M J g p) fit.1) k.1,
            )
        by_test false k = k

    by_same : (levels : List (List Step)) → AllByRecursion LevelSame levels → (out : List ℕ → Bool)
        → (sources_by M J (λ g. fitting M J g p) out levels ≡ sources_by N K (λ g. fitting N K g p) out levels) × AreRead (sources_by M J (λ g. fitting M J g p) out levels)
    by_same [] h out = (refl, tt)
    by_same (level ∷ levels) h out =
        let t : List ℕ → Bool = λ g. not (lists (excepted M J level) g || out g) in
        let here = brought_same (applied M J level) t in
        let more = by_same levels h.1 (λ g. lists (excepted M J level) g || out g) in (
          ap (λ (xs : List Source). xs ++ sources_by M J (λ g. fitting M J g p) (λ g. lists (excepted M J level) g || out g) levels) here.0
              ∙ ap (λ (xs : List Source). flat_map (λ g. map (source g) (fitting N K g p)) (filter t (applied M J level)) ++ xs) more.0
              ∙ ap (λ (ws : List (List ℕ)). flat_map (λ g. map (source g) (fitting N K g p)) (filter (λ g. not (lists (excepted M J level) g || out g)) ws)
              ++ sources_by N K (λ g. fitting N K g p) (λ g. lists (excepted M J level) g || out g) levels) h.0.0
              ∙ ap (λ (ws : List (List ℕ)). flat_map (λ g. map (source g) (fitting N K g p)) (filter (λ g. not (lists ws g || out g)) (applied N K level))
              ++ sources_by N K (λ g. fitting N K g p) (λ g. lists ws g || out g) levels) h.0.1,
          read_both (flat_map (λ g. map (source g) (fitting M J g p)) (filter t (applied M J level))) (sources_by M J (λ g. fitting M J g p) (λ g. lists (excepted M J level) g || out g) levels) here.1 more.1,
        )

    levels_same : (above : List Step) (inner : List (List Step)) (rest : List Step) → p ≡ above ++ rest → AllByRecursion LevelSame inner → AllByRecursion LevelSame (outward_from above inner rest)
    levels_same above inner [] is h = h
    levels_same above inner (s ∷ rest) is h =
        levels_same (above ++ s ∷ []) (above ∷ inner) rest (is ∙ sym (append_assoc above (s ∷ []) rest)) ((applied_same above s rest is, excepted_same above s rest is), h)

    sources_same : (sources M J p ≡ sources N K p) × AreRead (sources M J p)
    sources_same = by_test (is_outside p && is_plain p)
      where
        all : (sources_by M J (λ g. fitting M J g p) (λ g. false) (outward p) ≡ sources_by N K (λ g. fitting N K g p) (λ g. false) (outward p)) × AreRead (sources_by M J (λ g. fitting M J g p) (λ g. false) (outward p))
        all = by_same (outward p) (levels_same [] [] p refl tt) (λ g. false)

        by_test : (b : Bool) → (cond b (sources_by M J (λ g. fitting M J g p) (λ g. false) (outward p)) [] ≡ cond b (sources_by N K (λ g. fitting N K g p) (λ g. false) (outward p)) [])
            × AreRead (cond b (sources_by M J (λ g. fitting M J g p) (λ g. false) (outward p)) [])
        by_test true = all
        by_test false = (refl, tt)

    first_same : (xs : List Source) → AreRead xs → first_gift M xs ≡ first_gift N xs
    first_same [] h = refl
    first_same (x ∷ xs) h = ap (λ (o : Option Value). let gift : Gift = record { words = words_of o; group = x.group } in Some gift) h.0

    -- the same is there
    pub gift_same : M p ≡ N p → gift_at M J p ≡ gift_at N K p
    gift_same here =
        ap (λ (live : Bool). cond {A = Option Gift} (live && (is_outside p && not (is_apply p))) (Some (record { words = words_of (M p); group = [] })) (first_gift M (sources M J p))) (live_above p [] (sym (append-nil p)))
        ∙ ap (λ (o : Option Value). cond {A = Option Gift} (is_own N p) (Some (record { words = words_of o; group = [] })) (first_gift M (sources M J p))) here
        ∙ ap (λ (g : Option Gift). cond {A = Option Gift} (is_own N p) (Some (record { words = words_of (N p); group = [] })) g) (first_same (sources M J p) sources_same.1 ∙ ap (first_gift N) sources_same.0)
