-- The level that the code makes is that of the path.
use Rattle.std.proofs.Common.{◌≡◌, ◌⊎◌, inl, inr, ℕ, Bool, true, false, not, cond, List, [], ◌∷◌, ◌++◌, filter, map, refl, sym, ap, subst, ◌∙◌, arith, is_some}
use Rattle.std.specs.Prelude.{◌||◌, flat_map, is_none}
use Rattle.std.proofs.lemmas.List.Elements.{filter-append}
use Rattle.std.specs.List.{AllByRecursion, list_any}
use Rattle.std.specs.List.Sorted.{IsStrictlySortedBy}
use Rattle.std.specs.BTreeSet.{insert_key}
use Rattle.std.specs.Ordering.{eq_by_cmp, match_ordering, is_le, is_eq}
use Rattle.std.specs.declared.cmp.Ordering.{Ordering}
use Rattle.std.specs.declared.cmp.Ordering.TheVariants.{Less, Equal, Greater}
use Rattle.cfg_base.specs.Order.{step_cmp, steps_total}
use Rattle.cfg_base.specs.declared.path.Step.{Step}
use Rattle.cfg_tree.specs.Children.{step_if}
use Rattle.cfg_tree.proofs.MapLemmas.{same_step}
use Rattle.group_expand.specs.Live.{Look, is_live}
use Rattle.group_expand.specs.Sources as given
use Rattle.group_expand.specs.Sources.{is_wildcard, is_plain}
use Rattle.group_expand.specs.Front.{front, live_kids, sorted, steps_at}
use Rattle.group_expand.specs.Row.{StatementView}
use Rattle.group_expand.specs.Node.{Node, children_of}
use Rattle.group_expand.specs.Offer.{Source, Offer, own_offer, node_offer, has_wildcard, plain_offers, wild_offers, offers_of, offered, is_for, is_wild}
use Rattle.group_expand.specs.Level.{Ranked, Level, with_ranks, is_wild_at, is_unmatched, is_at, Climbs, IsLevel}
use Rattle.group_expand.specs.Runs.{with_first, steps_of, begins_own, is_matched, joined, run_in}
use Rattle.group_expand.specs.Placed.{node_at, kids_at, run_at, IsRight, IsLevelAt}
use Rattle.group_expand.proofs.StepLemmas.{last_is}
use Rattle.group_expand.proofs.ClosedLemmas.{HasOne}
use Rattle.group_expand.proofs.ListedLemmas.{Among}
use Rattle.group_expand.proofs.CandidateLemmas.{among_sorted, sorted_sorted}
use Rattle.group_expand.proofs.StepsLemmas.{climbs, one_order}
use Rattle.group_expand.proofs.NodeLemmas.{append_nothing}
use Rattle.group_expand.proofs.ListLemmas.{map_append, map_map, filter_flat, flat_same}
use Rattle.group_expand.proofs.RankLemmas.{plain_ranked, begins, begins_ranked, joined_is}
use Rattle.group_expand.proofs.RunLemmas.{placed, own_for, offers_for}

among_split : (u : Step) (xs ys : List Step) → Among u (xs ++ ys) → Among u xs ⊎ Among u ys
among_split u [] ys h = inr h
among_split u (x ∷ xs) ys (inl e) = inl (inl e)
among_split u (x ∷ xs) ys (inr h) = elim (among_split u xs ys h) [ inl k ↦ inl (inr k) | inr k ↦ inr k ]

among_insert_from : (u k : Step) (xs : List Step) → Among u (insert_key step_cmp xs k) → (k ≡ u) ⊎ Among u xs
among_insert_from u k [] h = elim h [ inl e ↦ inl e | inr m ↦ absurd m ]
among_insert_from u k (x ∷ xs) h = by_order (step_cmp k x) h (among_insert_from u k xs)
  where
    by_order : (o : Ordering) → Among u (match_ordering o (k ∷ x ∷ xs) (x ∷ xs) (x ∷ insert_key step_cmp xs k)) → (Among u (insert_key step_cmp xs k) → (k ≡ u) ⊎ Among u xs) → (k ≡ u) ⊎ Among u (x ∷ xs)
    by_order Less m go = elim m [ inl e ↦ inl e | inr n ↦ inr n ]
    by_order Equal m go = inr m
    by_order Greater m go = elim m [ inl e ↦ inr (inl e) | inr n ↦ elim (go n) [ inl e ↦ inl e | inr a ↦ inr (inr a) ] ]

among_unsorted : (u : Step) (xs : List Step) → Among u (sorted xs) → Among u xs
among_unsorted u [] h = h
among_unsorted u (x ∷ xs) h = elim (among_insert_from u x (sorted xs) h) [ inl e ↦ inl e | inr m ↦ inr (among_unsorted u xs m) ]

-- each of the steps among some
pub all_among : (P : Step → Type 0) (ss : List Step) → ((u : Step) → Among u ss → P u) → AllByRecursion P ss
all_among P [] go = tt
all_among P (s ∷ ss) go = (go s (inl refl), all_among P ss (λ u m. go u (inr m)))

-- the steps of some offers
abbrev steps : List Offer → List Step
steps os = map (λ (o : Offer). o.step) os

abbrev steps_at_ranks : List Ranked → List Step
steps_at_ranks rs = map (λ (r : Ranked). r.offer.step) rs

step_found : (u : Step) (rs : List Ranked) → Among u (steps_at_ranks rs) → HasOne (filter (is_at u) rs)
step_found u [] h = absurd h
step_found u (r ∷ rs) h = by_test (is_at u r) refl h (step_found u rs)
  where
    by_test : (b : Bool) → is_at u r ≡ b → (r.offer.step ≡ u) ⊎ Among u (steps_at_ranks rs) → (Among u (steps_at_ranks rs) → HasOne (filter (is_at u) rs)) → HasOne (cond b (r ∷ filter (is_at u) rs) (filter (is_at u) rs))
    by_test true e k go = record { has = omega arith }
    by_test false e (inl same) go = let k : eq_by_cmp step_cmp u r.offer.step ≡ true = (same_step u r.offer.step).1 (sym same) in let c = sym k ∙ e in cc
    by_test false e (inr m) go = go m

pub found_step : (u : Step) (rs : List Ranked) → HasOne (filter (is_at u) rs) → Among u (steps_at_ranks rs)
found_step u [] h = absurd (let k = h.has in omega arith)
found_step u (r ∷ rs) h = by_test (is_at u r) refl h (found_step u rs)
  where
    by_test : (b : Bool) → is_at u r ≡ b → HasOne (cond b (r ∷ filter (is_at u) rs) (filter (is_at u) rs)) → (HasOne (filter (is_at u) rs) → Among u (steps_at_ranks rs)) → Among u (steps_at_ranks (r ∷ rs))
    by_test true e k go = inl (sym ((same_step u r.offer.step).0 e))
    by_test false e k go = inr (go k)

-- the steps of a level, each once
among_first : (u s : Step) (ts : List Step) → Among u (with_first s ts) → (s ≡ u) ⊎ Among u ts
among_first u s [] h = elim h [ inl e ↦ inl e | inr m ↦ absurd m ]
among_first u s (t ∷ ts) h = by_test (eq_by_cmp step_cmp s t) h
  where
    by_test : (b : Bool) → Among u (cond b (t ∷ ts) (s ∷ t ∷ ts)) → (s ≡ u) ⊎ Among u (t ∷ ts)
    by_test true m = inr m
    by_test false m = elim m [ inl e ↦ inl e | inr n ↦ inr n ]

first_among : (u s : Step) (ts : List Step) → (s ≡ u) ⊎ Among u ts → Among u (with_first s ts)
first_among u s [] h = elim h [ inl e ↦ inl e | inr m ↦ absurd m ]
first_among u s (t ∷ ts) h = by_test (eq_by_cmp step_cmp s t) refl h
  where
    by_test : (b : Bool) → eq_by_cmp step_cmp s t ≡ b → (s ≡ u) ⊎ Among u (t ∷ ts) → Among u (cond b (t ∷ ts) (s ∷ t ∷ ts))
    by_test true e (inl k) = inl (sym ((same_step s t).0 e) ∙ k)
    by_test true e (inr m) = m
    by_test false e (inl k) = inl k
    by_test false e (inr m) = inr m

steps_among : (u : Step) (os : List Ranked) → Among u (steps_of os) → Among u (steps_at_ranks os)
steps_among u [] h = h
steps_among u (o ∷ os) h = elim (among_first u o.offer.step (steps_of os) h) [ inl e ↦ inl e | inr m ↦ inr (steps_among u os m) ]

pub among_steps : (u : Step) (os : List Ranked) → Among u (steps_at_ranks os) → Among u (steps_of os)
among_steps u [] h = h
among_steps u (o ∷ os) h = first_among u o.offer.step (steps_of os) (elim h [ inl e ↦ inl e | inr m ↦ inr (among_steps u os m) ])

less_of : (o : Ordering) → is_le o ≡ true → is_eq o ≡ false → o ≡ Less
less_of Less h e = refl
less_of Equal h e = cc
less_of Greater h e = cc

steps_strict : (os : List Ranked) → Climbs os → IsStrictlySortedBy step_cmp (steps_of os)
unfolding IsStrictlySortedBy
steps_strict [] c = tt
steps_strict (o ∷ os) c = by_rest (steps_of os) (all_among (λ t. is_le (step_cmp o.offer.step t) ≡ true) (steps_of os) (λ u m. low u os c.0 (steps_among u os m))) (steps_strict os c.1)
  where
    low : (u : Step) (xs : List Ranked) → AllByRecursion (λ x. is_le (step_cmp o.offer.step x.offer.step) ≡ true) xs → Among u (steps_at_ranks xs) → is_le (step_cmp o.offer.step u) ≡ true
    low u [] h m = absurd m
    low u (x ∷ xs) h (inl e) = subst (λ (t : Step). is_le (step_cmp o.offer.step t) ≡ true) e h.0
    low u (x ∷ xs) h (inr m) = low u xs h.1 m

    later : (s t : Step) (ts : List Step) → step_cmp s t ≡ Less → AllByRecursion (λ y. step_cmp t y ≡ Less) ts → AllByRecursion (λ y. step_cmp s y ≡ Less) ts
    later s t [] e h = tt
    later s t (u ∷ ts) e h = (steps_total.trans s t u e h.0, later s t ts e h.1)

    by_rest : (ts : List Step) → AllByRecursion (λ t. is_le (step_cmp o.offer.step t) ≡ true) ts → IsStrictlySortedBy step_cmp ts → IsStrictlySortedBy step_cmp (with_first o.offer.step ts)
    by_rest [] h k = (tt, tt)
    by_rest (t ∷ ts) h k = by_test (eq_by_cmp step_cmp o.offer.step t) refl
      where
        by_test : (b : Bool) → eq_by_cmp step_cmp o.offer.step t ≡ b → IsStrictlySortedBy step_cmp (cond b (t ∷ ts) (o.offer.step ∷ t ∷ ts))
        by_test true e = k
        by_test false e = let less = less_of _ h.0 e in ((less, later o.offer.step t ts less k.0), k)

plain_more : (p : List Step) (s : Step) → is_plain p ≡ true → is_wildcard s.name ≡ false → is_plain (p ++ s ∷ []) ≡ true
plain_more p s plain tame = ap not (none p (back (list_any (λ (t : Step). is_wildcard t.name) p) plain))
  where
    back : (b : Bool) → not b ≡ true → b ≡ false
    back true e = cc
    back false e = refl

    none : (q : List Step) → list_any (λ (t : Step). is_wildcard t.name) q ≡ false → list_any (λ (t : Step). is_wildcard t.name) (q ++ s ∷ []) ≡ false
    none [] e = ap (λ (b : Bool). b || false) tame
    none (t ∷ q) e = by_test (is_wildcard t.name) e (none q)
      where
        by_test : (b : Bool) → (b || list_any (λ (t : Step). is_wildcard t.name) q) ≡ false
            → (list_any (λ (t : Step). is_wildcard t.name) q ≡ false → list_any (λ (t : Step). is_wildcard t.name) (q ++ s ∷ []) ≡ false)
            → (b || list_any (λ (t : Step). is_wildcard t.name) (q ++ s ∷ [])) ≡ false
        by_test true e go = cc
        by_test false e go = go e

module _ (look : Look) (kids : List Step → List Step) (row : List StatementView)
    (once : (q : List Step) (s : Step) → filter (eq_by_cmp step_cmp s) (kids q) ≡ step_if (is_some (look (q ++ s ∷ []))) s) where
  abbrev at : List Step → Node
  at q = node_at look row q

  abbrev plain_kids : given.Source → List Step
  plain_kids x = filter (λ s. not (is_wildcard s.name)) (live_kids look kids x.from)

  own_steps : (q : List Step) (ss : List Step) → steps (map own_offer (map (λ r. at (q ++ r ∷ [])) ss)) ≡ ss
  own_steps q [] = refl
  own_steps q (s ∷ ss) = λ i. last_is q s i ∷ own_steps q ss i

  plain_steps : (g : List ℕ) (q : List Step) (ss : List Step) → steps (plain_offers g (map (λ r. at (q ++ r ∷ [])) ss)) ≡ filter (λ s. not (is_wildcard s.name)) ss
  plain_steps g q [] = refl
  plain_steps g q (s ∷ ss) =
      ap (λ (t : Step). steps (map (node_offer g) (cond (not (is_wildcard t.name)) (at (q ++ s ∷ []) ∷ filter (λ (n : Node). not (has_wildcard n)) (map (λ r. at (q ++ r ∷ [])) ss)) (filter (λ (n : Node). not (has_wildcard n)) (map (λ r. at (q ++ r ∷ [])) ss))))) (last_is q s)
      ∙ by_test (not (is_wildcard s.name)) (plain_steps g q ss)
    where
      by_test : (b : Bool) → steps (plain_offers g (map (λ r. at (q ++ r ∷ [])) ss)) ≡ filter (λ s. not (is_wildcard s.name)) ss
          → steps (map (node_offer g) (cond b (at (q ++ s ∷ []) ∷ filter (λ (n : Node). not (has_wildcard n)) (map (λ r. at (q ++ r ∷ [])) ss)) (filter (λ (n : Node). not (has_wildcard n)) (map (λ r. at (q ++ r ∷ [])) ss))))
          ≡ cond b (s ∷ filter (λ s. not (is_wildcard s.name)) ss) (filter (λ s. not (is_wildcard s.name)) ss)
      by_test true e = λ i. last_is q s i ∷ e i
      by_test false e = e

  -- the offers that are no wildcards
  abbrev unmatched : List Offer → List Offer
  unmatched os = filter (λ o. not (is_wild o)) os

  plain_own : (ns : List Node) → unmatched (map own_offer ns) ≡ map own_offer ns
  plain_own [] = refl
  plain_own (n ∷ ns) = ap (λ (os : List Offer). own_offer n ∷ os) (plain_own ns)

  plain_plain : (g : List ℕ) (ns : List Node) → unmatched (plain_offers g ns) ≡ plain_offers g ns
  plain_plain g [] = refl
  plain_plain g (n ∷ ns) = by_test (has_wildcard n) refl (plain_plain g ns)
    where
      by_test : (b : Bool) → has_wildcard n ≡ b → unmatched (plain_offers g ns) ≡ plain_offers g ns
          → unmatched (map (node_offer g) (cond (not b) (n ∷ filter (λ n. not (has_wildcard n)) ns) (filter (λ n. not (has_wildcard n)) ns)))
          ≡ map (node_offer g) (cond (not b) (n ∷ filter (λ n. not (has_wildcard n)) ns) (filter (λ n. not (has_wildcard n)) ns))
      by_test true e go = go
      by_test false e go =
          ap (λ (b : Bool). cond (not b) (node_offer g n ∷ unmatched (plain_offers g ns)) (unmatched (plain_offers g ns))) e ∙ ap (λ (os : List Offer). node_offer g n ∷ os) go

  plain_wild : (g : List ℕ) (ns : List Node) → unmatched (wild_offers g ns) ≡ []
  plain_wild g [] = refl
  plain_wild g (n ∷ ns) = by_test (has_wildcard n) refl (plain_wild g ns)
    where
      by_test : (b : Bool) → has_wildcard n ≡ b → unmatched (wild_offers g ns) ≡ [] → unmatched (map (node_offer g) (cond b (n ∷ filter has_wildcard ns) (filter has_wildcard ns))) ≡ []
      by_test true e go = ap (λ (b : Bool). cond (not b) (node_offer g n ∷ unmatched (wild_offers g ns)) (unmatched (wild_offers g ns))) e ∙ go
      by_test false e go = go

  abbrev plain_of : Source → List Offer
  plain_of x = plain_offers x.group (children_of x.node)

  plain_source : (x : Source) → unmatched (offers_of x) ≡ plain_of x
  plain_source x =
      filter-append (λ o. not (is_wild o)) (plain_of x) (wild_offers x.group (children_of x.node))
      ∙ ap (λ (os : List Offer). os ++ unmatched (wild_offers x.group (children_of x.node))) (plain_plain x.group (children_of x.node))
      ∙ ap (λ (os : List Offer). plain_of x ++ os) (plain_wild x.group (children_of x.node)) ∙ append_nothing (plain_of x)

  plain_offered : (own : List Node) (xs : List Source) → unmatched (offered own xs) ≡ map own_offer own ++ flat_map plain_of xs
  plain_offered own xs =
      filter-append (λ o. not (is_wild o)) (map own_offer own) (flat_map offers_of xs)
      ∙ ap (λ (os : List Offer). os ++ unmatched (flat_map offers_of xs)) (plain_own own)
      ∙ ap (λ (os : List Offer). map own_offer own ++ os) (filter_flat (λ o. not (is_wild o)) offers_of xs ∙ flat_same _ plain_of plain_source xs)

  abbrev AreBelow : List given.Source → Type 0
  AreBelow xs = AllByRecursion (λ x. children_of (at x.from) ≡ kids_at look kids row x.from) xs

  sources_plain : (xs : List given.Source) → AreBelow xs → steps (flat_map plain_of (map (placed look row) xs)) ≡ flat_map plain_kids xs
  sources_plain [] b = refl
  sources_plain (x ∷ xs) b =
      map_append (λ (o : Offer). o.step) (plain_of (placed look row x)) (flat_map plain_of (map (placed look row) xs))
      ∙ ap (λ (ss : List Step). ss ++ steps (flat_map plain_of (map (placed look row) xs)))
      (ap (λ (ns : List Node). steps (plain_offers x.group ns)) b.0 ∙ plain_steps x.group x.from (live_kids look kids x.from))
      ∙ ap (λ (ss : List Step). plain_kids x ++ ss) (sources_plain xs b.1)

  -- the steps of the plain offers of a level are those of its own statements and of the sources' children that are no wildcards
  offered_steps : (p : List Step) (xs : List given.Source) → AreBelow xs
      → steps (unmatched (offered (kids_at look kids row p) (map (placed look row) xs))) ≡ live_kids look kids p ++ flat_map plain_kids xs
  offered_steps p xs b =
      ap steps (plain_offered (kids_at look kids row p) (map (placed look row) xs))
      ∙ map_append (λ (o : Offer). o.step) (map own_offer (kids_at look kids row p)) (flat_map plain_of (map (placed look row) xs))
      ∙ ap (λ (ss : List Step). ss ++ steps (flat_map plain_of (map (placed look row) xs))) (own_steps p (live_kids look kids p))
      ∙ ap (λ (ss : List Step). live_kids look kids p ++ ss) (sources_plain xs b)

  ranked_steps : (os : List Offer) → steps_at_ranks (filter is_unmatched (with_ranks 0 os)) ≡ steps (unmatched os)
  ranked_steps os = sym (map_map (λ (o : Offer). o.step) (λ (r : Ranked). r.offer) (filter is_unmatched (with_ranks 0 os))) ∙ ap steps (plain_ranked 0 os)

  -- what groups offer is of a group
  abbrev AreGiven : List Offer → Type 0
  AreGiven os = AllByRecursion (λ o. is_none o.group ≡ false) os

  given_both : (xs ys : List Offer) → AreGiven xs → AreGiven ys → AreGiven (xs ++ ys)
  given_both [] ys h k = k
  given_both (x ∷ xs) ys h k = (h.0, given_both xs ys h.1 k)

  given_nodes : (g : List ℕ) (ns : List Node) → AreGiven (map (node_offer g) ns)
  given_nodes g [] = tt
  given_nodes g (n ∷ ns) = (refl, given_nodes g ns)

  given_plain : (xs : List Source) → AreGiven (flat_map plain_of xs)
  given_plain [] = tt
  given_plain (x ∷ xs) = given_both (plain_of x) (flat_map plain_of xs) (given_nodes x.group (filter (λ n. not (has_wildcard n)) (children_of x.node))) (given_plain xs)

  given_begin : (t : Offer → Bool) (os : List Offer) → AreGiven os → begins (filter t os) ≡ false
  given_begin t [] h = refl
  given_begin t (o ∷ os) h = by_test (t o) (given_begin t os h.1)
    where
      by_test : (b : Bool) → begins (filter t os) ≡ false → begins (cond b (o ∷ filter t os) (filter t os)) ≡ false
      by_test true go = h.0
      by_test false go = go

  -- the plain offers for a step begin with the configuration's own where that is live
  begins_live : (p : List Step) (u : Step) (xs : List Source) → begins (filter (is_for u) (unmatched (offered (kids_at look kids row p) xs))) ≡ is_live look (p ++ u ∷ [])
  begins_live p u xs =
      ap (λ (os : List Offer). begins (filter (is_for u) os)) (plain_offered (kids_at look kids row p) xs)
      ∙ ap begins (filter-append (is_for u) (map own_offer (kids_at look kids row p)) (flat_map plain_of xs))
      ∙ ap (λ (os : List Offer). begins (os ++ filter (is_for u) (flat_map plain_of xs))) (own_for look kids row once p u)
      ∙ by_live (is_live look (p ++ u ∷ []))
    where
      by_live : (b : Bool) → begins (cond b (own_offer (at (p ++ u ∷ [])) ∷ []) [] ++ filter (is_for u) (flat_map plain_of xs)) ≡ b
      by_live true = refl
      by_live false = given_begin (is_for u) (flat_map plain_of xs) (given_plain xs)

  module _ (p : List Step) (plain : is_plain p ≡ true) (tame : (s : Step) → is_live look (p ++ s ∷ []) ≡ true → is_wildcard s.name ≡ false) (below : AreBelow (front look kids p)) where
    live_of : (u : Step) (ss : List Step) → Among u (filter (λ s. is_live look (p ++ s ∷ [])) ss) → is_live look (p ++ u ∷ []) ≡ true
    live_of u [] h = absurd h
    live_of u (s ∷ ss) h = by_test (is_live look (p ++ s ∷ [])) refl h (live_of u ss)
      where
        by_test : (b : Bool) → is_live look (p ++ s ∷ []) ≡ b → Among u (cond b (s ∷ filter (λ s. is_live look (p ++ s ∷ [])) ss) (filter (λ s. is_live look (p ++ s ∷ [])) ss))
            → (Among u (filter (λ s. is_live look (p ++ s ∷ [])) ss) → is_live look (p ++ u ∷ []) ≡ true) → is_live look (p ++ u ∷ []) ≡ true
        by_test true e (inl k) go = subst (λ (t : Step). is_live look (p ++ t ∷ []) ≡ true) k e
        by_test true e (inr m) go = go m
        by_test false e m go = go m

    not_wild : (u : Step) (ss : List Step) → Among u (filter (λ s. not (is_wildcard s.name)) ss) → is_wildcard u.name ≡ false
    not_wild u [] h = absurd h
    not_wild u (s ∷ ss) h = by_test (is_wildcard s.name) refl h (not_wild u ss)
      where
        by_test : (b : Bool) → is_wildcard s.name ≡ b → Among u (cond (not b) (s ∷ filter (λ s. not (is_wildcard s.name)) ss) (filter (λ s. not (is_wildcard s.name)) ss))
            → (Among u (filter (λ s. not (is_wildcard s.name)) ss) → is_wildcard u.name ≡ false) → is_wildcard u.name ≡ false
        by_test true e m go = go m
        by_test false e (inl k) go = subst (λ (t : Step). is_wildcard t.name ≡ false) k e
        by_test false e (inr m) go = go m

    plain_all : (u : Step) (xs : List given.Source) → Among u (flat_map plain_kids xs) → is_wildcard u.name ≡ false
    plain_all u [] h = absurd h
    plain_all u (x ∷ xs) h = elim (among_split u (plain_kids x) _ h) [ inl k ↦ not_wild u (live_kids look kids x.from) k | inr k ↦ plain_all u xs k ]

    step_tame : (u : Step) → Among u (steps_at look kids p) → is_wildcard u.name ≡ false
    unfolding steps_at
    step_tame u h = elim (among_split u (live_kids look kids p) _ (among_unsorted u _ h)) [
      | inl k ↦ tame u (live_of u (kids p) k)
      | inr k ↦ plain_all u (front look kids p) k
    ]

    abbrev all_offers : List Offer
    all_offers = offered (kids_at look kids row p) (map (placed look row) (front look kids p))

    steps_are : steps_at_ranks (filter is_unmatched (with_ranks 0 all_offers)) ≡ live_kids look kids p ++ flat_map plain_kids (front look kids p)
    steps_are = ranked_steps all_offers ∙ offered_steps p (front look kids p) below

    offered_to : (u : Step) → Among u (steps_at_ranks (filter is_unmatched (with_ranks 0 all_offers))) → Among u (steps_at look kids p)
    unfolding steps_at
    offered_to u h = among_sorted u _ (subst (λ (ss : List Step). Among u ss) steps_are h)

    offered_from : (u : Step) → Among u (steps_at look kids p) → Among u (steps_at_ranks (filter is_unmatched (with_ranks 0 all_offers)))
    unfolding steps_at
    offered_from u h = subst (λ (ss : List Step). Among u ss) (sym steps_are) (among_unsorted u _ h)

    strict_at : IsStrictlySortedBy step_cmp (steps_at look kids p)
    unfolding steps_at
    strict_at = sorted_sorted (live_kids look kids p ++ flat_map plain_kids (front look kids p))

    begins_at : (u : Step) → begins_own (filter (is_at u) (filter is_unmatched (with_ranks 0 all_offers))) ≡ is_live look (p ++ u ∷ [])
    begins_at u = begins_ranked u 0 all_offers ∙ begins_live p u (map (placed look row) (front look kids p))

    run_told : (level : Level) → IsLevel all_offers level → (u : Step) → Among u (steps_at look kids p) → run_in u level.wild (filter (is_at u) level.plain) ≡ run_at look kids row p u
    run_told level h u m =
        ap (λ (ws : List Ranked). run_in u ws (filter (is_at u) level.plain)) h.wild
        ∙ ap (run_in u (filter is_wild_at (with_ranks 0 all_offers))) (h.plain.alike u)
        ∙ ap (λ (b : Bool). joined u (filter (is_at u) (filter is_unmatched (with_ranks 0 all_offers))) (cond b (filter (is_matched u) (filter is_wild_at (with_ranks 0 all_offers))) [])) (begins_at u)
        ∙ joined_is u (is_live look (p ++ u ∷ [])) 0 all_offers
        ∙ offers_for look kids row once p u (step_tame u m) below

    -- a level of these offers is that of the path
    pub level_at : (level : Level) → IsLevel all_offers level → IsLevelAt look kids row p level
    level_at level h =
        let up = climbs level.plain h.plain.ascends
        in record {
          climbs = up;
          steps = one_order (steps_of level.plain) (steps_at look kids p) (steps_strict level.plain up) strict_at
              (λ u m. offered_to u (found_step u _ (subst (λ (rs : List Ranked). HasOne rs) (h.plain.alike u) (step_found u level.plain (steps_among u level.plain m)))))
              (λ u m. among_steps u level.plain (found_step u _ (subst (λ (rs : List Ranked). HasOne rs) (sym (h.plain.alike u)) (step_found u _ (offered_from u m)))));
          right = all_among (IsRight look kids row level p) (steps_at look kids p) (λ u m. record {
            run = run_told level h u m;
            own = ap begins_own (h.plain.alike u) ∙ begins_at u;
            plain = plain_more p u plain (step_tame u m);
          });
        }
