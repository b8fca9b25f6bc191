-- What a path's children are given from, in the nodes of the row.
use Rattle.std.proofs.Common.{◌≡◌, ℕ, Bool, true, false, not, cond, List, [], ◌∷◌, ◌++◌, filter, map, refl, sym, ap, ◌∙◌, Option, Some, None, is_some, option_map}
use Rattle.std.specs.Prelude.{◌&&◌, ◌||◌, flat_map, find, unwrap_or}
use Rattle.std.specs.List.{AllByRecursion}
use Rattle.std.specs.Ordering.{eq_by_cmp}
use Rattle.cfg_base.specs.Order.{step_cmp}
use Rattle.cfg_base.specs.Words.{same_word, lists}
use Rattle.cfg_base.specs.declared.path.Step.{Step}
use Rattle.cfg_base.specs.declared.value.Value.{Value}
use Rattle.cfg_schema.proofs.TestLemmas.{same_is}
use Rattle.cfg_tree.specs.Statements.{last_of}
use Rattle.cfg_tree.specs.Tree.{step_of}
use Rattle.cfg_tree.specs.Children.{step_if}
use Rattle.cfg_tree.proofs.MapLemmas as maps
use Rattle.group_expand.specs.Live.{Look, is_active, is_live, live_from, words_of, live_words}
use Rattle.group_expand.specs.Sources as given
use Rattle.group_expand.specs.Sources.{same_step, groups_step, apply_step, except_step, fits_wildcard, fitting_below, fitting_from, fitting, live_ones, applied, excepted}
use Rattle.group_expand.specs.Front.{raw, front, applied_at, kept_at, live_kids}
use Rattle.group_expand.specs.Row.{StatementView}
use Rattle.group_expand.specs.Node.{Node, children_of}
use Rattle.group_expand.specs.Fitting.{exact, wild, fits_of, down, fitting_of}
use Rattle.group_expand.specs.Offer.{Source, Offer, own_offer}
use Rattle.group_expand.specs.Fronts.{words_with, source_of, brought_by, applied_sources, kept_of, front_of}
use Rattle.group_expand.specs.Placed.{value_in, node_at, kids_at, offer_at, run_at}
use Rattle.group_expand.proofs.StepLemmas.{last_is}
use Rattle.group_expand.proofs.ApartLemmas.{step_is}
use Rattle.group_expand.proofs.ClosedLemmas.{both}
use Rattle.group_expand.proofs.PlacedLemmas.{live_more}
use Rattle.group_expand.proofs.ListLemmas.{filter_map, map_append, map_map}
use Rattle.group_expand.proofs.RunLemmas.{placed, live_once}

pub step_told : (s t : Step) → same_step s t ≡ eq_by_cmp step_cmp s t
step_told s t = by_tests (same_step s t) (eq_by_cmp step_cmp s t) refl refl
  where
    itself : s ≡ t → same_step s t ≡ true
    itself e = ap (λ (b : Bool). b && same_word s.name t.name) (same_is s.head t.head (ap (λ (x : Step). x.head) e)) ∙ same_is s.name t.name (ap (λ (x : Step). x.name) e)

    by_tests : (a b : Bool) → same_step s t ≡ a → eq_by_cmp step_cmp s t ≡ b → a ≡ b
    by_tests true true e f = refl
    by_tests true false e f = sym ((maps.same_step s t).1 (step_is s t e)) ∙ f
    by_tests false true e f = sym e ∙ itself ((maps.same_step s t).0 f)
    by_tests false false e f = refl

abbrev pub first_of : {X : Type 0} → List X → Option X
first_of [] = None
first_of (x ∷ xs) = Some x

pub find_first : {X : Type 0} (t : X → Bool) (xs : List X) → find t xs ≡ first_of (filter t xs)
find_first t [] = refl
find_first {X} t (x ∷ xs) = by_test (t x) (find_first t xs)
  where
    by_test : (b : Bool) → find t xs ≡ first_of (filter t xs) → cond b (Some x) (find t xs) ≡ first_of (cond b (x ∷ filter t xs) (filter t xs))
    by_test true e = refl
    by_test false e = e

module _ (look : Look) (kids : List Step → List Step) (row : List StatementView)
    (once : (q : List Step) (s : Step) → filter (eq_by_cmp step_cmp s) (kids q) ≡ step_if (is_some (look (q ++ s ∷ []))) s)
    (below : (q : List Step) → is_live look q ≡ true → children_of (node_at look row q) ≡ kids_at look kids row q) where
  abbrev at : List Step → Node
  at q = node_at look row q

  -- the nodes right below a path that have a step
  pub exact_at : (q : List Step) (s : Step) → exact s (kids_at look kids row q) ≡ map at (live_ones look kids ((q ++ s ∷ []) ∷ []))
  exact_at q s =
      filter_map (λ n. same_step s (last_of n.path)) (λ r. at (q ++ r ∷ [])) (live_kids look kids q)
      ∙ (let same : (λ (r : Step). same_step s (last_of (q ++ r ∷ []))) ≡ eq_by_cmp step_cmp s = λ i r. (ap (same_step s) (last_is q r) ∙ step_told s r) i
      in ap (λ (u : Step → Bool). map (λ r. at (q ++ r ∷ [])) (filter u (live_kids look kids q))) same)
      ∙ ap (λ (ss : List Step). map (λ r. at (q ++ r ∷ [])) ss) (live_once look kids row once q s)
      ∙ by_live (is_live look (q ++ s ∷ []))
    where
      by_live : (b : Bool) → map (λ r. at (q ++ r ∷ [])) (step_if b s) ≡ map at (cond b ((q ++ s ∷ []) ∷ []) [])
      by_live true = refl
      by_live false = refl

  wild_at : (q : List Step) (s : Step) → wild s (kids_at look kids row q) ≡ map at (live_ones look kids (map (λ other. q ++ other ∷ []) (filter (fits_wildcard s) (kids q))))
  wild_at q s =
      filter_map (λ n. fits_wildcard s (last_of n.path)) (λ r. at (q ++ r ∷ [])) (live_kids look kids q)
      ∙ (let same : (λ (r : Step). fits_wildcard s (last_of (q ++ r ∷ []))) ≡ fits_wildcard s = λ i r. fits_wildcard s (last_is q r i)
      in ap (λ (u : Step → Bool). map (λ r. at (q ++ r ∷ [])) (filter u (live_kids look kids q))) same)
      ∙ each (kids q)
    where
      each : (ss : List Step) → map (λ r. at (q ++ r ∷ [])) (filter (fits_wildcard s) (filter (λ r. is_live look (q ++ r ∷ [])) ss))
          ≡ map at (live_ones look kids (map (λ other. q ++ other ∷ []) (filter (fits_wildcard s) ss)))
      each [] = refl
      each (r ∷ ss) = by_tests (is_live look (q ++ r ∷ [])) (fits_wildcard s r) refl refl (each ss)
        where
          by_tests : (a b : Bool) → is_live look (q ++ r ∷ []) ≡ a → fits_wildcard s r ≡ b
              → map (λ r. at (q ++ r ∷ [])) (filter (fits_wildcard s) (filter (λ r. is_live look (q ++ r ∷ [])) ss))
              ≡ map at (live_ones look kids (map (λ other. q ++ other ∷ []) (filter (fits_wildcard s) ss)))
              → map (λ r. at (q ++ r ∷ [])) (filter (fits_wildcard s) (cond a (r ∷ filter (λ r. is_live look (q ++ r ∷ [])) ss) (filter (λ r. is_live look (q ++ r ∷ [])) ss)))
              ≡ map at (live_ones look kids (map (λ other. q ++ other ∷ []) (cond b (r ∷ filter (fits_wildcard s) ss) (filter (fits_wildcard s) ss))))
          by_tests true true e f go =
              ap (λ (c : Bool). map (λ r. at (q ++ r ∷ [])) (cond c (r ∷ filter (fits_wildcard s) (filter (λ r. is_live look (q ++ r ∷ [])) ss)) (filter (fits_wildcard s) (filter (λ r. is_live look (q ++ r ∷ [])) ss)))) f
              ∙ ap (λ (ns : List Node). at (q ++ r ∷ []) ∷ ns) go
              ∙ sym (ap (λ (c : Bool). map at (cond c ((q ++ r ∷ []) ∷ live_ones look kids (map (λ other. q ++ other ∷ []) (filter (fits_wildcard s) ss))) (live_ones look kids (map (λ other. q ++ other ∷ []) (filter (fits_wildcard s) ss))))) e)
          by_tests true false e f go =
              ap (λ (c : Bool). map (λ r. at (q ++ r ∷ [])) (cond c (r ∷ filter (fits_wildcard s) (filter (λ r. is_live look (q ++ r ∷ [])) ss)) (filter (fits_wildcard s) (filter (λ r. is_live look (q ++ r ∷ [])) ss)))) f ∙ go
          by_tests false true e f go =
              go ∙ sym (ap (λ (c : Bool). map at (cond c ((q ++ r ∷ []) ∷ live_ones look kids (map (λ other. q ++ other ∷ []) (filter (fits_wildcard s) ss))) (live_ones look kids (map (λ other. q ++ other ∷ []) (filter (fits_wildcard s) ss))))) e)
          by_tests false false e f go = go

  abbrev pub AllLive : List (List Step) → Type 0
  AllLive qs = AllByRecursion (λ q. is_live look q ≡ true) qs

  pub ones_live : (qs : List (List Step)) → AllLive (live_ones look kids qs)
  ones_live [] = tt
  ones_live (q ∷ qs) = by_test _ refl (ones_live qs)
    where
      by_test : (b : Bool) → is_live look q ≡ b → AllLive (live_ones look kids qs) → AllLive (cond b (q ∷ live_ones look kids qs) (live_ones look kids qs))
      by_test true e k = (e, k)
      by_test false e k = k

  all_both : (ps qs : List (List Step)) → AllLive ps → AllLive qs → AllLive (ps ++ qs)
  all_both [] qs h k = k
  all_both (p ∷ ps) qs h k = (h.0, all_both ps qs h.1 k)

  below_live : (b : Bool) (s : Step) (qs : List (List Step)) → AllLive (flat_map (fitting_below look kids b s) qs)
  below_live b s [] = tt
  below_live b s (q ∷ qs) =
      all_both (fitting_below look kids b s q) _
      (all_both (live_ones look kids ((q ++ s ∷ []) ∷ [])) _ (ones_live ((q ++ s ∷ []) ∷ [])) (ones_live (map (λ other. q ++ other ∷ []) (cond b (filter (fits_wildcard s) (kids q)) []))))
      (below_live b s qs)

  pub from_live : (above : List Step) (found : List (List Step)) (rest : List Step) → AllLive found → AllLive (fitting_from look kids above found rest)
  from_live above found [] h = h
  from_live above found (s ∷ rest) h = from_live (above ++ s ∷ []) _ rest (below_live (is_live look (above ++ s ∷ [])) s found)

  one_down : (s : Step) (qs : List (List Step)) → AllLive qs → flat_map (fits_of s) (map at qs) ≡ map at (flat_map (fitting_below look kids true s) qs)
  one_down s [] h = refl
  one_down s (q ∷ qs) h =
      ap (λ (ns : List Node). (exact s ns ++ wild s ns) ++ flat_map (fits_of s) (map at qs)) (below q h.0)
      ∙ ap (λ (ns : List Node). (ns ++ wild s (kids_at look kids row q)) ++ flat_map (fits_of s) (map at qs)) (exact_at q s)
      ∙ ap (λ (ns : List Node). (map at (live_ones look kids ((q ++ s ∷ []) ∷ [])) ++ ns) ++ flat_map (fits_of s) (map at qs)) (wild_at q s)
      ∙ ap (λ (ns : List Node). ns ++ flat_map (fits_of s) (map at qs)) (sym (map_append at (live_ones look kids ((q ++ s ∷ []) ∷ [])) (live_ones look kids (map (λ other. q ++ other ∷ []) (filter (fits_wildcard s) (kids q))))))
      ∙ ap (λ (ns : List Node). map at (fitting_below look kids true s q) ++ ns) (one_down s qs h.1)
      ∙ sym (map_append at (fitting_below look kids true s q) (flat_map (fitting_below look kids true s) qs))

  down_at : (above : List Step) (found : List (List Step)) (rest : List Step) → is_live look above ≡ true → live_from look above rest ≡ true → AllLive found
      → down (map at found) rest ≡ map at (fitting_from look kids above found rest)
  down_at above found [] l m h = refl
  down_at above found (s ∷ rest) l m h =
      let k = both (is_active (look (above ++ s ∷ []))) (live_from look (above ++ s ∷ []) rest) m
      in let here : is_live look (above ++ s ∷ []) ≡ true = live_more look above s ∙ ap (λ (b : Bool). b && is_active (look (above ++ s ∷ []))) l ∙ k.0
      in ap (λ (ns : List Node). down ns rest) (one_down s found h)
      ∙ down_at (above ++ s ∷ []) (flat_map (fitting_below look kids true s) found) rest here k.1 (below_live true s found)
      ∙ ap (λ (b : Bool). map at (fitting_from look kids (above ++ s ∷ []) (flat_map (fitting_below look kids b s) found) rest)) (sym here)

  -- what of a group fits a live path
  fitting_at : (g : List ℕ) (p : List Step) → is_live look p ≡ true → fitting_of (kids_at look kids row (groups_step ∷ [])) g p ≡ map at (fitting look kids g p)
  fitting_at g p live =
      ap (λ (ns : List Node). down ns p) (exact_at (groups_step ∷ []) (step_of [] g))
      ∙ down_at [] (live_ones look kids ((groups_step ∷ step_of [] g ∷ []) ∷ [])) p refl live (ones_live ((groups_step ∷ step_of [] g ∷ []) ∷ []))

  -- the words of a live statement right below a path
  words_at : (p : List Step) (s : Step) → words_with s (kids_at look kids row p) ≡ live_words look (p ++ s ∷ [])
  words_at p s =
      ap (λ (o : Option Node). unwrap_or (option_map (λ (n : Node). n.value.words) o) [])
      (find_first (λ n. same_step s (last_of n.path)) (kids_at look kids row p) ∙ ap first_of (exact_at p s))
      ∙ by_live (is_live look (p ++ s ∷ []))
    where
      words_in : (o : Option Value) → (value_in o).words ≡ words_of o
      words_in None = refl
      words_in (Some v) = refl

      by_live : (b : Bool) → unwrap_or (option_map (λ (n : Node). n.value.words) (first_of (map at (cond b ((p ++ s ∷ []) ∷ []) [])))) [] ≡ cond b (words_of (look (p ++ s ∷ []))) []
      by_live true = words_in (look (p ++ s ∷ []))
      by_live false = refl

  -- what the offers of a path bring to its children, but for excepted groups
  kept_sources : (gone : List (List ℕ)) (s : Step) (xs : List given.Source)
      → flat_map (kept_of gone) (map (offer_at look row s) xs) ≡ map (placed look row) (filter (λ x. not (lists gone x.group)) xs)
  kept_sources gone s [] = refl
  kept_sources gone s (x ∷ xs) = by_test (lists gone x.group) (kept_sources gone s xs)
    where
      by_test : (b : Bool) → flat_map (kept_of gone) (map (offer_at look row s) xs) ≡ map (placed look row) (filter (λ x. not (lists gone x.group)) xs)
          → cond b [] (source_of x.group (at x.from) ∷ []) ++ flat_map (kept_of gone) (map (offer_at look row s) xs)
          ≡ map (placed look row) (cond (not b) (x ∷ filter (λ x. not (lists gone x.group)) xs) (filter (λ x. not (lists gone x.group)) xs))
      by_test true e = e
      by_test false e = ap (λ (ys : List Source). placed look row x ∷ ys) e

  abbrev pub Keeps : List Step → List Offer → Type 0
  Keeps p run = (gone : List (List ℕ)) → flat_map (kept_of gone) run ≡ map (placed look row) (filter (λ x. not (lists gone x.group)) (raw look kids p))

  pub run_keeps : (p : List Step) (s : Step) → Keeps (p ++ s ∷ []) (run_at look kids row p s)
  run_keeps p s = λ gone. by_live gone (is_live look (p ++ s ∷ []))
    where
      by_live : (gone : List (List ℕ)) (b : Bool)
          → flat_map (kept_of gone) (cond b (own_offer (at (p ++ s ∷ [])) ∷ []) [] ++ map (offer_at look row s) (raw look kids (p ++ s ∷ [])))
          ≡ map (placed look row) (filter (λ x. not (lists gone x.group)) (raw look kids (p ++ s ∷ [])))
      by_live gone true = kept_sources gone s (raw look kids (p ++ s ∷ []))
      by_live gone false = kept_sources gone s (raw look kids (p ++ s ∷ []))

  not_or : (b : Bool) → not b ≡ not (b || false)
  not_or true = refl
  not_or false = refl

  applied_told : (p : List Step) → is_live look p ≡ true → (gone ws : List (List ℕ))
      → applied_sources (kids_at look kids row (groups_step ∷ [])) p gone ws
      ≡ map (placed look row) (flat_map (λ g. map (given.source g) (fitting look kids g p)) (filter (λ g. not (lists gone g || false)) ws))
  applied_told p live gone ws =
      (let same : (λ (g : List ℕ). not (lists gone g)) ≡ (λ (g : List ℕ). not (lists gone g || false)) = λ i g. not_or (lists gone g) i
      in ap (λ (t : List ℕ → Bool). flat_map (brought_by (kids_at look kids row (groups_step ∷ [])) p) (filter t ws)) same)
      ∙ each (filter (λ g. not (lists gone g || false)) ws)
    where
      each : (gs : List (List ℕ)) → flat_map (brought_by (kids_at look kids row (groups_step ∷ [])) p) gs
          ≡ map (placed look row) (flat_map (λ g. map (given.source g) (fitting look kids g p)) gs)
      each [] = refl
      each (g ∷ gs) =
          ap (λ (ns : List Node). map (source_of g) ns ++ flat_map (brought_by (kids_at look kids row (groups_step ∷ [])) p) gs) (fitting_at g p live)
          ∙ ap (λ (xs : List Source). xs ++ flat_map (brought_by (kids_at look kids row (groups_step ∷ [])) p) gs)
          (map_map (source_of g) at (fitting look kids g p) ∙ sym (map_map (placed look row) (given.source g) (fitting look kids g p)))
          ∙ ap (λ (xs : List Source). map (placed look row) (map (given.source g) (fitting look kids g p)) ++ xs) (each gs)
          ∙ sym (map_append (placed look row) (map (given.source g) (fitting look kids g p)) (flat_map (λ h. map (given.source h) (fitting look kids h p)) gs))

  dead_words : (p : List Step) (s : Step) → is_live look p ≡ false → live_words look (p ++ s ∷ []) ≡ []
  dead_words p s dead = ap (λ (b : Bool). cond b (words_of (look (p ++ s ∷ []))) []) (live_more look p s ∙ ap (λ (b : Bool). b && is_active (look (p ++ s ∷ []))) dead)

  -- what the code makes is the front
  pub front_at : (p : List Step) (run : List Offer) → Keeps p run
      → front_of (kids_at look kids row (groups_step ∷ [])) p (cond (is_live look p) (kids_at look kids row p) []) run ≡ map (placed look row) (front look kids p)
  unfolding front
  front_at p run keeps = by_live (is_live look p) refl
    where
      told : (b : Bool) → is_live look p ≡ b
          → applied_sources (kids_at look kids row (groups_step ∷ [])) p (excepted look kids p) (applied look kids p) ++ flat_map (kept_of (excepted look kids p)) run
          ≡ map (placed look row) (flat_map (λ g. map (given.source g) (fitting look kids g p)) (applied_at look kids p) ++ kept_at look kids p)
      told true live =
          ap (λ (xs : List Source). xs ++ flat_map (kept_of (excepted look kids p)) run) (applied_told p live (excepted look kids p) (applied look kids p))
          ∙ ap (λ (xs : List Source). map (placed look row) (flat_map (λ g. map (given.source g) (fitting look kids g p)) (applied_at look kids p)) ++ xs) (keeps (excepted look kids p))
          ∙ sym (map_append (placed look row) (flat_map (λ g. map (given.source g) (fitting look kids g p)) (applied_at look kids p)) (kept_at look kids p))
      told false dead =
          ap (λ (ws : List (List ℕ)). applied_sources (kids_at look kids row (groups_step ∷ [])) p (excepted look kids p) ws ++ flat_map (kept_of (excepted look kids p)) run) (dead_words p apply_step dead)
          ∙ keeps (excepted look kids p)
          ∙ sym (ap (λ (ws : List (List ℕ)). map (placed look row) (flat_map (λ g. map (given.source g) (fitting look kids g p)) (filter (λ g. not (lists (excepted look kids p) g || false)) ws) ++ kept_at look kids p)) (dead_words p apply_step dead))

      words_told : (b : Bool) → is_live look p ≡ b → (s : Step) → words_with s (cond b (kids_at look kids row p) []) ≡ live_words look (p ++ s ∷ [])
      words_told true live s = words_at p s
      words_told false dead s = sym (dead_words p s dead)

      by_live : (b : Bool) → is_live look p ≡ b
          → front_of (kids_at look kids row (groups_step ∷ [])) p (cond b (kids_at look kids row p) []) run
          ≡ map (placed look row) (flat_map (λ g. map (given.source g) (fitting look kids g p)) (applied_at look kids p) ++ kept_at look kids p)
      by_live b e =
          ap (λ (ws : List (List ℕ)). applied_sources (kids_at look kids row (groups_step ∷ [])) p ws (words_with apply_step (cond b (kids_at look kids row p) [])) ++ flat_map (kept_of ws) run) (words_told b e except_step)
          ∙ ap (λ (ws : List (List ℕ)). applied_sources (kids_at look kids row (groups_step ∷ [])) p (excepted look kids p) ws ++ flat_map (kept_of (excepted look kids p)) run) (words_told b e apply_step)
          ∙ told b e
