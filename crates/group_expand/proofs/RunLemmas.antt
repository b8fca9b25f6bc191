-- What a walk over the offers of a level picks for one step: the path's own statement where it is live, and then its sources, in order.
use Rattle.std.proofs.Common.{◌≡◌, ℕ, Bool, true, false, not, cond, List, [], ◌∷◌, ◌++◌, filter, map, refl, sym, ap, ◌∙◌, Option, Some, None, is_some}
use Rattle.std.specs.Prelude.{◌&&◌, flat_map}
use Rattle.std.specs.List.{AllByRecursion}
use Rattle.std.specs.Ordering.{eq_by_cmp}
use Rattle.cfg_base.specs.Bytes.{between}
use Rattle.cfg_base.specs.Order.{step_cmp}
use Rattle.cfg_base.specs.declared.path.Step.{Step}
use Rattle.cfg_base.specs.declared.value.Value.{Value}
use Rattle.cfg_base.specs.Words.{same_word}
use Rattle.cfg_tree.specs.Statements.{last_of}
use Rattle.cfg_tree.specs.Children.{step_if}
use Rattle.group_expand.specs.Live.{Look, is_active, is_live}
use Rattle.group_expand.specs.Sources as given
use Rattle.glob_name.specs.Glob.{glob}
use Rattle.group_expand.specs.Sources.{is_wildcard, fits_wildcard, fitting_below, live_ones}
use Rattle.group_expand.specs.Front.{grown, front, live_kids}
use Rattle.group_expand.specs.Row.{StatementView}
use Rattle.group_expand.specs.Node.{Node, children_of}
use Rattle.group_expand.specs.Offer.{Source, Offer, own_offer, group_offer, node_offer, offer_for, has_wildcard, plain_offers, wild_offers, offers_of, offered, is_for}
use Rattle.group_expand.specs.Placed.{node_at, kids_at, offer_at, run_at}
use Rattle.group_expand.proofs.StepLemmas.{last_is}
use Rattle.group_expand.proofs.FrontLemmas.{raw_more}
use Rattle.group_expand.proofs.PlacedLemmas.{live_more}
use Rattle.group_expand.proofs.ListLemmas.{filter_map, filter_swap, flat_same_all, map_map, map_append, map_flat, flat_map_map, flat_append, flat_flat}
use Rattle.group_expand.proofs.RankLemmas.{picked}

-- a source as a node of the row
abbrev pub placed : Look → List StatementView → given.Source → Source
placed look row x = record { group = x.group; node = node_at look row x.from }

module _ (look : Look) (kids : List Step → List Step) (row : List StatementView)
    (once : (q : List Step) (s : Step) → filter (eq_by_cmp step_cmp s) (kids q) ≡ step_if (is_some (look (q ++ s ∷ []))) s) where
  abbrev at : List Step → Node
  at q = node_at look row q

  active_there : (o : Option Value) → is_active o ≡ true → is_some o ≡ true
  active_there None e = cc
  active_there (Some v) e = refl

  -- a live step is once among the live ones
  pub live_once : (q : List Step) (s : Step) → filter (eq_by_cmp step_cmp s) (live_kids look kids q) ≡ step_if (is_live look (q ++ s ∷ [])) s
  live_once q s =
      filter_swap (eq_by_cmp step_cmp s) (λ t. is_live look (q ++ t ∷ [])) (kids q)
      ∙ ap (λ (ss : List Step). filter (λ t. is_live look (q ++ t ∷ [])) ss) (once q s)
      ∙ by_there (is_some (look (q ++ s ∷ []))) (is_live look (q ++ s ∷ [])) refl refl
    where
      by_there : (a b : Bool) → is_some (look (q ++ s ∷ [])) ≡ a → is_live look (q ++ s ∷ []) ≡ b → filter (λ t. is_live look (q ++ t ∷ [])) (step_if a s) ≡ step_if b s
      by_there true b e f = ap (λ (c : Bool). cond c (s ∷ []) []) f
      by_there false true e f =
          let k = both_true _ _ (sym (live_more look q s) ∙ f) in let c = sym (active_there _ k) ∙ e in cc
        where
          both_true : (a b : Bool) → (a && b) ≡ true → b ≡ true
          both_true true b e = e
          both_true false b e = cc
      by_there false false e f = refl

  -- of the nodes right below a path, those with a step and passing a test of steps
  kids_for : (q : List Step) (s : Step) (t : Step → Bool) (f : Node → Offer) (step_of_f : (r : Step) → (f (at (q ++ r ∷ []))).step ≡ r)
      → filter (is_for s) (map f (map (λ r. at (q ++ r ∷ [])) (filter t (live_kids look kids q))))
      ≡ map f (map (λ r. at (q ++ r ∷ [])) (filter t (step_if (is_live look (q ++ s ∷ [])) s)))
  kids_for q s t f named =
      ap (filter (is_for s)) (map_map f (λ r. at (q ++ r ∷ [])) (filter t (live_kids look kids q)))
      ∙ filter_map (is_for s) (λ r. f (at (q ++ r ∷ []))) (filter t (live_kids look kids q))
      ∙ (let same : (λ (r : Step). is_for s (f (at (q ++ r ∷ [])))) ≡ eq_by_cmp step_cmp s = λ i r. eq_by_cmp step_cmp s (named r i)
      in ap (λ (u : Step → Bool). map (λ r. f (at (q ++ r ∷ []))) (filter u (filter t (live_kids look kids q)))) same)
      ∙ ap (λ (ss : List Step). map (λ r. f (at (q ++ r ∷ []))) ss) (filter_swap (eq_by_cmp step_cmp s) t (live_kids look kids q))
      ∙ ap (λ (ss : List Step). map (λ r. f (at (q ++ r ∷ []))) (filter t ss)) (live_once q s)
      ∙ sym (map_map f (λ r. at (q ++ r ∷ [])) (filter t (step_if (is_live look (q ++ s ∷ [])) s)))

  all_true : (ss : List Step) → filter (λ r. true) ss ≡ ss
  all_true [] = refl
  all_true (s ∷ ss) = ap (λ (rs : List Step). s ∷ rs) (all_true ss)

  -- the configuration's own
  pub own_for : (q : List Step) (s : Step) → filter (is_for s) (map own_offer (kids_at look kids row q))
      ≡ cond (is_live look (q ++ s ∷ [])) (own_offer (at (q ++ s ∷ [])) ∷ []) []
  own_for q s =
      ap (λ (ss : List Step). filter (is_for s) (map own_offer (map (λ r. at (q ++ r ∷ [])) ss))) (sym (all_true (live_kids look kids q)))
      ∙ kids_for q s (λ r. true) own_offer (λ r. last_is q r)
      ∙ ap (λ (ss : List Step). map own_offer (map (λ r. at (q ++ r ∷ [])) ss)) (all_true (step_if (is_live look (q ++ s ∷ [])) s))
      ∙ by_live (is_live look (q ++ s ∷ []))
    where
      by_live : (b : Bool) → map own_offer (map (λ r. at (q ++ r ∷ [])) (step_if b s)) ≡ cond b (own_offer (at (q ++ s ∷ [])) ∷ []) []
      by_live true = refl
      by_live false = refl

  -- what a group's nodes offer by their own steps
  plain_for : (g : List ℕ) (q : List Step) (s : Step) → is_wildcard s.name ≡ false
      → filter (is_for s) (plain_offers g (kids_at look kids row q)) ≡ map (λ r. group_offer g s (at r)) (live_ones look kids ((q ++ s ∷ []) ∷ []))
  plain_for g q s plain =
      ap (λ (ns : List Node). filter (is_for s) (map (node_offer g) ns)) (plain_kids (live_kids look kids q))
      ∙ kids_for q s (λ r. not (is_wildcard r.name)) (node_offer g) (λ r. last_is q r)
      ∙ by_live (is_live look (q ++ s ∷ []))
    where
      plain_kids : (ss : List Step) → filter (λ n. not (has_wildcard n)) (map (λ r. at (q ++ r ∷ [])) ss) ≡ map (λ r. at (q ++ r ∷ [])) (filter (λ r. not (is_wildcard r.name)) ss)
      plain_kids ss =
          filter_map (λ n. not (has_wildcard n)) (λ r. at (q ++ r ∷ [])) ss
          ∙ (let same : (λ (r : Step). not (has_wildcard (at (q ++ r ∷ [])))) ≡ (λ (r : Step). not (is_wildcard r.name)) = λ i r. not (is_wildcard (last_is q r i).name)
          in ap (λ (u : Step → Bool). map (λ r. at (q ++ r ∷ [])) (filter u ss)) same)

      by_live : (b : Bool) → map (node_offer g) (map (λ r. at (q ++ r ∷ [])) (filter (λ r. not (is_wildcard r.name)) (step_if b s)))
          ≡ map (λ r. group_offer g s (at r)) (cond b ((q ++ s ∷ []) ∷ []) [])
      by_live true =
          ap (λ (c : Bool). map (node_offer g) (map (λ r. at (q ++ r ∷ [])) (cond (not c) (s ∷ []) []))) plain
          ∙ ap (λ (t : Step). group_offer g t (at (q ++ s ∷ [])) ∷ []) (last_is q s)
      by_live false = refl

  -- what a walk over the configuration's own, over a group's plain offers and over its wildcards picks for a step
  own_picked : (s : Step) (b : Bool) (ns : List Node) → flat_map (picked s b) (map own_offer ns) ≡ filter (is_for s) (map own_offer ns)
  own_picked s b [] = refl
  own_picked s b (n ∷ ns) = by_test (is_for s (own_offer n)) (own_picked s b ns)
    where
      by_test : (c : Bool) → flat_map (picked s b) (map own_offer ns) ≡ filter (is_for s) (map own_offer ns)
          → cond c (own_offer n ∷ []) [] ++ flat_map (picked s b) (map own_offer ns) ≡ cond c (own_offer n ∷ filter (is_for s) (map own_offer ns)) (filter (is_for s) (map own_offer ns))
      by_test true go = ap (λ (os : List Offer). own_offer n ∷ os) go
      by_test false go = go

  plain_picked : (s : Step) (b : Bool) (g : List ℕ) (ns : List Node) → flat_map (picked s b) (plain_offers g ns) ≡ filter (is_for s) (plain_offers g ns)
  plain_picked s b g [] = refl
  plain_picked s b g (n ∷ ns) = by_tests (has_wildcard n) (is_for s (node_offer g n)) refl refl (plain_picked s b g ns)
    where
      by_tests : (w c : Bool) → has_wildcard n ≡ w → is_for s (node_offer g n) ≡ c → flat_map (picked s b) (plain_offers g ns) ≡ filter (is_for s) (plain_offers g ns)
          → flat_map (picked s b) (map (node_offer g) (cond (not w) (n ∷ filter (λ n. not (has_wildcard n)) ns) (filter (λ n. not (has_wildcard n)) ns)))
          ≡ filter (is_for s) (map (node_offer g) (cond (not w) (n ∷ filter (λ n. not (has_wildcard n)) ns) (filter (λ n. not (has_wildcard n)) ns)))
      by_tests true c e f go = go
      by_tests false c e f go =
          ap (λ (w : Bool). cond w (cond (b && fits_wildcard s (last_of n.path)) (offer_for s (node_offer g n) ∷ []) []) (cond (is_for s (node_offer g n)) (node_offer g n ∷ []) []) ++ flat_map (picked s b) (plain_offers g ns)) e
          ∙ by_same c f
        where
          by_same : (c : Bool) → is_for s (node_offer g n) ≡ c
              → cond (is_for s (node_offer g n)) (node_offer g n ∷ []) [] ++ flat_map (picked s b) (plain_offers g ns)
              ≡ cond (is_for s (node_offer g n)) (node_offer g n ∷ filter (is_for s) (plain_offers g ns)) (filter (is_for s) (plain_offers g ns))
          by_same true k =
              ap (λ (c : Bool). cond c (node_offer g n ∷ []) [] ++ flat_map (picked s b) (plain_offers g ns)) k ∙ ap (λ (os : List Offer). node_offer g n ∷ os) go
              ∙ sym (ap (λ (c : Bool). cond c (node_offer g n ∷ filter (is_for s) (plain_offers g ns)) (filter (is_for s) (plain_offers g ns))) k)
          by_same false k =
              ap (λ (c : Bool). cond c (node_offer g n ∷ []) [] ++ flat_map (picked s b) (plain_offers g ns)) k ∙ go
              ∙ sym (ap (λ (c : Bool). cond c (node_offer g n ∷ filter (is_for s) (plain_offers g ns)) (filter (is_for s) (plain_offers g ns))) k)

  abbrev matched : List ℕ → Step → Bool → Node → List Offer
  matched g s b n = cond b (cond (fits_wildcard s (last_of n.path)) (group_offer g s n ∷ []) []) []

  wild_picked : (s : Step) (b : Bool) (g : List ℕ) (ns : List Node) → flat_map (picked s b) (wild_offers g ns) ≡ flat_map (matched g s b) ns
  wild_picked s b g [] = refl
  wild_picked s b g (n ∷ ns) = by_wild (has_wildcard n) refl (wild_picked s b g ns)
    where
      no_fit : (a b : Bool) → (a && (false && b)) ≡ false
      no_fit true b = refl
      no_fit false b = refl

      both : (b c : Bool) → cond (b && c) (group_offer g s n ∷ []) [] ≡ cond b (cond c (group_offer g s n ∷ []) []) []
      both true c = refl
      both false c = refl

      none : (b : Bool) → [] ≡ cond b (cond false (group_offer g s n ∷ []) []) []
      none true = refl
      none false = refl

      by_wild : (w : Bool) → has_wildcard n ≡ w → flat_map (picked s b) (wild_offers g ns) ≡ flat_map (matched g s b) ns
          → flat_map (picked s b) (map (node_offer g) (cond w (n ∷ filter has_wildcard ns) (filter has_wildcard ns))) ≡ matched g s b n ++ flat_map (matched g s b) ns
      by_wild true e go =
          ap (λ (w : Bool). cond w (cond (b && fits_wildcard s (last_of n.path)) (offer_for s (node_offer g n) ∷ []) []) (cond (is_for s (node_offer g n)) (node_offer g n ∷ []) []) ++ flat_map (picked s b) (wild_offers g ns)) e
          ∙ ap (λ (os : List Offer). os ++ flat_map (picked s b) (wild_offers g ns)) (both b (fits_wildcard s (last_of n.path)))
          ∙ ap (λ (os : List Offer). matched g s b n ++ os) go
      by_wild false e go =
          go
          ∙ ap (λ (os : List Offer). os ++ flat_map (matched g s b) ns) (none b ∙ sym (ap (λ (c : Bool). cond b (cond c (group_offer g s n ∷ []) []) []) unfit))
        where
          unfit : fits_wildcard s (last_of n.path) ≡ false
          unfit =
              ap (λ (c : Bool). same_word s.head (last_of n.path).head && (c && glob (between (last_of n.path).name) s.name)) e
              ∙ no_fit (same_word s.head (last_of n.path).head) (glob (between (last_of n.path).name) s.name)

  abbrev no_offers : Step → List Offer
  no_offers r = []

  wild_for : (g : List ℕ) (p : List Step) (s : Step) (q : List Step)
      → flat_map (picked s (is_live look (p ++ s ∷ []))) (wild_offers g (kids_at look kids row q))
      ≡ map (λ r. group_offer g s (at r)) (live_ones look kids (map (λ other. q ++ other ∷ []) (cond (is_live look (p ++ s ∷ [])) (filter (fits_wildcard s) (kids q)) [])))
  wild_for g p s q =
      wild_picked s (is_live look (p ++ s ∷ [])) g (kids_at look kids row q)
      ∙ flat_map_map (matched g s (is_live look (p ++ s ∷ []))) (λ r. at (q ++ r ∷ [])) (live_kids look kids q)
      ∙ by_live (is_live look (p ++ s ∷ []))
    where
      none_left : (ss : List Step) → flat_map no_offers ss ≡ []
      none_left [] = refl
      none_left (r ∷ ss) = none_left ss

      each : (ss : List Step)
          → flat_map (λ r. cond (fits_wildcard s (last_of (q ++ r ∷ []))) (group_offer g s (at (q ++ r ∷ [])) ∷ []) []) (filter (λ r. is_live look (q ++ r ∷ [])) ss)
          ≡ map (λ r. group_offer g s (at r)) (live_ones look kids (map (λ other. q ++ other ∷ []) (filter (fits_wildcard s) ss)))
      each [] = refl
      each (r ∷ ss) = by_tests (is_live look (q ++ r ∷ [])) (fits_wildcard s r) refl refl (each ss)
        where
          by_tests : (a b : Bool) → is_live look (q ++ r ∷ []) ≡ a → fits_wildcard s r ≡ b
              → flat_map (λ r. cond (fits_wildcard s (last_of (q ++ r ∷ []))) (group_offer g s (at (q ++ r ∷ [])) ∷ []) []) (filter (λ r. is_live look (q ++ r ∷ [])) ss)
              ≡ map (λ r. group_offer g s (at r)) (live_ones look kids (map (λ other. q ++ other ∷ []) (filter (fits_wildcard s) ss)))
              → flat_map (λ r. cond (fits_wildcard s (last_of (q ++ r ∷ []))) (group_offer g s (at (q ++ r ∷ [])) ∷ []) []) (cond a (r ∷ filter (λ r. is_live look (q ++ r ∷ [])) ss) (filter (λ r. is_live look (q ++ r ∷ [])) ss))
              ≡ map (λ r. group_offer g s (at r)) (live_ones look kids (map (λ other. q ++ other ∷ []) (cond b (r ∷ filter (fits_wildcard s) ss) (filter (fits_wildcard s) ss))))
          by_tests true true e f go =
              ap (λ (t : Step). cond (fits_wildcard s t) (group_offer g s (at (q ++ r ∷ [])) ∷ []) [] ++ flat_map (λ r. cond (fits_wildcard s (last_of (q ++ r ∷ []))) (group_offer g s (at (q ++ r ∷ [])) ∷ []) []) (filter (λ r. is_live look (q ++ r ∷ [])) ss)) (last_is q r)
              ∙ ap (λ (c : Bool). cond c (group_offer g s (at (q ++ r ∷ [])) ∷ []) [] ++ flat_map (λ r. cond (fits_wildcard s (last_of (q ++ r ∷ []))) (group_offer g s (at (q ++ r ∷ [])) ∷ []) []) (filter (λ r. is_live look (q ++ r ∷ [])) ss)) f
              ∙ ap (λ (os : List Offer). group_offer g s (at (q ++ r ∷ [])) ∷ os) go
              ∙ sym (ap (λ (c : Bool). map (λ r. group_offer g s (at r)) (cond c ((q ++ r ∷ []) ∷ live_ones look kids (map (λ other. q ++ other ∷ []) (filter (fits_wildcard s) ss))) (live_ones look kids (map (λ other. q ++ other ∷ []) (filter (fits_wildcard s) ss))))) e)
          by_tests true false e f go =
              ap (λ (t : Step). cond (fits_wildcard s t) (group_offer g s (at (q ++ r ∷ [])) ∷ []) [] ++ flat_map (λ r. cond (fits_wildcard s (last_of (q ++ r ∷ []))) (group_offer g s (at (q ++ r ∷ [])) ∷ []) []) (filter (λ r. is_live look (q ++ r ∷ [])) ss)) (last_is q r)
              ∙ ap (λ (c : Bool). cond c (group_offer g s (at (q ++ r ∷ [])) ∷ []) [] ++ flat_map (λ r. cond (fits_wildcard s (last_of (q ++ r ∷ []))) (group_offer g s (at (q ++ r ∷ [])) ∷ []) []) (filter (λ r. is_live look (q ++ r ∷ [])) ss)) f
              ∙ go
          by_tests false true e f go =
              go ∙ sym (ap (λ (c : Bool). map (λ r. group_offer g s (at r)) (cond c ((q ++ r ∷ []) ∷ live_ones look kids (map (λ other. q ++ other ∷ []) (filter (fits_wildcard s) ss))) (live_ones look kids (map (λ other. q ++ other ∷ []) (filter (fits_wildcard s) ss))))) e)
          by_tests false false e f go = go

      by_live : (b : Bool)
          → flat_map (λ r. cond b (cond (fits_wildcard s (last_of (q ++ r ∷ []))) (group_offer g s (at (q ++ r ∷ [])) ∷ []) []) []) (live_kids look kids q)
          ≡ map (λ r. group_offer g s (at r)) (live_ones look kids (map (λ other. q ++ other ∷ []) (cond b (filter (fits_wildcard s) (kids q)) [])))
      by_live true = each (kids q)
      by_live false = none_left (live_kids look kids q)

  -- all that a walk over what a source offers picks for a step
  source_for : (p : List Step) (s : Step) (x : given.Source) → is_wildcard s.name ≡ false → children_of (at x.from) ≡ kids_at look kids row x.from
      → flat_map (picked s (is_live look (p ++ s ∷ []))) (offers_of (placed look row x))
      ≡ map (offer_at look row s) (grown (fitting_below look kids (is_live look (p ++ s ∷ [])) s) x)
  source_for p s x plain below =
      ap (λ (ns : List Node). flat_map (picked s (is_live look (p ++ s ∷ []))) (plain_offers x.group ns ++ wild_offers x.group ns)) below
      ∙ flat_append (picked s (is_live look (p ++ s ∷ []))) (plain_offers x.group (kids_at look kids row x.from)) (wild_offers x.group (kids_at look kids row x.from))
      ∙ ap (λ (os : List Offer). os ++ flat_map (picked s (is_live look (p ++ s ∷ []))) (wild_offers x.group (kids_at look kids row x.from)))
      (plain_picked s (is_live look (p ++ s ∷ [])) x.group (kids_at look kids row x.from) ∙ plain_for x.group x.from s plain)
      ∙ ap (λ (os : List Offer). map (λ r. group_offer x.group s (at r)) (live_ones look kids ((x.from ++ s ∷ []) ∷ [])) ++ os) (wild_for x.group p s x.from)
      ∙ sym (map_append (λ r. group_offer x.group s (at r)) (live_ones look kids ((x.from ++ s ∷ []) ∷ []))
      (live_ones look kids (map (λ other. x.from ++ other ∷ []) (cond (is_live look (p ++ s ∷ [])) (filter (fits_wildcard s) (kids x.from)) []))))
      ∙ sym (map_map (offer_at look row s) (given.source x.group) (fitting_below look kids (is_live look (p ++ s ∷ [])) s x.from))

  -- what a walk over the offers of a level picks for a step
  pub offers_for : (p : List Step) (s : Step) → is_wildcard s.name ≡ false
      → AllByRecursion (λ x. children_of (at x.from) ≡ kids_at look kids row x.from) (front look kids p)
      → flat_map (picked s (is_live look (p ++ s ∷ []))) (offered (kids_at look kids row p) (map (placed look row) (front look kids p))) ≡ run_at look kids row p s
  offers_for p s plain below =
      flat_append (picked s (is_live look (p ++ s ∷ []))) (map own_offer (kids_at look kids row p)) (flat_map offers_of (map (placed look row) (front look kids p)))
      ∙ ap (λ (os : List Offer). os ++ flat_map (picked s (is_live look (p ++ s ∷ []))) (flat_map offers_of (map (placed look row) (front look kids p))))
      (own_picked s (is_live look (p ++ s ∷ [])) (kids_at look kids row p) ∙ own_for p s)
      ∙ ap (λ (os : List Offer). cond (is_live look (p ++ s ∷ [])) (own_offer (at (p ++ s ∷ [])) ∷ []) [] ++ os)
      (flat_flat (picked s (is_live look (p ++ s ∷ []))) offers_of (map (placed look row) (front look kids p))
      ∙ flat_map_map (λ y. flat_map (picked s (is_live look (p ++ s ∷ []))) (offers_of y)) (placed look row) (front look kids p)
      ∙ flat_same_all _ _ (front look kids p) (each_source (front look kids p) below)
      ∙ sym (map_flat (offer_at look row s) (grown (fitting_below look kids (is_live look (p ++ s ∷ [])) s)) (front look kids p))
      ∙ ap (map (offer_at look row s)) (sym (raw_more look kids p s)))
    where
      each_source : (xs : List given.Source) → AllByRecursion (λ x. children_of (at x.from) ≡ kids_at look kids row x.from) xs
          → AllByRecursion (λ x. flat_map (picked s (is_live look (p ++ s ∷ []))) (offers_of (placed look row x)) ≡ map (offer_at look row s) (grown (fitting_below look kids (is_live look (p ++ s ∷ [])) s) x)) xs
      each_source [] h = tt
      each_source (x ∷ xs) h = (source_for p s x plain h.0, each_source xs h.1)
