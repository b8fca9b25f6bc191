-- Where nothing is inherited at a path or below, and nothing is inactive there, what stands there is in the expansion as it is.
use Rattle.std.proofs.Common.{◌≡◌, ◌≢◌, ℕ, ◌+◌, ◌<◌, ◌≤◌, Bool, true, false, not, cond, nat_lt, List, [], ◌∷◌, ◌++◌, length, filter, map, refl, sym, ap, subst, ◌∙◌, arith, append_assoc, length-append, Option, Some, None, is_some, option_map}
use Rattle.std.specs.Prelude.{IsSome, ◌&&◌, ◌||◌, flat_map}
use Rattle.std.specs.FinMap as finite
use Rattle.std.specs.FinMap.{find}
use Rattle.std.specs.List.{AllByRecursion, list_all}
use Rattle.std.specs.List.Sorted.{IsStrictlySortedBy}
use Rattle.std.specs.Map.{keys_of}
use Rattle.std.specs.Ordering.{eq_by_cmp}
use Rattle.cfg_tree.specs.Full.{own_given}
use Rattle.cfg_base.specs.Order.{path_cmp, paths_total, is_below}
use Rattle.cfg_base.specs.Words.{same_word, lists}
use Rattle.cfg_base.specs.declared.path.Step.{Step}
use Rattle.cfg_base.specs.declared.path.TheConstants.{MAX_STEPS}
use Rattle.cfg_base.specs.declared.value.Value.{Value}
use Rattle.cfg_schema.specs.Place.{place_of}
use Rattle.cfg_schema.proofs.TestLemmas.{same_is}
use Rattle.cfg_tree.specs.declared.full.Given.{Given}
use Rattle.cfg_tree.specs.Statements.{last_of}
use Rattle.cfg_tree.specs.Children.{is_inside, order_in}
use Rattle.cfg_tree.specs.Tree.{step_of, ordered_head, IsOrderBy}
use Rattle.cfg_tree.proofs.MapLemmas.{same_path, same_step, path_same}
use Rattle.group_expand.specs.Live.{Look, is_active, live_from, is_live, words_of, live_words}
use Rattle.group_expand.specs.Sources as given
use Rattle.group_expand.specs.Sources.{apply_step, except_step, same_step as alike, is_outside, is_plain, fitting, fitting_below, excepted, sources}
use Rattle.group_expand.specs.Expansion.{Gift, is_apply, is_own, gift_from, first_gift, gift_at}
use Rattle.group_expand.specs.Front.{grown, raw, front, kept_at, steps_at}
use Rattle.group_expand.specs.Listed.{entry_and}
use Rattle.group_expand.specs.Made.{with_order, present, order_of, given_at}
use Rattle.group_expand.specs.Row.{StatementView, pairs_of}
use Rattle.group_expand.specs.Node.{Node, inside_of}
use Rattle.group_expand.specs.Offer.{Offer, own_offer}
use Rattle.group_expand.specs.Runs.{is_apply_step}
use Rattle.group_expand.specs.Placed.{map_of, value_in, node_at, offer_at, run_at, look_of, kids_of, given_below, given_for, IsRow}
use Rattle.group_expand.specs.Unaltered.{is_unaltered, is_unaltered_node, unaltered_of, own_entry, own_entries}
use Rattle.group_expand.proofs.FrontLemmas.{raw_more}
use Rattle.group_expand.proofs.ClosedLemmas.{both, negated}
use Rattle.group_expand.proofs.StepLemmas.{last_is}
use Rattle.group_expand.proofs.DepthLemmas.{above_there}
use Rattle.group_expand.proofs.NodeLemmas.{append_nothing, inside_longer, lt_is, ordered_kept}
use Rattle.group_expand.proofs.PlacedLemmas.{live_more, all_pass, sorted_pairs}
use Rattle.group_expand.proofs.FullLemmas.{entries_kept, listed_short, find_short}
use Rattle.group_expand.proofs.InOrderLemmas.{AreInside}
use Rattle.group_expand.proofs.TreeLemmas.{few_steps, tree_listed, tree_both}

-- the last step of a path shows whether it is that of an apply statement
pub apply_last : (path : List Step) → 0 < length path → is_apply path ≡ (alike apply_step (last_of path) || alike except_step (last_of path))
apply_last [] some = absurd (omega (arith, some))
apply_last (step ∷ rest) some = refl

apply_end : (p : List Step) (s : Step) → is_apply (p ++ s ∷ []) ≡ is_apply_step s
apply_end [] s = ap is_apply_step (last_is [] s)
apply_end (t ∷ p) s = ap is_apply_step (last_is (t ∷ p) s)

clash : true ≡ false → ⊥
clash e = cc

none_some : {X : Type 0} (o : Option X) → o ≡ None → IsSome o → ⊥
none_some o e k = clash (sym k ∙ ap is_some e)

longer : (p : List Step) (s : Step) → p ++ s ∷ [] ≢ []
longer [] s e = cc
longer (t ∷ p) s e = cc

and_false : (b : Bool) → (b && false) ≡ false
and_false true = refl
and_false false = refl

-- a path that isn't there isn't live
dead_from : (look : Look) (above : List Step) (s : Step) (rest : List Step) → look (above ++ s ∷ rest) ≡ None → live_from look above (s ∷ rest) ≡ false
dead_from look above s [] e = ap (λ (o : Option Value). is_active o && true) e
dead_from look above s (t ∷ rest) e =
    ap (λ (b : Bool). is_active (look (above ++ s ∷ [])) && b) (dead_from look (above ++ s ∷ []) t rest (ap look (append_assoc above (s ∷ []) (t ∷ rest)) ∙ e))
    ∙ and_false _

dead : (look : Look) (q : List Step) → q ≢ [] → look q ≡ None → is_live look q ≡ false
dead look [] some e = absurd (some refl)
dead look (s ∷ q) some e = dead_from look [] s q e

-- a path without sources at which nothing is applied brings nothing to its children
no_words : (look : Look) (p : List Step) → look p ≡ None → live_words look p ≡ []
no_words look p e = by_live (is_live look p)
  where
    by_live : (b : Bool) → cond b (words_of (look p)) [] ≡ []
    by_live true = ap words_of e
    by_live false = refl

front_none : (look : Look) (kids : List Step → List Step) (q : List Step) → raw look kids q ≡ [] → look (q ++ apply_step ∷ []) ≡ None → front look kids q ≡ []
unfolding front
front_none look kids q none no_apply =
    ap (λ (ws : List (List ℕ)). flat_map (λ g. map (given.source g) (fitting look kids g q)) (filter (λ g. not (lists (excepted look kids q) g || false)) ws) ++ kept_at look kids q) (no_words look (q ++ apply_step ∷ []) no_apply)
    ∙ ap (λ (xs : List given.Source). filter (λ x. not (lists (excepted look kids q) x.group)) xs) none

raw_next : (look : Look) (kids : List Step → List Step) (q : List Step) (s : Step) → front look kids q ≡ [] → raw look kids (q ++ s ∷ []) ≡ []
raw_next look kids q s e = raw_more look kids q s ∙ ap (flat_map (grown (fitting_below look kids (is_live look (q ++ s ∷ [])) s))) e

outside_long : (p f : List Step) → p ≢ [] → is_outside (p ++ f) ≡ is_outside p
outside_long [] f some = absurd (some refl)
outside_long (t ∷ p) f some = refl

-- lists of entries that are in order and have the same at each path are one
lists_same : {X : Type 0} (es fs : List (List Step × X)) → IsStrictlySortedBy path_cmp (keys_of es) → IsStrictlySortedBy path_cmp (keys_of fs)
    → ((q : List Step) → find path_cmp q es ≡ find path_cmp q fs) → es ≡ fs
lists_same es fs s t h =
    sym (entries_kept es s)
    ∙ ap finite.entries (finite.same_map paths_total path_same (finite.from_entries es) (finite.from_entries fs)
    (λ q. finite.get-from_entries paths_total es q ∙ h q ∙ sym (finite.get-from_entries paths_total fs q)))
    ∙ entries_kept fs t

inside_more : (p : List Step) (t : Step) (r : List Step) → is_inside p (p ++ t ∷ r) ≡ true
inside_more p t r =
    ap (λ (b : Bool). b && nat_lt (length p) (length (p ++ t ∷ r))) (below_front p)
    ∙ lt_is (length p) (length (p ++ t ∷ r)) (omega (arith, length-append p (t ∷ r)))
  where
    below_front : (q : List Step) → is_below q (q ++ t ∷ r) ≡ true
    below_front [] = refl
    below_front (x ∷ q) = ap (λ (b : Bool). b && is_below q (q ++ t ∷ r)) ((same_step x x).1 refl) ∙ below_front q

below_split : (p q : List Step) → is_below p q ≡ true → length p < length q → (t : Step) × (r : List Step) × (q ≡ p ++ t ∷ r)
below_split [] [] e l = absurd (omega (arith, l))
below_split [] (t ∷ q) e l = (t, q, refl)
below_split (x ∷ p) [] e l = cc
below_split (x ∷ p) (y ∷ q) e l =
    let k = both _ _ e in let same : y ≡ x = sym ((same_step x y).0 k.0)
    in let m = below_split p q k.1 (omega (arith, l)) in (m.0, m.1, λ i. same i ∷ m.2 i)

inside_split : (p q : List Step) → is_inside p q ≡ true → (t : Step) × (r : List Step) × (q ≡ p ++ t ∷ r)
inside_split p q e = below_split p q (both _ _ e).0 (inside_longer p q e)

find_outside : {X : Type 0} (p : List Step) (es : List (List Step × X)) (q : List Step) → is_inside p q ≡ false → AllByRecursion (λ e. is_inside p e.0 ≡ true) es → find path_cmp q es ≡ None
find_outside p [] q out h = refl
find_outside {X} p (e ∷ es) q out h = ap (λ (b : Bool). cond b (Some e.1) (find path_cmp q es)) (apart (eq_by_cmp path_cmp q e.0) refl) ∙ find_outside p es q out h.1
  where
    apart : (b : Bool) → eq_by_cmp path_cmp q e.0 ≡ b → b ≡ false
    apart true k = absurd (clash (sym h.0 ∙ ap (is_inside p) (sym ((same_path q e.0).0 k)) ∙ out))
    apart false k = refl

all_inside : {X : Type 0} (p : List Step) (es : List (List Step × X)) → AreInside p es → AllByRecursion (λ e. is_inside p e.0 ≡ true) es
all_inside p [] h = tt
all_inside p (e ∷ es) h = (ap (is_inside p) h.0.2 ∙ inside_more p h.0.0 h.0.1, all_inside p es h.1)

-- entries of statements as they stand
find_entries : (q : List Step) (xs : List StatementView) → find path_cmp q (map own_entry xs) ≡ option_map own_given (find path_cmp q (pairs_of xs))
find_entries q [] = refl
find_entries q (x ∷ xs) = by_test (eq_by_cmp path_cmp q x.path) (find_entries q xs)
  where
    by_test : (b : Bool) → find path_cmp q (map own_entry xs) ≡ option_map own_given (find path_cmp q (pairs_of xs))
        → cond b (Some (own_given x.value)) (find path_cmp q (map own_entry xs)) ≡ option_map own_given (cond b (Some x.value) (find path_cmp q (pairs_of xs)))
    by_test true go = refl
    by_test false go = go

keys_alike : (xs : List StatementView) → keys_of (map own_entry xs) ≡ keys_of (pairs_of xs)
keys_alike [] = refl
keys_alike (x ∷ xs) = ap (λ (ks : List (List Step)). x.path ∷ ks) (keys_alike xs)

find_kept : (t : List Step → Bool) (q : List Step) → t q ≡ true → (xs : List StatementView) → find path_cmp q (pairs_of (filter (λ x. t x.path) xs)) ≡ find path_cmp q (pairs_of xs)
find_kept t q e [] = refl
find_kept t q e (x ∷ xs) = by_tests (eq_by_cmp path_cmp q x.path) (t x.path) refl refl (find_kept t q e xs)
  where
    by_tests : (a b : Bool) → eq_by_cmp path_cmp q x.path ≡ a → t x.path ≡ b → find path_cmp q (pairs_of (filter (λ y. t y.path) xs)) ≡ find path_cmp q (pairs_of xs)
        → find path_cmp q (pairs_of (cond b (x ∷ filter (λ y. t y.path) xs) (filter (λ y. t y.path) xs))) ≡ cond a (Some x.value) (find path_cmp q (pairs_of xs))
    by_tests true true k l go = ap (λ (c : Bool). cond c (Some x.value) (find path_cmp q (pairs_of (filter (λ y. t y.path) xs)))) k
    by_tests true false k l go = absurd (clash (sym e ∙ ap t ((same_path q x.path).0 k) ∙ l))
    by_tests false true k l go = ap (λ (c : Bool). cond c (Some x.value) (find path_cmp q (pairs_of (filter (λ y. t y.path) xs)))) k ∙ go
    by_tests false false k l go = go

found_all : (Q : List Step → Value → Type 0) (xs : List StatementView) → AllByRecursion (λ x. Q x.path x.value) xs → (q : List Step) (v : Value) → find path_cmp q (pairs_of xs) ≡ Some v → Q q v
found_all Q [] h q v e = cc
found_all Q (x ∷ xs) h q v e = by_test (eq_by_cmp path_cmp q x.path) refl e (found_all Q xs h.1 q v)
  where
    by_test : (b : Bool) → eq_by_cmp path_cmp q x.path ≡ b → cond b (Some x.value) (find path_cmp q (pairs_of xs)) ≡ Some v → (find path_cmp q (pairs_of xs) ≡ Some v → Q q v) → Q q v
    by_test true k f go =
        let same : x.value ≡ v = cc in subst (λ (r : List Step). Q r v) (sym ((same_path q x.path).0 k)) (subst (λ (w : Value). Q x.path w) same h.0)
    by_test false k f go = go f

abbrev Stands : List Step → Value → Type 0
Stands q v = (v.inactive ≡ false) × (is_apply q ≡ false)

each_stands : (xs : List StatementView) → list_all is_unaltered xs ≡ true → AllByRecursion (λ x. Stands x.path x.value) xs
each_stands [] h = tt
each_stands (x ∷ xs) h = let k = both _ _ h in let m = both _ _ k.0 in ((negated _ m.0, negated _ m.1), each_stands xs k.1)

inside_entries : (p : List Step) (xs : List StatementView) → AllByRecursion (λ e. is_inside p e.0 ≡ true) (map own_entry (inside_of p xs))
inside_entries p [] = tt
inside_entries p (x ∷ xs) = by_test (is_inside p x.path) refl (inside_entries p xs)
  where
    by_test : (b : Bool) → is_inside p x.path ≡ b → AllByRecursion (λ e. is_inside p e.0 ≡ true) (map own_entry (inside_of p xs))
        → AllByRecursion (λ e. is_inside p e.0 ≡ true) (map own_entry (cond b (x ∷ inside_of p xs) (inside_of p xs)))
    by_test true e go = (e, go)
    by_test false e go = go

abbrev own_gift : Value → Gift
own_gift v = record { words = v.words; group = [] }

module _ (row : List StatementView) (h : IsRow row) where
  abbrev L : Look
  L = look_of row

  abbrev K : List Step → List Step
  K = kids_of row

  found_in : (q : List Step) → L q ≡ find path_cmp q (pairs_of row)
  found_in q = finite.get-from_entries paths_total (pairs_of row) q

  module _ (P : List Step) (long : P ≢ []) (live : is_live L P ≡ true) (none : raw L K P ≡ []) (outside : is_outside P ≡ true)
      (stands : (f : List Step) (v : Value) → L (P ++ f) ≡ Some v → Stands (P ++ f) v) where
    no_apply : (f : List Step) → L ((P ++ f) ++ apply_step ∷ []) ≡ None
    no_apply f = by_value (L ((P ++ f) ++ apply_step ∷ [])) refl
      where
        by_value : (o : Option Value) → L ((P ++ f) ++ apply_step ∷ []) ≡ o → o ≡ None
        by_value None e = refl
        by_value (Some v) e =
            absurd (clash (sym (apply_end (P ++ f) apply_step) ∙ ap is_apply (append_assoc P f (apply_step ∷ []))
            ∙ (stands (f ++ apply_step ∷ []) v (ap L (sym (append_assoc P f (apply_step ∷ []))) ∙ e)).1))

    -- one step more
    shifted : (f : List Step) (s : Step) (r : List Step) → (P ++ f) ++ s ∷ r ≡ (P ++ (f ++ s ∷ [])) ++ r
    shifted f s r = sym (append_assoc (P ++ f) (s ∷ []) r) ∙ ap (λ (q : List Step). q ++ r) (append_assoc P f (s ∷ []))

    raw_from : (f r : List Step) → raw L K (P ++ f) ≡ [] → raw L K ((P ++ f) ++ r) ≡ []
    raw_from f [] e = ap (raw L K) (append_nothing (P ++ f)) ∙ e
    raw_from f (s ∷ r) e =
        ap (raw L K) (shifted f s r)
        ∙ raw_from (f ++ s ∷ []) r (ap (raw L K) (sym (append_assoc P f (s ∷ []))) ∙ raw_next L K (P ++ f) s (front_none L K (P ++ f) e (no_apply f)))

    raw_none : (f : List Step) → raw L K (P ++ f) ≡ []
    raw_none f = ap (λ (q : List Step). raw L K (q ++ f)) (sym (append_nothing P)) ∙ raw_from [] f (ap (raw L K) (append_nothing P) ∙ none)

    active : (f : List Step) → IsSome (L (P ++ f)) → is_active (L (P ++ f)) ≡ true
    active f some = by_value (L (P ++ f)) refl some
      where
        by_value : (o : Option Value) → L (P ++ f) ≡ o → IsSome o → is_active o ≡ true
        by_value None e k = cc
        by_value (Some v) e k = ap not (stands f v e).0

    live_on : (f r : List Step) → is_live L (P ++ f) ≡ true → IsSome (L ((P ++ f) ++ r)) → is_live L ((P ++ f) ++ r) ≡ true
    live_on f [] e some = ap (is_live L) (append_nothing (P ++ f)) ∙ e
    live_on f (s ∷ r) e some =
        let there : IsSome (L ((P ++ (f ++ s ∷ [])) ++ r)) = subst (λ (q : List Step). IsSome (L q)) (shifted f s r) some
        in let here : IsSome (L (P ++ (f ++ s ∷ []))) = above_there (map_of row) h.tree (P ++ (f ++ s ∷ [])) r (λ k. longer (P ++ f) s (append_assoc P f (s ∷ []) ∙ k)) there
        in let one : is_live L (P ++ (f ++ s ∷ [])) ≡ true
        = ap (is_live L) (sym (append_assoc P f (s ∷ []))) ∙ live_more L (P ++ f) s
        ∙ ap (λ (b : Bool). b && is_active (L ((P ++ f) ++ s ∷ []))) e
        ∙ ap (λ (q : List Step). is_active (L q)) (append_assoc P f (s ∷ [])) ∙ active (f ++ s ∷ []) here
        in ap (is_live L) (shifted f s r) ∙ live_on (f ++ s ∷ []) r one there

    live_all : (f : List Step) → IsSome (L (P ++ f)) → is_live L (P ++ f) ≡ true
    live_all f some =
        ap (λ (q : List Step). is_live L (q ++ f)) (sym (append_nothing P))
        ∙ live_on [] f (ap (is_live L) (append_nothing P) ∙ live) (subst (λ (q : List Step). IsSome (L (q ++ f))) (sym (append_nothing P)) some)

    some_long : (f : List Step) → P ++ f ≢ []
    some_long f e = long (first_nothing P e)
      where
        first_nothing : (p : List Step) → p ++ f ≡ [] → p ≡ []
        first_nothing [] k = refl
        first_nothing (t ∷ p) k = cc

    own_there : (f : List Step) (v : Value) → L (P ++ f) ≡ Some v → is_own L (P ++ f) ≡ true
    own_there f v e =
        ap (λ (b : Bool). b && (is_outside (P ++ f) && not (is_apply (P ++ f)))) (live_all f (ap is_some e))
        ∙ ap (λ (b : Bool). b && not (is_apply (P ++ f))) (outside_long P f long ∙ outside)
        ∙ ap not (stands f v e).1

    no_sources : (f : List Step) → sources L K (P ++ f) ≡ []
    no_sources f = by_test (is_outside (P ++ f) && is_plain (P ++ f))
      where
        by_test : (b : Bool) → cond b (raw L K (P ++ f)) [] ≡ []
        by_test true = raw_none f
        by_test false = refl

    gift_here : (f : List Step) (o : Option Value) → L (P ++ f) ≡ o → gift_at L K (P ++ f) ≡ option_map own_gift o
    gift_here f None e =
        ap (λ (b : Bool). cond b (Some (gift_from L [] (P ++ f))) (first_gift L (sources L K (P ++ f)))) (ap (λ (b : Bool). b && (is_outside (P ++ f) && not (is_apply (P ++ f)))) (dead L (P ++ f) (some_long f) e))
        ∙ ap (first_gift L) (no_sources f)
    gift_here f (Some v) e =
        ap (λ (b : Bool). cond b (Some (gift_from L [] (P ++ f))) (first_gift L (sources L K (P ++ f)))) (own_there f v e)
        ∙ ap (λ (o : Option Value). Some (record { words = words_of o; group = [] })) e

    own_gifted : (f : List Step) → is_some (gift_at L K (P ++ f)) ≡ true → is_own L (P ++ f) ≡ true
    own_gifted f k = by_value (L (P ++ f)) refl
      where
        by_value : (o : Option Value) → L (P ++ f) ≡ o → is_own L (P ++ f) ≡ true
        by_value None e = absurd (none_some (gift_at L K (P ++ f)) (gift_here f None e) k)
        by_value (Some v) e = own_there f v e

    own_child : (f : List Step) (s : Step) → is_some (gift_at L K ((P ++ f) ++ s ∷ [])) ≡ true → is_own L ((P ++ f) ++ s ∷ []) ≡ true
    own_child f s = subst (λ (q : List Step). is_some (gift_at L K q) ≡ true → is_own L q ≡ true) (sym (append_assoc P f (s ∷ []))) (own_gifted (f ++ s ∷ []))

    live_child : (f : List Step) (s : Step) → IsSome (L ((P ++ f) ++ s ∷ [])) → is_live L ((P ++ f) ++ s ∷ []) ≡ true
    live_child f s = subst (λ (q : List Step). IsSome (L q) → is_live L q ≡ true) (sym (append_assoc P f (s ∷ []))) (live_all (f ++ s ∷ []))

    -- no name of a level is inherited
    abbrev others : List Step → List ℕ → List Step → List Step
    others f head ss = filter (λ s. same_word head s.head && not (is_own L ((P ++ f) ++ s ∷ []))) ss

    no_others : (f : List Step) (head : List ℕ) (ss : List Step) → others f head (filter (λ s. is_some (gift_at L K ((P ++ f) ++ s ∷ []))) ss) ≡ []
    no_others f head [] = refl
    no_others f head (s ∷ ss) = by_gift (is_some (gift_at L K ((P ++ f) ++ s ∷ []))) refl (no_others f head ss)
      where
        by_gift : (b : Bool) → is_some (gift_at L K ((P ++ f) ++ s ∷ [])) ≡ b → others f head (filter (λ t. is_some (gift_at L K ((P ++ f) ++ t ∷ []))) ss) ≡ []
            → others f head (cond b (s ∷ filter (λ t. is_some (gift_at L K ((P ++ f) ++ t ∷ []))) ss) (filter (λ t. is_some (gift_at L K ((P ++ f) ++ t ∷ []))) ss)) ≡ []
        by_gift true e go =
            ap (λ (b : Bool). cond b (s ∷ others f head (filter (λ t. is_some (gift_at L K ((P ++ f) ++ t ∷ []))) ss)) (others f head (filter (λ t. is_some (gift_at L K ((P ++ f) ++ t ∷ []))) ss)))
            (ap (λ (b : Bool). same_word head s.head && not b) (own_child f s e) ∙ and_false (same_word head s.head))
            ∙ go
        by_gift false e go = go

    -- each name of a level is a live child's
    names_live : (f : List Step) (head : List ℕ) (all : List (List ℕ)) → ((name : List ℕ) → lists all name ≡ is_some (L ((P ++ f) ++ step_of head name ∷ []))) → (names : List (List ℕ))
        → ((name : List ℕ) → lists names name ≡ true → lists all name ≡ true) → AllByRecursion (λ name. is_live L ((P ++ f) ++ step_of head name ∷ []) ≡ true) names
    names_live f head all each [] go = tt
    names_live f head all each (n ∷ names) go = (
      live_child f (step_of head n) (sym (each n) ∙ go n (ap (λ (b : Bool). b || lists names n) (same_is n n refl))),
      names_live f head all each names (λ name k. go name (either (same_word name n) k)),
    )
      where
        either : {c : Bool} (b : Bool) → c ≡ true → (b || c) ≡ true
        either true k = refl
        either false k = k

    order_here : (f : List Step) (v : Value) → L (P ++ f) ≡ Some v → order_of L K (P ++ f) (ordered_head (place_of (P ++ f))) ≡ v.order
    order_here f v e = by_head (ordered_head (place_of (P ++ f))) (h.tree.statements.orders (P ++ f) v e)
      where
        by_head : (head : Option (List ℕ)) → IsOrderBy (map_of row) (P ++ f) head v.order → order_of L K (P ++ f) head ≡ v.order
        by_head None o = sym o
        by_head (Some head) o =
            ap (λ (w : Option Value). filter (λ name. is_live L ((P ++ f) ++ step_of head name ∷ [])) (order_in w) ++ map (λ s. s.name) (others f head (present L K (P ++ f)))) e
            ∙ ap (λ (ss : List Step). filter (λ name. is_live L ((P ++ f) ++ step_of head name ∷ [])) v.order ++ map (λ s. s.name) ss) (no_others f head (steps_at L K (P ++ f)))
            ∙ append_nothing _
            ∙ all_pass (λ name. is_live L ((P ++ f) ++ step_of head name ∷ [])) v.order (names_live f head v.order o.each v.order (λ name k. k))

    given_here : (f : List Step) → given_at L K (P ++ f) ≡ option_map own_given (L (P ++ f))
    unfolding given_at
    given_here f = by_value (L (P ++ f)) refl
      where
        by_value : (o : Option Value) → L (P ++ f) ≡ o → option_map (with_order (order_of L K (P ++ f) (ordered_head (place_of (P ++ f))))) (gift_at L K (P ++ f)) ≡ option_map own_given o
        by_value None e = ap (option_map (with_order (order_of L K (P ++ f) (ordered_head (place_of (P ++ f)))))) (gift_here f None e)
        by_value (Some v) e =
            ap (option_map (with_order (order_of L K (P ++ f) (ordered_head (place_of (P ++ f)))))) (gift_here f (Some v) e)
            ∙ ap (λ (names : List (List ℕ)). Some (with_order names (own_gift v))) (order_here f v e)

    -- what is given below is what stands there
    abbrev standing : List (List Step × Given)
    standing = map own_entry (inside_of P row)

    standing_at : (t : Step) (r : List Step) → find path_cmp (P ++ t ∷ r) standing ≡ option_map own_given (L (P ++ t ∷ r))
    standing_at t r =
        find_entries (P ++ t ∷ r) (inside_of P row)
        ∙ ap (option_map own_given) (find_kept (is_inside P) (P ++ t ∷ r) (inside_more P t r) row ∙ sym (found_in (P ++ t ∷ r)))

    below_at : (n : ℕ) → MAX_STEPS ≤ n + length P → (t : Step) (r : List Step) → find path_cmp (P ++ t ∷ r) (given_below row n P) ≡ option_map own_given (L (P ++ t ∷ r))
    below_at n deep t r = by_length (nat_lt (length r) n) refl
      where
        by_length : (b : Bool) → nat_lt (length r) n ≡ b → find path_cmp (P ++ t ∷ r) (given_below row n P) ≡ option_map own_given (L (P ++ t ∷ r))
        by_length true e = tree_listed (map_of row) h.tree n P t r (grind arith) ∙ given_here (t ∷ r)
        by_length false e =
            let l : n ≤ length r = grind arith
            in find_short (given_at L K) (steps_at L K) (length P + n) (P ++ t ∷ r) (given_below row n P) (omega (arith, l, length-append P (t ∷ r)))
            (listed_short (given_at L K) (steps_at L K) n P (length P + n) (omega arith))
            ∙ ap (option_map own_given) (sym (nothing (L (P ++ t ∷ r)) refl l))
          where
            nothing : (o : Option Value) → L (P ++ t ∷ r) ≡ o → n ≤ length r → o ≡ None
            nothing None k l = refl
            nothing (Some v) k l = let m = few_steps (map_of row) h.tree (P ++ t ∷ r) (ap is_some k) in absurd (omega (arith, m, l, deep, length-append P (t ∷ r)))

    below_is : (n : ℕ) → MAX_STEPS ≤ n + length P → given_below row n P ≡ standing
    below_is n deep =
        let sides = tree_both (map_of row) h.tree n P
        in lists_same (given_below row n P) standing sides.1
        (subst (λ (ks : List (List Step)). IsStrictlySortedBy path_cmp ks) (sym (keys_alike (inside_of P row))) (sorted_pairs (inside_of P row) (ordered_kept (λ x. is_inside P x.path) row h.ordered)))
        (λ q. by_inside q (is_inside P q) refl)
      where
        by_inside : (q : List Step) (b : Bool) → is_inside P q ≡ b → find path_cmp q (given_below row n P) ≡ find path_cmp q standing
        by_inside q true e =
            let s = inside_split P q e
            in ap (λ (k : List Step). find path_cmp k (given_below row n P)) s.2 ∙ below_at n deep s.0 s.1 ∙ sym (standing_at s.0 s.1)
            ∙ ap (λ (k : List Step). find path_cmp k standing) (sym s.2)
        by_inside q false e =
            find_outside P (given_below row n P) q e (all_inside P (given_below row n P) (tree_both (map_of row) h.tree n P).0)
            ∙ sym (find_outside P standing q e (inside_entries P row))

  -- what the run of such a node brings
  module _ (p : List Step) (s : Step) where
    pub record IsAlone (node : Node) : Type 0 where
      live : is_live L (p ++ s ∷ []) ≡ true
      none : raw L K (p ++ s ∷ []) ≡ []
      is : node ≡ node_at L row (p ++ s ∷ [])
      unaltered : is_unaltered_node (node_at L row (p ++ s ∷ [])) ≡ true

    alone : (node : Node) → Some node ≡ unaltered_of (run_at L K row p s) → IsAlone node
    alone node e = by_run (is_live L (p ++ s ∷ [])) (raw L K (p ++ s ∷ [])) refl refl e
      where
        by_test : (b : Bool) → is_unaltered_node (node_at L row (p ++ s ∷ [])) ≡ b → is_live L (p ++ s ∷ []) ≡ true → raw L K (p ++ s ∷ []) ≡ []
            → Some node ≡ cond b (Some (node_at L row (p ++ s ∷ []))) None → IsAlone node
        by_test true k l m f = let same : node ≡ node_at L row (p ++ s ∷ []) = cc in record { live = l; none = m; is = same; unaltered = k }
        by_test false k l m f = cc

        by_run : (b : Bool) (xs : List given.Source) → is_live L (p ++ s ∷ []) ≡ b → raw L K (p ++ s ∷ []) ≡ xs
            → Some node ≡ unaltered_of (cond b (own_offer (node_at L row (p ++ s ∷ [])) ∷ []) [] ++ map (offer_at L row s) xs) → IsAlone node
        by_run true [] l m f = by_test (is_unaltered_node (node_at L row (p ++ s ∷ []))) refl l m f
        by_run true (x ∷ xs) l m f = cc
        by_run false [] l m f = cc
        by_run false (x ∷ []) l m f = cc
        by_run false (x ∷ y ∷ xs) l m f = cc

    pub unaltered_entries : (run : List Offer) (node : Node) (n : ℕ) → run ≡ run_at L K row p s → Some node ≡ unaltered_of run → MAX_STEPS ≤ n + length p + 1
        → own_entries node ≡ given_for row n p s
    unaltered_entries run node n is e deep = by_value (L (p ++ s ∷ [])) refl
      where
        a : IsAlone node
        a = alone node (e ∙ ap unaltered_of is)

        parts : (is_outside (p ++ s ∷ []) ≡ true) × ((not (is_apply (p ++ s ∷ [])) && list_all is_unaltered (inside_of (p ++ s ∷ []) row)) ≡ true)
        parts = both _ _ a.unaltered

        not_dead : is_active (L (p ++ s ∷ [])) ≡ true
        not_dead = (both (is_live L p) (is_active (L (p ++ s ∷ []))) (sym (live_more L p s) ∙ a.live)).1

        stands : (f : List Step) (v : Value) → L ((p ++ s ∷ []) ++ f) ≡ Some v → Stands ((p ++ s ∷ []) ++ f) v
        stands [] v k =
            let there : L (p ++ s ∷ []) ≡ Some v = ap L (sym (append_nothing (p ++ s ∷ []))) ∙ k
            in (negated _ (sym (ap is_active there) ∙ not_dead), ap is_apply (append_nothing (p ++ s ∷ [])) ∙ negated _ (both _ _ parts.1).0)
        stands (t ∷ r) v k =
            found_all Stands (inside_of (p ++ s ∷ []) row) (each_stands (inside_of (p ++ s ∷ []) row) (both _ _ parts.1).1) ((p ++ s ∷ []) ++ t ∷ r) v
            (find_kept (is_inside (p ++ s ∷ [])) ((p ++ s ∷ []) ++ t ∷ r) (inside_more (p ++ s ∷ []) t r) row ∙ sym (found_in ((p ++ s ∷ []) ++ t ∷ r)) ∙ k)

        long_enough : MAX_STEPS ≤ n + length (p ++ s ∷ [])
        long_enough = omega (arith, deep, length-append p (s ∷ []))

        by_value : (o : Option Value) → L (p ++ s ∷ []) ≡ o → own_entries node ≡ given_for row n p s
        by_value None k = absurd (clash (sym not_dead ∙ ap is_active k))
        by_value (Some v) k =
            let there : given_at L K (p ++ s ∷ []) ≡ Some (own_given v)
            = ap (given_at L K) (sym (append_nothing (p ++ s ∷ []))) ∙ given_here (p ++ s ∷ []) (longer p s) a.live a.none parts.0 stands []
            ∙ ap (λ (q : List Step). option_map own_given (L q)) (append_nothing (p ++ s ∷ [])) ∙ ap (option_map own_given) k
            in ap own_entries a.is
            ∙ ap (λ (w : Value). (p ++ s ∷ [], own_given w) ∷ map own_entry (inside_of (p ++ s ∷ []) row)) (ap value_in k)
            ∙ ap (λ (es : List (List Step × Given)). (p ++ s ∷ [], own_given v) ∷ es) (sym (below_is (p ++ s ∷ []) (longer p s) a.live a.none parts.0 stands n long_enough))
            ∙ ap (λ (o : Option Given). entry_and (p ++ s ∷ []) o (given_below row n (p ++ s ∷ []))) (sym there)

-- a node and what stands below it are put after others
pub node_more : (node : Node) (made more new : List (List Step × Given)) (path : List Step) (value : Value) (below : List StatementView)
    → path ≡ node.path → value ≡ node.value → below ≡ node.below → more ≡ made ++ (path, own_given value) ∷ [] → new ≡ more ++ map own_entry below → new ≡ made ++ own_entries node
node_more node made more new path value below a b c e f =
    f ∙ ap (λ (xs : List (List Step × Given)). xs ++ map own_entry below) e ∙ append_assoc made ((path, own_given value) ∷ []) (map own_entry below)
    ∙ ap (λ (q : List Step). made ++ (q, own_given value) ∷ map own_entry below) a
    ∙ ap (λ (v : Value). made ++ (node.path, own_given v) ∷ map own_entry below) b
    ∙ ap (λ (xs : List StatementView). made ++ (node.path, own_given node.value) ∷ map own_entry xs) c
