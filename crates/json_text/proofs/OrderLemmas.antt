-- The names of a row's statements are in order.
use Rattle.std.proofs.Common.{◌≡◌, inl, inr, Bool, true, false, cond, T, ◌&&◌, ℕ, List, [], ◌∷◌, ◌++◌, filter, map as each, refl, sym, ap, ◌∙◌}
use Rattle.std.specs.FinMap as finite
use Rattle.std.specs.FinMap.Entries.{is_sorted, below_all}
use Rattle.std.specs.List.{AllByRecursion, IsDistinct}
use Rattle.std.specs.List.Sorted.{IsStrictlySortedBy}
use Rattle.std.specs.Ordering.{is_lt, ordering_then}
use Rattle.std.specs.Cmp.{tied_itself}
use Rattle.std.specs.declared.cmp.Ordering.{Ordering}
use Rattle.std.specs.declared.cmp.Ordering.TheVariants.{Less, Equal, Greater}
use Rattle.cfg_base.specs.Order.{path_cmp, step_cmp, word_cmp, steps_total, words_total}
use Rattle.cfg_base.specs.Words.{same_word}
use Rattle.cfg_base.specs.declared.path.Step.{Step}
use Rattle.cfg_base.specs.declared.value.Value.{Value}
use Rattle.cfg_entries.specs.EntryMap.{Pair}
use Rattle.cfg_schema.specs.Profile.{is_step_of}
use Rattle.cfg_schema.proofs.TestLemmas.{same}
use Rattle.cfg_tree.specs.Statements.{Statements, last_of}
use Rattle.cfg_tree.specs.Children.{is_child, steps_below}
use Rattle.printing_order.proofs.EntriesLemmas.{child_is}
use Rattle.printing_order.proofs.ListedLemmas.{Lists, Differ}
use Rattle.json_text.proofs.RowLemmas.{own_head}

both_hold : (a b : Bool) → T (a && b) → T a × T b
both_hold true b h = (tt, h)
both_hold false b h = absurd h

is_less : (o : Ordering) → T (is_lt o) → o ≡ Less
is_less Less h = refl
is_less Equal h = absurd h
is_less Greater h = absurd h

sorted_keys : (es : List (Pair Value)) → T (is_sorted path_cmp es) → IsStrictlySortedBy path_cmp (each (λ (e : Pair Value). e.0) es)
unfolding IsStrictlySortedBy
sorted_keys [] h = tt
sorted_keys (e ∷ es) h = let k = both_hold (below_all path_cmp e.0 es) _ h in (after es k.0, sorted_keys es k.1)
  where
    after : (fs : List (Pair Value)) → T (below_all path_cmp e.0 fs) → AllByRecursion (λ k. path_cmp e.0 k ≡ Less) (each (λ (e : Pair Value). e.0) fs)
    after [] k = tt
    after (f ∷ fs) k = let m = both_hold (is_lt (path_cmp e.0 f.0)) _ k in (is_less _ m.0, after fs m.1)

first_less : (o : Ordering) → ordering_then o Equal ≡ Less → o ≡ Less
first_less Less e = refl
first_less Equal e = e
first_less Greater e = e

same_front : (p a b : List Step) → path_cmp (p ++ a) (p ++ b) ≡ path_cmp a b
same_front [] a b = refl
same_front (x ∷ p) a b = ap (λ (o : Ordering). ordering_then o (path_cmp (p ++ a) (p ++ b))) (tied_itself steps_total x) ∙ same_front p a b

child_less : (q k l : List Step) → is_child q k ≡ true → is_child q l ≡ true → path_cmp k l ≡ Less → step_cmp (last_of k) (last_of l) ≡ Less
child_less q k l a b less =
    first_less (step_cmp (last_of k) (last_of l))
    (sym (same_front q (last_of k ∷ []) (last_of l ∷ []))
    ∙ ap (λ (p : List Step). path_cmp p (q ++ last_of l ∷ [])) (sym (child_is q k a))
    ∙ ap (path_cmp k) (sym (child_is q l b)) ∙ less)

sorted_kids : (q : List Step) (ks : List (List Step)) → IsStrictlySortedBy path_cmp ks → IsStrictlySortedBy step_cmp (each last_of (filter (is_child q) ks))
unfolding IsStrictlySortedBy
sorted_kids q [] h = tt
sorted_kids q (k ∷ ks) h = by_test (is_child q k) refl (sorted_kids q ks h.1)
  where
    later : is_child q k ≡ true → (ls : List (List Step)) → AllByRecursion (λ l. path_cmp k l ≡ Less) ls → AllByRecursion (λ s. step_cmp (last_of k) s ≡ Less) (each last_of (filter (is_child q) ls))
    later e [] a = tt
    later e (l ∷ ls) a = by_l (is_child q l) refl (later e ls a.1)
      where
        by_l : (b : Bool) → is_child q l ≡ b → AllByRecursion (λ s. step_cmp (last_of k) s ≡ Less) (each last_of (filter (is_child q) ls))
            → AllByRecursion (λ s. step_cmp (last_of k) s ≡ Less) (each last_of (cond b (l ∷ filter (is_child q) ls) (filter (is_child q) ls)))
        by_l true f m = (child_less q k l e f a.0, m)
        by_l false f m = m

    by_test : (b : Bool) → is_child q k ≡ b → IsStrictlySortedBy step_cmp (each last_of (filter (is_child q) ks)) → IsStrictlySortedBy step_cmp (each last_of (cond b (k ∷ filter (is_child q) ks) (filter (is_child q) ks)))
    by_test true e go = (later e ks h.0, go)
    by_test false e go = go

steps_sorted : (m : Statements) (q : List Step) → IsStrictlySortedBy step_cmp (steps_below m q)
steps_sorted m q = sorted_kids q (finite.keys m) (sorted_keys (finite.entries m) (finite.entries_sorted m))

-- of steps with one head the names are in order where the steps are
name_less : (s t : Step) → s.head ≡ t.head → step_cmp s t ≡ Less → word_cmp s.name t.name ≡ Less
name_less s t heads less =
    ap (λ (o : Ordering). ordering_then o (word_cmp s.name t.name)) (sym (tied_itself words_total s.head) ∙ ap (word_cmp s.head) heads) ∙ less

headed : (id : ℕ) (steps : List Step) → IsStrictlySortedBy step_cmp steps
    → IsStrictlySortedBy word_cmp (each (λ (s : Step). s.name) (filter (is_step_of id) steps))
unfolding IsStrictlySortedBy
headed id [] h = tt
headed id (s ∷ steps) h = by_test (is_step_of id s) refl (headed id steps h.1)
  where
    later : is_step_of id s ≡ true → (ts : List Step) → AllByRecursion (λ t. step_cmp s t ≡ Less) ts
        → AllByRecursion (λ n. word_cmp s.name n ≡ Less) (each (λ (t : Step). t.name) (filter (is_step_of id) ts))
    later e [] a = tt
    later e (t ∷ ts) a = by_t (is_step_of id t) refl (later e ts a.1)
      where
        by_t : (b : Bool) → is_step_of id t ≡ b → AllByRecursion (λ n. word_cmp s.name n ≡ Less) (each (λ (u : Step). u.name) (filter (is_step_of id) ts))
            → AllByRecursion (λ n. word_cmp s.name n ≡ Less) (each (λ (u : Step). u.name) (cond b (t ∷ filter (is_step_of id) ts) (filter (is_step_of id) ts)))
        by_t true f go = (name_less s t (own_head id s e ∙ sym (own_head id t f)) a.0, go)
        by_t false f go = go

    by_test : (b : Bool) → is_step_of id s ≡ b → IsStrictlySortedBy word_cmp (each (λ (t : Step). t.name) (filter (is_step_of id) steps))
        → IsStrictlySortedBy word_cmp (each (λ (t : Step). t.name) (cond b (s ∷ filter (is_step_of id) steps) (filter (is_step_of id) steps)))
    by_test true e go = (later e steps h.0, go)
    by_test false e go = go

-- the names of a row's steps below a path are in the order of their bytes
pub names_sorted : (m : Statements) (q : List Step) (id : ℕ)
    → IsStrictlySortedBy word_cmp (each (λ (s : Step). s.name) (filter (is_step_of id) (steps_below m q)))
names_sorted m q id = headed id (steps_below m q) (steps_sorted m q)

-- of different steps with one head the names are different
pub names_distinct : (head : List ℕ) (steps : List Step) → AllByRecursion (λ s. s.head ≡ head) steps → Differ steps → IsDistinct same_word (each (λ (s : Step). s.name) steps)
unfolding IsDistinct
names_distinct head [] h d = tt
names_distinct head (s ∷ steps) h d = (apart steps h.1 d.0, names_distinct head steps h.1 d.1)
  where
    apart : (ts : List Step) → AllByRecursion (λ t. t.head ≡ head) ts → (Lists ts s → ⊥) → AllByRecursion (λ n. same_word s.name n ≡ false) (each (λ (t : Step). t.name) ts)
    apart [] a f = tt
    apart (t ∷ ts) a f = (by_test (same_word s.name t.name) refl, apart ts a.1 (λ l. f (inr l)))
      where
        equal : s.name ≡ t.name → s ≡ t
        equal e = λ i. record { head = (h.0 ∙ sym a.0) i; name = e i }

        by_test : (b : Bool) → same_word s.name t.name ≡ b → b ≡ false
        by_test true e = absurd (f (inl (equal (same _ _ e))))
        by_test false e = refl

pub differ-left : (xs ys : List Step) → Differ (xs ++ ys) → Differ xs
differ-left [] ys d = tt
differ-left (x ∷ xs) ys d = (λ l. d.0 (in_left xs l), differ-left xs ys d.1)
  where
    in_left : (zs : List Step) → Lists zs x → Lists (zs ++ ys) x
    in_left [] l = absurd l
    in_left (z ∷ zs) (inl e) = inl e
    in_left (z ∷ zs) (inr l) = inr (in_left zs l)

pub differ-right : (xs ys : List Step) → Differ (xs ++ ys) → Differ ys
differ-right [] ys d = d
differ-right (x ∷ xs) ys d = differ-right xs ys d.1

pub lists-in_left : (xs ys : List Step) (s : Step) → Lists xs s → Lists (xs ++ ys) s
lists-in_left [] ys s l = absurd l
lists-in_left (x ∷ xs) ys s (inl e) = inl e
lists-in_left (x ∷ xs) ys s (inr l) = inr (lists-in_left xs ys s l)

pub lists-in_right : (xs ys : List Step) (s : Step) → Lists ys s → Lists (xs ++ ys) s
lists-in_right [] ys s l = l
lists-in_right (x ∷ xs) ys s l = inr (lists-in_right xs ys s l)
