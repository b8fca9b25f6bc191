-- Entries in the order of their paths: what stands where, and that those below a path stand together.
use Rattle.std.proofs.Common.{◌≡◌, ◌≢◌, Bool, T, true, false, cond, ◌&&◌, List, [], ◌∷◌, ◌++◌, filter, refl, sym, ap, subst, ◌∙◌, Some, None, Ordering, Less, Equal, Greater, is_lt, is_le, is_eq}
use Rattle.std.specs.List.{AllByRecursion}
use Rattle.std.specs.Ordering.{eq_by_cmp}
use Rattle.std.specs.FinMap.Entries.{find, is_sorted, below_all}
use Rattle.cfg_base.specs.Order.{path_cmp, paths_total}
use Rattle.cfg_base.specs.declared.path.Step.{Step}
use Rattle.cfg_base.specs.declared.value.Value.{Value}
use Rattle.cfg_entries.specs.EntryMap.{Pair}
use Rattle.cfg_entries.proofs.OrderLemmas.{path_same, flipped, itself}
use Rattle.cfg_entries.proofs.BelowLemmas.{below_le, below_between}
use Rattle.cfg_tree.specs.Statements.{is_below}
use Rattle.load_ops.specs.Parts.{front_below}

pub first : (a b : Bool) → T (a && b) → T a
first true b h = tt
first false b h = h

pub second : (a b : Bool) → T (a && b) → T b
second true b h = h
second false b h = absurd h

pub is_less : (o : Ordering) → T (is_lt o) → o ≡ Less
is_less Less h = refl
is_less Equal h = absurd h
is_less Greater h = absurd h

pub is_tied : (o : Ordering) → is_eq o ≡ true → o ≡ Equal
is_tied Less h = cc
is_tied Equal h = refl
is_tied Greater h = cc

-- before all entries there is none at a path
pub find_none : (q : List Step) (es : List (Pair Value)) → T (below_all path_cmp q es) → find path_cmp q es ≡ None
find_none q [] h = refl
find_none q (e ∷ es) h =
    ap (λ (o : Ordering). cond (is_eq o) (Some e.1) (find path_cmp q es)) (is_less _ (first _ _ h)) ∙ find_none q es (second _ _ h)

pub below_more : (p q : List Step) (es : List (Pair Value)) → path_cmp p q ≡ Less → T (below_all path_cmp q es) → T (below_all path_cmp p es)
below_more p q [] e h = tt
below_more p q (d ∷ es) e h = both (sym (ap is_lt (paths_total.trans p q d.0 e (is_less _ (first _ _ h))))) (below_more p q es e (second _ _ h))
  where
    both : true ≡ is_lt (path_cmp p d.0) → T (below_all path_cmp p es) → T (is_lt (path_cmp p d.0) && below_all path_cmp p es)
    both f rest = subst (λ (b : Bool). T (b && below_all path_cmp p es)) f rest

clash : (c : Bool) → c ≡ true → c ≡ false → ⊥
clash c t f = cc

-- of paths in order, none below a path stands after one that is past it
none_later : (p k : List Step) (es : List (Pair Value)) → is_le (path_cmp p k) ≡ true → is_below p k ≡ false → T (below_all path_cmp k es)
    → filter (λ e. is_below p e.0) es ≡ []
none_later p k [] a b h = refl
none_later p k (j ∷ es) a b h = skipped (is_below p j.0) refl (none_later p k es a b (second _ _ h))
  where
    skipped : (c : Bool) → is_below p j.0 ≡ c → filter (λ e. is_below p e.0) es ≡ [] → cond c (j ∷ filter (λ e. is_below p e.0) es) (filter (λ e. is_below p e.0) es) ≡ []
    skipped true e rest = absurd (clash (is_below p k) (below_between p k j.0 a (is_less _ (first _ _ h)) e) b)
    skipped false e rest = rest

-- those below a path stand together from it on
pub front_is : (p : List Step) (es : List (Pair Value)) → T (is_sorted path_cmp es)
    → front_below p (filter (λ e. is_le (path_cmp p e.0)) es) ≡ filter (λ e. is_below p e.0) es
front_is p [] h = refl
front_is p (e ∷ es) h = by_tests (is_le (path_cmp p e.0)) (is_below p e.0) refl refl (front_is p es (second _ _ h))
  where
    by_tests : (t b : Bool) → is_le (path_cmp p e.0) ≡ t → is_below p e.0 ≡ b
        → front_below p (filter (λ x. is_le (path_cmp p x.0)) es) ≡ filter (λ x. is_below p x.0) es
        → front_below p (cond t (e ∷ filter (λ x. is_le (path_cmp p x.0)) es) (filter (λ x. is_le (path_cmp p x.0)) es))
        ≡ cond b (e ∷ filter (λ x. is_below p x.0) es) (filter (λ x. is_below p x.0) es)
    by_tests true true f g go =
        ap (λ (c : Bool). cond c (e ∷ front_below p (filter (λ x. is_le (path_cmp p x.0)) es)) []) g ∙ ap (λ (xs : List (Pair Value)). e ∷ xs) go
    by_tests true false f g go =
        ap (λ (c : Bool). cond c (e ∷ front_below p (filter (λ x. is_le (path_cmp p x.0)) es)) []) g ∙ sym (none_later p e.0 es f g (first _ _ h))
    by_tests false true f g go = let d = below_le p e.0 g in cc
    by_tests false false f g go = go

-- what holds of all entries holds of one that is found
pub found_all : (P : List Step → Type 0) (q : List Step) (v : Value) (es : List (Pair Value)) → find path_cmp q es ≡ Some v
    → AllByRecursion (λ e. P e.0) es → P q
found_all P q v [] e h = cc
found_all P q v (d ∷ es) e h = by_tie (eq_by_cmp path_cmp q d.0) refl e (λ f. found_all P q v es f h.1)
  where
    by_tie : (b : Bool) → eq_by_cmp path_cmp q d.0 ≡ b → cond b (Some d.1) (find path_cmp q es) ≡ Some v → (find path_cmp q es ≡ Some v → P q) → P q
    by_tie true t f go = subst P (sym (path_same q d.0 (is_tied _ t))) h.0
    by_tie false t f go = go f

-- an entry in the middle is after those before it
middle : (k : List Step) (seen : List (Pair Value)) (e : Pair Value) (rest : List (Pair Value))
    → T (below_all path_cmp k (seen ++ e ∷ rest)) → path_cmp k e.0 ≡ Less
middle k [] e rest h = is_less _ (first _ _ h)
middle k (d ∷ seen) e rest h = middle k seen e rest (second _ _ h)

-- it is found
pub middle_found : (seen : List (Pair Value)) (e : Pair Value) (rest : List (Pair Value)) → T (is_sorted path_cmp (seen ++ e ∷ rest))
    → find path_cmp e.0 (seen ++ e ∷ rest) ≡ Some e.1
middle_found [] e rest h = ap (λ (o : Ordering). cond (is_eq o) (Some e.1) (find path_cmp e.0 rest)) (itself e.0)
middle_found (d ∷ seen) e rest h =
    ap (λ (o : Ordering). cond (is_eq o) (Some d.1) (find path_cmp e.0 (seen ++ e ∷ rest)))
    (flipped d.0 e.0 (middle d.0 seen e rest (first _ _ h)))
    ∙ middle_found seen e rest (second _ _ h)

pub all_less : (k : List Step) (es : List (Pair Value)) → T (below_all path_cmp k es) → AllByRecursion (λ e. path_cmp k e.0 ≡ Less) es
all_less k [] h = tt
all_less k (e ∷ es) h = (is_less _ (first _ _ h), all_less k es (second _ _ h))

-- and one that is found, and isn't among those before it, isn't before it
pub not_before : (P : List Step → Type 0) (q : List Step) (v : Value) (seen : List (Pair Value)) (e : Pair Value) (rest : List (Pair Value))
    → T (is_sorted path_cmp (seen ++ e ∷ rest)) → find path_cmp q (seen ++ e ∷ rest) ≡ Some v → AllByRecursion (λ x. P x.0 → ⊥) seen → P q
    → path_cmp e.0 q ≢ Greater
not_before P q v [] e rest h f none p = by_tie (eq_by_cmp path_cmp q e.0) refl f
  where
    by_tie : (b : Bool) → eq_by_cmp path_cmp q e.0 ≡ b → cond b (Some e.1) (find path_cmp q rest) ≡ Some v → path_cmp e.0 q ≢ Greater
    by_tie true t f g = let same = ap (λ (k : List Step). path_cmp e.0 k) (path_same q e.0 (is_tied _ t)) in let own = itself e.0 in cc
    by_tie false t f g = let less = found_all (λ k. path_cmp e.0 k ≡ Less) q v rest f (all_less e.0 rest (first _ _ h)) in cc
not_before P q v (d ∷ seen) e rest h f none p =
    by_tie (eq_by_cmp path_cmp q d.0) refl f (λ g. not_before P q v seen e rest (second _ _ h) g none.1 p)
  where
    by_tie : (b : Bool) → eq_by_cmp path_cmp q d.0 ≡ b → cond b (Some d.1) (find path_cmp q (seen ++ e ∷ rest)) ≡ Some v
        → (find path_cmp q (seen ++ e ∷ rest) ≡ Some v → path_cmp e.0 q ≢ Greater) → path_cmp e.0 q ≢ Greater
    by_tie true t f go = absurd (none.0 (subst P (path_same q d.0 (is_tied _ t)) p))
    by_tie false t f go = go f
