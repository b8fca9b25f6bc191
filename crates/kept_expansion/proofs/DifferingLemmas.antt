-- Two lists of statements that are met side by side: where they agree.
use Rattle.std.proofs.Common.{◌≡◌, Bool, true, false, cond, ◌||◌, List, [], ◌∷◌, ◌++◌, drop, refl, sym, ap, subst, ◌∙◌, Option, Some, None, is_some, Equal}
use Rattle.std.specs.Prelude.{MatchOption}
use Rattle.std.specs.Option.{option_map}
use Rattle.std.specs.FinMap as map
use Rattle.std.specs.FinMap.Entries.{find}
use Rattle.std.specs.Ordering.{eq_by_cmp, is_eq}
use Rattle.std.specs.declared.cmp.Ordering.{Ordering}
use Rattle.std.specs.declared.cmp.Ordering.TheVariants.{Less, Greater}
use Rattle.cfg_base.specs.Order.{path_cmp}
use Rattle.cfg_base.specs.declared.path.Step.{Step}
use Rattle.cfg_base.specs.declared.value.Value.{Value}
use Rattle.cfg_tree.specs.Statements.{Statements, is_below}
use Rattle.cfg_tree.proofs.MapLemmas.{path_same, same_path}
use Rattle.cfg_tree.proofs.BelowLemmas.{below_self}
use Rattle.kept_expansion.specs.Changes.{is_reached, DiffersOnlyAt}
use Rattle.kept_expansion.specs.Differences.{AgreeAt, AgreeWhere, AreApartBy, BeginAlike, left_of}

abbrev pub Items : Type 0
Items = List (List Step × Value)

not_both : {A : Type 0} → true ≡ false → A
not_both e = cc

is_equal : (o : Ordering) → is_eq o ≡ true → o ≡ Equal
is_equal Equal e = refl
is_equal Less e = not_both (sym e)
is_equal Greater e = not_both (sym e)

no_other : (b : Bool) → (b || false) ≡ false → b ≡ false
no_other false e = refl
no_other true e = not_both e

-- a path that is neither another one nor below it isn't found there
skip : (e : List Step × Value) (es : Items) (q : List Step) → is_below e.0 q ≡ false → find path_cmp q (e ∷ es) ≡ find path_cmp q es
skip e es q apart = by (is_eq (path_cmp q e.0)) refl
  where
    by : (b : Bool) → is_eq (path_cmp q e.0) ≡ b → cond b (Some e.1) (find path_cmp q es) ≡ find path_cmp q es
    by false t = refl
    by true t =
        let same : q ≡ e.0 = path_same q e.0 (is_equal _ t)
        in not_both (sym (subst (λ p. is_below e.0 p ≡ true) (sym same) (below_self e.0)) ∙ apart)

-- the first statement of one list is passed
pub old_passed : (es fs : Items) (e : List Step × Value) → AgreeWhere (e ∷ es) fs es fs (e.0 ∷ [])
old_passed es fs e = λ q apart agree. agree ∙ sym (skip e es q (no_other _ apart))

pub new_passed : (es fs : Items) (f : List Step × Value) → AgreeWhere es (f ∷ fs) es fs (f.0 ∷ [])
new_passed es fs f = λ q apart agree. skip f fs q (no_other _ apart) ∙ agree

pub both_passed : (es fs : Items) (e f : List Step × Value) → e.0 ≡ f.0 → AgreeWhere (e ∷ es) (f ∷ fs) es fs (e.0 ∷ [])
both_passed es fs e f same = λ q apart agree.
    skip f fs q (subst (λ p. is_below p q ≡ false) same (no_other _ apart)) ∙ agree ∙ sym (skip e es q (no_other _ apart))

pub alike_passed : (es fs : Items) (e : List Step × Value) (q : List Step) → AgreeAt es fs q → AgreeAt (e ∷ es) (e ∷ fs) q
alike_passed es fs e q agree = ap (cond (is_eq (path_cmp q e.0)) (Some e.1)) agree

-- what is left of a walk that goes on
pub passed : (first : Option (List Step × Value)) (rest rest' : Items) (next : Option (List Step × Value))
    → is_some first ≡ true → rest ≡ left_of next rest' → left_of next rest' ≡ drop 1 (left_of first rest)
passed None rest rest' next some is = not_both (sym some)
passed (Some e) rest rest' next some is = sym is

module _ (es fs : Items) where
  -- the same of lists of which it is known how they begin
  pub old_at : (es' : Items) (e : List Step × Value) → es ≡ e ∷ drop 1 es → es' ≡ drop 1 es → AgreeWhere es fs es' fs (e.0 ∷ [])
  old_at es' e is left = subst (λ (xs : Items). AgreeWhere xs fs es' fs (e.0 ∷ [])) (sym (is ∙ ap (λ (xs : Items). e ∷ xs) (sym left))) (old_passed es' fs e)

  pub new_at : (fs' : Items) (f : List Step × Value) → fs ≡ f ∷ drop 1 fs → fs' ≡ drop 1 fs → AgreeWhere es fs es fs' (f.0 ∷ [])
  new_at fs' f is left = subst (λ (xs : Items). AgreeWhere es xs es fs' (f.0 ∷ [])) (sym (is ∙ ap (λ (xs : Items). f ∷ xs) (sym left))) (new_passed es fs' f)

  pub both_at : (es' fs' : Items) (e f : List Step × Value) → es ≡ e ∷ drop 1 es → fs ≡ f ∷ drop 1 fs → es' ≡ drop 1 es → fs' ≡ drop 1 fs
      → path_cmp e.0 f.0 ≡ Equal → AgreeWhere es fs es' fs' (e.0 ∷ [])
  both_at es' fs' e f is is' left left' tie =
      subst (λ (xs : Items). AgreeWhere xs fs es' fs' (e.0 ∷ [])) (sym (is ∙ ap (λ (xs : Items). e ∷ xs) (sym left)))
      (subst (λ (xs : Items). AgreeWhere (e ∷ es') xs es' fs' (e.0 ∷ [])) (sym (is' ∙ ap (λ (xs : Items). f ∷ xs) (sym left')))
      (both_passed es' fs' e f (path_same e.0 f.0 tie)))

  pub alike_at : (es' fs' : Items) → BeginAlike es fs → es' ≡ drop 1 es → fs' ≡ drop 1 fs → (q : List Step) → AgreeAt es' fs' q → AgreeAt es fs q
  alike_at es' fs' b left left' q agree =
      subst (λ (xs : Items). AgreeAt xs fs q) (sym b.old_is)
      (subst (λ (xs : Items). AgreeAt (b.first ∷ b.rest) xs q) (sym b.new_is)
      (alike_passed b.rest b.other b.first q
      (subst (λ (xs : Items). AgreeAt xs b.other q) (left ∙ ap (λ (xs : Items). drop 1 xs) b.old_is)
      (subst (λ (xs : Items). AgreeAt es' xs q) (left' ∙ ap (λ (xs : Items). drop 1 xs) b.new_is) agree))))

pub alike_is : (e f : List Step × Value) → true ≡ eq_by_cmp path_cmp e.0 f.0 → e.1 ≡ f.1 → f ≡ e
alike_is e f same_at same =
    let here : e.0 ≡ f.0 = (same_path e.0 f.0).0 (sym same_at)
    in λ i. (sym here i, sym same i)

pub next_left : {X : Type 0} (f : X → List Step × Value) (next : Option X) (rest rest' : Items)
    → MatchOption next (rest ≡ []) (λ found. rest ≡ f found ∷ rest') → rest ≡ left_of (option_map f next) rest'
next_left f None rest rest' h = h
next_left f (Some x) rest rest' h = h

pub some_map : {X : Type 0} (f : X → List Step × Value) (o : Option X) → true ≡ is_some o → is_some (option_map f o) ≡ true
some_map f None h = sym h
some_map f (Some x) h = refl

-- what is said of lists that are left is said of those before them, where they agree wherever the ones left do
pub apart_before : (es fs es' fs' es'' fs'' : Items) (o : Option (List Step))
    → ((q : List Step) → AgreeAt es' fs' q → AgreeAt es fs q) → AreApartBy es' fs' es'' fs'' o → AreApartBy es fs es'' fs'' o
apart_before es fs es' fs' es'' fs'' None before h = λ q. before q (h q)
apart_before es fs es' fs' es'' fs'' (Some p) before h = λ q apart agree. before q (h q apart agree)

reached_parts : (paths : List (List Step)) (p q : List Step) → is_reached (paths ++ p ∷ []) q ≡ false
    → (is_reached paths q ≡ false) × (is_reached (p ∷ []) q ≡ false)
reached_parts [] p q h = (refl, h)
reached_parts (x ∷ xs) p q h = by (is_below x q) (is_reached (xs ++ p ∷ []) q) (is_reached xs q) h (reached_parts xs p q)
  where
    by : (b all front : Bool) → (b || all) ≡ false → (all ≡ false → (front ≡ false) × (is_reached (p ∷ []) q ≡ false))
        → ((b || front) ≡ false) × (is_reached (p ∷ []) q ≡ false)
    by true all front e rest = not_both e
    by false all front e rest = rest e

pub more_where : (es fs es' fs' es'' fs'' : Items) (paths : List (List Step)) (p : List Step)
    → AgreeWhere es fs es' fs' paths → AgreeWhere es' fs' es'' fs'' (p ∷ []) → AgreeWhere es fs es'' fs'' (paths ++ p ∷ [])
more_where es fs es' fs' es'' fs'' paths p before h = λ q apart agree.
    let parts = reached_parts paths p q apart
    in before q parts.0 (h q parts.1 agree)

-- lists that agree but at and below some paths are those of configurations that differ there alone
pub differ_there : (m n : Statements) (es fs es' fs' : Items) (paths : List (List Step)) → es ≡ map.entries m → fs ≡ map.entries n
    → AgreeWhere es fs es' fs' paths → ((q : List Step) → AgreeAt es' fs' q) → DiffersOnlyAt m n paths
differ_there m n es fs es' fs' paths is is' where_ all = λ q apart.
    map.get-entries n q
    ∙ ap (λ (xs : Items). find path_cmp q xs) (sym is')
    ∙ where_ q apart (all q)
    ∙ ap (λ (xs : Items). find path_cmp q xs) is
    ∙ sym (map.get-entries m q)

pub none_left : {X : Type 0} (f : X → List Step) (es fs es' fs' : Items) (o : Option X) → ((x : X) → o ≡ Some x → ⊥)
    → AreApartBy es fs es' fs' (option_map f o) → (q : List Step) → AgreeAt es fs q
none_left f es fs es' fs' None not_there h = h
none_left f es fs es' fs' (Some x) not_there h = absurd (not_there x refl)
