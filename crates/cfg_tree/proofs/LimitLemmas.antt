-- How many different paths there are, path by path, and which of them is past the limit.
use Rattle.std.proofs.Common.{◌≡◌, ◌⊎◌, inl, inr, ℕ, zero, suc, ◌+◌, ◌<◌, ◌≤◌, Bool, true, false, cond, ◌||◌, List, [], ◌∷◌, ◌++◌, take, drop, length, get_or, refl, sym, ap, subst, ◌∙◌, is_eq, arith, append_assoc, append-nil, if◌then◌else◌}
use Rattle.std.specs.List.{list_any}
use Rattle.std.specs.Ordering.{eq_by_cmp, ordering_reverse}
use Rattle.std.specs.declared.cmp.Ordering.{Ordering}
use Rattle.std.specs.declared.cmp.Ordering.TheVariants.{Less, Equal, Greater}
use Rattle.std.proofs.lemmas.List.{take_more, take_all, take-append-drop}
use Rattle.std.proofs.Math.Dec.{leb}
use Rattle.std.proofs.lemmas.Bool.Decides.{leb_tells}
use Rattle.std.proofs.lemmas.List.Folds.{list_any-append}
use Rattle.cfg_base.specs.Order.{path_cmp, paths_total}
use Rattle.cfg_base.specs.declared.path.Step.{Step}
use Rattle.cfg_tree.specs.declared.limit.TheConstants.{MAX_STATEMENTS}
use Rattle.cfg_tree.specs.Limit.{different, IsPathPast}
use Rattle.cfg_tree.proofs.MapLemmas.{path_same, is_equal}

turned : (o : Ordering) → is_eq (ordering_reverse o) ≡ is_eq o
turned Less = refl
turned Equal = refl
turned Greater = refl

pub same_either : (p q : List Step) → eq_by_cmp path_cmp p q ≡ eq_by_cmp path_cmp q p
same_either p q = ap is_eq (paths_total.antisymm p q) ∙ turned (path_cmp q p)

-- whether a path is one of these
abbrev pub is_met : List (List Step) → List Step → Bool
is_met paths path = list_any (eq_by_cmp path_cmp path) paths

pub met-append : (paths more : List (List Step)) (q : List Step) → is_met (paths ++ more) q ≡ (is_met paths q || is_met more q)
met-append paths more q = list_any-append (eq_by_cmp path_cmp q) paths more

or_false : (b : Bool) → (b || false) ≡ b
or_false true = refl
or_false false = refl

or_true : (b : Bool) → (b || true) ≡ true
or_true true = refl
or_true false = refl

pub met-push : (paths : List (List Step)) (p q : List Step) → is_met (paths ++ p ∷ []) q ≡ (is_met paths q || eq_by_cmp path_cmp q p)
met-push paths p q = met-append paths (p ∷ []) q ∙ ap (λ (b : Bool). is_met paths q || b) (or_false (eq_by_cmp path_cmp q p))

plus_one : (b c : Bool) (n : ℕ) → (if b then 0 else 1) + cond c n (n + 1) ≡ cond c ((if b then 0 else 1) + n) ((if b then 0 else 1) + n + 1)
plus_one true true n = refl
plus_one true false n = omega arith
plus_one false true n = refl
plus_one false false n = omega arith

-- one path more: it is another one, or it was met before
pub different-push : (paths : List (List Step)) (p : List Step) → different (paths ++ p ∷ []) ≡ cond (is_met paths p) (different paths) (different paths + 1)
different-push [] p = refl
different-push (q ∷ paths) p =
    ap (λ (b : Bool). (if b then 0 else 1) + different (paths ++ p ∷ [])) (met-push paths p q)
    ∙ ap (λ (n : ℕ). (if is_met paths q || eq_by_cmp path_cmp q p then 0 else 1) + n) (different-push paths p)
    ∙ by_tie (eq_by_cmp path_cmp q p) refl
    ∙ ap (λ (b : Bool). cond (b || is_met paths p) (different (q ∷ paths)) (different (q ∷ paths) + 1)) (same_either q p)
  where
    tied : (b : Bool) (n : ℕ) → 0 + cond b n (n + 1) ≡ (if b then 0 else 1) + n
    tied true n = refl
    tied false n = omega arith

    by_tie : (b : Bool) → eq_by_cmp path_cmp q p ≡ b
        → (if is_met paths q || b then 0 else 1) + cond (is_met paths p) (different paths) (different paths + 1)
        ≡ cond (b || is_met paths p) (different (q ∷ paths)) (different (q ∷ paths) + 1)
    by_tie true e =
        let same_met : is_met paths p ≡ is_met paths q = ap (λ (x : List Step). is_met paths x) (sym (path_same q p (is_equal _ e)))
        in ap (λ (b : Bool). (if b then 0 else 1) + cond (is_met paths p) (different paths) (different paths + 1)) (or_true (is_met paths q))
        ∙ tied (is_met paths p) (different paths)
        ∙ ap (λ (b : Bool). (if b then 0 else 1) + different paths) same_met
    by_tie false e =
        ap (λ (b : Bool). (if b then 0 else 1) + cond (is_met paths p) (different paths) (different paths + 1)) (or_false (is_met paths q))
        ∙ plus_one (is_met paths q) (is_met paths p) (different paths)

-- the same of the first paths
pub different-more : (paths : List (List Step)) (n : ℕ) (d : List Step) → n < length paths
    → different (take (n + 1) paths) ≡ cond (is_met (take n paths) (get_or paths n d)) (different (take n paths)) (different (take n paths) + 1)
different-more paths n d l = ap (λ (ps : List (List Step)). different ps) (take_more paths n d l) ∙ different-push (take n paths) (get_or paths n d)

le_cond : (b : Bool) (n : ℕ) → n ≤ cond b n (n + 1)
le_cond true n = omega arith
le_cond false n = omega arith

cond_le : (b : Bool) (n : ℕ) → cond b n (n + 1) ≤ n + 1
cond_le true n = omega arith
cond_le false n = omega arith

through : {a b c : ℕ} → a ≤ b → b ≤ c → a ≤ c
through h k = omega (arith, h, k)

-- no more than there are paths
pub different-length : (paths : List (List Step)) → different paths ≤ length paths
different-length [] = omega arith
different-length (p ∷ paths) = by_met (is_met paths p) (different-length paths)
  where
    by_met : (b : Bool) → different paths ≤ length paths → (if b then 0 else 1) + different paths ≤ length (p ∷ paths)
    by_met true h = omega (arith, h)
    by_met false h = omega (arith, h)

-- more paths, and no fewer different ones
pub different-append : (paths more : List (List Step)) → different paths ≤ different (paths ++ more)
different-append paths [] = subst (λ (ps : List (List Step)). different paths ≤ different ps) (sym (append-nil paths)) (omega arith)
different-append paths (p ∷ more) =
    through (subst (λ (k : ℕ). different paths ≤ k) (sym (different-push paths p)) (le_cond (is_met paths p) (different paths)))
    (subst (λ (ps : List (List Step)). different (paths ++ p ∷ []) ≤ different ps) (append_assoc paths (p ∷ []) more) (different-append (paths ++ p ∷ []) more))

pub different-take : (paths : List (List Step)) (n : ℕ) → different (take n paths) ≤ different paths
different-take paths n =
    subst (λ (ps : List (List Step)). different (take n paths) ≤ different ps) (take-append-drop n paths) (different-append (take n paths) (drop n paths))

take_within : (paths : List (List Step)) (m n : ℕ) → m ≤ n → take m (take n paths) ≡ take m paths
take_within paths zero n h = refl
take_within paths (suc m) zero h = absurd (omega (arith, h))
take_within [] (suc m) (suc n) h = refl
take_within (p ∷ paths) (suc m) (suc n) h = ap (λ (ps : List (List Step)). p ∷ ps) (take_within paths m n (omega (arith, h)))

pub different-takes : (paths : List (List Step)) (m n : ℕ) → m ≤ n → different (take m paths) ≤ different (take n paths)
different-takes paths m n h =
    subst (λ (ps : List (List Step)). different ps ≤ different (take n paths)) (take_within paths m n h) (different-take (take n paths) m)

-- one path more is at most one different one more
pub different-push-le : (paths : List (List Step)) (p : List Step) → different (paths ++ p ∷ []) ≤ different paths + 1
different-push-le paths p = subst (λ (k : ℕ). k ≤ different paths + 1) (sym (different-push paths p)) (cond_le (is_met paths p) (different paths))

pub different-step : (paths : List (List Step)) (n : ℕ) → different (take (n + 1) paths) ≤ different (take n paths) + 1
different-step paths n =
    let one : suc n ≡ n + 1 = omega arith
    in subst (λ (k : ℕ). different (take k paths) ≤ different (take n paths) + 1) one
    (more_or_same paths n (λ (ps : List (List Step)). different ps ≤ different (take n paths) + 1) (omega arith) (λ p. different-push-le (take n paths) p))
  where
    more_or_same : (ps : List (List Step)) (k : ℕ) (P : List (List Step) → Type 0) → P (take k ps) → ((p : List Step) → P (take k ps ++ p ∷ [])) → P (take (suc k) ps)
    more_or_same [] zero P same more = same
    more_or_same [] (suc k) P same more = same
    more_or_same (p ∷ ps) zero P same more = more p
    more_or_same (p ∷ ps) (suc k) P same more = more_or_same ps k (λ (xs : List (List Step)). P (p ∷ xs)) same more

-- at most one place is past the limit
pub past_once : (paths : List (List Step)) (one other : ℕ) → IsPathPast paths one → IsPathPast paths other → one ≡ other
past_once paths one other h k = by_order (one_first other one h k) (one_first one other k h)
  where
    one_first : (m n : ℕ) → IsPathPast paths n → IsPathPast paths m → n < m → ⊥
    one_first m n a b l =
        let up = different-takes paths (n + 1) m (omega (arith, l)) in omega (arith, up, a.new, b.full)

    by_order : (one < other → ⊥) → (other < one → ⊥) → one ≡ other
    by_order f g = omega (arith, f, g)

-- and only where the paths are too many
pub past_many : (paths : List (List Step)) (at : ℕ) → IsPathPast paths at → MAX_STATEMENTS < different paths
past_many paths at h = let all = different-take paths (at + 1) in omega (arith, all, h.new)

-- there is one where they are too many
some_past : (paths : List (List Step)) (n : ℕ) → MAX_STATEMENTS < different (take n paths) → n ≤ length paths → (at : ℕ) × IsPathPast paths at
some_past paths zero many l = absurd (omega (arith, many))
some_past paths (suc n) many l = by_test (leb_tells (different (take n paths)) MAX_STATEMENTS) (λ more. some_past paths n more (omega (arith, l)))
  where
    now : MAX_STATEMENTS < different (take (n + 1) paths)
    now = let one : suc n ≡ n + 1 = omega arith in subst (λ (k : ℕ). MAX_STATEMENTS < different (take k paths)) one many

    step : different (take (n + 1) paths) ≤ different (take n paths) + 1
    step = different-step paths n

    by_test : ((leb (different (take n paths)) MAX_STATEMENTS ≡ true) × (different (take n paths) ≤ MAX_STATEMENTS))
        ⊎ ((leb (different (take n paths)) MAX_STATEMENTS ≡ false) × (MAX_STATEMENTS < different (take n paths)))
        → (MAX_STATEMENTS < different (take n paths) → (at : ℕ) × IsPathPast paths at) → (at : ℕ) × IsPathPast paths at
    by_test (inl few) go = (n, record { within = omega (arith, l); full = omega (arith, few.1, now, step); new = omega (arith, few.1, now, step) })
    by_test (inr more) go = go more.1

pub past_some : (paths : List (List Step)) → MAX_STATEMENTS < different paths → (at : ℕ) × IsPathPast paths at
past_some paths many =
    some_past paths (length paths) (subst (λ (ps : List (List Step)). MAX_STATEMENTS < different ps) (sym (take_all (length paths) paths (omega arith))) many) (omega arith)
