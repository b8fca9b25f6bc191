-- Numbers of calls that rise along a list of elements.
use Rattle.std.proofs.Common.{◌≡◌, ◌⊎◌, inl, inr, ⊎_elim, ℕ, List, [], ◌∷◌, ◌++◌, length, refl, sym, ap, ◌∙◌, subst, arith}
use Rattle.cfg_base.specs.declared.calls.Calls.{Calls}
use Rattle.commit_journal.specs.Spans.{AreAtMost, AreRising, last_calls, next_calls}

pub at_most_trans : (x y z : Calls) → AreAtMost x y → AreAtMost y z → AreAtMost x z
at_most_trans x y z p q = record { a = omega (arith, p.a, q.a); b = omega (arith, p.b, q.b) }

pub at_most_same : (x : Calls) → AreAtMost x x
at_most_same x = record { a = omega arith; b = omega arith }

no_append : {A : Type 0} → (x : A) (xs ys : List A) → xs ++ ys ≡ [] → (xs ≡ []) × (ys ≡ [])
no_append x [] ys is = (refl, is)
no_append x (y ∷ xs) ys is = absurd (let e = ap length is in omega (arith, e))

-- a cut of a list with one more at its end: after that one, or before it
pub snoc_split : {A : Type 0} → (es : List A) (e : A) (before after : List A) → es ++ e ∷ [] ≡ before ++ after
    → ((before ≡ es ++ e ∷ []) × (after ≡ [])) ⊎ ((rest : List A) × (after ≡ rest ++ e ∷ []) × (es ≡ before ++ rest))
snoc_split es e [] after is = inr (es, sym is, refl)
snoc_split [] e (x ∷ before) after is =
    let rest : before ++ after ≡ [] = cc in
    let none = no_append e before after rest in
    let same : e ≡ x = cc in
    inl (ap (λ l. x ∷ l) (none.0) ∙ ap (λ y. y ∷ []) (sym same), none.1)
snoc_split (y ∷ es) e (x ∷ before) after is =
    let tails : es ++ e ∷ [] ≡ before ++ after = cc in
    let same : y ≡ x = cc in
    ⊎_elim (λ l. inl (ap (λ b. x ∷ b) l.0 ∙ ap (λ z. z ∷ (es ++ e ∷ [])) (sym same), l.1))
    (λ r. inr (r.0, r.1, ap (λ z. z ∷ es) same ∙ ap (λ l. x ∷ l) r.2)) (snoc_split es e before after tails)

module _ {E : Type 0} (calls : E → Calls) where
  pub last_push : (from : Calls) (es : List E) (e : E) → last_calls calls from (es ++ e ∷ []) ≡ calls e
  last_push from [] e = refl
  last_push from (x ∷ es) e = last_push (calls x) es e

  pub rising_all : (from : Calls) (es : List E) (made : Calls) → AreRising calls from es made → AreAtMost from made
  rising_all from [] made r = r
  rising_all from (x ∷ es) made r = at_most_trans from (calls x) made r.0 (rising_all (calls x) es made r.1)

  -- later last numbers
  pub rising_more : (from : Calls) (es : List E) (made made' : Calls) → AreAtMost made made' → AreRising calls from es made → AreRising calls from es made'
  rising_more from [] made made' le r = at_most_trans from made made' r le
  rising_more from (x ∷ es) made made' le r = (r.0, rising_more (calls x) es made made' le r.1)

  -- one more element, with the last numbers
  pub rising_push : (from : Calls) (es : List E) (e : E) (made : Calls) → AreRising calls from es made → calls e ≡ made → AreRising calls from (es ++ e ∷ []) made
  rising_push from [] e made r is = (subst (λ m. AreAtMost from m) (sym is) r, subst (λ m. AreAtMost m made) (sym is) (at_most_same made))
  rising_push from (x ∷ es) e made r is = (r.0, rising_push (calls x) es e made r.1 is)

  -- the numbers of a span
  pub rising_span : (from : Calls) (before after : List E) (made : Calls) → AreRising calls from (before ++ after) made
      → AreAtMost (last_calls calls from before) (next_calls calls made after) × AreAtMost (next_calls calls made after) made
  rising_span from [] [] made r = (r, at_most_same made)
  rising_span from [] (x ∷ after) made r = (r.0, rising_all (calls x) after made r.1)
  rising_span from (x ∷ before) after made r = rising_span (calls x) before after made r.1
