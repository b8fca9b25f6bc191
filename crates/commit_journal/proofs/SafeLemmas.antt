-- Spans that stay safe: calls that only settled, calls with one more element after them, and an element without a call.
use Rattle.std.proofs.Common.{◌≡◌, ◌≤◌, ◌⊎◌, inl, inr, ⊎_elim, ℕ, ◌+◌, List, [], ◌∷◌, ◌++◌, length, refl, sym, ◌∙◌, ap, subst, arith, length-append}
use Rattle.std.proofs.lemmas.List.{append-nil}
use Rattle.cfg_base.specs.declared.calls.Calls.{Calls}
use Rattle.disk_model.specs.Disk.{Call, History, state_of, contents_of, IsImage, Since}
use Rattle.disk_model.proofs.Images.{synced_within, contents_image}
use Rattle.commit_journal.specs.Held.{CountsAgree}
use Rattle.commit_journal.specs.Pair.{LeavesPair, WasLeft}
use Rattle.commit_journal.specs.Spans.{AreRising, AreSafe, AreSafeNow, AreSpansSafe, InSpan, IsReckoned, last_calls, next_calls, none_called}
use Rattle.commit_journal.proofs.RisingLemmas.{last_push, rising_span, snoc_split}
use Rattle.commit_journal.proofs.SpanLemmas.{Grows, first_moment, grown_length, image_in_span, span_now, span_split, span_stays}

pub grows_told : (h h' : History) (m m' : ℕ) (more : List Call) → h'.first ≡ h.first → h'.calls ≡ h.calls ++ more → CountsAgree h h' m m' → IsReckoned h' → m ≤ length h.calls → Grows h h' m m' more
grows_told h h' m m' more first calls told few within =
    let size : length h'.calls ≡ length h.calls + length more = ap length calls ∙ length-append h.calls more in
    record { first = first; calls = calls; counted = omega (arith, told few within (omega (arith, size)), size); within = within }

-- a count that isn't at its end wasn't before
pub fewer : (h h' : History) (more : List Call) → h'.calls ≡ h.calls ++ more → IsReckoned h' → IsReckoned h
fewer h h' more calls few = omega (arith, few, ap length calls, length-append h.calls more)

pub still_within : (h h' : History) (m m' : ℕ) (more : List Call) → Grows h h' m m' more → m' ≤ length h'.calls
still_within h h' m m' more g = omega (arith, grown_length h h' m m' more g, g.counted, g.within)

-- a pair of images of this moment is one of images since then
since_here : (h : History) (calls : List Call) → Since (state_of h) calls (contents_of h)
since_here h calls = first_moment (state_of h) calls (contents_of h) (contents_image (state_of h) (synced_within h))

module _ (a b a' b' : History) (l : LeavesPair a b a' b' (WasLeft a b)) where
  left_a : (c : List ℕ) → Since (state_of a) l.a_calls c → IsImage (state_of a) c
  left_a c since = (l.each c (contents_of b) since (since_here b l.b_calls)).0

  left_b : (d : List ℕ) → Since (state_of b) l.b_calls d → IsImage (state_of b) d
  left_b d since = (l.each (contents_of a) d (since_here a l.a_calls) since).1

module _ {E : Type 0} (calls : E → Calls) (Spelt : List E → List E → List ℕ → List ℕ → Type 0) (es : List E) (made made' : Calls) (a b a' b' : History) where
  module _ (more_a more_b : List Call) (rising : AreRising calls none_called es made) (safe : AreSpansSafe calls Spelt es made a b)
      (grows_a : Grows a a' made.a made'.a more_a) (grows_b : Grows b b' made.b made'.b more_b) where
    -- a span that has ended says what it said
    ended : (before : List E) (x : E) (after : List E) → es ≡ before ++ x ∷ after → (c d : List ℕ)
        → InSpan a' made'.a (last_calls calls none_called before).a (calls x).a c
        → InSpan b' made'.b (last_calls calls none_called before).b (calls x).b d → Spelt before (x ∷ after) c d
    ended before x after is c d in_a in_b =
        let numbers = rising_span calls none_called before (x ∷ after) made (subst (λ l. AreRising calls none_called l made) is rising) in
        safe before (x ∷ after) is c d
        (span_stays a a' made.a made'.a more_a _ _ c grows_a numbers.0.a numbers.1.a in_a)
        (span_stays b b' made.b made'.b more_b _ _ d grows_b numbers.0.b numbers.1.b in_b)

    -- calls after which a crash leaves nothing that one before them might not have left
    settling_is_safe : ((c : List ℕ) → Since (state_of a) more_a c → IsImage (state_of a) c) → ((d : List ℕ) → Since (state_of b) more_b d → IsImage (state_of b) d)
        → AreSpansSafe calls Spelt es made' a' b'
    settling_is_safe of_a of_b before [] is c d in_a in_b =
        let numbers = rising_span calls none_called before [] made (subst (λ l. AreRising calls none_called l made) is rising) in
        safe before [] is c d
        (⊎_elim (λ old. old) (λ new. image_in_span a made.a _ c grows_a.within numbers.0.a (of_a c new)) (span_split a a' made.a made'.a more_a _ c grows_a numbers.0.a in_a))
        (⊎_elim (λ old. old) (λ new. image_in_span b made.b _ d grows_b.within numbers.0.b (of_b d new)) (span_split b b' made.b made'.b more_b _ d grows_b numbers.0.b in_b))
    settling_is_safe of_a of_b before (x ∷ after) is c d in_a in_b = ended before x after is c d in_a in_b

    -- one more element, which has these numbers. What a span says doesn't change with an element that isn't the next one after it
    module _ (e : E) (told : calls e ≡ made')
        (stays : (before : List E) (x : E) (rest : List E) (c d : List ℕ) → Spelt before (x ∷ rest) c d → Spelt before (x ∷ (rest ++ e ∷ [])) c d)
        (covered : (c d : List ℕ) → InSpan a' made'.a (last_calls calls none_called es).a made'.a c → InSpan b' made'.b (last_calls calls none_called es).b made'.b d → Spelt es (e ∷ []) c d)
        (now : (c d : List ℕ) → IsImage (state_of a') c → IsImage (state_of b') d → Spelt (es ++ e ∷ []) [] c d) where
      at_end : (c d : List ℕ) → InSpan a' made'.a made'.a made'.a c → InSpan b' made'.b made'.b made'.b d → Spelt (es ++ e ∷ []) [] c d
      at_end c d in_a in_b =
          now c d (span_now a' made'.a c (still_within a a' made.a made'.a more_a grows_a) in_a) (span_now b' made'.b d (still_within b b' made.b made'.b more_b grows_b) in_b)

      cut : (before rest : List E) → es ≡ before ++ rest → (c d : List ℕ)
          → InSpan a' made'.a (last_calls calls none_called before).a (next_calls calls made' (rest ++ e ∷ [])).a c
          → InSpan b' made'.b (last_calls calls none_called before).b (next_calls calls made' (rest ++ e ∷ [])).b d → Spelt before (rest ++ e ∷ []) c d
      cut before [] is c d in_a in_b =
          let same : es ≡ before = is ∙ append-nil before in
          subst (λ l. Spelt l (e ∷ []) c d) same
          (covered c d
          (subst (λ (n : ℕ). InSpan a' made'.a (last_calls calls none_called es).a n c) (ap (λ (m : Calls). m.a) told) (subst (λ l. InSpan a' made'.a (last_calls calls none_called l).a (calls e).a c) (sym same) in_a))
          (subst (λ (n : ℕ). InSpan b' made'.b (last_calls calls none_called es).b n d) (ap (λ (m : Calls). m.b) told) (subst (λ l. InSpan b' made'.b (last_calls calls none_called l).b (calls e).b d) (sym same) in_b)))
      cut before (x ∷ rest) is c d in_a in_b = stays before x rest c d (ended before x rest is c d in_a in_b)

      one_more : AreSpansSafe calls Spelt (es ++ e ∷ []) made' a' b'
      one_more before after is c d in_a in_b = ⊎_elim behind ahead (snoc_split es e before after is)
        where
          behind : (before ≡ es ++ e ∷ []) × (after ≡ []) → Spelt before after c d
          behind at =
              let number : last_calls calls none_called before ≡ made' = ap (last_calls calls none_called) at.0 ∙ last_push calls none_called es e ∙ told in
              let next : next_calls calls made' after ≡ made' = ap (next_calls calls made') at.1 in
              subst (λ l. Spelt before l c d) (sym at.1) (subst (λ l. Spelt l [] c d) (sym at.0) (at_end c d
              (subst (λ (n : ℕ). InSpan a' made'.a n made'.a c) (ap (λ (m : Calls). m.a) number) (subst (λ (n : ℕ). InSpan a' made'.a (last_calls calls none_called before).a n c) (ap (λ (m : Calls). m.a) next) in_a))
              (subst (λ (n : ℕ). InSpan b' made'.b n made'.b d) (ap (λ (m : Calls). m.b) number) (subst (λ (n : ℕ). InSpan b' made'.b (last_calls calls none_called before).b n d) (ap (λ (m : Calls). m.b) next) in_b))))

          ahead : ((rest : List E) × (after ≡ rest ++ e ∷ []) × (es ≡ before ++ rest)) → Spelt before after c d
          ahead at =
              subst (λ l. Spelt before l c d) (sym at.1) (cut before at.0 at.2 c d
              (subst (λ l. InSpan a' made'.a (last_calls calls none_called before).a (next_calls calls made' l).a c) at.1 in_a)
              (subst (λ l. InSpan b' made'.b (last_calls calls none_called before).b (next_calls calls made' l).b d) at.1 in_b))

  module _ (told_a : CountsAgree a a' made.a made'.a) (told_b : CountsAgree b b' made.b made'.b)
      (rising : AreRising calls none_called es made) (safe : AreSafe calls Spelt es made a b) where
    -- calls that only settled
    pub settles_safe : LeavesPair a b a' b' (WasLeft a b) → AreSafe calls Spelt es made' a' b'
    settles_safe l few_a few_b =
        let before = safe (fewer a a' l.a_calls l.a_made few_a) (fewer b b' l.b_calls l.b_made few_b) in
        let grows_a = grows_told a a' made.a made'.a l.a_calls l.a_first l.a_made told_a few_a before.within_a in
        let grows_b = grows_told b b' made.b made'.b l.b_calls l.b_first l.b_made told_b few_b before.within_b in
        record {
          within_a = still_within a a' made.a made'.a l.a_calls grows_a;
          within_b = still_within b b' made.b made'.b l.b_calls grows_b;
          safe = settling_is_safe l.a_calls l.b_calls rising before.safe grows_a grows_b (left_a a b a' b' l) (left_b a b a' b' l);
        }

    -- calls that began at the last element, and one more element after them
    pub grown_safe : (e : E) (P : List ℕ → List ℕ → Type 0) → calls e ≡ made' → last_calls calls none_called es ≡ made
        → ((before : List E) (x : E) (rest : List E) (c d : List ℕ) → Spelt before (x ∷ rest) c d → Spelt before (x ∷ (rest ++ e ∷ [])) c d)
        → LeavesPair a b a' b' P → ((c d : List ℕ) → P c d → Spelt es (e ∷ []) c d)
        → ((c d : List ℕ) → IsImage (state_of a') c → IsImage (state_of b') d → Spelt (es ++ e ∷ []) [] c d)
        → AreSafe calls Spelt (es ++ e ∷ []) made' a' b'
    grown_safe e P told last stays l spelt now few_a few_b =
        let before = safe (fewer a a' l.a_calls l.a_made few_a) (fewer b b' l.b_calls l.b_made few_b) in
        let grows_a = grows_told a a' made.a made'.a l.a_calls l.a_first l.a_made told_a few_a before.within_a in
        let grows_b = grows_told b b' made.b made'.b l.b_calls l.b_first l.b_made told_b few_b before.within_b in
        record {
          within_a = still_within a a' made.a made'.a l.a_calls grows_a;
          within_b = still_within b b' made.b made'.b l.b_calls grows_b;
          safe = one_more l.a_calls l.b_calls rising before.safe grows_a grows_b e told stays (covered grows_a grows_b) now;
        }
      where
        since_a : Grows a a' made.a made'.a l.a_calls → (c : List ℕ) → InSpan a' made'.a made.a made'.a c → Since (state_of a) l.a_calls c
        since_a g c inside = ⊎_elim (λ old. first_moment (state_of a) l.a_calls c (span_now a made.a c g.within old)) (λ new. new) (span_split a a' made.a made'.a l.a_calls made.a c g (omega arith) inside)

        since_b : Grows b b' made.b made'.b l.b_calls → (c : List ℕ) → InSpan b' made'.b made.b made'.b c → Since (state_of b) l.b_calls c
        since_b g c inside = ⊎_elim (λ old. first_moment (state_of b) l.b_calls c (span_now b made.b c g.within old)) (λ new. new) (span_split b b' made.b made'.b l.b_calls made.b c g (omega arith) inside)

        covered : Grows a a' made.a made'.a l.a_calls → Grows b b' made.b made'.b l.b_calls → (c d : List ℕ) → InSpan a' made'.a (last_calls calls none_called es).a made'.a c
            → InSpan b' made'.b (last_calls calls none_called es).b made'.b d → Spelt es (e ∷ []) c d
        covered ga gb c d in_a in_b = spelt c d (l.each c d
            (since_a ga c (subst (λ (m : Calls). InSpan a' made'.a m.a made'.a c) last in_a))
            (since_b gb d (subst (λ (m : Calls). InSpan b' made'.b m.b made'.b d) last in_b)))

-- an element without a call
module _ {E : Type 0} (calls : E → Calls) (Spelt : List E → List E → List ℕ → List ℕ → Type 0) (es : List E) (made : Calls) (a b : History)
    (rising : AreRising calls none_called es made) (safe : AreSafeNow calls Spelt es made a b) where
  same_grows : (h : History) (m : ℕ) → m ≤ length h.calls → Grows h h m m []
  same_grows h m within = record { first = refl; calls = sym (append-nil h.calls); counted = omega arith; within = within }

  pub noted_safe : (e : E) → calls e ≡ made
      → ((before : List E) (x : E) (rest : List E) (c d : List ℕ) → Spelt before (x ∷ rest) c d → Spelt before (x ∷ (rest ++ e ∷ [])) c d)
      → ((c d : List ℕ) → Spelt es [] c d → Spelt es (e ∷ []) c d)
      → ((c d : List ℕ) → IsImage (state_of a) c → IsImage (state_of b) d → Spelt (es ++ e ∷ []) [] c d)
      → AreSafeNow calls Spelt (es ++ e ∷ []) made a b
  noted_safe e told stays weaker now = record {
    within_a = safe.within_a;
    within_b = safe.within_b;
    safe = one_more calls Spelt es made made a b a b [] [] rising safe.safe (same_grows a made.a safe.within_a) (same_grows b made.b safe.within_b) e told stays
        (λ c d in_a in_b. weaker c d (safe.safe es [] (sym (append-nil es)) c d in_a in_b)) now;
  }
