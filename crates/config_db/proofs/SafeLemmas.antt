-- The crash theorem of a run: calls that settle, calls with an event after them, and an event without a call. Its spans are those of the
-- journal's calls, of which each state says what they spell.
use Rattle.std.proofs.Common.{◌≡◌, inl, inr, ⊎_elim, ℕ, List, [], ◌∷◌, ◌++◌, Some, None, subst}
use Rattle.cfg_base.specs.declared.calls.Calls.{Calls}
use Rattle.disk_model.specs.Disk.{History, IsImage, state_of}
use Rattle.commit_journal.specs.Held.{CountsAgree}
use Rattle.commit_journal.specs.Pair.{LeavesPair, WasLeft}
use Rattle.commit_journal.specs.Spans.{AreSafeNow}
use Rattle.commit_journal.proofs.SafeLemmas.{grown_safe, noted_safe as noted_by, settles_safe as settles_by}
use Rattle.config_core.specs.State.{State}
use Rattle.session_history.specs.declared.history.Happened.{Happened}
use Rattle.session_history.specs.Events.{Leads}
use Rattle.config_db.specs.Numbers.{AreRising, calls_in, none_called}
use Rattle.config_db.specs.Crash.{IsSafeWhile, Spelt, SpeltBetween, last_calls}

-- one more event behind the next one says nothing else
still_spelt : (first : State) (e : Happened) (before : List Happened) (x : Happened) (rest : List Happened) (c d : List ℕ) → SpeltBetween first before (x ∷ rest) c d
    → SpeltBetween first before (x ∷ (rest ++ e ∷ [])) c d
still_spelt first e before x rest c d spelt = spelt

-- what is spelled where no event is known to come is spelled before each
weaker : (s : State) (e : Happened) (c d : List ℕ) → Spelt s None c d → Spelt s (Some e) c d
weaker s e c d (inl here) = inl here
weaker s e c d (inr there) = inr (there.0, ⊎_elim (λ f. inl f) (λ none. absurd none) there.1, there.2)

module _ (first : State) (one_state : (events : List Happened) (s t : State) → Leads first events s → Leads first events t → s ≡ t) where
  -- what one state says, each says to which the events lead
  spelt_by : (events : List Happened) (s : State) (e : Happened) (c d : List ℕ) → Leads first events s → Spelt s (Some e) c d → SpeltBetween first events (e ∷ []) c d
  spelt_by events s e c d leads spelt u led = subst (λ v. Spelt v (Some e) c d) (one_state events s u leads led) spelt

  spelt_last : (events : List Happened) (s : State) (c d : List ℕ) → Leads first events s → Spelt s None c d → SpeltBetween first events [] c d
  spelt_last events s c d leads spelt u led = subst (λ v. Spelt v None c d) (one_state events s u leads led) spelt

  module _ (events : List Happened) (made made' : Calls) (a b a' b' : History) (told_a : CountsAgree a a' made.a made'.a) (told_b : CountsAgree b b' made.b made'.b)
      (rising : AreRising none_called events made) (safe : IsSafeWhile first events made a b) where
    -- calls that only settled
    pub settles_safe : LeavesPair a b a' b' (WasLeft a b) → IsSafeWhile first events made' a' b'
    settles_safe l = settles_by calls_in (SpeltBetween first) events made made' a b a' b' told_a told_b rising safe l

    -- calls that began when the last event had come, and one more event
    pub appends_safe : (s t : State) (e : Happened) (P : List ℕ → List ℕ → Type 0) → e.calls ≡ made' → Leads first events s → Leads first (events ++ e ∷ []) t → last_calls none_called events ≡ made
        → LeavesPair a b a' b' P → ((c d : List ℕ) → P c d → Spelt s (Some e) c d) → ((c d : List ℕ) → IsImage (state_of a') c → IsImage (state_of b') d → Spelt t None c d)
        → IsSafeWhile first (events ++ e ∷ []) made' a' b'
    appends_safe s t e P told leads leads' last l spelt now =
        grown_safe calls_in (SpeltBetween first) events made made' a b a' b' told_a told_b rising safe e P told last (still_spelt first e) l
        (λ c d p. spelt_by events s e c d leads (spelt c d p)) (λ c d in_a in_b. spelt_last (events ++ e ∷ []) t c d leads' (now c d in_a in_b))

  -- an event without a call
  pub noted_safe : (events : List Happened) (made : Calls) (a b : History) → AreRising none_called events made → AreSafeNow calls_in (SpeltBetween first) events made a b
      → (t : State) (e : Happened) → e.calls ≡ made → Leads first (events ++ e ∷ []) t
      → ((c d : List ℕ) → IsImage (state_of a) c → IsImage (state_of b) d → Spelt t None c d) → AreSafeNow calls_in (SpeltBetween first) (events ++ e ∷ []) made a b
  noted_safe events made a b rising safe t e told leads' now =
      noted_by calls_in (SpeltBetween first) events made a b rising safe e told (still_spelt first e) (λ c d spelt u led. weaker u e c d (spelt u led))
      (λ c d in_a in_b. spelt_last (events ++ e ∷ []) t c d leads' (now c d in_a in_b))
