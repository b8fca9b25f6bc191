-- The ticker's looks, one after another.
use Rattle.std.proofs.Common.{◌≡◌, ◌≢◌, ℕ, Bool, true, false, List, [], ◌∷◌, ◌++◌, length, replicate, Option}
use Rattle.std.proofs.Common.{inl, inr, refl, sym, ap, subst, ◌∙◌}
use Rattle.std.specs.List.{AllByRecursion}
use Rattle.atomic_table.specs.Seated.{TableId}
use Rattle.config_core.specs.State.{State}
use Rattle.config_db.specs.View.{DatabaseView, opened}
use Rattle.io_edge.specs.Ends.{TakesAnswer}
use Rattle.session_history.specs.declared.history.Happened.{Happened}
use Rattle.turn_lock.specs.Passes.{TookTurn}
use Rattle.session_threads.specs.declared.noted.Noted.{Noted}
use Rattle.session_threads.specs.Looks.{AreLooks, Looks, LooksAlone, LooksOnce, TakesLook, TickerView}
use Rattle.session_threads.specs.Noted.{GoesOnBy, caller_in, events_of}
use Rattle.session_threads.specs.Passes.{CallerPass, KnowsOwn, WentOn, events_seen}
use Rattle.session_threads.specs.Ticks.{IsTickersPass, IsLook, IsRound, Ticks, TicksOn}
use Rattle.session_threads.proofs.ListLemmas.{some_is}
use Rattle.session_threads.proofs.PassLemmas.{LooksOnce-behind, WentOn-same, WentOn-then, WentOn-took, before-took, not_own-took, seen-took}

-- one more answer
Takes-then : {A : Type 0} (before mid now : Option (ℕ → A)) (answers : List A) (answer : A) → TakesLook before answers mid
    → TakesAnswer mid now answer → TakesLook before (answers ++ answer ∷ []) now
Takes-then before mid now [] answer taken next = (now, subst (λ o. TakesAnswer o now answer) taken next, refl)
Takes-then before mid now (one ∷ answers) answer taken next =
    (taken.0, taken.1, Takes-then taken.0 mid now answers answer taken.2 next)

-- one more look
Looks-then : (opening : State) (answers : List ℕ) (answer : ℕ) (events mid events' : List Happened)
    → Looks opening answers events mid → LooksOnce opening answer mid events' → Looks opening (answers ++ answer ∷ []) events events'
Looks-then opening [] answer events mid events' looks next =
    (events', subst (λ l. LooksOnce opening answer l events') looks next, refl)
Looks-then opening (one ∷ answers) answer events mid events' looks next =
    (looks.0, looks.1, Looks-then opening answers answer looks.0 mid events' looks.2 next)

-- as many, and one more
replicate-then : (answers : List ℕ) (answer : ℕ) (x : Bool)
    → replicate (length (answers ++ answer ∷ [])) x ≡ replicate (length answers) x ++ x ∷ []
replicate-then [] answer x = refl
replicate-then (one ∷ answers) answer x = ap (λ l. x ∷ l) (replicate-then answers answer x)

-- a round that looked, whether or not it is the last one
round_of : (goes_on : Bool) (opening : State) (old new : TickerView) (events events' : List Happened)
    → IsLook opening old new events events' → IsRound opening goes_on old new events events'
round_of true opening old new events events' look = look
round_of false opening old new events events' look = inl look

-- the beat called for a look
pub Ticks-look : (lock : TableId) (first : DatabaseView) (old new : CallerPass) (ticker ticker' : TickerView) (answer : ℕ)
    (goes_on : Bool) → IsTickersPass lock first old → TakesAnswer ticker.due ticker'.due true
    → TakesAnswer ticker.coming ticker'.coming answer
    → TookTurn caller_in (λ fixed before after. GoesOnBy (LooksAlone (opened fixed) answer) [] before after) old new
    → Ticks goes_on first old new ticker ticker'
Ticks-look lock first old new ticker ticker' answer goes_on is beat clock took =
    let says : DatabaseView → List Noted → List Noted → Type 0 =
    λ fixed before after. GoesOnBy (LooksAlone (opened fixed) answer) [] before after in
    let others : AllByRecursion (λ event. event.caller ≢ 0) (events_of took.begins.0) =
    subst (λ c. AllByRecursion (λ event. event.caller ≢ c) (events_of took.begins.0)) is.nobodys
    (not_own-took says old new took is.own) in
    let after : List Happened = events_of (took.before ++ took.added) in
    let looked : LooksAlone (opened first) answer (events_of took.before) after =
    subst (λ f. LooksAlone (opened f) answer (events_of took.before) after)
    (some_is (sym took.is_fixed ∙ is.fixed)) took.said.said in
    let once : LooksOnce (opened first) answer (events_seen old) (events_seen new) =
    subst (λ (l : List Noted). LooksOnce (opened first) answer (events_seen old) (events_of l)) (sym (seen-took says old new took))
    (LooksOnce-behind (opened first) answer (events_seen old) (events_of took.begins.0) (events_of took.before) after
    (before-took says old new took) others looked) in
    record {
      goes = WentOn-took says old new took;
      round = round_of goes_on (opened first) ticker ticker' (events_seen old) (events_seen new) (
        answer,
        record {
          beat_told = (ticker'.due, beat, refl);
          clock_told = (ticker'.coming, clock, refl);
          looks = (events_seen new, once, refl);
        },
      );
    }

-- the ticker looked so far, each time that its beat called for it
pub record TicksSoFar (first : DatabaseView) (old new : CallerPass) (ticker ticker' : TickerView) : Type 0 where
  pub goes : WentOn old new
  pub answers : List ℕ
  pub looked : AreLooks (opened first) (replicate (length answers) true) answers ticker ticker' (events_seen old) (events_seen new)

pub TicksSoFar-none : (first : DatabaseView) (pass : CallerPass) (ticker : TickerView) → KnowsOwn pass
    → TicksSoFar first pass pass ticker ticker
TicksSoFar-none first pass ticker own = record {
  goes = WentOn-same pass own;
  answers = [];
  looked = record { beat_told = refl; clock_told = refl; looks = refl };
}

module _ (first : DatabaseView) (old mid new : CallerPass) (ticker between ticker' : TickerView)
    (far : TicksSoFar first old mid ticker between) where
  -- the looks so far, and one more
  more_looks : (look : IsLook (opened first) between ticker' (events_seen mid) (events_seen new))
      → AreLooks (opened first) (replicate (length (far.answers ++ look.0 ∷ [])) true) (far.answers ++ look.0 ∷ [])
      ticker ticker' (events_seen old) (events_seen new)
  more_looks look = record {
    beat_told = subst (λ l. TakesLook ticker.due l ticker'.due) (sym (replicate-then far.answers look.0 true))
        (Takes-then ticker.due between.due ticker'.due (replicate (length far.answers) true) true
        far.looked.beat_told (subst (λ o. TakesAnswer between.due o true) (sym look.1.beat_told.2) look.1.beat_told.1));
    clock_told = Takes-then ticker.coming between.coming ticker'.coming far.answers look.0
        far.looked.clock_told
        (subst (λ o. TakesAnswer between.coming o look.0) (sym look.1.clock_told.2) look.1.clock_told.1);
    looks = Looks-then (opened first) far.answers look.0 (events_seen old) (events_seen mid) (events_seen new) far.looked.looks
        (subst (λ l. LooksOnce (opened first) look.0 (events_seen mid) l) (sym look.1.looks.2) look.1.looks.1);
  }

  pub TicksSoFar-then : Ticks true first mid new between ticker' → TicksSoFar first old new ticker ticker'
  TicksSoFar-then ticks = record {
    goes = WentOn-then old mid new far.goes ticks.goes;
    answers = far.answers ++ ticks.round.0 ∷ [];
    looked = more_looks ticks.round;
  }

  -- the last round
  TicksOn-by : WentOn old new → IsRound (opened first) false between ticker' (events_seen mid) (events_seen new)
      → TicksOn first old new ticker ticker'
  TicksOn-by goes (inl look) = record {
    goes = goes;
    looked = record {
      beats = replicate (length (far.answers ++ look.0 ∷ [])) true;
      answers = far.answers ++ look.0 ∷ [];
      called = inl refl;
      are_looks = more_looks look;
    };
  }
  TicksOn-by goes (inr none) = record {
    goes = goes;
    looked = record {
      beats = replicate (length far.answers) true ++ false ∷ [];
      answers = far.answers;
      called = inr refl;
      are_looks = record {
        beat_told = Takes-then ticker.due between.due ticker'.due (replicate (length far.answers) true) false
            far.looked.beat_told
            (subst (λ o. TakesAnswer between.due o false) (sym none.beat_told.2) none.beat_told.1);
        clock_told = subst (λ o. TakesLook ticker.coming far.answers o) (sym none.clock_told) far.looked.clock_told;
        looks = subst (λ l. Looks (opened first) far.answers (events_seen old) l) (sym none.looks) far.looked.looks;
      };
    };
  }

  pub TicksOn-then : Ticks false first mid new between ticker' → TicksOn first old new ticker ticker'
  TicksOn-then ticks = TicksOn-by (WentOn-then old mid new far.goes ticks.goes) ticks.round

pub IsFirst-then : (lock : TableId) (first : DatabaseView) (old new : CallerPass) → IsTickersPass lock first old
    → WentOn old new → IsTickersPass lock first new
IsFirst-then lock first old new is goes = record {
  here = goes.lock ∙ is.here;
  fixed = goes.fixed ∙ is.fixed;
  nobodys = goes.caller ∙ is.nobodys;
  own = goes.own;
}
