-- What is known of the sessions of a run, as more events of others come after theirs.
use Rattle.std.proofs.Common.{◌≡◌, ◌≢◌, ◌+◌, ℕ, Bool, zero, suc, List, [], ◌∷◌, ◌++◌, sym, ap, subst, ◌∙◌, append_assoc, arith, Some, slice_get, inl, inr}
use Rattle.std.specs.List.{AllByRecursion}
use Rattle.config_core.specs.State.{State, opening_of}
use Rattle.config_db.specs.View.{DatabaseView, IsSameRun, opened}
use Rattle.session_history.specs.declared.history.Happened.{Happened}
use Rattle.session_shell.specs.Transcript.{EndView}
use Rattle.session_threads.specs.Access.{asks_of}
use Rattle.session_threads.specs.History.{known_first}
use Rattle.session_threads.specs.Results.{IsResult, SessionResult}
use Rattle.session_threads.specs.Served.{EachFrom}
use Rattle.session_threads.proofs.LaterLemmas.{IsSession-later}
use Rattle.session_threads.proofs.ListLemmas.{All-append, some_is}

-- one run has one opening
pub same_opened : (v v' : DatabaseView) → IsSameRun v v' → opened v' ≡ opened v
same_opened v v' same = ap (λ k. opening_of k v'.users) same.opening ∙ ap (opening_of v.opening) same.users

-- a caller's own events are nobody else's
pub not_theirs : (number caller : ℕ) (own : List Happened) → (number ≡ caller → ⊥) → AllByRecursion (λ event. event.caller ≡ caller) own
    → AllByRecursion (λ event. event.caller ≢ number) own
not_theirs number caller [] apart all = tt
not_theirs number caller (event ∷ own) apart all = (λ is. apart (sym is ∙ all.0), not_theirs number caller own apart all.1)

pub EachFrom-at : {A : Type 0} (Is : ℕ → A → Type 0) (number : ℕ) (xs : List A) (k m : ℕ) (x : A) → EachFrom Is number xs
    → slice_get xs k ≡ Some x → m ≡ number + k → Is m x
EachFrom-at Is number [] k m x each is at = cc
EachFrom-at Is number (y ∷ xs) zero m x each is at =
    subst (λ n. Is n x) (omega (arith, at)) (subst (Is number) (some_is is) each.0)
EachFrom-at Is number (y ∷ xs) (suc k) m x each is at = EachFrom-at Is (number + 1) xs k m x each.1 is (omega (arith, at))

-- more events of others after a session
pub longer : {E : Type 0} (view : E → EndView) (opening : State) (limit : ℕ) (access : Bool) (events more : List Happened) (caller : ℕ)
    (result : SessionResult E) → AllByRecursion (λ event. event.caller ≢ caller) more
    → IsResult view opening limit access events caller result → IsResult view opening limit access (events ++ more) caller result
longer view opening limit access events more caller result others (inl h) = inl (record {
  before = h.before;
  after = h.after;
  later = h.later ++ more;
  begins = ap (λ l. l ++ more) h.begins ∙ append_assoc h.after.events h.later more;
  others_first = h.others_first;
  none_later = All-append (λ (event : Happened). event.caller ≢ caller) h.later more h.none_later others;
  session = IsSession-later (record { opening = opening; caller = caller; asks = asks_of access (view result.old).user }) events more limit result.how result.turns (view result.old) (view result.new)
      (known_first opening h.before) h.after h.session;
})
longer view opening limit access events more caller result others (inr u) = inr (record {
  how = u.how;
  same = u.same;
  no_turns = u.no_turns;
  no_events = All-append (λ (event : Happened). event.caller ≢ caller) events more u.no_events others;
})
