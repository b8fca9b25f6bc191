-- What a run hands back of its sessions.
use Rattle.std.proofs.Common.{◌≡◌, ◌⊎◌, ◌≤◌, ℕ, Bool, zero, suc, List, [], ◌∷◌, length, map, max, replicate, refl, sym, ap, subst, arith, Option, None, Some, slice_get, inl, inr}
use Rattle.std.proofs.Math.Nat.{le-max_right}
use Rattle.std.proofs.lemmas.List.{length-append, length-map, length-replicate}
use Rattle.std.specs.List.{AllByRecursion}
use Rattle.active_snapshot.specs.States.{ReaderView, first_read}
use Rattle.commit_ledger.specs.Kept.{Kept}
use Rattle.command_line.specs.Asked.{Asks, user_in, users_of as users_asked}
use Rattle.command_line.specs.declared.asked.Asked.{Asked}
use Rattle.config_core.specs.State.{State}
use Rattle.io_edge.specs.Line.{TellsBoth}
use Rattle.session_history.specs.declared.history.Happened.{Happened}
use Rattle.session_shell.specs.declared.turn.How.{How}
use Rattle.session_shell.specs.declared.turn.How.TheVariants.{Clean, SourceFault, SinkFault, InputFull, NoMemory}
use Rattle.session_shell.specs.Transcript.{EndView, IsInput}
use Rattle.io_edge.specs.declared.lines.Line.{Line}
use Rattle.session_shell.specs.declared.reading.Reading.{Reading}
use Rattle.session_threads.specs.Results.{IsResult, SessionResult, status_of_all}
use Rattle.session_threads.specs.Served.{HasReaders}
use Rattle.service.specs.Run.{IsFaultless, IsWithinLimit}

-- no sessions come to the status of words that ask nothing
pub status_is_not_1 : (hows : List How) → status_of_all hows ≡ 1 → ⊥
status_is_not_1 [] is = omega arith
status_is_not_1 (Clean ∷ hows) is = status_is_not_1 hows is
status_is_not_1 (SourceFault ∷ hows) is = omega arith
status_is_not_1 (SinkFault ∷ hows) is = omega arith
status_is_not_1 (InputFull ∷ hows) is = omega arith
status_is_not_1 (NoMemory ∷ hows) is = omega arith

-- as many users as a command line asks for
pub few_users : (words : List (List ℕ)) (asked : Asked) → Asks words asked → length asked.users ≤ 64
few_users words asked asks = subst (λ n. n ≤ 64) (ap length (sym asks.meant.users)) (few _ _ asks.meant.sessions.few)
  where
    few : (user : List ℕ) (words : List (List ℕ)) → length words ≤ 64 → length (users_asked user words) ≤ 64
    few user [] most = omega arith
    few user (word ∷ words) most = omega (arith, most, length-map words user_in)

all_alike : (reader : ReaderView) (count : ℕ) → AllByRecursion (λ (r : ReaderView). r ≡ reader) (replicate count reader)
all_alike reader zero = tt
all_alike reader (suc count) = (refl, all_alike reader count)

-- as many readers as sessions
pub readers_are : (opening : Kept) (count users : ℕ) (readers : List ReaderView) → readers ≡ replicate (max 1 users) (first_read opening) → count ≡ users → HasReaders opening count readers
readers_are opening count users readers is as_many = subst (HasReaders opening count) (sym is)
    (omega (arith, as_many, le-max_right 1 users, length-replicate (max 1 users) (first_read opening)), all_alike (first_read opening) (max 1 users))

quiet_first : (how : How) (hows : List How) → (how ≡ Clean) ⊎ (how ≡ NoMemory) → (status_of_all hows ≡ 0) ⊎ (status_of_all hows ≡ 9) → (status_of_all (how ∷ hows) ≡ 0) ⊎ (status_of_all (how ∷ hows) ≡ 9)
quiet_first how hows (inl is) then_all = subst (λ h. (status_of_all (h ∷ hows) ≡ 0) ⊎ (status_of_all (h ∷ hows) ≡ 9)) (sym is) then_all
quiet_first how hows (inr is) then_all = inr (ap (λ h. status_of_all (h ∷ hows)) is)

-- sessions of which each ended clean or for want of memory
pub quiet_status : {E : Type 0} (results : List (SessionResult E)) → ((k : ℕ) (result : SessionResult E) → slice_get results k ≡ Some result → (result.how ≡ Clean) ⊎ (result.how ≡ NoMemory)) →
    (status_of_all (map (λ result. result.how) results) ≡ 0) ⊎ (status_of_all (map (λ result. result.how) results) ≡ 9)
quiet_status [] each = inl refl
quiet_status (result ∷ results) each = quiet_first result.how (map (λ r. r.how) results) (each 0 result refl) (quiet_status results (λ k. each (suc k)))

within : (how : How) (a b : Option (List ℕ)) (limit : ℕ) (lines : List Line) (reading : Reading) → IsWithinLimit limit a
    → TellsBoth (IsInput lines reading how limit) a b → how ≡ InputFull → ⊥
within how None b limit lines reading fit tells full = fit
within how (Some a) None limit lines reading fit tells full = tells
within how (Some a) (Some b) limit lines reading fit tells full =
    omega (arith, fit, tells.full.0 full, ap length tells.first.split, length-append tells.first.taken tells.left, ap length tells.is_left, length-append tells.ahead b)

-- how a session ends that no fault disturbs, within the limit
pub quiet : {E : Type 0} (view : E → EndView) (limit : ℕ) (access : Bool) (opening : State) (events : List Happened) (caller : ℕ)
    (result : SessionResult E) → IsResult view opening limit access events caller result
    → IsFaultless limit (view result.old) (view result.new) → (result.how ≡ Clean) ⊎ (result.how ≡ NoMemory)
quiet view limit access opening events caller result (inl h) faultless = by_how result.how refl
  where
    by_how : (how : How) → how ≡ result.how → (result.how ≡ Clean) ⊎ (result.how ≡ NoMemory)
    by_how Clean at = inl (sym at)
    by_how SourceFault at = absurd (faultless.source (h.session.source_cause (sym at)))
    by_how SinkFault at = absurd (faultless.sink (h.session.sink_cause (sym at)))
    by_how InputFull at = absurd (within result.how (view result.old).source.left (view result.new).source.left limit
        h.session.transcript.lines h.session.transcript.reading faultless.fits h.session.transcript.input (sym at))
    by_how NoMemory at = inr (sym at)
quiet view limit access opening events caller result (inr u) faultless = inr u.how
