-- The notes of callers one after another are no more than a history has.
use Rattle.std.proofs.Common.{◌≡◌, ◌≢◌, ◌≤◌, ◌<◌, ◌+◌, ℕ, zero, suc, Bool, true, false, cond, eqb, List, [], ◌∷◌, length}
use Rattle.std.proofs.Common.{inl, inr, ⊎_elim, refl, ap, ◌∙◌, arith, ne_eqb}
use Rattle.std.proofs.lemmas.Bool.Decides.{eqb_tells}
use Rattle.config_db.specs.Faults.{RoseBy}
use Rattle.disk_model.specs.Pair.{DiskPair}
use Rattle.session_history.specs.declared.history.Happened.{Happened}
use Rattle.turn_lock.specs.Histories.{entries_by}
use Rattle.session_threads.specs.declared.noted.Noted.{Noted}
use Rattle.session_threads.specs.declared.noted.Noted.TheVariants.{Event, Unready}
use Rattle.session_threads.specs.Noted.{caller_in, notes_of}

-- how many notes are a caller's
abbrev pub notes_by : ℕ → List Noted → ℕ
notes_by caller list = length (notes_of (entries_by caller_in caller list))

-- how many are of so many callers, from a number on
abbrev pub notes_from : ℕ → ℕ → List Noted → ℕ
notes_from number zero list = 0
notes_from number (suc count) list = notes_by number list + notes_from (number + 1) count list

notes_from-nil : (number count : ℕ) → notes_from number count [] ≡ 0
notes_from-nil number zero = refl
notes_from-nil number (suc count) = omega (arith, notes_from-nil (number + 1) count)

-- an event is no note
beside_event : (number : ℕ) (event : Happened) (list : List Noted) → notes_by number (Event event ∷ list) ≡ notes_by number list
beside_event number event list = by_test (eqb event.caller number)
  where
    by_test : (b : Bool) → length (notes_of (cond b (Event event ∷ entries_by caller_in number list) (entries_by caller_in number list)))
        ≡ notes_by number list
    by_test true = refl
    by_test false = refl

notes_from-event : (number count : ℕ) (event : Happened) (list : List Noted)
    → notes_from number count (Event event ∷ list) ≡ notes_from number count list
notes_from-event number zero event list = refl
notes_from-event number (suc count) event list =
    ap (λ n. n + notes_from (number + 1) count (Event event ∷ list)) (beside_event number event list)
    ∙ ap (λ n. notes_by number list + n) (notes_from-event (number + 1) count event list)

-- a note is one more of its caller, and none of another
abbrev by_caller : Bool → ℕ → ℕ → List Noted → ℕ
by_caller b number caller list =
    length (notes_of (cond b (Unready caller ∷ entries_by caller_in number list) (entries_by caller_in number list)))

another's : (number caller : ℕ) (list : List Noted) → caller ≢ number → notes_by number (Unready caller ∷ list) ≡ notes_by number list
another's number caller list apart = ap (λ b. by_caller b number caller list) (ne_eqb caller number apart)

notes_from-past : (number count caller : ℕ) (list : List Noted) → caller < number
    → notes_from number count (Unready caller ∷ list) ≡ notes_from number count list
notes_from-past number zero caller list past = refl
notes_from-past number (suc count) caller list past =
    ap (λ n. n + notes_from (number + 1) count (Unready caller ∷ list))
    (another's number caller list (λ is. omega (arith, is, past)))
    ∙ ap (λ n. notes_by number list + n) (notes_from-past (number + 1) count caller list (omega (arith, past)))

notes_from-note : (number count caller : ℕ) (list : List Noted)
    → notes_from number count (Unready caller ∷ list) ≤ notes_from number count list + 1
notes_from-note number zero caller list = omega arith
notes_from-note number (suc count) caller list = ⊎_elim here (others (notes_from-note (number + 1) count caller list)) (eqb_tells caller number)
  where
    here : (eqb caller number ≡ true) × (caller ≡ number)
        → notes_from number (suc count) (Unready caller ∷ list) ≤ notes_from number (suc count) list + 1
    here is =
        let one : notes_by number (Unready caller ∷ list) ≡ suc (notes_by number list) =
        ap (λ b. by_caller b number caller list) is.0 in
        omega (arith, one, notes_from-past (number + 1) count caller list (omega (arith, is.1)))

    others : notes_from (number + 1) count (Unready caller ∷ list) ≤ notes_from (number + 1) count list + 1
        → (eqb caller number ≡ false) × (caller ≢ number)
        → notes_from number (suc count) (Unready caller ∷ list) ≤ notes_from number (suc count) list + 1
    others rest isn't = omega (arith, another's number caller list isn't.1, rest)

pub few_notes : (number count : ℕ) (list : List Noted) → notes_from number count list ≤ length (notes_of list)
few_notes number count [] = omega (arith, notes_from-nil number count)
few_notes number count (Event event ∷ list) = omega (arith, notes_from-event number count event list, few_notes number count list)
few_notes number count (Unready caller ∷ list) =
    omega (arith, notes_from-note number count caller list, few_notes number count list)

-- counts that rose by so many rose by fewer
pub rose_fewer : (few many : ℕ) (before now : DiskPair) → few ≤ many → RoseBy many before now → RoseBy few before now
rose_fewer few many before now less (inl full) = inl full
rose_fewer few many before now less (inr (inl full)) = inr (inl full)
rose_fewer few many before now less (inr (inr rose)) = inr (inr (omega (arith, less, rose)))
