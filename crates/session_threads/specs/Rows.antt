-- Rows of seats, before the sessions and after them. This project's own.
use Rattle.std.specs.Prelude.{◌≡◌, ◌≤◌, ◌+◌, ℕ, List, [], ◌∷◌, map, Option, None, Some, vec_capacity}
use Rattle.active_snapshot.specs.States.{first_read}
use Rattle.atomic_table.specs.Seated.{TableId}
use Rattle.commit_ledger.specs.Kept.{Kept}
use Rattle.config_db.specs.View.{DatabaseView}
use Rattle.session_shell.specs.declared.end.End.{End}
use Rattle.session_shell.specs.declared.turn.How.TheVariants.{NoMemory}
use Rattle.session_shell.specs.declared.turn.Turn.{Turn}
use Rattle.turn_lock.specs.Passes.{with_ended}
use Rattle.session_threads.specs.declared.seat.Seat.{Seat}
use Rattle.session_threads.specs.declared.whole.Room.{Room}
use Rattle.session_threads.specs.Results.{status_of_all}
use Rattle.session_threads.specs.Passes.{CallerPass}

-- two lists of one length, each of whose pairs has this in common
abbrev pub Pairs : {A B : Type 0} → (A → B → Type 0) → List A → List B → Type 0
Pairs Are [] [] = Unit {0}
Pairs Are (x ∷ xs) (y ∷ ys) = Are x y × Pairs Are xs ys
Pairs Are [] (y ∷ ys) = ⊥
Pairs Are (x ∷ xs) [] = ⊥

-- the same, by the number of the pair from a number on
abbrev pub PairsFrom : {A B : Type 0} → (ℕ → A → B → Type 0) → ℕ → List A → List B → Type 0
PairsFrom Are number [] [] = Unit {0}
PairsFrom Are number (x ∷ xs) (y ∷ ys) = Are number x y × PairsFrom Are (number + 1) xs ys
PairsFrom Are number [] (y ∷ ys) = ⊥
PairsFrom Are number (x ∷ xs) [] = ⊥

-- the pass that is split off for a caller
abbrev pub pass_for : CallerPass → ℕ → CallerPass
pass_for first caller = record first { caller = caller; own = []; splits = 0; ended = [] }

-- an end sits in this seat, with the pass of that caller and a reader that was told of the opening's list alone
abbrev pub SitsIn : {S K C J : Type 0} → Kept → CallerPass → ℕ → End S K C → Option (Seat S K C DatabaseView J) → Type 0
SitsIn opening first caller end None = ⊥
SitsIn opening first caller end (Some seat) =
    (seat.pass ≡ pass_for first caller) × (seat.end ≡ end) × (seat.reader ≡ first_read opening)

-- there is room for so many sessions, and nobody in it
pub record HasRoom {S K C D J : Type 0} (count : ℕ) (room : Room S K C D J) : Type 0 where
  pub no_seats : room.seats.items ≡ []
  pub no_lists : room.lists.items ≡ []
  pub seats : count ≤ vec_capacity room.seats
  pub lists : count ≤ vec_capacity room.lists

-- a seat with a pass of this lock
abbrev pub IsSeatOf : {S K C J : Type 0} → TableId → Option (Seat S K C DatabaseView J) → Type 0
IsSeatOf lock None = ⊥
IsSeatOf lock (Some seat) = seat.pass.lock ≡ lock

-- the seats that are taken
abbrev pub taken : {S K C J : Type 0} → List (Option (Seat S K C DatabaseView J)) → List (Seat S K C DatabaseView J)
taken [] = []
taken (None ∷ seats) = taken seats
taken (Some seat ∷ seats) = seat ∷ taken seats

-- the first pass, once the passes of these seats have ended
abbrev pub with_all_ended : {S K C J : Type 0} → CallerPass → List (Seat S K C DatabaseView J) → CallerPass
with_all_ended pass [] = pass
with_all_ended pass (seat ∷ seats) = with_all_ended (with_ended pass seat.pass) seats

-- all left their seats: their passes ended, and their ends and turns came back with the status of the first that didn't end clean
pub record AreLeft {S K C J : Type 0} (seats : List (Option (Seat S K C DatabaseView J))) (pass pass' : CallerPass)
    (ends : List (End S K C)) (turns : List (List Turn)) (status : ℕ) : Type 0 where
  pub passes : pass' ≡ with_all_ended pass (taken seats)
  pub ends_are : ends ≡ map (λ seat. seat.end) (taken seats)
  pub turns_are : turns ≡ map (λ seat. seat.turns) (taken seats)
  pub status_is : status ≡ status_of_all (map (λ seat. seat.how) (taken seats))

-- no session began
pub record NoneServed {E : Type 0} (ends : List E) (turns : List (List Turn)) (status : ℕ) : Type 0 where
  pub no_turns : turns ≡ map (λ end. []) ends
  pub status_is : status ≡ status_of_all (map (λ end. NoMemory) ends)
