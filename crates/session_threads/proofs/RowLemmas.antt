-- Rows of seats that grow at their end.
use Rattle.std.proofs.Common.{◌≡◌, ◌<◌, ◌≤◌, ◌+◌, ℕ, suc, List, [], ◌∷◌, ◌++◌, length, map, replicate, All, Option, None, Some}
use Rattle.std.proofs.Common.{ne_eqb, refl, sym, ap, subst, ◌∙◌, append_assoc, arith, ◌==◌, if◌then◌else◌}
use Rattle.std.specs.List.{AllByRecursion}
use Rattle.std.proofs.lemmas.List.{append-nil, length-append, length-map, map-append}
use Rattle.std.proofs.lemmas.List.Elements.{All-pop}
use Rattle.active_snapshot.specs.States.{ReaderView, first_read}
use Rattle.atomic_table.specs.Seated.{TableId}
use Rattle.commit_ledger.specs.Kept.{Kept}
use Rattle.config_db.specs.View.{DatabaseView}
use Rattle.session_shell.specs.declared.end.End.{End}
use Rattle.session_shell.specs.declared.turn.How.{How}
use Rattle.session_shell.specs.declared.turn.How.TheVariants.{Clean, SourceFault, SinkFault, InputFull, NoMemory}
use Rattle.session_shell.specs.declared.turn.Turn.{Turn}
use Rattle.turn_lock.specs.Passes.{ended_of, with_ended}
use Rattle.session_threads.specs.declared.seat.Seat.{Seat}
use Rattle.session_threads.specs.Results.{status_of, status_of_all}
use Rattle.session_threads.specs.Rows.{AreLeft, IsSeatOf, NoneServed, PairsFrom, SitsIn, pass_for, taken, with_all_ended}
use Rattle.session_threads.specs.Passes.{CallerPass}
use Rattle.session_threads.specs.Served.{HasReaders}
use Rattle.session_threads.proofs.ListLemmas.{all_back, all_front}

pub PairsFrom-then : {A B : Type 0} (Are : ℕ → A → B → Type 0) (number last : ℕ) (xs : List A) (ys : List B) (x : A) (y : B)
    → PairsFrom Are number xs ys → last ≡ number + length xs → Are last x y → PairsFrom Are number (xs ++ x ∷ []) (ys ++ y ∷ [])
PairsFrom-then Are number last [] [] x y pairs is are = (subst (λ k. Are k x y) (omega (arith, is)) are, tt)
PairsFrom-then Are number last [] (b ∷ ys) x y pairs is are = absurd pairs
PairsFrom-then Are number last (a ∷ xs) [] x y pairs is are = absurd pairs
PairsFrom-then Are number last (a ∷ xs) (b ∷ ys) x y pairs is are =
    (pairs.0, PairsFrom-then Are (number + 1) last xs ys x y pairs.1 (omega (arith, is)) are)

pub PairsFrom-length : {A B : Type 0} (Are : ℕ → A → B → Type 0) (number : ℕ) (xs : List A) (ys : List B) → PairsFrom Are number xs ys
    → length ys ≡ length xs
PairsFrom-length Are number [] [] pairs = refl
PairsFrom-length Are number [] (y ∷ ys) pairs = absurd pairs
PairsFrom-length Are number (x ∷ xs) [] pairs = absurd pairs
PairsFrom-length Are number (x ∷ xs) (y ∷ ys) pairs = ap suc (PairsFrom-length Are (number + 1) xs ys pairs.1)

-- the status of sessions, and of one more
pub status_then : (hows : List How) (how : How)
    → status_of_all (hows ++ how ∷ []) ≡ (if status_of_all hows == 0 then status_of how else status_of_all hows)
status_then [] Clean = refl
status_then [] SourceFault = refl
status_then [] SinkFault = refl
status_then [] InputFull = refl
status_then [] NoMemory = refl
status_then (Clean ∷ hows) how = status_then hows how
status_then (SourceFault ∷ hows) how = refl
status_then (SinkFault ∷ hows) how = refl
status_then (InputFull ∷ hows) how = refl
status_then (NoMemory ∷ hows) how = refl

module _ {S K C J : Type 0} where
  -- one more seat
  taken-then : (seats : List (Option (Seat S K C DatabaseView J))) (seat : Seat S K C DatabaseView J)
      → taken (seats ++ Some seat ∷ []) ≡ taken seats ++ seat ∷ []
  taken-then [] seat = refl
  taken-then (None ∷ seats) seat = taken-then seats seat
  taken-then (Some one ∷ seats) seat = ap (λ l. one ∷ l) (taken-then seats seat)

  with_all_ended-then : (pass : CallerPass) (seats : List (Seat S K C DatabaseView J)) (seat : Seat S K C DatabaseView J)
      → with_all_ended pass (seats ++ seat ∷ []) ≡ with_ended (with_all_ended pass seats) seat.pass
  with_all_ended-then pass [] seat = refl
  with_all_ended-then pass (one ∷ seats) seat = with_all_ended-then (with_ended pass one.pass) seats seat

  -- what the ended passes leave of the first one
  pub lock-with_all_ended : (pass : CallerPass) (seats : List (Seat S K C DatabaseView J))
      → (with_all_ended pass seats).lock ≡ pass.lock
  lock-with_all_ended pass [] = refl
  lock-with_all_ended pass (one ∷ seats) = lock-with_all_ended (with_ended pass one.pass) seats

  pub caller-with_all_ended : (pass : CallerPass) (seats : List (Seat S K C DatabaseView J))
      → (with_all_ended pass seats).caller ≡ pass.caller
  caller-with_all_ended pass [] = refl
  caller-with_all_ended pass (one ∷ seats) = caller-with_all_ended (with_ended pass one.pass) seats

  pub fixed-with_all_ended : (pass : CallerPass) (seats : List (Seat S K C DatabaseView J))
      → (with_all_ended pass seats).fixed ≡ pass.fixed
  fixed-with_all_ended pass [] = refl
  fixed-with_all_ended pass (one ∷ seats) = fixed-with_all_ended (with_ended pass one.pass) seats

  pub seen-with_all_ended : (pass : CallerPass) (seats : List (Seat S K C DatabaseView J))
      → (with_all_ended pass seats).seen ≡ pass.seen
  seen-with_all_ended pass [] = refl
  seen-with_all_ended pass (one ∷ seats) = seen-with_all_ended (with_ended pass one.pass) seats

  pub own-with_all_ended : (pass : CallerPass) (seats : List (Seat S K C DatabaseView J))
      → (with_all_ended pass seats).own ≡ pass.own
  own-with_all_ended pass [] = refl
  own-with_all_ended pass (one ∷ seats) = own-with_all_ended (with_ended pass one.pass) seats

  pub splits-with_all_ended : (pass : CallerPass) (seats : List (Seat S K C DatabaseView J))
      → (with_all_ended pass seats).splits ≡ pass.splits
  splits-with_all_ended pass [] = refl
  splits-with_all_ended pass (one ∷ seats) = splits-with_all_ended (with_ended pass one.pass) seats

  pub ended-with_all_ended : (pass : CallerPass) (seats : List (Seat S K C DatabaseView J))
      → (with_all_ended pass seats).ended ≡ pass.ended ++ map (λ seat. ended_of seat.pass) seats
  ended-with_all_ended pass [] = sym (append-nil pass.ended)
  ended-with_all_ended pass (one ∷ seats) = ended-with_all_ended (with_ended pass one.pass) seats
      ∙ append_assoc pass.ended (ended_of one.pass ∷ []) (map (λ seat. ended_of seat.pass) seats)

  -- no more seats are taken than there are
  taken_few : (seats : List (Option (Seat S K C DatabaseView J))) → length (taken seats) ≤ length seats
  taken_few [] = omega arith
  taken_few (None ∷ seats) = let few : length (taken seats) ≤ length seats = taken_few seats in omega arith
  taken_few (Some seat ∷ seats) = let few : length (taken seats) ≤ length seats = taken_few seats in omega arith

  -- there is room for what one more leaves
  pub room_left : {A : Type 0} (seats seats' : List (Option (Seat S K C DatabaseView J))) (place : Option (Seat S K C DatabaseView J))
      (list : List A) (of_seat : Seat S K C DatabaseView J → A) (capacity : ℕ) → seats' ≡ seats ++ place ∷ []
      → list ≡ map of_seat (taken seats) → length seats' ≤ capacity → length list < capacity
  room_left seats seats' place list of_seat capacity are is fits =
      let few : length (taken seats) ≤ length seats = taken_few seats in
      let size : length list ≡ length (taken seats) = ap length is ∙ length-map (taken seats) of_seat in
      let more : length seats' ≡ length seats + 1 = ap length are ∙ length-append seats (place ∷ []) in
      omega (arith, few, size, more, fits)

  -- the seats before the last one are of the lock, as all are
  pub seats_left : (lock : TableId) (seats seats' : List (Option (Seat S K C DatabaseView J)))
      (place : Option (Seat S K C DatabaseView J)) → All (IsSeatOf lock) seats' → seats' ≡ seats ++ place ∷ []
      → All (IsSeatOf lock) seats
  seats_left lock seats seats' place all are = (All-pop (IsSeatOf lock) seats' seats (Some place) are all).0

  -- the last seat is of the lock, as all are
  pub last_here : (lock : TableId) (seats seats' : List (Option (Seat S K C DatabaseView J)))
      (place : Option (Seat S K C DatabaseView J)) (seat : Seat S K C DatabaseView J) → All (IsSeatOf lock) seats'
      → seats' ≡ seats ++ place ∷ [] → place ≡ Some seat → seat.pass.lock ≡ lock
  last_here lock seats seats' place seat all are is =
      subst (IsSeatOf lock) is (All-pop (IsSeatOf lock) seats' seats (Some place) are all).1

  -- one more left
  pub AreLeft-then : (seats seats' : List (Option (Seat S K C DatabaseView J))) (place : Option (Seat S K C DatabaseView J))
      (seat : Seat S K C DatabaseView J) (pass mid last : CallerPass) (ends ends' : List (End S K C)) (turns turns' : List (List Turn))
      (status status' : ℕ) → AreLeft seats pass mid ends turns status → seats' ≡ seats ++ place ∷ [] → place ≡ Some seat
      → last ≡ with_ended mid seat.pass → ends' ≡ ends ++ seat.end ∷ [] → turns' ≡ turns ++ seat.turns ∷ []
      → status' ≡ (if status == 0 then status_of seat.how else status) → AreLeft seats' pass last ends' turns' status'
  AreLeft-then seats seats' place seat pass mid last ends ends' turns turns' status status' are items is ended more_ends more_turns how_is =
      let all : taken seats' ≡ taken seats ++ seat ∷ [] =
      ap taken items ∙ ap (λ p. taken (seats ++ p ∷ [])) is ∙ taken-then seats seat in
      record {
        passes = ended ∙ ap (λ p. with_ended p seat.pass) are.passes ∙ sym (with_all_ended-then pass (taken seats) seat)
            ∙ ap (with_all_ended pass) (sym all);
        ends_are = more_ends ∙ ap (λ l. l ++ seat.end ∷ []) are.ends_are
            ∙ sym (map-append (λ (s : Seat S K C DatabaseView J). s.end) (taken seats) (seat ∷ []))
            ∙ ap (map (λ (s : Seat S K C DatabaseView J). s.end)) (sym all);
        turns_are = more_turns ∙ ap (λ l. l ++ seat.turns ∷ []) are.turns_are
            ∙ sym (map-append (λ (s : Seat S K C DatabaseView J). s.turns) (taken seats) (seat ∷ []))
            ∙ ap (map (λ (s : Seat S K C DatabaseView J). s.turns)) (sym all);
        status_is = how_is ∙ ap (λ (n : ℕ). if n == 0 then status_of seat.how else n) are.status_is
            ∙ sym (status_then (map (λ s. s.how) (taken seats)) seat.how)
            ∙ ap status_of_all (sym (map-append (λ (s : Seat S K C DatabaseView J). s.how) (taken seats) (seat ∷ [])))
            ∙ ap (λ l. status_of_all (map (λ (s : Seat S K C DatabaseView J). s.how) l)) (sym all);
      }

  -- one more end sits in the seat that was made for it
  pub SitsIn-then : (opening : Kept) (first mid own : CallerPass) (ends ends' : List (End S K C))
      (seats seats' : List (Option (Seat S K C DatabaseView J))) (end : End S K C) (seat : Seat S K C DatabaseView J)
      → PairsFrom (SitsIn opening first) 1 ends seats → ends' ≡ ends ++ end ∷ [] → seats' ≡ seats ++ Some seat ∷ []
      → mid ≡ record first { splits = length ends } → own ≡ record mid { caller = mid.splits + 1; own = []; splits = 0; ended = [] }
      → seat.pass ≡ own → seat.end ≡ end → seat.reader ≡ first_read opening
      → PairsFrom (SitsIn opening first) 1 ends' seats'
  SitsIn-then opening first mid own ends ends' seats seats' end seat sits ends_are seats_are split made pass is starts =
      let number : length ends + 1 ≡ 1 + length ends = omega arith in
      let of_caller : seat.pass ≡ pass_for first (1 + length ends) =
      pass ∙ made ∙ ap (λ (p : CallerPass). record p { caller = p.splits + 1; own = []; splits = 0; ended = [] }) split
      ∙ ap (pass_for first) number in
      subst (λ l. PairsFrom (SitsIn opening first) 1 l seats') (sym ends_are)
      (subst (λ l. PairsFrom (SitsIn opening first) 1 (ends ++ end ∷ []) l) (sym seats_are)
      (PairsFrom-then (SitsIn opening first) 1 (1 + length ends) ends seats end (Some seat) sits refl (of_caller, is, starts)))

-- a reader was taken for an end: there is one for each of the ends that are left
pub HasReaders-taken : {E : Type 0} (opening : Kept) (ends ends' : List E) (end : E) (readers readers' : List ReaderView)
    (reader : ReaderView) → ends' ≡ ends ++ end ∷ [] → readers' ≡ readers ++ reader ∷ [] → HasReaders opening (length ends') readers'
    → HasReaders opening (length ends) readers × (reader ≡ first_read opening)
HasReaders-taken opening ends ends' end readers readers' reader ends_are readers_are has =
    let all : AllByRecursion (λ r. r ≡ first_read opening) (readers ++ reader ∷ []) =
    subst (AllByRecursion (λ r. r ≡ first_read opening)) readers_are has.1 in
    let many : length ends' ≡ length ends + 1 = ap length ends_are ∙ length-append ends (end ∷ []) in
    let more : length readers' ≡ length readers + 1 = ap length readers_are ∙ length-append readers (reader ∷ []) in (
      (
        omega (arith, has.0, many, more),
        all_front (λ (r : ReaderView). r ≡ first_read opening) readers (reader ∷ []) all,
      ),
      (all_back (λ (r : ReaderView). r ≡ first_read opening) readers (reader ∷ []) all).0,
    )

-- no session began
each_is : {E A : Type 0} (a : A) (ends : List E) → replicate (length ends) a ≡ map (λ (_ : E). a) ends
each_is a [] = refl
each_is a (end ∷ ends) = ap (λ l. a ∷ l) (each_is a ends)

status_none : {E : Type 0} (ends : List E) → (if length ends == 0 then 0 else 9) ≡ status_of_all (map (λ _. NoMemory) ends)
status_none [] = refl
status_none (end ∷ ends) = ap (λ b. if b then 0 else 9) (ne_eqb (length (end ∷ ends)) 0 (λ is. omega (arith, is)))

pub NoneServed-of : {E : Type 0} (ends : List E) (turns : List (List Turn)) (status : ℕ) → turns ≡ replicate (length ends) []
    → status ≡ (if length ends == 0 then 0 else 9) → NoneServed ends turns status
NoneServed-of ends turns status are is = record {
  no_turns = are ∙ each_is [] ends;
  status_is = is ∙ status_none ends;
}
