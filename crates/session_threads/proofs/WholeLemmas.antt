-- What all sessions of a run come to, once the lock is closed.
use Rattle.std.proofs.Common.{◌≡◌, ◌≢◌, ◌⊎◌, ◌+◌, ◌<◌, ◌≤◌, ℕ, zero, suc, List, [], ◌∷◌, ◌++◌, length}
use Rattle.std.proofs.Common.{map, take, drop, All, Contains, Option, None, Some}
use Rattle.std.proofs.Common.{true, false, inl, inr, ⊎_elim, eqb, eq-eqb, refl, sym, ap, subst, ◌∙◌, append_assoc, arith}
use mathlib.Core.List.{IsPrefix}
use Rattle.std.specs.Prelude.{Bool, count_by}
use Rattle.std.specs.List.{AllByRecursion}
use Rattle.std.proofs.lemmas.List.{length-map}
use Rattle.std.proofs.Math.Seq.{take-append_seam}
use Rattle.std.proofs.lemmas.List.Elements.{All-cons, All-nil, All-same}
use Rattle.active_snapshot.specs.States.{ReaderView}
use Rattle.atomic_table.specs.Seated.{TableId}
use Rattle.commit_journal.specs.Journal.{disks_of}
use Rattle.config_db.specs.Faults.{is_failed_command}
use Rattle.config_db.specs.View.{DatabaseView, opened}
use Rattle.session_history.specs.declared.history.Happened.{Happened}
use Rattle.session_history.specs.Events.{IsLegal, Leads}
use Rattle.session_shell.specs.declared.end.End.{End}
use Rattle.session_shell.specs.declared.turn.How.TheVariants.{NoMemory}
use Rattle.session_shell.specs.declared.turn.Turn.{Turn}
use Rattle.session_shell.specs.Transcript.{EndView, IsSession}
use Rattle.turn_lock.specs.declared.view.Ended.{Ended}
use Rattle.turn_lock.specs.Histories.{entries_by}
use Rattle.turn_lock.specs.Passes.{IsClosed, ended_of, first_pass}
use Rattle.session_threads.specs.declared.seat.Seat.{Seat}
use Rattle.session_threads.specs.declared.noted.Note.{Note}
use Rattle.session_threads.specs.declared.noted.Noted.{Noted}
use Rattle.session_threads.specs.Access.{Asker, asks_of}
use Rattle.session_threads.specs.Adding.{AddsUp, TurnsAreCounted, is_unready, unready_in}
use Rattle.session_threads.specs.Begun.{start_of}
use Rattle.session_threads.specs.History.{FollowsAsked, HasSession, known_first}
use Rattle.session_threads.specs.Looks.{HasLooked, HasTicked, TickerView}
use Rattle.session_threads.specs.Naming.{events_of-begins}
use Rattle.session_threads.specs.Noted.{caller_in, events_of, merged, notes_of}
use Rattle.session_threads.specs.Results.{IsResult, IsUnbegun, SessionResult, status_of_all, users_of_ends}
use Rattle.session_threads.specs.Rows.{AreLeft, IsSeatOf, NoneServed, Pairs, PairsFrom, SitsIn, pass_for, taken, with_all_ended}
use Rattle.session_threads.specs.Served.{AreServed, EachFrom, HasReaders, IsUnderway, ServedView}
use Rattle.session_threads.specs.Passes.{CallerPass, IsReady, KnowsOwn}
use Rattle.session_threads.specs.Sessions.{HasRun, IsSeated, ServesOne, ServesSeat, StaysOut}
use Rattle.session_threads.specs.Syncs.{WithoutBackup}
use Rattle.session_threads.specs.Passes.{WentOn, events_seen}
use Rattle.session_threads.specs.Ticks.{IsTickersPass, TicksOn}
use Rattle.session_threads.proofs.CountLemmas.{few_notes, notes_by, notes_from, rose_fewer}
use Rattle.session_threads.proofs.LaterLemmas.{IsSession-later}
use Rattle.session_threads.proofs.ListLemmas.{All-append, some_is}
use Rattle.session_threads.proofs.LogLemmas.{AddsUp-begun, AddsUp-none}
use Rattle.session_threads.proofs.NotedLemmas.{events_of-merged, few-events, notes_of-merged}
use Rattle.session_threads.proofs.PassLemmas.{none_by, not_kept, others_behind}
use Rattle.session_threads.proofs.RowLemmas.{PairsFrom-length, caller-with_all_ended, ended-with_all_ended, fixed-with_all_ended}
use Rattle.session_threads.proofs.RowLemmas.{lock-with_all_ended, own-with_all_ended, seen-with_all_ended, splits-with_all_ended}

pub Pairs-length : {A B : Type 0} (Are : A → B → Type 0) (xs : List A) (ys : List B) → Pairs Are xs ys → length ys ≡ length xs
Pairs-length Are [] [] pairs = refl
Pairs-length Are [] (y ∷ ys) pairs = absurd pairs
Pairs-length Are (x ∷ xs) [] pairs = absurd pairs
Pairs-length Are (x ∷ xs) (y ∷ ys) pairs = ap suc (Pairs-length Are xs ys pairs.1)

at_most_or_more : (a b : ℕ) → (a ≤ b) ⊎ (b < a)
at_most_or_more zero b = inl (omega arith)
at_most_or_more (suc a) zero = inr (omega arith)
at_most_or_more (suc a) (suc b) = ⊎_elim (λ (few : a ≤ b). inl (omega (arith, few))) (λ (more : b < a). inr (omega (arith, more)))
    (at_most_or_more a b)

not_both : true ≡ false → ⊥
not_both both = cc

-- where callers above a number have nothing in a history, nothing is of one of them
few_callers : (most : ℕ) (list : List Noted) → ((caller : ℕ) → most < caller → entries_by caller_in caller list ≡ [])
    → AllByRecursion (λ entry. caller_in entry ≤ most) list
few_callers most [] none = tt
few_callers most (entry ∷ list) none = (
  ⊎_elim (λ (few : caller_in entry ≤ most). few) (λ (more : most < caller_in entry).
      let isn't = (not_kept (eqb (caller_in entry) (caller_in entry)) entry (entries_by caller_in (caller_in entry) list)
      (none (caller_in entry) more)).0 in
      let both : true ≡ false = sym (eq-eqb (caller_in entry) (caller_in entry) refl) ∙ isn't in absurd (not_both both))
      (at_most_or_more (caller_in entry) most),
  few_callers most list
      (λ caller more. (not_kept (eqb (caller_in entry) caller) entry (entries_by caller_in caller list) (none caller more)).1),
)

-- the events that a longer history has more than a pass has seen are others', where the pass has all that is its caller's
others_after : (pass : CallerPass) (caller : ℕ) (history : List Noted) (begins : IsPrefix pass.seen history)
    → pass.caller ≡ caller → KnowsOwn pass → entries_by caller_in caller history ≡ pass.own
    → AllByRecursion (λ event. event.caller ≢ caller) (events_of begins.0)
others_after pass caller history begins is own all = others_behind caller pass.seen begins.0 pass.own
    (subst (λ k. entries_by caller_in k pass.seen ≡ pass.own) is own)
    (ap (entries_by caller_in caller) begins.1 ∙ all)

-- what holds of all that is kept of ended passes
each_ended : {S K C J : Type 0} (Is : Ended Noted → Type 0) (seats : List (Seat S K C DatabaseView J))
    → ((pass : Ended Noted) → Contains (map (λ seat. ended_of seat.pass) seats) pass → Is pass)
    → AllByRecursion (λ seat. Is (ended_of seat.pass)) seats
each_ended Is [] all = tt
each_ended Is (seat ∷ seats) all = (
  all (ended_of seat.pass) (0, omega arith, refl),
  each_ended Is seats (λ pass inside. all pass (suc inside.0, (let less = inside.1 in omega arith), inside.2)),
)

-- the first pass, before the ticker's turns
pub IsFirst-begun : (lock : TableId) (first : DatabaseView) (callers count : ℕ) (start pass : CallerPass)
    → start ≡ first_pass lock first callers → pass ≡ record start { splits = count } → IsTickersPass lock first pass
IsFirst-begun lock first callers count start pass begun split = subst (IsTickersPass lock first)
    (sym (split ∙ ap (λ (p : CallerPass). record p { splits = count }) begun))
    (record { here = refl; fixed = refl; nobodys = refl; own = refl })

module _ (J : Type 0) {S K C : Type 0} (view : End S K C → EndView) (limit : ℕ) (access : Bool) (first : DatabaseView) (lock : TableId)
    (start : CallerPass) (here : start.lock ≡ lock) (fixed : start.fixed ≡ Some first) (fresh : start.seen ≡ []) where
  abbrev Taken : Type 0
  Taken = Seat S K C DatabaseView J

  abbrev result_for : End S K C → Taken → SessionResult (End S K C)
  result_for end seat = record { how = seat.how; old = end; new = seat.end; turns = seat.turns }

  abbrev Serves : CallerPass → CallerPass → SessionResult (End S K C) → Type 0
  Serves old new result = ServesOne view limit access first old new result

  -- the session of an end was served, from the pass on that was split off for its caller
  abbrev IsServed : ℕ → End S K C → Taken → Type 0
  IsServed caller end seat = Serves (pass_for start caller) seat.pass (result_for end seat)

  -- the caller of an end, with its user where rights are asked
  abbrev asker_for : ℕ → End S K C → Asker
  asker_for caller end = record { opening = opened first; caller = caller; asks = asks_of access (view end).user }

  ready : (caller : ℕ) → 0 < caller → caller ≤ length first.users → IsReady lock first (pass_for start caller)
  ready caller some few = record {
    here = here;
    fixed = fixed;
    within = (some, few);
    own = ap (entries_by caller_in caller) fresh;
    legal = subst (λ (l : List Noted). IsLegal (opened first) (events_of l)) (sym fresh) (opened first, refl);
  }

  seated_from : (number : ℕ) (ends : List (End S K C)) (seats : List (Option Taken)) → 0 < number
      → number + length ends ≤ length first.users + 1 → PairsFrom (SitsIn first.opening start) number ends seats → All (IsSeated lock first) seats
  seated_from number [] [] some few pairs = All-nil (IsSeated lock first)
  seated_from number [] (seat ∷ seats) some few pairs = absurd pairs
  seated_from number (end ∷ ends) [] some few pairs = absurd pairs
  seated_from number (end ∷ ends) (None ∷ seats) some few pairs = absurd pairs.0
  seated_from number (end ∷ ends) (Some seat ∷ seats) some few pairs =
      All-cons (IsSeated lock first) (Some seat) seats
      (record {
        ready = subst (IsReady lock first) (sym pairs.0.0) (ready number some (omega (arith, few)));
        starts = pairs.0.2;
      })
      (seated_from (number + 1) ends seats (omega arith) (omega (arith, few)) pairs.1)

  -- each end's session was served, and its seat is of the lock
  served_from : (number : ℕ) (ends : List (End S K C)) (seats seats' : List (Option Taken)) → PairsFrom (SitsIn first.opening start) number ends seats
      → Pairs (ServesSeat view limit access first) seats seats'
      → PairsFrom IsServed number ends (taken seats') × All (IsSeatOf lock) seats'
  served_from number [] [] [] sits pairs = (tt, All-nil (IsSeatOf lock))
  served_from number [] [] (seat' ∷ seats') sits pairs = absurd pairs
  served_from number [] (seat ∷ seats) seats' sits pairs = absurd sits
  served_from number (end ∷ ends) [] seats' sits pairs = absurd sits
  served_from number (end ∷ ends) (None ∷ seats) seats' sits pairs = absurd sits.0
  served_from number (end ∷ ends) (Some seat ∷ seats) [] sits pairs = absurd pairs
  served_from number (end ∷ ends) (Some seat ∷ seats) (None ∷ seats') sits pairs = absurd pairs.0
  served_from number (end ∷ ends) (Some seat ∷ seats) (Some seat' ∷ seats') sits pairs =
      let more = served_from (number + 1) ends seats seats' sits.1 pairs.1 in
      let of_end : Serves seat.pass seat'.pass (result_for end seat') =
      subst (λ e. Serves seat.pass seat'.pass (result_for e seat')) sits.0.1 pairs.0 in (
        (subst (λ pass. Serves pass seat'.pass (result_for end seat')) sits.0.0 of_end, more.0),
        All-cons (IsSeatOf lock) (Some seat') seats' (pairs.0.goes.lock ∙ ap (λ (p : CallerPass). p.lock) sits.0.0 ∙ here) more.1,
      )

  abbrev results_of : List (End S K C) → List Taken → List (SessionResult (End S K C))
  results_of [] seats = []
  results_of (end ∷ ends) [] = []
  results_of (end ∷ ends) (seat ∷ seats) = result_for end seat ∷ results_of ends seats

  ends_of_results : (number : ℕ) (ends : List (End S K C)) (seats : List Taken) → PairsFrom IsServed number ends seats
      → map (λ result. result.old) (results_of ends seats) ≡ ends
  ends_of_results number [] seats pairs = refl
  ends_of_results number (end ∷ ends) [] pairs = absurd pairs
  ends_of_results number (end ∷ ends) (seat ∷ seats) pairs = ap (λ l. end ∷ l) (ends_of_results (number + 1) ends seats pairs.1)

  seats_of_results : {A : Type 0} (of_result : SessionResult (End S K C) → A) (of_seat : Taken → A)
      → ((end : End S K C) (seat : Taken) → of_result (result_for end seat) ≡ of_seat seat)
      → (number : ℕ) (ends : List (End S K C)) (seats : List Taken) → PairsFrom IsServed number ends seats
      → map of_result (results_of ends seats) ≡ map of_seat seats
  seats_of_results of_result of_seat same number [] [] pairs = refl
  seats_of_results of_result of_seat same number [] (seat ∷ seats) pairs = absurd pairs
  seats_of_results of_result of_seat same number (end ∷ ends) [] pairs = absurd pairs
  seats_of_results {A} of_result of_seat same number (end ∷ ends) (seat ∷ seats) pairs =
      ap (λ (a : A). a ∷ map of_result (results_of ends seats)) (same end seat)
      ∙ ap (λ l. of_seat seat ∷ l) (seats_of_results of_result of_seat same (number + 1) ends seats pairs.1)

  module _ (history : List Noted) where
    -- a history has of a pass's caller what the pass has as its own, and begins with what the pass has seen
    abbrev IsKnown : Ended Noted → Type 0
    IsKnown pass = (entries_by caller_in pass.caller history ≡ pass.own) × IsPrefix pass.seen history

    session_in : (caller : ℕ) (end : End S K C) (seat : Taken) → WentOn (pass_for start caller) seat.pass
        → IsKnown (ended_of seat.pass)
        → HasRun view limit access first (pass_for start caller) seat.pass (result_for end seat)
        ⊎ StaysOut (pass_for start caller) seat.pass (result_for end seat)
        → HasSession (asker_for caller end) limit (events_of history) seat.how seat.turns (view end) (view seat.end)
        ⊎ IsUnbegun (events_of history) caller (result_for end seat)
    session_in caller end seat goes known (inl run) = inl (record {
      before = [];
      after = run.after;
      later = run.later ++ events_of known.1.0;
      begins = sym (events_of-begins seat.pass.seen history known.1) ∙ ap (λ l. l ++ events_of known.1.0) run.begins
          ∙ append_assoc run.after.events run.later (events_of known.1.0);
      others_first = tt;
      none_later = All-append (λ (event : Happened). event.caller ≢ caller) run.later (events_of known.1.0) run.none_later
          (others_after seat.pass caller history known.1 goes.caller goes.own
          (subst (λ k. entries_by caller_in k history ≡ seat.pass.own) goes.caller known.0));
      session = subst (λ (l : List Noted). IsSession (FollowsAsked (asker_for caller end) (events_of history)) WithoutBackup limit seat.how
          seat.turns (view end) (view seat.end) (known_first (opened first) (events_of l)) run.after) fresh
          (subst (λ l. IsSession (FollowsAsked (asker_for caller end) l) WithoutBackup limit seat.how seat.turns (view end) (view seat.end)
          (known_first (opened first) (events_seen start)) run.after) (events_of-begins seat.pass.seen history known.1)
          (IsSession-later (asker_for caller end) (events_seen seat.pass) (events_of known.1.0) limit seat.how seat.turns (view end)
          (view seat.end) (known_first (opened first) (events_seen start)) run.after run.session));
    })
    session_in caller end seat goes known (inr out) = inr (record {
      how = out.how;
      same = out.same;
      no_turns = out.no_turns;
      no_events = none_by caller history
          (subst (λ k. entries_by caller_in k history ≡ seat.pass.own) goes.caller known.0 ∙ out.no_events);
    })

    results_from : (number : ℕ) (ends : List (End S K C)) (seats : List Taken) → PairsFrom IsServed number ends seats
        → AllByRecursion (λ seat. IsKnown (ended_of seat.pass)) seats
        → EachFrom (IsResult view (opened first) limit access (events_of history)) number (results_of ends seats)
    results_from number [] seats pairs known = tt
    results_from number (end ∷ ends) [] pairs known = tt
    results_from number (end ∷ ends) (seat ∷ seats) pairs known = (
      session_in number end seat pairs.0.goes known.0 pairs.0.session,
      results_from (number + 1) ends seats pairs.1 known.1,
    )

    -- the turns that found a disk not ready are no more than the notes of their callers
    turns_few : (number : ℕ) (ends : List (End S K C)) (seats : List Taken) → PairsFrom IsServed number ends seats
        → AllByRecursion (λ seat. IsKnown (ended_of seat.pass)) seats
        → unready_in (map (λ seat. seat.turns) seats) ≤ notes_from number (length seats) history
    turns_few number [] [] pairs known = omega arith
    turns_few number [] (seat ∷ seats) pairs known = absurd pairs
    turns_few number (end ∷ ends) [] pairs known = absurd pairs
    turns_few number (end ∷ ends) (seat ∷ seats) pairs known =
        let own : entries_by caller_in number history ≡ seat.pass.own =
        subst (λ k. entries_by caller_in k history ≡ seat.pass.own) pairs.0.goes.caller known.0.0 in
        let noted : length (notes_of []) + count_by is_unready seat.turns ≤ length (notes_of seat.pass.own) = pairs.0.noted in
        let here : count_by is_unready seat.turns ≤ notes_by number history =
        omega (arith, noted, ap (λ (l : List Noted). length (notes_of l)) own) in
        let more : unready_in (map (λ seat. seat.turns) seats) ≤ notes_from (number + 1) (length seats) history =
        turns_few (number + 1) ends seats pairs.1 known.1 in
        omega (arith, here, more)

-- a database whose readers were handed out began as it did
pub made_of : (first given : DatabaseView) (made : ServedView) → given ≡ record first { readers = [] }
    → made ≡ record { first = start_of given; database = given; notes = [] }
    → made ≡ record { first = start_of first; database = given; notes = [] }
made_of first given made is is_made =
    subst (λ (f : DatabaseView). made ≡ record { first = f; database = given; notes = [] }) (ap start_of is) is_made

-- the readers that were handed out
pub handed : (first : DatabaseView) (readers : List ReaderView) (count : ℕ)
    → HasReaders first.opening count first.readers → readers ≡ first.readers → HasReaders first.opening count readers
handed first readers count has is = subst (HasReaders first.opening count) (sym is) has

module _ (J : Type 0) {S K C : Type 0} (view : End S K C → EndView) (limit : ℕ) (access : Bool) (first : DatabaseView) where
  module _ (lock : TableId) (callers : ℕ) (start split : CallerPass) (database : DatabaseView) (made : ServedView)
      (is_made : made ≡ record { first = first; database = database; notes = [] }) (begins_so : start ≡ first_pass lock made.first callers)
      (ends : List (End S K C)) (is_split : split ≡ record start { splits = length ends })
      (row seats : List (Option (Seat S K C DatabaseView J))) (sits : PairsFrom (SitsIn first.opening start) 1 ends row) (lent : seats ≡ row)
      (users : first.users ≡ users_of_ends ends) where
    begun : start ≡ first_pass lock first callers
    begun = begins_so ∙ ap (λ (v : ServedView). first_pass lock v.first callers) is_made

    here : start.lock ≡ lock
    here = ap (λ (p : CallerPass). p.lock) begun

    fixed : start.fixed ≡ Some first
    fixed = ap (λ (p : CallerPass). p.fixed) begun

    fresh : start.seen ≡ []
    fresh = ap (λ (p : CallerPass). p.seen) begun

    sit : PairsFrom (SitsIn first.opening start) 1 ends seats
    sit = subst (λ l. PairsFrom (SitsIn first.opening start) 1 ends l) (sym lent) sits

    is_first : IsTickersPass lock first split
    is_first = IsFirst-begun lock first callers (length ends) start split begun is_split

    all_seated : All (IsSeated lock first) seats
    all_seated = let count : length first.users ≡ length ends = ap length users ∙ length-map ends (λ end. end.user) in
        seated_from J view limit access first lock start here fixed fresh 1 ends seats
        (omega arith) (omega (arith, count)) sit

    -- the sessions can be served, and the ticker can run
    pub can_serve : (x : DatabaseView) × IsTickersPass lock x split × All (IsSeated lock x) seats
    can_serve = (first, is_first, all_seated)

    module _ (gone : CallerPass) (seats' : List (Option (Seat S K C DatabaseView J))) (size : ℕ) (sized : length seats ≡ size)
        (serves : (x : DatabaseView) → IsTickersPass lock x split → All (IsSeated lock x) seats
        → Pairs (ServesSeat view limit access x) seats seats')
        (ticker ticker' : TickerView)
        (ticking : (x : DatabaseView) → IsTickersPass lock x split → TicksOn x split gone ticker ticker') where
      pairs : Pairs (ServesSeat view limit access first) seats seats'
      pairs = serves first is_first all_seated

      ticks : TicksOn first split gone ticker ticker'
      ticks = ticking first is_first

      -- the row, once its seats are given back
      abbrev back : List (Option (Seat S K C DatabaseView J))
      back = take size (seats' ++ drop (length seats') row)

      are_back : back ≡ seats'
      are_back = let whole : size ≡ length seats' =
          sym (Pairs-length (ServesSeat view limit access first) seats seats' pairs ∙ sized) in
          ap (λ n. take n (seats' ++ drop (length seats') row)) whole ∙ take-append_seam seats' (drop (length seats') row)

      served : PairsFrom (IsServed J view limit access first lock start here fixed fresh) 1 ends (taken seats')
      served = (served_from J view limit access first lock start here fixed fresh 1 ends seats seats' sit
          pairs).0

      pub all_here : All (IsSeatOf lock) back
      all_here = All-same (IsSeatOf lock) back seats' are_back
          (served_from J view limit access first lock start here fixed fresh 1 ends seats seats' sit pairs).1

      pub as_many : length back ≡ length ends
      as_many = ap length are_back ∙ Pairs-length (ServesSeat view limit access first) seats seats' pairs
          ∙ PairsFrom-length (SitsIn first.opening start) 1 ends seats sit

      pub gone_here : (gone.lock ≡ lock) × (gone.caller ≡ 0)
      gone_here = (
        ticks.goes.lock ∙ ap (λ (p : CallerPass). p.lock) is_split ∙ here,
        ticks.goes.caller ∙ ap (λ (p : CallerPass). p.caller) is_split ∙ ap (λ (p : CallerPass). p.caller) begun,
      )

      module _ (last : CallerPass) (ends' : List (End S K C)) (turns : List (List Turn)) (status : ℕ)
          (left_all : AreLeft back gone last ends' turns status) where
        are_left : AreLeft seats' gone last ends' turns status
        are_left = subst (λ l. AreLeft l gone last ends' turns status) are_back left_all

        passes : last ≡ with_all_ended gone (taken seats')
        passes = are_left.passes

        splits : last.splits ≡ length ends
        splits = ap (λ (p : CallerPass). p.splits) passes ∙ splits-with_all_ended gone (taken seats') ∙ ticks.goes.splits
            ∙ ap (λ (p : CallerPass). p.splits) is_split

        ended : last.ended ≡ map (λ seat. ended_of seat.pass) (taken seats')
        ended = ap (λ (p : CallerPass). p.ended) passes ∙ ended-with_all_ended gone (taken seats')
            ∙ ap (λ l. l ++ map (λ seat. ended_of seat.pass) (taken seats'))
            (ticks.goes.ended ∙ ap (λ (p : CallerPass). p.ended) is_split ∙ ap (λ (p : CallerPass). p.ended) begun)

        seen : last.seen ≡ gone.seen
        seen = ap (λ (p : CallerPass). p.seen) passes ∙ seen-with_all_ended gone (taken seats')

        own : last.own ≡ gone.own
        own = ap (λ (p : CallerPass). p.own) passes ∙ own-with_all_ended gone (taken seats')

        -- the first pass may close the lock
        pub closes : (last.lock ≡ lock) × (last.caller ≡ 0) × (length last.ended ≡ last.splits)
        closes = (
          ap (λ (p : CallerPass). p.lock) passes ∙ lock-with_all_ended gone (taken seats') ∙ gone_here.0,
          ap (λ (p : CallerPass). p.caller) passes ∙ caller-with_all_ended gone (taken seats') ∙ gone_here.1,
          ap length ended ∙ length-map (taken seats') (λ seat. ended_of seat.pass)
              ∙ PairsFrom-length (IsServed J view limit access first lock start here fixed fresh) 1 ends
              (taken seats') served ∙ sym splits,
        )

        module _ (value : ServedView)
            (closed : IsClosed (λ (v : ServedView). merged 0 v.database.events v.notes) caller_in (λ (v : ServedView). v.first) last value)
            (underway : IsUnderway value) (v : DatabaseView) (is : v ≡ value.database) where
          abbrev history : List Noted
          history = merged 0 value.database.events value.notes

          abbrev happened : List Happened
          happened = value.database.events

          are_events : events_of history ≡ happened
          are_events = events_of-merged 0 happened value.notes

          same_first : value.first ≡ first
          same_first = some_is (sym closed.is_fixed ∙ ap (λ (p : CallerPass). p.fixed) passes
              ∙ fixed-with_all_ended gone (taken seats') ∙ ticks.goes.fixed ∙ ap (λ (p : CallerPass). p.fixed) is_split ∙ fixed)

          begins : IsPrefix gone.seen history
          begins = subst (λ l. IsPrefix l history) seen closed.begins

          looked : HasTicked (opened first) ticker ticker' (events_of history)
          looked = record {
            seen = events_seen gone;
            later = events_of begins.0;
            begins = sym (events_of-begins gone.seen history begins);
            none_later = others_after gone 0 history begins gone_here.1 ticks.goes.own (closed.first_own ∙ own);
            looked = subst (λ (l : List Noted). HasLooked (opened first) ticker ticker' (events_of l) (events_seen gone))
                (ap (λ (p : CallerPass). p.seen) is_split ∙ fresh) ticks.looked;
          }

          known : AllByRecursion (λ seat. IsKnown J view limit access first lock start here fixed fresh
              history (ended_of seat.pass)) (taken seats')
          known = each_ended (IsKnown J view limit access first lock start here fixed fresh history)
              (taken seats') (λ pass inside.
              let among = subst (λ l. Contains l pass) (sym ended) inside in (closed.own pass among, closed.seen pass among))

          abbrev results : List (SessionResult (End S K C))
          results = results_of J view limit access first lock start here fixed fresh ends (taken seats')

          told : {A : Type 0} (of_result : SessionResult (End S K C) → A) (of_seat : Seat S K C DatabaseView J → A)
              → ((end : End S K C) (seat : Seat S K C DatabaseView J)
              → of_result (result_for J view limit access first lock start here fixed fresh end seat)
              ≡ of_seat seat) → map of_result results ≡ map of_seat (taken seats')
          told of_result of_seat same = seats_of_results J view limit access first lock start here fixed
              fresh of_result of_seat same 1 ends (taken seats') served

          -- no more turns found a disk not ready than there are notes
          unready : unready_in turns ≤ length value.notes
          unready =
              let few : unready_in (map (λ seat. seat.turns) (taken seats')) ≤ notes_from 1 (length (taken seats')) history =
              turns_few J view limit access first lock start here fixed fresh history 1 ends (taken seats') served known in
              omega (
                arith,
                ap unready_in are_left.turns_are,
                few,
                few_notes 1 (length (taken seats')) history,
                ap length (notes_of-merged 0 happened value.notes),
                length-map value.notes (λ (note : Note). note.caller),
              )

          pub AreServed-of : AreServed view limit access first ends ticker (record { ends = ends'; ticker = ticker'; turns = turns; database = v; status = status })
          AreServed-of = subst (λ w. AreServed view limit access first ends ticker (record { ends = ends'; ticker = ticker'; turns = turns; database = w; status = status })) (sym is) (record {
            leads = subst (λ v. Leads (opened v) happened value.database.state) same_first underway.leads;
            adds = subst (λ v. AddsUp happened v value.database) same_first underway.adds;
            noted = subst (λ v. TurnsAreCounted happened turns v value.database) same_first
                (rose_fewer (count_by is_failed_command happened + unready_in turns)
                (count_by is_failed_command happened + length value.notes) (disks_of value.first.journal)
                (disks_of value.database.journal) (omega (arith, unready)) underway.noted);
            results = results;
            old = ends_of_results J view limit access first lock start here fixed fresh 1 ends
                (taken seats') served;
            new = told (λ result. result.new) (λ seat. seat.end) (λ end seat. refl) ∙ sym are_left.ends_are;
            turned = told (λ result. result.turns) (λ seat. seat.turns) (λ end seat. refl) ∙ sym are_left.turns_are;
            each = subst (λ l. EachFrom (IsResult view (opened first) limit access l) 1 results) are_events
                (results_from J view limit access first lock start here fixed fresh history 1 ends (taken seats') served known);
            ticked = subst (λ l. HasTicked (opened first) ticker ticker' l) are_events looked;
            callers = subst (λ n. AllByRecursion (λ event. event.caller ≤ n) happened) splits
                (subst (λ l. AllByRecursion (λ event. event.caller ≤ last.splits) l) are_events
                (few-events last.splits history (few_callers last.splits history closed.no_other)));
            is_status = are_left.status_is
                ∙ ap status_of_all (sym (told (λ result. result.how) (λ seat. seat.how) (λ end seat. refl)));
          })

  -- what resulted from all sessions over how a database began resulted from them over the database
  pub AreServed-begun : (ends ends' : List (End S K C)) (ticker ticker' : TickerView) (turns : List (List Turn)) (v : DatabaseView)
      (status : ℕ)
      → AreServed view limit access (start_of first) ends ticker (record { ends = ends'; ticker = ticker'; turns = turns; database = v; status = status })
      → AreServed view limit access first ends ticker (record { ends = ends'; ticker = ticker'; turns = turns; database = v; status = status })
  AreServed-begun ends ends' ticker ticker' turns v status served = record {
    leads = served.leads;
    adds = AddsUp-begun v.events first v served.adds;
    noted = served.noted;
    results = served.results;
    old = served.old;
    new = served.new;
    turned = served.turned;
    each = served.each;
    ticked = served.ticked;
    callers = served.callers;
    is_status = served.is_status;
  }

  -- what resulted from all sessions over a database whose readers were handed out resulted from them over the database
  pub AreServed-handed : (given : DatabaseView) → given ≡ record first { readers = [] } → (ends ends' : List (End S K C))
      (ticker ticker' : TickerView) (turns : List (List Turn)) (v : DatabaseView) (status : ℕ)
      → AreServed view limit access given ends ticker (record { ends = ends'; ticker = ticker'; turns = turns; database = v; status = status })
      → AreServed view limit access first ends ticker (record { ends = ends'; ticker = ticker'; turns = turns; database = v; status = status })
  AreServed-handed given is ends ends' ticker ticker' turns v status all =
      let served : AreServed view limit access (record first { readers = [] }) ends ticker (record { ends = ends'; ticker = ticker'; turns = turns; database = v; status = status }) =
      subst (λ f. AreServed view limit access f ends ticker (record { ends = ends'; ticker = ticker'; turns = turns; database = v; status = status })) is all in
      record {
        leads = served.leads;
        adds = record {
          same = record { opening = served.adds.same.opening; users = served.adds.same.users };
          goes = served.adds.goes;
          called = served.adds.called;
          causes = served.adds.causes;
          counted = served.adds.counted;
        };
        noted = served.noted;
        results = served.results;
        old = served.old;
        new = served.new;
        turned = served.turned;
        each = served.each;
        ticked = served.ticked;
        callers = served.callers;
        is_status = served.is_status;
      }

  -- no session began
  abbrev none_for : End S K C → SessionResult (End S K C)
  none_for end = record { how = NoMemory; old = end; new = end; turns = [] }

  ends_of_none : (ends : List (End S K C)) → map (λ result. result.old) (map none_for ends) ≡ ends
  ends_of_none [] = refl
  ends_of_none (end ∷ ends) = ap (λ l. end ∷ l) (ends_of_none ends)

  ends_left : (ends : List (End S K C)) → map (λ result. result.new) (map none_for ends) ≡ ends
  ends_left [] = refl
  ends_left (end ∷ ends) = ap (λ l. end ∷ l) (ends_left ends)

  turns_of_none : (ends : List (End S K C)) → map (λ result. result.turns) (map none_for ends) ≡ map (λ end. []) ends
  turns_of_none [] = refl
  turns_of_none (end ∷ ends) = ap (λ l. [] ∷ l) (turns_of_none ends)

  hows_of_none : (ends : List (End S K C)) → map (λ result. result.how) (map none_for ends) ≡ map (λ end. NoMemory) ends
  hows_of_none [] = refl
  hows_of_none (end ∷ ends) = ap (λ l. NoMemory ∷ l) (hows_of_none ends)

  none_unready : (ends : List (End S K C)) → unready_in (map (λ end. []) ends) ≡ 0
  none_unready [] = refl
  none_unready (end ∷ ends) = omega (arith, none_unready ends)

  none_counted : (ends : List (End S K C)) (turns : List (List Turn)) (v : DatabaseView) → first.events ≡ []
      → turns ≡ map (λ end. []) ends → v ≡ first → TurnsAreCounted v.events turns first v
  none_counted ends turns v none is same =
      subst (λ (w : DatabaseView). TurnsAreCounted w.events turns first w) (sym same)
      (subst (λ l. TurnsAreCounted l turns first first) (sym none)
      (inr (inr (omega (arith, ap unready_in is, none_unready ends)))))

  none_from : (events : List Happened) → events ≡ [] → (number : ℕ) (ends : List (End S K C))
      → EachFrom (IsResult view (opened first) limit access events) number (map none_for ends)
  none_from events none number [] = tt
  none_from events none number (end ∷ ends) = (
    inr (record {
      how = refl;
      same = refl;
      no_turns = refl;
      no_events = subst (λ l. AllByRecursion (λ event. event.caller ≢ number) l) (sym none) tt;
    }),
    none_from events none (number + 1) ends,
  )

  pub AreServed-none : (ends ends' : List (End S K C)) (ticker ticker' : TickerView) (turns : List (List Turn)) (v : DatabaseView)
      (status : ℕ) → first.events ≡ [] → first.state ≡ opened first → NoneServed ends turns status → ends' ≡ ends → ticker' ≡ ticker
      → v ≡ first
      → AreServed view limit access first ends ticker (record { ends = ends'; ticker = ticker'; turns = turns; database = v; status = status })
  AreServed-none ends ends' ticker ticker' turns v status none starts unserved same_ends same_ticker same =
      let adds : AddsUp v.events first v =
      subst (λ (w : DatabaseView). AddsUp w.events first w) (sym same)
      (subst (λ l. AddsUp l first first) (sym none) (AddsUp-none first)) in
      let empty : v.events ≡ [] = ap (λ (w : DatabaseView). w.events) same ∙ none in
      record {
        leads = subst (λ (w : DatabaseView). Leads (opened first) w.events w.state) (sym same)
            (subst (λ l. Leads (opened first) l first.state) (sym none) starts);
        adds = adds;
        noted = none_counted ends turns v none unserved.no_turns same;
        results = map none_for ends;
        old = ends_of_none ends;
        new = ends_left ends ∙ sym same_ends;
        turned = turns_of_none ends ∙ sym unserved.no_turns;
        each = none_from v.events empty 1 ends;
        ticked = record {
          seen = [];
          later = [];
          begins = empty;
          none_later = tt;
          looked = record {
            beats = [];
            answers = [];
            called = inl refl;
            are_looks = record {
              beat_told = ap (λ (t : TickerView). t.due) same_ticker;
              clock_told = ap (λ (t : TickerView). t.coming) same_ticker;
              looks = refl;
            };
          };
        };
        callers = subst (λ l. AllByRecursion (λ event. event.caller ≤ length ends) l) (sym empty) tt;
        is_status = unserved.status_is ∙ ap status_of_all (sym (hows_of_none ends));
      }
