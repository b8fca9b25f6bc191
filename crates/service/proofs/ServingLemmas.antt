-- A run of mode serve, put together from the start, the sessions and the closing.
use Rattle.std.proofs.Common.{◌≡◌, ◌⊎◌, ◌≤◌, ◌<◌, ◌+◌, ⊎_elim, ℕ, zero, suc, Bool, true, false, cond, IsTrue, is_some, List, [], ◌++◌, length, map, refl, sym, ap, subst, ◌∙◌, arith, Some, slice_get, inl, inr}
use Rattle.std.specs.List.{AllByRecursion}
use Rattle.std.proofs.lemmas.Bool.{cases_lt}
use Rattle.std.proofs.lemmas.List.{append-nil, length-map}
use Rattle.std.proofs.lemmas.List.Sums.{sum_by-append}
use Rattle.std.specs.Prelude.{IsSome, count_by, ◌^◌, ◌-◌}
use Rattle.command_line.specs.declared.asked.Asked.{Asked}
use Rattle.commit_journal.specs.Journal.{Tell, calls_a, calls_b, disk_a, disk_b, disks_of}
use Rattle.commit_journal.specs.Pair.{first_of, second_of}
use Rattle.commit_ledger.specs.Kept.{Kept}
use Rattle.config_core.specs.declared.event.Outcome.TheVariants.{Fault}
use Rattle.config_core.specs.State.{State, opening_of}
use Rattle.config_db.specs.Closing.{IsHandedBack, SettlesLast}
use Rattle.cfg_base.specs.declared.calls.Calls.{Calls}
use Rattle.config_db.specs.Crash.{CallsOn, HasCalled, HaveCalled, IsCrashSafe}
use Rattle.config_db.specs.Faults.{FaultsAreCounted, RoseBy, is_failed_command, is_failed_other}
use Rattle.config_db.specs.Moves.{HasCause}
use Rattle.config_db.specs.Numbers.{AreRising, calls_of, none_called}
use Rattle.config_db.specs.Starting.{IsBegun}
use Rattle.config_db.specs.View.{DatabaseView, opened}
use Rattle.config_db.proofs.DiskLemmas.{tell_ab}
use Rattle.config_db.proofs.FaultLemmas.{counted_more, counted_none}
use Rattle.disk_model.specs.Disk.{History as DiskHistory}
use Rattle.disk_model.specs.Pair.{BothTell, DiskPair, FaultOnEither, NoneFell}
use Rattle.modes.specs.Modes.{start_status}
use Rattle.session_history.specs.declared.history.Happened.{Happened}
use Rattle.session_history.specs.Events.{Leads, StaysAccepted}
use Rattle.session_history.proofs.KeptLemmas.{WasKept-last_count}
use Rattle.session_shell.specs.declared.turn.How.{How}
use Rattle.stored_ledger.specs.declared.why.StartWhy.{StartWhy}
use Rattle.stored_ledger.specs.declared.why.StartWhy.TheVariants.{Exists, NotAJournal, Damaged, BadRecord, DiskFault, NoMemory}
use Rattle.stored_ledger.specs.Starting.{Explains, IsByBytes, IsFound, IsNotFound}
use Rattle.stored_ledger.specs.Stored.{SpellsKept}
use Rattle.session_threads.specs.Adding.{AddsUp, unready_in}
use Rattle.session_threads.specs.Looks.{HasTicked}
use Rattle.session_threads.specs.Results.{IsResult, status_of_all}
use Rattle.session_threads.specs.Served.{AreServed}
use Rattle.session_threads.specs.Syncs.{SaysAlone}
use Rattle.session_threads.proofs.ListLemmas.{All-weaker}
use Rattle.io_edge.proofs.RoseLemmas.{rose_since}
use Rattle.session_threads.proofs.LogLemmas.{AddsUp-then, rose_on}
use Rattle.service.specs.Run.{EachEnd, IsFaultless}
use Rattle.service.specs.ServedOver.{IsServedOver, status_over}
use Rattle.service.specs.Running.{IsServeRun}
use Rattle.service.specs.Serving.{HaveSessions, HaveNoFault, AreStored, AreTheirs, FrontsGo, HasHappened, HaveCauses, IsEnded, IsServed, status_at_end}
use Rattle.service.specs.World.{Told, Views, World}
use Rattle.service.proofs.GrowthLemmas.{each_turns, result_fronts, result_synced}
use Rattle.service.proofs.ListLemmas.{slice_get-map}
use Rattle.service.proofs.ModeLemmas.{refused_is_not_1}
use Rattle.service.proofs.RunLemmas.{quiet, quiet_status, status_is_not_1}
use Rattle.service.proofs.ServedLemmas.{EachFrom-at, longer, not_theirs, same_opened}

-- a count that rose in the last part of a run rose in all of it
rose_later : (p q r : DiskPair) → NoneFell p q → NoneFell q r → FaultOnEither q r → FaultOnEither p r
rose_later p q r first next (inl rose) = inl (rose_since p.a.faults q.a.faults r.a.faults first.0 next.0 rose)
rose_later p q r first next (inr rose) = inr (rose_since p.b.faults q.b.faults r.b.faults first.1 next.1 rose)

-- a count that rose by so many calls and one more rose
rose_by_more : (many : ℕ) (p q : DiskPair) → NoneFell p q → RoseBy (many + 1) p q → FaultOnEither p q
rose_by_more many p q fell (inl full) = inl (⊎_elim (λ (less : p.a.faults < 2 ^ 64 - 1). inl (omega (arith, less, full)))
    (λ (more : 2 ^ 64 - 1 ≤ p.a.faults). inr more) (cases_lt p.a.faults (2 ^ 64 - 1)))
rose_by_more many p q fell (inr (inl full)) = inr (⊎_elim (λ (less : p.b.faults < 2 ^ 64 - 1). inl (omega (arith, less, full)))
    (λ (more : 2 ^ 64 - 1 ≤ p.b.faults). inr more) (cases_lt p.b.faults (2 ^ 64 - 1)))
rose_by_more many p q fell (inr (inr rose)) = ⊎_elim (λ (less : p.a.faults < q.a.faults). inl (inl less))
    (λ (more : q.a.faults ≤ p.a.faults). inr (inl (omega (arith, more, rose)))) (cases_lt p.a.faults q.a.faults)

-- where so many failed, and then one more call
rose_once_more : (many : ℕ) (p q r : DiskPair) → NoneFell q r → RoseBy many p q → FaultOnEither q r → RoseBy (many + 1) p r
rose_once_more many p q r fell (inl full) rose = inl (omega (arith, full, fell.0))
rose_once_more many p q r fell (inr (inl full)) rose = inr (inl (omega (arith, full, fell.1)))
rose_once_more many p q r fell (inr (inr rises)) (inl (inl up)) = inr (inr (omega (arith, rises, up, fell.1)))
rose_once_more many p q r fell (inr (inr rises)) (inl (inr full)) = inl (omega (arith, full, fell.0))
rose_once_more many p q r fell (inr (inr rises)) (inr (inl up)) = inr (inr (omega (arith, rises, up, fell.0)))
rose_once_more many p q r fell (inr (inr rises)) (inr (inr full)) = inr (inl (omega (arith, full, fell.1)))

-- counts that rose by so many rose so since a moment before, too
rose_before : (many : ℕ) (p q r : DiskPair) → NoneFell p q → RoseBy many q r → RoseBy many p r
rose_before many p q r fell (inl full) = inl full
rose_before many p q r fell (inr (inl full)) = inr (inl full)
rose_before many p q r fell (inr (inr rises)) = inr (inr (omega (arith, rises, fell.0, fell.1)))

-- counts that didn't rise rose by none
none_rose : (many more : ℕ) (p q : DiskPair) → NoneFell p q → (FaultOnEither p q → ⊥) → RoseBy (many + more) p q → more ≡ 0
none_rose many zero p q fell quiet rose = refl
none_rose many (suc more) p q fell quiet rose =
    absurd (quiet (rose_by_more (many + more) p q fell (subst (λ n. RoseBy n p q) (omega arith) rose)))

-- the status at the end, of the status that the sessions came to
status_over_is : (fault : Bool) (status : ℕ) (hows : List How) → status ≡ status_of_all hows → status_over fault status ≡ status_at_end fault hows
status_over_is true status hows is = refl
status_over_is false status hows is = is

-- it isn't that of words that ask nothing
end_is_not_1 : (fault : Bool) (hows : List How) → status_at_end fault hows ≡ 1 → ⊥
end_is_not_1 true hows is = omega (arith, is)
end_is_not_1 false hows is = status_is_not_1 hows is

-- a start over disks that spell a list, and that don't fail, is refused only for want of memory
pub refused_for_memory : (spelled_once : (a b : List ℕ) (kept : Kept) (why : StartWhy) → SpellsKept a b kept → IsByBytes why → Explains a b why → ⊥)
    (before after : DiskPair) (why : StartWhy) → IsNotFound before why after → HaveNoFault before after
    → (start_status why ≡ 0) ⊎ (start_status why ≡ 9)
refused_for_memory spelled_once before after Exists not sound = absurd (not.not_there refl)
refused_for_memory spelled_once before after NotAJournal not sound = absurd (spelled_once _ _ sound.kept NotAJournal sound.spelled tt (not.explained sound.tell))
refused_for_memory spelled_once before after (Damaged offset kept computed) not sound = absurd (spelled_once _ _ sound.kept (Damaged offset kept computed) sound.spelled tt (not.explained sound.tell))
refused_for_memory spelled_once before after (BadRecord offset) not sound = absurd (spelled_once _ _ sound.kept (BadRecord offset) sound.spelled tt (not.explained sound.tell))
refused_for_memory spelled_once before after DiskFault not sound = absurd (sound.no_fault (not.cause.rose refl))
refused_for_memory spelled_once before after NoMemory not sound = inr refl

-- calls from a number on are calls from 0 on
called_from : (h h' : DiskHistory) (m number : ℕ) → m ≡ 0 → CallsOn h h' m number → HasCalled h h' number
called_from h h' m number at_0 (more, goes, told) = (more, goes, λ few. let is : number ≡ m + length more = told few (omega (arith, at_0)) in omega (arith, at_0, is))

zero_first : (b : Bool) (m n : ℕ) → m ≡ 0 → n ≡ 0 → first_of b m n ≡ 0
zero_first true m n one two = two
zero_first false m n one two = one

zero_second : (b : Bool) (m n : ℕ) → m ≡ 0 → n ≡ 0 → second_of b m n ≡ 0
zero_second true m n one two = one
zero_second false m n one two = two

module _ {E T D : Type 0} (see : Views E T D) (asked : Asked) (before after : World E T D) (told : Told) where
  -- the disks before and after
  abbrev given : DiskPair
  given = see.disks before.a before.b

  abbrev back : DiskPair
  back = see.disks after.a after.b

  module _ (first : DatabaseView) (theirs : map (λ end. (see.end end).user) before.ends ≡ asked.users)
      (begun : IsBegun given asked.users asked.limits.journal first)
      (over : IsServedOver see asked.limits.input asked.access before.ends before.ticker first after told)
      (one_state : (kept : Kept) (users : List (List ℕ)) (events : List Happened) (one other : State) → Leads (opening_of kept users) events one → Leads (opening_of kept users) events other → one ≡ other) where
    abbrev v : DatabaseView
    v = over.v

    abbrev last : DatabaseView
    last = over.closes.last

    abbrev opening : State
    opening = opening_of first.opening asked.users

    abbrev hows : List How
    hows = map (λ result. result.how) over.served.results

    settles : SettlesLast over.fault v last
    settles = over.closes.settles

    handed : IsHandedBack last told.history back
    handed = over.closes.handed

    abbrev served : AreServed see.end asked.limits.input asked.access first before.ends (see.ticker before.ticker)
        (record { ends = after.ends; ticker = see.ticker after.ticker; turns = told.turns; database = v; status = over.status })
    served = over.served

    opens_first : opened first ≡ opening
    opens_first = ap (opening_of first.opening) begun.users_are

    opens_last : opened last ≡ opening
    opens_last = same_opened v last settles.extends.same ∙ same_opened first v served.adds.same ∙ opens_first

    events_are : told.history.events.items ≡ v.events ++ settles.own
    events_are = handed.events ∙ settles.extends.grown

    whole : AddsUp (v.events ++ settles.own) first last
    whole = AddsUp-then 0 v.state.greatest v.events settles.own first v last served.adds settles.extends

    nobodys : AllByRecursion (λ (event : Happened). event.caller ≡ 0) settles.own
    nobodys = All-weaker _ (λ (event : Happened). event.caller ≡ 0) settles.own (λ event made. made.0) settles.extends.made

    sessions : HaveSessions see.end opening asked before.ends after.ends told.turns told.history.events.items hows
    sessions = record {
      results = served.results;
      old = served.old;
      new = served.new;
      turned = served.turned;
      ended = refl;
      each = λ k result is. subst (λ l. IsResult see.end opening asked.limits.input asked.access l (k + 1) result) (sym events_are)
          (longer see.end opening asked.limits.input asked.access v.events settles.own (k + 1) result (not_theirs (k + 1) 0 settles.own (λ none. omega (arith, none)) nobodys)
          (subst (λ o. IsResult see.end o asked.limits.input asked.access v.events (k + 1) result) opens_first
          (EachFrom-at (IsResult see.end (opened first) asked.limits.input asked.access v.events) 1 served.results k (k + 1) result served.each is (omega arith))));
    }

    as_many_users : length before.ends ≡ length asked.users
    as_many_users = sym (length-map before.ends (λ end. (see.end end).user)) ∙ ap length theirs

    are_theirs : AreTheirs opening (length asked.users) (see.ticker before.ticker) (see.ticker after.ticker) told.history.events.items
    are_theirs = record {
      asked = v.events;
      closing = settles.own;
      are = events_are;
      callers = subst (λ n. AllByRecursion (λ (event : Happened). event.caller ≤ n) v.events) as_many_users served.callers;
      ticked = subst (λ o. HasTicked o (see.ticker before.ticker) (see.ticker after.ticker) v.events) opens_first served.ticked;
      before = v.state;
      leads = subst (λ o. Leads o v.events v.state) opens_first served.leads;
      settles = settles.closing;
      made = settles.extends.made;
    }

    leads_last : Leads opening told.history.events.items last.state
    leads_last = subst (λ l. Leads opening l last.state) (sym handed.events) (subst (λ o. Leads o last.events last.state) opens_last handed.legal)

    happened : HasHappened first.opening asked.users (see.ticker before.ticker) (see.ticker after.ticker) told.history
    happened = record {
      opening = handed.opening ∙ ap Some (settles.extends.same.opening ∙ served.adds.same.opening);
      users_are = handed.users ∙ settles.extends.same.users ∙ served.adds.same.users ∙ begun.users_are;
      last = last.state;
      leads = leads_last;
      theirs = are_theirs;
      accepted = subst (λ l. StaysAccepted opening l) (sym handed.events) (subst (λ o. StaysAccepted o last.events) opens_last handed.accepted);
    }

    -- what was shown by views was kept at some moment of the run
    fronts : AllByRecursion (FrontsGo first.opening.count last.state.kept.count) told.turns
    fronts = subst (AllByRecursion (FrontsGo first.opening.count last.state.kept.count)) sessions.turned
        (each_turns (FrontsGo first.opening.count last.state.kept.count) sessions.results (λ k result is.
        result_fronts see.end asked.limits.input asked.access opening told.history.events.items last.state.kept.count
        (λ kept was. WasKept-last_count opening (one_state first.opening asked.users) told.history.events.items last.state kept leads_last was) (k + 1) result (sessions.each k result is)))

    -- no session has a backup
    synced : AllByRecursion (AllByRecursion SaysAlone) told.turns
    synced = subst (AllByRecursion (AllByRecursion SaysAlone)) sessions.turned (each_turns (AllByRecursion SaysAlone) sessions.results (λ k result is.
        result_synced see.end asked.limits.input asked.access opening told.history.events.items (k + 1) result (sessions.each k result is)))

    tells_a : back.a.tells ≡ given.a.tells
    tells_a = ap (λ (d : DiskPair). d.a.tells) handed.disks_are ∙ whole.goes.tells_a ∙ begun.opened.tells_a

    tells_b : back.b.tells ≡ given.b.tells
    tells_b = ap (λ (d : DiskPair). d.b.tells) handed.disks_are ∙ whole.goes.tells_b ∙ begun.opened.tells_b

    told_back : BothTell given → BothTell back
    told_back tell = (subst IsTrue (sym tells_a) tell.0, subst IsTrue (sym tells_b) tell.1)

    tells_first : BothTell given → Tell first.journal
    tells_first tell = tell_ab first.journal (subst IsTrue (sym begun.opened.tells_a) tell.0) (subst IsTrue (sym begun.opened.tells_b) tell.1)

    -- the calls since the start, as many as are reported
    called : BothTell given → HaveCalled (disks_of first.journal) back told.history.made
    called tell =
        let both = whole.called (tells_first tell) in
        subst (λ (d : DiskPair). HaveCalled (disks_of first.journal) d told.history.made) (sym handed.disks_are)
        (subst (λ (m : Calls). HaveCalled (disks_of first.journal) (disks_of last.journal) m) (sym handed.made) (record {
          a = called_from (disk_a first.journal).history (disk_a last.journal).history (calls_a first.journal) (calls_a last.journal)
              (zero_first first.journal.b_counts first.journal.counting_calls first.journal.other_calls begun.opened.no_calls.0 begun.opened.no_calls.1) both.a;
          b = called_from (disk_b first.journal).history (disk_b last.journal).history (calls_b first.journal) (calls_b last.journal)
              (zero_second first.journal.b_counts first.journal.counting_calls first.journal.other_calls begun.opened.no_calls.0 begun.opened.no_calls.1) both.b;
        }))

    stored : AreStored given (disks_of first.journal) opening last.state told.history back
    stored = record {
      tells_a = tells_a;
      tells_b = tells_b;
      called = called;
      rising = subst (λ m. AreRising none_called told.history.events.items m) (sym handed.made) (subst (λ l. AreRising none_called l (calls_of last.journal)) (sym handed.events) handed.rising);
      crash_safe = λ tell. subst (λ l. IsCrashSafe opening l told.history.made back.a.history back.b.history) (sym handed.events)
          (subst (λ o. IsCrashSafe o last.events told.history.made back.a.history back.b.history) opens_last (handed.crash_safe (told_back tell)));
      held = λ tell. handed.held (told_back tell);
    }

    -- the counts of the disks: to the start, to the sessions' end, and to the end
    to_start : NoneFell given (disks_of first.journal)
    to_start = (begun.opened.later_a, begun.opened.later_b)

    from_start : NoneFell (disks_of first.journal) back
    from_start = subst (NoneFell (disks_of first.journal)) (sym handed.disks_are) (whole.goes.faults_a, whole.goes.faults_b)

    -- no more events end with a fault than the counts rose by, from the disks that the start was handed on
    counted_by : (events : List Happened) (w : DatabaseView) → AddsUp events first w → FaultsAreCounted events given (disks_of w.journal)
    counted_by events w adds =
        counted_more [] events given (disks_of first.journal) (disks_of w.journal) adds.goes.faults_a adds.goes.faults_b
        (counted_none given (disks_of first.journal) begun.opened.later_a begun.opened.later_b) adds.counted

    counted : FaultsAreCounted told.history.events.items given back
    counted = subst (λ l. FaultsAreCounted l given back) (sym events_are)
        (subst (λ (d : DiskPair). FaultsAreCounted (v.events ++ settles.own) given d) (sym handed.disks_are) (counted_by (v.events ++ settles.own) last whole))

    -- and neither are those commands together with the turns that found a disk not ready, of which the closing has none
    unready : RoseBy (count_by is_failed_command told.history.events.items + unready_in told.turns) given back
    unready =
        let both : count_by is_failed_command (v.events ++ settles.own) ≡ count_by is_failed_command v.events + count_by is_failed_command settles.own =
        sum_by-append (λ (event : Happened). cond (is_failed_command event) 1 0) v.events settles.own in
        let many : (count_by is_failed_command v.events + unready_in told.turns) + count_by is_failed_command settles.own ≡ count_by is_failed_command (v.events ++ settles.own) + unready_in told.turns =
        omega (arith, both) in
        subst (λ l. RoseBy (count_by is_failed_command l + unready_in told.turns) given back) (sym events_are)
        (subst (λ (d : DiskPair). RoseBy (count_by is_failed_command (v.events ++ settles.own) + unready_in told.turns) given d) (sym handed.disks_are)
        (subst (λ n. RoseBy n given (disks_of last.journal)) many
        (rose_before ((count_by is_failed_command v.events + unready_in told.turns) + count_by is_failed_command settles.own) given (disks_of first.journal) (disks_of last.journal) to_start
        (rose_on (count_by is_failed_command v.events + unready_in told.turns) (count_by is_failed_command settles.own) (disks_of first.journal) (disks_of v.journal) (disks_of last.journal)
        (settles.extends.goes.faults_a, settles.extends.goes.faults_b) served.noted settles.extends.counted.commands))))

    causes : HaveCauses given back told.history.events.items told.turns
    causes = record {
      later = (omega (arith, to_start.0, from_start.0), omega (arith, to_start.1, from_start.1));
      causes = subst (AllByRecursion (λ (event : Happened). event.outcome ≡ Fault → FaultOnEither given back)) (sym events_are)
          (All-weaker (HasCause first.journal last.journal) (λ (event : Happened). event.outcome ≡ Fault → FaultOnEither given back) (v.events ++ settles.own)
          (λ event cause fault. rose_later given (disks_of first.journal) back to_start from_start
          (subst (FaultOnEither (disks_of first.journal)) (sym handed.disks_are) (cause fault))) whole.causes);
      counted = counted;
      unready = unready;
    }

    -- one call more failed than the events account for, where an entry is in flight still
    one_more : (p : Happened → Bool) → ((events : List Happened) (w : DatabaseView) → AddsUp events first w → RoseBy (count_by p events) given (disks_of w.journal))
        → IsSome last.state.flight → RoseBy (count_by p told.history.events.items + 1) given back
    one_more p so_many flying =
        let unsettled = settles.cause (settles.fault_is ∙ flying) in
        let same : told.history.events.items ≡ v.events = events_are ∙ ap (λ l. v.events ++ l) unsettled.0 ∙ append-nil v.events in
        subst (λ l. RoseBy (count_by p l + 1) given back) (sym same)
        (subst (λ (d : DiskPair). RoseBy (count_by p v.events + 1) given d) (sym handed.disks_are)
        (rose_once_more (count_by p v.events) given (disks_of v.journal) (disks_of last.journal)
        (settles.extends.goes.faults_a, settles.extends.goes.faults_b) (so_many v.events v served.adds) unsettled.1))

    is_ended : IsEnded given back last.state told.history.events.items hows told.status
    is_ended = record {
      commands = one_more is_failed_command (λ events w adds. (counted_by events w adds).commands);
      others = one_more is_failed_other (λ events w adds. (counted_by events w adds).others);
      status_is = over.status_is ∙ status_over_is over.fault over.status _ served.is_status ∙ ap (λ f. status_at_end f hows) settles.fault_is;
    }

    -- the sessions were served over the list that the disks held
    pub IsServed-of : IsFound given (disks_of first.journal) first.opening → IsServed see asked before after told
    unfolding happened
    IsServed-of found = record {
      kept = first.opening;
      start = disks_of first.journal;
      found = found;
      hows = hows;
      sessions = sessions;
      happened = happened;
      fronts = fronts;
      synced = synced;
      stored = stored;
      causes = causes;
      ended = is_ended;
      why = over.why;
    }

  -- mode serve doesn't come to the status of words that ask nothing
  pub serves_is_not_1 : IsServeRun see asked before after told → told.status ≡ 1 → ⊥
  serves_is_not_1 (inl refused) one = refused_is_not_1 refused.cause (sym refused.status_is ∙ one)
  serves_is_not_1 (inr served) one =
      end_is_not_1 (is_some served.happened.last.flight) served.hows (sym served.ended.status_is ∙ one)

  -- sessions that no fault disturbs, over disks that don't fail
  served_quietly : IsServed see asked before after told → HaveNoFault given back
      → EachEnd (λ old new. IsFaultless asked.limits.input (see.end old) (see.end new)) before.ends after.ends
      → (told.status ≡ 0) ⊎ (told.status ≡ 9)
  served_quietly served sound each = subst (λ n. (n ≡ 0) ⊎ (n ≡ 9)) (sym served.ended.status_is) (by_flight (is_some served.happened.last.flight) refl)
    where
      s : HaveSessions see.end (opening_of served.kept asked.users) asked before.ends after.ends told.turns told.history.events.items served.hows
      s = served.sessions

      each_quiet : (status_of_all served.hows ≡ 0) ⊎ (status_of_all served.hows ≡ 9)
      each_quiet = subst (λ hows. (status_of_all hows ≡ 0) ⊎ (status_of_all hows ≡ 9)) s.ended (quiet_status s.results (λ k result is.
          quiet see.end asked.limits.input asked.access (opening_of served.kept asked.users) told.history.events.items (k + 1) result (s.each k result is)
          (each k result.old result.new (subst (λ l. slice_get l k ≡ Some result.old) s.old (slice_get-map (λ r. r.old) s.results k result is))
          (subst (λ l. slice_get l k ≡ Some result.new) s.new (slice_get-map (λ r. r.new) s.results k result is)))))

      by_flight : (flying : Bool) → is_some served.happened.last.flight ≡ flying → (status_at_end flying served.hows ≡ 0) ⊎ (status_at_end flying served.hows ≡ 9)
      by_flight true is = absurd (sound.no_fault (rose_by_more (count_by is_failed_command told.history.events.items) given back served.causes.later (served.ended.commands is)))
      by_flight false is = each_quiet

  module _ (spelled_once : (a b : List ℕ) (kept : Kept) (why : StartWhy) → SpellsKept a b kept → IsByBytes why → Explains a b why → ⊥) where
    -- without a fault and within the limit the status is 0 or 9, and no turn finds a disk not ready
    pub serves_complete : IsServeRun see asked before after told → HaveNoFault given back
        → EachEnd (λ old new. IsFaultless asked.limits.input (see.end old) (see.end new)) before.ends after.ends
        → ((told.status ≡ 0) ⊎ (told.status ≡ 9)) × (unready_in told.turns ≡ 0)
    serves_complete (inl refused) sound each = (
      subst (λ n. (n ≡ 0) ⊎ (n ≡ 9)) (sym refused.status_is) (refused_for_memory spelled_once given back refused.cause refused.disks sound),
      ap unready_in refused.idle.no_turns,
    )
    serves_complete (inr served) sound each = (
      served_quietly served sound each,
      none_rose (count_by is_failed_command told.history.events.items) (unready_in told.turns) given back served.causes.later sound.no_fault served.causes.unready,
    )
