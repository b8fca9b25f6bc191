-- A backup behind one call of its list.
use Rattle.std.proofs.Common.{◌≡◌, ◌≤◌, ℕ, Bool, true, false, List, [], ◌∷◌, ◌++◌, Option, None, Some, refl, sym, ◌∙◌, ap, subst, arith}
use Rattle.std.specs.Option.{option_map}
use Rattle.cfg_base.specs.declared.calls.Calls.{Calls}
use Rattle.disk_model.specs.Pair.{DiskPair}
use Rattle.disk_model.specs.declared.disk.DiskDone.{DiskDone}
use Rattle.commit_journal.specs.Held.{calls_of}
use Rattle.commit_journal.specs.Journal.{IsInFlight, JournalView}
use Rattle.commit_journal.specs.Opening.{IsOpened}
use Rattle.commit_journal.specs.Pair.{first_of, second_of}
use Rattle.commit_journal.specs.Spans.{AreRising, last_calls, none_called}
use Rattle.commit_journal.proofs.RisingLemmas.{last_push, rising_more, rising_push}
use Rattle.commit_ledger.specs.declared.entry.Entry.{Entry}
use Rattle.commit_ledger.specs.Kept.{Kept}
use Rattle.commit_ledger.specs.Ready.{ReadyView, ready_for}
use Rattle.stored_ledger.specs.declared.change.Change.{Change}
use Rattle.stored_ledger.specs.Growing.{MakesList, SettlesList, answer_of}
use Rattle.stored_ledger.specs.Standing.{Stands, StandsBetween}
use Rattle.stored_ledger.specs.Stored.{IsStored}
use Rattle.stored_ledger.proofs.StandingLemmas.{between_flies, stored_stands}
use Rattle.sync_link.specs.declared.flight.Flight.{Flight}
use Rattle.sync_link.specs.declared.mark.Mark.{Mark}
use Rattle.sync_link.specs.Marks.{calls_in, mark_of}
use Rattle.sync_link.specs.Takes.{HasRoom}
use Rattle.sync_link.specs.Views.{CanAccept, HoldsIn, IsBackup, IsBegun, Making, Moves, SettlesIn, done_of, flight_by, flight_of, kept_by, landed_in}

-- what is in flight, where the change is known that it was to make
pub record IsMaking (change : Change) (flight : Option Making) : Type 0 where
  pub making : Making
  pub is : flight ≡ Some making
  pub same : making.change ≡ change

pub making_there : (change : Change) (flight : Option Making) → Some change ≡ option_map (λ (m : Making). m.change) flight → IsMaking change flight
making_there change None is = absurd (let no : Some change ≡ None = is in cc)
making_there change (Some making) is = record { making = making; is = refl; same = let same : Some change ≡ Some making.change = is in cc }

pub none_there : (flight : Option Making) → None ≡ option_map (λ (m : Making). m.change) flight → flight ≡ None
none_there None is = refl
none_there (Some making) is = absurd (let no : None ≡ Some making.change = is in cc)

-- the journal has something in flight then
pub making_flies : (change : Change) (j : JournalView) (kept : Kept) (flight : Option Making) → IsMaking change flight → HoldsIn j kept flight → IsInFlight j.flight
making_flies change j kept flight m has =
    let held : HoldsIn j kept (Some m.making) = subst (λ f. HoldsIn j kept f) m.is has in
    between_flies m.making.change j kept m.making.list held.1

-- no call was made yet
pub none_made : (j : JournalView) → (j.counting_calls ≡ 0) × (j.other_calls ≡ 0) → none_called ≡ calls_of j
none_made j made = by j.b_counts
  where
    by : (b : Bool) → none_called ≡ record { a = first_of b j.counting_calls j.other_calls; b = second_of b j.counting_calls j.other_calls }
    by true = ap (λ (n : ℕ). record { a = n; b = 0 }) (sym made.1) ∙ ap (λ (n : ℕ). record { a = j.other_calls; b = n }) (sym made.0)
    by false = ap (λ (n : ℕ). record { a = n; b = 0 }) (sym made.0) ∙ ap (λ (n : ℕ). record { a = j.counting_calls; b = n }) (sym made.1)

-- a backup as it starts
pub begun_backup : (disks : DiskPair) (limit : ℕ) (j : JournalView) (k : Kept) (ms : List Mark) (room : ℕ) → ms ≡ [] → IsOpened disks.a disks.b limit j → IsStored j k
    → IsBackup (record { files = j; kept = k; flight = None; marks = ms; room = room; events = 0 })
begun_backup disks limit j k ms room none opened stored =
    subst (λ l. IsBackup (record { files = j; kept = k; flight = None; marks = l; room = room; events = 0 })) (sym none)
    (record { has = stored_stands j k stored; rising = record { a = omega arith; b = omega arith }; at_rest = none_made j opened.no_calls })

pub begun : (disks : DiskPair) (limit : ℕ) (j : JournalView) (k : Kept) (ms : List Mark) (room : ℕ) → ms ≡ [] → IsOpened disks.a disks.b limit j → IsStored j k
    → IsBegun disks limit (record { files = j; kept = k; flight = None; marks = ms; room = room; events = 0 })
begun disks limit j k ms room none opened stored = record { opened = opened; stands = stored_stands j k stored; idle = refl; no_marks = none; no_events = refl }

pub stands_idle : (j : JournalView) (kept : Kept) (fl : Option Making) → fl ≡ None → HoldsIn j kept fl → Stands j kept
stands_idle j kept fl none has = subst (λ f. HoldsIn j kept f) none has

-- an entry that was made ready of a copy can be taken in
pub can_accept : (kept : Kept) (entry copy : Entry) (ready : ReadyView) → HasRoom kept entry → copy ≡ entry → ready ≡ ready_for kept copy → CanAccept kept ready
can_accept kept entry copy ready room copied is =
    let r : HasRoom kept copy = subst (λ e. HasRoom kept e) (sym copied) room in
    subst (λ x. CanAccept kept x) (sym is) (record { room = r.room; number = r.number; target = refl; one = r.one })

has_after : (change : Change) (answer : Option Bool) (k other : Kept) (j j' : JournalView) → k.count ≤ other.count → MakesList change answer k other j j'
    → HoldsIn j' (kept_by answer k other) (flight_by answer (Some (record { change = change; list = other })))
has_after change None k other j j' longer makes = (longer, makes.stands)
has_after change (Some true) k other j j' longer makes = makes.stands
has_after change (Some false) k other j j' longer makes = makes.stands

module _ (change : Change) (answer : Option Bool) (k k' other : Kept) (j j' : JournalView) (fl fl' : Option Making) (ms ms' : List Mark) (room room' ev : ℕ) (calls : Calls)
    (rising : AreRising calls_in none_called ms (calls_of j)) (at_rest : last_calls calls_in none_called ms ≡ calls_of j)
    (longer : k.count ≤ other.count) (makes : MakesList change answer k other j j')
    (told : calls ≡ calls_of j') (kept_is : k' ≡ kept_by answer k other) (flight_is : fl' ≡ flight_by answer (Some (record { change = change; list = other })))
    (marked : ms' ≡ ms ++ mark_of ev calls k'.count ∷ []) where
  backup_after : IsBackup (record { files = j'; kept = k'; flight = fl'; marks = ms'; room = room'; events = ev })
  backup_after = record {
    has = subst (λ f. HoldsIn j' k' f) (sym flight_is)
        (subst (λ kept. HoldsIn j' kept (flight_by answer (Some (record { change = change; list = other })))) (sym kept_is) (has_after change answer k other j j' longer makes));
    rising = subst (λ l. AreRising calls_in none_called l (calls_of j')) (sym marked)
        (rising_push calls_in none_called ms (mark_of ev calls k'.count) (calls_of j') (rising_more calls_in none_called ms (calls_of j) (calls_of j') makes.goes.calls rising) told);
    at_rest = ap (last_calls calls_in none_called) marked ∙ last_push calls_in none_called ms (mark_of ev calls k'.count) ∙ told;
  }

  moves_after : room' ≡ room
      → Moves change answer other (record { files = j; kept = k; flight = fl; marks = ms; room = room; events = ev }) (record { files = j'; kept = k'; flight = fl'; marks = ms'; room = room'; events = ev })
  moves_after room_is = record {
    kept_is = kept_is;
    flight_is = flight_is;
    no_fewer = longer;
    marked = marked ∙ ap (λ (c : Calls). ms ++ mark_of ev c k'.count ∷ []) told;
    events_are = refl;
    room_is = room_is;
    makes = makes;
    at_rest = at_rest;
    rising = rising;
  }

-- behind the settling of what was in flight
module _ (answer : Option Bool) (k k' : Kept) (j j' : JournalView) (fl' : Option Making) (ms ms' : List Mark) (room room' ev : ℕ) (calls : Calls) (told : calls ≡ calls_of j')
    (marked : ms' ≡ ms ++ mark_of ev calls k'.count ∷ []) where
  pub settled_backup : (change : Change) (fl : Option Flight) → IsMaking change (flight_of k fl) → SettlesList change answer j j'
      → IsBackup (record { files = j; kept = k; flight = flight_of k fl; marks = ms; room = room; events = ev })
      → k' ≡ landed_in answer k (flight_of k fl) → fl' ≡ flight_by answer (flight_of k fl)
      → IsBackup (record { files = j'; kept = k'; flight = fl'; marks = ms'; room = room'; events = ev })
  settled_backup change fl m s b kept_is flight_is =
      let making : Making = m.making in
      let is : flight_of k fl ≡ Some m.making = m.is in
      let same : m.making.change ≡ change = m.same in
      let has : HoldsIn j k (Some making) = subst (λ f. HoldsIn j k f) is b.has in
      let between : StandsBetween change j k making.list = subst (λ c. StandsBetween c j k making.list) same has.1 in
      backup_after change answer k k' making.list j j' (Some making) fl' ms ms' room room' ev calls b.rising b.at_rest has.0 (s.list k making.list between) told
      (kept_is ∙ ap (λ f. landed_in answer k f) is)
      (flight_is ∙ ap (λ f. flight_by answer f) is ∙ ap (λ c. flight_by answer (Some (record { change = c; list = making.list }))) same) marked

  pub settles : (change : Change) (fl : Option Flight) (d : DiskDone) → IsMaking change (flight_of k fl) → SettlesList change answer j j'
      → IsBackup (record { files = j; kept = k; flight = flight_of k fl; marks = ms; room = room; events = ev })
      → k' ≡ landed_in answer k (flight_of k fl) → fl' ≡ flight_by answer (flight_of k fl) → room' ≡ room → d ≡ done_of answer
      → SettlesIn (flight_of k fl) d (record { files = j; kept = k; flight = flight_of k fl; marks = ms; room = room; events = ev }) (record { files = j'; kept = k'; flight = fl'; marks = ms'; room = room'; events = ev })
  settles change fl d m s b kept_is flight_is room_is done_is =
      let making : Making = m.making in
      let is : flight_of k fl ≡ Some m.making = m.is in
      let same : m.making.change ≡ change = m.same in
      let has : HoldsIn j k (Some making) = subst (λ f. HoldsIn j k f) is b.has in
      let between : StandsBetween making.change j k making.list = has.1 in
      let s' : SettlesList making.change answer j j' = subst (λ c. SettlesList c answer j j') (sym same) s in
      subst (λ f. SettlesIn f d (record { files = j; kept = k; flight = flight_of k fl; marks = ms; room = room; events = ev }) (record { files = j'; kept = k'; flight = fl'; marks = ms'; room = room'; events = ev })) (sym is) (
        answer,
        done_is,
        moves_after making.change answer k k' making.list j j' (flight_of k fl) fl' ms ms' room room' ev calls b.rising b.at_rest has.0 (s'.list k making.list between) told
            (kept_is ∙ ap (λ f. landed_in answer k f) is) (flight_is ∙ ap (λ f. flight_by answer f) is) marked room_is,
      )

-- behind a call that was to make another list, with nothing in flight before it
module _ (change : Change) (done : DiskDone) (found : Option Bool) (k k' begun other : Kept) (j j' : JournalView) (fl fl' : Option Making) (ms ms' : List Mark) (room room' ev : ℕ) (calls : Calls)
    (b : IsBackup (record { files = j; kept = k; flight = fl; marks = ms; room = room; events = ev })) (longer : k.count ≤ other.count)
    (makes : MakesList change (answer_of done) k other j j')
    (found_is : found ≡ answer_of done) (same : begun ≡ other) (told : calls ≡ calls_of j')
    (kept_is : k' ≡ kept_by found k begun) (flight_is : fl' ≡ flight_by found (Some (record { change = change; list = begun }))) (marked : ms' ≡ ms ++ mark_of ev calls k'.count ∷ []) where
  kept_so : k' ≡ kept_by (answer_of done) k other
  kept_so = kept_is ∙ ap (λ a. kept_by a k begun) found_is ∙ ap (λ o. kept_by (answer_of done) k o) same

  flight_so : fl' ≡ flight_by (answer_of done) (Some (record { change = change; list = other }))
  flight_so = flight_is ∙ ap (λ a. flight_by a (Some (record { change = change; list = begun }))) found_is ∙ ap (λ o. flight_by (answer_of done) (Some (record { change = change; list = o }))) same

  pub made_backup : IsBackup (record { files = j'; kept = k'; flight = fl'; marks = ms'; room = room'; events = ev })
  made_backup = backup_after change (answer_of done) k k' other j j' fl fl' ms ms' room room' ev calls b.rising b.at_rest longer makes told kept_so flight_so marked

  pub makes_moves : room' ≡ room
      → Moves change (answer_of done) other (record { files = j; kept = k; flight = fl; marks = ms; room = room; events = ev }) (record { files = j'; kept = k'; flight = fl'; marks = ms'; room = room'; events = ev })
  makes_moves room_is = moves_after change (answer_of done) k k' other j j' fl fl' ms ms' room room' ev calls b.rising b.at_rest longer makes told kept_so flight_so marked room_is
