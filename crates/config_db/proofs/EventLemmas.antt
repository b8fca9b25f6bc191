-- One event of the database, put together: it stays a book, and the event is what is reported.
use Rattle.std.proofs.Common.{◌≡◌, ◌≤◌, ℕ, Bool, true, List, [], ◌∷◌, ◌++◌, refl, sym, ap, subst, ◌∙◌, inl, inr, ⊎_elim, Option, None, Some, is_some}
use Rattle.std.specs.Prelude.{IfSome, IsSome}
use Rattle.cfg_base.specs.declared.calls.Calls.{Calls}
use Rattle.disk_model.specs.Disk.{IsImage, state_of}
use Rattle.commit_ledger.specs.declared.entry.Entry.{Entry}
use Rattle.commit_ledger.specs.Kept.{Kept}
use Rattle.commit_journal.specs.Journal.{JournalView, LeavesBoth, Tell, a_of, b_of}
use Rattle.commit_journal.specs.Pair.{WasLeft}
use Rattle.commit_journal.proofs.RisingLemmas.{rising_more}
use Rattle.stored_ledger.specs.declared.change.Change.TheVariants.{Entry as EntryMore}
use Rattle.stored_ledger.specs.Growing.{KeepsLimit, SettlesList}
use Rattle.stored_ledger.specs.Stored.{SpellsWith}
use Rattle.config_core.specs.declared.event.Event.{Event}
use Rattle.config_core.specs.declared.event.Event.TheVariants.{Settle}
use Rattle.config_core.specs.declared.event.Outcome.{Outcome}
use Rattle.config_core.specs.declared.event.Outcome.TheVariants.{Done, Fault}
use Rattle.config_core.specs.declared.reply.Reply.{Reply}
use Rattle.config_core.specs.Machine.{Fits, Steps}
use Rattle.config_core.specs.Plan.{PreparedView, made_in}
use Rattle.config_core.specs.Prepared.{IsPrepared, applied, ended, replied}
use Rattle.config_core.specs.Serving.{Turned}
use Rattle.config_core.specs.Soundness.{IsSoundMade}
use Rattle.config_core.specs.State.{State, Made}
use Rattle.session_history.specs.declared.history.Happened.{Happened}
use Rattle.session_history.specs.Events.{Leads, is_command}
use Rattle.active_snapshot.specs.States.{WriterView}
use Rattle.config_db.specs.View.{DatabaseView, IsSameRun, opened}
use Rattle.config_db.specs.Numbers.{AreAtMost, calls_in, calls_of, none_called}
use Rattle.config_db.specs.Crash.{BothCalled, IsSafeWhile, Spelt}
use Rattle.config_db.specs.Disks.{GoesOn}
use Rattle.config_db.specs.Standing.{Stands}
use Rattle.config_db.specs.Writing.{entry_in, flight_after, kept_after}
use Rattle.config_db.specs.Shown.{IsShown, Shows, ShowsOn, ShowsSettled}
use Rattle.config_db.specs.Book.{IsBook}
use Rattle.config_db.specs.Added.{AddsOne, added_by}
use Rattle.config_db.specs.Appended.{HeldView, HoldsAdded, HoldsMade, HoldsSettled}
use Rattle.config_db.specs.Moves.{Happens, IsSettledBy, IsUnsettled, Turns, noted}
use Rattle.config_db.proofs.CalledLemmas.{agrees_a, agrees_b, called_none}
use Rattle.config_db.proofs.DiskLemmas.{goes_nowhere, tell_since}
use Rattle.config_db.proofs.SafeLemmas.{appends_safe, noted_safe, settles_safe}
use Rattle.config_db.proofs.MachineLemmas.{Leaves, flying, free_steps, kept_settled, made_follows, plan_leaves, put_off_leaves, put_off_turns, settling_fits, settling_leaves, settling_makes_none, settling_turns}
use Rattle.config_db.proofs.ShownLemmas.{settled_on, shows_on, shows_settled, shows_written, still_shown, written_on}
use Rattle.config_db.proofs.HeldLemmas.{adds_made, adds_settled, entry_is_settled, entry_settled, held_after, none_put_off, rest_made, rest_settled, same_rest, still_waits, waits_made, waits_settled}
use Rattle.config_db.proofs.BookLemmas.{book_after, book_unsettled, stands_found, stands_unfound}
use Rattle.config_db.proofs.WritingLemmas.{Wrote}

-- the database after an event
abbrev pub next : DatabaseView → JournalView → List Happened → State → WriterView → DatabaseView
next v j' events' s' w' = record { journal = j'; opening = v.opening; users = v.users; events = events'; state = s'; shown = w'; readers = v.readers }

pub next_same : (v : DatabaseView) (j' : JournalView) (events' : List Happened) (w' : WriterView) → j' ≡ v.journal → events' ≡ v.events → w' ≡ v.shown → next v j' events' v.state w' ≡ v
next_same v j' events' w' same_journal same_events same_shown =
    ap (λ j. next v j events' v.state w') same_journal ∙ ap (λ es. next v v.journal es v.state w') same_events ∙ ap (λ w. next v v.journal v.events v.state w) same_shown

none_done : (made : Option Made) (outcome : Outcome) → outcome ≡ Done → flight_after made outcome ≡ None
none_done None outcome is = refl
none_done (Some made) Done is = refl
none_done (Some made) Fault is = absurd (cc)

some_failed : (made : Option Made) (outcome : Outcome) → (made ≡ None → outcome ≡ Done) → outcome ≡ Fault → IsSome (flight_after made outcome)
some_failed None outcome calm is = absurd (let done = calm refl in cc)
some_failed (Some made) Done calm is = absurd (cc)
some_failed (Some made) Fault calm is = refl

-- what resulted from an event: the entry that it adds, and what is in flight
pub record Comes (caller moment : ℕ) (event : Event) (outcome : Outcome) (reply : Reply) (entry : Option Entry) (flight : Option Made) (v v' : DatabaseView) : Type 0 where
  pub book : IsBook v'
  pub happens : Happens caller moment event outcome reply v v'
  pub entry_is : added_by v.state.flight event outcome happens.turns.turned.made ≡ entry
  pub flight_is : v'.state.flight ≡ flight

module _ (v : DatabaseView) (book : IsBook v)
    (one_state : (events : List Happened) (s t : State) → Leads (opened v) events s → Leads (opened v) events t → s ≡ t) where
  -- the crash theorem after an event, from what a crash may leave once it has come
  abbrev Safe : JournalView → Happened → State → Type 0
  Safe j' e s' = Leads (opened v) (v.events ++ e ∷ []) s'
      → ((c d : List ℕ) → Tell j' → IsImage (state_of (a_of j')) c → IsImage (state_of (b_of j')) d → Spelt s' None c d)
      → Tell j' → IsSafeWhile (opened v) (v.events ++ e ∷ []) (calls_of j') (a_of j') (b_of j')

  -- what readers are shown after an event
  abbrev ShowsThen : JournalView → Happened → State → WriterView → Type 0
  ShowsThen j' e s' w' = Leads (opened v) (v.events ++ e ∷ []) s' → Shows (opened v) (v.events ++ e ∷ []) s' w'

  -- calls that only settled
  settles : (j' : JournalView) → GoesOn v.journal j' → (Tell v.journal → BothCalled v.journal j') → (Tell v.journal → LeavesBoth v.journal j' (WasLeft (a_of v.journal) (b_of v.journal)))
      → Tell j' → IsSafeWhile (opened v) v.events (calls_of j') (a_of j') (b_of j')
  settles j' goes called left t' =
      let t = tell_since v.journal j' goes t' in
      settles_safe (opened v) one_state v.events (calls_of v.journal) (calls_of j') (a_of v.journal) (b_of v.journal) (a_of j') (b_of j') (agrees_a v.journal j' (called t)) (agrees_b v.journal j' (called t))
      book.rising (book.safe t) (left t)

  -- an event after calls that only settled, or after none
  notes : (j' : JournalView) (e : Happened) (s' : State) → AreAtMost (calls_of v.journal) (calls_of j') → e.calls ≡ calls_of j' → (Tell j' → IsSafeWhile (opened v) v.events (calls_of j') (a_of j') (b_of j'))
      → Safe j' e s'
  notes j' e s' later told so_far leads now t few_a few_b =
      noted_safe (opened v) one_state v.events (calls_of j') (a_of j') (b_of j') (rising_more calls_in none_called v.events (calls_of v.journal) (calls_of j') later book.rising) (so_far t few_a few_b)
      s' e told leads (λ c d in_a in_b. now c d t in_a in_b)

  -- what is kept, with the entry that the event makes or without
  either_spelt : (e : Happened) (turned : Turned) (made : Option Made) (c d : List ℕ) → turned.made ≡ made → Steps v.state e.caller e.moment e.event e.outcome turned
      → SpellsWith c d v.state.kept (entry_in made) → Spelt v.state (Some e) c d
  either_spelt e turned None c d makes steps spells = inl spells
  either_spelt e turned (Some m) c d makes steps spells = ⊎_elim (λ old. inl old) (λ new. inr (m, inr (turned, steps, makes), new)) spells

  -- from what the machine and the journal did
  comes : (j' : JournalView) (events' : List Happened) (s' : State) (w' : WriterView) (caller moment : ℕ) (event : Event) (outcome : Outcome) (reply : Reply) (calls : Calls) (kept : Kept) (flight : Option Made)
      (entry : Option Entry) → calls ≡ calls_of j' → events' ≡ v.events ++ noted caller moment event outcome calls ∷ [] → (turns : Turns v.state caller moment event outcome reply s') → Leaves v.state s' kept flight
      → Stands j' kept (entry_in flight) → GoesOn v.journal j' → (Tell v.journal → BothCalled v.journal j') → (outcome ≡ Done → flight ≡ None) → (outcome ≡ Fault → IsSome flight)
      → Safe j' (noted caller moment event outcome (calls_of j')) s' → ShowsThen j' (noted caller moment event outcome (calls_of j')) s' w' → ShowsOn v.shown w'
      → (outcome ≡ Done → IfSome turns.turned.made (λ m. KeepsLimit v.state.kept m.entry j'))
      → added_by v.state.flight event outcome turns.turned.made ≡ entry → AddsOne v.state.kept entry kept
      → Comes caller moment event outcome reply entry flight v (next v j' events' s' w')
  comes j' events' s' w' caller moment event outcome reply calls kept flight entry told grown turns leaves stands goes called done failed safe shows on trims is_entry adds =
      let grown' : events' ≡ v.events ++ noted caller moment event outcome (calls_of j') ∷ [] = grown ∙ ap (λ c. v.events ++ noted caller moment event outcome c ∷ []) told in
      let same : IsSameRun v (next v j' events' s' w') = record { opening = refl; users = refl } in
      record {
        book = book_after v (next v j' events' s' w') caller moment event outcome reply kept flight book turns leaves grown' same goes.calls stands safe shows;
        happens = record {
          turns = turns;
          grown = grown';
          same = same;
          goes = goes;
          called = called;
          done = λ is. leaves.flight_is ∙ done is;
          failed = λ is. ap is_some leaves.flight_is ∙ failed is;
          shown = on;
          adds = subst (λ o. AddsOne v.state.kept o s'.kept) (sym is_entry) (subst (AddsOne v.state.kept entry) (sym leaves.kept_is) adds);
          trims = trims;
        };
        entry_is = is_entry;
        flight_is = leaves.flight_is;
      }

  -- nothing is in flight
  pub at_rest : v.state.flight ≡ None → Stands v.journal v.state.kept None
  at_rest free = subst (λ f. Stands v.journal v.state.kept (entry_in f)) free book.stands

  -- an event with nothing in flight
  pub carried : (j' : JournalView) (events' : List Happened) (s' : State) (w' : WriterView) (caller moment : ℕ) (event : Event) (outcome : Outcome) (reply : Reply) (calls : Calls) (plan : PreparedView)
      → v.state.flight ≡ None → Fits v.state caller moment event → IsPrepared v.state caller moment event plan
      → Wrote v.state.kept (made_in plan.effect) outcome v.journal j' → IsShown (made_in plan.effect) outcome v.shown w' → calls ≡ calls_of j' → s' ≡ applied plan outcome v.state → reply ≡ replied plan.effect plan.reply outcome
      → events' ≡ v.events ++ noted caller moment event outcome calls ∷ []
      → Comes caller moment event outcome reply (added_by None event outcome (made_in plan.effect)) (flight_after (made_in plan.effect) outcome) v (next v j' events' s' w')
  carried j' events' s' w' caller moment event outcome reply calls plan free fits prepared written shown told is replies grown =
      comes j' events' s' w' caller moment event outcome reply calls (kept_after v.state.kept (made_in plan.effect) outcome) (flight_after (made_in plan.effect) outcome)
      (added_by None event outcome (made_in plan.effect)) told grown
      (record { fits = fits; turned = ended plan outcome v.state; steps = free_steps v.state caller moment event plan outcome free fits prepared written.calm; state = is; replied = replies })
      leaves written.stands
      written.goes written.called (none_done (made_in plan.effect) outcome) (some_failed (made_in plan.effect) outcome written.calm) safe
      (λ leads. shows_written (opened v) v.events v.state v.shown book.shows (noted caller moment event outcome (calls_of j') ∷ []) s' leads (made_in plan.effect) outcome w' free shown leaves.kept_is leaves.flight_is)
      (written_on (made_in plan.effect) outcome v.shown w' shown) written.trims
      (ap (λ flight. added_by flight event outcome (made_in plan.effect)) free) (adds_made v.state.kept event outcome (made_in plan.effect) written.next)
    where
      leaves : Leaves v.state s' (kept_after v.state.kept (made_in plan.effect) outcome) (flight_after (made_in plan.effect) outcome)
      leaves = subst (λ t. Leaves v.state t (kept_after v.state.kept (made_in plan.effect) outcome) (flight_after (made_in plan.effect) outcome)) (sym is) (plan_leaves plan outcome v.state free written.calm)

      safe : Safe j' (noted caller moment event outcome (calls_of j')) s'
      safe leads now t' =
          let t = tell_since v.journal j' written.goes t' in
          appends_safe (opened v) one_state v.events (calls_of v.journal) (calls_of j') (a_of v.journal) (b_of v.journal) (a_of j') (b_of j') (agrees_a v.journal j' (written.called t)) (agrees_b v.journal j' (written.called t))
          book.rising (book.safe t) v.state s' (noted caller moment event outcome (calls_of j')) (λ c d. SpellsWith c d v.state.kept (entry_in (made_in plan.effect))) refl book.leads leads (book.at_rest free)
          (written.crash t)
          (λ c d. either_spelt (noted caller moment event outcome (calls_of j')) (ended plan outcome v.state) (made_in plan.effect) c d refl (free_steps v.state caller moment event plan outcome free fits prepared written.calm))
          (λ c d in_a in_b. now c d t' in_a in_b)

  module _ (some : IsSome v.state.flight) where
    made : Made
    made = (flying v.state.flight some).0

    is_made : v.state.flight ≡ Some made
    unfolding made
    is_made = (flying v.state.flight some).1

    here : Stands v.journal v.state.kept (Some made.entry)
    here = subst (λ f. Stands v.journal v.state.kept (entry_in f)) is_made book.stands

    made_sound : IsSoundMade v.state.kept v.state.greatest made
    made_sound = subst (λ f. IfSome f (IsSoundMade v.state.kept v.state.greatest)) is_made book.sound.flight

    -- a settling
    pub settled_so : (j' : JournalView) (events' : List Happened) (s' : State) (w' : WriterView) (caller moment : ℕ) (is_kept : Bool) (calls : Calls)
        → v.state.greatest ≤ moment → SettlesList EntryMore (Some is_kept) v.journal j' → ShowsSettled is_kept v.shown w' → calls ≡ calls_of j' → (by : IsSettledBy caller moment is_kept v.state s')
        → events' ≡ v.events ++ noted caller moment (Settle is_kept) Done calls ∷ []
        → Comes caller moment (Settle is_kept) Done (replied by.plan.effect by.plan.reply Done) (entry_settled v.state.flight is_kept) None v (next v j' events' s' w')
    settled_so j' events' s' w' caller moment is_kept calls no_earlier found shown told by grown =
        let turned = settling_turns v.state caller moment is_kept by.plan made is_made (settling_fits v.state caller moment is_kept some no_earlier) by.prepared in
        let leaves : Leaves v.state s' (kept_settled v.state.kept made is_kept) None =
        subst (λ t. Leaves v.state t (kept_settled v.state.kept made is_kept) None) (sym (by.is ∙ turned.state)) (settling_leaves v.state caller moment is_kept turned.turned made is_made turned.steps) in
        comes j' events' s' w' caller moment (Settle is_kept) Done (replied by.plan.effect by.plan.reply Done) calls (kept_settled v.state.kept made is_kept) None (entry_settled v.state.flight is_kept) told grown
        (record { fits = turned.fits; turned = turned.turned; steps = turned.steps; state = by.is ∙ turned.state; replied = turned.replied })
        leaves
        (stands_found v.journal j' v.state.kept made is_kept here found)
        found.goes found.called (λ done. refl) (λ failed. absurd (cc))
        (notes j' (noted caller moment (Settle is_kept) Done (calls_of j')) s' found.goes.calls refl (settles j' found.goes found.called found.crash))
        (λ leads. shows_settled (opened v) v.events v.state v.shown book.shows (noted caller moment (Settle is_kept) Done (calls_of j') ∷ []) s' leads made is_kept w' is_made shown leaves.kept_is leaves.flight_is)
        (settled_on is_kept v.shown w' shown)
        (λ done. subst (λ m. IfSome m (λ m. KeepsLimit v.state.kept m.entry j')) (sym (settling_makes_none v.state caller moment is_kept turned.turned made is_made turned.steps)) tt)
        (entry_is_settled v.state.flight made is_kept turned.turned.made is_made)
        (subst (λ f. AddsOne v.state.kept (entry_settled f is_kept) (kept_settled v.state.kept made is_kept)) (sym is_made)
        (adds_settled v.state.kept made is_kept (here.entry, made_follows v.state.kept v.state.greatest (Some made) made_sound)))

    -- a settling that failed
    pub unsettled_book : (j' : JournalView) → SettlesList EntryMore None v.journal j' → IsBook (next v j' v.events v.state v.shown)
    unsettled_book j' found =
        book_unsettled v j' book some found.goes.calls
        (subst (λ f. Stands j' v.state.kept (entry_in f)) (sym is_made) (stands_unfound v.journal j' v.state.kept made here found))
        (settles j' found.goes found.called found.crash)

    pub unsettled_so : (j' : JournalView) → SettlesList EntryMore None v.journal j' → IsUnsettled v (next v j' v.events v.state v.shown)
    unsettled_so j' found = record { state = refl; events = refl; same = record { opening = refl; users = refl }; goes = found.goes; called = found.called; rose = found.cause refl; shown = refl }

    -- a command while an entry is in flight
    pub put_off_so : (events' : List Happened) (s' : State) (caller moment : ℕ) (event : Event) (reply : Reply) (calls : Calls) (plan : PreparedView)
        → is_command event ≡ true → Fits v.state caller moment event → IsPrepared v.state caller moment event plan
        → calls ≡ calls_of v.journal → s' ≡ applied plan Fault v.state → reply ≡ replied plan.effect plan.reply Fault
        → events' ≡ v.events ++ noted caller moment event Fault calls ∷ [] → Comes caller moment event Fault reply None v.state.flight v (next v v.journal events' s' v.shown)
    put_off_so events' s' caller moment event reply calls plan asks fits prepared told is replies grown =
        let turned = put_off_turns v.state caller moment event plan made asks is_made fits prepared in
        let leaves : Leaves v.state s' v.state.kept v.state.flight =
        subst (λ t. Leaves v.state t v.state.kept v.state.flight) (sym (is ∙ turned.state)) (put_off_leaves v.state caller moment event turned.turned made asks is_made turned.steps) in
        comes v.journal events' s' v.shown caller moment event Fault reply calls v.state.kept v.state.flight None told grown
        (record { fits = turned.fits; turned = turned.turned; steps = turned.steps; state = is ∙ turned.state; replied = replies ∙ turned.replied })
        leaves
        book.stands (goes_nowhere v.journal) (λ t. called_none v.journal) (λ done. absurd (cc)) (λ failed. some)
        (notes v.journal (noted caller moment event Fault (calls_of v.journal)) s' (goes_nowhere v.journal).calls refl book.safe)
        (λ leads. shows_on (opened v) v.events v.state v.shown book.shows (noted caller moment event Fault (calls_of v.journal) ∷ []) s' leaves.kept_is leaves.flight_is)
        (still_shown v.shown v.shown refl refl) (λ done. absurd (cc)) (none_put_off v.state.flight made event turned.turned.made asks is_made) refl

-- what is held after an event: one with nothing in flight, a settling, and a command that is put off
pub held_carried : (caller moment : ℕ) (event : Event) (outcome : Outcome) (reply : Reply) (made : Option Made) (v w : DatabaseView) (h h' : HeldView)
    → Comes caller moment event outcome reply (added_by None event outcome made) (flight_after made outcome) v w → v.state.flight ≡ None → HoldsAdded (opened v) v.events v.state h
    → HoldsMade made outcome h h' → HoldsAdded (opened w) w.events w.state h'
held_carried caller moment event outcome reply made v w h h' comes free held holds =
    held_after caller moment event outcome reply v w comes.happens (added_by None event outcome made) h h' comes.entry_is held (rest_made event made outcome h h' holds)
    (waits_made made outcome v.state.flight w.state.flight h h' holds held.waits free comes.flight_is)

pub held_settled : (caller moment : ℕ) (is_kept : Bool) (reply : Reply) (v w : DatabaseView) (h h' : HeldView)
    → Comes caller moment (Settle is_kept) Done reply (entry_settled v.state.flight is_kept) None v w → IsSome v.state.flight → HoldsAdded (opened v) v.events v.state h
    → HoldsSettled is_kept h h' → HoldsAdded (opened w) w.events w.state h'
held_settled caller moment is_kept reply v w h h' comes some held holds =
    held_after caller moment (Settle is_kept) Done reply v w comes.happens (entry_settled v.state.flight is_kept) h h' comes.entry_is held
    (rest_settled v.state.flight is_kept h h' some holds held.waits) (waits_settled is_kept w.state.flight h h' holds)

pub held_put_off : (caller moment : ℕ) (event : Event) (reply : Reply) (v w : DatabaseView) (h : HeldView) → Comes caller moment event Fault reply None v.state.flight v w
    → HoldsAdded (opened v) v.events v.state h → HoldsAdded (opened w) w.events w.state h
held_put_off caller moment event reply v w h comes held =
    held_after caller moment event Fault reply v w comes.happens None h h comes.entry_is held (same_rest h.entries h.entries refl)
    (still_waits h h v.state.flight w.state.flight refl comes.flight_is held.waits)
