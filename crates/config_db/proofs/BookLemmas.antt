-- A book that stays one as events come.
use Rattle.std.proofs.Common.{◌≡◌, ℕ, Bool, true, false, List, [], ◌∷◌, ◌++◌, length, refl, sym, ap, subst, ◌∙◌, Option, None, Some, is_some, inl, inr, ⊎_elim, arith}
use Rattle.std.specs.Prelude.{IfSome, IsSome}
use Rattle.std.proofs.lemmas.List.{length-map}
use Rattle.cfg_base.specs.declared.calls.Calls.{Calls}
use Rattle.disk_model.specs.Disk.{IsImage, state_of}
use Rattle.commit_ledger.specs.Kept.{Kept, append_entry}
use Rattle.commit_check.specs.Accepts.{Accepts}
use Rattle.commit_ledger.specs.declared.entry.Scheduled.{Scheduled}
use Rattle.commit_ledger.specs.Rules.{Follows as EntryFollows, IsWaiting}
use Rattle.commit_journal.specs.Journal.{JournalView, Tell, a_of, b_of}
use Rattle.commit_journal.specs.Spans.{InSpan}
use Rattle.commit_journal.proofs.RisingLemmas.{at_most_same, last_push, rising_more, rising_push}
use Rattle.commit_journal.proofs.SpanLemmas.{span_now}
use Rattle.config_core.specs.declared.event.Event.{Event}
use Rattle.config_core.specs.declared.event.Outcome.{Outcome}
use Rattle.config_core.specs.declared.reply.Reply.{Reply}
use Rattle.config_core.specs.Soundness.{IsSoundKept, IsSoundMade, IsSoundState, IsSoundWaiting}
use Rattle.config_core.specs.State.{State, Made, opening_of}
use Rattle.config_core.proofs.SoundLemmas.{steps_keep}
use Rattle.session_history.specs.declared.history.Happened.{Happened}
use Rattle.session_history.specs.Events.{Leads}
use Rattle.session_history.proofs.EventLemmas.{Leads-append}
use Rattle.stored_ledger.specs.declared.change.Change.TheVariants.{Entry as EntryMore}
use Rattle.stored_ledger.specs.Growing.{SettlesList}
use Rattle.stored_ledger.specs.Stored.{SpellsWith}
use Rattle.stored_ledger.proofs.StandingLemmas.{are_of}
use Rattle.active_snapshot.specs.States.{ReaderView, WriterView, first_written}
use Rattle.config_db.specs.View.{DatabaseView, IsSameRun, opened}
use Rattle.config_db.specs.Numbers.{AreAtMost, AreRising, calls_in, calls_of, none_called}
use Rattle.config_db.specs.Writing.{entry_in}
use Rattle.config_db.specs.Crash.{AreSpansSafe, IsSafeWhile, Spelt, last_calls}
use Rattle.config_db.specs.Standing.{Stands}
use Rattle.config_db.specs.Shown.{Shows}
use Rattle.config_db.specs.Book.{IsBook, IsOpening}
use Rattle.config_db.specs.Moves.{Turns, noted}
use Rattle.config_db.proofs.MachineLemmas.{Leaves, kept_settled, made_follows}
use Rattle.config_db.proofs.ShownLemmas.{shows_begin}
use Rattle.config_db.proofs.StandingLemmas.{stands_spelled}

-- a step leads on from the state before it
pub turn_leads : (s s' : State) (caller moment : ℕ) (event : Event) (outcome : Outcome) (reply : Reply) (calls : Calls) → Turns s caller moment event outcome reply s' → Leads s (noted caller moment event outcome calls ∷ []) s'
turn_leads s s' caller moment event outcome reply calls turns = (turns.fits, turns.turned, turns.steps, turns.state)

pub same_opened : (v v' : DatabaseView) → IsSameRun v v' → opened v' ≡ opened v
same_opened v v' same = ap (λ k. opening_of k v'.users) same.opening ∙ ap (opening_of v.opening) same.users

-- after a settling
pub stands_found : (j j' : JournalView) (kept : Kept) (m : Made) (is_kept : Bool) → Stands j kept (Some m.entry) → SettlesList EntryMore (Some is_kept) j j'
    → Stands j' (kept_settled kept m is_kept) None
stands_found j j' kept m true stands found = record { holds = (found.list kept (append_entry kept m.entry) stands.holds).stands; entry = tt }
stands_found j j' kept m false stands found = record { holds = (found.list kept (append_entry kept m.entry) stands.holds).stands; entry = tt }

-- and after one that failed
pub stands_unfound : (j j' : JournalView) (kept : Kept) (m : Made) → Stands j kept (Some m.entry) → SettlesList EntryMore None j j' → Stands j' kept (Some m.entry)
stands_unfound j j' kept m stands found = record { holds = (found.list kept (append_entry kept m.entry) stands.holds).stands; entry = stands.entry }

-- what is in flight may come next
pub flight_follows : (kept : Kept) (moment : ℕ) (flight : Option Made) → IfSome flight (IsSoundMade kept moment) → IfSome (entry_in flight) (EntryFollows kept)
flight_follows kept moment None sound = tt
flight_follows kept moment (Some m) sound = made_follows kept moment (Some m) sound

spelt_in : (s : State) (flight : Option Made) → s.flight ≡ flight → (c d : List ℕ) → SpellsWith c d s.kept (entry_in flight) → Spelt s None c d
spelt_in s None is c d spells = inl spells
spelt_in s (Some m) is c d spells = ⊎_elim (λ old. inl old) (λ new. inr (m, inl is, new)) spells

-- what a crash may leave now
pub spelt_now : (j : JournalView) (s : State) → Stands j s.kept (entry_in s.flight) → Tell j
    → (c d : List ℕ) → IsImage (state_of (a_of j)) c → IsImage (state_of (b_of j)) d → Spelt s None c d
spelt_now j s stands t c d in_a in_b =
    spelt_in s s.flight refl c d (stands_spelled j s.kept (entry_in s.flight) stands t c d in_a in_b)

-- one event more
pub book_after : (v v' : DatabaseView) (caller moment : ℕ) (event : Event) (outcome : Outcome) (reply : Reply) (kept : Kept) (flight : Option Made)
    → IsBook v → Turns v.state caller moment event outcome reply v'.state → Leaves v.state v'.state kept flight
    → v'.events ≡ v.events ++ noted caller moment event outcome (calls_of v'.journal) ∷ [] → IsSameRun v v' → AreAtMost (calls_of v.journal) (calls_of v'.journal)
    → Stands v'.journal kept (entry_in flight)
    → (Leads (opened v) (v.events ++ noted caller moment event outcome (calls_of v'.journal) ∷ []) v'.state
    → ((c d : List ℕ) → Tell v'.journal → IsImage (state_of (a_of v'.journal)) c → IsImage (state_of (b_of v'.journal)) d → Spelt v'.state None c d)
    → Tell v'.journal → IsSafeWhile (opened v) (v.events ++ noted caller moment event outcome (calls_of v'.journal) ∷ []) (calls_of v'.journal) (a_of v'.journal) (b_of v'.journal))
    → (Leads (opened v) (v.events ++ noted caller moment event outcome (calls_of v'.journal) ∷ []) v'.state
    → Shows (opened v) (v.events ++ noted caller moment event outcome (calls_of v'.journal) ∷ []) v'.state v'.shown)
    → IsBook v'
book_after v v' caller moment event outcome reply kept flight book turns leaves grown same later stands safe shows = record {
  began = subst IsSoundKept (sym same.opening) book.began;
  leads = subst (λ s. Leads s v'.events v'.state) (sym (same_opened v v' same)) (subst (λ es. Leads (opened v) es v'.state) (sym grown) leads);
  at_rest = λ free. subst (λ es. last_calls none_called es ≡ calls_of v'.journal) (sym grown) (last_push calls_in none_called v.events (noted caller moment event outcome (calls_of v'.journal)));
  safe = λ t.
      subst (λ s. IsSafeWhile s v'.events (calls_of v'.journal) (a_of v'.journal) (b_of v'.journal)) (sym (same_opened v v' same))
      (subst (λ es. IsSafeWhile (opened v) es (calls_of v'.journal) (a_of v'.journal) (b_of v'.journal)) (sym grown)
      (safe leads (λ c d t' in_a in_b. spelt_now v'.journal v'.state stands' t' c d in_a in_b) t));
  rising = subst (λ es. AreRising none_called es (calls_of v'.journal)) (sym grown)
      (rising_push calls_in none_called v.events (noted caller moment event outcome (calls_of v'.journal)) (calls_of v'.journal)
      (rising_more calls_in none_called v.events (calls_of v.journal) (calls_of v'.journal) later book.rising) refl);
  sound = sound;
  callers = leaves.callers ∙ book.callers ∙ ap length (sym same.users);
  stands = stands';
  shows = subst (λ s. Shows s v'.events v'.state v'.shown) (sym (same_opened v v' same)) (subst (λ es. Shows (opened v) es v'.state v'.shown) (sym grown) (shows leads));
}
  where
    leads : Leads (opened v) (v.events ++ noted caller moment event outcome (calls_of v'.journal) ∷ []) v'.state
    leads = Leads-append (opened v) v.events (noted caller moment event outcome (calls_of v'.journal) ∷ []) v.state v'.state book.leads
        (turn_leads v.state v'.state caller moment event outcome reply (calls_of v'.journal) turns)

    sound : IsSoundState v'.state
    sound = subst IsSoundState (sym turns.state) (steps_keep v.state caller moment event outcome turns.turned book.sound turns.fits turns.steps).0

    stands' : Stands v'.journal v'.state.kept (entry_in v'.state.flight)
    stands' = subst (λ k. Stands v'.journal k (entry_in v'.state.flight)) (sym leaves.kept_is)
        (subst (λ f. Stands v'.journal kept (entry_in f)) (sym leaves.flight_is) stands)

-- calls that found nothing out
pub book_unsettled : (v : DatabaseView) (j' : JournalView) → IsBook v → IsSome v.state.flight → AreAtMost (calls_of v.journal) (calls_of j') → Stands j' v.state.kept (entry_in v.state.flight)
    → (Tell j' → IsSafeWhile (opened v) v.events (calls_of j') (a_of j') (b_of j'))
    → IsBook (record { journal = j'; opening = v.opening; users = v.users; events = v.events; state = v.state; shown = v.shown; readers = v.readers })
book_unsettled v j' book some later stands safe = record {
  began = book.began;
  leads = book.leads;
  at_rest = λ free. absurd (let no : is_some v.state.flight ≡ false = ap is_some free in cc);
  safe = safe;
  rising = rising_more calls_in none_called v.events (calls_of v.journal) (calls_of j') later book.rising;
  sound = book.sound;
  callers = book.callers;
  stands = stands;
  shows = book.shows;
}

-- another writer that shows the same, and other readers
pub book_shown : (v : DatabaseView) (w : WriterView) (rs : List ReaderView) → IsBook v → Shows (opened v) v.events v.state w
    → IsBook (record { journal = v.journal; opening = v.opening; users = v.users; events = v.events; state = v.state; shown = w; readers = rs })
book_shown v w rs book shows = record {
  began = book.began;
  leads = book.leads;
  rising = book.rising;
  at_rest = book.at_rest;
  safe = book.safe;
  sound = book.sound;
  callers = book.callers;
  stands = book.stands;
  shows = shows;
}

-- how a database begins
pub book_begins : (j : JournalView) (opening : Kept) (users : List (List ℕ)) (state : State) (events : List Happened) (w : WriterView) (rs : List ReaderView)
    → IsOpening j opening → state ≡ opening_of opening users → events ≡ [] → w ≡ first_written opening
    → IsBook (record { journal = j; opening = opening; users = users; events = events; state = state; shown = w; readers = rs })
book_begins j opening users state events w rs begins start none shown =
    subst (λ es. IsBook (record { journal = j; opening = opening; users = users; events = es; state = state; shown = w; readers = rs })) (sym none)
    (subst (λ s. IsBook (record { journal = j; opening = opening; users = users; events = []; state = s; shown = w; readers = rs })) (sym start)
    (subst (λ x. IsBook (record { journal = j; opening = opening; users = users; events = []; state = opening_of opening users; shown = x; readers = rs })) (sym shown) (record {
      began = begins.sound;
      leads = refl;
      at_rest = λ free. sym begins.calls;
      safe = λ t. starts_safe t;
      rising = subst (λ m. AreAtMost none_called m) (sym begins.calls) (at_most_same none_called);
      sound = begins_sound;
      callers = length-map users _;
      stands = stands;
      shows = shows_begin opening users;
    })))
  where
    begins_sound : IsSoundState (opening_of opening users)
    begins_sound = record { kept = begins.sound; no_later = omega arith; flight = tt }

    stands : Stands j opening None
    stands = record { holds = record { records = begins.records; are = are_of opening begins.records begins.reads; holds = begins.holds }; entry = tt }

    zero_a : (calls_of j).a ≡ 0
    zero_a = ap (λ (m : Calls). m.a) begins.calls

    zero_b : (calls_of j).b ≡ 0
    zero_b = ap (λ (m : Calls). m.b) begins.calls

    spans : Tell j → AreSpansSafe (opening_of opening users) [] (calls_of j) (a_of j) (b_of j)
    spans t [] [] is c d in_a in_b s leads =
        subst (λ u. Spelt u None c d) (sym leads) (spelt_now j (opening_of opening users) stands t c d
        (span_now (a_of j) (calls_of j).a c (omega (arith, zero_a)) (subst (λ (n : ℕ). InSpan (a_of j) (calls_of j).a n (calls_of j).a c) (sym zero_a) in_a))
        (span_now (b_of j) (calls_of j).b d (omega (arith, zero_b)) (subst (λ (n : ℕ). InSpan (b_of j) (calls_of j).b n (calls_of j).b d) (sym zero_b) in_b)))
    spans t (x ∷ before) after is c d in_a in_b s leads = absurd (let e = ap length is in omega (arith, e))
    spans t [] (x ∷ after) is c d in_a in_b s leads = absurd (let e = ap length is in omega (arith, e))

    starts_safe : Tell j → IsSafeWhile (opening_of opening users) [] (calls_of j) (a_of j) (b_of j)
    starts_safe t few_a few_b = record { within_a = omega (arith, zero_a); within_b = omega (arith, zero_b); safe = spans t }

-- a scheduled commit that waits as the list's last entry has room for the one that it becomes
pub sound_waiting : (kept : Kept) (scheduled : Option Scheduled) → IfSome scheduled (IsWaiting Accepts kept) → IfSome scheduled (IsSoundWaiting kept)
sound_waiting kept None is = tt
sound_waiting kept (Some waiting) is = record {
  number = is.number;
  room = is.room;
  no_run = is.no_run;
  comment = record { short = is.is_scheduled.comment.short; printing = is.is_scheduled.comment.each };
}
