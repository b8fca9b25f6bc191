-- Notes among the events of a run, as the lock shows them. This project's own.
use Rattle.std.specs.Prelude.{◌≡◌, ◌+◌, ◌≤◌, ℕ, nat_le, List, [], ◌∷◌, ◌++◌, map, if◌then◌else◌}
use Rattle.std.specs.List.{AllByRecursion}
use Rattle.session_history.specs.declared.history.Happened.{Happened}
use Rattle.session_threads.specs.declared.noted.Note.{Note}
use Rattle.session_threads.specs.declared.noted.Noted.{Noted}
use Rattle.session_threads.specs.declared.noted.Noted.TheVariants.{Event, Unready}

-- whose an event or a note is
abbrev pub caller_in : Noted → ℕ
caller_in (Event event) = event.caller
caller_in (Unready caller) = caller

-- the events among them
abbrev pub events_of : List Noted → List Happened
events_of [] = []
events_of (Event event ∷ rest) = event ∷ events_of rest
events_of (Unready caller ∷ rest) = events_of rest

-- whose the notes among them are
abbrev pub notes_of : List Noted → List ℕ
notes_of [] = []
notes_of (Event event ∷ rest) = notes_of rest
notes_of (Unready caller ∷ rest) = caller ∷ notes_of rest

-- whose these notes are
abbrev pub callers_of : List Note → List ℕ
callers_of notes = map (λ note. note.caller) notes

-- events alone, and notes alone
abbrev pub of_events : List Happened → List Noted
of_events events = map (λ event. Event event) events

abbrev pub of_notes : List Note → List Noted
of_notes notes = map (λ note. Unready note.caller) notes

-- the notes in front that came after at most so many events, and the others
abbrev pub notes_until : ℕ → List Note → List Note
notes_until count [] = []
notes_until count (note ∷ notes) = if nat_le note.before count then note ∷ notes_until count notes else []

abbrev pub notes_after : ℕ → List Note → List Note
notes_after count [] = []
notes_after count (note ∷ notes) = if nat_le note.before count then notes_after count notes else note ∷ notes

-- the one list: events that came after so many others, with the notes among them; each event stands behind the notes that came
-- after no more events than stand before it
abbrev pub merged : ℕ → List Happened → List Note → List Noted
merged count [] notes = of_notes notes
merged count (event ∷ events) notes =
    of_notes (notes_until count notes) ++ Event event ∷ merged (count + 1) events (notes_after count notes)

-- no note came after more than so many events
abbrev pub AreUpTo : ℕ → List Note → Type 0
AreUpTo count notes = AllByRecursion (λ note. note.before ≤ count) notes

-- the history went on by events of which this holds, and by notes of these callers
pub record GoesOnBy (Says : List Happened → List Happened → Type 0) (more : List ℕ) (before after : List Noted) : Type 0 where
  pub said : Says (events_of before) (events_of after)
  pub noted : notes_of after ≡ notes_of before ++ more
