-- Notes among events: how the one list goes on, and that both parts of it come back.
use Rattle.std.proofs.Common.{◌≡◌, ◌≢◌, ◌≤◌, ◌<◌, ◌+◌, ℕ, suc, Bool, true, false, nat_le, if◌then◌else◌, List, [], ◌∷◌, ◌++◌, length}
use Rattle.std.proofs.Common.{refl, sym, ap, subst, ◌∙◌, append_assoc, arith}
use Rattle.std.specs.List.{AllByRecursion}
use Rattle.std.proofs.lemmas.List.{append-nil, length-append, length-map}
use Rattle.session_history.specs.declared.history.Happened.{Happened}
use Rattle.turn_lock.specs.Histories.{AddsOwn, AllBy}
use Rattle.session_threads.specs.declared.noted.Note.{Note}
use Rattle.session_threads.specs.declared.noted.Noted.{Noted}
use Rattle.session_threads.specs.declared.noted.Noted.TheVariants.{Event, Unready}
use Rattle.session_threads.specs.Naming.{events_of-append}
use Rattle.session_threads.specs.Noted.{AreUpTo, GoesOnBy, callers_of, caller_in, events_of, merged, notes_after, notes_of, notes_until}
use Rattle.session_threads.specs.Noted.{of_events, of_notes}
use Rattle.session_threads.proofs.ListLemmas.{All-weaker}

le_is : (a b : ℕ) → a ≤ b → nat_le a b ≡ true
le_is a b less = by_test (nat_le a b) refl
  where
    by_test : (t : Bool) → nat_le a b ≡ t → t ≡ true
    by_test true is = refl
    by_test false is = grind (arith, less, is)

more_is : (a b : ℕ) → b < a → nat_le a b ≡ false
more_is a b more = by_test (nat_le a b) refl
  where
    by_test : (t : Bool) → nat_le a b ≡ t → t ≡ false
    by_test true is = grind (arith, more, is)
    by_test false is = refl

of_notes-append : (xs ys : List Note) → of_notes (xs ++ ys) ≡ of_notes xs ++ of_notes ys
of_notes-append [] ys = refl
of_notes-append (note ∷ xs) ys = ap (λ (l : List Noted). Unready note.caller ∷ l) (of_notes-append xs ys)

-- where no note came after more than so many events, all are among those in front
all_until : (count : ℕ) (notes : List Note) → AreUpTo count notes → (notes_until count notes ≡ notes) × (notes_after count notes ≡ [])
all_until count [] up_to = (refl, refl)
all_until count (note ∷ notes) up_to =
    let here = le_is note.before count up_to.0 in
    let more = all_until count notes up_to.1 in (
      ap (λ (b : Bool). if b then note ∷ notes_until count notes else []) here ∙ ap (λ (l : List Note). note ∷ l) more.0,
      ap (λ (b : Bool). if b then notes_after count notes else note ∷ notes) here ∙ more.1,
    )

AreUpTo-more : (few many : ℕ) (notes : List Note) → few ≤ many → AreUpTo few notes → AreUpTo many notes
AreUpTo-more few many notes less up_to =
    All-weaker (λ (note : Note). note.before ≤ few) (λ (note : Note). note.before ≤ many) notes
    (λ note here. omega (arith, here, less)) up_to

after_up_to : (count most : ℕ) (notes : List Note) → AreUpTo most notes → AreUpTo most (notes_after count notes)
after_up_to count most [] up_to = tt
after_up_to count most (note ∷ notes) up_to = by_test (nat_le note.before count) (after_up_to count most notes up_to.1)
  where
    by_test : (b : Bool) → AreUpTo most (notes_after count notes)
        → AreUpTo most (if b then notes_after count notes else note ∷ notes)
    by_test true rest = rest
    by_test false rest = up_to

merged-no_notes : (count : ℕ) (events : List Happened) → merged count events [] ≡ of_events events
merged-no_notes count [] = refl
merged-no_notes count (event ∷ events) = ap (λ (l : List Noted). Event event ∷ l) (merged-no_notes (count + 1) events)

-- events that came after all notes stand behind them
notes_first : (count : ℕ) (more : List Happened) (notes : List Note) → AreUpTo count notes
    → merged count more notes ≡ of_notes notes ++ of_events more
notes_first count [] notes up_to = sym (append-nil (of_notes notes))
notes_first count (event ∷ more) notes up_to =
    let all = all_until count notes up_to in
    ap (λ (l : List Note). of_notes l ++ Event event ∷ merged (count + 1) more (notes_after count notes)) all.0
    ∙ ap (λ (l : List Note). of_notes notes ++ Event event ∷ merged (count + 1) more l) all.1
    ∙ ap (λ (l : List Noted). of_notes notes ++ Event event ∷ l) (merged-no_notes (count + 1) more)

-- more events stand at the end
pub merged-more_events : (count : ℕ) (events more : List Happened) (notes : List Note) → AreUpTo (count + length events) notes
    → merged count (events ++ more) notes ≡ merged count events notes ++ of_events more
merged-more_events count [] more notes up_to = notes_first count more notes (subst (λ (n : ℕ). AreUpTo n notes) (none_more count) up_to)
  where
    none_more : (n : ℕ) → n + 0 ≡ n
    none_more n = omega arith
merged-more_events count (event ∷ events) more notes up_to =
    let front : List Noted = of_notes (notes_until count notes) in
    let rest : List Note = notes_after count notes in
    ap (λ (l : List Noted). front ++ Event event ∷ l)
    (merged-more_events (count + 1) events more rest
    (subst (λ (n : ℕ). AreUpTo n rest) (one_more count (length events)) (after_up_to count _ notes up_to)))
    ∙ sym (append_assoc front (Event event ∷ merged (count + 1) events rest) (of_events more))
  where
    one_more : (a n : ℕ) → a + suc n ≡ (a + 1) + n
    one_more a n = omega arith

-- one more note that came after all events stands at the end
last_note : (count : ℕ) (notes : List Note) (note : Note) → nat_le note.before count ≡ false
    → (notes_until count (notes ++ note ∷ []) ≡ notes_until count notes)
    × (notes_after count (notes ++ note ∷ []) ≡ notes_after count notes ++ note ∷ [])
last_note count [] note more =
    (ap (λ (b : Bool). if b then note ∷ [] else []) more, ap (λ (b : Bool). if b then [] else note ∷ []) more)
last_note count (one ∷ notes) note more = by_test (nat_le one.before count) (last_note count notes note more)
  where
    by_test : (b : Bool) → (notes_until count (notes ++ note ∷ []) ≡ notes_until count notes)
        × (notes_after count (notes ++ note ∷ []) ≡ notes_after count notes ++ note ∷ [])
        → ((if b then one ∷ notes_until count (notes ++ note ∷ []) else []) ≡ (if b then one ∷ notes_until count notes else []))
        × ((if b then notes_after count (notes ++ note ∷ []) else one ∷ (notes ++ note ∷ []))
        ≡ (if b then notes_after count notes else one ∷ notes) ++ note ∷ [])
    by_test true rest = (ap (λ (l : List Note). one ∷ l) rest.0, rest.1)
    by_test false rest = (refl, refl)

pub merged-more_notes : (count : ℕ) (events : List Happened) (notes : List Note) (note : Note) → note.before ≡ count + length events
    → merged count events (notes ++ note ∷ []) ≡ merged count events notes ++ Unready note.caller ∷ []
merged-more_notes count [] notes note is = of_notes-append notes (note ∷ [])
merged-more_notes count (event ∷ events) notes note is =
    let last = last_note count notes note (more_is note.before count (omega (arith, is))) in
    let front : List Noted = of_notes (notes_until count notes) in
    let rest : List Note = notes_after count notes in
    ap (λ (l : List Note). of_notes l ++ Event event ∷ merged (count + 1) events (notes_after count (notes ++ note ∷ []))) last.0
    ∙ ap (λ (l : List Note). front ++ Event event ∷ merged (count + 1) events l) last.1
    ∙ ap (λ (l : List Noted). front ++ Event event ∷ l) (merged-more_notes (count + 1) events rest note (omega (arith, is)))
    ∙ sym (append_assoc front (Event event ∷ merged (count + 1) events rest) (Unready note.caller ∷ []))

-- both parts come back, and no more
no_events : (notes : List Note) → events_of (of_notes notes) ≡ []
no_events [] = refl
no_events (note ∷ notes) = no_events notes

pub events_of-merged : (count : ℕ) (events : List Happened) (notes : List Note) → events_of (merged count events notes) ≡ events
events_of-merged count [] notes = no_events notes
events_of-merged count (event ∷ events) notes =
    events_of-append (of_notes (notes_until count notes)) (Event event ∷ merged (count + 1) events (notes_after count notes))
    ∙ ap (λ (l : List Happened). l ++ event ∷ events_of (merged (count + 1) events (notes_after count notes)))
    (no_events (notes_until count notes))
    ∙ ap (λ (l : List Happened). event ∷ l) (events_of-merged (count + 1) events (notes_after count notes))

pub notes_of-append : (xs ys : List Noted) → notes_of (xs ++ ys) ≡ notes_of xs ++ notes_of ys
notes_of-append [] ys = refl
notes_of-append (Event event ∷ xs) ys = notes_of-append xs ys
notes_of-append (Unready caller ∷ xs) ys = ap (λ (l : List ℕ). caller ∷ l) (notes_of-append xs ys)

all_callers : (notes : List Note) → notes_of (of_notes notes) ≡ callers_of notes
all_callers [] = refl
all_callers (note ∷ notes) = ap (λ (l : List ℕ). note.caller ∷ l) (all_callers notes)

both_callers : (count : ℕ) (notes : List Note)
    → callers_of (notes_until count notes) ++ callers_of (notes_after count notes) ≡ callers_of notes
both_callers count [] = refl
both_callers count (note ∷ notes) = by_test (nat_le note.before count) (both_callers count notes)
  where
    by_test : (b : Bool) → callers_of (notes_until count notes) ++ callers_of (notes_after count notes) ≡ callers_of notes
        → callers_of (if b then note ∷ notes_until count notes else [])
        ++ callers_of (if b then notes_after count notes else note ∷ notes) ≡ callers_of (note ∷ notes)
    by_test true rest = ap (λ (l : List ℕ). note.caller ∷ l) rest
    by_test false rest = refl

pub notes_of-merged : (count : ℕ) (events : List Happened) (notes : List Note) → notes_of (merged count events notes) ≡ callers_of notes
notes_of-merged count [] notes = all_callers notes
notes_of-merged count (event ∷ events) notes =
    notes_of-append (of_notes (notes_until count notes)) (Event event ∷ merged (count + 1) events (notes_after count notes))
    ∙ ap (λ (l : List ℕ). l ++ notes_of (merged (count + 1) events (notes_after count notes))) (all_callers (notes_until count notes))
    ∙ ap (λ (l : List ℕ). callers_of (notes_until count notes) ++ l) (notes_of-merged (count + 1) events (notes_after count notes))
    ∙ both_callers count notes

by_kind : (list : List Noted) → length list ≡ length (events_of list) + length (notes_of list)
by_kind [] = refl
by_kind (Event event ∷ list) = let rest = by_kind list in omega (arith, rest)
by_kind (Unready caller ∷ list) = let rest = by_kind list in omega (arith, rest)

-- there are as many as there are events and notes
pub length-merged : (events : List Happened) (notes : List Note) → length (merged 0 events notes) ≡ length events + length notes
length-merged events notes = omega (
  arith,
  by_kind (merged 0 events notes),
  ap length (events_of-merged 0 events notes),
  ap length (notes_of-merged 0 events notes),
  length-map notes (λ (note : Note). note.caller),
)

-- the history went on by events and by notes
pub GoesOnBy-merged : (Says : List Happened → List Happened → Type 0) (more : List ℕ) (events events' : List Happened)
    (notes notes' : List Note) → Says events events'
    → notes_of (merged 0 events' notes') ≡ notes_of (merged 0 events notes) ++ more
    → GoesOnBy Says more (merged 0 events notes) (merged 0 events' notes')
GoesOnBy-merged Says more events events' notes notes' said noted = record {
  said = subst (λ l. Says l (events_of (merged 0 events' notes'))) (sym (events_of-merged 0 events notes))
      (subst (λ l. Says events l) (sym (events_of-merged 0 events' notes')) said);
  noted = noted;
}

-- the same, by events alone
pub GoesOnBy-events : (Says : List Happened → List Happened → Type 0) (events events' : List Happened) (notes : List Note)
    → Says events events' → GoesOnBy Says [] (merged 0 events notes) (merged 0 events' notes)
GoesOnBy-events Says events events' notes said = GoesOnBy-merged Says [] events events' notes notes said
    (notes_of-merged 0 events' notes ∙ sym (notes_of-merged 0 events notes) ∙ sym (append-nil (notes_of (merged 0 events notes))))

-- events of a caller are the caller's among notes too
all_by : (caller : ℕ) (own : List Happened) → AllByRecursion (λ event. event.caller ≡ caller) own
    → AllBy caller_in caller (of_events own)
all_by caller [] all = tt
all_by caller (event ∷ own) all = (all.0, all_by caller own all.1)

pub AddsOwn-merged : (caller : ℕ) (events own : List Happened) (notes : List Note) → AreUpTo (length events) notes
    → AllByRecursion (λ event. event.caller ≡ caller) own
    → AddsOwn caller_in caller (merged 0 events notes) (merged 0 (events ++ own) notes)
AddsOwn-merged caller events own notes up_to all = (
  of_events own,
  merged-more_events 0 events own notes (subst (λ (n : ℕ). AreUpTo n notes) (none_before (length events)) up_to),
  all_by caller own all,
)
  where
    none_before : (n : ℕ) → n ≡ 0 + n
    none_before n = omega arith

-- no note came after more events than there are, and so it stays where more events come
pub AreUpTo-append : (events own : List Happened) (notes : List Note) → AreUpTo (length events) notes
    → AreUpTo (length (events ++ own)) notes
AreUpTo-append events own notes up_to =
    AreUpTo-more (length events) (length (events ++ own)) notes (omega (arith, length-append events own)) up_to

-- others' entries have others' events
pub others-events : (caller : ℕ) (list : List Noted) → AllByRecursion (λ entry. caller_in entry ≢ caller) list
    → AllByRecursion (λ event. event.caller ≢ caller) (events_of list)
others-events caller [] others = tt
others-events caller (Event event ∷ list) others = (others.0, others-events caller list others.1)
others-events caller (Unready number ∷ list) others = others-events caller list others.1

-- entries of callers up to a number have such callers' events
pub few-events : (most : ℕ) (list : List Noted) → AllByRecursion (λ entry. caller_in entry ≤ most) list
    → AllByRecursion (λ event. event.caller ≤ most) (events_of list)
few-events most [] few = tt
few-events most (Event event ∷ list) few = (few.0, few-events most list few.1)
few-events most (Unready number ∷ list) few = few-events most list few.1
