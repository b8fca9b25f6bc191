-- What a pass and its reader name stays named as they go on, and what was given for a command is what a door may give.
use Rattle.std.specs.Prelude.{◌≡◌, ℕ, List, [], ◌∷◌, ◌++◌}
use Rattle.std.proofs.Common.{refl, sym, ap, subst, ◌∙◌, append_assoc}
use Rattle.std.proofs.lemmas.List.{append-nil}
use mathlib.Core.List.{IsPrefix}
use Rattle.commands.specs.declared.command.Command.{Command}
use Rattle.config_db.specs.declared.answer.Answered.TheVariants.{Kept as Done}
use Rattle.config_db.specs.View.{opened}
use Rattle.session_history.specs.declared.history.Happened.{Happened}
use Rattle.session_history.proofs.EventLemmas.{IsAsked-append}
use Rattle.session_shell.specs.declared.door.Given0.{Given0}
use Rattle.session_shell.specs.declared.door.Given0.TheVariants.{Kept as KeptAt, Seen, Denied, Unready, NoMemory}
use Rattle.session_shell.specs.declared.door.SyncedTurn.{SyncedTurn}
use Rattle.session_shell.specs.Shows.{PrintsWhole, SeesShow}
use Rattle.session_threads.specs.declared.noted.Noted.{Noted}
use Rattle.session_threads.specs.declared.noted.Noted.TheVariants.{Event, Unready}
use Rattle.session_threads.specs.Gates.{FollowsIn, GateView, NamesIn}
use Rattle.session_threads.specs.History.{HasEvent}
use Rattle.session_threads.specs.Noted.{events_of}
use Rattle.session_threads.specs.Passes.{events_seen}
use Rattle.session_threads.specs.Syncs.{WithoutBackup}

-- a list begins with itself
pub IsPrefix-same : {A : Type 0} (xs : List A) → IsPrefix xs xs
IsPrefix-same xs = ([], append-nil xs)

-- what begins a beginning of a list begins it
pub IsPrefix-then : {A : Type 0} (xs ys zs : List A) → IsPrefix xs ys → IsPrefix ys zs → IsPrefix xs zs
IsPrefix-then xs ys zs front back = (
  front.0 ++ back.0,
  sym (append_assoc xs front.0 back.0) ∙ ap (λ l. l ++ back.0) front.1 ∙ back.1,
)

-- the events of two lists, one after the other
pub events_of-append : (xs ys : List Noted) → events_of (xs ++ ys) ≡ events_of xs ++ events_of ys
events_of-append [] ys = refl
events_of-append (Event event ∷ xs) ys = ap (λ (l : List Happened). event ∷ l) (events_of-append xs ys)
events_of-append (Unready caller ∷ xs) ys = events_of-append xs ys

-- the events of a beginning of a list begin its events
pub events_of-begins : (xs ys : List Noted) (front : IsPrefix xs ys) → events_of xs ++ events_of front.0 ≡ events_of ys
events_of-begins xs ys front = sym (events_of-append xs front.0) ∙ ap events_of front.1

pub names_given : (d e : GateView) (command : Command) (answer : ℕ) (given : Given0)
    → FollowsIn d command answer given e → NamesIn e command answer given
names_given d e command answer (KeptAt place reply) goes = λ first fixed.
    subst (λ c. HasEvent (opened first) c (events_seen e.pass) command answer (Done place reply)) (sym goes.goes.caller)
    (goes.comes.turns first (sym goes.goes.fixed ∙ fixed)).turn.named
names_given d e command answer (Seen front reply) goes = record {
  list = e.reader.list;
  view = goes.comes.answers.read.view;
  begins = IsPrefix-same e.reader.list;
  is_last = goes.comes.answers.read.is_last;
  is_front = sym goes.comes.answers.gives.0;
  shows = goes.comes.answers.gives.1;
}
names_given d e command answer (Denied front right) goes = tt
names_given d e command answer (Unready front) goes = tt
names_given d e command answer NoMemory goes = tt

pub keeps_names : (d e : GateView) (command : Command) (answer : ℕ) (given : Given0)
    → FollowsIn d command answer given e → (asked : Command) (when : ℕ) (was : Given0)
    → NamesIn d asked when was → NamesIn e asked when was
keeps_names d e command answer given goes asked when (KeptAt place reply) named = λ first fixed.
    subst (λ c. HasEvent (opened first) c (events_seen e.pass) asked when (Done place reply)) (sym goes.goes.caller)
    (subst (λ events. HasEvent (opened first) d.pass.caller events asked when (Done place reply))
    (events_of-begins d.pass.seen e.pass.seen goes.goes.later)
    (IsAsked-append (opened first) (events_seen d.pass) (events_of goes.goes.later.0) place d.pass.caller when asked reply
    (named first (sym goes.goes.fixed ∙ fixed))))
keeps_names d e command answer given goes asked when (Seen front reply) named = record {
  list = named.list;
  view = named.view;
  begins = IsPrefix-then named.list d.reader.list e.reader.list named.begins goes.reads.later;
  is_last = named.is_last;
  is_front = named.is_front;
  shows = named.shows;
}
keeps_names d e command answer given goes asked when (Denied front right) named = tt
keeps_names d e command answer given goes asked when (Unready front) named = tt
keeps_names d e command answer given goes asked when NoMemory named = tt

pub keeps_synced : (d e : GateView) (synced : SyncedTurn) → WithoutBackup d synced e → (asked : Command) (when : ℕ) (was : Given0)
    → NamesIn d asked when was → NamesIn e asked when was
keeps_synced d e synced syncs asked when was named = subst (λ (g : GateView). NamesIn g asked when was) (sym syncs.1) named

pub shows_given : (d e : GateView) (command : Command) (answer : ℕ) (given : Given0)
    → FollowsIn d command answer given e → SeesShow command given
shows_given d e command answer (KeptAt place reply) goes = tt
shows_given d e command answer (Seen front reply) goes = goes.comes.is_show
shows_given d e command answer (Denied front right) goes = tt
shows_given d e command answer (Unready front) goes = tt
shows_given d e command answer NoMemory goes = tt

pub prints_given : (d e : GateView) (command : Command) (answer : ℕ) (given : Given0)
    → FollowsIn d command answer given e → PrintsWhole command given
prints_given d e command answer given goes = goes.prints
