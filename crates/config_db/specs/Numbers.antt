-- The numbers of calls of the two disks, from event to event. This project's own.
pub use Rattle.commit_journal.specs.Spans.{AreAtMost, none_called}
pub use Rattle.commit_journal.specs.Held.{calls_of}
use Rattle.std.specs.Prelude.{List}
use Rattle.cfg_base.specs.declared.calls.Calls.{Calls}
use Rattle.commit_journal.specs.Spans.{AreRising as RiseBy}
use Rattle.session_history.specs.declared.history.Happened.{Happened}

-- the numbers by an event
abbrev pub calls_in : Happened → Calls
calls_in event = event.calls

-- no number falls from one event to the next, and none passes the last ones
abbrev pub AreRising : Calls → List Happened → Calls → Type 0
AreRising from events made = RiseBy calls_in from events made
