-- The marks of a backup: what it says of each call of its list, and what a crash between two of them leaves on its disks. This
-- project's own.
use Rattle.std.specs.Prelude.{◌≤◌, ℕ, List, [], ◌∷◌}
use Rattle.cfg_base.specs.declared.calls.Calls.{Calls}
use Rattle.commit_journal.specs.Held.{calls_of}
use Rattle.commit_journal.specs.Journal.{JournalView, Tell, a_of, b_of}
use Rattle.commit_journal.specs.Spans.{AreSafe}
use Rattle.commit_ledger.specs.Kept.{Kept}
use Rattle.stored_ledger.specs.Stored.{SpellsAgreeing}
use Rattle.sync_link.specs.declared.mark.Mark.{Mark}
use Rattle.sync_link.specs.Lines.{Line, MayHave}

-- the mark of a call behind which the disks made so many calls and the list has so many entries
abbrev pub mark_of : ℕ → Calls → ℕ → Mark
mark_of events calls count = record { events = events; calls = calls; count = count }

abbrev pub calls_in : Mark → Calls
calls_in mark = mark.calls

-- how many entries the backup's list has from the last of these marks on, or this many
abbrev pub last_count : ℕ → List Mark → ℕ
last_count count [] = count
last_count count (mark ∷ marks) = last_count mark.count marks

-- the numbers of entries don't fall from mark to mark, and none is above the last one
abbrev pub CountsUp : ℕ → List Mark → ℕ → Type 0
CountsUp count [] last = count ≤ last
CountsUp count (mark ∷ marks) last = (count ≤ mark.count) × CountsUp mark.count marks last

-- how many events the master's history had at the last of these marks, or this many
abbrev pub last_events : ℕ → List Mark → ℕ
last_events events [] = events
last_events events (mark ∷ marks) = last_events mark.events marks

-- how many it had by the end of a span: at the mark that ends it, or behind the last one at that one
abbrev pub events_by : List Mark → List Mark → ℕ
events_by before [] = last_events 0 before
events_by before (mark ∷ after) = mark.events

-- two files spell what the backup may have by the end of a span, with no fewer entries than it had at its beginning
pub record SpeltBy (line : Line) (before after : List Mark) (c d : List ℕ) : Type 0 where
  pub kept : Kept
  pub spells : SpellsAgreeing c d kept
  pub no_fewer : last_count line.own.count before ≤ kept.count
  pub may : MayHave line (line.by (events_by before after)) kept

-- a crash at any moment so far leaves on the backup's disks a front of the master's list of that moment
abbrev pub IsSafe : Line → List Mark → JournalView → Type 0
IsSafe line marks j = Tell j → AreSafe calls_in (SpeltBy line) marks (calls_of j) (a_of j) (b_of j)
