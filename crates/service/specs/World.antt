-- What a run is given and hands back, what is seen of it, and what is told beside it. This project's own.
use Rattle.std.specs.Prelude.{ℕ, Bool, List, Option}
use Rattle.disk_model.specs.Disk.{DiskView}
use Rattle.disk_model.specs.Pair.{DiskPair, pair_of}
use Rattle.io_edge.specs.Ends.{SinkView, SourceView}
use Rattle.modes.specs.declared.did.StartWhy0.{StartWhy0}
use Rattle.session_history.specs.declared.history.History.{History}
use Rattle.session_shell.specs.declared.end.End.{End}
use Rattle.session_shell.specs.declared.turn.Turn.{Turn}
use Rattle.session_shell.specs.Opened.{end_view}
use Rattle.session_shell.specs.Transcript.{EndView}
use Rattle.session_threads.specs.declared.ticking.Ticker.{Ticker}
use Rattle.session_threads.specs.Looks.{TickerView, ticker_view}
use Rattle.service.specs.declared.closed.Closed.{Closed}

-- the objects of a run: the ends of its sessions, its ticker, and its two disks
pub record World (E T D : Type 0) : Type 0 where
  pub ends : List E
  pub ticker : T
  pub a : D
  pub b : D

-- what is seen of these objects
pub record Views (E T D : Type 0) : Type 0 where
  pub end : E → EndView
  pub ticker : T → TickerView
  pub disks : D → D → DiskPair

-- what a run tells: its status, why its start was refused, if it was, the turns of each session, and what happened
pub record Told : Type 0 where
  pub status : ℕ
  pub why : StartWhy0
  pub turns : List (List Turn)
  pub history : History

abbrev pub views : {S K C B D : Type 0} → (S → SourceView) → (K → SinkView) → (C → Option (ℕ → ℕ)) → (B → Option (ℕ → Bool))
    → (D → DiskView) → Views (End S K C) (Ticker B C) D
views source sink coming due disk =
    record { end = end_view source sink coming; ticker = ticker_view due coming; disks = pair_of disk }

-- the objects that a run hands back
abbrev pub world_of : {S K C B D : Type 0} → Closed S K C B D → World (End S K C) (Ticker B C) D
world_of closed = record { ends = closed.ends.items; ticker = closed.ticker; a = closed.disk_a; b = closed.disk_b }

-- what it tells
abbrev pub told_of : {S K C B D : Type 0} → Closed S K C B D → Told
told_of closed =
    record { status = closed.status; why = closed.why; turns = closed.turns.items; history = closed.history }
