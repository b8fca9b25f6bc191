-- A session before its first line, and the view of its ends. This project's own.
use Rattle.std.specs.Prelude.{ℕ, Option}
use Rattle.session_shell.specs.declared.end.End.{End}
use Rattle.io_edge.specs.Ends.{SinkView, SourceView}
use Rattle.session_shell.specs.Transcript.{EndView}

-- a session before its first line: its number, its ends, and how many bytes of its source may be taken
pub record NewSessionView (S K C : Type 0) : Type 0 where
  pub number : ℕ
  pub end : End S K C
  pub limit : ℕ

-- what is told of ends
abbrev pub end_view : {S K C : Type 0} → (S → SourceView) → (K → SinkView) → (C → Option (ℕ → ℕ)) → End S K C → EndView
end_view source sink coming end =
    record { user = end.user; source = source end.source; sink = sink end.sink; coming = coming end.clock }
