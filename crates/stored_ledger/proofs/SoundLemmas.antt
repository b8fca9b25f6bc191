-- What holds of a list that records are read as: numbers from 1, and room for the revert of an unconfirmed run.
use Rattle.std.proofs.Common.{◌≤◌, List}
use Rattle.std.specs.Prelude.{IsSome}
use Rattle.cfg_tree.specs.Statements.{Statements}
use Rattle.record_code.specs.Record.{Record}
use Rattle.commit_ledger.specs.declared.limit.TheConstants.{MAX_ENTRIES}
use Rattle.commit_ledger.specs.Kept.{Kept}
use Rattle.commit_ledger.specs.Reading.{ReadsAs}
use Rattle.commit_ledger.proofs.ReadingLemmas.{read_has_room, read_is_numbered}

pub record IsNumbered (kept : Kept) : Type 0 where
  pub number : 1 ≤ kept.last.number
  pub room : IsSome kept.pending → kept.count ≤ MAX_ENTRIES

pub read_lists_are_numbered : (P : Statements → Type 0) (rs : List Record) (kept : Kept) → ReadsAs P rs kept → IsNumbered kept
read_lists_are_numbered P rs kept reads = record { number = read_is_numbered P rs kept reads; room = read_has_room P rs kept reads }
