-- Lists of commits as they were written formerly. This is this project's own.
use Rattle.std.specs.Prelude.{◌≢◌, ◌==◌, Bool, List, map, if◌then◌else◌}
use Rattle.std.specs.List.{AllByRecursion}
use Rattle.cfg_tree.specs.FirstProfile.{IsFirstProfile}
use Rattle.cfg_tree.specs.Statements.{Statements}
use Rattle.record_code.specs.Record.{Record}
use Rattle.commit_ledger.specs.declared.entry.Commit.{Commit}
use Rattle.commit_ledger.specs.declared.entry.Entry.TheVariants.{Commit as CommitOf}
use Rattle.commit_ledger.specs.Rules.{IsRecordOf}

-- a record as it was written formerly: that of a commit was of kind 1, and the others were as they are
abbrev pub former : Record → Record
former r = if r.kind == 4 then record r { kind = 1 } else r

abbrev pub formerly : List Record → List Record
formerly rs = map former rs

-- the record is of no scheduled commit, and where it is of a commit, its map is of the first profile
pub record HasFirstMap (accepted : Statements → Type 0) (r : Record) : Type 0 where
  pub unscheduled : r.kind ≢ 5
  pub first : (new : Bool) (commit : Commit) → IsRecordOf accepted new r (CommitOf commit) → IsFirstProfile commit.tree

-- each of these records is such a one
abbrev pub HaveFirstMaps : (Statements → Type 0) → List Record → Type 0
HaveFirstMaps accepted rs = AllByRecursion (HasFirstMap accepted) rs
