-- Which record of a checkpoint breaks a rule. This is this project's own.
use Rattle.std.specs.Prelude.{◌≡◌, ◌≢◌, ◌≤◌, ◌<◌, ◌+◌, ◌^◌, ◌⊎◌, ℕ, Bool, false, List, [], ◌∷◌, ◌++◌, length, take}
use Rattle.std.specs.List.{AllByRecursion}
use Rattle.cfg_tree.specs.Statements.{Statements}
use Rattle.record_code.specs.declared.payloads.Placed.{Placed}
use Rattle.record_code.specs.Listed.{record_of, records_of}
use Rattle.commit_ledger.specs.declared.entry.Commit.{Commit}
use Rattle.commit_ledger.specs.declared.entry.Entry.TheVariants.{Commit as CommitOf}
use Rattle.commit_ledger.specs.declared.limit.TheConstants.{MAX_ENTRIES}
use Rattle.commit_ledger.specs.Kept.{Kept}
use Rattle.commit_ledger.specs.Checkpoint.{KeepForm, keep_bytes, keep_record, Restores}
use Rattle.commit_ledger.specs.Rules.{IsRecordOf, new_after}

-- the numbers of a Keep: it counts 1 to 51 commits, and no fewer entries; the list has room, for a revert too where there is a target
pub record HasRightNumbers (f : KeepForm) : Type 0 where
  pub some : 1 ≤ f.commits
  pub few : f.commits ≤ 51
  pub counted : f.commits ≤ f.count
  pub room : f.count ≤ MAX_ENTRIES + 1
  pub run : f.target ≢ 0 → f.count ≤ MAX_ENTRIES
  pub fits : f.target < 2 ^ 64

-- so many records stand after it, and each is of the kind of a commit
pub record AreBehind (f : KeepForm) (behind : List Placed) : Type 0 where
  pub follow : f.commits ≤ length behind
  pub kinds : AllByRecursion (λ (p : Placed). (p.kind ≡ 1) ⊎ (p.kind ≡ 4)) (take f.commits behind)

-- what a Keep keeps to before its commits are asked
pub record IsKeep (f : KeepForm) (behind : List Placed) : Type 0 where
  pub numbers : HasRightNumbers f
  pub follows : AreBehind f behind

-- these records are of these commits
abbrev pub AreCommits : (Statements → Type 0) → Bool → List Placed → List Commit → Type 0
AreCommits accepted new [] [] = Unit {0}
AreCommits accepted new (p ∷ ps) (c ∷ cs) =
    IsRecordOf accepted new (record_of p) (CommitOf c) × AreCommits accepted (new_after new (record_of p ∷ [])) ps cs
AreCommits accepted new [] (c ∷ cs) = ⊥
AreCommits accepted new (p ∷ ps) [] = ⊥

-- the first of these records that isn't of a commit has its gate there
pub record IsBadCommit (accepted : Statements → Type 0) (new : Bool) (ps : List Placed) (offset : ℕ) : Type 0 where
  pub good : List Placed
  pub bad : Placed
  pub rest : List Placed
  pub commits : List Commit
  pub cut : ps ≡ good ++ bad ∷ rest
  pub before : AreCommits accepted new good commits
  pub broken : (c : Commit) → IsRecordOf accepted (new_after new (records_of good)) (record_of bad) (CommitOf c) → ⊥
  pub place : offset ≡ bad.offset

-- the record of a checkpoint at that offset is the first that breaks a rule. First its own fields and the kinds of what follows
-- it are asked, then each of its commits, and last what the rules say of them together, which is the first record's again
abbrev pub IsBadCheckpoint : (Statements → Type 0) → Placed → List Placed → ℕ → Type 0
IsBadCheckpoint accepted p behind offset =
    ((offset ≡ p.offset) × ((f : KeepForm) → p.payload ≡ keep_bytes f → IsKeep f behind → ⊥))
    ⊎ ((f : KeepForm) × (p.payload ≡ keep_bytes f) × IsKeep f behind
    × (IsBadCommit accepted false (take f.commits behind) offset
    ⊎ ((cs : List Commit) × AreCommits accepted false (take f.commits behind) cs × (offset ≡ p.offset)
    × ((kept : Kept) → Restores accepted (keep_record f ∷ records_of (take f.commits behind)) kept → ⊥))))

-- the commit of a record stands after others, and those of several
pub record IsReadBehind (accepted : Statements → Type 0) (new : Bool) (p : Placed) (before after : List Commit) : Type 0 where
  pub commit : Commit
  pub is_record : IsRecordOf accepted new (record_of p) (CommitOf commit)
  pub is : after ≡ before ++ commit ∷ []

pub record AreReadBehind (accepted : Statements → Type 0) (new : Bool) (ps : List Placed) (before after : List Commit) : Type 0 where
  pub commits : List Commit
  pub are : AreCommits accepted new ps commits
  pub is : after ≡ before ++ commits
