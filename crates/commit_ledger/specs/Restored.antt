-- What a checkpoint's first record and its commits together state. This is this project's own.
use Rattle.std.specs.Prelude.{ℕ, false, ◌≡◌, ◌≢◌, ◌≤◌, ◌⊎◌, List, [], ◌∷◌, ◌++◌, length, IfSome, Option, Some, None}
use Rattle.commit_ledger.specs.declared.entry.Commit.{Commit}
use Rattle.commit_ledger.specs.Kept.{Kept, Unconfirmed, commits_of}
use Rattle.commit_ledger.specs.Restoring.{AreCommits, IsBadCommit}
use Rattle.record_code.specs.declared.payloads.Placed.{Placed}
use Rattle.cfg_tree.specs.Statements.{Statements}
use Rattle.commit_ledger.specs.Checkpoint.{KeepForm, far_target, first_number, first_of, listed, target_number, AreConsecutive, AreInTime, IsRunAmong}

-- a value is that of a checkpoint which states this and lists these commits, and they keep to its rules; their own fields aren't asked
pub record IsRestored (f : KeepForm) (commits : List Commit) (kept : Kept) : Type 0 where
  pub listed : listed kept ≡ commits
  pub count : kept.count ≡ f.count
  pub target : target_number kept.pending ≡ f.target
  pub moment : kept.moment ≡ kept.last.moment
  pub numbers : AreConsecutive (commits_of kept)
  pub few : length (commits_of kept) ≤ 50
  pub whole : (length (commits_of kept) ≡ 50) ⊎ (first_number kept ≡ 1)
  pub full : length (far_target (first_number kept) kept.pending) ≡ 1 → length (commits_of kept) ≡ 50
  pub moments : AreInTime commits
  pub number : kept.last.number ≤ kept.count
  pub run : IfSome kept.pending (IsRunAmong commits kept)
  pub numbered : IfSome kept.pending (λ (r : Unconfirmed). r.target.number ≢ 0)
  pub unscheduled : kept.scheduled ≡ None

-- the commits of a checkpoint taken apart: what stands before those that are kept, those before the last one, and the last one
pub record IsApart (far older : List Commit) (last : Commit) : Type 0 where
  pub one : length far ≤ 1
  pub few : length older ≤ 49
  pub full : length far ≡ 1 → length older ≡ 49
  pub numbers : AreConsecutive (older ++ last ∷ [])
  pub whole : (length older ≡ 49) ⊎ (first_of older last.number ≡ 1)
  pub moments : AreInTime (far ++ (older ++ last ∷ []))

-- what stands before the commits that are kept
abbrev pub far_row : Option Commit → List Commit
far_row None = []
far_row (Some commit) = commit ∷ []

-- commits have numbers that rise by one, and are 50 or begin with number 1
pub record IsOrdered (commits : List Commit) : Type 0 where
  pub numbers : AreConsecutive commits
  pub whole : (length commits ≡ 50) ⊎ (first_of commits 0 ≡ 1)

-- these records are of commits which that Keep states a value of
pub record IsReadKeep (accepted : Statements → Type 0) (f : KeepForm) (ps : List Placed) (kept : Kept) : Type 0 where
  pub commits : List Commit
  pub are : AreCommits accepted false ps commits
  pub restored : IsRestored f commits kept

-- or one of them isn't of a commit, or they break a rule together, which is reported at the Keep's place
abbrev pub IsBadKeep : (Statements → Type 0) → KeepForm → ℕ → List Placed → ℕ → Type 0
IsBadKeep accepted f place ps offset =
    IsBadCommit accepted false ps offset
    ⊎ ((cs : List Commit) × AreCommits accepted false ps cs × (offset ≡ place) × ((kept : Kept) → IsRestored f cs kept → ⊥))
