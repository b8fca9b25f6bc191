-- A checkpoint: what is kept of a list, as records with which a file of the journal begins anew. This is this project's own.
use Rattle.std.specs.Prelude.{◌≡◌, ◌≢◌, ◌≤◌, ◌<◌, ◌+◌, ◌-◌, ◌⊎◌, nat_lt, ℕ, Bool, false, List, [], ◌∷◌, ◌++◌, length, map, Option, Some, None, IfSome, IsSome, if◌then◌else◌}
use Rattle.std.specs.List.{AllByRecursion}
use Rattle.std.specs.Int.{w32, w64, to_be_bytes}
use Rattle.cfg_tree.specs.Statements.{Statements}
use Rattle.confirm_timer.specs.Deadline.{after_minutes}
use Rattle.record_code.specs.Record.{Record}
use Rattle.commit_ledger.specs.declared.entry.Commit.{Commit}
use Rattle.commit_ledger.specs.declared.entry.Scheduled.{Scheduled}
use Rattle.commit_ledger.specs.declared.entry.Entry.TheVariants.{Commit as CommitOf, Scheduled as ScheduledOf}
use Rattle.commit_ledger.specs.declared.limit.TheConstants.{MAX_ENTRIES}
use Rattle.commit_ledger.specs.Kept.{Kept, Unconfirmed, commits_of}
use Rattle.commit_ledger.specs.Payload.{HasShortText, entry_record}
use Rattle.commit_ledger.specs.Rules.{IsCommit, IsWritten, new_after}

-- what a checkpoint's first record states: how many entries the list has, the number of the commit that an unconfirmed run goes
-- back to, 0 where none is unconfirmed, and how many commits follow it
pub record KeepForm : Type 0 where
  pub count : ℕ
  pub target : ℕ
  pub commits : ℕ

abbrev pub keep_bytes : KeepForm → List ℕ
keep_bytes f = to_be_bytes w64 f.count ++ (to_be_bytes w64 f.target ++ to_be_bytes w32 f.commits)

abbrev pub keep_record : KeepForm → Record
keep_record f = record { kind = 3; payload = keep_bytes f }

-- the number of the oldest commit that is kept
abbrev pub first_of : List Commit → ℕ → ℕ
first_of [] number = number
first_of (commit ∷ commits) number = commit.number

abbrev pub first_number : Kept → ℕ
first_number kept = first_of kept.older kept.last.number

-- what an unconfirmed run goes back to, where it is older than the commits that are kept
abbrev pub far_target : ℕ → Option Unconfirmed → List Commit
far_target first None = []
far_target first (Some run) = if nat_lt run.target.number first then run.target ∷ [] else []

-- the commits of a checkpoint: that one, and those that are kept
abbrev pub listed : Kept → List Commit
listed kept = far_target (first_number kept) kept.pending ++ commits_of kept

abbrev pub target_number : Option Unconfirmed → ℕ
target_number None = 0
target_number (Some run) = run.target.number

abbrev pub keep_form : Kept → KeepForm
keep_form kept = record { count = kept.count; target = target_number kept.pending; commits = length (listed kept) }

abbrev pub commit_record : Commit → Record
commit_record commit = entry_record (CommitOf commit)

-- the records of a checkpoint where no commit is scheduled
abbrev pub plain_checkpoint : Kept → List Record
plain_checkpoint kept = keep_record (keep_form kept) ∷ map commit_record (listed kept)

-- a list without the entry of its scheduled commit, if it has one
abbrev pub without : Option Scheduled → Kept → Kept
without None kept = kept
without (Some waiting) kept = record kept { count = kept.count - 1; scheduled = None }

abbrev pub stated : Kept → Kept
stated kept = without kept.scheduled kept

-- that entry's record
abbrev pub waiting_records : Option Scheduled → List Record
waiting_records None = []
waiting_records (Some waiting) = entry_record (ScheduledOf waiting) ∷ []

-- the records of a checkpoint, as it is written: it states the list without a scheduled commit, whose entry follows
abbrev pub checkpoint : Kept → List Record
checkpoint kept = plain_checkpoint (stated kept) ++ waiting_records kept.scheduled

-- each commit's map has a text that a payload has room for
abbrev pub HaveShortTexts : List Commit → Type 0
HaveShortTexts commits = AllByRecursion (λ (c : Commit). HasShortText (CommitOf c)) commits

-- so has each map that a checkpoint has a text of
pub record HasShortMaps (kept : Kept) : Type 0 where
  pub commits : HaveShortTexts (listed kept)
  pub waiting : IfSome kept.scheduled (λ (w : Scheduled). HasShortText (ScheduledOf w))

-- numbers that rise by one
abbrev pub AreConsecutive : List Commit → Type 0
AreConsecutive [] = Unit {0}
AreConsecutive (c ∷ []) = Unit {0}
AreConsecutive (c ∷ (d ∷ commits)) = (d.number ≡ c.number + 1) × AreConsecutive (d ∷ commits)

-- moments that don't fall
abbrev pub AreInTime : List Commit → Type 0
AreInTime [] = Unit {0}
AreInTime (c ∷ []) = Unit {0}
AreInTime (c ∷ (d ∷ commits)) = (c.moment ≤ d.moment) × AreInTime (d ∷ commits)

-- a commit is one of these
abbrev pub IsAmong : Commit → List Commit → Type 0
IsAmong commit [] = ⊥
IsAmong commit (c ∷ commits) = (commit ≡ c) ⊎ IsAmong commit commits

-- an unconfirmed run, which goes back to one of these commits: the last commit made its deadline
pub record IsRunAmong (commits : List Commit) (kept : Kept) (run : Unconfirmed) : Type 0 where
  pub deadline : run.deadline ≡ after_minutes kept.last.moment kept.last.minutes
  pub among : IsAmong run.target commits
  pub before : run.target.number < kept.last.number
  pub waits : kept.last.minutes ≢ 0
  pub room : kept.count ≤ MAX_ENTRIES

-- what a checkpoint keeps to, up to a scheduled commit
pub record IsRestorable (accepted : Statements → Type 0) (kept : Kept) : Type 0 where
  -- its commits keep to their own rules
  pub each : AllByRecursion (IsCommit accepted) (listed kept)
  -- those that are kept have numbers that rise by one, and are 50 or begin with number 1
  pub numbers : AreConsecutive (commits_of kept)
  pub few : length (commits_of kept) ≤ 50
  pub whole : (length (commits_of kept) ≡ 50) ⊎ (first_number kept ≡ 1)
  pub moments : AreInTime (listed kept)
  -- there are no fewer entries than commits, and than the last one's number
  pub counted : length (listed kept) ≤ kept.count
  pub number : kept.last.number ≤ kept.count
  pub room : kept.count ≤ MAX_ENTRIES + 1
  pub run : IfSome kept.pending (IsRunAmong (listed kept) kept)
  pub unscheduled : kept.scheduled ≡ None

-- records are of these commits, as they are written now or were formerly
abbrev pub AreWritten : Bool → List Record → List Commit → Type 0
AreWritten new [] [] = Unit {0}
AreWritten new (r ∷ rs) (c ∷ commits) = IsWritten new r (CommitOf c) × AreWritten (new_after new (r ∷ [])) rs commits
AreWritten new [] (c ∷ commits) = ⊥
AreWritten new (r ∷ rs) [] = ⊥

-- records are a checkpoint, and are read as this; the last moment is that of the last commit
pub record Restores (accepted : Statements → Type 0) (rs : List Record) (kept : Kept) : Type 0 where
  pub commits : List Record
  pub is : rs ≡ keep_record (keep_form kept) ∷ commits
  pub are : AreWritten false commits (listed kept)
  pub rules : IsRestorable accepted kept
  pub moment : kept.moment ≡ kept.last.moment

-- a value agrees with another one but for the last moment, which may be an earlier one where no commit is scheduled
pub record Agrees (one other : Kept) : Type 0 where
  pub is : other ≡ record one { moment = other.moment }
  pub no_later : one.moment ≤ other.moment
  pub exact : IsSome one.scheduled → one.moment ≡ other.moment

-- the moment that a checkpoint tells: a scheduled commit's, and else the last commit's
abbrev pub told_by : Option Scheduled → ℕ → ℕ
told_by None last = last
told_by (Some waiting) last = waiting.moment

-- as a checkpoint is read
abbrev pub as_read : Kept → Kept
as_read kept = record kept { moment = told_by kept.scheduled kept.last.moment }

-- two lists are alike where they are equal in all but the last moment, and where a commit is scheduled in that too: their checkpoints
-- are read as one list
abbrev pub AreAlike : Kept → Kept → Type 0
AreAlike one other = as_read one ≡ as_read other
