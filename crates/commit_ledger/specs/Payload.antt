-- The payloads of a journal's records, byte by byte; numbers are big-endian. The format is this project's own.
use Rattle.std.specs.Prelude.{ℕ, ◌≤◌, ◌<◌, ◌^◌, List, [], ◌∷◌, ◌++◌, length}
use Rattle.std.specs.Int.{w32, w64, to_be_bytes}
use Rattle.cfg_tree.specs.Statements.{Statements}
use Rattle.curly_print.specs.Printed.{printed}
use Rattle.record_code.specs.Record.{Record}
use Rattle.commit_ledger.specs.declared.entry.Commit.{Commit}
use Rattle.commit_ledger.specs.declared.entry.Confirm.{Confirm}
use Rattle.commit_ledger.specs.declared.entry.Entry.{Entry}
use Rattle.commit_ledger.specs.declared.entry.Cleared.{Cleared}
use Rattle.commit_ledger.specs.declared.entry.Scheduled.{Scheduled}
use Rattle.commit_ledger.specs.declared.entry.Entry.TheVariants.{Commit as CommitOf, Confirm as ConfirmOf, Scheduled as ScheduledOf, Cleared as ClearedOf}
use Rattle.commit_ledger.specs.declared.entry.Via.{Via}
use Rattle.commit_ledger.specs.declared.entry.Via.TheVariants.{Cli, Other}

-- the whole curly text of a configuration
unfoldable pub text_of : Statements → List ℕ
text_of m = printed m []

-- the fields of a commit as they are written, its map as its text
pub record CommitForm : Type 0 where
  pub number : ℕ
  pub moment : ℕ
  pub via : Via
  pub minutes : ℕ
  pub user : List ℕ
  pub comment : List ℕ
  pub text : List ℕ

abbrev pub form_of : Commit → CommitForm
form_of commit = record {
  number = commit.number;
  moment = commit.moment;
  via = commit.via;
  minutes = commit.minutes;
  user = commit.user;
  comment = commit.comment;
  text = text_of commit.tree;
}

-- the fields of a confirmation
pub record ConfirmForm : Type 0 where
  pub number : ℕ
  pub moment : ℕ
  pub user : List ℕ

abbrev pub confirm_form : Confirm → ConfirmForm
confirm_form confirm = record { number = confirm.number; moment = confirm.moment; user = confirm.user }

-- the fields of a confirmation, and of what calls a scheduled commit off, which are the same
abbrev pub cleared_form : Cleared → ConfirmForm
cleared_form cleared = record { number = cleared.number; moment = cleared.moment; user = cleared.user }

-- the fields of a scheduled commit
pub record ScheduledForm : Type 0 where
  pub number : ℕ
  pub moment : ℕ
  pub at : ℕ
  pub user : List ℕ
  pub comment : List ℕ
  pub text : List ℕ

abbrev pub scheduled_form : Scheduled → ScheduledForm
scheduled_form waiting = record {
  number = waiting.number;
  moment = waiting.moment;
  at = waiting.at;
  user = waiting.user;
  comment = waiting.comment;
  text = text_of waiting.tree;
}

abbrev pub via_byte : Via → ℕ
via_byte Cli = 0
via_byte Other = 1

-- bytes after their number, in one byte and in four
abbrev pub short : List ℕ → List ℕ
short bytes = length bytes ∷ bytes

abbrev pub long : List ℕ → List ℕ
long bytes = to_be_bytes w32 (length bytes) ++ bytes

-- number and moment in 8 bytes each, how it came in 1, minutes in 4, user, comment and text
abbrev pub commit_bytes : CommitForm → List ℕ
commit_bytes f =
    to_be_bytes w64 f.number ++ (to_be_bytes w64 f.moment ++ (via_byte f.via ∷ (to_be_bytes w32 f.minutes
    ++ (short f.user ++ (short f.comment ++ long f.text)))))

-- number and moment in 8 bytes each, and user
abbrev pub confirm_bytes : ConfirmForm → List ℕ
confirm_bytes f = to_be_bytes w64 f.number ++ (to_be_bytes w64 f.moment ++ short f.user)

-- number, moment and time in 8 bytes each, user, comment and text
abbrev pub scheduled_bytes : ScheduledForm → List ℕ
scheduled_bytes f =
    to_be_bytes w64 f.number ++ (to_be_bytes w64 f.moment ++ (to_be_bytes w64 f.at ++ (short f.user ++ (short f.comment ++ long f.text))))

-- each field fits its place
pub record CommitFits (f : CommitForm) : Type 0 where
  pub number : f.number < 2 ^ 64
  pub moment : f.moment < 2 ^ 64
  pub minutes : f.minutes < 2 ^ 32
  pub user : length f.user < 2 ^ 8
  pub comment : length f.comment < 2 ^ 8
  pub text : length f.text < 2 ^ 32

pub record ConfirmFits (f : ConfirmForm) : Type 0 where
  pub number : f.number < 2 ^ 64
  pub moment : f.moment < 2 ^ 64
  pub user : length f.user < 2 ^ 8

pub record ScheduledFits (f : ScheduledForm) : Type 0 where
  pub number : f.number < 2 ^ 64
  pub moment : f.moment < 2 ^ 64
  pub at : f.at < 2 ^ 64
  pub user : length f.user < 2 ^ 8
  pub comment : length f.comment < 2 ^ 8
  pub text : length f.text < 2 ^ 32

-- a commit is a record of kind 4, a confirmation one of kind 2, a scheduled commit one of kind 5, and what calls it off one of kind 6
abbrev pub kind_of : Entry → ℕ
kind_of (CommitOf commit) = 4
kind_of (ConfirmOf confirm) = 2
kind_of (ScheduledOf waiting) = 5
kind_of (ClearedOf cleared) = 6

abbrev pub payload_bytes : Entry → List ℕ
payload_bytes (CommitOf commit) = commit_bytes (form_of commit)
payload_bytes (ConfirmOf confirm) = confirm_bytes (confirm_form confirm)
payload_bytes (ScheduledOf waiting) = scheduled_bytes (scheduled_form waiting)
payload_bytes (ClearedOf cleared) = confirm_bytes (cleared_form cleared)

-- the record that an entry is written as
abbrev pub entry_record : Entry → Record
entry_record entry = record { kind = kind_of entry; payload = payload_bytes entry }

-- the record that a commit was written as formerly: of kind 1, with the same fields
abbrev pub former_record : Commit → Record
former_record commit = record { kind = 1; payload = commit_bytes (form_of commit) }

-- the most bytes of a commit's text
abbrev pub most_text : ℕ
most_text = 1048576

-- an entry's map has a text that a payload has room for
abbrev pub HasShortText : Entry → Type 0
HasShortText (CommitOf commit) = length (text_of commit.tree) ≤ most_text
HasShortText (ConfirmOf confirm) = Unit {0}
HasShortText (ScheduledOf waiting) = length (text_of waiting.tree) ≤ most_text
HasShortText (ClearedOf cleared) = Unit {0}
