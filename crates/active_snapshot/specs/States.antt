-- What the ends of a snapshot know, as clauses see it.
use Rattle.std.specs.Prelude.{ℕ, Bool, false, length, List, [], ◌∷◌, Option, None}
use Rattle.logbook.specs.Pages.{Book}
use Rattle.commit_ledger.specs.Kept.{Kept}
use Rattle.active_snapshot.specs.Views.{with_proposal}

-- a beginning of the list of views that a book keeps
pub record FrontView : Type 0 where
  pub book : Book
  pub list : List Kept

-- the views that were kept, the one that waits to be kept, whether the last kept one isn't published yet, and how many are
pub record WriterView : Type 0 where
  pub list : List Kept
  pub proposal : Option Kept
  pub late : Bool
  pub published : ℕ

-- what a writer reports: the views that were kept, and how many of them are published
pub record NoteView : Type 0 where
  pub list : List Kept
  pub published : ℕ

-- the views up to the one that a reader keeps, and those up to the last one that it was told of
pub record ReaderView : Type 0 where
  pub list : List Kept
  pub told : List Kept

-- the opening's view is kept and published
abbrev pub first_written : Kept → WriterView
first_written view = record { list = view ∷ []; proposal = None; late = false; published = 1 }

-- and nothing was reported beyond it
abbrev pub first_read : Kept → ReaderView
first_read view = record { list = view ∷ []; told = view ∷ [] }

-- the proposal is kept, where there is one
abbrev pub with_kept : WriterView → WriterView
with_kept writer = record writer { list = with_proposal writer.list writer.proposal; proposal = None }

-- all that is kept is published
abbrev pub all_published : WriterView → WriterView
all_published writer = record writer { late = false; published = length writer.list }
