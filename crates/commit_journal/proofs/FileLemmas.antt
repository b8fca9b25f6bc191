-- What calls left of a file, from those that were made.
use Rattle.std.proofs.Common.{◌≡◌, ◌≤◌, inl, inr, ℕ, IsTrue, List, [], ◌∷◌, ◌++◌, length, true, sym, subst, ap, ◌∙◌, arith}
use Rattle.disk_model.specs.Disk.{Call, Called, DiskView, DiskGoesOn, History, MadePart, MaySync, DiskState, Sync, Write, after, at_first, contents_of, state_of}
use Rattle.disk_model.proofs.States.{after-append, length-put, state_called}
use Rattle.commit_journal.specs.Files.{IsReadFile, IsWrittenFile}
use Rattle.commit_journal.specs.Pair.{FileSettles, IsQuiet}
use Rattle.commit_journal.proofs.CallLemmas.{goes_both, part_back, part_front}
use Rattle.commit_journal.proofs.SettleLemmas.{nothing_settles, same_settles, sync_settles}

pub may_settles : (h h' : History) → MaySync h h' → FileSettles h h'
may_settles h h' (inl same) = same_settles h h h' (nothing_settles h) same
may_settles h h' (inr synced) = sync_settles h h' ⊥ synced

pub called_quiet : (h h' : History) → Called h (Sync true) h' → IsQuiet h'
called_quiet h h' called k = ap (λ (s : DiskState). s.pending k) (state_called h h' (Sync true) called)

-- the state after calls
pub goes_state : (h h' : History) (calls : List Call) → DiskGoesOn h calls h' → state_of h' ≡ after (state_of h) calls
unfolding state_of
goes_state h h' calls goes =
    ap (λ (l : List ℕ). after (at_first l) h'.calls) goes.first
    ∙ ap (λ (l : List Call). after (at_first h.first) l) goes.calls
    ∙ after-append (at_first h.first) h.calls calls

-- a file that was read, and then written
pub read_written : (a m a' : DiskView) (calls calls' : List Call) (done done' : Type 0) → calls ≡ calls' → (done' → done) → IsReadFile a m
    → IsWrittenFile m a' calls done → IsWrittenFile a a' calls' done'
read_written a m a' calls calls' done done' same to read written = record {
  tells = written.tells ∙ read.tells;
  part = λ t. subst (λ (l : List Call). MadePart a.history l a'.history) same
      (subst (λ (h : History). MadePart h calls a'.history) read.history (written.part (subst IsTrue (sym read.tells) t)));
  made = λ is t. subst (λ (l : List Call). DiskGoesOn a.history l a'.history) same
      (subst (λ (h : History). DiskGoesOn h calls a'.history) read.history (written.made (to is) (subst IsTrue (sym read.tells) t)));
}

-- a file that was written, and then written on
pub written_on : (a m a' : DiskView) (calls more : List Call) (done done' done'' : Type 0) → done → (done'' → done') → IsWrittenFile a m calls done
    → IsWrittenFile m a' more done' → IsWrittenFile a a' (calls ++ more) done''
written_on a m a' calls more done done' done'' is to first next = record {
  tells = next.tells ∙ first.tells;
  part = λ t. part_back a.history m.history a'.history calls more (first.made is t) (next.part (subst IsTrue (sym first.tells) t));
  made = λ ok t. goes_both a.history m.history a'.history calls more (first.made is t) (next.made (to ok) (subst IsTrue (sym first.tells) t));
}

-- a file of which the first of two writings was tried alone
pub written_first : (a a' : DiskView) (calls more : List Call) (done done' : Type 0) → (done' → ⊥) → IsWrittenFile a a' calls done → IsWrittenFile a a' (calls ++ more) done'
written_first a a' calls more done done' never first =
    record { tells = first.tells; part = λ t. part_front a.history a'.history calls more (first.part t); made = λ is. absurd (never is) }

-- a file is no shorter than what was written at its start
pub written_long : (h h' : History) (bytes : List ℕ) → DiskGoesOn h (Write 0 bytes ∷ (Sync true ∷ [])) h' → length bytes ≤ length (contents_of h')
written_long h h' bytes goes =
    let same = ap (λ (s : DiskState). length s.contents) (goes_state h h' (Write 0 bytes ∷ (Sync true ∷ [])) goes) in
    omega (arith, length-put 0 bytes (contents_of h) (omega arith), same)
