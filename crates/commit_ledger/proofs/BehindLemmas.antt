-- Commits that are read from records one after another, after others.
use Rattle.std.proofs.Common.{◌≡◌, ◌≢◌, ◌≤◌, ◌-◌, ◌∙◌, inl, inr, ℕ, Bool, false, List, [], ◌∷◌, ◌++◌, length, take, drop, get_or, sym, ap, subst, arith, append_assoc}
use Rattle.std.proofs.lemmas.List.{take_all}
use Rattle.cfg_tree.specs.Statements.{Statements}
use Rattle.record_code.specs.declared.payloads.Placed.{Placed}
use Rattle.record_code.specs.Listed.{record_of}
use Rattle.commit_ledger.specs.declared.entry.Commit.{Commit}
use Rattle.commit_ledger.specs.declared.entry.Entry.TheVariants.{Commit as CommitOf}
use Rattle.commit_ledger.specs.Checkpoint.{KeepForm, IsAmong}
use Rattle.commit_ledger.specs.Restoring.{AreCommits, AreReadBehind, IsBadCommit, IsReadBehind}
use Rattle.commit_ledger.specs.Rules.{IsRecordOf, new_after}
use Rattle.commit_ledger.proofs.ImageLemmas.{first_and_rest}
use Rattle.commit_ledger.proofs.KeepLemmas.{how_many}

-- what no further commit has, and the first one hasn't either
pub none_more : (commits : List Commit) (first : Commit) (number : ℕ) → first ≡ get_or commits 0 first → 1 ≤ length commits → first.number ≢ number
    → ((c : Commit) → IsAmong c (take (length commits - 1) (drop 1 commits)) → c.number ≢ number) → (c : Commit) → IsAmong c commits → c.number ≢ number
none_more commits first number is some other none c among =
    by (subst (IsAmong c) (first_and_rest commits first is some) among)
  where
    by : IsAmong c (first ∷ take (length commits - 1) (drop 1 commits)) → c.number ≢ number
    by (inl same) = λ e. other (ap (λ (d : Commit). d.number) (sym same) ∙ e)
    by (inr rest) = none c rest

pub placed_and_rest : (records : List Placed) (first : Placed) → first ≡ get_or records 0 first → 1 ≤ length records → records ≡ first ∷ take (length records - 1) (drop 1 records)
placed_and_rest [] first is some = absurd (omega (arith, some))
placed_and_rest (p ∷ records) first is some =
    sym (ap (λ (q : Placed). q ∷ take (length (p ∷ records) - 1) records) is ∙ ap (λ (l : List Placed). p ∷ l) (take_all (length (p ∷ records) - 1) records (omega arith)))

module _ (P : Statements → Type 0) (new : Bool) (records : List Placed) (first : Placed) (is : first ≡ get_or records 0 first) (some : 1 ≤ length records) where
  abbrev rest : List Placed
  rest = take (length records - 1) (drop 1 records)

  pub read_more : (before between after : List Commit) → IsReadBehind P new first before between → AreReadBehind P (new_after new (record_of first ∷ [])) (take (length records - 1) (drop 1 records)) between after → AreReadBehind P new records before after
  read_more before between after one more = record {
    commits = one.commit ∷ more.commits;
    are = subst (λ (l : List Placed). AreCommits P new l (one.commit ∷ more.commits)) (sym (placed_and_rest records first is some)) (one.is_record, more.are);
    is = more.is ∙ ap (λ (l : List Commit). l ++ more.commits) one.is ∙ append_assoc before (one.commit ∷ []) more.commits;
  }

  pub bad_first : (offset : ℕ) → offset ≡ first.offset → ((c : Commit) → IsRecordOf P new (record_of first) (CommitOf c) → ⊥) → IsBadCommit P new records offset
  bad_first offset place broken = record { good = []; bad = first; rest = rest; commits = []; cut = placed_and_rest records first is some; before = tt; broken = broken; place = place }

  pub bad_later : (before between : List Commit) (offset : ℕ) → IsReadBehind P new first before between → IsBadCommit P (new_after new (record_of first ∷ [])) (take (length records - 1) (drop 1 records)) offset → IsBadCommit P new records offset
  bad_later before between offset one bad = record {
    good = first ∷ bad.good;
    bad = bad.bad;
    rest = bad.rest;
    commits = one.commit ∷ bad.commits;
    cut = placed_and_rest records first is some ∙ ap (λ (l : List Placed). first ∷ l) bad.cut;
    before = (one.is_record, bad.before);
    broken = bad.broken;
    place = bad.place;
  }

-- the commits of records, after none
module _ (P : Statements → Type 0) (f : KeepForm) (place : ℕ) (records : List Placed) (before after : List Commit) (none : before ≡ []) (read : AreReadBehind P false records before after) where
  whole : after ≡ read.commits
  whole = read.is ∙ ap (λ (l : List Commit). l ++ read.commits) none

  pub read_size : length after ≡ length records
  read_size = ap length whole ∙ sym (how_many P false records read.commits read.are)
