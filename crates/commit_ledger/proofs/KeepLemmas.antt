-- A Keep and the records of its commits, as a checkpoint of one value or as one that breaks a rule.
use Rattle.std.proofs.Common.{◌≡◌, ◌≢◌, ◌≤◌, ◌<◌, inl, inr, ℕ, ◌+◌, ◌==◌, ◌^◌, Bool, false, List, [], ◌∷◌, ◌++◌, length, take, drop, Option, Some, None, refl, sym, ◌∙◌, ap, subst, arith, take-append-drop}
use Rattle.std.specs.Prelude.{IfSome}
use Rattle.std.specs.List.{AllByRecursion}
use Rattle.cfg_tree.specs.Statements.{Statements}
use Rattle.record_code.specs.declared.payloads.Placed.{Placed}
use Rattle.record_code.specs.Listed.{record_of, records_of}
use Rattle.record_code.specs.Record.{Record}
use Rattle.commit_ledger.specs.declared.entry.Commit.{Commit}
use Rattle.commit_ledger.specs.declared.limit.TheConstants.{MAX_ENTRIES}
use Rattle.commit_ledger.specs.Kept.{Kept, Unconfirmed}
use Rattle.commit_ledger.specs.Rules.{IsCommit, new_after}
use Rattle.commit_ledger.specs.Reading.{IsBegun}
use Rattle.commit_ledger.specs.Checkpoint.{KeepForm, AreWritten, keep_bytes, keep_form, keep_record, listed, IsRunAmong, Restores}
use Rattle.commit_ledger.specs.Restored.{IsBadKeep, IsReadKeep, IsRestored}
use Rattle.commit_ledger.specs.Restoring.{AreCommits, IsBadCheckpoint, IsKeep}
use Rattle.commit_ledger.proofs.BadLemmas.{written_are}
use Rattle.commit_ledger.proofs.GrownLemmas.{all_among, most_entries}
use Rattle.commit_ledger.proofs.RestoreLemmas.{OneKeep, full_far, one_keep, one_list, target_small}

each_commit : (P : Statements → Type 0) (new : Bool) (ps : List Placed) (cs : List Commit) → AreCommits P new ps cs → AllByRecursion (IsCommit P) cs
each_commit P new [] [] are = tt
each_commit P new (p ∷ ps) (c ∷ cs) are = (are.0.is_entry, each_commit P (new_after new (record_of p ∷ [])) ps cs are.1)
each_commit P new [] (c ∷ cs) are = absurd are
each_commit P new (p ∷ ps) [] are = absurd are

pub how_many : (P : Statements → Type 0) (new : Bool) (ps : List Placed) (cs : List Commit) → AreCommits P new ps cs → length ps ≡ length cs
how_many P new [] [] are = refl
how_many P new (p ∷ ps) (c ∷ cs) are = let e = how_many P (new_after new (record_of p ∷ [])) ps cs are.1 in omega (arith, e)
how_many P new [] (c ∷ cs) are = absurd are
how_many P new (p ∷ ps) [] are = absurd are

same_form : (f g : KeepForm) → f.count ≡ g.count → f.target ≡ g.target → f.commits ≡ g.commits → f ≡ g
same_form f g count target commits =
    let path : f ≡ g =
    ap (λ (n : ℕ). record { count = n; target = f.target; commits = f.commits }) count
    ∙ ap (λ (n : ℕ). record { count = g.count; target = n; commits = f.commits }) target
    ∙ ap (λ (n : ℕ). record { count = g.count; target = g.target; commits = n }) commits in
    path

module _ (P : Statements → Type 0) (f : KeepForm) (rs : List Record) (cs : List Commit) (each : AllByRecursion (IsCommit P) cs) (written : AreWritten false rs cs) where
  pub restored_of : f.count < 2 ^ 64 → f.target < 2 ^ 64 → (kept : Kept) → Restores P (keep_record f ∷ rs) kept → IsRestored f cs kept
  restored_of count target kept restores =
      let head : keep_record f ≡ keep_record (keep_form kept) = first_of restores.is in
      let tail : rs ≡ restores.commits = rest_of restores.is in
      let lists : listed kept ≡ cs =
      one_list P false rs (listed kept) cs restores.rules.each each (subst (λ (l : List Record). AreWritten false l (listed kept)) (sym tail) restores.are) written in
      let keeps : OneKeep f (keep_form kept) = one_keep f (keep_form kept) count (omega (arith, restores.rules.room, most_entries)) target
      (target_small P kept restores.rules kept.pending restores.rules.run) (ap (λ (r : Record). r.payload) head) in
      record {
        listed = lists;
        count = sym keeps.count;
        target = sym keeps.target;
        moment = restores.moment;
        numbers = restores.rules.numbers;
        few = restores.rules.few;
        whole = restores.rules.whole;
        full = full_far P kept restores.rules;
        moments = subst Rattle.commit_ledger.specs.Checkpoint.AreInTime lists restores.rules.moments;
        number = restores.rules.number;
        run = moved kept.pending lists restores.rules.run;
        numbered = above kept.pending restores.rules.run;
        unscheduled = restores.rules.unscheduled;
      }
    where
      first_of : {r s : Record} {xs ys : List Record} → r ∷ xs ≡ s ∷ ys → r ≡ s
      first_of is = cc

      rest_of : {r s : Record} {xs ys : List Record} → r ∷ xs ≡ s ∷ ys → xs ≡ ys
      rest_of is = cc

      moved : (pending : Option Unconfirmed) → listed kept ≡ cs → IfSome pending (IsRunAmong (listed kept) kept) → IfSome pending (IsRunAmong cs kept)
      moved None is run = tt
      moved (Some r) is run = subst (λ (l : List Commit). IsRunAmong l kept r) is run

      above : (pending : Option Unconfirmed) → IfSome pending (IsRunAmong (listed kept) kept) → IfSome pending (λ (r : Unconfirmed). r.target.number ≢ 0)
      above None run = tt
      above (Some r) run = λ none. omega (arith, none, (all_among (IsCommit P) (listed kept) r.target restores.rules.each run.among).number.0)

  pub restores_of : f.commits ≡ length cs → f.commits ≤ f.count → f.count ≤ MAX_ENTRIES + 1 → (kept : Kept) → IsRestored f cs kept → Restores P (keep_record f ∷ rs) kept
  restores_of number counted room kept restored =
      let form : f ≡ keep_form kept = same_form f (keep_form kept) (sym restored.count) (sym restored.target) (number ∙ ap length (sym restored.listed)) in
      record {
        commits = rs;
        is = ap (λ (g : KeepForm). keep_record g ∷ rs) form;
        are = subst (AreWritten false rs) (sym restored.listed) written;
        rules = record {
          each = subst (AllByRecursion (IsCommit P)) (sym restored.listed) each;
          numbers = restored.numbers;
          few = restored.few;
          whole = restored.whole;
          moments = subst Rattle.commit_ledger.specs.Checkpoint.AreInTime (sym restored.listed) restored.moments;
          counted = omega (arith, ap length restored.listed, number, counted, restored.count);
          number = restored.number;
          room = omega (arith, restored.count, room);
          run = moved kept.pending restored.run;
          unscheduled = restored.unscheduled;
        };
        moment = restored.moment;
      }
    where
      moved : (pending : Option Unconfirmed) → IfSome pending (IsRunAmong cs kept) → IfSome pending (IsRunAmong (listed kept) kept)
      moved None run = tt
      moved (Some r) run = subst (λ (l : List Commit). IsRunAmong l kept r) (sym restored.listed) run

-- a Keep that is followed as it states
module _ (P : Statements → Type 0) (p : Placed) (behind : List Placed) (f : KeepForm) (stated : p.payload ≡ keep_bytes f) (keep : IsKeep f behind) where
  abbrev ps : List Placed
  ps = take f.commits behind

  pub begun : p.kind ≡ 3 → (rest : List Placed) → rest ≡ drop f.commits behind → length (take f.commits behind) ≡ f.commits → (kept : Kept) → IsReadKeep P f (take f.commits behind) kept
      → IsBegun P (p ∷ behind) kept (new_after false (records_of (take f.commits behind))) rest
  begun three rest is size kept read = record {
    front = p ∷ ps;
    cut = ap (λ (l : List Placed). p ∷ l) (sym (take-append-drop f.commits behind) ∙ ap (λ (l : List Placed). ps ++ l) (sym is));
    begins = inr (subst (λ (l : List Record). Restores P l kept) (sym row)
        (restores_of P f (records_of ps) read.commits (each_commit P false ps read.commits read.are) (written_are P false ps read.commits read.are)
        (sym size ∙ how_many P false ps read.commits read.are) keep.numbers.counted keep.numbers.room kept read.restored));
    newness = ap (λ (n : ℕ). new_after (n == 4) (records_of ps)) (sym three);
  }
    where
      first : record_of p ≡ keep_record f
      first =
          let path : record_of p ≡ keep_record f =
          ap (λ (n : ℕ). record { kind = n; payload = p.payload }) three ∙ ap (λ (b : List ℕ). record { kind = 3; payload = b }) stated in
          path

      row : records_of (p ∷ ps) ≡ keep_record f ∷ records_of ps
      row = ap (λ (r : Record). r ∷ records_of ps) first

  pub bad_there : f.target < 2 ^ 64 → (offset : ℕ) → IsBadKeep P f p.offset (take f.commits behind) offset → IsBadCheckpoint P p behind offset
  bad_there target offset (inl bad) = inr (f, stated, keep, inl bad)
  bad_there target offset (inr (cs, are, place, none)) = inr (
    f,
    stated,
    keep,
    inr (
      cs,
      are,
      place,
      λ kept restores. none kept (restored_of P f (records_of ps) cs (each_commit P false ps cs are) (written_are P false ps cs are) (omega (arith, keep.numbers.room, most_entries)) target kept restores),
    ),
  )
