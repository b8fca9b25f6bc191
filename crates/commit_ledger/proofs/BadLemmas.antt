-- A checkpoint in which a record breaks a rule isn't read.
use Rattle.std.proofs.Common.{◌≡◌, ◌≢◌, ◌≤◌, ◌<◌, ◌⊎◌, inl, inr, ⊎_elim, ℕ, ◌+◌, ◌^◌, Bool, false, List, [], ◌∷◌, ◌++◌, length, take, Option, Some, None, refl, sym, ◌∙◌, ap, subst, arith, length-append}
use Rattle.std.specs.Prelude.{IfSome}
use Rattle.std.specs.List.{AllByRecursion}
use Rattle.std.specs.Int.{w64, to_be_bytes}
use Rattle.std.proofs.lemmas.List.{length-map}
use Rattle.cfg_tree.specs.Statements.{Statements}
use Rattle.record_code.specs.declared.payloads.Placed.{Placed}
use Rattle.record_code.specs.Listed.{record_of, records_of}
use Rattle.record_code.specs.Record.{Record}
use Rattle.commit_ledger.specs.declared.entry.Commit.{Commit}
use Rattle.commit_ledger.specs.declared.entry.Entry.TheVariants.{Commit as CommitOf}
use Rattle.commit_ledger.specs.declared.limit.TheConstants.{MAX_ENTRIES}
use Rattle.commit_ledger.specs.Kept.{Kept, Unconfirmed, commits_of}
use Rattle.commit_ledger.specs.Rules.{IsCommit, IsRecordOf, IsWritten, new_after}
use Rattle.commit_ledger.specs.Reading.{Begins, Opens}
use Rattle.commit_ledger.specs.Checkpoint.{KeepForm, keep_bytes, keep_record, keep_form, first_number, far_target, listed, target_number, AreWritten, IsRunAmong, IsRestorable, Restores}
use Rattle.commit_ledger.specs.Restoring.{IsKeep, AreCommits, IsBadCommit, IsBadCheckpoint}
use Rattle.commit_ledger.proofs.FieldLemmas.{same_cut}
use Rattle.commit_ledger.proofs.RestoreLemmas.{as_many, few_far, number_32, target_small}
use Rattle.commit_ledger.proofs.RecordLemmas.{commit_kind}

-- the records of commits are of a commit's kinds
kinds_are : (new : Bool) (ps : List Placed) (cs : List Commit) → AreWritten new (records_of ps) cs → AllByRecursion (λ (p : Placed). (p.kind ≡ 1) ⊎ (p.kind ≡ 4)) ps
kinds_are new [] cs are = tt
kinds_are new (p ∷ ps) [] are = absurd are
kinds_are new (p ∷ ps) (c ∷ cs) are = (commit_kind new (record_of p) c are.0, kinds_are (new_after new (record_of p ∷ [])) ps cs are.1)

commits_are : (P : Statements → Type 0) (new : Bool) (ps : List Placed) (cs : List Commit) → AllByRecursion (IsCommit P) cs → AreWritten new (records_of ps) cs → AreCommits P new ps cs
commits_are P new [] [] each are = tt
commits_are P new [] (c ∷ cs) each are = absurd are
commits_are P new (p ∷ ps) [] each are = absurd are
commits_are P new (p ∷ ps) (c ∷ cs) each are =
    (record { is = are.0; is_entry = each.0 }, commits_are P (new_after new (record_of p ∷ [])) ps cs each.1 are.1)

pub written_are : (P : Statements → Type 0) (new : Bool) (ps : List Placed) (cs : List Commit) → AreCommits P new ps cs → AreWritten new (records_of ps) cs
written_are P new [] [] are = tt
written_are P new [] (c ∷ cs) are = absurd are
written_are P new (p ∷ ps) [] are = absurd are
written_are P new (p ∷ ps) (c ∷ cs) are = (are.0.is, written_are P (new_after new (record_of p ∷ [])) ps cs are.1)

-- the first of records
front_is : (ps : List Placed) (rs rest : List Record) → records_of ps ≡ rs ++ rest → records_of (take (length rs) ps) ≡ rs
front_is ps [] rest is = refl
front_is [] (r ∷ rs) rest is = absurd (let e = ap length is in omega (arith, e))
front_is (p ∷ ps) (r ∷ rs) rest is =
    let head : record_of p ≡ r = cc in
    let tail : records_of ps ≡ rs ++ rest = cc in
    ap (λ (l : List Record). record_of p ∷ l) (front_is ps rs rest tail) ∙ ap (λ (x : Record). x ∷ rs) head

one_of : (P : Statements → Type 0) (new : Bool) (good : List Placed) (bad : Placed) (rest : List Placed) (cs : List Commit) → AreCommits P new (good ++ bad ∷ rest) cs
    → (c : Commit) × IsRecordOf P (new_after new (records_of good)) (record_of bad) (CommitOf c)
one_of P new [] bad rest [] are = absurd are
one_of P new [] bad rest (c ∷ cs) are = (c, are.0)
one_of P new (p ∷ good) bad rest [] are = absurd are
one_of P new (p ∷ good) bad rest (c ∷ cs) are = one_of P (new_after new (record_of p ∷ [])) good bad rest cs are.1

not_among : (P : Statements → Type 0) (new : Bool) (ps : List Placed) (offset : ℕ) (cs : List Commit) → IsBadCommit P new ps offset → AreCommits P new ps cs → ⊥
not_among P new ps offset cs bad are =
    let found = one_of P new bad.good bad.bad bad.rest cs (subst (λ (l : List Placed). AreCommits P new l cs) bad.cut are) in
    bad.broken found.0 found.1

module _ (P : Statements → Type 0) (p : Placed) (behind : List Placed) (rs rest : List Record) (k : Kept) (written : AreWritten false rs (listed k)) (rules : IsRestorable P k)
    (moment : k.moment ≡ k.last.moment) (is : records_of (p ∷ behind) ≡ keep_record (keep_form k) ∷ rs ++ rest) where
  head : record_of p ≡ keep_record (keep_form k)
  head = cc

  tail : records_of behind ≡ rs ++ rest
  tail = cc

  as_listed : length rs ≡ length (listed k)
  as_listed = as_many false rs (listed k) written

  front : records_of (take (length (listed k)) behind) ≡ rs
  front = subst (λ (n : ℕ). records_of (take n behind) ≡ rs) as_listed (front_is behind rs rest tail)

  written_front : AreWritten false (records_of (take (length (listed k)) behind)) (listed k)
  written_front = subst (λ (l : List Record). AreWritten false l (listed k)) (sym front) written

  payload : p.payload ≡ keep_bytes (keep_form k)
  payload = ap (λ (r : Record). r.payload) head

  size : length (listed k) ≡ length (far_target (first_number k) k.pending) + length (commits_of k)
  size = length-append (far_target (first_number k) k.pending) (commits_of k)

  room : (pending : Option Unconfirmed) → IfSome pending (IsRunAmong (listed k) k) → target_number pending ≢ 0 → k.count ≤ MAX_ENTRIES
  room None run apart = absurd (apart refl)
  room (Some r) run apart = run.room

  is_keep : IsKeep (keep_form k) behind
  is_keep = record {
    numbers = record {
      some = omega (arith, size, length-append k.older (k.last ∷ []));
      few = omega (arith, size, few_far P k rules k.pending, rules.few);
      counted = rules.counted;
      room = rules.room;
      run = room k.pending rules.run;
      fits = target_small P k rules k.pending rules.run;
    };
    follows = record {
      follow = omega (arith, ap length tail, length-map behind record_of, length-append rs rest, as_listed);
      kinds = kinds_are false (take (length (listed k)) behind) (listed k) written_front;
    };
  }

  module _ (f : KeepForm) (stated : p.payload ≡ keep_bytes f) (keep : IsKeep f behind) where
    same_bytes : keep_bytes f ≡ keep_bytes (keep_form k)
    same_bytes = sym stated ∙ payload

    same_number : f.commits ≡ length (listed k)
    same_number =
        let first = same_cut (to_be_bytes w64 f.count) (to_be_bytes w64 (keep_form k).count) _ _ refl same_bytes in
        let second = same_cut (to_be_bytes w64 f.target) (to_be_bytes w64 (keep_form k).target) _ _ refl first.1 in
        number_32 f.commits (length (listed k)) (omega (arith, keep.numbers.few)) (omega (arith, is_keep.numbers.few)) second.1

    are : AreCommits P false (take f.commits behind) (listed k)
    are = subst (λ (n : ℕ). AreCommits P false (take n behind) (listed k)) (sym same_number) (commits_are P false (take (length (listed k)) behind) (listed k) rules.each written_front)

    no_bad_commit : (offset : ℕ) → IsBadCommit P false (take f.commits behind) offset → ⊥
    no_bad_commit offset bad = not_among P false (take f.commits behind) offset (listed k) bad are

    restores : Restores P (keep_record f ∷ records_of (take f.commits behind)) k
    restores = record {
      commits = records_of (take f.commits behind);
      is = ap (λ (b : List ℕ). record { kind = 3; payload = b } ∷ records_of (take f.commits behind)) same_bytes;
      are = written_are P false (take f.commits behind) (listed k) are;
      rules = rules;
      moment = moment;
    }

  not_bad : (offset : ℕ) → IsBadCheckpoint P p behind offset → ⊥
  not_bad offset (inl own) = own.1 (keep_form k) payload is_keep
  not_bad offset (inr (f, stated, keep, inl bad)) = no_bad_commit f stated keep offset bad
  not_bad offset (inr (f, stated, keep, inr whole)) = whole.3 k (restores f stated keep)

-- records whose checkpoint has a bad record begin no list
pub opens_kind : (P : Statements → Type 0) (r : Record) (kept : Kept) → Opens P r kept → r.kind ≢ 3
opens_kind P r kept opens three =
    let is : IsWritten false r (CommitOf opens.commit) = subst (IsWritten false r) opens.first.is opens.is_record.is in
    ⊎_elim (λ one. omega (arith, one, three)) (λ four. omega (arith, four, three)) (commit_kind false r opens.commit is)

pub bad_not_begun : (P : Statements → Type 0) (p : Placed) (behind : List Placed) (offset : ℕ) (front rest : List Record) (kept : Kept) → p.kind ≡ 3 → IsBadCheckpoint P p behind offset
    → records_of (p ∷ behind) ≡ front ++ rest → Begins P front kept → ⊥
bad_not_begun P p behind offset front rest kept three bad cut (inl one) =
    let row : record_of p ∷ records_of behind ≡ one.0 ∷ rest = cut ∙ ap (λ (l : List Record). l ++ rest) one.1 in
    let same : one.0 ≡ record_of p = cc in
    opens_kind P one.0 kept one.2 (ap (λ (r : Record). r.kind) same ∙ three)
bad_not_begun P p behind offset front rest kept three bad cut (inr restores) =
    not_bad P p behind restores.commits rest kept restores.are restores.rules restores.moment (cut ∙ ap (λ (l : List Record). l ++ rest) restores.is) offset bad

-- of a checkpoint one record is the first that breaks a rule
one_bad_commit : (P : Statements → Type 0) (new : Bool) (good good' : List Placed) (bad bad' : Placed) (rest rest' : List Placed) (cs cs' : List Commit) → good ++ bad ∷ rest ≡ good' ++ bad' ∷ rest'
    → AreCommits P new good cs → ((c : Commit) → IsRecordOf P (new_after new (records_of good)) (record_of bad) (CommitOf c) → ⊥) → AreCommits P new good' cs'
    → ((c : Commit) → IsRecordOf P (new_after new (records_of good')) (record_of bad') (CommitOf c) → ⊥) → bad ≡ bad'
one_bad_commit P new [] [] bad bad' rest rest' cs cs' same are broken are' broken' = let e : bad ≡ bad' = cc in e
one_bad_commit P new [] (q ∷ good') bad bad' rest rest' cs [] same are broken are' broken' = absurd are'
one_bad_commit P new [] (q ∷ good') bad bad' rest rest' cs (c ∷ cs') same are broken are' broken' =
    let e : q ≡ bad = cc in
    absurd (broken c (subst (λ (p : Placed). IsRecordOf P new (record_of p) (CommitOf c)) e are'.0))
one_bad_commit P new (p ∷ good) [] bad bad' rest rest' [] cs' same are broken are' broken' = absurd are
one_bad_commit P new (p ∷ good) [] bad bad' rest rest' (c ∷ cs) cs' same are broken are' broken' =
    let e : p ≡ bad' = cc in
    absurd (broken' c (subst (λ (q : Placed). IsRecordOf P new (record_of q) (CommitOf c)) e are.0))
one_bad_commit P new (p ∷ good) (q ∷ good') bad bad' rest rest' [] cs' same are broken are' broken' = absurd are
one_bad_commit P new (p ∷ good) (q ∷ good') bad bad' rest rest' (c ∷ cs) [] same are broken are' broken' = absurd are'
one_bad_commit P new (p ∷ good) (q ∷ good') bad bad' rest rest' (c ∷ cs) (d ∷ cs') same are broken are' broken' =
    let head : q ≡ p = cc in
    let tail : good ++ bad ∷ rest ≡ good' ++ bad' ∷ rest' = cc in
    one_bad_commit P (new_after new (record_of p ∷ [])) good good' bad bad' rest rest' cs cs' tail are.1 broken
    (subst (λ (x : Placed). AreCommits P (new_after new (record_of x ∷ [])) good' cs') head are'.1)
    (subst (λ (x : Placed). (e : Commit) → IsRecordOf P (new_after new (record_of x ∷ records_of good')) (record_of bad') (CommitOf e) → ⊥) head broken')

pub same_commits : (f g : KeepForm) → f.commits < 2 ^ 32 → g.commits < 2 ^ 32 → keep_bytes f ≡ keep_bytes g → f.commits ≡ g.commits
same_commits f g few other is =
    let first = same_cut (to_be_bytes w64 f.count) (to_be_bytes w64 g.count) _ _ refl is in
    let second = same_cut (to_be_bytes w64 f.target) (to_be_bytes w64 g.target) _ _ refl first.1 in
    number_32 f.commits g.commits few other second.1

pub one_bad_checkpoint : (P : Statements → Type 0) (p : Placed) (behind : List Placed) (m n : ℕ) → IsBadCheckpoint P p behind m → IsBadCheckpoint P p behind n → m ≡ n
one_bad_checkpoint P p behind m n (inl one) (inl two) = one.0 ∙ sym two.0
one_bad_checkpoint P p behind m n (inl one) (inr two) = absurd (one.1 two.0 two.1 two.2)
one_bad_checkpoint P p behind m n (inr one) (inl two) = absurd (two.1 one.0 one.1 one.2)
one_bad_checkpoint P p behind m n (inr (f, is, keep, one)) (inr (g, same, kept, two)) =
    by one (subst (λ (i : ℕ). IsBadCommit P false (take i behind) n ⊎ ((cs : List Commit) × AreCommits P false (take i behind) cs × (n ≡ p.offset) × ((k : Kept) → Restores P (keep_record g ∷ records_of (take i behind)) k → ⊥))) (sym number) two)
  where
    number : f.commits ≡ g.commits
    number = same_commits f g (omega (arith, keep.numbers.few)) (omega (arith, kept.numbers.few)) (sym is ∙ same)

    by : IsBadCommit P false (take f.commits behind) m ⊎ ((cs : List Commit) × AreCommits P false (take f.commits behind) cs × (m ≡ p.offset) × ((k : Kept) → Restores P (keep_record f ∷ records_of (take f.commits behind)) k → ⊥))
        → IsBadCommit P false (take f.commits behind) n ⊎ ((cs : List Commit) × AreCommits P false (take f.commits behind) cs × (n ≡ p.offset) × ((k : Kept) → Restores P (keep_record g ∷ records_of (take f.commits behind)) k → ⊥)) → m ≡ n
    by (inl a) (inl b) =
        a.place ∙ ap (λ (q : Placed). q.offset) (one_bad_commit P false a.good b.good a.bad b.bad a.rest b.rest a.commits b.commits (sym a.cut ∙ b.cut) a.before a.broken b.before b.broken) ∙ sym b.place
    by (inl a) (inr b) = absurd (not_among P false (take f.commits behind) m b.0 a b.1)
    by (inr a) (inl b) = absurd (not_among P false (take f.commits behind) n a.0 b a.1)
    by (inr a) (inr b) = a.2 ∙ sym b.2
