use Rattle.std.proofs.Common.{◌≡◌, Bool, IsTrue, true, false, List, ℕ, refl, subst, rules}
use Rattle.disk_model.specs.Disk.{contents_of}
use Rattle.disk_model.specs.Pair.{DiskPair}
use Rattle.commit_journal.specs.Attach.{ExplainsPair}
use Rattle.commit_journal.specs.Files.{AreListed, AreMarked, IsSyncedFile}
use Rattle.commit_journal.specs.Pair.{first_of, second_of}
use Rattle.commit_journal.proofs.CauseLemmas.{spelled, owed}
use Rattle.commit_journal.proofs.FileLemmas.{may_settles}
use Rattle.commit_journal.proofs.OpenLemmas.{beside_now, only_now, rests_now, spelled_then, whole_now}
use Rattle.commit_journal.proofs.journal.Journal.attach.Goals as goal

pub returns-in-Err-clause-err : goal.returns-in-Err-clause-err
returns-in-Err-clause-err g c =
    let view = g.D.Disk.view in
    let why = c.in-Err.why in
    let a = c.open_files.ensures.a in
    let b = c.open_files.ensures.b in
    let explained : IsTrue (view c.args.a).tells → IsTrue (view c.args.b).tells → ExplainsPair (contents_of (view c.args.a).history) (contents_of (view c.args.b).history) why = λ t u.
    subst (λ (l : List ℕ). ExplainsPair l (contents_of (view c.args.b).history) why) (may_settles _ _ (a.may t)).same
    (subst (λ (l : List ℕ). ExplainsPair (contents_of (view c.open_files.new.a).history) l why) (may_settles _ _ (b.may u)).same (c.in-Err.ensures.err (t, u))) in
    record {
      explained = explained;
      owed = λ t u that refusal cause is. owed _ _ why that (explained t u) refusal cause is;
      synced_a = a.may;
      synced_b = b.may;
      contents = λ t u. ((may_settles _ _ (a.may t)).same, (may_settles _ _ (b.may u)).same);
      tells_a = a.tells;
      tells_b = b.tells;
      cause = search rules;
    }

pub returns-then-opened-clause-read : goal.returns-then-opened-clause-read
returns-then-opened-clause-read g c =
    let view = g.D.Disk.view in
    let files : DiskPair = record { a = view c.open_files.new.a; b = view c.open_files.new.b } in
    let read = c.in-Ok.opened.listed in
    let listed = subst (λ (v : Bool). AreListed files v read.payloads read.gate) c.if-opened.true c.in-Ok.ensures.ok in
    let a : IsSyncedFile (view c.args.a) (view c.open_files.new.a) (true ≡ true) = c.in-Ok.ensures.a in
    let b : IsSyncedFile (view c.args.b) (view c.open_files.new.b) (true ≡ true) = c.in-Ok.ensures.b in
    record {
      free = λ t u why refusal cause. spelled _ _ _ why (spelled_then _ _ _ _ read.payloads read.gate _ refl a b true listed t u) refusal cause;
      spelled = spelled_then _ _ _ _ read.payloads read.gate _ refl a b true listed;
      has = λ t u. record { idle = refl; rests = rests_now _ _ _ _ read.payloads read.gate _ refl a b true listed t u };
      only = only_now _ _ _ _ read.payloads read.gate _ refl a b true listed;
      synced_a = a.synced refl;
      synced_b = b.synced refl;
      contents = λ t u. ((may_settles _ _ (a.may t)).same, (may_settles _ _ (b.may u)).same);
      places = listed.listed.places;
    }

pub returns-else-opened-clause-read : goal.returns-else-opened-clause-read
returns-else-opened-clause-read g c =
    let view = g.D.Disk.view in
    let files : DiskPair = record { a = view c.open_files.new.a; b = view c.open_files.new.b } in
    let read = c.in-Ok.opened.listed in
    let listed = subst (λ (v : Bool). AreListed files v read.payloads read.gate) c.if-opened.false c.in-Ok.ensures.ok in
    let a : IsSyncedFile (view c.args.a) (view c.open_files.new.a) (true ≡ true) = c.in-Ok.ensures.a in
    let b : IsSyncedFile (view c.args.b) (view c.open_files.new.b) (true ≡ true) = c.in-Ok.ensures.b in
    record {
      free = λ t u why refusal cause. spelled _ _ _ why (spelled_then _ _ _ _ read.payloads read.gate _ refl a b false listed t u) refusal cause;
      spelled = spelled_then _ _ _ _ read.payloads read.gate _ refl a b false listed;
      has = λ t u. record { idle = refl; rests = rests_now _ _ _ _ read.payloads read.gate _ refl a b false listed t u };
      only = only_now _ _ _ _ read.payloads read.gate _ refl a b false listed;
      synced_a = a.synced refl;
      synced_b = b.synced refl;
      contents = λ t u. ((may_settles _ _ (a.may t)).same, (may_settles _ _ (b.may u)).same);
      places = listed.listed.places;
    }

pub invariant_of-journal : goal.invariant_of-journal
invariant_of-journal g c =
    let view = g.D.Disk.view in
    let files : DiskPair = record { a = view c.open_files.new.a; b = view c.open_files.new.b } in
    let read = c.in-Ok.opened.listed in
    let a : IsSyncedFile (view c.args.a) (view c.open_files.new.a) (true ≡ true) = c.in-Ok.ensures.a in
    let b : IsSyncedFile (view c.args.b) (view c.open_files.new.b) (true ≡ true) = c.in-Ok.ensures.b in (
      whole_now _ _ _ _ read.payloads read.gate _ refl a b true (subst (λ (v : Bool). AreListed files v read.payloads read.gate) c.if-opened.true c.in-Ok.ensures.ok),
      beside_now _ _ _ _ read.payloads read.gate _ refl a b c.in-Ok.opened.generation true
          (subst (λ (v : Bool). AreMarked (first_of v files.a files.b) (second_of v files.a files.b) c.in-Ok.opened.generation) c.if-opened.true c.in-Ok.ensures.marked),
    )

pub invariant_of-journal-else-opened : goal.invariant_of-journal-else-opened
invariant_of-journal-else-opened g c =
    let view = g.D.Disk.view in
    let files : DiskPair = record { a = view c.open_files.new.a; b = view c.open_files.new.b } in
    let read = c.in-Ok.opened.listed in
    let a : IsSyncedFile (view c.args.a) (view c.open_files.new.a) (true ≡ true) = c.in-Ok.ensures.a in
    let b : IsSyncedFile (view c.args.b) (view c.open_files.new.b) (true ≡ true) = c.in-Ok.ensures.b in (
      whole_now _ _ _ _ read.payloads read.gate _ refl a b false (subst (λ (v : Bool). AreListed files v read.payloads read.gate) c.if-opened.false c.in-Ok.ensures.ok),
      beside_now _ _ _ _ read.payloads read.gate _ refl a b c.in-Ok.opened.generation false
          (subst (λ (v : Bool). AreMarked (first_of v files.a files.b) (second_of v files.a files.b) c.in-Ok.opened.generation) c.if-opened.false c.in-Ok.ensures.marked),
    )
