-- A journal that was made or attached, as a list of commits.
use Rattle.std.proofs.Common.{◌≡◌, ℕ, Bool, true, false, List, [], ◌∷◌, IsTrue, refl, sym, subst, ap, ◌∙◌, rules}
use Rattle.disk_model.specs.Disk.{DiskView, History, Sync, Called, DiskGoesOn, IsImage, state_of, contents_of}
use Rattle.disk_model.specs.Pair.{DiskPair}
use Rattle.record_code.specs.declared.payloads.Placed.{Placed}
use Rattle.record_code.specs.Listed.{records_of}
use Rattle.commit_journal.specs.declared.why.AttachWhy.{AttachWhy}
use Rattle.commit_journal.specs.declared.why.AttachWhy.TheVariants.{NotAJournal as NoPair, Damaged as DamagedPair, DiskFault as PairFault, NoMemory as PairNoMemory}
use Rattle.commit_journal.specs.declared.why.CreateWhy.TheVariants.{NoMemory as MakingNoMemory}
use Rattle.stored_ledger.specs.declared.why.StartWhy.TheVariants.{DiskFault, NoMemory}
use Rattle.commit_journal.specs.Attach.{ExplainsPair}
use Rattle.commit_journal.specs.Journal.{JournalView, Tell, a_of, b_of, disk_a, disk_b, disks_of}
use Rattle.commit_journal.specs.Opening.{IsOpened, IsCreated, IsAttached, making_a, making_b}
use Rattle.commit_journal.specs.Pair.{first_of, second_of}
use Rattle.commit_check.specs.Accepts.{Accepts}
use Rattle.commit_ledger.specs.declared.entry.Commit.{Commit}
use Rattle.commit_ledger.specs.declared.entry.Entry.TheVariants.{Commit as CommitOf}
use Rattle.commit_ledger.specs.Kept.{Kept, factory, factory_commit}
use Rattle.commit_ledger.specs.Payload.{entry_record, kind_of, payload_bytes}
use Rattle.commit_ledger.specs.Reading.{ReadsAs}
use Rattle.commit_ledger.proofs.ReadingLemmas.{read_maps_are_accepted, read_waits}
use Rattle.stored_ledger.specs.Stored.{IsStored, factory_records}
use Rattle.stored_ledger.specs.Starting.{Explains, IsMade, IsNotMade, IsFound}
use Rattle.stored_ledger.specs.Whys.{why_of_opening}
use Rattle.stored_ledger.proofs.SoundLemmas.{read_lists_are_numbered}

-- the record of a commit that is the factory's
pub record_is : (commit : Commit) (kind : ℕ) (payload : List ℕ) → commit ≡ factory_commit → kind ≡ kind_of (CommitOf commit) → payload ≡ payload_bytes (CommitOf commit)
    → record { kind = kind; payload = payload } ∷ [] ≡ factory_records
record_is commit kind payload same kind_is payload_is =
    let path : record { kind = kind; payload = payload } ∷ [] ≡ factory_records =
    ap (λ (k : ℕ). record { kind = k; payload = payload } ∷ []) kind_is
    ∙ ap (λ (p : List ℕ). record { kind = kind_of (CommitOf commit); payload = p } ∷ []) payload_is
    ∙ ap (λ (c : Commit). entry_record (CommitOf c) ∷ []) same in
    path

-- of two disks that tell the one of A tells, and that of B
tell_a : (b : Bool) (c o : DiskView) → IsTrue c.tells → IsTrue o.tells → IsTrue (first_of b c o).tells
tell_a false c o one two = one
tell_a true c o one two = two

tell_b : (b : Bool) (c o : DiskView) → IsTrue c.tells → IsTrue o.tells → IsTrue (second_of b c o).tells
tell_b false c o one two = two
tell_b true c o one two = one

-- the history of the disk of A, and of that of B
of_first : (b : Bool) (c o : DiskView) → (first_of b c o).history ≡ first_of b c.history o.history
of_first false c o = refl
of_first true c o = refl

of_second : (b : Bool) (c o : DiskView) → (second_of b c o).history ≡ second_of b c.history o.history
of_second false c o = refl
of_second true c o = refl

-- a refusal of the journal has its cause as a refusal of the list
explained_by : (a b : List ℕ) (why : AttachWhy) → ExplainsPair a b why → Explains a b (why_of_opening why)
explained_by a b NoPair is = is
explained_by a b (DamagedPair offset kept computed) is = is
explained_by a b PairFault is = tt
explained_by a b PairNoMemory is = tt

fault_of : (why : AttachWhy) → why_of_opening why ≡ DiskFault → why ≡ PairFault
fault_of NoPair is = cc
fault_of (DamagedPair offset kept computed) is = cc
fault_of PairFault is = refl
fault_of PairNoMemory is = cc

abbrev pair : DiskView → DiskView → DiskPair
pair a b = record { a = a; b = b }

-- without memory nothing is made, and no disk was called
pub nothing_made : (a b : DiskView) → IsNotMade (pair a b) NoMemory (pair a b)
nothing_made a b = record {
  cause = MakingNoMemory;
  told = refl;
  disks = search rules;
}

module _ (a b : DiskView) (limit : ℕ) (v : JournalView) (is_opened : IsOpened a b limit v) where
  told_a : Tell v → IsTrue a.tells
  told_a tell = subst (λ (t : Bool). IsTrue t) is_opened.tells_a (tell_a v.b_counts v.counting v.other tell.0 tell.1)

  told_b : Tell v → IsTrue b.tells
  told_b tell = subst (λ (t : Bool). IsTrue t) is_opened.tells_b (tell_b v.b_counts v.counting v.other tell.0 tell.1)

  a_is : (disk_a v).history ≡ a_of v
  a_is = of_first v.b_counts v.counting v.other

  b_is : (disk_b v).history ≡ b_of v
  b_is = of_second v.b_counts v.counting v.other

  image_a : (c : List ℕ) → IsImage (state_of (disk_a v).history) c → IsImage (state_of (a_of v)) c
  image_a c image = subst (λ (h : History). IsImage (state_of h) c) a_is image

  image_b : (c : List ℕ) → IsImage (state_of (disk_b v).history) c → IsImage (state_of (b_of v)) c
  image_b c image = subst (λ (h : History). IsImage (state_of h) c) b_is image

  pub made_is_stored : IsCreated a b factory_records v → ReadsAs Accepts factory_records factory → IsStored v factory
  made_is_stored made reads = record {
    idle = is_opened.idle;
    records = factory_records;
    has = λ tell. made.has (told_a tell) (told_b tell) (entry_record (CommitOf factory_commit)) refl;
    reads = reads;
    maps = read_maps_are_accepted Accepts factory_records factory reads;
    number = (read_lists_are_numbered Accepts factory_records factory reads).number;
    room = (read_lists_are_numbered Accepts factory_records factory reads).room;
    waits = read_waits Accepts factory_records factory reads;
  }

  pub made_is : IsCreated a b factory_records v → ReadsAs Accepts factory_records factory → IsMade (pair a b) (disks_of v)
  made_is made reads = record {
    none_there = λ tell. made.none_there tell.0 tell.1;
    only = λ tell c d left right. (factory_records, made.only tell.0 tell.1 (entry_record (CommitOf factory_commit)) refl c d (image_a c left) (image_b d right), reads);
    made_a = λ tell. subst (λ (h : History). DiskGoesOn a.history (making_a factory_records) h) (sym a_is) (made.made_a tell);
    made_b = λ tell. subst (λ (h : History). DiskGoesOn b.history making_b h) (sym b_is) (made.made_b tell);
  }

  pub found_is_stored : (placed : List Placed) (kept : Kept) → IsAttached a b placed v → ReadsAs Accepts (records_of placed) kept → IsStored v kept
  found_is_stored placed kept found reads = record {
    idle = is_opened.idle;
    records = records_of placed;
    has = λ tell. found.has (told_a tell) (told_b tell);
    reads = reads;
    maps = read_maps_are_accepted Accepts (records_of placed) kept reads;
    number = (read_lists_are_numbered Accepts (records_of placed) kept reads).number;
    room = (read_lists_are_numbered Accepts (records_of placed) kept reads).room;
    waits = read_waits Accepts (records_of placed) kept reads;
  }

  called_a : (call : History → Type 0) → call (a_of v) → call (disk_a v).history
  called_a call is = subst call (sym a_is) is

  called_b : (call : History → Type 0) → call (b_of v) → call (disk_b v).history
  called_b call is = subst call (sym b_is) is

  pub found_is : (placed : List Placed) (kept : Kept) → IsAttached a b placed v → ReadsAs Accepts (records_of placed) kept
      → IsFound (pair a b) (disks_of v) kept
  found_is placed kept found reads = record {
    spelled = λ tell. (records_of placed, found.spelled tell.0 tell.1, reads);
    only = λ tell c d left right. (records_of placed, found.only tell.0 tell.1 c d (image_a c left) (image_b d right), reads);
    synced_a = λ tell. called_a (Called a.history (Sync true)) (found.synced_a tell);
    synced_b = λ tell. called_b (Called b.history (Sync true)) (found.synced_b tell);
    contents = λ tell. (ap contents_of a_is ∙ (found.contents tell.0 tell.1).0, ap contents_of b_is ∙ (found.contents tell.0 tell.1).1);
  }
