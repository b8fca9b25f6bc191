-- Two files that were synced and read, as a journal.
use Rattle.std.proofs.Common.{◌≡◌, ◌≢◌, ◌≤◌, ◌+◌, ◌%◌, ◌^◌, ◌==◌, length, ℕ, Bool, true, false, cond, List, IsTrue, inr, refl, sym, ◌∙◌, ap, subst}
use Rattle.disk_model.specs.Disk.{Called, DiskView, History, MaySync, Sync, contents_of}
use Rattle.disk_model.specs.Pair.{DiskPair}
use Rattle.record_code.specs.declared.payloads.Placed.{Placed}
use Rattle.record_code.specs.Listed.{records_of}
use Rattle.record_code.specs.Reading.{Spells, first_gate}
use Rattle.commit_journal.specs.declared.header.Header.{Header}
use Rattle.commit_journal.specs.declared.flight.Flight.TheVariants.{Nothing}
use Rattle.commit_journal.specs.declared.why.AttachWhy.{AttachWhy}
use Rattle.commit_journal.specs.declared.why.AttachWhy.TheVariants.{NotAJournal, Damaged, DiskFault, NoMemory}
use Rattle.commit_journal.specs.Attach.{ExplainsFile, ExplainsPair, IsHeaderOf}
use Rattle.commit_journal.specs.Files.{AreListed, AreMarked, IsListedFile, IsReadFile, IsSyncedFile}
use Rattle.commit_journal.specs.Journal.{IsBeside, IsNumbered, IsWhole}
use Rattle.commit_journal.specs.Pair.{IsPair, IsQuiet, Only, PairSpells, Rests, b_counts, counting_of, file_gate, first_of, generation, second_of}
use Rattle.commit_journal.proofs.FileLemmas.{called_quiet, may_settles}
use Rattle.commit_journal.proofs.PairLemmas.{quiet_only}
use Rattle.commit_journal.proofs.SideLemmas.{side_a, side_b}

pub read_on : (a m a' : DiskView) → IsReadFile a m → IsReadFile m a' → IsReadFile a a'
read_on a m a' one two = record { tells = two.tells ∙ one.tells; history = two.history ∙ one.history }

-- a file that was synced, and then read
pub synced_read : (a m a' : DiskView) (done done' : Type 0) → (done' → done) → IsSyncedFile a m done → IsReadFile m a' → IsSyncedFile a a' done'
synced_read a m a' done done' to synced read = record {
  tells = read.tells ∙ synced.tells;
  may = λ t. subst (λ (h : History). MaySync a.history h) (sym read.history) (synced.may t);
  synced = λ is t. subst (λ (h : History). Called a.history (Sync true) h) (sym read.history) (synced.synced (to is) t);
}

listed_read : (f f' : DiskView) (placed : List Placed) (gate : ℕ) → IsReadFile f f' → IsListedFile f placed gate → IsListedFile f' placed gate
listed_read f f' placed gate read listed = record {
  bound = listed.bound;
  places = listed.places;
  spells = λ t. subst (λ (h : History). Spells (contents_of h) (records_of placed) gate) (sym read.history) (listed.spells (subst IsTrue read.tells t));
}

-- what was found of two files stands once they were read on
pub are_listed : (a m a' b n b' : DiskView) (choice : Bool) (placed : List Placed) (gate : ℕ) → IsReadFile a m → IsReadFile m a' → IsReadFile b n → IsReadFile n b'
    → IsListedFile (first_of choice m n) placed gate
    → (IsTrue a.tells → IsTrue b.tells → IsPair (contents_of a.history) (contents_of b.history) × (choice ≡ b_counts (contents_of a.history) (contents_of b.history)))
    → AreListed (record { a = a'; b = b' }) choice placed gate
are_listed a m a' b n b' choice placed gate a_read a_on b_read b_on listed pair = record {
  listed = listed_read (first_of choice m n) (first_of choice a' b') placed gate (side_a IsReadFile choice m a' n b' a_on b_on) listed;
  pair = λ tell. (stands tell).0;
  chosen = λ tell. (stands tell).1;
}
  where
    read_a : IsReadFile a a'
    read_a = read_on a m a' a_read a_on

    read_b : IsReadFile b b'
    read_b = read_on b n b' b_read b_on

    stands : IsTrue a'.tells × IsTrue b'.tells → IsPair (contents_of a'.history) (contents_of b'.history) × (choice ≡ b_counts (contents_of a'.history) (contents_of b'.history))
    stands tell =
        subst (λ (h : History). IsPair (contents_of h) (contents_of b'.history) × (choice ≡ b_counts (contents_of h) (contents_of b'.history))) (sym read_a.history)
        (subst (λ (h : History). IsPair (contents_of a.history) (contents_of h) × (choice ≡ b_counts (contents_of a.history) (contents_of h))) (sym read_b.history)
        (pair (subst IsTrue read_a.tells tell.0) (subst IsTrue read_b.tells tell.1)))

-- the file that is chosen is the one that counts
counting_is : (a b : DiskView) (choice : Bool) → choice ≡ b_counts (contents_of a.history) (contents_of b.history)
    → contents_of (first_of choice a b).history ≡ counting_of (contents_of a.history) (contents_of b.history)
counting_is a b false is = subst (λ (v : Bool). contents_of a.history ≡ cond v (contents_of b.history) (contents_of a.history)) is refl
counting_is a b true is = subst (λ (v : Bool). contents_of b.history ≡ cond v (contents_of b.history) (contents_of a.history)) is refl

explains : (a b : List ℕ) (why : AttachWhy) → IsPair a b → ExplainsFile (counting_of a b) why → ExplainsPair a b why
explains a b NotAJournal pair is = inr (pair, is)
explains a b (Damaged offset kept computed) pair is = (pair, is)
explains a b DiskFault pair is = tt
explains a b NoMemory pair is = tt

-- why the chosen file has no list is why the two files have none
pub explained_by : (a m a' b n b' : DiskView) (choice : Bool) (why : AttachWhy) → IsReadFile a m → IsReadFile m a' → IsReadFile b n → IsReadFile n b'
    → IsPair (contents_of a.history) (contents_of b.history) × (choice ≡ b_counts (contents_of a.history) (contents_of b.history))
    → ExplainsFile (contents_of (first_of choice m n).history) why → ExplainsPair (contents_of a'.history) (contents_of b'.history) why
explained_by a m a' b n b' choice why a_read a_on b_read b_on pair is =
    let same : contents_of (first_of choice m n).history ≡ counting_of (contents_of a.history) (contents_of b.history) =
    ap contents_of (side_a IsReadFile choice a m b n a_read b_read).history ∙ counting_is a b choice pair.1 in
    subst (λ (h : History). ExplainsPair (contents_of h) (contents_of b'.history) why) (sym (read_on a m a' a_read a_on).history)
    (subst (λ (h : History). ExplainsPair (contents_of a.history) (contents_of h) why) (sym (read_on b n b' b_read b_on).history)
    (explains (contents_of a.history) (contents_of b.history) why pair.0 (subst (λ (l : List ℕ). ExplainsFile l why) same is)))

-- what two headers say of their files, of which the first counts
pub marked_by : (x y : DiskView) (h k : Header) → IsTrue k.is_sound → (IsTrue x.tells → IsHeaderOf (contents_of x.history) h) → (IsTrue y.tells → IsHeaderOf (contents_of y.history) k)
    → (IsTrue k.is_open → k.generation ≢ (h.generation + 1) % 2 ^ 64) → AreMarked x y h.generation
marked_by x y h k sound of_x of_y stale = record {
  numbered = λ t. sym (of_x t).number;
  long = λ t. ((of_y t).sound.0 sound).long;
  stale = λ t opened next. stale ((of_y t).gate ∙ ap (λ (n : ℕ). n == 1) opened) ((of_y t).number ∙ next);
}

marked_read : (x y x' y' : DiskView) (number : ℕ) → IsReadFile x x' → IsReadFile y y' → AreMarked x y number → AreMarked x' y' number
marked_read x y x' y' number x_read y_read marked = record {
  numbered = λ t. ap (λ (h : History). generation (contents_of h)) x_read.history ∙ marked.numbered (subst IsTrue x_read.tells t);
  long = λ t. subst (λ (h : History). first_gate ≤ length (contents_of h)) (sym y_read.history) (marked.long (subst IsTrue y_read.tells t));
  stale = λ t. subst (λ (h : History). file_gate (contents_of h) ≡ 1 → generation (contents_of h) ≢ (number + 1) % 2 ^ 64) (sym y_read.history) (marked.stale (subst IsTrue y_read.tells t));
}

-- what the headers said stands once the files were read on
pub are_marked : (a m a' b n b' : DiskView) (choice : Bool) (number : ℕ) → IsReadFile a m → IsReadFile m a' → IsReadFile b n → IsReadFile n b'
    → AreMarked (first_of choice a b) (second_of choice a b) number → AreMarked (first_of choice a' b') (second_of choice a' b') number
are_marked a m a' b n b' choice number a_read a_on b_read b_on marked =
    let read_a = read_on a m a' a_read a_on in
    let read_b = read_on b n b' b_read b_on in
    marked_read (first_of choice a b) (second_of choice a b) (first_of choice a' b') (second_of choice a' b') number
    (side_a IsReadFile choice a a' b b' read_a read_b) (side_b IsReadFile choice a a' b b' read_a read_b) marked

pub first_tells : (choice : Bool) (a b : DiskView) → IsTrue a.tells → IsTrue b.tells → IsTrue (first_of choice a b).tells
first_tells false a b one two = one
first_tells true a b one two = two

module _ (a b a' b' : DiskView) (placed : List Placed) (gate : ℕ) (done : Type 0) (is : done)
    (of_a : IsSyncedFile a a' done) (of_b : IsSyncedFile b b' done) where
  abbrev files : DiskPair
  files = record { a = a'; b = b' }

  now_a : IsTrue a.tells → IsTrue a'.tells
  now_a t = subst IsTrue (sym of_a.tells) t

  now_b : IsTrue b.tells → IsTrue b'.tells
  now_b t = subst IsTrue (sym of_b.tells) t

  pub quiet_a : IsTrue a.tells → IsQuiet a'.history
  quiet_a t = called_quiet a.history a'.history (of_a.synced is t)

  pub quiet_b : IsTrue b.tells → IsQuiet b'.history
  quiet_b t = called_quiet b.history b'.history (of_b.synced is t)

  spelled_now : (choice : Bool) → AreListed files choice placed gate → IsTrue a.tells → IsTrue b.tells
      → PairSpells (contents_of a'.history) (contents_of b'.history) (records_of placed)
  spelled_now choice listed t u = record {
    pair = listed.pair (now_a t, now_b u);
    last = gate;
    spells = subst (λ (l : List ℕ). Spells l (records_of placed) gate) (counting_is a' b' choice (listed.chosen (now_a t, now_b u)))
        (listed.listed.spells (first_tells choice a' b' (now_a t) (now_b u)));
  }

  -- the files spelled the records, and each pair of images spells them now
  pub spelled_then : (choice : Bool) → AreListed files choice placed gate → IsTrue a.tells → IsTrue b.tells
      → PairSpells (contents_of a.history) (contents_of b.history) (records_of placed)
  spelled_then choice listed t u =
      subst (λ (l : List ℕ). PairSpells l (contents_of b.history) (records_of placed)) (may_settles a.history a'.history (of_a.may t)).same
      (subst (λ (l : List ℕ). PairSpells (contents_of a'.history) l (records_of placed)) (may_settles b.history b'.history (of_b.may u)).same (spelled_now choice listed t u))

  pub only_now : (choice : Bool) → AreListed files choice placed gate → IsTrue a.tells → IsTrue b.tells → Only a'.history b'.history (records_of placed)
  only_now choice listed t u = quiet_only a'.history b'.history (records_of placed) (quiet_a t) (quiet_b u) (spelled_now choice listed t u)

  -- and the journal on them has them
  pub rests_now : (choice : Bool) → AreListed files choice placed gate → IsTrue a.tells → IsTrue b.tells
      → Rests choice (first_of choice a' b').history (second_of choice a' b').history gate (records_of placed)
  rests_now false listed t u = record {
    settled = record { spells = listed.listed.spells (now_a t); quiet = quiet_a t };
    other_quiet = quiet_b u;
    chosen = record { pair = listed.pair (now_a t, now_b u); choice = sym (listed.chosen (now_a t, now_b u)) };
  }
  rests_now true listed t u = record {
    settled = record { spells = listed.listed.spells (now_b u); quiet = quiet_b u };
    other_quiet = quiet_a t;
    chosen = record { pair = listed.pair (now_a t, now_b u); choice = sym (listed.chosen (now_a t, now_b u)) };
  }

  pub whole_now : (choice : Bool) → AreListed files choice placed gate → IsWhole (first_of choice a' b') gate Nothing
  whole_now false listed = (listed.listed.bound, λ t. (records_of placed, record { spells = listed.listed.spells t; quiet = quiet_a (subst IsTrue of_a.tells t) }))
  whole_now true listed = (listed.listed.bound, λ t. (records_of placed, record { spells = listed.listed.spells t; quiet = quiet_b (subst IsTrue of_b.tells t) }))

  -- and what the headers said
  pub beside_now : (number : ℕ) (choice : Bool) → AreMarked (first_of choice a' b') (second_of choice a' b') number
      → IsNumbered (first_of choice a' b') number × IsBeside (second_of choice a' b') number Nothing
  beside_now number false marked = (marked.numbered, λ t. record { quiet = quiet_b (subst IsTrue of_b.tells t); long = marked.long t; stale = marked.stale t })
  beside_now number true marked = (marked.numbered, λ t. record { quiet = quiet_a (subst IsTrue of_a.tells t); long = marked.long t; stale = marked.stale t })
