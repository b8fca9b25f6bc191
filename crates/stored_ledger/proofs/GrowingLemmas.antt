-- What an append, an image and a settling of the journal make of a list.
use Rattle.std.proofs.Common.{◌≡◌, ◌≢◌, ◌≤◌, ◌<◌, ◌+◌, ◌⊎◌, ◌↔◌, ℕ, Bool, true, false, not, IsTrue, List, [], ◌∷◌, ◌++◌, length, refl, sym, ap, subst, ◌∙◌, Option, None, Some, inl, inr, ⊎_elim, arith}
use mathlib.Core.Bool.{beq}
use Rattle.std.proofs.lemmas.Bool.{cases_lt}
use Rattle.disk_model.specs.declared.disk.DiskDone.{DiskDone}
use Rattle.disk_model.specs.declared.disk.DiskDone.TheVariants.{Done, Failed}
use Rattle.record_code.specs.Reading.{first_gate}
use Rattle.record_code.specs.Record.{Record, bodies, body}
use Rattle.commit_ledger.specs.declared.entry.Entry.{Entry}
use Rattle.commit_ledger.specs.Checkpoint.{checkpoint}
use Rattle.commit_ledger.specs.Kept.{Kept, append_entry}
use Rattle.commit_ledger.specs.Payload.{entry_record}
use Rattle.commit_journal.specs.Held.{BothCalled, GoesOn, Holds, HoldsImage}
use Rattle.commit_journal.specs.Journal.{JournalView, IsInFlight, IsImageInFlight, PairCause, Tell, a_of, b_of, disk_a, disk_b}
use Rattle.commit_journal.specs.Pair.{SpellsEither, WasLeft}
use Rattle.commit_journal.specs.Rotated.{IsRotated, IsRotateFaulted, IsRotateSafe}
use Rattle.commit_journal.specs.Steps.{IsAppended, IsAppendFaulted, IsAppendSafe, IsSettledAs, IsSettleFaulted, IsSettleSafe, Counts, Stays}
use Rattle.commit_journal.specs.declared.settling.Settled.{Settled}
use Rattle.commit_journal.specs.declared.settling.Settled.TheVariants.{Kept as IsKept, NotKept}
use Rattle.commit_journal.proofs.AnewLemmas.{both_after}
use Rattle.commit_journal.proofs.CalledLemmas.{called_left, called_then, counts_on}
use Rattle.commit_journal.proofs.HeldLemmas.{goes_further, goes_on, rose_last, tell_back, tell_on}
use Rattle.commit_journal.proofs.SettleLemmas.{weaker_pair}
use Rattle.stored_ledger.specs.declared.change.Change.{Change}
use Rattle.stored_ledger.specs.declared.change.Change.TheVariants.{Entry as EntryMore, Whole}
use Rattle.stored_ledger.specs.Appending.{IsAppend}
use Rattle.stored_ledger.specs.Growing.{AddsEntry, HoldsBy, MakesList, ReplacesList, SettlesList, SpellsOne, answer_of}
use Rattle.stored_ledger.specs.Standing.{AreOf, CanKeep, Stands, StandsBetween}
use Rattle.stored_ledger.specs.Stored.{IsNext}
use Rattle.stored_ledger.proofs.StandingLemmas.{are_anew, are_next, are_of, between_now, holds_now, reads_next, spells_anew, spells_either, spells_whole}

neither : (b : Bool) → b ≡ not b → ⊥
neither true is = absurd (cc)
neither false is = absurd (cc)

same_or_not : (b c : Bool) → (b ≡ c) ⊎ (b ≡ c → ⊥)
same_or_not true true = inl refl
same_or_not false false = inl refl
same_or_not true false = inr (λ same. absurd (cc))
same_or_not false true = inr (λ same. absurd (cc))

same_bits : (b c : Bool) → (b ≢ c → ⊥) → b ≡ c
same_bits b c both = ⊎_elim (λ same. same) (λ differ. absurd (both differ)) (same_or_not b c)

-- whether another file counts than before
pub is_turned : (b c now before : Bool) → b ≡ now → c ≡ before → IsTrue (not (beq b c)) ↔ (now ≢ before)
is_turned true true now before is was = ((λ no. absurd (cc)), λ differ. absurd (differ (sym is ∙ was)))
is_turned false false now before is was = ((λ no. absurd (cc)), λ differ. absurd (differ (sym is ∙ was)))
is_turned true false now before is was = ((λ yes same. absurd (let no : true ≡ false = is ∙ same ∙ sym was in cc)), λ differ. refl)
is_turned false true now before is was = ((λ yes same. absurd (let no : false ≡ true = is ∙ same ∙ sym was in cc)), λ differ. refl)

module _ (j j' : JournalView) (failed : Type 0)
    (stays : Stays j j') (counts : Counts j j')
    (cause : PairCause (disk_a j).faults (disk_a j').faults (disk_b j).faults (disk_b j').faults failed) where
  goes : GoesOn j j'
  goes = goes_on j j' failed stays counts cause

  pub append_done : (body : List Record) → IsAppended j body j' → IsAppendSafe j body j' → IsAppend body Done j j'
  append_done body appended safe = record {
    holds = λ rs r is held. (appended.idle, λ t. let before = tell_back j j' stays t in appended.has rs r before (held.1 before) is);
    goes = goes;
    cause = λ is. absurd (cc);
    counts = counts_on j j' counts;
    crash = λ rs r is held t. safe.crash rs r t (held.1 t) is;
    choice = safe.choice;
    other_is = safe.other_is;
    gate_is = λ done. appended.gate_is;
  }

  pub append_failed : (body : List Record) → failed → IsAppendFaulted j body j' → IsAppendSafe j body j' → IsAppend body Failed j j'
  append_failed body fails faulted safe = record {
    holds = λ rs r is held. (faulted.in_flight, λ t. let before = tell_back j j' stays t in faulted.awaits rs r before (held.1 before) is);
    goes = goes;
    cause = λ is. cause.rose fails;
    counts = counts_on j j' counts;
    crash = λ rs r is held t. safe.crash rs r t (held.1 t) is;
    choice = safe.choice;
    other_is = safe.other_is;
    gate_is = λ done. absurd (cc);
  }

  -- a settling, where it is known what the journal holds after it
  module _ (safe : IsSettleSafe j j') where
    settle_called : Tell j → BothCalled j j'
    settle_called t = called_left j j' (WasLeft (a_of j) (b_of j)) t (counts_on j j' counts) (safe.crash t)

    settles : (change : Change) (answer : Option Bool) → ((kept other : Kept) → StandsBetween change j kept other → HoldsBy change answer j' kept other) → (answer ≡ None → failed)
        → SettlesList change answer j j'
    settles change answer stands fails = record {
      list = λ kept other between. record {
        stands = stands kept other between;
        goes = goes;
        cause = λ is. cause.rose (fails is);
        called = settle_called;
        crash = λ t. weaker_pair (a_of j) (b_of j) (a_of j') (b_of j') (WasLeft (a_of j) (b_of j)) (SpellsOne change kept other)
            (λ c d left. between_now change j kept other between t c d left.0 left.1) (safe.crash t);
        now = λ t. holds_now change answer j' kept other (stands kept other between) (tell_on j j' goes t);
      };
      goes = goes;
      cause = λ is. cause.rose (fails is);
      called = settle_called;
      crash = safe.crash;
    }

    image_waits : IsSettleFaulted j j' → (rs image : List Record) → HoldsImage j rs image → HoldsImage j' rs image
    image_waits is rs image held = (subst IsImageInFlight (sym is.flight_is) held.0, λ now. let t = tell_back j j' stays now in is.image_awaits rs image t (held.1 t))

    module _ (settled : Settled) (is_settled : IsSettledAs j settled j') where
      same_file : (kept : Kept) (rs image : List Record) → AreOf kept rs → HoldsImage j rs image → j'.b_counts ≡ j.b_counts → Stands j' kept
      same_file kept rs image are held same = record {
        records = rs;
        are = are;
        holds = (
          is_settled.idle,
          λ now. let t = tell_back j j' stays now in
              ⊎_elim (λ old. old.1) (λ new. absurd (neither j.b_counts (sym same ∙ new.0))) (is_settled.image_has rs image t (held.1 t)),
        );
      }

      other_file : (kept : Kept) (rs image : List Record) → AreOf kept image → HoldsImage j rs image → (j'.b_counts ≡ j.b_counts → ⊥) → Stands j' kept
      other_file kept rs image are held turned = record {
        records = image;
        are = are;
        holds = (
          is_settled.idle,
          λ now. let t = tell_back j j' stays now in
              ⊎_elim (λ old. absurd (turned old.0)) (λ new. new.1) (is_settled.image_has rs image t (held.1 t)),
        );
      }

      either_file : (kept : Kept) (rs image : List Record) → AreOf kept rs → AreOf kept image → HoldsImage j rs image → Stands j' kept
      either_file kept rs image are anew held = ⊎_elim (same_file kept rs image are held) (other_file kept rs image anew held) (same_or_not j'.b_counts j.b_counts)

    -- with an entry in flight
    module _ (kept other : Kept) where
      entry_made : IsSettledAs j IsKept j' → StandsBetween EntryMore j kept other → Stands j' other
      entry_made is between = ⊎_elim
          (λ (r, reads, held). record {
            records = between.records ++ r ∷ [];
            are = are_of other (between.records ++ r ∷ []) reads;
            holds = (is.idle, λ now. let t = tell_back j j' stays now in is.has between.records r t (held.1 t));
          })
          (λ (image, anew, held). absurd (let no = is.dropped held.0 in cc)) between.holds

      entry_dropped : IsSettledAs j NotKept j' → StandsBetween EntryMore j kept other → Stands j' kept
      entry_dropped is between = ⊎_elim
          (λ (r, reads, held). record {
            records = between.records;
            are = between.are;
            holds = (is.idle, λ now. let t = tell_back j j' stays now in is.has between.records r t (held.1 t));
          })
          (λ (image, anew, held). either_file NotKept is kept between.records image between.are anew held) between.holds

      -- with a whole list in flight
      whole_there : (settled : Settled) (is : IsSettledAs j settled j') (answer : Bool) → IsTrue answer ↔ (j'.b_counts ≢ j.b_counts)
          → StandsBetween Whole j kept other → HoldsBy Whole (Some answer) j' kept other
      whole_there settled is true told between = other_file settled is other between.records between.holds.0 between.holds.1 between.holds.2 (told.0 refl)
      whole_there settled is false told between = same_file settled is kept between.records between.holds.0 between.are between.holds.2 (stayed told)
        where
          stayed : IsTrue false ↔ (j'.b_counts ≢ j.b_counts) → j'.b_counts ≡ j.b_counts
          stayed told = same_bits j'.b_counts j.b_counts (λ differ. let no = told.1 differ in cc)

      -- a fault leaves it in flight
      still_between : (change : Change) → IsSettleFaulted j j' → StandsBetween change j kept other → StandsBetween change j' kept other
      still_between EntryMore is between = record {
        records = between.records;
        are = between.are;
        holds = ⊎_elim
            (λ (r, reads, held). inl (r, reads, (subst IsInFlight (sym is.flight_is) held.0, λ now. let t = tell_back j j' stays now in is.awaits between.records r t (held.1 t))))
            (λ (image, anew, held). inr (image, anew, image_waits is between.records image held)) between.holds;
      }
      still_between Whole is between =
          record { records = between.records; are = between.are; holds = (between.holds.0, between.holds.1, image_waits is between.records between.holds.0 between.holds.2) }

    pub entry_kept : IsSettledAs j IsKept j' → SettlesList EntryMore (Some true) j j'
    entry_kept is = settles EntryMore (Some true) (λ kept other between. entry_made kept other is between) (λ none. absurd (cc))

    pub entry_not_kept : IsSettledAs j NotKept j' → SettlesList EntryMore (Some false) j j'
    entry_not_kept is = settles EntryMore (Some false) (λ kept other between. entry_dropped kept other is between) (λ none. absurd (cc))

    pub whole_settled : (settled : Settled) → IsSettledAs j settled j' → (answer : Bool) → IsTrue answer ↔ (j'.b_counts ≢ j.b_counts) → SettlesList Whole (Some answer) j j'
    whole_settled settled is answer told = settles Whole (Some answer) (λ kept other between. whole_there kept other settled is answer told between) (λ none. absurd (cc))

    pub not_settled : (change : Change) → failed → IsSettleFaulted j j' → SettlesList change None j j'
    not_settled change fails is = settles change None (λ kept other between. still_between kept other change is between) (λ none. fails)

-- after an append to records of the list
module _ (kept : Kept) (entry : Entry) (next : IsNext kept entry) (i j' : JournalView) (rs : List Record) (are : AreOf kept rs) (held : Holds i rs None) where
  after_append : (done : DiskDone) → IsAppend (entry_record entry ∷ []) done i j' → HoldsBy EntryMore (answer_of done) j' kept (append_entry kept entry)
  after_append Done append = record { records = rs ++ entry_record entry ∷ []; are = are_next kept rs are entry next; holds = append.holds rs (entry_record entry) refl held }
  after_append Failed append = record { records = rs; are = are; holds = inl (entry_record entry, reads_next kept rs are entry next, append.holds rs (entry_record entry) refl held) }

failed_of : (done : DiskDone) → answer_of done ≡ None → done ≡ Failed
failed_of Done is = absurd (cc)
failed_of Failed is = refl

module _ (kept : Kept) (entry : Entry) (next : IsNext kept entry) (j : JournalView) (stands : Stands j kept) where
  -- without a rotation: the file has room
  pub entry_appended : (j' : JournalView) (done : DiskDone) → j.gate + 1 + length (body 0 (entry_record entry)) ≤ j.limit → IsAppend (entry_record entry ∷ []) done j j'
      → AddsEntry kept entry done j j'
  entry_appended j' done room append = record {
    list = record {
      stands = after;
      goes = append.goes;
      cause = λ none. append.cause (failed_of done none);
      called = λ t. called_left j j' (SpellsEither stands.records (stands.records ++ entry_record entry ∷ [])) t append.counts (append.crash stands.records (entry_record entry) refl stands.holds t);
      crash = λ t. weaker_pair (a_of j) (b_of j) (a_of j') (b_of j') (SpellsEither stands.records (stands.records ++ entry_record entry ∷ [])) (SpellsOne EntryMore kept (append_entry kept entry))
          (spells_either kept stands.records stands.are entry next) (append.crash stands.records (entry_record entry) refl stands.holds t);
      now = λ t. holds_now EntryMore (answer_of done) j' kept (append_entry kept entry) after (tell_on j j' append.goes t);
    };
    trims = λ is fits. omega (arith, append.gate_is is, append.goes.limit_is, room);
    stays = λ fits. (append.choice, append.other_is);
  }
    where
      after : HoldsBy EntryMore (answer_of done) j' kept (append_entry kept entry)
      after = after_append kept entry next j j' stands.records stands.are stands.holds done append

-- a rotation of a journal that holds a list
module _ (kept : Kept) (j : JournalView) (stands : Stands j kept) (i : JournalView) (failed : Type 0) (stays : Stays j i) (counts : Counts j i)
    (cause : PairCause (disk_a j).faults (disk_a i).faults (disk_b j).faults (disk_b i).faults failed) (image : List Record) (safe : IsRotateSafe j image i) where
  rotate_called : Tell j → BothCalled j i
  rotate_called t = called_left j i (SpellsEither stands.records image) t (counts_on j i counts) (safe.crash stands.records t (stands.holds.1 t))

  rotate_goes : GoesOn j i
  rotate_goes = goes_on j i failed stays counts cause

  image_held : IsRotated j image i → Holds i image None
  image_held rotated = (rotated.idle, λ now. let t = tell_back j i stays now in rotated.has stands.records t (stands.holds.1 t))

  image_in_flight : IsRotateFaulted j image i → HoldsImage i stands.records image
  image_in_flight faulted = (faulted.in_flight, λ now. let t = tell_back j i stays now in faulted.awaits stands.records t (stands.holds.1 t))

  -- whatever the image is of, where a crash during the rotation leaves the list or what the change makes
  rotate_makes : (change : Change) (answer : Option Bool) (other : Kept) → HoldsBy change answer i kept other → (answer ≡ None → failed)
      → ((c d : List ℕ) → SpellsEither stands.records image c d → SpellsOne change kept other c d) → MakesList change answer kept other j i
  rotate_makes change answer other holds fails spells = record {
    stands = holds;
    goes = rotate_goes;
    cause = λ none. cause.rose (fails none);
    called = rotate_called;
    crash = λ t. weaker_pair (a_of j) (b_of j) (a_of i) (b_of i) (SpellsEither stands.records image) (SpellsOne change kept other) spells (safe.crash stands.records t (stands.holds.1 t));
    now = λ t. holds_now change answer i kept other holds (tell_on j i rotate_goes t);
  }

  -- the image is that of a whole list
  module _ (other : Kept) (are : AreOf other image) where
    whole_made : IsRotated j image i → MakesList Whole (Some true) kept other j i
    whole_made rotated = rotate_makes Whole (Some true) other (record { records = image; are = are; holds = image_held rotated }) (λ none. absurd (cc))
        (spells_whole kept other stands.records image stands.are are)

    whole_failed : failed → IsRotateFaulted j image i → MakesList Whole None kept other j i
    whole_failed fails faulted = rotate_makes Whole None other (record { records = stands.records; are = stands.are; holds = (image, are, image_in_flight faulted) }) (λ none. fails)
        (spells_whole kept other stands.records image stands.are are)

  -- the image is that of the list, and an entry is to follow it
  module _ (entry : Entry) (next : IsNext kept entry) (is : image ≡ checkpoint kept) (needs : j.limit < j.gate + 1 + length (body 0 (entry_record entry))) where
    anew : AreOf kept image
    anew = subst (AreOf kept) (sym is) (are_anew kept stands.records stands.are)

    pub not_rotated : failed → IsRotateFaulted j image i → AddsEntry kept entry Failed j i
    not_rotated fails faulted = record {
      list = rotate_makes EntryMore None (append_entry kept entry) (record { records = stands.records; are = stands.are; holds = inr (image, anew, image_in_flight faulted) }) (λ none. fails)
          (λ c d either. inl (spells_anew kept stands.records image stands.are anew c d either));
      trims = λ done. absurd (cc);
      stays = λ fits. absurd (omega (arith, fits, needs));
    }

    pub entry_rotated : IsRotated j image i → (j' : JournalView) (done : DiskDone) → IsAppend (entry_record entry ∷ []) done i j' → AddsEntry kept entry done j j'
    entry_rotated rotated j' done append = record {
      list = record {
        stands = after;
        goes = goes_all;
        cause = λ none. rose_last j i j' rotate_goes append.goes (append.cause (failed_of done none));
        called = λ t. called_then j i j' (rotate_called t)
            (called_left i j' (SpellsEither image (image ++ entry_record entry ∷ [])) (tell_on j i rotate_goes t) append.counts (append.crash image (entry_record entry) refl held (tell_on j i rotate_goes t)));
        crash = λ t. weaker_pair (a_of j) (b_of j) (a_of j') (b_of j')
            (λ c d. SpellsEither stands.records image c d ⊎ SpellsEither image (image ++ entry_record entry ∷ []) c d) (SpellsOne EntryMore kept (append_entry kept entry))
            (λ c d. ⊎_elim (λ either. inl (spells_anew kept stands.records image stands.are anew c d either)) (λ either. spells_either kept image anew entry next c d either))
            (both_after j i j' (SpellsEither stands.records image) (SpellsEither image (image ++ entry_record entry ∷ [])) rotated.choice rotated.other_is append.choice append.other_is
            (safe.crash stands.records t (stands.holds.1 t)) (append.crash image (entry_record entry) refl held (tell_on j i rotate_goes t)));
        now = λ t. holds_now EntryMore (answer_of done) j' kept (append_entry kept entry) after (tell_on j j' goes_all t);
      };
      trims = λ is_done fits. omega (arith, append.gate_is is_done, append.goes.limit_is, stays.limit_is, rotated.gate_is, fits, ap (λ (l : List Record). length (bodies l)) is);
      stays = λ fits. absurd (omega (arith, fits, needs));
    }
      where
        held : Holds i image None
        held = image_held rotated

        goes_all : GoesOn j j'
        goes_all = goes_further j i j' rotate_goes append.goes

        after : HoldsBy EntryMore (answer_of done) j' kept (append_entry kept entry)
        after = after_append kept entry next i j' image anew held done append

-- a whole list was written in the place of whatever list the journal holds
module _ (whole : Kept) (can : CanKeep whole) (j i : JournalView) (failed : Type 0) (stays : Stays j i) (counts : Counts j i)
    (cause : PairCause (disk_a j).faults (disk_a i).faults (disk_b j).faults (disk_b i).faults failed)
    (image : List Record) (is : image ≡ checkpoint whole) (safe : IsRotateSafe j image i) where
  are_whole : AreOf whole image
  are_whole = subst (AreOf whole) (sym is) (are_anew whole can.0 can.1)

  pub replaced : IsRotated j image i → ReplacesList whole Done j i
  replaced rotated = record {
    list = λ kept stands. whole_made kept j stands i failed stays counts cause image safe whole are_whole rotated;
    gate_is = λ done. rotated.gate_is ∙ ap (λ (l : List Record). first_gate + length (bodies l)) is;
  }

  pub not_replaced : failed → IsRotateFaulted j image i → ReplacesList whole Failed j i
  not_replaced fails faulted = record {
    list = λ kept stands. whole_failed kept j stands i failed stays counts cause image safe whole are_whole fails faulted;
    gate_is = λ done. absurd (cc);
  }

-- the file has room where it needs no rotation
pub has_room : (needs : Bool) (limit used : ℕ) → IsTrue needs ↔ (limit < used) → needs ≡ false → used ≤ limit
has_room needs limit used told is = ⊎_elim (λ below. absurd (let no = subst IsTrue is (told.1 below) in cc)) (λ room. room) (cases_lt limit used)
