-- Records of a list: with one more, written anew, and as files spell them.
use Rattle.std.proofs.Common.{ℕ, List, [], ◌∷◌, ◌++◌, Option, None, Some, Bool, true, false, inl, inr, refl, subst, arith}
use Rattle.disk_model.specs.Disk.{contents_of}
use Rattle.record_code.specs.Record.{Record}
use Rattle.commit_check.specs.Accepts.{Accepts}
use Rattle.commit_ledger.specs.declared.entry.Entry.{Entry}
use Rattle.commit_ledger.specs.Checkpoint.{Agrees, HasShortMaps, as_read, checkpoint}
use Rattle.commit_ledger.specs.Kept.{Kept, append_entry}
use Rattle.commit_ledger.specs.Payload.{entry_record}
use Rattle.commit_ledger.specs.Reading.{ReadsAs}
use Rattle.commit_ledger.proofs.ReadingLemmas.{agrees_append, agrees_follow, appended_is_read, checkpoint_reads, texts_are_short}
use Rattle.commit_journal.specs.declared.flight.Flight.{Flight}
use Rattle.commit_journal.specs.declared.flight.Flight.TheVariants.{Nothing, Record as RecordOf, Image as ImageOf}
use Rattle.commit_journal.specs.Journal.{IsImageInFlight, IsInFlight, JournalView, Tell, image_gate}
use Rattle.commit_journal.specs.Pair.{PairSpells, SpellsEither, generation}
use Rattle.commit_journal.proofs.PairLemmas.{rests_only}
use Rattle.commit_journal.proofs.SettleLemmas.{waits_either}
use Rattle.commit_journal.proofs.TurnLemmas.{turns_either}
use Rattle.stored_ledger.specs.declared.change.Change.{Change}
use Rattle.stored_ledger.specs.declared.change.Change.TheVariants.{Entry as EntryMore, Whole}
use Rattle.stored_ledger.specs.Growing.{EachNow, HoldsBy, SpellsBy, SpellsOne}
use Rattle.stored_ledger.specs.Standing.{AreOf, CanKeep, HoldsChange, Stands, StandsBetween}
use Rattle.stored_ledger.specs.Stored.{IsNext, IsStored, SpellsAgreeing}

-- a list agrees with itself
pub agrees_same : (kept : Kept) → Agrees kept kept
agrees_same kept = record { is = refl; no_later = omega arith; exact = λ some. refl }

pub are_of : (kept : Kept) (rs : List Record) → ReadsAs Accepts rs kept → AreOf kept rs
are_of kept rs reads = record { one = kept; reads = reads; agrees = agrees_same kept }

module _ (kept : Kept) (rs : List Record) (are : AreOf kept rs) where
  -- the list is written anew
  pub are_anew : AreOf kept (checkpoint kept)
  are_anew =
      let back = checkpoint_reads Accepts rs are.one kept are.reads are.agrees in
      record { one = as_read kept; reads = back.0; agrees = back.1 }

  pub texts_short : HasShortMaps kept
  texts_short = texts_are_short Accepts rs are.one kept are.reads are.agrees

  pub spells_list : (a b : List ℕ) → PairSpells a b rs → SpellsAgreeing a b kept
  spells_list a b pair = record { one = are.one; spells = (rs, pair, are.reads); agrees = are.agrees }

  -- with the record of an entry that may come next
  module _ (entry : Entry) (next : IsNext kept entry) where
    pub reads_next : ReadsAs Accepts (rs ++ entry_record entry ∷ []) (append_entry kept entry)
    reads_next =
        subst (ReadsAs Accepts (rs ++ entry_record entry ∷ [])) (agrees_append are.one kept entry are.agrees)
        (appended_is_read Accepts rs are.one entry are.reads next.0 (agrees_follow are.one kept entry are.agrees next.1))

    pub are_next : AreOf (append_entry kept entry) (rs ++ entry_record entry ∷ [])
    are_next = are_of (append_entry kept entry) (rs ++ entry_record entry ∷ []) reads_next

    pub spells_either : (a b : List ℕ) → SpellsEither rs (rs ++ entry_record entry ∷ []) a b → SpellsOne EntryMore kept (append_entry kept entry) a b
    spells_either a b (inl old) = inl (spells_list a b old)
    spells_either a b (inr new) = inr (rs ++ entry_record entry ∷ [], new, reads_next)

-- files that spell the one or the other records of a list
pub spells_anew : (kept : Kept) (rs image : List Record) → AreOf kept rs → AreOf kept image → (a b : List ℕ) → SpellsEither rs image a b → SpellsAgreeing a b kept
spells_anew kept rs image are anew a b (inl old) = spells_list kept rs are a b old
spells_anew kept rs image are anew a b (inr new) = spells_list kept image anew a b new

-- or those of a list and of another one
pub spells_whole : (kept other : Kept) (rs image : List Record) → AreOf kept rs → AreOf other image → (a b : List ℕ) → SpellsEither rs image a b → SpellsOne Whole kept other a b
spells_whole kept other rs image are anew a b (inl old) = inl (spells_list kept rs are a b old)
spells_whole kept other rs image are anew a b (inr new) = inr (spells_list other image anew a b new)

-- what a journal can hold: what was opened, with entries that may come next, and as its image is read
pub stored_can_keep : (v : JournalView) (kept : Kept) → IsStored v kept → CanKeep kept
stored_can_keep v kept stored = (stored.records, are_of kept stored.records stored.reads)

pub next_can_keep : (kept : Kept) (entry : Entry) → CanKeep kept → IsNext kept entry → CanKeep (append_entry kept entry)
next_can_keep kept entry can next = (can.0 ++ entry_record entry ∷ [], are_next kept can.0 can.1 entry next)

pub read_can_keep : (kept : Kept) → CanKeep kept → CanKeep (as_read kept)
read_can_keep kept can = (checkpoint kept, are_of (as_read kept) (checkpoint kept) (checkpoint_reads Accepts can.0 can.1.one kept can.1.reads can.1.agrees).0)

-- what was opened stands
pub stored_stands : (v : JournalView) (kept : Kept) → IsStored v kept → Stands v kept
stored_stands v kept stored = record { records = stored.records; are = are_of kept stored.records stored.reads; holds = (stored.idle, stored.has) }

pub stands_can_keep : (j : JournalView) (kept : Kept) → Stands j kept → CanKeep kept
stands_can_keep j kept stands = (stands.records, stands.are)

-- something is in flight of a change
image_flies : (f : Flight) → IsImageInFlight f → IsInFlight f
image_flies Nothing is = is
image_flies (RecordOf next) is = tt
image_flies (ImageOf next) is = tt

change_flies : (change : Change) (j : JournalView) (kept other : Kept) (rs : List Record) → HoldsChange change j kept other rs → IsInFlight j.flight
change_flies EntryMore j kept other rs (inl (r, reads, held)) = held.0
change_flies EntryMore j kept other rs (inr (image, anew, held)) = image_flies j.flight held.0
change_flies Whole j kept other rs (image, anew, held) = image_flies j.flight held.0

pub between_flies : (change : Change) (j : JournalView) (kept other : Kept) → StandsBetween change j kept other → IsInFlight j.flight
between_flies change j kept other between = change_flies change j kept other between.records between.holds

-- what a crash may leave of a list that stands
pub stands_now : (j : JournalView) (kept : Kept) → Stands j kept → Tell j → EachNow j (λ c d. SpellsAgreeing c d kept)
stands_now j kept stands t c d in_a in_b =
    spells_list kept stands.records stands.are c d (rests_only j.b_counts j.counting.history j.other.history j.gate stands.records (stands.holds.1 t).rests c d in_a in_b)

change_now : (change : Change) (j : JournalView) (kept other : Kept) (rs : List Record) → AreOf kept rs → HoldsChange change j kept other rs → Tell j → EachNow j (SpellsOne change kept other)
change_now EntryMore j kept other rs are (inl (r, reads, held)) t c d in_a in_b =
    one (waits_either j.b_counts j.counting.history j.other.history rs r j.gate (held.1 t).waits c d (in_a, in_b))
  where
    one : SpellsEither rs (rs ++ r ∷ []) c d → SpellsOne EntryMore kept other c d
    one (inl old) = inl (spells_list kept rs are c d old)
    one (inr new) = inr (rs ++ r ∷ [], new, reads)
change_now EntryMore j kept other rs are (inr (image, anew, held)) t c d in_a in_b =
    inl (spells_anew kept rs image are anew c d
    (turns_either j.b_counts j.counting.history j.other.history rs image j.gate (generation (contents_of j.counting.history)) (image_gate image) (held.1 t).waits c d (in_a, in_b)))
change_now Whole j kept other rs are (image, anew, held) t c d in_a in_b =
    spells_whole kept other rs image are anew c d
    (turns_either j.b_counts j.counting.history j.other.history rs image j.gate (generation (contents_of j.counting.history)) (image_gate image) (held.1 t).waits c d (in_a, in_b))

-- and of a change in flight
pub between_now : (change : Change) (j : JournalView) (kept other : Kept) → StandsBetween change j kept other → Tell j → EachNow j (SpellsOne change kept other)
between_now change j kept other between = change_now change j kept other between.records between.are between.holds

pub holds_now : (change : Change) (answer : Option Bool) (j : JournalView) (kept other : Kept) → HoldsBy change answer j kept other → Tell j → EachNow j (SpellsBy change answer kept other)
holds_now change None j kept other = between_now change j kept other
holds_now change (Some true) j kept other = stands_now j other
holds_now change (Some false) j kept other = stands_now j kept
