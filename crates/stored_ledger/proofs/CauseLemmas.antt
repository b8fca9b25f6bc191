-- Files spell one list at most, and a refusal of them has one cause.
use Rattle.std.proofs.Common.{◌≡◌, ◌+◌, ℕ, List, [], ◌∷◌, length, refl, sym, subst, ap, ◌∙◌}
use Rattle.record_code.specs.declared.payloads.Placed.{Placed}
use Rattle.record_code.specs.Listed.{record_of, records_of, PlacedFrom}
use Rattle.record_code.specs.Reading.{first_gate}
use Rattle.record_code.specs.Record.{Record}
use Rattle.record_code.proofs.ReadingLemmas.{reads_unique}
use Rattle.commit_check.specs.Accepts.{Accepts}
use Rattle.commit_journal.specs.declared.why.AttachWhy.{AttachWhy}
use Rattle.commit_journal.specs.declared.why.AttachWhy.TheVariants.{NotAJournal as NoPair, Damaged as DamagedPair, DiskFault as PairFault, NoMemory as PairNoMemory}
use Rattle.stored_ledger.specs.declared.why.StartWhy.{StartWhy}
use Rattle.stored_ledger.specs.declared.why.StartWhy.TheVariants.{Exists, NotAJournal, Damaged, BadRecord, DiskFault, NoMemory}
use Rattle.commit_journal.specs.Attach.{ExplainsPair, IsRefusal}
use Rattle.commit_journal.specs.Pair.{PairSpells, counting_of}
use Rattle.commit_journal.proofs.CauseLemmas.{spelled as journal_spelled, apart as journal_apart, owed as journal_owed}
use Rattle.commit_ledger.specs.Kept.{Kept}
use Rattle.commit_ledger.specs.Reading.{ReadsAs, IsUnread}
use Rattle.commit_ledger.proofs.ReadingLemmas.{one_reading, not_read, one_unread}
use Rattle.stored_ledger.specs.Starting.{Explains, IsBadList, IsByBytes}
use Rattle.stored_ledger.specs.Stored.{SpellsKept}

-- two files spell one list of records
pair_one : (a b : List ℕ) (rs rs' : List Record) → PairSpells a b rs → PairSpells a b rs' → rs ≡ rs'
pair_one a b rs rs' one two =
    (reads_unique (counting_of a b) first_gate rs rs' one.last two.last one.spells.reads two.spells.reads one.spells.shut two.spells.shut).records

pub one_list : (a b : List ℕ) (one two : Kept) → SpellsKept a b one → SpellsKept a b two → one ≡ two
one_list a b one two first second =
    one_reading Accepts first.0 one two first.2 (subst (λ (rs : List Record). ReadsAs Accepts rs two) (pair_one a b second.0 first.0 second.1 first.1) second.2)

-- and a list that is spelled is refused for nothing
pub spelled : (a b : List ℕ) (kept : Kept) (why : StartWhy) → SpellsKept a b kept → IsByBytes why → Explains a b why → ⊥
spelled a b kept Exists spells by is = is
spelled a b kept NotAJournal spells by is = journal_spelled a b spells.0 NoPair spells.1 tt is
spelled a b kept (Damaged offset digest computed) spells by is = journal_spelled a b spells.0 (DamagedPair offset digest computed) spells.1 tt is
spelled a b kept (BadRecord offset) spells by is =
    not_read Accepts is.placed offset kept is.unread (subst (λ (rs : List Record). ReadsAs Accepts rs kept) (pair_one a b spells.0 (records_of is.placed) spells.1 is.spelled) spells.2)
spelled a b kept DiskFault spells by is = by
spelled a b kept NoMemory spells by is = by

-- the first and the rest of a list that isn't empty
abbrev first_record : Record → List Record → Record
first_record r [] = r
first_record r (s ∷ rs) = s

abbrev rest_records : List Record → List Record
rest_records [] = []
rest_records (r ∷ rs) = rs

-- records that stand one after the other from one place on are known by what they are
same_record : (p q : Placed) → record_of p ≡ record_of q → p.offset ≡ q.offset → p ≡ q
same_record p q is place =
    let path : p ≡ q =
    ap (λ (r : Record). record { offset = p.offset; kind = r.kind; payload = r.payload }) is
    ∙ ap (λ (n : ℕ). record { offset = n; kind = q.kind; payload = q.payload }) place in
    path

placed_one : (g : ℕ) (ps qs : List Placed) (last last' : ℕ) → records_of ps ≡ records_of qs → PlacedFrom g ps last → PlacedFrom g qs last' → ps ≡ qs
placed_one g [] [] last last' same one two = refl
placed_one g [] (q ∷ qs) last last' same one two = cc
placed_one g (p ∷ ps) [] last last' same one two = cc
placed_one g (p ∷ ps) (q ∷ qs) last last' same one two =
    let head : record_of p ≡ record_of q = ap (first_record (record_of p)) same in
    let first : p ≡ q = same_record p q head (one.0 ∙ sym two.0) in
    let rest : ps ≡ qs = placed_one (g + 38 + length p.payload) ps qs last last' (ap rest_records same) one.1
    (subst (λ (r : Placed). PlacedFrom (g + 38 + length r.payload) qs last') (sym first) two.1) in
    ap (λ (r : Placed). r ∷ ps) first ∙ ap (λ (l : List Placed). q ∷ l) rest

-- so the first record that breaks a rule is at one place
one_offset : (a b : List ℕ) (m n : ℕ) → IsBadList a b m → IsBadList a b n → m ≡ n
one_offset a b m n one two =
    let same : two.placed ≡ one.placed =
    placed_one first_gate two.placed one.placed two.last one.last (pair_one a b (records_of two.placed) (records_of one.placed) two.spelled one.spelled) two.places one.places in
    one_unread Accepts one.placed m n one.unread (subst (λ (l : List Placed). IsUnread Accepts l n) same two.unread)

-- a list that is spelled isn't refused as a journal
not_both : (a b : List ℕ) (offset : ℕ) (why : AttachWhy) → IsBadList a b offset → IsRefusal why → ExplainsPair a b why → ⊥
not_both a b offset why bad refusal is = journal_spelled a b (records_of bad.placed) why bad.spelled refusal is

damaged_one : (a b : List ℕ) (offset offset' : ℕ) (kept kept' computed computed' : List ℕ) → ExplainsPair a b (DamagedPair offset kept computed)
    → ExplainsPair a b (DamagedPair offset' kept' computed') → Damaged offset kept computed ≡ Damaged offset' kept' computed'
damaged_one a b offset offset' kept kept' computed computed' one two =
    ap told (journal_owed a b (DamagedPair offset kept computed) (DamagedPair offset' kept' computed') one tt two tt)
  where
    told : AttachWhy → StartWhy
    told (DamagedPair n k c) = Damaged n k c
    told NoPair = NotAJournal
    told PairFault = DiskFault
    told PairNoMemory = NoMemory

pub one_cause : (a b : List ℕ) (one two : StartWhy) → IsByBytes one → IsByBytes two → Explains a b one → Explains a b two → one ≡ two
one_cause a b Exists two by by' is is' = absurd by
one_cause a b DiskFault two by by' is is' = absurd by
one_cause a b NoMemory two by by' is is' = absurd by
one_cause a b NotAJournal Exists by by' is is' = absurd by'
one_cause a b NotAJournal NotAJournal by by' is is' = refl
one_cause a b NotAJournal (Damaged offset kept computed) by by' is is' = absurd (journal_apart a b offset kept computed is is')
one_cause a b NotAJournal (BadRecord offset) by by' is is' = absurd (not_both a b offset NoPair is' tt is)
one_cause a b NotAJournal DiskFault by by' is is' = absurd by'
one_cause a b NotAJournal NoMemory by by' is is' = absurd by'
one_cause a b (Damaged offset kept computed) Exists by by' is is' = absurd by'
one_cause a b (Damaged offset kept computed) NotAJournal by by' is is' = absurd (journal_apart a b offset kept computed is' is)
one_cause a b (Damaged offset kept computed) (Damaged offset' kept' computed') by by' is is' = damaged_one a b offset offset' kept kept' computed computed' is is'
one_cause a b (Damaged offset kept computed) (BadRecord place) by by' is is' = absurd (not_both a b place (DamagedPair offset kept computed) is' tt is)
one_cause a b (Damaged offset kept computed) DiskFault by by' is is' = absurd by'
one_cause a b (Damaged offset kept computed) NoMemory by by' is is' = absurd by'
one_cause a b (BadRecord offset) Exists by by' is is' = absurd by'
one_cause a b (BadRecord offset) NotAJournal by by' is is' = absurd (not_both a b offset NoPair is tt is')
one_cause a b (BadRecord offset) (Damaged place kept computed) by by' is is' = absurd (not_both a b offset (DamagedPair place kept computed) is tt is')
one_cause a b (BadRecord offset) (BadRecord offset') by by' is is' = ap BadRecord (one_offset a b offset offset' is is')
one_cause a b (BadRecord offset) DiskFault by by' is is' = absurd by'
one_cause a b (BadRecord offset) NoMemory by by' is is' = absurd by'
