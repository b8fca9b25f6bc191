-- What opening a journal reads, and why it may be refused.
use Rattle.std.specs.Prelude.{◌≡◌, ◌≢◌, ◌≤◌, ◌==◌, ◌⊎◌, ◌↔◌, IsTrue, ℕ, List, length}
use Rattle.record_code.specs.Record.{Record}
use Rattle.record_code.specs.Reading.{byte, slice, Reads, first_gate, computed_digest, kept_digest}
use Rattle.commit_journal.specs.declared.why.AttachWhy.{AttachWhy}
use Rattle.commit_journal.specs.declared.why.AttachWhy.TheVariants.{NotAJournal, Damaged, DiskFault, NoMemory}
use Rattle.commit_journal.specs.declared.header.Header.{Header}
use Rattle.commit_journal.specs.Pair.{magic, HasHeader, IsPair, generation, file_gate, counting_of}

-- a gated record whose digest isn't that of its bytes
pub record IsDamage (file : List ℕ) (g offset : ℕ) (kept computed : List ℕ) : Type 0 where
  pub place : offset ≡ g
  pub opened : byte file g ≡ 1
  pub kept_is : kept ≡ kept_digest file g
  pub computed_is : computed ≡ computed_digest file g
  pub differ : kept ≢ computed

-- records up to a damaged one, or up to the end of the file
abbrev pub ExplainsFile : List ℕ → AttachWhy → Type 0
ExplainsFile file (Damaged offset kept computed) = (rs : List Record) × Reads file first_gate rs offset × IsDamage file offset offset kept computed
ExplainsFile file NotAJournal = (rs : List Record) × (last : ℕ) × Reads file first_gate rs last × (length file ≤ last)
ExplainsFile file DiskFault = Unit {0}
ExplainsFile file NoMemory = Unit {0}

-- the record at a gate is damaged
abbrev pub ExplainsRecord : List ℕ → ℕ → AttachWhy → Type 0
ExplainsRecord file g (Damaged offset kept computed) = IsDamage file g offset kept computed
ExplainsRecord file g NotAJournal = ⊥
ExplainsRecord file g DiskFault = Unit {0}
ExplainsRecord file g NoMemory = Unit {0}

-- why two files can't be opened
abbrev pub ExplainsPair : List ℕ → List ℕ → AttachWhy → Type 0
ExplainsPair a b NotAJournal = (IsPair a b → ⊥) ⊎ (IsPair a b × ExplainsFile (counting_of a b) NotAJournal)
ExplainsPair a b (Damaged offset kept computed) = IsPair a b × ExplainsFile (counting_of a b) (Damaged offset kept computed)
ExplainsPair a b DiskFault = Unit {0}
ExplainsPair a b NoMemory = Unit {0}

-- the 17 bytes of a file
pub record IsHeaderOf (file : List ℕ) (h : Header) : Type 0 where
  pub magic_is : IsTrue h.begins ↔ (slice file 0 8 ≡ magic)
  pub sound : IsTrue h.is_sound ↔ HasHeader file
  pub number : h.generation ≡ generation file
  pub gate : h.is_open ≡ (file_gate file == 1)

-- both files begin with the magic and a file gate is open: a journal is there
pub record IsThere (a b : List ℕ) : Type 0 where
  pub magic_a : slice a 0 8 ≡ magic
  pub magic_b : slice b 0 8 ≡ magic
  pub gate : (file_gate a ≡ 1) ⊎ (file_gate b ≡ 1)

-- an answer that the bytes alone decide
abbrev pub IsRefusal : AttachWhy → Type 0
IsRefusal (Damaged offset kept computed) = Unit {0}
IsRefusal NotAJournal = Unit {0}
IsRefusal DiskFault = ⊥
IsRefusal NoMemory = ⊥

-- files that have a cause to be refused are refused for that cause, or by a fault or want of memory
abbrev pub IsOwed : List ℕ → List ℕ → AttachWhy → Type 0
IsOwed a b answer = (why : AttachWhy) → IsRefusal why → ExplainsPair a b why → IsRefusal answer → answer ≡ why

-- files without a cause to be refused
abbrev pub IsFree : List ℕ → List ℕ → Type 0
IsFree a b = (why : AttachWhy) → IsRefusal why → ExplainsPair a b why → ⊥
