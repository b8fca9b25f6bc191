-- What disks hold is what they spell, and of one pair of disks one thing is found.
use Rattle.std.proofs.Common.{◌≡◌, ◌⊎◌, ℕ, List, Option, None, Some, inl, inr, refl, subst, ⊎_elim}
use Rattle.disk_model.specs.Disk.{History, contents_of, state_of}
use Rattle.disk_model.proofs.Images.{contents_image, synced_within}
use Rattle.disk_model.specs.Pair.{BothTell, DiskPair}
use Rattle.commit_ledger.specs.declared.entry.Entry.{Entry}
use Rattle.commit_ledger.specs.Checkpoint.{Agrees}
use Rattle.commit_ledger.specs.Kept.{Kept, append_entry}
use Rattle.commit_journal.specs.declared.why.CreateWhy.{CreateWhy}
use Rattle.commit_journal.specs.declared.why.CreateWhy.TheVariants.{Exists as IsThereAlready, DiskFault as MakingFault, NoMemory as MakingNoMemory}
use Rattle.stored_ledger.specs.declared.why.StartWhy.{StartWhy}
use Rattle.stored_ledger.specs.declared.why.StartWhy.TheVariants.{Exists}
use Rattle.stored_ledger.specs.Starting.{IsByBytes, IsFound, IsMade, IsNotFound, IsNotMade, why_of_making}
use Rattle.stored_ledger.specs.Stored.{HoldsKept, SpellsAgreeing, SpellsKept, SpellsWith}
use Rattle.stored_ledger.proofs.CauseLemmas.{one_list, spelled, one_cause}

-- what a start reads is one of the images
held_now : (a b : History) (kept : Kept) (flight : Option Entry) → HoldsKept a b kept flight → SpellsWith (contents_of a) (contents_of b) kept flight
held_now a b kept flight held =
    held.each (contents_of a) (contents_of b) (contents_image (state_of a) (synced_within a)) (contents_image (state_of b) (synced_within b))

agreeing_is : (a b : List ℕ) (kept one : Kept) → SpellsKept a b one → SpellsAgreeing a b kept → Agrees one kept
agreeing_is a b kept one spells agreeing = subst (λ k. Agrees k kept) (one_list a b agreeing.one one agreeing.spells spells) agreeing.agrees

pub found_at_rest : (before after : DiskPair) (kept one : Kept) → BothTell before → HoldsKept before.a.history before.b.history kept None → IsFound before after one
    → Agrees one kept
found_at_rest before after kept one tell held found =
    agreeing_is (contents_of before.a.history) (contents_of before.b.history) kept one (found.spelled tell) (held_now before.a.history before.b.history kept None held)

pub found_in_flight : (before after : DiskPair) (kept one : Kept) (entry : Entry) → BothTell before → HoldsKept before.a.history before.b.history kept (Some entry)
    → IsFound before after one → Agrees one kept ⊎ (one ≡ append_entry kept entry)
found_in_flight before after kept one entry tell held found =
    let a = contents_of before.a.history in
    let b = contents_of before.b.history in
    ⊎_elim (λ old. inl (agreeing_is a b kept one (found.spelled tell) old))
    (λ new. inr (one_list a b one (append_entry kept entry) (found.spelled tell) new)) (held_now before.a.history before.b.history kept (Some entry) held)

pub one_found : (before after after2 : DiskPair) (one two : Kept) → BothTell before → IsFound before after one → IsFound before after2 two → one ≡ two
one_found before after after2 one two tell first second =
    one_list (contents_of before.a.history) (contents_of before.b.history) one two (first.spelled tell) (second.spelled tell)

pub found_apart : (before after after2 : DiskPair) (kept : Kept) (why : StartWhy) → BothTell before → IsByBytes why → IsFound before after kept → IsNotFound before why after2 → ⊥
found_apart before after after2 kept why tell by found refused =
    spelled (contents_of before.a.history) (contents_of before.b.history) kept why (found.spelled tell) by (refused.explained tell)

pub one_refused : (before after after2 : DiskPair) (one two : StartWhy) → BothTell before → IsByBytes one → IsByBytes two → IsNotFound before one after
    → IsNotFound before two after2 → one ≡ two
one_refused before after after2 one two tell by by' first second =
    one_cause (contents_of before.a.history) (contents_of before.b.history) one two by by' (first.explained tell) (second.explained tell)

-- only a journal that is there is reported as there
there_already : (cause : CreateWhy) → Exists ≡ why_of_making cause → cause ≡ IsThereAlready
there_already IsThereAlready told = refl
there_already MakingFault told = absurd (cc)
there_already MakingNoMemory told = absurd (cc)

pub made_apart : (before after after2 : DiskPair) → BothTell before → IsMade before after → IsNotMade before Exists after2 → ⊥
made_apart before after after2 tell made refused =
    made.none_there tell (refused.disks.exists tell.0 tell.1 (there_already refused.cause refused.told))
