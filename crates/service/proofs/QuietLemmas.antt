-- The runs that serve no session, where nothing fails.
use Rattle.std.proofs.Common.{◌≡◌, ◌⊎◌, inl, inr, ℕ, List, refl, sym, subst}
use Rattle.cfg_base.specs.Counts.{Rose}
use Rattle.cfg_values.specs.Number.{IsNumberWithin}
use Rattle.command_line.specs.declared.asked.Asked.{Asked}
use Rattle.command_line.specs.declared.asked.RunMode.{RunMode}
use Rattle.command_line.specs.declared.asked.RunMode.TheVariants.{Init, Serve, Check, Gen}
use Rattle.commit_journal.specs.declared.why.CreateWhy.{CreateWhy}
use Rattle.commit_journal.specs.declared.why.CreateWhy.TheVariants.{Exists as IsThereAlready, DiskFault as MakingFault, NoMemory as MakingNoMemory}
use Rattle.commit_journal.specs.Opening.{IsNotCreated}
use Rattle.commit_ledger.specs.Kept.{Kept}
use Rattle.disk_model.specs.Pair.{DiskPair}
use Rattle.io_edge.specs.Ends.{SinkView}
use Rattle.modes.specs.Modes.{IsCheck, IsInit, IsTold, start_status}
use Rattle.modes.specs.Texts.{check_text, init_text}
use Rattle.stored_ledger.specs.declared.why.StartWhy.{StartWhy}
use Rattle.stored_ledger.specs.Starting.{Explains, IsByBytes, IsNotMade, why_of_making}
use Rattle.stored_ledger.specs.Stored.{SpellsKept, factory_records}
use Rattle.service.specs.Modes.{IsGen, RunsIn}
use Rattle.service.specs.Serving.{HasDisksFor, HaveNoFault, HaveNoJournal}
use Rattle.service.specs.World.{Told}
use Rattle.service.proofs.ServingLemmas.{refused_for_memory}

-- a text is written whole where the sink's count of faults didn't rise
told_quietly : (text : List ℕ) (old new : SinkView) (status : ℕ) → (Rose old.faults new.faults → ⊥) → IsTold text old new status
    → (status ≡ 0) ⊎ (status ≡ 9)
told_quietly text old new status quiet (inl whole) = inl whole.0
told_quietly text old new status quiet (inr cut) = absurd (quiet cut.rose)

-- where no journal is there and no count of faults rose, only want of memory keeps a list from being made
not_made_for : (before after : DiskPair) (why : CreateWhy) → HaveNoJournal before after
    → IsNotCreated before.a before.b factory_records why after.a after.b
    → (start_status (why_of_making why) ≡ 0) ⊎ (start_status (why_of_making why) ≡ 9)
not_made_for before after IsThereAlready none not = absurd (none.none_there (not.exists none.tell.0 none.tell.1 refl))
not_made_for before after MakingFault none not = absurd (none.no_fault (not.cause.rose refl))
not_made_for before after MakingNoMemory none not = inr refl

not_made_for_memory : (before after : DiskPair) (cause : StartWhy) → HaveNoJournal before after → IsNotMade before cause after
    → (start_status cause ≡ 0) ⊎ (start_status cause ≡ 9)
not_made_for_memory before after cause none not =
    subst (λ (w : StartWhy). (start_status w ≡ 0) ⊎ (start_status w ≡ 9)) (sym not.told) (not_made_for before after not.cause none not.disks)

-- a status that is another one is 0 or 9 where that one is
either_as : (m n : ℕ) → n ≡ m → (m ≡ 0) ⊎ (m ≡ 9) → (n ≡ 0) ⊎ (n ≡ 9)
either_as m n is both = subst (λ (k : ℕ). (k ≡ 0) ⊎ (k ≡ 9)) (sym is) both

module _ (spelled_once : (a b : List ℕ) (kept : Kept) (why : StartWhy) → SpellsKept a b kept → IsByBytes why → Explains a b why → ⊥)
    (Untouched : Type 0) (asked : Asked) (old new : SinkView) (before after : DiskPair) (told : Told)
    (calm : Rose old.faults new.faults → ⊥) where
  init_quietly : HaveNoJournal before after → IsInit Untouched old new before after told.status told.why
      → (told.status ≡ 0) ⊎ (told.status ≡ 9)
  init_quietly none (inl refused) =
      either_as (start_status refused.0) told.status refused.1.status_is (not_made_for_memory before after refused.0 none refused.2)
  init_quietly none (inr made) = told_quietly init_text old new told.status calm made.1

  check_quietly : HaveNoFault before after → IsCheck Untouched old new before after told.status told.why
      → (told.status ≡ 0) ⊎ (told.status ≡ 9)
  check_quietly sound (inl refused) =
      either_as (start_status refused.0) told.status refused.1.status_is (refused_for_memory spelled_once before after refused.0 refused.2 sound)
  check_quietly sound (inr (no_why, kept, found, inl whole)) = told_quietly (check_text kept) old new told.status calm whole
  check_quietly sound (inr (no_why, kept, found, inr untold)) = inr untold.0

  gen_quietly : (number : ℕ) → IsGen Untouched number asked.users old new told.status told.history
      → (told.status ≡ 0) ⊎ (told.status ≡ 9)
  gen_quietly number (inl none) = inr none.0
  gen_quietly number (inr made) = told_quietly made.0 old new told.status calm made.2

  -- what came of a mode, of words that ask for a number in mode gen
  pub runs_quietly : (mode : RunMode) → (mode ≡ Gen → (number : ℕ) × IsNumberWithin 1 3000 asked.place number)
      → HasDisksFor mode before after → RunsIn Untouched mode asked old new before after told → (told.status ≡ 0) ⊎ (told.status ≡ 9)
  runs_quietly Init spelled disks ran = init_quietly disks ran.0
  runs_quietly Check spelled disks ran = check_quietly disks ran.0
  runs_quietly Gen spelled disks ran = let number = spelled refl in gen_quietly number.0 (ran number.0 number.1)
  runs_quietly Serve spelled disks ran = absurd ran
