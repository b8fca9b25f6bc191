-- What a run comes to, of whatever its words ask.
use Rattle.std.proofs.Common.{◌≡◌, ◌≢◌, ◌⊎◌, inl, inr, ℕ, List, Option, None, Some, refl, sym, ap, subst, arith, slice_get}
use Rattle.cfg_base.specs.Counts.{Rose}
use Rattle.command_line.specs.Asked.{Asks}
use Rattle.command_line.specs.declared.asked.Asked.{Asked}
use Rattle.command_line.specs.declared.asked.RunMode.{RunMode}
use Rattle.command_line.specs.declared.asked.RunMode.TheVariants.{Init, Serve, Check, Gen}
use Rattle.commit_ledger.specs.Kept.{Kept}
use Rattle.stored_ledger.specs.declared.why.StartWhy.{StartWhy}
use Rattle.stored_ledger.specs.Starting.{Explains, IsByBytes}
use Rattle.stored_ledger.specs.Stored.{SpellsKept}
use Rattle.session_threads.specs.Adding.{unready_in}
use Rattle.service.specs.Modes.{RunsMode}
use Rattle.service.specs.Run.{WordsAsk, EachEnd, IsAsking, IsFaultless, IsUndone, NothingWasDone}
use Rattle.service.specs.Running.{IsRunOf, Ran, RanIn, IsServeRun}
use Rattle.service.specs.Serving.{HasDisksFor, HaveNoFault}
use Rattle.service.specs.World.{Told, Views, World}
use Rattle.service.proofs.ModeLemmas.{mode_is_not_1, number_asked}
use Rattle.service.proofs.QuietLemmas.{runs_quietly}
use Rattle.service.proofs.ServingLemmas.{serves_complete, serves_is_not_1}

module _ {E T D : Type 0} (see : Views E T D) (SinkAlone : E → E → Type 0) (before after : World E T D) (told : Told) where
  -- what was asked was done in its mode
  pub ran_as : (asked : Asked) (mode : RunMode) → asked.mode ≡ mode → RanIn see SinkAlone mode asked before after told
      → Ran see SinkAlone (Some asked) before after told
  ran_as asked mode is ran = inr (subst (λ (m : RunMode). RanIn see SinkAlone m asked before after told) (sym is) ran)

  pub ran_served : (asked : Asked) → asked.mode ≡ Serve → IsUndone before after told ⊎ IsServeRun see asked before after told
      → Ran see SinkAlone (Some asked) before after told
  ran_served asked is (inl undone) = inl undone
  ran_served asked is (inr served) = ran_as asked Serve is served

  in_mode_is_not_1 : (words : List (List ℕ)) (asked : Asked) (mode : RunMode) → Asks words asked
      → RanIn see SinkAlone mode asked before after told → told.status ≡ 1 → ⊥
  in_mode_is_not_1 words asked Serve asks ran one = serves_is_not_1 see asked before after told ran one
  in_mode_is_not_1 words asked Init asks ran one = mode_is_not_1 see SinkAlone words asked before after told asks ran one
  in_mode_is_not_1 words asked Check asks ran one = mode_is_not_1 see SinkAlone words asked before after told asks ran one
  in_mode_is_not_1 words asked Gen asks ran one = mode_is_not_1 see SinkAlone words asked before after told asks ran one

  -- words that ask something don't come to the status of words that ask nothing
  pub ran_is_not_1 : (words : List (List ℕ)) (asked : Asked) → Asks words asked → Ran see SinkAlone (Some asked) before after told
      → told.status ≡ 1 → ⊥
  ran_is_not_1 words asked asks (inl undone) one = omega (arith, one, undone.0)
  ran_is_not_1 words asked asks (inr ran) one = in_mode_is_not_1 words asked asked.mode asks ran one

  -- what was read of the words is what they ask, whatever that is
  pub ran_for : ((words : List (List ℕ)) (one other : Asked) → Asks words one → Asks words other → one ≡ other)
      → (words : List (List ℕ)) (asked : Asked) → Asks words asked → Ran see SinkAlone (Some asked) before after told
      → (other : Option Asked) → WordsAsk words other → Ran see SinkAlone other before after told
  ran_for one_thing words asked asks ran None nothing = absurd (nothing (asked, asks))
  ran_for one_thing words asked asks ran (Some other) also =
      subst (λ (x : Asked). Ran see SinkAlone (Some x) before after told) (one_thing words asked other asks also) ran

  -- words that ask nothing
  pub ran_refused : (words : List (List ℕ)) → (IsAsking words → ⊥) → told.status ≡ 1 → NothingWasDone before after told
      → (other : Option Asked) → WordsAsk words other → Ran see SinkAlone other before after told
  ran_refused words nothing is untouched None also = (inl is, untouched)
  ran_refused words nothing is untouched (Some other) asks = absurd (nothing (other, asks))

  -- memory ran out for the words
  pub ran_without : (words : List (List ℕ)) → told.status ≡ 9 → NothingWasDone before after told → (other : Option Asked)
      → WordsAsk words other → Ran see SinkAlone other before after told
  ran_without words is untouched None also = (inr is, untouched)
  ran_without words is untouched (Some other) asks = inl (is, untouched)

  -- without a fault and within the limit mode serve comes to the status 0 or 9, and no turn finds a disk not ready
  pub ran_complete : ((a b : List ℕ) (kept : Kept) (why : StartWhy) → SpellsKept a b kept → IsByBytes why → Explains a b why → ⊥)
      → (asked : Asked) → asked.mode ≡ Serve → Ran see SinkAlone (Some asked) before after told
      → HaveNoFault (see.disks before.a before.b) (see.disks after.a after.b)
      → EachEnd (λ old new. IsFaultless asked.limits.input (see.end old) (see.end new)) before.ends after.ends
      → ((told.status ≡ 0) ⊎ (told.status ≡ 9)) × (unready_in told.turns ≡ 0)
  ran_complete spelled_once asked is (inl undone) sound each = (inr undone.0, ap unready_in undone.1.idle.no_turns)
  ran_complete spelled_once asked is (inr ran) sound each =
      serves_complete see asked before after told spelled_once
      (subst (λ (m : RunMode). RanIn see SinkAlone m asked before after told) is ran) sound each

  -- what ran in a mode that serves no session
  ran_alone : (asked : Asked) (mode : RunMode) → mode ≢ Serve → RanIn see SinkAlone mode asked before after told
      → RunsMode see SinkAlone asked before after told
  ran_alone asked Init other ran = ran
  ran_alone asked Check other ran = ran
  ran_alone asked Gen other ran = ran
  ran_alone asked Serve other ran = absurd (other refl)

  -- and so do the other modes, over disks such as they need
  pub ran_complete_mode : ((a b : List ℕ) (kept : Kept) (why : StartWhy) → SpellsKept a b kept → IsByBytes why → Explains a b why → ⊥)
      → (words : List (List ℕ)) (asked : Asked) → Asks words asked → asked.mode ≢ Serve → Ran see SinkAlone (Some asked) before after told
      → HasDisksFor asked.mode (see.disks before.a before.b) (see.disks after.a after.b)
      → EachEnd (λ old new. Rose (see.end old).sink.faults (see.end new).sink.faults → ⊥) before.ends after.ends
      → (told.status ≡ 0) ⊎ (told.status ≡ 9)
  ran_complete_mode spelled_once words asked asks other (inl undone) disks each = inr undone.0
  ran_complete_mode spelled_once words asked asks other (inr ran) disks each =
      runs_quietly spelled_once (runs.new ≡ runs.old) asked (see.end runs.old).sink (see.end runs.new).sink (see.disks before.a before.b)
      (see.disks after.a after.b) told calm asked.mode (number_asked words asked asks) disks runs.ran
    where
      runs : RunsMode see SinkAlone asked before after told
      runs = ran_alone asked asked.mode other ran

      calm : Rose (see.end runs.old).sink.faults (see.end runs.new).sink.faults → ⊥
      calm = each 0 runs.old runs.new (subst (λ (l : List E). slice_get l 0 ≡ Some runs.old) (sym runs.one) refl)
          (subst (λ (l : List E). slice_get l 0 ≡ Some runs.new) (sym runs.one_now) refl)

  -- so a run of words that ask something is one
  pub run_of : ((words : List (List ℕ)) (one other : Asked) → Asks words one → Asks words other → one ≡ other)
      → ((a b : List ℕ) (kept : Kept) (why : StartWhy) → SpellsKept a b kept → IsByBytes why → Explains a b why → ⊥)
      → (words : List (List ℕ)) (asked : Asked) → Asks words asked → Ran see SinkAlone (Some asked) before after told
      → IsRunOf see SinkAlone words before after told
  run_of one_thing spelled_once words asked asks ran = record {
    ran = for;
    usage = (
      λ one. absurd (ran_is_not_1 words asked asks ran one),
      λ both. absurd (both.1 (asked, asks)),
    );
    complete = λ other also serve sound each. ran_complete spelled_once other serve (for (Some other) also) sound each;
    complete_mode = λ other also alone disks each. ran_complete_mode spelled_once words other also alone (for (Some other) also) disks each;
  }
    where
      for : (other : Option Asked) → WordsAsk words other → Ran see SinkAlone other before after told
      for = ran_for one_thing words asked asks ran

  -- and one of words that ask nothing
  pub run_refused : (words : List (List ℕ)) → (IsAsking words → ⊥) → told.status ≡ 1 → NothingWasDone before after told
      → IsRunOf see SinkAlone words before after told
  run_refused words nothing is untouched = record {
    ran = ran_refused words nothing is untouched;
    usage = (λ one. ((λ nine. omega (arith, is, nine)), nothing), λ both. is);
    complete = λ asked asks serve sound each. absurd (nothing (asked, asks));
    complete_mode = λ asked asks other disks each. absurd (nothing (asked, asks));
  }

  -- and one for whose words memory ran out
  pub run_without : (words : List (List ℕ)) → told.status ≡ 9 → NothingWasDone before after told
      → IsRunOf see SinkAlone words before after told
  run_without words is untouched = record {
    ran = ran_without words is untouched;
    usage = (λ one. absurd (omega (arith, is, one)), λ both. absurd (both.0 is));
    complete = λ asked asks serve sound each. (inr is, ap unready_in untouched.idle.no_turns);
    complete_mode = λ asked asks other disks each. inr is;
  }
