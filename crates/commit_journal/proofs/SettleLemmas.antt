-- What settling leaves of each file.
use Rattle.std.proofs.Common.{◌≡◌, ◌≢◌, inl, inr, ⊎_elim, ℕ, ◌==◌, Bool, true, false, List, [], ◌∷◌, ◌++◌, refl, sym, ◌∙◌, ap, subst, arith}
use Rattle.std.proofs.lemmas.Bool.Decides.{nat_tests}
use Rattle.disk_model.specs.Disk.{Call, Sync, Refused, History, DiskState, settled, step, state_of, contents_of, IsImage, Called, DidNothing, Synced}
use Rattle.disk_model.proofs.Images.{settled_image, started, goes_on_sync, synced_contents, synced_within, contents_image, leaves_now}
use Rattle.disk_model.proofs.States.{state_called}
use Rattle.record_code.specs.Record.{Record}
use Rattle.record_code.specs.Reading.{byte, Spells}
use Rattle.commit_journal.specs.Pair.{IsQuiet, IsSettled, IsAfter, IsBeforeOrAfter, IsChosen, FileSettles, Waits, LeavesPair, WasLeft, SpellsEither, first_of, second_of}
use Rattle.commit_journal.specs.Journal.{gate_behind, IsRecordInFlight}
use Rattle.commit_journal.specs.declared.flight.Flight.{Flight}
use Rattle.commit_journal.specs.declared.flight.Flight.TheVariants.{Nothing, Record as InFlight, Image as ImageInFlight}
use Rattle.commit_journal.proofs.PairLemmas.{either_spells}

settled_quiet : (s : DiskState) (cleared : Bool) → ((k : ℕ) → s.pending k ≡ false) → (k : ℕ) → (settled s cleared).pending k ≡ false
settled_quiet s true quiet k = refl
settled_quiet s false quiet k = quiet k

sync_still_quiet : (h h' : History) (done : Type 0) → Synced h done h' → IsQuiet h → IsQuiet h'
sync_still_quiet h h' done synced quiet k = ⊎_elim (called (Sync true) (settled_quiet (state_of h) true quiet k)) (λ failed. ⊎_elim (called (Sync false) (settled_quiet (state_of h) false quiet k)) nothing failed.1) synced
  where
    called : (call : Call) → (step (state_of h) call).pending k ≡ false → Called h call h' → (state_of h').pending k ≡ false
    called call free is = ap (λ (s : DiskState). s.pending k) (state_called h h' call is) ∙ free

    nothing : DidNothing h h' → (state_of h').pending k ≡ false
    nothing (inl is) = called Refused (quiet k) is
    nothing (inr stays) = ap (λ (l : History). (state_of l).pending k) stays.same ∙ quiet k

pub sync_settles : (h h' : History) (done : Type 0) → Synced h done h' → FileSettles h h'
sync_settles h h' done synced = record {
  leaves = goes_on_sync h h h' done (IsImage (state_of h)) (started h (IsImage (state_of h)) (λ c image. image)) synced (λ c image. image);
  same = synced_contents h h' done synced;
  still_quiet = sync_still_quiet h h' done synced;
}

pub nothing_settles : (h : History) → FileSettles h h
nothing_settles h = record { leaves = started h (IsImage (state_of h)) (λ c image. image); same = refl; still_quiet = λ quiet. quiet }

pub same_settles : (h m h' : History) → FileSettles h m → h' ≡ m → FileSettles h h'
same_settles h m h' settles same = subst (λ (l : History). FileSettles h l) (sym same) settles

-- what is in flight stays so
pub settle_images : (h h' : History) (rs : List Record) (r : Record) (gate : ℕ) → FileSettles h h' → ((c : List ℕ) → IsImage (state_of h) c → IsBeforeOrAfter (contents_of h) rs r gate c)
    → (c : List ℕ) → IsImage (state_of h') c → IsBeforeOrAfter (contents_of h') rs r gate c
settle_images h h' rs r gate settles images c image =
    subst (λ (l : List ℕ). IsBeforeOrAfter l rs r gate c) (sym settles.same) (images c (leaves_now h h' (IsImage (state_of h)) settles.leaves c image))

pub settle_waits : (b : Bool) (h h' o o' : History) (rs : List Record) (r : Record) (gate : ℕ) → FileSettles h h' → FileSettles o o' → Waits b h o gate rs r → Waits b h' o' gate rs r
settle_waits b h h' o o' rs r gate settles other waits = record {
  images = settle_images h h' rs r gate settles waits.images;
  other_quiet = other.still_quiet waits.other_quiet;
  chosen = subst (λ (l : List ℕ). IsChosen b l (contents_of o')) (sym settles.same) (subst (λ (l : List ℕ). IsChosen b (contents_of h) l) (sym other.same) waits.chosen);
}

module _ (h h' : History) (rs : List Record) (r : Record) (gate : ℕ) (settles : FileSettles h h') (images : (c : List ℕ) → IsImage (state_of h) c → IsBeforeOrAfter (contents_of h) rs r gate c) (quiet : IsQuiet h') where
  here : IsBeforeOrAfter (contents_of h) rs r gate (contents_of h)
  here = images (contents_of h) (contents_image (state_of h) (synced_within h))

  gate_then : byte (contents_of h) gate ≡ byte (contents_of h') gate
  gate_then = ap (λ (l : List ℕ). byte l gate) (sym settles.same)

  -- an open gate: the record is in the list
  pub settled_kept : (next : ℕ) (is_open : Bool) → next ≡ gate_behind gate r → is_open ≡ (byte (contents_of h') gate == 1) → is_open ≡ true → IsSettled h' (rs ++ r ∷ []) next
  settled_kept next is_open place told opened = ⊎_elim (λ left. absurd (left.shut is_one)) (λ right. of right) here.either
    where
      one : byte (contents_of h') gate ≡ 1
      one = let e : (byte (contents_of h') gate == 1) ≡ true = sym told ∙ opened in grind (arith, nat_tests)

      is_one : byte (contents_of h) gate ≡ 1
      is_one = gate_then ∙ one

      of : IsAfter rs r gate (contents_of h) → IsSettled h' (rs ++ r ∷ []) next
      of right = record {
        spells = subst (λ (l : List ℕ). Spells l (rs ++ r ∷ []) next) (sym settles.same) (subst (λ (n : ℕ). Spells (contents_of h) (rs ++ r ∷ []) n) (omega (arith, right.bound, place)) right.spells);
        quiet = quiet;
      }

  -- a closed one: it isn't
  pub settled_left : (is_open : Bool) → is_open ≡ (byte (contents_of h') gate == 1) → is_open ≡ false → IsSettled h' rs gate
  settled_left is_open told shut = ⊎_elim (λ left. record { spells = subst (λ (l : List ℕ). Spells l rs gate) (sym settles.same) left; quiet = quiet }) (λ right. absurd (not_one (sym gate_then ∙ right.opened))) here.either
    where
      not_one : byte (contents_of h') gate ≢ 1
      not_one = let e : (byte (contents_of h') gate == 1) ≡ false = sym told ∙ shut in grind (arith, nat_tests)

pub in_flight : (f : Flight) → IsRecordInFlight f → (n : ℕ) × (f ≡ InFlight n)
in_flight Nothing none = absurd none
in_flight (InFlight n) some = (n, refl)
in_flight (ImageInFlight n) none = absurd none

-- each pair of images since then might have been left before
pub settle_leaves : (b : Bool) (h h' o o' : History) → FileSettles h h' → FileSettles o o'
    → LeavesPair (first_of b h o) (second_of b h o) (first_of b h' o') (second_of b h' o') (WasLeft (first_of b h o) (second_of b h o))
settle_leaves false h h' o o' settles other = record {
  a_calls = settles.leaves.calls;
  b_calls = other.leaves.calls;
  a_first = settles.leaves.first;
  b_first = other.leaves.first;
  a_made = settles.leaves.made;
  b_made = other.leaves.made;
  each = λ c d left right. (settles.leaves.each c left, other.leaves.each d right);
}
settle_leaves true h h' o o' settles other = record {
  a_calls = other.leaves.calls;
  b_calls = settles.leaves.calls;
  a_first = other.leaves.first;
  b_first = settles.leaves.first;
  a_made = other.leaves.made;
  b_made = settles.leaves.made;
  each = λ c d left right. (other.leaves.each c left, settles.leaves.each d right);
}

pub weaker_pair : (a b a' b' : History) (P Q : List ℕ → List ℕ → Type 0) → ((c d : List ℕ) → P c d → Q c d) → LeavesPair a b a' b' P → LeavesPair a b a' b' Q
weaker_pair a b a' b' P Q to leaves = record {
  a_calls = leaves.a_calls;
  b_calls = leaves.b_calls;
  a_first = leaves.a_first;
  b_first = leaves.b_first;
  a_made = leaves.a_made;
  b_made = leaves.b_made;
  each = λ c d left right. to c d (leaves.each c d left right);
}

-- while a record is in flight each pair of images spells either list
pub waits_either : (b : Bool) (h o : History) (rs : List Record) (r : Record) (gate : ℕ) → Waits b h o gate rs r → (c d : List ℕ) → WasLeft (first_of b h o) (second_of b h o) c d → SpellsEither rs (rs ++ r ∷ []) c d
waits_either false h o rs r gate waits c d left =
    subst (λ (l : List ℕ). SpellsEither rs (rs ++ r ∷ []) c l) (sym (settled_image (state_of o) d waits.other_quiet left.1))
    (either_spells false (contents_of h) (contents_of o) rs r gate c waits.chosen (waits.images c left.0))
waits_either true h o rs r gate waits c d left =
    subst (λ (l : List ℕ). SpellsEither rs (rs ++ r ∷ []) l d) (sym (settled_image (state_of o) c waits.other_quiet left.0))
    (either_spells true (contents_of h) (contents_of o) rs r gate d waits.chosen (waits.images d left.1))

pub flight_place : (m n : ℕ) → InFlight m ≡ InFlight n → m ≡ n
flight_place m n is = cc
