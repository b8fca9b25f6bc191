-- What a journal's fields say beside its records: the generation, and the file that doesn't count.
use Rattle.std.proofs.Common.{◌≡◌, ◌≢◌, ◌≤◌, ◌<◌, ◌⊎◌, inl, inr, ℕ, ◌+◌, ◌%◌, ◌^◌, Bool, true, false, true≢false, not, IsTrue, List, length, refl, sym, ◌∙◌, ap, subst, arith}
use Rattle.std.specs.Int.{w64, to_be_bytes}
use Rattle.std.specs.List.{All}
use Rattle.std.proofs.lemmas.Nat.{from_be_bytes-to_be_bytes_8}
use Rattle.disk_model.specs.Disk.{DiskGoesOn, DiskView, History, IsImage, MadePart, Called, Sync, state_of, contents_of, Leaves}
use Rattle.disk_model.proofs.Images.{leaves_now, contents_image, synced_within}
use Rattle.record_code.specs.Record.{Record, IsSound, bodies, gated}
use Rattle.record_code.specs.Reading.{first_gate}
use Rattle.commit_journal.specs.Files.{IsSyncedFile}
use Rattle.commit_journal.specs.Pair.{file_gate, generation, first_of, second_of, IsQuiet, IsSettled, IsBeforeOrAfter, FileSettles, Rests}
use Rattle.commit_journal.specs.Journal.{JournalView, Tell, Has, AwaitsImage, IsNumbered, IsRecordInFlight, PairCause, counted, disk_a, disk_b, image_gate}
use Rattle.commit_journal.specs.declared.flight.Flight.{Flight}
use Rattle.commit_journal.specs.declared.flight.Flight.TheVariants.{Nothing, Record as InFlight, Image as ImageInFlight}
use Rattle.commit_journal.specs.declared.settling.Settled.TheVariants.{NotKept}
use Rattle.commit_journal.specs.Rotated.{IsRotated, IsRotateFaulted, IsRotateSafe, rotation_of}
use Rattle.commit_journal.specs.Rotation.{IsNext, IsReplacement, IsReplacing, IsSpare, IsImageOf, WaitsReplaced, ReplacesFrom, rotating}
use Rattle.commit_journal.specs.Steps.{Counts, IsSettleSafe, IsSettledAs, Stays}
use Rattle.commit_journal.proofs.FileLemmas.{called_quiet, may_settles}
use Rattle.commit_journal.proofs.PairLemmas.{generation_same, rests_only}
use Rattle.commit_journal.proofs.AppendLemmas.{gate_from}
use Rattle.commit_journal.proofs.SideLemmas.{sides_tell, sides_tell_b}
use Rattle.commit_journal.proofs.StepLemmas.{moved}
use Rattle.commit_journal.proofs.TurnLemmas.{was_stale, is_turned, rotate_leaves, rotate_rests, turns_over, turns_back}

-- an append leaves the generation
pub append_number : (h h' : History) (rs : List Record) (r : Record) (gate number : ℕ) → Leaves h h' (IsBeforeOrAfter (contents_of h) rs r gate) → generation (contents_of h) ≡ number → generation (contents_of h') ≡ number
append_number h h' rs r gate number leaves is =
    let here = leaves_now h h' (IsBeforeOrAfter (contents_of h) rs r gate) leaves (contents_of h') (contents_image (state_of h') (synced_within h')) in
    sym (generation_same (contents_of h) (contents_of h') here.header) ∙ is

-- settling leaves the other file at rest
pub spare_settles : (number : ℕ) (o o' : History) → FileSettles o o' → IsSpare number o → IsSpare number o'
spare_settles number o o' settles spare = record {
  quiet = settles.still_quiet spare.quiet;
  long = omega (arith, spare.long, ap length settles.same);
  stale = λ opened next. spare.stale (ap file_gate (sym settles.same) ∙ opened) (ap generation (sym settles.same) ∙ next);
}

-- the file that counted is at rest beside the new one
pub counted_is_spare : (number next : ℕ) (c : History) (rs : List Record) (gate : ℕ) → IsSettled c rs gate → generation (contents_of c) ≡ number → number < 2 ^ 64 → next ≡ (number + 1) % 2 ^ 64 → IsSpare next c
counted_is_spare number next c rs gate settled is small next_is = record {
  quiet = settled.quiet;
  long = omega (arith, gate_from (contents_of c) rs gate settled.spells, settled.spells.inside);
  stale = λ opened told. was_stale number small (sym is ∙ told ∙ ap (λ (n : ℕ). (n + 1) % 2 ^ 64) next_is);
}

pub image_of : (number : ℕ) (image : List Record) (gen next : ℕ) (bytes : List ℕ) → All IsSound image → 0 < length image → bytes ≡ gated (bodies image) → gen ≡ (number + 1) % 2 ^ 64 → next ≡ image_gate image
    → 17 + length bytes ≤ 2 ^ 62 → IsImageOf number image next (to_be_bytes w64 gen) bytes
image_of number image gen next bytes sound some is gen_is next_is bound =
    let size : length bytes ≡ 1 + length (bodies image) = omega (arith, ap length is) in
    record {
      sound = sound;
      some = some;
      bytes_are = is;
      number_is = from_be_bytes-to_be_bytes_8 gen (omega (arith, gen_is)) ∙ gen_is;
      place = omega (arith, next_is, size, bound);
      bound = omega (arith, next_is);
    }

-- a journal by its fields
abbrev pub view_of : Bool → ℕ → Flight → ℕ → DiskView → DiskView → ℕ → ℕ → JournalView
view_of b gate flight limit counting other n m =
    record { counting = counting; other = other; b_counts = b; gate = gate; flight = flight; limit = limit; counting_calls = n; other_calls = m }

pub same_view : (b : Bool) (gate : ℕ) (flight : Flight) (limit : ℕ) (x x' y y' : DiskView) (n n' m m' : ℕ) → x' ≡ x → y' ≡ y → n' ≡ n → m' ≡ m
    → view_of b gate flight limit x y n m ≡ view_of b gate flight limit x' y' n' m'
same_view b gate flight limit x x' y y' n n' m m' x_is y_is n_is m_is =
    ap (λ (z : DiskView). view_of b gate flight limit z y n m) (sym x_is) ∙ ap (λ (z : DiskView). view_of b gate flight limit x' z n m) (sym y_is)
    ∙ ap (λ (k : ℕ). view_of b gate flight limit x' y' k m) (sym n_is) ∙ ap (λ (k : ℕ). view_of b gate flight limit x' y' n' k) (sym m_is)

-- what is said of A and B stands where the two files change places as the one that counts and the other one
module _ (v : JournalView) (gate gate' : ℕ) (flight flight' : Flight) (limit : ℕ) (c o : DiskView) (n m : ℕ) where
  pub swapped_counts : (b : Bool) → Counts v (view_of b gate flight limit c o n m) → Counts v (view_of (not b) gate' flight' limit o c m n)
  swapped_counts false is = record { goes_a = is.goes_a; goes_b = is.goes_b; later_a = is.later_a; later_b = is.later_b }
  swapped_counts true is = record { goes_a = is.goes_a; goes_b = is.goes_b; later_a = is.later_a; later_b = is.later_b }

  pub swapped_stays : (b : Bool) → Stays v (view_of b gate flight limit c o n m) → Stays v (view_of (not b) gate' flight' limit o c m n)
  swapped_stays false is = record { limit_is = is.limit_is; tells_a = is.tells_a; tells_b = is.tells_b }
  swapped_stays true is = record { limit_is = is.limit_is; tells_a = is.tells_a; tells_b = is.tells_b }

  pub swapped_cause : (b : Bool) (failed : Type 0)
      → PairCause (disk_a v).faults (disk_a (view_of b gate flight limit c o n m)).faults (disk_b v).faults (disk_b (view_of b gate flight limit c o n m)).faults failed
      → PairCause (disk_a v).faults (disk_a (view_of (not b) gate' flight' limit o c m n)).faults (disk_b v).faults (disk_b (view_of (not b) gate' flight' limit o c m n)).faults failed
  swapped_cause false failed cause = cause
  swapped_cause true failed cause = cause

  pub swapped_safe : (b : Bool) → IsSettleSafe v (view_of b gate flight limit c o n m) → IsSettleSafe v (view_of (not b) gate' flight' limit o c m n)
  swapped_safe false is = record { crash = is.crash; either = is.either; image_either = is.image_either; may_a = is.may_a; may_b = is.may_b; one_call = is.one_call }
  swapped_safe true is = record { crash = is.crash; either = is.either; image_either = is.image_either; may_a = is.may_a; may_b = is.may_b; one_call = is.one_call }

  pub swapped_rotate : (image : List Record) (b : Bool) → IsRotateSafe v image (view_of b gate flight limit c o n m) → IsRotateSafe v image (view_of (not b) gate' flight' limit o c m n)
  swapped_rotate image false is = record { crash = is.crash }
  swapped_rotate image true is = record { crash = is.crash }

-- a rotation, over the fields of the journal
module _ (b : Bool) (c o o' : DiskView) (gate number limit n m m' : ℕ) (flight : Flight) (image : List Record) (bytes : List ℕ)
    (idle : flight ≡ Nothing) (small : number < 2 ^ 64) (numbered : IsNumbered c number) (bytes_are : bytes ≡ gated (bodies image))
    (leaves : IsTrue o.tells → IsQuiet o.history → Leaves o.history o'.history (IsReplacing (contents_of o.history) number image (image_gate image))) where
  abbrev pub before : JournalView
  before = view_of b gate flight limit c o n m

  same_calls : Tell before → rotating (contents_of o.history) ((number + 1) % 2 ^ 64) bytes ≡ rotation_of before image
  same_calls tell =
      ap (λ (k : ℕ). rotating (contents_of o.history) ((k + 1) % 2 ^ 64) bytes) (sym (numbered tell.0))
      ∙ ap (λ (l : List ℕ). rotating (contents_of o.history) ((generation (contents_of c.history) + 1) % 2 ^ 64) l) bytes_are

  pub failed_safe : (next : ℕ) → IsRotateSafe before image (view_of b gate (ImageInFlight next) limit c o' n m')
  failed_safe next = record {
    crash = λ rs tell has. rotate_leaves b c.history o.history o'.history rs image gate number (image_gate image) has.rests (numbered tell.0) small (leaves tell.1 has.rests.other_quiet);
  }

  pub failed_is : (next : ℕ) → next ≡ image_gate image
      → (IsTrue o.tells → MadePart o.history (rotating (contents_of o.history) ((number + 1) % 2 ^ 64) bytes) o'.history)
      → IsRotateFaulted before image (view_of b gate (ImageInFlight next) limit c o' n m')
  failed_is next is part = record {
    awaits = λ rs tell has. record {
      flight = ap ImageInFlight is;
      waits = subst (λ (k : ℕ). WaitsReplaced b c.history o'.history gate rs k image (image_gate image)) (sym (numbered tell.0)) (record {
        settled = has.rests.settled;
        number_is = numbered tell.0;
        small = small;
        file = contents_of o.history;
        chosen = has.rests.chosen;
        images = leaves_now o.history o'.history (IsReplacing (contents_of o.history) number image (image_gate image)) (leaves tell.1 has.rests.other_quiet);
      });
    };
    in_flight = tt;
    gate_is = refl;
    choice = refl;
    counting_is = refl;
    counting_calls_are = refl;
    part = λ tell. subst (λ l. MadePart o.history l o'.history) (same_calls tell) (part tell.1);
  }

  module _ (at : ℕ) (at_is : at ≡ image_gate image) (size : at ≡ first_gate + length (bodies image))
      (replaced : IsTrue o.tells → IsQuiet o.history → IsReplacement number image (image_gate image) (contents_of o'.history)) (quiet : IsTrue o.tells → IsQuiet o'.history) where
    rests : (rs : List Record) → Tell before → Has before rs → Rests (not b) o'.history c.history at image
    rests rs tell has = subst (λ (k : ℕ). Rests (not b) o'.history c.history k image) (sym at_is)
        (rotate_rests b c.history o.history o'.history rs image gate number (image_gate image) has.rests (numbered tell.0) small (leaves tell.1 has.rests.other_quiet) (quiet tell.1) (replaced tell.1 has.rests.other_quiet))

    pub done_is : (IsTrue o.tells → DiskGoesOn o.history (rotating (contents_of o.history) ((number + 1) % 2 ^ 64) bytes) o'.history)
        → (m' ≡ counted m 5) ⊎ (m' ≡ counted m 7) → IsRotated before image (view_of (not b) at flight limit o' c m' n)
    done_is made few = record {
      has = λ rs tell has. record { idle = idle; rests = rests rs tell has };
      only = λ rs tell has. rests_only (not b) o'.history c.history at image (rests rs tell has);
      idle = idle;
      gate_is = size;
      choice = refl;
      other_is = refl;
      other_calls_are = refl;
      made = λ tell. subst (λ l. DiskGoesOn o.history l o'.history) (same_calls tell) (made tell.1);
      few = few;
    }

-- what the fields say of an image in flight, once both files were synced
module _ (number : ℕ) (image : List Record) (next : ℕ) (o o' : History) (from : ReplacesFrom number image next o) (settles : FileSettles o o') where
  now_is : IsReplacing from.file number image next (contents_of o')
  now_is = from.images (contents_of o') (leaves_now o o' (IsImage (state_of o)) settles.leaves (contents_of o') (contents_image (state_of o') (synced_within o')))

  pub from_over : file_gate (contents_of o') ≡ 1 → generation (contents_of o') ≡ (number + 1) % 2 ^ 64 → IsReplacement number image next (contents_of o')
  from_over opened next_is = is_turned from.file number image next (contents_of o') now_is from.stale opened next_is

  pub from_back : IsQuiet o' → (file_gate (contents_of o') ≡ 1 → generation (contents_of o') ≢ (number + 1) % 2 ^ 64) → IsSpare number o'
  from_back quiet told = record { quiet = quiet; long = now_is.long; stale = told }

  pub from_stays : ReplacesFrom number image next o'
  from_stays = record { file = from.file; stale = from.stale; images = λ d im. from.images d (leaves_now o o' (IsImage (state_of o)) settles.leaves d im) }

not_the_same : (b : Bool) → b ≡ not b → ⊥
not_the_same false is = true≢false (sym is)
not_the_same true is = true≢false is

flight_at : (m k : ℕ) → ImageInFlight m ≡ ImageInFlight k → m ≡ k
flight_at m k is = cc

-- what is in flight is one thing
pub an_image : (f : Flight) (next : ℕ) → f ≡ ImageInFlight next → IsRecordInFlight f → ⊥
an_image f next is some = subst IsRecordInFlight is some

record_apart : (f : Flight) (next k : ℕ) → f ≡ ImageInFlight next → f ≡ InFlight k → ⊥
record_apart f next k is other = subst IsRecordInFlight is (subst IsRecordInFlight (sym other) tt)

-- the settling of an image, over the journal and the disks after the syncs
module _ (v : JournalView) (c o : DiskView) (number n m next : ℕ) (flying : v.flight ≡ ImageInFlight next) (numbered : IsNumbered v.counting number)
    (done : Type 0) (here : IsSyncedFile v.counting c done) (there : IsSyncedFile v.other o done) (is : done) where
  of_here : IsTrue v.counting.tells → FileSettles v.counting.history c.history
  of_here t = may_settles v.counting.history c.history (here.may t)

  of_there : IsTrue v.other.tells → FileSettles v.other.history o.history
  of_there t = may_settles v.other.history o.history (there.may t)

  -- the image in flight by the number that the fields have
  same_waits : (rs image : List Record) → Tell v → AwaitsImage v rs image → WaitsReplaced v.b_counts v.counting.history v.other.history v.gate rs number image next
  same_waits rs image tell awaits =
      subst (λ (k : ℕ). WaitsReplaced v.b_counts v.counting.history v.other.history v.gate rs k image next) (numbered tell.0)
      (subst (λ (k : ℕ). WaitsReplaced v.b_counts v.counting.history v.other.history v.gate rs (generation (contents_of v.counting.history)) image k)
      (sym (flight_at next (image_gate image) (sym flying ∙ awaits.flight))) awaits.waits)

  other_quiet : IsTrue v.other.tells → IsQuiet o.history
  other_quiet t = called_quiet v.other.history o.history (there.synced is t)

  -- what the new header says of the files as they were
  is_next : Tell v → file_gate (contents_of o.history) ≡ 1 → generation (contents_of o.history) ≡ (number + 1) % 2 ^ 64 → IsNext (contents_of v.counting.history) (contents_of v.other.history)
  is_next tell opened told = record {
    opened = ap file_gate (sym (of_there tell.1).same) ∙ opened;
    number_is = ap generation (sym (of_there tell.1).same) ∙ told ∙ ap (λ (k : ℕ). (k + 1) % 2 ^ 64) (sym (numbered tell.0));
  }

  pub back_is : (IsTrue v.other.tells → file_gate (contents_of o.history) ≡ 1 → generation (contents_of o.history) ≢ (number + 1) % 2 ^ 64)
      → IsSettledAs v NotKept (moved v c o v.gate Nothing n m)
  back_is told = record {
    has = λ rs r tell awaits. absurd (record_apart v.flight next _ flying awaits.flight);
    only = λ rs r tell awaits. absurd (record_apart v.flight next _ flying awaits.flight);
    by_gate = λ some. absurd (an_image v.flight next flying some);
    choice = λ some. refl;
    image_has = λ rs image tell awaits. inl (refl, record { idle = refl; rests = rests rs image tell awaits });
    image_only = λ rs image tell awaits. inl (refl, rests_only v.b_counts c.history o.history v.gate rs (rests rs image tell awaits));
    by_header = λ some tell. (
      λ same. absurd (not_the_same v.b_counts same),
      λ now. absurd (told tell.1 (ap file_gate (of_there tell.1).same ∙ now.opened)
          (ap generation (of_there tell.1).same ∙ now.number_is ∙ ap (λ (k : ℕ). (k + 1) % 2 ^ 64) (numbered tell.0))),
    );
    dropped = λ some. refl;
    idle = refl;
    synced_a = sides_tell (λ x y. Called x (Sync true) y) v.b_counts v.counting c v.other o (here.synced is) (there.synced is);
    synced_b = sides_tell_b (λ x y. Called x (Sync true) y) v.b_counts v.counting c v.other o (here.synced is) (there.synced is);
  }
    where
      rests : (rs image : List Record) → Tell v → AwaitsImage v rs image → Rests v.b_counts c.history o.history v.gate rs
      rests rs image tell awaits = turns_back v.b_counts v.counting.history v.other.history c.history o.history rs image v.gate number next (same_waits rs image tell awaits)
          (of_here tell.0) (of_there tell.1) (other_quiet tell.1) (told tell.1)

  pub over_is : (IsTrue v.other.tells → file_gate (contents_of o.history) ≡ 1) → (IsTrue v.other.tells → generation (contents_of o.history) ≡ (number + 1) % 2 ^ 64)
      → IsSettledAs v NotKept (view_of (not v.b_counts) next Nothing v.limit o c m n)
  over_is opened told = record {
    has = λ rs r tell awaits. absurd (record_apart v.flight next _ flying awaits.flight);
    only = λ rs r tell awaits. absurd (record_apart v.flight next _ flying awaits.flight);
    by_gate = λ some. absurd (an_image v.flight next flying some);
    choice = λ some. absurd (an_image v.flight next flying some);
    image_has = λ rs image tell awaits. inr (refl, record { idle = refl; rests = rests rs image tell awaits });
    image_only = λ rs image tell awaits. inr (refl, rests_only (not v.b_counts) o.history c.history next image (rests rs image tell awaits));
    by_header = λ some tell. (λ same. is_next tell (opened tell.1) (told tell.1), λ now. refl);
    dropped = λ some. refl;
    idle = refl;
    synced_a = over_a v.b_counts;
    synced_b = over_b v.b_counts;
  }
    where
      rests : (rs image : List Record) → Tell v → AwaitsImage v rs image → Rests (not v.b_counts) o.history c.history next image
      rests rs image tell awaits = turns_over v.b_counts v.counting.history v.other.history c.history o.history rs image v.gate number next (same_waits rs image tell awaits)
          (of_here tell.0) (of_there tell.1) (other_quiet tell.1) (opened tell.1) (told tell.1)

      over_a : (b : Bool) → IsTrue (first_of b v.counting v.other).tells → Called (first_of b v.counting.history v.other.history) (Sync true) (first_of (not b) o.history c.history)
      over_a false = here.synced is
      over_a true = there.synced is

      over_b : (b : Bool) → IsTrue (second_of b v.counting v.other).tells → Called (second_of b v.counting.history v.other.history) (Sync true) (second_of (not b) o.history c.history)
      over_b false = there.synced is
      over_b true = here.synced is
