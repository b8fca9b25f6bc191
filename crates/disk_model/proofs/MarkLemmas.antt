-- Marks of pending places, and an image with torn bytes as a crash image.
use Rattle.std.proofs.Common.{◌≡◌, ◌≤◌, ◌<◌, ◌⊎◌, inl, inr, ⊎_elim, ℕ, ◌+◌, Bool, true, false, cond, nat_le, nat_lt, ◌==◌, ◌&&◌, ◌||◌, List, [], ◌∷◌, length, get_or, take, drop, Some, refl, sym, ◌∙◌, ap, subst, arith}
use Rattle.std.proofs.lemmas.List.{take-append-drop}
use Rattle.disk_model.proofs.States.{after-append}
use Rattle.disk_model.proofs.Replayed.{past}
use Rattle.std.proofs.lemmas.Option.{slice_get-get_or}
use Rattle.std.proofs.lemmas.Bool.Decides.{nat_tests}
use Rattle.std.specs.List.{slice_get}
use Rattle.disk_model.specs.Disk.{Call, Write, Missed, Sync, Refused, DiskState, pending_during, at_first, written, missed, settled, step, after, state_of, contents_of, IsImage}
use Rattle.disk_model.specs.declared.replay.Mark.{Mark}
use Rattle.disk_model.specs.declared.torn.Torn.{Torn}
use Rattle.disk_model.specs.Marks.{is_marked}
use Rattle.disk_model.specs.Replay.{pending_below, IsTorn, IsChosenImage}
use Rattle.disk_model.proofs.Images.{put_no_shorter, past_end, still_pending, contents_image}

-- where there is a mark, some place is marked
pub some_marked : (m : Mark) (ms : List Mark) → is_marked (m ∷ ms) m.size ≡ true
some_marked m ms = ap (λ (b : Bool). b || is_marked ms m.size) (last (nat_le m.at m.size && nat_lt m.size (m.at + m.count)))
  where
    end : nat_le m.size m.size ≡ true
    end = grind (arith, nat_tests)

    last : (b : Bool) → (b || nat_le m.size m.size) ≡ true
    last true = refl
    last false = end

pub none_marked : (ms : List Mark) → ((k : ℕ) → is_marked ms k ≡ false) → ms ≡ []
none_marked [] free = refl
none_marked (m ∷ ms) free = absurd (let e : true ≡ false = sym (some_marked m ms) ∙ free m.size in cc)

-- what is true of each state that calls lead to: all is synced, or all places past the last sync are pending
pub record IsSound (s : DiskState) : Type 0 where
  pub within : s.synced ≤ length s.contents
  pub pending : (((k : ℕ) → s.pending k ≡ false) × (s.synced ≡ length s.contents)) ⊎ ((k : ℕ) → s.synced ≤ k → s.pending k ≡ true)

written_pending : (s : DiskState) (at n : ℕ) → IsSound s → (k : ℕ) → s.synced ≤ k → pending_during s at n k ≡ true
written_pending s at n sound k le = ⊎_elim (λ calm. past_end s at n k (omega (arith, calm.1))) (λ torn. still_pending s at n k (torn k le)) sound.pending

step_sound : (s : DiskState) (call : Call) → IsSound s → IsSound (step s call)
step_sound s (Write at bytes) sound = record { within = omega (arith, sound.within, put_no_shorter at bytes s.contents); pending = inr (written_pending s at (length bytes) sound) }
step_sound s (Missed at count) sound = record { within = sound.within; pending = inr (written_pending s at count sound) }
step_sound s (Sync true) sound = record { within = omega arith; pending = inl (λ k. refl, refl) }
step_sound s (Sync false) sound = sound
step_sound s Refused sound = sound

after_sound : (s : DiskState) (calls : List Call) → IsSound s → IsSound (after s calls)
after_sound s [] sound = sound
after_sound s (call ∷ calls) sound = after_sound (step s call) calls (step_sound s call sound)

first_sound : (first : List ℕ) → IsSound (at_first first)
first_sound first = record { within = omega arith; pending = inl (λ k. refl, refl) }

pub sound_after : (first : List ℕ) (calls : List Call) → IsSound (after (at_first first) calls)
sound_after first calls = after_sound (at_first first) calls (first_sound first)

lt_or_ge : (m n : ℕ) → (m < n) ⊎ (n ≤ m)
lt_or_ge m n = grind arith

-- an image with torn bytes is one that a crash may leave
torn_is_image : (s : DiskState) (torn : Torn) (image : List ℕ) → s.synced ≤ length s.contents → ((k : ℕ) → s.synced ≤ k → s.pending k ≡ true) → IsTorn s torn image → IsImage s image
torn_is_image s torn image within past is = record {
  long = omega (arith, is.size);
  same = λ k free. ⊎_elim (inside k free) (λ ge. absurd (let e : true ≡ false = sym (past k ge) ∙ free in cc)) (lt_or_ge k s.synced);
}
  where
    inside : (k : ℕ) → s.pending k ≡ false → k < s.synced → slice_get image k ≡ slice_get s.contents k
    inside k free lt =
        let here : k < length image = omega (arith, is.size) in
        let there : k < length s.contents = omega (arith, within) in
        slice_get-get_or image k 0 here
        ∙ ap (λ (x : ℕ). Some x) (is.each k here ∙ ap (λ (b : Bool). cond b (get_or torn.bytes (pending_below s.pending k) 0) (get_or s.contents k 0)) free)
        ∙ sym (slice_get-get_or s.contents k 0 there)

pub chosen_is_image : (s : DiskState) (torn : Torn) (image : List ℕ) → IsSound s → IsChosenImage s torn image → IsImage s image
chosen_is_image s torn image sound is = ⊎_elim
    (λ calm. subst (λ (l : List ℕ). IsImage s l) (sym (is.calm calm.0)) (contents_image s sound.within))
    (λ past. torn_is_image s torn image sound.within past (is.torn_is s.synced (past s.synced (omega arith))))
    sound.pending

-- no chosen image is longer than the contents and the torn length
pub chosen_size : (s : DiskState) (torn : Torn) (image : List ℕ) (room : ℕ) → IsSound s → IsChosenImage s torn image → length s.contents ≤ room → torn.length ≤ room → length image ≤ room
chosen_size s torn image room sound is le torn_le = ⊎_elim
    (λ calm. omega (arith, ap length (is.calm calm.0)))
    (λ past. omega (arith, (is.torn_is s.synced (past s.synced (omega arith))).size, sound.within))
    sound.pending

-- contents never shrink
pub no_shorter : (s : DiskState) (calls : List Call) → length s.contents ≤ length (after s calls).contents
no_shorter s [] = omega arith
no_shorter s (Write at bytes ∷ calls) = omega (arith, put_no_shorter at bytes s.contents, no_shorter (written s at bytes) calls)
no_shorter s (Missed at count ∷ calls) = no_shorter (missed s at count) calls
no_shorter s (Sync true ∷ calls) = no_shorter (settled s true) calls
no_shorter s (Sync false ∷ calls) = no_shorter s calls
no_shorter s (Refused ∷ calls) = no_shorter s calls

-- a list that isn't empty
pub not_empty : (n : ℕ) (b : Bool) → b ≡ (n == 0) → b ≡ false → n ≡ 0 → ⊥
not_empty n b is some none = let e : false ≡ true = sym some ∙ is ∙ ap (λ (m : ℕ). m == 0) none in cc

-- after some of the calls no more stands there than after all
pub prefix_no_longer : (first : List ℕ) (n : ℕ) (calls : List Call) → length (after (at_first first) (take n calls)).contents ≤ length (contents_of (past first calls))
unfolding state_of
prefix_no_longer first n calls =
    let s = at_first first in
    let whole : after (after s (take n calls)) (drop n calls) ≡ after s calls =
    sym (after-append s (take n calls) (drop n calls)) ∙ ap (λ (l : List Call). after s l) (take-append-drop n calls) in
    omega (arith, no_shorter (after s (take n calls)) (drop n calls), ap (λ (t : DiskState). length t.contents) whole)
