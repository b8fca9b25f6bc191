-- What two files spell while the records of an image are written to the one that doesn't count.
use Rattle.std.proofs.Common.{◌≡◌, ◌≢◌, ◌≤◌, ◌<◌, ◌⊎◌, inl, inr, ⊎_elim, ℕ, ◌+◌, ◌%◌, ◌^◌, ◌==◌, Bool, true, false, not, cond, List, length, sym, ◌∙◌, ap, subst, arith, true≢false}
use Rattle.std.proofs.lemmas.Bool.{cases_eq}
use Rattle.std.proofs.lemmas.Bool.Decides.{nat_tests}
use Rattle.disk_model.specs.Disk.{History, state_of, contents_of, IsImage, Leaves}
use Rattle.disk_model.proofs.Images.{settled_image, leaves_now, contents_image, synced_within}
use Rattle.record_code.specs.Record.{Record}
use Rattle.record_code.specs.Reading.{Agree, Spells, first_gate}
use Rattle.record_code.proofs.Slices.{slice_same}
use Rattle.commit_journal.specs.Pair.{file_gate, generation, HasHeader, b_counts, PairSpells, first_of, second_of, IsChosen, IsQuiet, IsSettled, LeavesPair, Rests, SpellsEither, WasLeft, FileSettles}
use Rattle.commit_journal.specs.Rotation.{IsReplacement, IsReplacing, WaitsReplaced}
use Rattle.commit_journal.proofs.PairLemmas.{gate_same, generation_same, counts_same_a, counts_same_b, chosen_spells, lift}

-- which file counts, by the gates
shut_a : (a b : List ℕ) → file_gate a ≢ 1 → b_counts a b ≡ true
shut_a a b shut = let e : (file_gate a == 1) ≡ false = grind (arith, nat_tests) in
    ap (λ (t : Bool). cond t (cond (file_gate b == 1) (generation b == (generation a + 1) % 2 ^ 64) false) true) e

open_a : (a b : List ℕ) → file_gate a ≡ 1 → b_counts a b ≡ cond (file_gate b == 1) (generation b == (generation a + 1) % 2 ^ 64) false
open_a a b one = ap (λ (g : ℕ). cond (g == 1) (cond (file_gate b == 1) (generation b == (generation a + 1) % 2 ^ 64) false) true) one

shut_b : (a b : List ℕ) → file_gate a ≡ 1 → file_gate b ≢ 1 → b_counts a b ≡ false
shut_b a b one shut = let e : (file_gate b == 1) ≡ false = grind (arith, nat_tests) in
    open_a a b one ∙ ap (λ (t : Bool). cond t (generation b == (generation a + 1) % 2 ^ 64) false) e

open_both : (a b : List ℕ) → file_gate a ≡ 1 → file_gate b ≡ 1 → b_counts a b ≡ (generation b == (generation a + 1) % 2 ^ 64)
open_both a b one two = open_a a b one ∙ ap (λ (g : ℕ). cond (g == 1) (generation b == (generation a + 1) % 2 ^ 64) false) two

is_next : (m n : ℕ) → m ≡ n → (m == n) ≡ true
is_next m n is = grind (arith, nat_tests)

is_other : (m n : ℕ) → m ≢ n → (m == n) ≡ false
is_other m n apart = grind (arith, nat_tests)

not_next : (m n : ℕ) → (m == n) ≡ false → m ≢ n
not_next m n told is = absurd (true≢false (sym (is_next m n is) ∙ told))

was_next : (m n : ℕ) → (m == n) ≡ true → m ≡ n
was_next m n told = grind (arith, nat_tests)

two_after : (n : ℕ) → n < 2 ^ 64 → n ≢ ((n + 1) % 2 ^ 64 + 1) % 2 ^ 64
two_after n lt is = absurd (omega (arith, lt, is))

-- the gate of the file that counts is open
pub counting_open : (b : Bool) (c o : List ℕ) → IsChosen b c o → file_gate c ≡ 1
counting_open false c o chosen = ⊎_elim (λ one. one) (λ shut. absurd (true≢false (sym (shut_a c o shut) ∙ chosen.choice))) (cases_eq (file_gate c) 1)
counting_open true c o chosen =
    ⊎_elim (λ one. one) (λ shut. ⊎_elim (λ open_o. absurd (true≢false (sym chosen.choice ∙ shut_b o c open_o shut))) (λ one. one) chosen.pair.gate) (cases_eq (file_gate c) 1)

header_of : (o d : List ℕ) → HasHeader o → Agree o d 0 8 → first_gate ≤ length d → HasHeader d
header_of o d header agree long = record { long = long; begins = sym (slice_same o d 0 8 (λ k from to. agree k from (omega (arith, to)))) ∙ header.begins }

-- beside a file that is closed, or has the header that it had, the same one counts
pub still_chosen : (b : Bool) (c o d : List ℕ) → IsChosen b c o → first_gate ≤ length d → Agree o d 0 8 → (file_gate d ≢ 1) ⊎ Agree o d 0 first_gate → IsChosen b c d
still_chosen false c o d chosen long begins either = record {
  pair = record { header_a = chosen.pair.header_a; header_b = header_of o d chosen.pair.header_b begins long; gate = inl (counting_open false c o chosen) };
  choice = ⊎_elim (λ shut. shut_b c d (counting_open false c o chosen) shut) (λ same. sym (counts_same_b c o d same) ∙ chosen.choice) either;
}
still_chosen true c o d chosen long begins either = record {
  pair = record { header_a = header_of o d chosen.pair.header_a begins long; header_b = chosen.pair.header_b; gate = inr (counting_open true c o chosen) };
  choice = ⊎_elim (λ shut. shut_a d c shut) (λ same. sym (counts_same_a o d c same) ∙ chosen.choice) either;
}

-- a file whose gate is open and whose generation is the next one counts beside the one that counted
pub turned_chosen : (b : Bool) (c o d : List ℕ) (number : ℕ) → IsChosen b c o → generation c ≡ number → number < 2 ^ 64 → first_gate ≤ length d → Agree o d 0 8
    → file_gate d ≡ 1 → generation d ≡ (number + 1) % 2 ^ 64 → IsChosen (not b) d c
turned_chosen false c o d number chosen is small long begins opened next = record {
  pair = record { header_a = chosen.pair.header_a; header_b = header_of o d chosen.pair.header_b begins long; gate = inr opened };
  choice = open_both c d (counting_open false c o chosen) opened ∙ is_next (generation d) ((generation c + 1) % 2 ^ 64) (next ∙ ap (λ (n : ℕ). (n + 1) % 2 ^ 64) (sym is));
}
turned_chosen true c o d number chosen is small long begins opened next = record {
  pair = record { header_a = header_of o d chosen.pair.header_a begins long; header_b = chosen.pair.header_b; gate = inl opened };
  choice = open_both d c opened (counting_open true c o chosen)
      ∙ is_other (generation c) ((generation d + 1) % 2 ^ 64) (λ same. two_after number small (sym is ∙ same ∙ ap (λ (n : ℕ). (n + 1) % 2 ^ 64) next));
}

-- the generation of the file that doesn't count isn't the next one, where its gate is open
pub chosen_stale : (b : Bool) (c o : List ℕ) (number : ℕ) → IsChosen b c o → generation c ≡ number → number < 2 ^ 64 → file_gate o ≡ 1 → generation o ≢ (number + 1) % 2 ^ 64
chosen_stale false c o number chosen is small opened next =
    not_next (generation o) ((generation c + 1) % 2 ^ 64) (sym (open_both c o (counting_open false c o chosen) opened) ∙ chosen.choice) (next ∙ ap (λ (n : ℕ). (n + 1) % 2 ^ 64) (sym is))
chosen_stale true c o number chosen is small opened next =
    let before : generation c ≡ (generation o + 1) % 2 ^ 64 = was_next (generation c) ((generation o + 1) % 2 ^ 64) (sym (open_both o c opened (counting_open true c o chosen)) ∙ chosen.choice) in
    two_after number small (sym is ∙ before ∙ ap (λ (n : ℕ). (n + 1) % 2 ^ 64) next)

-- the file that counted has a generation that isn't the one after the new file's
pub was_stale : (number : ℕ) → number < 2 ^ 64 → number ≢ ((number + 1) % 2 ^ 64 + 1) % 2 ^ 64
was_stale number small = two_after number small

module _ (o : List ℕ) (number : ℕ) (image : List Record) (next : ℕ) (d : List ℕ) (turning : IsReplacing o number image next d) where
  -- a file that isn't the new one is closed, or has the header that it had
  pub not_turned : (file_gate d ≡ 1 → generation d ≢ (number + 1) % 2 ^ 64) → (file_gate d ≢ 1) ⊎ Agree o d 0 first_gate
  not_turned told = ⊎_elim (λ shut. inl shut) (λ other. ⊎_elim (λ same. inr same) (λ turned. absurd (told turned.opened turned.number_is)) other) turning.either

  -- one whose gate is open and whose generation is the next one is the new one
  pub is_turned : (file_gate o ≡ 1 → generation o ≢ (number + 1) % 2 ^ 64) → file_gate d ≡ 1 → generation d ≡ (number + 1) % 2 ^ 64 → IsReplacement number image next d
  is_turned stale opened next_is =
      ⊎_elim (λ shut. absurd (shut opened))
      (λ other. ⊎_elim (λ same. absurd (stale (gate_same o d same ∙ opened) (generation_same o d same ∙ next_is))) (λ turned. turned) other) turning.either

-- as A and B
pub turned_sides : (b : Bool) (c d : List ℕ) (rs : List Record) → PairSpells (first_of (not b) d c) (second_of (not b) d c) rs → PairSpells (first_of b c d) (second_of b c d) rs
turned_sides false c d rs spells = spells
turned_sides true c d rs spells = spells

-- beside the file that counted each image spells the old list or the new one
pub turning_either : (b : Bool) (c o d : List ℕ) (rs image : List Record) (gate number next : ℕ) → IsChosen b c o → generation c ≡ number → number < 2 ^ 64 → Spells c rs gate
    → IsReplacing o number image next d → SpellsEither rs image (first_of b c d) (second_of b c d)
turning_either b c o d rs image gate number next chosen is small spells turning = ⊎_elim (λ shut. old (inl shut)) (λ other. ⊎_elim (λ same. old (inr same)) new other) turning.either
  where
    old : (file_gate d ≢ 1) ⊎ Agree o d 0 first_gate → SpellsEither rs image (first_of b c d) (second_of b c d)
    old either = inl (chosen_spells b c d rs gate (still_chosen b c o d chosen turning.long turning.begins either) spells)

    new : IsReplacement number image next d → SpellsEither rs image (first_of b c d) (second_of b c d)
    new turned = inr (turned_sides b c d image (chosen_spells (not b) d c image next (turned_chosen b c o d number chosen is small turning.long turning.begins turned.opened turned.number_is) turned.spells))

-- the calls were those of the other file alone
pub lift_other : (b : Bool) (c o o' : History) (P : List ℕ → Type 0) (Q : List ℕ → List ℕ → Type 0) → IsQuiet c
    → ((d : List ℕ) → P d → Q (first_of b (contents_of c) d) (second_of b (contents_of c) d)) → Leaves o o' P
    → LeavesPair (first_of b c o) (second_of b c o) (first_of b c o') (second_of b c o') Q
lift_other false c o o' P Q quiet to leaves = lift true o o' c P Q quiet to leaves
lift_other true c o o' P Q quiet to leaves = lift false o o' c P Q quiet to leaves

module _ (b : Bool) (c o o' : History) (rs image : List Record) (gate number next : ℕ) (rests : Rests b c o gate rs) (is : generation (contents_of c) ≡ number) (small : number < 2 ^ 64)
    (leaves : Leaves o o' (IsReplacing (contents_of o) number image next)) where
  pub rotate_leaves : LeavesPair (first_of b c o) (second_of b c o) (first_of b c o') (second_of b c o') (SpellsEither rs image)
  rotate_leaves = lift_other b c o o' (IsReplacing (contents_of o) number image next) (SpellsEither rs image) rests.settled.quiet
      (λ d turning. turning_either b (contents_of c) (contents_of o) d rs image gate number next rests.chosen is small rests.settled.spells turning) leaves

  here : IsReplacing (contents_of o) number image next (contents_of o')
  here = leaves_now o o' (IsReplacing (contents_of o) number image next) leaves (contents_of o') (contents_image (state_of o') (synced_within o'))

  -- once the new file is there the journal rests on it
  pub rotate_rests : IsQuiet o' → IsReplacement number image next (contents_of o') → Rests (not b) o' c next image
  rotate_rests quiet turned = record {
    settled = record { spells = turned.spells; quiet = quiet };
    other_quiet = rests.settled.quiet;
    chosen = turned_chosen b (contents_of c) (contents_of o) (contents_of o') number rests.chosen is small here.long here.begins turned.opened turned.number_is;
  }

-- while an image is in flight each pair of images spells the old list or the new one
pub turns_either : (b : Bool) (c o : History) (rs image : List Record) (gate number next : ℕ) → WaitsReplaced b c o gate rs number image next
    → (x y : List ℕ) → WasLeft (first_of b c o) (second_of b c o) x y → SpellsEither rs image x y
turns_either false c o rs image gate number next turns x y left =
    subst (λ (l : List ℕ). SpellsEither rs image l y) (sym (settled_image (state_of c) x turns.settled.quiet left.0))
    (turning_either false (contents_of c) turns.file y rs image gate number next turns.chosen turns.number_is turns.small turns.settled.spells (turns.images y left.1))
turns_either true c o rs image gate number next turns x y left =
    subst (λ (l : List ℕ). SpellsEither rs image x l) (sym (settled_image (state_of c) y turns.settled.quiet left.1))
    (turning_either true (contents_of c) turns.file x rs image gate number next turns.chosen turns.number_is turns.small turns.settled.spells (turns.images x left.0))

module _ (b : Bool) (c o c' o' : History) (rs image : List Record) (gate number next : ℕ) (turns : WaitsReplaced b c o gate rs number image next) (settles : FileSettles c c') (other : FileSettles o o') where
  same_counting : IsSettled c' rs gate
  same_counting = record { spells = subst (λ (l : List ℕ). Spells l rs gate) (sym settles.same) turns.settled.spells; quiet = settles.still_quiet turns.settled.quiet }

  -- what is in flight stays so
  pub turns_settles : WaitsReplaced b c' o' gate rs number image next
  turns_settles = record {
    settled = same_counting;
    number_is = ap generation settles.same ∙ turns.number_is;
    small = turns.small;
    file = turns.file;
    chosen = subst (λ (l : List ℕ). IsChosen b l turns.file) (sym settles.same) turns.chosen;
    images = λ d im. turns.images d (leaves_now o o' (IsImage (state_of o)) other.leaves d im);
  }

  now_is : IsReplacing turns.file number image next (contents_of o')
  now_is = turns.images (contents_of o') (leaves_now o o' (IsImage (state_of o)) other.leaves (contents_of o') (contents_image (state_of o') (synced_within o')))

  -- the other file is the new one: from now on it counts
  pub turns_over : IsQuiet o' → file_gate (contents_of o') ≡ 1 → generation (contents_of o') ≡ (number + 1) % 2 ^ 64 → Rests (not b) o' c' next image
  turns_over quiet opened next_is =
      let turned = is_turned turns.file number image next (contents_of o') now_is (chosen_stale b (contents_of c) turns.file number turns.chosen turns.number_is turns.small) opened next_is in
      record {
        settled = record { spells = turned.spells; quiet = quiet };
        other_quiet = same_counting.quiet;
        chosen = subst (λ (l : List ℕ). IsChosen (not b) (contents_of o') l) (sym settles.same)
            (turned_chosen b (contents_of c) turns.file (contents_of o') number turns.chosen turns.number_is turns.small now_is.long now_is.begins opened next_is);
      }

  -- it isn't: the same one counts
  pub turns_back : IsQuiet o' → (file_gate (contents_of o') ≡ 1 → generation (contents_of o') ≢ (number + 1) % 2 ^ 64) → Rests b c' o' gate rs
  turns_back quiet told = record {
    settled = same_counting;
    other_quiet = quiet;
    chosen = subst (λ (l : List ℕ). IsChosen b l (contents_of o')) (sym settles.same)
        (still_chosen b (contents_of c) turns.file (contents_of o') turns.chosen now_is.long now_is.begins (not_turned turns.file number image next (contents_of o') now_is told));
  }
