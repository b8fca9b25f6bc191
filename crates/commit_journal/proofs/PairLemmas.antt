-- What two files spell, where one of them goes on and the other stays.
use Rattle.std.proofs.Common.{◌≡◌, ◌≤◌, inl, inr, ⊎_elim, ℕ, ◌+◌, ◌-◌, ◌%◌, ◌^◌, ◌==◌, min, Bool, true, false, cond, List, [], ◌∷◌, ◌++◌, length, refl, sym, ◌∙◌, ap, subst, arith}
use Rattle.std.proofs.lemmas.List.{append-nil}
use Rattle.std.specs.Int.{w64, from_be_bytes}
use Rattle.disk_model.specs.Disk.{History, state_of, contents_of, IsImage, Leaves}
use Rattle.disk_model.proofs.Images.{settled_image, synced_within, contents_image, leaves_now}
use Rattle.std.specs.List.{All}
use Rattle.record_code.specs.Record.{Record, IsSound, body}
use Rattle.commit_journal.specs.Journal.{gate_behind}
use Rattle.record_code.specs.Reading.{Agree, Spells, first_gate}
use Rattle.record_code.proofs.Slices.{slice_same}
use Rattle.commit_journal.proofs.AppendLemmas.{gate_from}
use Rattle.commit_journal.specs.Pair.{file_gate, generation, HasHeader, b_counts, PairSpells, first_of, second_of, IsChosen, IsQuiet, IsBeforeOrAfter, IsSettled, LeavesPair, Rests, Waits, SpellsEither, Only}

pub header_same : (f c : List ℕ) → HasHeader f → Agree f c 0 first_gate → first_gate ≤ length c → HasHeader c
header_same f c header agree long = record {
  long = long;
  begins = sym (slice_same f c 0 8 (λ k from to. agree k from (omega arith))) ∙ header.begins;
}

pub gate_same : (f c : List ℕ) → Agree f c 0 first_gate → file_gate f ≡ file_gate c
gate_same f c agree = agree 16 (omega arith) (omega arith)

pub generation_same : (f c : List ℕ) → Agree f c 0 first_gate → generation f ≡ generation c
unfolding generation
generation_same f c agree = ap (from_be_bytes w64) (slice_same f c 8 8 (λ k from to. agree k (omega arith) (omega arith)))

pub counts_same_a : (f c o : List ℕ) → Agree f c 0 first_gate → b_counts f o ≡ b_counts c o
counts_same_a f c o agree =
    ap (λ (g : ℕ). cond (g == 1) (cond (file_gate o == 1) (generation o == (generation f + 1) % 2 ^ 64) false) true) (gate_same f c agree)
    ∙ ap (λ (n : ℕ). cond (file_gate c == 1) (cond (file_gate o == 1) (generation o == (n + 1) % 2 ^ 64) false) true) (generation_same f c agree)

pub counts_same_b : (o f c : List ℕ) → Agree f c 0 first_gate → b_counts o f ≡ b_counts o c
counts_same_b o f c agree =
    ap (λ (g : ℕ). cond (file_gate o == 1) (cond (g == 1) (generation f == (generation o + 1) % 2 ^ 64) false) true) (gate_same f c agree)
    ∙ ap (λ (n : ℕ). cond (file_gate o == 1) (cond (file_gate c == 1) (n == (generation o + 1) % 2 ^ 64) false) true) (generation_same f c agree)

pub chosen_same : (b : Bool) (f c o : List ℕ) → IsChosen b f o → Agree f c 0 first_gate → first_gate ≤ length c → IsChosen b c o
chosen_same false f c o chosen agree long = record {
  pair = record {
    header_a = header_same f c chosen.pair.header_a agree long;
    header_b = chosen.pair.header_b;
    gate = ⊎_elim (λ here. inl (sym (gate_same f c agree) ∙ here)) (λ there. inr there) chosen.pair.gate;
  };
  choice = sym (counts_same_a f c o agree) ∙ chosen.choice;
}
chosen_same true f c o chosen agree long = record {
  pair = record {
    header_a = chosen.pair.header_a;
    header_b = header_same f c chosen.pair.header_b agree long;
    gate = ⊎_elim (λ there. inl there) (λ here. inr (sym (gate_same f c agree) ∙ here)) chosen.pair.gate;
  };
  choice = sym (counts_same_b o f c agree) ∙ chosen.choice;
}

pub chosen_spells : (b : Bool) (c o : List ℕ) (rs : List Record) (last : ℕ) → IsChosen b c o → Spells c rs last → PairSpells (first_of b c o) (second_of b c o) rs
chosen_spells false c o rs last chosen spells = record {
  pair = chosen.pair;
  last = last;
  spells = subst (λ (v : Bool). Spells (cond v o c) rs last) (sym chosen.choice) spells;
}
chosen_spells true c o rs last chosen spells = record {
  pair = chosen.pair;
  last = last;
  spells = subst (λ (v : Bool). Spells (cond v c o) rs last) (sym chosen.choice) spells;
}

long_enough : (c : List ℕ) (rs : List Record) (last : ℕ) → Spells c rs last → first_gate ≤ length c
long_enough c rs last spells = omega (arith, gate_from c rs last spells, spells.inside)

either_long : (f : List ℕ) (rs : List Record) (r : Record) (gate : ℕ) (c : List ℕ) → IsBeforeOrAfter f rs r gate c → first_gate ≤ length c
either_long f rs r gate c is = ⊎_elim (λ left. long_enough c rs gate left) (λ right. long_enough c (rs ++ r ∷ []) (gate + length (body 0 r)) right.spells) is.either

-- a file that has the record or doesn't, beside the other file
pub either_spells : (b : Bool) (f o : List ℕ) (rs : List Record) (r : Record) (gate : ℕ) (c : List ℕ) → IsChosen b f o → IsBeforeOrAfter f rs r gate c
    → SpellsEither rs (rs ++ r ∷ []) (first_of b c o) (second_of b c o)
either_spells b f o rs r gate c chosen is =
    let here = chosen_same b f c o chosen is.header (either_long f rs r gate c is) in
    ⊎_elim (λ left. inl (chosen_spells b c o rs gate here left)) (λ right. inr (chosen_spells b c o (rs ++ r ∷ []) (gate + length (body 0 r)) here right.spells)) is.either

-- the calls were those of the file that counts alone
pub lift : (b : Bool) (h h' o : History) (P : List ℕ → Type 0) (Q : List ℕ → List ℕ → Type 0) → IsQuiet o
    → ((c : List ℕ) → P c → Q (first_of b c (contents_of o)) (second_of b c (contents_of o))) → Leaves h h' P
    → LeavesPair (first_of b h o) (second_of b h o) (first_of b h' o) (second_of b h' o) Q
lift false h h' o P Q quiet to leaves = record {
  a_calls = leaves.calls;
  b_calls = [];
  a_first = leaves.first;
  b_first = refl;
  a_made = leaves.made;
  b_made = sym (append-nil o.calls);
  each = λ c d since image. subst (λ (l : List ℕ). Q c l) (sym (settled_image (state_of o) d quiet image)) (to c (leaves.each c since));
}
lift true h h' o P Q quiet to leaves = record {
  a_calls = [];
  b_calls = leaves.calls;
  a_first = refl;
  b_first = leaves.first;
  a_made = sym (append-nil o.calls);
  b_made = leaves.made;
  each = λ c d image since. subst (λ (l : List ℕ). Q l d) (sym (settled_image (state_of o) c quiet image)) (to d (leaves.each d since));
}

pub append_leaves : (b : Bool) (h h' o : History) (rs : List Record) (r : Record) (gate : ℕ) → Rests b h o gate rs → Leaves h h' (IsBeforeOrAfter (contents_of h) rs r gate)
    → LeavesPair (first_of b h o) (second_of b h o) (first_of b h' o) (second_of b h' o) (SpellsEither rs (rs ++ r ∷ []))
append_leaves b h h' o rs r gate rests leaves =
    lift b h h' o (IsBeforeOrAfter (contents_of h) rs r gate) (SpellsEither rs (rs ++ r ∷ [])) rests.other_quiet (λ c is. either_spells b (contents_of h) (contents_of o) rs r gate c rests.chosen is) leaves

-- what a crash then leaves of the file that counts
pub append_images : (h h' : History) (rs : List Record) (r : Record) (gate : ℕ) → Leaves h h' (IsBeforeOrAfter (contents_of h) rs r gate)
    → (c : List ℕ) → IsImage (state_of h') c → IsBeforeOrAfter (contents_of h') rs r gate c
append_images h h' rs r gate leaves c image =
    let P = IsBeforeOrAfter (contents_of h) rs r gate in
    let here = leaves_now h h' P leaves (contents_of h') (contents_image (state_of h') (synced_within h')) in
    let there = leaves_now h h' P leaves c image in
    record { header = λ k from to. sym (here.header k from to) ∙ there.header k from to; either = there.either }

-- after a fault the record is in flight
pub append_waits : (b : Bool) (h h' o : History) (rs : List Record) (r : Record) (gate : ℕ) → Rests b h o gate rs → Leaves h h' (IsBeforeOrAfter (contents_of h) rs r gate)
    → Waits b h' o gate rs r
append_waits b h h' o rs r gate rests leaves = record {
  images = append_images h h' rs r gate leaves;
  other_quiet = rests.other_quiet;
  chosen = chosen_same b (contents_of h) (contents_of h') (contents_of o) rests.chosen here.header (either_long (contents_of h) rs r gate (contents_of h') here);
}
  where
    image_is : (c : List ℕ) → IsImage (state_of h') c → IsBeforeOrAfter (contents_of h) rs r gate c
    image_is c image = leaves_now h h' (IsBeforeOrAfter (contents_of h) rs r gate) leaves c image

    here : IsBeforeOrAfter (contents_of h) rs r gate (contents_of h')
    here = image_is (contents_of h') (contents_image (state_of h') (synced_within h'))

pub append_rests : (b : Bool) (h h' o : History) (rs : List Record) (r : Record) (gate next : ℕ) → Rests b h o gate rs → Leaves h h' (IsBeforeOrAfter (contents_of h) rs r gate)
    → IsSettled h' (rs ++ r ∷ []) next → Rests b h' o next (rs ++ r ∷ [])
append_rests b h h' o rs r gate next rests leaves settled = record {
  settled = settled;
  other_quiet = rests.other_quiet;
  chosen = (append_waits b h h' o rs r gate rests leaves).chosen;
}

-- at rest each pair of images spells the list
pub rests_only : (b : Bool) (h o : History) (gate : ℕ) (rs : List Record) → Rests b h o gate rs → Only (first_of b h o) (second_of b h o) rs
rests_only false h o gate rs rests c d image_c image_d =
    subst (λ (l : List ℕ). PairSpells l d rs) (sym (settled_image (state_of h) c rests.settled.quiet image_c))
    (subst (λ (l : List ℕ). PairSpells (contents_of h) l rs) (sym (settled_image (state_of o) d rests.other_quiet image_d))
    (chosen_spells false (contents_of h) (contents_of o) rs gate rests.chosen rests.settled.spells))
rests_only true h o gate rs rests c d image_c image_d =
    subst (λ (l : List ℕ). PairSpells l d rs) (sym (settled_image (state_of o) c rests.other_quiet image_c))
    (subst (λ (l : List ℕ). PairSpells (contents_of o) l rs) (sym (settled_image (state_of h) d rests.settled.quiet image_d))
    (chosen_spells true (contents_of h) (contents_of o) rs gate rests.chosen rests.settled.spells))

-- files that spell a list and are quiet leave that list alone
pub quiet_only : (a b : History) (rs : List Record) → IsQuiet a → IsQuiet b → PairSpells (contents_of a) (contents_of b) rs → Only a b rs
quiet_only a b rs quiet_a quiet_b spells c d image_c image_d =
    subst (λ (l : List ℕ). PairSpells l d rs) (sym (settled_image (state_of a) c quiet_a image_c))
    (subst (λ (l : List ℕ). PairSpells (contents_of a) l rs) (sym (settled_image (state_of b) d quiet_b image_d)) spells)

-- a list of one record
pub the_one : (l : List Record) → length l ≡ 1 → (r : Record) × (l ≡ r ∷ [])
the_one [] one = absurd (omega arith)
the_one (r ∷ []) one = (r, refl)
the_one (r ∷ (s ∷ rest)) one = absurd (omega arith)

pub sound_one : (l : List Record) (r : Record) → All IsSound l → l ≡ r ∷ [] → IsSound r
sound_one l r all one = let P : List Record → Type 0 = λ m. All IsSound m in subst P one all 0 r (omega arith)

pub behind_is : (gate : ℕ) (bytes : List ℕ) (r : Record) → bytes ≡ body 0 r → min (gate + length bytes) (2 ^ 62 - 1) ≡ gate_behind gate r
behind_is gate bytes r is = ap (λ (l : List ℕ). min (gate + length l) (2 ^ 62 - 1)) is
