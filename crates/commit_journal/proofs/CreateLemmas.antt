-- What two files spell that were just made.
use Rattle.std.proofs.Common.{◌≡◌, ◌≤◌, ◌<◌, ◌⊎◌, inl, inr, ℕ, ◌+◌, ◌-◌, ◌%◌, ◌^◌, ◌==◌, true, false, cond, List, [], ◌∷◌, ◌++◌, length, get_or, refl, sym, ◌∙◌, ap, subst, arith, length-append}
use Rattle.std.proofs.lemmas.List.{get_or-append_right, get_or_append_left}
use Rattle.std.specs.Int.{w64, from_be_bytes}
use Rattle.disk_model.specs.Disk.{DiskGoesOn, History, DiskState, contents_of, put}
use Rattle.disk_model.proofs.Images.{put_same, put_other, put_no_shorter}
use Rattle.disk_model.proofs.States.{length-put}
use Rattle.record_code.specs.Record.{Record, IsSound, body, gated}
use Rattle.record_code.specs.Reading.{byte, slice, Spells, first_gate}
use Rattle.record_code.proofs.Slices.{slice_is}
use Rattle.record_code.proofs.ReadingLemmas.{length-body, body_there}
use Rattle.commit_journal.specs.Opening.{making, making_b}
use Rattle.commit_journal.specs.Pair.{head_a, head_b, magic, file_gate, generation, HasHeader, b_counts, IsChosen, IsSettled, Rests}
use Rattle.commit_journal.specs.Rotation.{IsSpare}
use Rattle.commit_journal.proofs.FileLemmas.{goes_state}

-- the header of A and the open gate after it
abbrev pub front_a : List ℕ
front_a = 0x43 ∷ 0x4f ∷ 0x4e ∷ 0x46 ∷ 0x44 ∷ 0x4a ∷ 0x31 ∷ 0x0a ∷ 0 ∷ 0 ∷ 0 ∷ 0 ∷ 0 ∷ 0 ∷ 0 ∷ 1 ∷ 0 ∷ 1 ∷ []

-- the generation that stands there
abbrev one : List ℕ
one = 0 ∷ 0 ∷ 0 ∷ 0 ∷ 0 ∷ 0 ∷ 0 ∷ 1 ∷ []

-- a file with bytes put at its start
front : (bytes old : List ℕ) (k : ℕ) → k < length bytes → byte (put 0 bytes old) k ≡ get_or bytes k 0
front bytes old k lt = let e : k - 0 ≡ k = omega arith in put_same 0 bytes old k 0 (omega arith) (omega arith) (omega arith) ∙ ap (λ (j : ℕ). get_or bytes j 0) e

eight : (f : List ℕ) (l : List ℕ) → length l ≡ 8 → ((k : ℕ) → k < 8 → byte f k ≡ get_or l k 0) → slice f 0 8 ≡ l
eight f l size each = slice_is f 0 8 l size (λ k lt. let e : 0 + k ≡ k = omega arith in ap (λ (j : ℕ). byte f j) e ∙ each k lt)

module _ (bytes old : List ℕ) (r : Record) (sound : IsSound r) (is : bytes ≡ body 0 r) where
  first : List ℕ
  first = put 0 (front_a ++ bytes) old

  pub made : List ℕ
  made = put 16 (1 ∷ []) first

  whole : length (front_a ++ bytes) ≡ 56 + length r.payload
  whole = omega (arith, length-append front_a bytes, ap length is, length-body 0 r)

  first_long : 56 + length r.payload ≤ length first
  unfolding first
  first_long = omega (arith, length-put 0 (front_a ++ bytes) old (omega arith), whole)

  pub made_long : 56 + length r.payload ≤ length made
  unfolding made
  made_long = omega (arith, put_no_shorter 16 (1 ∷ []) first, first_long)

  other : (k : ℕ) → k < 56 + length r.payload → (k < 16) ⊎ (17 ≤ k) → byte made k ≡ get_or (front_a ++ bytes) k 0
  unfolding made first
  other k lt outside = put_other 16 (1 ∷ []) (put 0 (front_a ++ bytes) old) k 0 (omega (arith, first_long)) outside ∙ front (front_a ++ bytes) old k (omega (arith, whole))

  pub gate_open : file_gate made ≡ 1
  unfolding made
  gate_open = put_same 16 (1 ∷ []) first 16 0 (omega (arith, first_long)) (omega arith) (omega arith)

  pub header_made : HasHeader made
  header_made = record {
    long = omega (arith, made_long);
    begins = eight made magic refl (λ k lt. other k (omega arith) (inl (omega arith)) ∙ get_or_append_left front_a bytes 0 k (omega arith) ∙ in_magic k lt);
  }
    where
      in_magic : (k : ℕ) → k < 8 → get_or front_a k 0 ≡ get_or magic k 0
      in_magic k lt = get_or_append_left magic (0 ∷ 0 ∷ 0 ∷ 0 ∷ 0 ∷ 0 ∷ 0 ∷ 1 ∷ 0 ∷ 1 ∷ []) 0 k lt

  there : slice made 18 (38 + length r.payload) ≡ body 0 r
  there = slice_is made 18 (38 + length r.payload) (body 0 r) (length-body 0 r)
      (λ k lt. let back : 18 + k - 18 ≡ k = omega arith in
      other (18 + k) (omega arith) (inr (omega arith)) ∙ get_or-append_right front_a bytes 18 (18 + k) 0 refl (omega arith) ∙ ap (λ (j : ℕ). get_or bytes j 0) back ∙ ap (λ (l : List ℕ). get_or l k 0) is)

  pub made_spells : Spells made (r ∷ []) (first_gate + length bytes)
  made_spells =
      let stands = body_there made 17 0 r sound there in
      let one : byte made 17 ≡ 1 = other 17 (omega arith) (inr (omega arith)) ∙ get_or_append_left front_a bytes 0 17 (omega arith) in
      let place : 17 + 38 + length r.payload ≡ first_gate + length bytes = omega (arith, ap length is, length-body 0 r) in
      record {
        reads = (stands.here one, stands.gate ∙ place);
        shut = λ opened. absurd (let z : 0 ≡ 1 = sym stands.then ∙ ap (λ (n : ℕ). byte made n) place ∙ opened in omega arith);
        inside = omega (arith, made_long, place);
      }

  -- and generation 1
  pub number_made : generation made ≡ 1
  unfolding generation
  number_made = ap (from_be_bytes w64) (slice_is made 8 8 one refl each)
    where
      each : (k : ℕ) → k < 8 → byte made (8 + k) ≡ get_or one k 0
      each k lt =
          let back : 8 + k - 8 ≡ k = omega arith in
          other (8 + k) (omega arith) (inl (omega arith)) ∙ get_or_append_left front_a bytes 0 (8 + k) (omega arith)
          ∙ get_or-append_right magic (one ++ 0 ∷ (1 ∷ [])) 8 (8 + k) 0 refl (omega arith) ∙ ap (λ (j : ℕ). get_or (one ++ 0 ∷ (1 ∷ [])) j 0) back
          ∙ get_or_append_left one (0 ∷ (1 ∷ [])) 0 k lt

module _ (old : List ℕ) where
  pub other_made : List ℕ
  other_made = put 0 head_b old

  other_byte : (k : ℕ) → k < 17 → byte other_made k ≡ get_or head_b k 0
  unfolding other_made
  other_byte k lt = front head_b old k lt

  pub other_header : HasHeader other_made
  unfolding other_made
  other_header = record {
    long = omega (arith, length-put 0 head_b old (omega arith));
    begins = eight (put 0 head_b old) magic refl (λ k lt. front head_b old k (omega arith) ∙ get_or_append_left magic (0 ∷ 0 ∷ 0 ∷ 0 ∷ 0 ∷ 0 ∷ 0 ∷ 0 ∷ 0 ∷ []) 0 k lt);
  }

  pub other_shut : file_gate other_made ≡ 0
  other_shut = other_byte 16 (omega arith)

a_counts : (a b : List ℕ) → file_gate a ≡ 1 → file_gate b ≡ 0 → b_counts a b ≡ false
a_counts a b open_a shut_b =
    ap (λ (x : ℕ). cond (x == 1) (cond (file_gate b == 1) (generation b == (generation a + 1) % 2 ^ 64) false) true) open_a
    ∙ ap (λ (x : ℕ). cond (x == 1) (generation b == (generation a + 1) % 2 ^ 64) false) shut_b

-- the two files, with one record in A
pub record Made (a b : List ℕ) (r : Record) (gate : ℕ) : Type 0 where
  pub chosen : IsChosen false a b
  pub spells : Spells a (r ∷ []) gate

pub made_pair : (a b a0 a1 b0 bytes : List ℕ) (r : Record) → IsSound r → bytes ≡ body 0 r → a1 ≡ put 0 (front_a ++ bytes) a0 → a ≡ put 16 (1 ∷ []) a1 → b ≡ put 0 head_b b0 → Made a b r (first_gate + length bytes)
unfolding made first other_made
made_pair a b a0 a1 b0 bytes r sound is first_is a_is b_is =
    let a_made : a ≡ put 16 (1 ∷ []) (put 0 (front_a ++ bytes) a0) = a_is ∙ ap (λ (l : List ℕ). put 16 (1 ∷ []) l) first_is in
    subst (λ (x : List ℕ). Made x b r (first_gate + length bytes)) (sym a_made)
    (subst (λ (y : List ℕ). Made (made bytes a0 r sound is) y r (first_gate + length bytes)) (sym b_is)
    (record {
      chosen = record {
        pair = record { header_a = header_made bytes a0 r sound is; header_b = other_header b0; gate = inl (gate_open bytes a0 r sound is) };
        choice = a_counts (made bytes a0 r sound is) (other_made b0) (gate_open bytes a0 r sound is) (other_shut b0);
      };
      spells = made_spells bytes a0 r sound is;
    }))

pub made_file : (a a0 image bytes : List ℕ) (r : Record) → IsSound r → bytes ≡ body 0 r → image ≡ front_a ++ bytes → a ≡ put 16 (1 ∷ []) (put 0 image a0) → Spells a (r ∷ []) (first_gate + length bytes)
unfolding made first
made_file a a0 image bytes r sound is image_is a_is =
    subst (λ (x : List ℕ). Spells x (r ∷ []) (first_gate + length bytes)) (sym (a_is ∙ ap (λ (l : List ℕ). put 16 (1 ∷ []) (put 0 l a0)) image_is)) (made_spells bytes a0 r sound is)

pub made_chosen : (a a0 b b0 image bytes : List ℕ) (r : Record) → IsSound r → bytes ≡ body 0 r → image ≡ front_a ++ bytes → a ≡ put 16 (1 ∷ []) (put 0 image a0) → b ≡ put 0 head_b b0 → IsChosen false a b
made_chosen a a0 b b0 image bytes r sound is image_is a_is b_is =
    (made_pair a b a0 (put 0 (front_a ++ bytes) a0) b0 bytes r sound is refl (a_is ∙ ap (λ (l : List ℕ). put 16 (1 ∷ []) (put 0 l a0)) image_is) b_is).chosen

-- a file on which A was made has its record
module _ (a a' : History) (entry : List ℕ) (r : Record) (sound : IsSound r) (is : entry ≡ gated (body 0 r)) (goes : DiskGoesOn a (making (head_a ++ entry)) a') where
  image_is : head_a ++ entry ≡ front_a ++ body 0 r
  image_is = ap (λ (l : List ℕ). head_a ++ l) is

  contents_made : contents_of a' ≡ put 16 (1 ∷ []) (put 0 (head_a ++ entry) (contents_of a))
  contents_made = ap (λ (s : DiskState). s.contents) (goes_state a a' (making (head_a ++ entry)) goes)

  pub made_settled : IsSettled a' (r ∷ []) (16 + length entry)
  made_settled =
      let gate : first_gate + length (body 0 r) ≡ 16 + length entry = omega (arith, ap length is) in
      record {
        spells = subst (λ (n : ℕ). Spells (contents_of a') (r ∷ []) n) gate
            (made_file (contents_of a') (contents_of a) (head_a ++ entry) (body 0 r) r sound refl image_is contents_made);
        quiet = λ k. ap (λ (s : DiskState). s.pending k) (goes_state a a' (making (head_a ++ entry)) goes);
      }

  made_is_chosen : (b b' : History) → DiskGoesOn b making_b b' → IsChosen false (contents_of a') (contents_of b')
  made_is_chosen b b' goes_b =
      made_chosen (contents_of a') (contents_of a) (contents_of b') (contents_of b) (head_a ++ entry) (body 0 r) r sound refl image_is contents_made
      (ap (λ (s : DiskState). s.contents) (goes_state b b' making_b goes_b))

  -- and so has the journal on it and on B
  pub made_rests : (b b' : History) → DiskGoesOn b making_b b' → Rests false a' b' (16 + length entry) (r ∷ [])
  made_rests b b' goes_b = record {
    settled = made_settled;
    other_quiet = λ k. ap (λ (s : DiskState). s.pending k) (goes_state b b' making_b goes_b);
    chosen = made_is_chosen b b' goes_b;
  }

  pub made_number : generation (contents_of a') ≡ 1
  unfolding made first
  made_number =
      ap generation (contents_made ∙ ap (λ (l : List ℕ). put 16 (1 ∷ []) (put 0 l (contents_of a))) image_is) ∙ number_made (body 0 r) (contents_of a) r sound refl

-- B is at rest beside it
pub made_spare : (b b' : History) (number : ℕ) → DiskGoesOn b making_b b' → IsSpare number b'
unfolding other_made
made_spare b b' number goes =
    let is : contents_of b' ≡ put 0 head_b (contents_of b) = ap (λ (s : DiskState). s.contents) (goes_state b b' making_b goes) in
    record {
      quiet = λ k. ap (λ (s : DiskState). s.pending k) (goes_state b b' making_b goes);
      long = subst (λ (l : List ℕ). first_gate ≤ length l) (sym is) (other_header (contents_of b)).long;
      stale = λ opened. absurd (let z : 0 ≡ 1 = sym (other_shut (contents_of b)) ∙ ap file_gate (sym is) ∙ opened in omega (arith, z));
    }
