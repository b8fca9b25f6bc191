-- What the bytes that were read say of the file.
use Rattle.std.proofs.Common.{◌≡◌, ◌≤◌, ◌<◌, ℕ, suc, ◌+◌, ◌-◌, ◌==◌, Bool, true, false, not, cond, nat_le, IsTrue, ◌↔◌, List, [], ◌∷◌, ◌++◌, length, get_or, take, drop, refl, sym, ◌∙◌, ap, subst, arith}
use Rattle.std.proofs.lemmas.Bool.Decides.{nat_tests}
use Rattle.std.proofs.lemmas.List.{take_at, drop_at, map-append}
use Rattle.std.proofs.lemmas.Slice.Eq.{bytes_eq-Decides}
use Rattle.std.specs.Cmp.Lexicographic.{pointwise}
use Rattle.std.specs.Prelude.{nat_eq}
use Rattle.std.specs.Int.{w32, w64, from_be_bytes}
use Rattle.sha2.specs.Sha256.{sha256}
use Rattle.record_code.specs.Record.{Record, most_payload}
use Rattle.record_code.specs.Reading.{byte, slice, size_at, record_at, computed_digest, kept_digest, next_gate, IsRecordAt, first_gate}
use Rattle.record_code.proofs.Slices.{length-slice, get_or-slice, slice-append}
use Rattle.commit_journal.specs.declared.header.Header.{Header}
use Rattle.commit_journal.specs.Pair.{magic, generation}
use Rattle.record_code.specs.declared.payloads.Placed.{Placed}
use Rattle.record_code.specs.Reading.{Reads}
use Rattle.record_code.proofs.ReadingLemmas.{reads_push}
use Rattle.commit_journal.specs.Attach.{IsHeaderOf, IsDamage}
use Rattle.record_code.specs.Listed.{record_of, records_of, PlacedFrom}

kept_size : (n : ℕ) → n ≤ most_payload → n ≡ cond (nat_le n most_payload) n 0
kept_size n le = grind (arith, nat_tests)

no_size : (n : ℕ) → most_payload < n → 0 ≡ cond (nat_le n most_payload) n 0
no_size n lt = grind (arith, nat_tests)

number_is : (f head : List ℕ) (g : ℕ) → head ≡ slice f (g + 1) 5 → take 4 (drop 1 head) ≡ slice f (g + 2) 4
unfolding slice
number_is f head g is = let e : suc (g + 1) ≡ g + 2 = omega arith in ap (λ (l : List ℕ). take 4 (drop 1 l)) is ∙ ap (λ (m : ℕ). slice f m 4) e

pub size_is : (f head : List ℕ) (g n : ℕ) → head ≡ slice f (g + 1) 5 → n ≡ from_be_bytes w32 (take 4 (drop 1 head)) → n ≤ most_payload → n ≡ size_at f g
unfolding size_at
size_is f head g n is value le = kept_size n le ∙ ap (λ (m : ℕ). cond (nat_le m most_payload) m 0) (value ∙ ap (from_be_bytes w32) (number_is f head g is))

pub size_none : (f head : List ℕ) (g n : ℕ) → head ≡ slice f (g + 1) 5 → n ≡ from_be_bytes w32 (take 4 (drop 1 head)) → most_payload < n → 0 ≡ size_at f g
unfolding size_at
size_none f head g n is value lt = no_size n lt ∙ ap (λ (m : ℕ). cond (nat_le m most_payload) m 0) (value ∙ ap (from_be_bytes w32) (number_is f head g is))

pub header_is : (file bytes : List ℕ) (len : ℕ) (h : Header) → len ≡ length file → bytes ≡ slice file 0 17
    → (IsTrue h.begins ↔ (take 8 bytes ≡ magic)) → (IsTrue h.is_sound ↔ ((first_gate ≤ len) × (take 8 bytes ≡ magic))) → h.generation ≡ from_be_bytes w64 (take 8 (drop 8 bytes)) → h.is_open ≡ (get_or bytes 16 0 == 1)
    → IsHeaderOf file h
unfolding slice generation
header_is file bytes len h size is begins sound number gate = record {
  magic_is = (
    λ it. sym (ap (λ (l : List ℕ). take 8 l) is) ∙ begins.0 it,
    λ has. begins.1 (ap (λ (l : List ℕ). take 8 l) is ∙ has),
  );
  sound = (
    λ yes_sound. let both = sound.0 yes_sound in record { long = subst (λ (n : ℕ). first_gate ≤ n) size both.0; begins = sym (ap (λ (l : List ℕ). take 8 l) is) ∙ both.1 },
    λ has. sound.1 (subst (λ (n : ℕ). first_gate ≤ n) (sym size) has.long, ap (λ (l : List ℕ). take 8 l) is ∙ has.begins),
  );
  number = number ∙ ap (λ (l : List ℕ). from_be_bytes w64 (take 8 (drop 8 l))) is;
  gate = gate ∙ ap (λ (l : List ℕ). get_or l 16 0 == 1) is;
}

module _ (f : List ℕ) (g : ℕ) (head rest payload stored : List ℕ) (head_is : head ≡ slice f (g + 1) 5) (rest_is : rest ≡ slice f (g + 6) (size_at f g + 32)) (len : ℕ) (len_is : len ≡ length rest) (payload_is : payload ≡ take (len - 32) rest) (stored_is : stored ≡ drop (len - 32) rest) where
  n : ℕ
  n = size_at f g

  middle : len - 32 ≡ n
  unfolding n
  middle = omega (arith, len_is, ap length rest_is, length-slice f (g + 6) (size_at f g + 32))

  cut : rest ≡ slice f (g + 6) n ++ slice f (g + 6 + n) 32
  unfolding n
  cut = rest_is ∙ slice-append f (g + 6) (size_at f g) 32

  payload_slice : payload ≡ slice f (g + 6) n
  payload_slice = payload_is ∙ ap (λ (m : ℕ). take m rest) middle ∙ ap (λ (l : List ℕ). take n l) cut ∙ take_at (slice f (g + 6) n) (slice f (g + 6 + n) 32) n (length-slice f (g + 6) n)

  stored_slice : stored ≡ kept_digest f g
  unfolding n kept_digest
  stored_slice = stored_is ∙ ap (λ (m : ℕ). drop m rest) middle ∙ ap (λ (l : List ℕ). drop n l) cut ∙ drop_at (slice f (g + 6) n) (slice f (g + 6 + n) 32) n (length-slice f (g + 6) n)

  body_slice : head ++ payload ≡ slice f (g + 1) (5 + n)
  body_slice =
      let place : g + 6 ≡ g + 1 + 5 = omega arith in
      ap (λ (l : List ℕ). l ++ payload) head_is ∙ ap (λ (l : List ℕ). slice f (g + 1) 5 ++ l) (payload_slice ∙ ap (λ (m : ℕ). slice f m n) place) ∙ sym (slice-append f (g + 1) 5 n)

  module _ (kept computed : List ℕ) (kept_is : kept ≡ stored) (computed_is : computed ≡ sha256 (head ++ payload)) (opened : byte f g ≡ 1) where
    digest_is : computed ≡ computed_digest f g
    unfolding n computed_digest
    digest_is = computed_is ∙ ap sha256 body_slice

    pub damage_is : (ne : Bool) → ne ≡ not (pointwise nat_eq kept computed) → ne ≡ true → IsDamage f g g kept computed
    damage_is ne told differ = record {
      place = refl;
      opened = opened;
      kept_is = kept_is ∙ stored_slice;
      computed_is = digest_is;
      differ = λ same. let e : true ≡ not (pointwise nat_eq kept computed) = sym differ ∙ told in
          let s : pointwise nat_eq kept computed ≡ true = (bytes_eq-Decides kept computed).1 same in absurd (let w : true ≡ not true = e ∙ ap not s in cc);
    }

    pub record_is : (ne : Bool) (kind : ℕ) (read : List ℕ) → ne ≡ not (pointwise nat_eq kept computed) → ne ≡ false → kind ≡ get_or head 0 0 → read ≡ payload
        → IsRecordAt f g (record { kind = kind; payload = read })
    unfolding n record_at
    record_is ne kind read told same kind_is read_is = record {
      is_open = opened;
      is = subst (λ (l : List ℕ). let r : Record = record { kind = kind; payload = read } in let s : Record = record { kind = byte f (g + 1); payload = l } in r ≡ s) (read_is ∙ payload_slice)
          (subst (λ (k : ℕ). let r : Record = record { kind = kind; payload = read } in let s : Record = record { kind = k; payload = read } in r ≡ s) first refl);
      right = sym digest_is ∙ sym equal ∙ kept_is ∙ stored_slice;
    }
      where
        equal : kept ≡ computed
        equal = (bytes_eq-Decides kept computed).0 (flip (pointwise nat_eq kept computed) (sym told ∙ same))
          where
            flip : (b : Bool) → not b ≡ false → b ≡ true
            flip true e = refl
            flip false e = absurd (cc)

        first : kind ≡ byte f (g + 1)
        first = let e : g + 1 + 0 ≡ g + 1 = omega arith in kind_is ∙ ap (λ (l : List ℕ). get_or l 0 0) head_is ∙ get_or-slice f (g + 1) 5 0 0 (omega arith) ∙ ap (λ (m : ℕ). byte f m) e

pub is_one : (n : ℕ) (b : Bool) → b ≡ (n == 1) → b ≡ true → n ≡ 1
is_one n b told is = let e : (n == 1) ≡ true = sym told ∙ is in grind (arith, nat_tests)

pub not_one : (n : ℕ) (b : Bool) → b ≡ (n == 1) → b ≡ false → n ≡ 1 → ⊥
not_one n b told is one = let e : (n == 1) ≡ false = sym told ∙ is in grind (arith, nat_tests)

-- one record more was read
pub read_more : (f : List ℕ) (placed placed' : List Placed) (p : Placed) (gate next : ℕ) → Reads f first_gate (records_of placed) gate → IsRecordAt f gate (record_of p)
    → next ≡ next_gate f gate → placed' ≡ placed ++ p ∷ [] → Reads f first_gate (records_of placed') next
read_more f placed placed' p gate next reads at is more =
    subst (λ (n : ℕ). Reads f first_gate (records_of placed') n) (sym is)
    (subst (λ (rs : List Record). Reads f first_gate rs (next_gate f gate)) (sym (ap records_of more ∙ map-append record_of placed (p ∷ [])))
    (reads_push f first_gate (records_of placed) gate (record_of p) reads at))

placed_push : (g : ℕ) (placed : List Placed) (p : Placed) (gate : ℕ) → PlacedFrom g placed gate → p.offset ≡ gate → PlacedFrom g (placed ++ p ∷ []) (gate + 38 + length p.payload)
placed_push g [] p gate places at = (at ∙ sym places, ap (λ (n : ℕ). n + 38 + length p.payload) places)
placed_push g (q ∷ placed) p gate places at = (places.0, placed_push (g + 38 + length q.payload) placed p gate places.1 at)

-- and it stands after those before it
pub placed_more : (placed placed' : List Placed) (p : Placed) (g gate next : ℕ) → PlacedFrom g placed gate → p.offset ≡ gate → next ≡ gate + 38 + length p.payload → placed' ≡ placed ++ p ∷ []
    → PlacedFrom g placed' next
placed_more placed placed' p g gate next places at behind more =
    subst (λ (n : ℕ). PlacedFrom g placed' n) (sym behind) (subst (λ (l : List Placed). PlacedFrom g l (gate + 38 + length p.payload)) (sym more) (placed_push g placed p gate places at))
