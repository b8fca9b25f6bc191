-- Reading records: what agrees reads the same, one more at the end, and that there is one reading.
use Rattle.std.proofs.Common.{◌≡◌, ◌≢◌, ◌≤◌, ℕ, ◌+◌, nat_le, cond, List, [], ◌∷◌, ◌++◌, length, refl, sym, ◌∙◌, ap, subst, arith, append_assoc, length-append}
use Rattle.std.specs.Int.{w32, to_be_bytes, from_be_bytes}
use Rattle.std.proofs.lemmas.Nat.{from_be_bytes-to_be_bytes_4}
use Rattle.std.proofs.lemmas.Bool.Decides.{nat_tests}
use Rattle.sha2.specs.Sha256.{sha256}
use Rattle.sha2.proofs.Facts256.{length-sha256}
use Rattle.record_code.specs.Record.{Record, IsSound, most_payload, head, body}
use Rattle.record_code.specs.Reading.{byte, slice, Agree, size_at, record_at, computed_digest, kept_digest, next_gate, IsRecordAt, Reads}
use Rattle.record_code.proofs.Slices.{slice_byte, slice_same, slice_front, slice_back}

pub length-head : (r : Record) → length (head r) ≡ 5 + length r.payload
length-head r = omega (arith, length-append ((r.kind ∷ []) ++ to_be_bytes w32 (length r.payload)) r.payload, length-append (r.kind ∷ []) (to_be_bytes w32 (length r.payload)))

pub length-body : (next : ℕ) (r : Record) → length (body next r) ≡ 38 + length r.payload
unfolding body
length-body next r = omega (arith, length-append (head r ++ sha256 (head r)) (next ∷ []), length-append (head r) (sha256 (head r)), length-head r, length-sha256 (head r))

pub next_later : (f : List ℕ) (g : ℕ) → g + 38 ≤ next_gate f g
unfolding next_gate
next_later f g = omega arith

pub reads_later : (f : List ℕ) (g : ℕ) (rs : List Record) (last : ℕ) → Reads f g rs last → g ≤ last
reads_later f g [] last reads = omega arith
reads_later f g (r ∷ rs) last reads = omega (arith, reads_later f (next_gate f g) rs last reads.1, next_later f g)

-- where two files agree up to the next gate, the same record stands
size_same : (f h : List ℕ) (g : ℕ) → Agree f h (g + 2) (g + 2 + 4) → size_at f g ≡ size_at h g
unfolding size_at
size_same f h g agree = ap (λ (l : List ℕ). let n = from_be_bytes w32 l in cond (nat_le n most_payload) n 0) (slice_same f h (g + 2) 4 agree)

pub next_same : (f h : List ℕ) (g : ℕ) → Agree f h g (g + 38) → next_gate f g ≡ next_gate h g
unfolding next_gate
next_same f h g agree = ap (λ (n : ℕ). g + 38 + n) (size_same f h g (λ k from to. agree k (omega arith) (omega arith)))

record_same : (f h : List ℕ) (g : ℕ) → Agree f h g (next_gate f g) → record_at f g ≡ record_at h g
unfolding record_at next_gate
record_same f h g agree =
    let size = size_same f h g (λ k from to. agree k (omega arith) (omega arith)) in
    let kind : byte f (g + 1) ≡ byte h (g + 1) = agree (g + 1) (omega arith) (omega arith) in
    let payload : slice f (g + 6) (size_at f g) ≡ slice h (g + 6) (size_at h g) =
    slice_same f h (g + 6) (size_at f g) (λ k from to. agree k (omega arith) (omega arith)) ∙ ap (λ (n : ℕ). slice h (g + 6) n) size in
    cc

computed_same : (f h : List ℕ) (g : ℕ) → Agree f h g (next_gate f g) → computed_digest f g ≡ computed_digest h g
unfolding computed_digest next_gate
computed_same f h g agree =
    let size = size_same f h g (λ k from to. agree k (omega arith) (omega arith)) in
    ap sha256 (slice_same f h (g + 1) (5 + size_at f g) (λ k from to. agree k (omega arith) (omega arith)) ∙ ap (λ (n : ℕ). slice h (g + 1) (5 + n)) size)

kept_same : (f h : List ℕ) (g : ℕ) → Agree f h g (next_gate f g) → kept_digest f g ≡ kept_digest h g
unfolding kept_digest next_gate
kept_same f h g agree =
    let size = size_same f h g (λ k from to. agree k (omega arith) (omega arith)) in
    slice_same f h (g + 6 + size_at f g) 32 (λ k from to. agree k (omega arith) (omega arith)) ∙ ap (λ (n : ℕ). slice h (g + 6 + n) 32) size

pub here_same : (f h : List ℕ) (g : ℕ) (r : Record) → Agree f h g (next_gate f g) → IsRecordAt f g r → IsRecordAt h g r
here_same f h g r agree at = record {
  is_open = sym (agree g (omega arith) (omega (arith, next_later f g))) ∙ at.is_open;
  is = at.is ∙ record_same f h g agree;
  right = sym (computed_same f h g agree) ∙ at.right ∙ kept_same f h g agree;
}

pub reads_same : (f h : List ℕ) (g : ℕ) (rs : List Record) (last : ℕ) → Agree f h g last → Reads f g rs last → Reads h g rs last
reads_same f h g [] last agree reads = reads
reads_same f h g (r ∷ rs) last agree reads =
    let later = reads_later f (next_gate f g) rs last reads.1 in
    let same : next_gate f g ≡ next_gate h g = next_same f h g (λ k from to. agree k from (omega (arith, next_later f g))) in (
      here_same f h g r (λ k from to. agree k from (omega arith)) reads.0,
      subst (λ (n : ℕ). Reads h n rs last) same (reads_same f h (next_gate f g) rs last (λ k from to. agree k (omega (arith, next_later f g)) to) reads.1),
    )

-- one more at the end
pub reads_push : (f : List ℕ) (g : ℕ) (rs : List Record) (last : ℕ) (r : Record) → Reads f g rs last → IsRecordAt f last r → Reads f g (rs ++ r ∷ []) (next_gate f last)
reads_push f g [] last r reads at = subst (λ (n : ℕ). IsRecordAt f n r × (next_gate f n ≡ next_gate f last)) (sym reads) (at, refl)
reads_push f g (s ∷ rs) last r reads at = (reads.0, reads_push f (next_gate f g) rs last r reads.1 at)

-- two readings that end at closed gates are one
pub record One (rs rs' : List Record) (last last' : ℕ) : Type 0 where
  pub records : rs ≡ rs'
  pub place : last ≡ last'

pub reads_unique : (f : List ℕ) (g : ℕ) (rs rs' : List Record) (last last' : ℕ) → Reads f g rs last → Reads f g rs' last' → byte f last ≢ 1 → byte f last' ≢ 1 → One rs rs' last last'
reads_unique f g [] [] last last' a b shut shut' = record { records = refl; place = sym a ∙ b }
reads_unique f g [] (r ∷ rs) last last' a b shut shut' = absurd (shut (ap (λ (n : ℕ). byte f n) (sym a) ∙ b.0.is_open))
reads_unique f g (r ∷ rs) [] last last' a b shut shut' = absurd (shut' (ap (λ (n : ℕ). byte f n) (sym b) ∙ a.0.is_open))
reads_unique f g (r ∷ rs) (s ∷ ss) last last' a b shut shut' =
    let rest = reads_unique f (next_gate f g) rs ss last last' a.1 b.1 shut shut' in
    let same : r ≡ s = a.0.is ∙ sym b.0.is in
    let tail = rest.records in
    record { records = cc; place = rest.place }

-- a reading that ends at an open gate is the beginning of one that goes on from it
pub reads_split : (f : List ℕ) (g : ℕ) (rs rs' : List Record) (last last' : ℕ) → Reads f g rs last → Reads f g rs' last' → byte f last ≡ 1 → byte f last' ≢ 1
    → (more : List Record) × (rs' ≡ rs ++ more) × Reads f last more last'
reads_split f g [] rs' last last' a b is_open shut = (rs', refl, subst (λ (n : ℕ). Reads f n rs' last') a b)
reads_split f g (r ∷ rs) [] last last' a b is_open shut = absurd (shut (ap (λ (n : ℕ). byte f n) (sym b) ∙ a.0.is_open))
reads_split f g (r ∷ rs) (s ∷ ss) last last' a b is_open shut =
    let rest = reads_split f (next_gate f g) rs ss last last' a.1 b.1 is_open shut in
    let same : s ≡ r = b.0.is ∙ sym a.0.is in
    let tail : ss ≡ rs ++ rest.0 = rest.1 in
    let whole : s ∷ ss ≡ r ∷ (rs ++ rest.0) = cc in
    (rest.0, whole, rest.2)

-- a body that stands after an open gate is a record, and its last byte is the next gate
pub record Stands (f : List ℕ) (g next : ℕ) (r : Record) : Type 0 where
  pub here : byte f g ≡ 1 → IsRecordAt f g r
  pub gate : next_gate f g ≡ g + 38 + length r.payload
  pub then : byte f (g + 38 + length r.payload) ≡ next

pub body_there : (f : List ℕ) (g next : ℕ) (r : Record) → IsSound r → slice f (g + 1) (38 + length r.payload) ≡ body next r → Stands f g next r
unfolding body size_at record_at computed_digest kept_digest next_gate
body_there f g next r sound is = record {
  here = λ open_gate. record { is_open = open_gate; is = record_is; right = ap sha256 (ap (λ (m : ℕ). slice f (g + 1) (5 + m)) size ∙ heads) ∙ sym digest };
  gate = ap (λ (m : ℕ). g + 38 + m) size;
  then = last;
}
  where
    n : ℕ
    n = length r.payload

    whole : slice f (g + 1) ((5 + n) + 33) ≡ head r ++ (sha256 (head r) ++ next ∷ [])
    whole = let e : 38 + n ≡ (5 + n) + 33 = omega arith in ap (λ (m : ℕ). slice f (g + 1) m) (sym e) ∙ is ∙ append_assoc (head r) (sha256 (head r)) (next ∷ [])

    heads : slice f (g + 1) (5 + n) ≡ head r
    heads = slice_front f (g + 1) (5 + n) 33 (head r) (sha256 (head r) ++ next ∷ []) (length-head r) whole

    tails : slice f (g + 1 + (5 + n)) (32 + 1) ≡ sha256 (head r) ++ next ∷ []
    tails = slice_back f (g + 1) (5 + n) 33 (head r) (sha256 (head r) ++ next ∷ []) (length-head r) whole

    kind_and_length : slice f (g + 1) (5 + n) ≡ (r.kind ∷ []) ++ (to_be_bytes w32 n ++ r.payload)
    kind_and_length = heads ∙ append_assoc (r.kind ∷ []) (to_be_bytes w32 n) r.payload

    kind : byte f (g + 1) ≡ r.kind
    kind = let e : g + 1 + 0 ≡ g + 1 = omega arith in ap (λ (m : ℕ). byte f m) (sym e) ∙ slice_byte f (g + 1) (5 + n) (head r) 0 heads (omega arith)

    rest : slice f (g + 2) (4 + n) ≡ to_be_bytes w32 n ++ r.payload
    rest =
        let e : 5 + n ≡ 1 + (4 + n) = omega arith in
        let at : g + 1 + 1 ≡ g + 2 = omega arith in
        ap (λ (m : ℕ). slice f m (4 + n)) (sym at) ∙ slice_back f (g + 1) 1 (4 + n) (r.kind ∷ []) (to_be_bytes w32 n ++ r.payload) refl (ap (λ (m : ℕ). slice f (g + 1) m) (sym e) ∙ kind_and_length)

    count : slice f (g + 2) 4 ≡ to_be_bytes w32 n
    count = slice_front f (g + 2) 4 n (to_be_bytes w32 n) r.payload refl rest

    payload : slice f (g + 6) n ≡ r.payload
    payload = let at : g + 2 + 4 ≡ g + 6 = omega arith in ap (λ (m : ℕ). slice f m n) (sym at) ∙ slice_back f (g + 2) 4 n (to_be_bytes w32 n) r.payload refl rest

    number : from_be_bytes w32 (slice f (g + 2) 4) ≡ n
    number = ap (from_be_bytes w32) count ∙ from_be_bytes-to_be_bytes_4 n (omega (arith, sound))

    size : cond (nat_le (from_be_bytes w32 (slice f (g + 2) 4)) most_payload) (from_be_bytes w32 (slice f (g + 2) 4)) 0 ≡ n
    size = ap (λ (m : ℕ). cond (nat_le m most_payload) m 0) number ∙ kept
      where
        kept : cond (nat_le n most_payload) n 0 ≡ n
        kept = grind (arith, nat_tests)

    record_is : r ≡ record { kind = byte f (g + 1); payload = slice f (g + 6) (cond (nat_le (from_be_bytes w32 (slice f (g + 2) 4)) most_payload) (from_be_bytes w32 (slice f (g + 2) 4)) 0) }
    record_is =
        let bytes = ap (λ (m : ℕ). slice f (g + 6) m) size ∙ payload in
        let of_kind = subst (λ (k : ℕ). let s : Record = record { kind = k; payload = r.payload } in r ≡ s) (sym kind) refl in
        subst (λ (l : List ℕ). let s : Record = record { kind = byte f (g + 1); payload = l } in r ≡ s) (sym bytes) of_kind

    digest : slice f (g + 6 + cond (nat_le (from_be_bytes w32 (slice f (g + 2) 4)) most_payload) (from_be_bytes w32 (slice f (g + 2) 4)) 0) 32 ≡ sha256 (head r)
    digest =
        let at : g + 6 + n ≡ g + 1 + (5 + n) = omega arith in
        ap (λ (m : ℕ). slice f (g + 6 + m) 32) size ∙ ap (λ (m : ℕ). slice f m 32) at ∙ slice_front f (g + 1 + (5 + n)) 32 1 (sha256 (head r)) (next ∷ []) (length-sha256 (head r)) tails

    last : byte f (g + 38 + n) ≡ next
    last =
        let at : g + 38 + n ≡ g + 1 + (5 + n) + 32 + 0 = omega arith in
        ap (λ (m : ℕ). byte f m) at
        ∙ slice_byte f (g + 1 + (5 + n) + 32) 1 (next ∷ []) 0 (slice_back f (g + 1 + (5 + n)) 32 1 (sha256 (head r)) (next ∷ []) (length-sha256 (head r)) tails) (omega arith)
