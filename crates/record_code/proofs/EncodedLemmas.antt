-- Records put together one after the other are read from their bytes.
use Rattle.std.proofs.Common.{◌≡◌, ◌≤◌, ◌<◌, ℕ, zero, suc, ◌+◌, ◌-◌, ◌==◌, cond, Bool, true, false, List, [], ◌∷◌, ◌++◌, length, take, drop, get_or, refl, sym, ◌∙◌, ap, subst, arith, append_assoc, length-append}
use Rattle.std.specs.List.{All}
use Rattle.std.specs.Int.{w32, to_be_bytes, from_be_bytes}
use Rattle.std.proofs.lemmas.List.{take_all, take_at, drop_at, get_or-append_right}
use Rattle.std.proofs.lemmas.List.Elements.{All-append}
use Rattle.std.proofs.lemmas.Nat.{from_be_bytes-to_be_bytes_4}
use Rattle.sha2.specs.Sha256.{sha256}
use Rattle.sha2.proofs.Facts256.{length-sha256}
use Rattle.record_code.specs.Record.{Record, IsSound, head, body, bodies, gated, stated_size, first_in, records_in, records_behind, IsGated}
use Rattle.record_code.proofs.ReadingLemmas.{length-head, length-body}

-- what begins with a body
module _ (next : ℕ) (r : Record) (sound : IsSound r) (rest : List ℕ) where
  number : List ℕ
  number = to_be_bytes w32 (length r.payload)

  behind : List ℕ
  behind = sha256 (head r) ++ next ∷ []

  abbrev whole : List ℕ
  whole = body next r ++ rest

  -- the kind, the number, and what stands after them
  parts : whole ≡ r.kind ∷ (number ++ (r.payload ++ (behind ++ rest)))
  unfolding body number behind
  parts =
      ap (λ (l : List ℕ). l ++ rest) (append_assoc (head r) (sha256 (head r)) (next ∷ []))
      ∙ append_assoc (head r) (sha256 (head r) ++ next ∷ []) rest
      ∙ append_assoc ((r.kind ∷ []) ++ to_be_bytes w32 (length r.payload)) r.payload ((sha256 (head r) ++ next ∷ []) ++ rest)
      ∙ append_assoc (r.kind ∷ []) (to_be_bytes w32 (length r.payload)) (r.payload ++ ((sha256 (head r) ++ next ∷ []) ++ rest))

  pub size_is : stated_size whole ≡ length r.payload
  unfolding number
  size_is =
      ap (λ (l : List ℕ). from_be_bytes w32 (take 4 (drop 1 l))) parts
      ∙ ap (from_be_bytes w32) (take_at number (r.payload ++ (behind ++ rest)) 4 refl)
      ∙ from_be_bytes-to_be_bytes_4 (length r.payload) (omega (arith, sound))

  from_payload : drop 5 whole ≡ r.payload ++ (behind ++ rest)
  unfolding number
  from_payload =
      ap (λ (l : List ℕ). drop 5 l) parts ∙ drop_at ((r.kind ∷ []) ++ number) (r.payload ++ (behind ++ rest)) 5 refl

  pub first_is : first_in whole ≡ r
  first_is =
      let kind : get_or whole 0 0 ≡ r.kind = ap (λ (l : List ℕ). get_or l 0 0) parts in
      let payload : take (stated_size whole) (drop 5 whole) ≡ r.payload =
      ap (λ (n : ℕ). take n (drop 5 whole)) size_is ∙ ap (λ (l : List ℕ). take (length r.payload) l) from_payload ∙ take_at r.payload (behind ++ rest) (length r.payload) refl in
      ap (λ (k : ℕ). let s : Record = record { kind = k; payload = take (stated_size whole) (drop 5 whole) } in s) kind
      ∙ ap (λ (l : List ℕ). let s : Record = record { kind = r.kind; payload = l } in s) payload

  pub gate_is : get_or whole (37 + stated_size whole) 0 ≡ next
  unfolding body
  gate_is =
      let front : List ℕ = head r ++ sha256 (head r) in
      let size : length front ≡ 37 + length r.payload = omega (arith, length-append (head r) (sha256 (head r)), length-head r, length-sha256 (head r)) in
      let back : 37 + length r.payload - (37 + length r.payload) ≡ 0 = omega arith in
      ap (λ (n : ℕ). get_or whole (37 + n) 0) size_is
      ∙ ap (λ (l : List ℕ). get_or l (37 + length r.payload) 0) (append_assoc front (next ∷ []) rest)
      ∙ get_or-append_right front ((next ∷ []) ++ rest) (37 + length r.payload) (37 + length r.payload) 0 size (omega arith)
      ∙ ap (λ (n : ℕ). get_or ((next ∷ []) ++ rest) n 0) back

  pub rest_is : drop (38 + stated_size whole) whole ≡ rest
  rest_is = ap (λ (n : ℕ). drop (38 + n) whole) size_is ∙ drop_at (body next r) rest (38 + length r.payload) (length-body next r)

-- reading is writing the other way round
pub records_in-bodies : (n : ℕ) (r : Record) (rs : List Record) → All IsSound (r ∷ rs) → length (r ∷ rs) ≤ n → records_in n (bodies (r ∷ rs)) ≡ r ∷ rs
unfolding records_in
records_in-bodies zero r rs sound fits = absurd (omega (arith, fits))
records_in-bodies (suc n) r [] sound fits =
    let one = sound 0 r (omega arith) in
    let none : body 0 r ++ [] ≡ body 0 r = Rattle.std.proofs.lemmas.List.append-nil (body 0 r) in
    subst (λ (l : List ℕ). records_in (suc n) l ≡ r ∷ []) none
    (let gate = gate_is 0 r one [] in
    let first = first_is 0 r one [] in
    let shut : (get_or (body 0 r ++ []) (37 + stated_size (body 0 r ++ [])) 0 == 1) ≡ false = ap (λ (g : ℕ). g == 1) gate in
    ap (λ (b : Bool). first_in (body 0 r ++ []) ∷ cond b (records_in n (drop (38 + stated_size (body 0 r ++ [])) (body 0 r ++ []))) []) shut
    ∙ ap (λ (s : Record). s ∷ []) first)
records_in-bodies (suc n) r (s ∷ rs) sound fits =
    let one = sound 0 r (omega arith) in
    let rest : List ℕ = bodies (s ∷ rs) in
    let opened : (get_or (body 1 r ++ rest) (37 + stated_size (body 1 r ++ rest)) 0 == 1) ≡ true = ap (λ (g : ℕ). g == 1) (gate_is 1 r one rest) in
    ap (λ (b : Bool). first_in (body 1 r ++ rest) ∷ cond b (records_in n (drop (38 + stated_size (body 1 r ++ rest)) (body 1 r ++ rest))) []) opened
    ∙ ap (λ (t : Record). t ∷ records_in n (drop (38 + stated_size (body 1 r ++ rest)) (body 1 r ++ rest))) (first_is 1 r one rest)
    ∙ ap (λ (l : List ℕ). r ∷ records_in n l) (rest_is 1 r one rest)
    ∙ ap (λ (l : List Record). r ∷ l) (records_in-bodies n s rs (λ k d lt. sound (suc k) d (omega (arith, lt))) (omega (arith, fits)))

-- there are no more records than bytes
fewer : (rs : List Record) → length rs ≤ length (bodies rs)
fewer [] = omega arith
fewer (r ∷ []) = omega (arith, length-body 0 r)
fewer (r ∷ (s ∷ rs)) = omega (arith, length-append (body 1 r) (bodies (s ∷ rs)), length-body 1 r, fewer (s ∷ rs))

-- the records of bytes that were put together
pub behind_is : (bytes : List ℕ) (rs : List Record) → All IsSound rs → 0 < length rs → bytes ≡ gated (bodies rs) → records_behind bytes ≡ rs
behind_is bytes [] sound some is = absurd (omega (arith, some))
behind_is bytes (r ∷ rs) sound some is =
    ap (λ (l : List ℕ). records_behind l) is ∙ records_in-bodies (length (gated (bodies (r ∷ rs)))) r rs sound (omega (arith, fewer (r ∷ rs)))

pub gated_is : (bytes : List ℕ) (rs : List Record) → All IsSound rs → 0 < length rs → bytes ≡ gated (bodies rs) → IsGated bytes
gated_is bytes rs sound some is =
    let same = sym (behind_is bytes rs sound some is) in
    record {
      is = is ∙ ap (λ (l : List Record). gated (bodies l)) same;
      sound = subst (λ (l : List Record). All IsSound l) same sound;
      some = subst (λ (l : List Record). 0 < length l) same some;
    }

-- one record
pub one_sound : (r : Record) → IsSound r → All IsSound (r ∷ [])
one_sound r sound = grind arith

-- and one more after others
pub record Grows (rs : List Record) (r : Record) : Type 0 where
  pub front : List ℕ
  pub now : bodies rs ≡ front ++ 0 ∷ []
  pub then : bodies (rs ++ r ∷ []) ≡ (front ++ 1 ∷ []) ++ body 0 r

pub grows : (rs : List Record) (r : Record) → 0 < length rs → Grows rs r
unfolding body
grows [] r some = absurd (omega (arith, some))
grows (s ∷ []) r some = record { front = head s ++ sha256 (head s); now = refl; then = refl }
grows (s ∷ (t ∷ rs)) r some =
    let rest = grows (t ∷ rs) r (omega arith) in
    record {
      front = body 1 s ++ rest.front;
      now = ap (λ (l : List ℕ). body 1 s ++ l) rest.now ∙ sym (append_assoc (body 1 s) rest.front (0 ∷ []));
      then = ap (λ (l : List ℕ). body 1 s ++ l) rest.then ∙ sym (append_assoc (body 1 s) (rest.front ++ 1 ∷ []) (body 0 r)) ∙ ap (λ (l : List ℕ). l ++ body 0 r) (sym (append_assoc (body 1 s) rest.front (1 ∷ [])));
    }

-- all after the front
from_behind : (l front back : List ℕ) → l ≡ front ++ back → take (length l - length front) (drop (length front) l) ≡ back
from_behind l front back is =
    let rest : drop (length front) l ≡ back = ap (λ (k : List ℕ). drop (length front) k) is ∙ drop_at front back (length front) refl in
    ap (λ (k : List ℕ). take (length l - length front) k) rest ∙ take_all (length l - length front) back (omega (arith, ap length is, length-append front back))

-- a body that was put together piece by piece after what stood there
pub pieces : (r : Record) (l0 l1 l2 l3 l4 l5 number payload digest read : List ℕ) (size : ℕ) → l1 ≡ l0 ++ r.kind ∷ []
    → number ≡ to_be_bytes w32 (length r.payload) → l2 ≡ l1 ++ number → payload ≡ r.payload → l3 ≡ l2 ++ payload
    → size ≡ length l0 → read ≡ l3 → digest ≡ sha256 (take (length read - size) (drop size read)) → l4 ≡ l3 ++ digest → l5 ≡ l4 ++ 0 ∷ [] → l5 ≡ l0 ++ body 0 r
unfolding body
pieces r l0 l1 l2 l3 l4 l5 number payload digest read size a1 number_is a2 payload_is a3 size_is read_is digest_is a4 a5 =
    let front : List ℕ = (r.kind ∷ []) ++ to_be_bytes w32 (length r.payload) in
    let e2 : l2 ≡ l0 ++ front = a2 ∙ ap (λ (l : List ℕ). l ++ number) a1 ∙ append_assoc l0 (r.kind ∷ []) number ∙ ap (λ (l : List ℕ). l0 ++ ((r.kind ∷ []) ++ l)) number_is in
    let e3 : l3 ≡ l0 ++ head r = a3 ∙ ap (λ (l : List ℕ). l ++ payload) e2 ∙ append_assoc l0 front payload ∙ ap (λ (l : List ℕ). l0 ++ (front ++ l)) payload_is in
    let behind_front : take (length read - size) (drop size read) ≡ head r =
    ap (λ (l : List ℕ). take (length l - size) (drop size l)) read_is ∙ ap (λ (n : ℕ). take (length l3 - n) (drop n l3)) size_is ∙ from_behind l3 l0 (head r) e3 in
    let e4 : l4 ≡ l0 ++ (head r ++ sha256 (head r)) = a4 ∙ ap (λ (l : List ℕ). l ++ digest) e3 ∙ append_assoc l0 (head r) digest ∙ ap (λ (l : List ℕ). l0 ++ (head r ++ l)) (digest_is ∙ ap sha256 behind_front) in
    a5 ∙ ap (λ (l : List ℕ). l ++ 0 ∷ []) e4 ∙ append_assoc l0 (head r ++ sha256 (head r)) (0 ∷ [])

-- the first record after its gate
pub first_made : (r : Record) (l0 l1 l2 payload : List ℕ) → l0 ≡ [] → l1 ≡ l0 ++ 1 ∷ [] → payload ≡ r.payload
    → (let s : Record = record { kind = r.kind; payload = payload } in l2 ≡ l1 ++ body 0 s) → l2 ≡ gated (bodies (r ∷ []))
first_made r l0 l1 l2 payload a0 a1 is a2 =
    a2 ∙ ap (λ (l : List ℕ). l1 ++ body 0 (let s : Record = record { kind = r.kind; payload = l } in s)) is
    ∙ ap (λ (l : List ℕ). l ++ body 0 r) (a1 ∙ ap (λ (l : List ℕ). l ++ 1 ∷ []) a0)

-- and a record after others, whose last gate was opened
pub next_made : (rs : List Record) (r : Record) (l0 l1 l2 l3 payload : List ℕ) → 0 < length rs → l0 ≡ gated (bodies rs) → l1 ≡ take (length l0 - 1) l0 → l2 ≡ l1 ++ 1 ∷ [] → payload ≡ r.payload
    → (let s : Record = record { kind = r.kind; payload = payload } in l3 ≡ l2 ++ body 0 s) → l3 ≡ gated (bodies (rs ++ r ∷ []))
next_made rs r l0 l1 l2 l3 payload some a0 a1 a2 is a3 =
    let more = grows rs r some in
    let front : List ℕ = 1 ∷ more.front in
    let now : l0 ≡ front ++ 0 ∷ [] = a0 ∙ ap (λ (l : List ℕ). 1 ∷ l) more.now in
    let size : length l0 - 1 ≡ length front = omega (arith, ap length now, length-append front (0 ∷ [])) in
    let e1 : l1 ≡ front = a1 ∙ ap (λ (n : ℕ). take n l0) size ∙ ap (λ (l : List ℕ). take (length front) l) now ∙ take_at front (0 ∷ []) (length front) refl in
    a3 ∙ ap (λ (l : List ℕ). l2 ++ body 0 (let s : Record = record { kind = r.kind; payload = l } in s)) is
    ∙ ap (λ (l : List ℕ). l ++ body 0 r) (a2 ∙ ap (λ (l : List ℕ). l ++ 1 ∷ []) e1)
    ∙ ap (λ (l : List ℕ). 1 ∷ l) (sym more.then)

-- one more is sound
pub push_sound : (rs : List Record) (r : Record) → All IsSound rs → IsSound r → All IsSound (rs ++ r ∷ [])
push_sound rs r all one = All-append IsSound rs (r ∷ []) all (one_sound r one)
