-- One call more at the end of a record.
use Rattle.std.proofs.Common.{◌≡◌, ◌≤◌, ◌<◌, ℕ, ◌+◌, ◌*◌, ◌-◌, min, ◌&&◌, Bool, true, false, IsTrue, nat_lt, nat_le, List, [], ◌∷◌, ◌++◌, length, take, drop, replicate, refl, sym, ◌∙◌, ap, subst, arith, zero, suc, append_assoc, length-append, length-drop, length-take}
use Rattle.std.proofs.lemmas.List.{take_all, take_min, take-append-le, drop-append-le, append-nil, length-replicate, replicate_more}
use Rattle.std.proofs.lemmas.Bool.Decides.{nat_tests}
use Rattle.disk_model.specs.declared.kept.Kept.{Kept}
use Rattle.disk_model.specs.declared.kept.Kept.TheVariants.{Written, Missed as NotWritten, Synced}
use Rattle.disk_model.specs.Disk.{Call, Write, Missed, Sync, Refused, DiskState, step, after}
use Rattle.disk_model.specs.Memory.{written_bytes}
use Rattle.disk_model.specs.Kept.{RecordView, call_of, bytes_after, total_of, calls_of, recorded}

abbrev pub seen : List Call → ℕ → ℕ → RecordView
seen calls room limit = record { calls = calls; room = room; limit = limit }

pub length-calls_of : (kept : List Kept) (bytes : List ℕ) → length (calls_of kept bytes) ≡ length kept
length-calls_of [] bytes = refl
length-calls_of (Written at count ∷ kept) bytes = ap (λ (n : ℕ). suc n) (length-calls_of kept (drop count bytes))
length-calls_of (NotWritten at count ∷ kept) bytes = ap (λ (n : ℕ). suc n) (length-calls_of kept bytes)
length-calls_of (Synced cleared ∷ kept) bytes = ap (λ (n : ℕ). suc n) (length-calls_of kept bytes)

pub written_bytes-append : (xs ys : List Call) → written_bytes (xs ++ ys) ≡ written_bytes xs + written_bytes ys
written_bytes-append [] ys = omega arith
written_bytes-append (Write at bytes ∷ xs) ys = omega (arith, written_bytes-append xs ys)
written_bytes-append (Missed at count ∷ xs) ys = written_bytes-append xs ys
written_bytes-append (Sync cleared ∷ xs) ys = written_bytes-append xs ys
written_bytes-append (Refused ∷ xs) ys = written_bytes-append xs ys

pub written_bytes-refused : (n : ℕ) → written_bytes (replicate n Refused) ≡ 0
written_bytes-refused zero = refl
written_bytes-refused (suc n) = written_bytes-refused n

pub written_bytes-calls_of : (kept : List Kept) (bytes : List ℕ) → total_of kept ≤ length bytes → written_bytes (calls_of kept bytes) ≡ total_of kept
written_bytes-calls_of [] bytes le = refl
written_bytes-calls_of (Written at count ∷ kept) bytes le =
    omega (arith, length-take count bytes, length-drop count bytes, written_bytes-calls_of kept (drop count bytes) (omega (arith, length-drop count bytes)))
written_bytes-calls_of (Synced cleared ∷ kept) bytes le = omega (arith, written_bytes-calls_of kept bytes (omega arith))
written_bytes-calls_of (NotWritten at count ∷ kept) bytes le = omega (arith, written_bytes-calls_of kept bytes (omega arith))

pub total_of-append : (xs ys : List Kept) → total_of (xs ++ ys) ≡ total_of xs + total_of ys
total_of-append [] ys = omega arith
total_of-append (call ∷ xs) ys = omega (arith, total_of-append xs ys)

-- a record whose bytes go on, and one call more that reads those
pub calls_of-append : (xs ys : List Kept) (bytes more : List ℕ) → total_of xs ≡ length bytes
    → calls_of (xs ++ ys) (bytes ++ more) ≡ calls_of xs bytes ++ calls_of ys more
calls_of-append [] ys [] more total = refl
calls_of-append [] ys (b ∷ bytes) more total = absurd (omega arith)
calls_of-append (Written at count ∷ xs) ys bytes more total =
    let le : count ≤ length bytes = omega arith in
    let rest : total_of xs ≡ length (drop count bytes) = omega (arith, length-drop count bytes) in
    let head : take count (bytes ++ more) ≡ take count bytes = take-append-le count bytes more le in
    let tail : drop count (bytes ++ more) ≡ drop count bytes ++ more = drop-append-le count bytes more le in
    ap (λ (l : List ℕ). Write at l ∷ calls_of (xs ++ ys) (drop count (bytes ++ more))) head
    ∙ ap (λ (l : List ℕ). Write at (take count bytes) ∷ calls_of (xs ++ ys) l) tail
    ∙ ap (λ (l : List Call). Write at (take count bytes) ∷ l) (calls_of-append xs ys (drop count bytes) more rest)
calls_of-append (Synced cleared ∷ xs) ys bytes more total = ap (λ (l : List Call). Sync cleared ∷ l) (calls_of-append xs ys bytes more (omega arith))
calls_of-append (NotWritten at count ∷ xs) ys bytes more total = ap (λ (l : List Call). Missed at count ∷ l) (calls_of-append xs ys bytes more (omega arith))

pub length-recorded : (kept : List Kept) (bytes : List ℕ) (refused : ℕ) → length (recorded kept bytes refused) ≡ length kept + refused
unfolding recorded
length-recorded kept bytes refused =
    omega (arith, length-append (calls_of kept bytes) (replicate refused Refused), length-calls_of kept bytes, length-replicate refused Refused)

pub written_bytes-recorded : (kept : List Kept) (bytes : List ℕ) (refused : ℕ) → total_of kept ≡ length bytes → written_bytes (recorded kept bytes refused) ≡ length bytes
unfolding recorded
written_bytes-recorded kept bytes refused total =
    omega (arith, written_bytes-append (calls_of kept bytes) (replicate refused Refused), written_bytes-calls_of kept bytes (omega arith), written_bytes-refused refused)

pub recorded_none : (kept : List Kept) (bytes : List ℕ) (refused : ℕ) → refused ≡ 0 → recorded kept bytes refused ≡ calls_of kept bytes
unfolding recorded
recorded_none kept bytes refused none = ap (λ (n : ℕ). calls_of kept bytes ++ replicate n Refused) none ∙ append-nil (calls_of kept bytes)

pub recorded_write : (kept : List Kept) (bytes : List ℕ) (refused : ℕ) (at : ℕ) (piece : List ℕ) (count : ℕ)
    → total_of kept ≡ length bytes → refused ≡ 0 → count ≡ length piece
    → recorded (kept ++ Written at count ∷ []) (bytes ++ piece) refused ≡ recorded kept bytes refused ++ Write at piece ∷ []
recorded_write kept bytes refused at piece count total none is =
    recorded_none (kept ++ Written at count ∷ []) (bytes ++ piece) refused none
    ∙ calls_of-append kept (Written at count ∷ []) bytes piece total
    ∙ ap (λ (l : List ℕ). calls_of kept bytes ++ Write at l ∷ []) (take_all count piece (omega arith))
    ∙ sym (ap (λ (l : List Call). l ++ Write at piece ∷ []) (recorded_none kept bytes refused none))

same_bytes : (kept ys : List Kept) (bytes : List ℕ) → total_of kept ≡ length bytes → calls_of (kept ++ ys) bytes ≡ calls_of kept bytes ++ calls_of ys []
same_bytes kept ys bytes total =
    ap (λ (l : List ℕ). calls_of (kept ++ ys) l) (sym (append-nil bytes)) ∙ calls_of-append kept ys bytes [] total

pub recorded_call : (kept : List Kept) (bytes : List ℕ) (refused : ℕ) (call : Kept) → total_of kept ≡ length bytes → refused ≡ 0
    → recorded (kept ++ call ∷ []) bytes refused ≡ recorded kept bytes refused ++ call_of call [] ∷ []
recorded_call kept bytes refused call total none =
    recorded_none (kept ++ call ∷ []) bytes refused none
    ∙ same_bytes kept (call ∷ []) bytes total
    ∙ sym (ap (λ (l : List Call). l ++ call_of call [] ∷ []) (recorded_none kept bytes refused none))

pub recorded_more : (kept : List Kept) (bytes : List ℕ) (refused : ℕ) → recorded kept bytes (refused + 1) ≡ recorded kept bytes refused ++ Refused ∷ []
unfolding recorded
recorded_more kept bytes refused =
    ap (λ (l : List Call). calls_of kept bytes ++ l) (sym (replicate_more refused Refused)) ∙ sym (append_assoc (calls_of kept bytes) (replicate refused Refused) (Refused ∷ []))

-- whether there is room for a call, by what is kept
pub keeps_call_is : (kept refused limit all limit' : ℕ) → all ≡ kept + refused → limit ≡ limit' → (0 < refused → 2 * limit ≤ kept) → nat_lt kept limit ≡ nat_lt all limit'
keeps_call_is kept refused limit all limit' is same full = grind (arith, nat_tests)

-- where one call more may be done, all are kept with their places
pub none_refused : (kept refused limit all limit' : ℕ) → all ≡ kept + refused → limit ≡ limit' → (0 < refused → 2 * limit ≤ kept) → IsTrue (nat_lt all limit') → (refused ≡ 0) × (kept < limit)
none_refused kept refused limit all limit' is same full room = (grind (arith, nat_tests), grind (arith, nat_tests))

pub keeps_write_is : (count room written all room' : ℕ) → written ≤ room → all ≡ written → room ≡ room' → nat_le count (room - written) ≡ nat_le (all + count) room'
keeps_write_is count room written all room' within is same = grind (arith, nat_tests)

pub both_true : (a b : Bool) → IsTrue (a && b) → IsTrue a × IsTrue b
both_true true b both = (refl, both)
both_true false b both = absurd (cc)

-- a write for which there is room
pub write_fits : (count room written all room' : ℕ) → all ≡ written → room ≡ room' → IsTrue (nat_le (all + count) room') → written + count ≤ room
write_fits count room written all room' is same fits = let le : all + count ≤ room' = grind (arith, nat_tests) in omega arith

-- what is seen of a record with more calls
pub viewed : (old : RecordView) (calls calls' more : List Call) (room limit : ℕ) → seen calls room limit ≡ old → calls' ≡ calls ++ more
    → seen calls' room limit ≡ seen (old.calls ++ more) old.room old.limit
viewed old calls calls' more room limit is longer =
    subst (λ (v : RecordView). seen calls' room limit ≡ seen (v.calls ++ more) v.room v.limit) is (ap (λ (l : List Call). seen l room limit) longer)

-- below the record's room all are kept with their places
pub none_past : (kept refused room : ℕ) → (0 < refused → room ≤ kept) → kept < room → refused ≡ 0
none_past kept refused room full lt = grind arith

-- whether the record has room for a call, by what is kept
pub has_place : (kept refused limit all limit' : ℕ) → all ≡ kept + refused → limit ≡ limit' → kept < 2 * limit → refused ≡ 0 → IsTrue (nat_lt all (2 * limit'))
has_place kept refused limit all limit' is same lt none = grind (arith, nat_tests)

pub no_place : (kept refused limit all limit' : ℕ) → all ≡ kept + refused → limit ≡ limit' → 2 * limit ≤ kept → nat_lt all (2 * limit') ≡ false
no_place kept refused limit all limit' is same full = grind (arith, nat_tests)

pub total_of-take : (n : ℕ) (kept : List Kept) → total_of (take n kept) ≤ total_of kept
total_of-take zero kept = omega arith
total_of-take (suc n) [] = omega arith
total_of-take (suc n) (call ∷ kept) = omega (arith, total_of-take n kept)

pub calls_of-take : (n : ℕ) (kept : List Kept) (bytes : List ℕ) → calls_of (take n kept) bytes ≡ take n (calls_of kept bytes)
calls_of-take zero kept bytes = refl
calls_of-take (suc n) [] bytes = refl
calls_of-take (suc n) (call ∷ kept) bytes = ap (λ (l : List Call). call_of call bytes ∷ l) (calls_of-take n kept (bytes_after call bytes))

-- calls that were refused change no state
after_refused : (s : DiskState) (n r : ℕ) → after s (take n (replicate r Refused)) ≡ s
after_refused s zero r = refl
after_refused s (suc n) zero = refl
after_refused s (suc n) (suc r) = after_refused s n r

after_take : (s : DiskState) (n : ℕ) (calls : List Call) (r : ℕ) → after s (take n (calls ++ replicate r Refused)) ≡ after s (take n calls)
after_take s zero calls r = refl
after_take s (suc n) [] r = after_refused s (suc n) r
after_take s (suc n) (call ∷ calls) r = after_take (step s call) n calls r

pub after_recorded : (s : DiskState) (n : ℕ) (kept : List Kept) (bytes : List ℕ) (refused : ℕ)
    → after s (calls_of (take (min n (length kept)) kept) bytes) ≡ after s (take n (recorded kept bytes refused))
unfolding recorded
after_recorded s n kept bytes refused =
    ap (λ (l : List Call). after s l) (calls_of-take (min n (length kept)) kept bytes)
    ∙ ap (λ (m : ℕ). after s (take (min n m) (calls_of kept bytes))) (sym (length-calls_of kept bytes))
    ∙ ap (λ (l : List Call). after s l) (take_min n (calls_of kept bytes))
    ∙ sym (after_take s n (calls_of kept bytes) refused)
