-- Steps of a line reader, over plain lists and feeds.
use Rattle.std.proofs.Common.{◌≡◌, ◌≢◌, ◌<◌, ◌≤◌, ◌+◌, ◌-◌, max, ℕ, zero, suc, List, [], ◌∷◌}
use Rattle.std.proofs.Common.{◌++◌, take, drop, length, get_or, Option, refl, ap, sym, ◌∙◌}
use Rattle.std.proofs.Common.{subst, arith, length-append}
use Rattle.std.proofs.lemmas.List.{take_all, take-append-le, drop_more}
use Rattle.std.proofs.lemmas.List.Elements.{All-push}
use Rattle.io_edge.specs.declared.lines.Taken.{Taken}
use Rattle.io_edge.specs.declared.lines.Taken.TheVariants.{Byte, Stop as stop_of}
use Rattle.io_edge.specs.declared.lines.Stop.TheVariants.{Lf, End, Full, Failed}
use Rattle.io_edge.specs.declared.lines.TheConstants.{KEPT}
use Rattle.io_edge.specs.Ends.{onto}
use Rattle.io_edge.specs.Feed.{LinesView, feed_of}
use Rattle.io_edge.specs.Reader.{TakesByte, Takes, IsTakenAs, Gathered}
use Rattle.io_edge.proofs.EndLemmas.{onto-onto}

-- a byte is put after fewer than are kept
pub kept_more : (n : ℕ) (xs : List ℕ) (x : ℕ) → length xs < n → xs ++ x ∷ [] ≡ take n (xs ++ x ∷ [])
kept_more n xs x few =
    let e : length (xs ++ x ∷ []) ≡ length xs + length (x ∷ []) = length-append xs (x ∷ []) in
    let l : length (xs ++ x ∷ []) ≤ n = omega arith in
    sym (take_all n (xs ++ x ∷ []) l)

-- a byte more than are kept is dropped
pub kept_same : (n : ℕ) (xs : List ℕ) (x : ℕ) → length xs ≤ n → n ≤ length xs → xs ≡ take n (xs ++ x ∷ [])
kept_same n xs x most least = sym (take-append-le n xs (x ∷ []) least ∙ take_all n xs most)

-- the first n of the first n and more
pub take-take-append : (n : ℕ) (xs ys : List ℕ) → take n (take n xs ++ ys) ≡ take n (xs ++ ys)
take-take-append zero xs ys = refl
take-take-append (suc n) [] ys = refl
take-take-append (suc n) (x ∷ xs) ys = ap (λ zs. x ∷ zs) (take-take-append n xs ys)

-- the bytes ahead are the first one and the others
pub ahead_step : (chunk : List ℕ) (from to : ℕ) → from < to → to ≤ length chunk →
    take (to - from) (drop from chunk) ≡ get_or chunk from 0 ∷ take (to - (from + 1)) (drop (from + 1) chunk)
ahead_step chunk from to some within =
    let inside : from < length chunk = omega arith in
    let e : to - from ≡ suc (to - (from + 1)) = omega arith in
    ap (take (to - from)) (drop_more chunk from 0 inside)
    ∙ ap (λ n. take n (get_or chunk from 0 ∷ drop (from + 1) chunk)) e

-- the bytes ahead and what the source has left, by the first one
pub ahead_onto : (chunk : List ℕ) (from to byte : ℕ) (left : Option (List ℕ)) → from < to → to ≤ length chunk → byte ≡ get_or chunk from 0 →
    onto (take (to - from) (drop from chunk)) left ≡ onto (byte ∷ []) (onto (take (to - (from + 1)) (drop (from + 1) chunk)) left)
ahead_onto chunk from to byte left some within is_byte =
    ap (λ xs. onto xs left) (ahead_step chunk from to some within)
    ∙ ap (λ b. onto (b ∷ take (to - (from + 1)) (drop (from + 1) chunk)) left) (sym is_byte)
    ∙ sym (onto-onto (byte ∷ []) (take (to - (from + 1)) (drop (from + 1) chunk)) left)

-- a byte that was taken, as what it is
pub takes_as : (taken : Taken) (byte : ℕ) (old now : LinesView) → IsTakenAs taken byte → TakesByte byte old now → Takes taken old now
takes_as (Byte b) byte old now is takes = (λ e. is.1 (sym is.0 ∙ e), subst (λ x. TakesByte x old now) (sym is.0) takes)
takes_as (stop_of Lf) byte old now is takes = subst (λ x. TakesByte x old now) is takes
takes_as (stop_of End) byte old now is takes = absurd is
takes_as (stop_of Full) byte old now is takes = absurd is
takes_as (stop_of Failed) byte old now is takes = absurd is

-- the byte ahead was taken, where one may still be taken
pub takes_ahead : (taken : Taken) (chunk : List ℕ) (from to room faults : ℕ) (left : Option (List ℕ)) (old : LinesView) →
    feed_of chunk from to room left faults ≡ old → 0 < old.ahead → to ≤ length chunk → to - from ≤ max room 1 → room ≢ 0 →
    IsTakenAs taken (get_or chunk from 0) → Takes taken old (feed_of chunk (from + 1) to (room - 1) left faults)
takes_ahead taken chunk from to room faults left old is_old some within ahead may is =
    let e : to - from ≡ old.ahead = ap (λ f. f.ahead) is_old in
    let inside : from < to = omega arith in
    let old_room : room ≡ old.room = ap (λ f. f.room) is_old in
    takes_as taken (get_or chunk from 0) old (feed_of chunk (from + 1) to (room - 1) left faults) is
    (record {
      bytes = sym (ap (λ f. f.left) is_old) ∙ ahead_onto chunk from to (get_or chunk from 0) left inside within refl;
      room = omega arith;
      ahead = omega arith;
    })

-- one more byte of the line
pub gathered_more : (kept more : List ℕ) (byte : ℕ) (old mid now : LinesView) → Gathered kept old mid →
    byte ≢ 10 → TakesByte byte mid now → mid.faults ≤ now.faults → more ≡ take KEPT (kept ++ byte ∷ []) →
    Gathered more old now
gathered_more kept more byte old mid now gathered no_lf takes later is_more = record {
  part = gathered.part ++ byte ∷ [];
  no_lf = All-push (λ b. b ≢ 10) gathered.part byte gathered.no_lf no_lf;
  bytes = gathered.bytes ∙ ap (onto gathered.part) takes.bytes ∙ onto-onto gathered.part (byte ∷ []) now.left;
  room =
      let e : length (gathered.part ++ byte ∷ []) ≡ length gathered.part + length (byte ∷ []) = length-append gathered.part (byte ∷ []) in
      let f : mid.room ≡ now.room + 1 = takes.room in
      let h : old.room ≡ length gathered.part + mid.room = gathered.room in
      omega arith;
  is_kept = is_more ∙ ap (λ xs. take KEPT (xs ++ byte ∷ [])) gathered.is_kept ∙ take-take-append KEPT gathered.part (byte ∷ []);
  later =
      let h : old.faults ≤ mid.faults = gathered.later in
      omega arith;
}
