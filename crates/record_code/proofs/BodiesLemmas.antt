-- Records that stand one after another in a file, with open gates between them.
use Rattle.std.proofs.Common.{◌≡◌, ℕ, suc, ◌+◌, List, [], ◌∷◌, ◌++◌, length, sym, ◌∙◌, ap, subst, arith, length-append}
use Rattle.std.specs.List.{All}
use Rattle.record_code.specs.Record.{Record, IsSound, body, bodies}
use Rattle.record_code.specs.Reading.{byte, slice, Reads}
use Rattle.record_code.proofs.Slices.{slice_front, slice_back}
use Rattle.record_code.proofs.ReadingLemmas.{length-body, body_there}

-- a row of records from a gate on, with a closed gate after them
pub record Row (f : List ℕ) (g last : ℕ) (rs : List Record) : Type 0 where
  pub reads : Reads f g rs last
  pub shut : byte f last ≡ 0

pub bodies_there : (f : List ℕ) (g : ℕ) (r : Record) (rs : List Record) → All IsSound (r ∷ rs) → byte f g ≡ 1
    → slice f (g + 1) (length (bodies (r ∷ rs))) ≡ bodies (r ∷ rs) → Row f g (g + length (bodies (r ∷ rs))) (r ∷ rs)
bodies_there f g r [] sound is_open is =
    let size = length-body 0 r in
    let stands = body_there f g 0 r (sound 0 r (omega arith)) (ap (λ (n : ℕ). slice f (g + 1) n) (sym size) ∙ is) in
    let place : g + 38 + length r.payload ≡ g + length (body 0 r) = omega (arith, size) in
    record { reads = (stands.here is_open, stands.gate ∙ place); shut = ap (λ (n : ℕ). byte f n) (sym place) ∙ stands.then }
bodies_there f g r (s ∷ rs) sound is_open is =
    let rest : List ℕ = bodies (s ∷ rs) in
    let size = length-body 1 r in
    let all : length (body 1 r ++ rest) ≡ 38 + length r.payload + length rest = omega (arith, length-append (body 1 r) rest, size) in
    let whole : slice f (g + 1) (38 + length r.payload + length rest) ≡ body 1 r ++ rest = ap (λ (n : ℕ). slice f (g + 1) n) (sym all) ∙ is in
    let stands = body_there f g 1 r (sound 0 r (omega arith)) (slice_front f (g + 1) (38 + length r.payload) (length rest) (body 1 r) rest size whole) in
    let gate : ℕ = g + 38 + length r.payload in
    let back = slice_back f (g + 1) (38 + length r.payload) (length rest) (body 1 r) rest size whole in
    let at : g + 1 + (38 + length r.payload) ≡ gate + 1 = omega arith in
    let later = bodies_there f gate s rs (λ k d lt. sound (suc k) d (omega (arith, lt))) stands.then (ap (λ (n : ℕ). slice f n (length rest)) (sym at) ∙ back) in
    let place : gate + length rest ≡ g + length (body 1 r ++ rest) = omega (arith, all) in
    record {
      reads = (stands.here is_open, subst (λ (n : ℕ). Reads f n (s ∷ rs) (g + length (body 1 r ++ rest))) (sym stands.gate) (subst (λ (n : ℕ). Reads f gate (s ∷ rs) n) place later.reads));
      shut = ap (λ (n : ℕ). byte f n) (sym place) ∙ later.shut;
    }
