-- What a disk in memory holds after one call more.
use Rattle.std.proofs.Common.{◌≡◌, ◌≤◌, ◌<◌, ℕ, nat_lt, ◌+◌, Bool, true, false, cond, IsTrue, nat_le, ◌&&◌, List, [], ◌∷◌, ◌++◌, length, refl, sym, ◌∙◌, ap, arith}
use Rattle.std.proofs.lemmas.Bool.Decides.{nat_tests}
use Rattle.disk_model.specs.Disk.{Call, Write, Refused, History, DiskState, put, step, state_of, contents_of}
use Rattle.disk_model.proofs.States.{state_pushed, length-put}
use Rattle.disk_model.proofs.KeptLemmas.{both_true}

abbrev pub past : List ℕ → List Call → History
past first calls = record { first = first; calls = calls }

module _ (first : List ℕ) (calls : List Call) (bytes : List ℕ) (is : bytes ≡ contents_of (past first calls)) where
  pushed : (calls' : List Call) (call : Call) → calls' ≡ calls ++ call ∷ [] → contents_of (past first calls') ≡ (step (state_of (past first calls)) call).contents
  pushed calls' call more =
      ap (λ (l : List Call). contents_of (past first l)) more ∙ ap (λ (s : DiskState). s.contents) (state_pushed first calls call)

  pub written_contents : (calls' : List Call) (at : ℕ) (piece : List ℕ) → calls' ≡ calls ++ Write at piece ∷ [] → put at piece bytes ≡ contents_of (past first calls')
  written_contents calls' at piece more = ap (λ (l : List ℕ). put at piece l) is ∙ sym (pushed calls' (Write at piece) more)

  pub same_contents : (calls' : List Call) (call : Call) → (step (state_of (past first calls)) call).contents ≡ contents_of (past first calls) → calls' ≡ calls ++ call ∷ []
      → bytes ≡ contents_of (past first calls')
  same_contents calls' call left more = is ∙ sym left ∙ sym (pushed calls' call more)

-- a call that leaves the contents leaves them as the record keeps it too
pub still : (s : DiskState) (b : Bool) (call : Call) → (step s call).contents ≡ s.contents → (step s (cond b call Refused)).contents ≡ s.contents
still s true call same = same
still s false call same = refl

-- a write for which there is room ends within it
pub ends_within : (a b c : Bool) → IsTrue (a && (b && c)) → IsTrue a × IsTrue b × IsTrue c
ends_within a b c all = let front = both_true a (b && c) all in let back = both_true b c front.1 in (front.0, back.0, back.1)

pub le_of : (m n : ℕ) → IsTrue (nat_le m n) → m ≤ n
le_of m n is = grind (arith, nat_tests)

pub lt_of : (m n : ℕ) → IsTrue (nat_lt m n) → m < n
lt_of m n is = grind (arith, nat_tests)

pub fits : (at room : ℕ) (file : List ℕ) (piece : List ℕ) → at ≤ length file → length file ≤ room → at + length piece ≤ room → length (put at piece file) ≤ room
fits at room file piece at_end within ends = omega (arith, length-put at piece file at_end)
