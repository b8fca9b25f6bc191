-- Texts that are written one after another.
use Rattle.std.proofs.Common.{◌≡◌, ◌+◌, ℕ, List, ◌++◌, take, drop, ap, sym, ◌∙◌, append_assoc}
use Rattle.std.proofs.Common.{Option, Result, Ok, Err}
use Rattle.std.proofs.Math.Seq.{take-add}
use Rattle.io_edge.specs.Ends.{held_after}
use Rattle.io_edge.specs.Wrote.{Wrote, WrotePart}
use Rattle.io_edge.proofs.EndLemmas.{behind-behind}

-- a whole text, and then a part of another, is a part of both
pub part_then : (a b : List ℕ) (old mid now : Option (List ℕ)) → mid ≡ held_after old a → WrotePart b mid now → WrotePart (a ++ b) old now
part_then a b old mid now first then = record {
  part = a ++ then.part;
  rest = then.rest;
  whole = ap (λ x. a ++ x) then.whole ∙ sym (append_assoc a then.part then.rest);
  behind_old = then.behind_old ∙ ap (λ x. held_after x then.part) first ∙ behind-behind old a then.part;
}

-- a whole text, and then another or a part of it
pub wrote_then : {T E : Type 0} (result : Result T E) (a b : List ℕ) (old mid now : Option (List ℕ)) →
    mid ≡ held_after old a → Wrote result b mid now → Wrote result (a ++ b) old now
wrote_then (Ok done) a b old mid now first then = then ∙ ap (λ x. held_after x b) first ∙ behind-behind old a b
wrote_then (Err fault) a b old mid now first then = part_then a b old mid now first then

-- a part of a text is a part of it and what would have followed
pub wrote_part_of : (a b : List ℕ) (old now : Option (List ℕ)) → WrotePart a old now → WrotePart (a ++ b) old now
wrote_part_of a b old now written = record {
  part = written.part;
  rest = written.rest ++ b;
  whole = ap (λ x. x ++ b) written.whole ∙ append_assoc written.part written.rest b;
  behind_old = written.behind_old;
}

-- a text written so far, and a piece more of it
pub wrote_more : (text rest : List ℕ) (so_far more : ℕ) (old mid now : Option (List ℕ)) →
    mid ≡ held_after old (take so_far text) → rest ≡ drop so_far text → now ≡ held_after mid (take more rest) →
    now ≡ held_after old (take (so_far + more) text)
wrote_more text rest so_far more old mid now before is_rest after =
    after ∙ ap (λ x. held_after x (take more rest)) before
    ∙ behind-behind old (take so_far text) (take more rest)
    ∙ ap (λ x. held_after old (take so_far text ++ take more x)) is_rest
    ∙ ap (held_after old) (sym (take-add so_far more text))
