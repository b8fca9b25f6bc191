-- Calls of one disk after calls of it, while the other one isn't called: a list written anew, and the record after it.
use Rattle.std.proofs.Common.{◌≡◌, ◌⊎◌, ℕ, Bool, true, false, not, List, [], ◌++◌, inl, inr, ⊎_elim, sym, ap, subst, ◌∙◌, append_assoc}
use Rattle.std.proofs.lemmas.List.{append-nil}
use Rattle.disk_model.specs.Disk.{Call, DiskState, DiskView, History, IsImage, Since, after, state_of}
use Rattle.disk_model.proofs.Images.{since_append, state_later}
use Rattle.commit_journal.specs.Journal.{JournalView, LeavesBoth, a_of, b_of}
use Rattle.commit_journal.specs.Pair.{LeavesPair, first_of, second_of}
use Rattle.commit_journal.proofs.SpanLemmas.{first_moment}

-- the state after the first calls
later_is : (h h' : History) (calls : List Call) → h'.first ≡ h.first → h'.calls ≡ h.calls ++ calls → (more : List Call) (c : List ℕ) → Since (after (state_of h) calls) more c → Since (state_of h') more c
later_is h h' calls first made more c since =
    subst (λ (s : DiskState). Since s more c) (sym (state_later h h' (Since (state_of h) calls) (record { calls = calls; first = first; made = made; each = λ x y. y }))) since

module _ (x x1 x2 y y1 y2 : History) (is1 : x1 ≡ x) (is2 : x2 ≡ x) where
  none_first : x2.first ≡ x.first
  none_first = ap (λ (h : History). h.first) is2

  none_made : x2.calls ≡ x.calls ++ []
  none_made = ap (λ (h : History). h.calls) is2 ∙ sym (append-nil x.calls)

  module _ (P Q : List ℕ → List ℕ → Type 0) where
    -- A isn't called
    then_b : LeavesPair x y x1 y1 P → LeavesPair x1 y1 x2 y2 Q → LeavesPair x y x2 y2 (λ c d. P c d ⊎ Q c d)
    then_b one two = record {
      a_calls = [];
      b_calls = one.b_calls ++ two.b_calls;
      a_first = none_first;
      b_first = two.b_first ∙ one.b_first;
      a_made = none_made;
      b_made = two.b_made ∙ ap (λ (l : List Call). l ++ two.b_calls) one.b_made ∙ append_assoc y.calls one.b_calls two.b_calls;
      each = λ c d image since. ⊎_elim (λ first. inl (one.each c d (first_moment (state_of x) one.a_calls c image) first))
          (λ second. inr (two.each c d (first_moment (state_of x1) two.a_calls c (subst (λ (h : History). IsImage (state_of h) c) (sym is1) image)) (later_is y y1 one.b_calls one.b_first one.b_made two.b_calls d second)))
          (since_append (state_of y) one.b_calls two.b_calls d since);
    }

    -- B isn't
    then_a : LeavesPair y x y1 x1 P → LeavesPair y1 x1 y2 x2 Q → LeavesPair y x y2 x2 (λ c d. P c d ⊎ Q c d)
    then_a one two = record {
      a_calls = one.a_calls ++ two.a_calls;
      b_calls = [];
      a_first = two.a_first ∙ one.a_first;
      b_first = none_first;
      a_made = two.a_made ∙ ap (λ (l : List Call). l ++ two.a_calls) one.a_made ∙ append_assoc y.calls one.a_calls two.a_calls;
      b_made = none_made;
      each = λ c d since image. ⊎_elim (λ first. inl (one.each c d first (first_moment (state_of x) one.b_calls d image)))
          (λ second. inr (two.each c d (later_is y y1 one.a_calls one.a_first one.a_made two.a_calls c second) (first_moment (state_of x1) two.b_calls d (subst (λ (h : History). IsImage (state_of h) d) (sym is1) image))))
          (since_append (state_of y) one.a_calls two.a_calls c since);
    }

-- the file that didn't count is called, and counts from then on; it is called again
pair_after : (b b1 b2 : Bool) (c o x1 x2 o1 o2 : History) (P Q : List ℕ → List ℕ → Type 0) → b1 ≡ not b → b2 ≡ b1 → x1 ≡ c → x2 ≡ c
    → LeavesPair (first_of b c o) (second_of b c o) (first_of b1 o1 x1) (second_of b1 o1 x1) P → LeavesPair (first_of b1 o1 x1) (second_of b1 o1 x1) (first_of b2 o2 x2) (second_of b2 o2 x2) Q
    → LeavesPair (first_of b c o) (second_of b c o) (first_of b2 o2 x2) (second_of b2 o2 x2) (λ p q. P p q ⊎ Q p q)
pair_after false true true c o x1 x2 o1 o2 P Q flips same is1 is2 one two = then_b c x1 x2 o o1 o2 is1 is2 P Q one two
pair_after true false false c o x1 x2 o1 o2 P Q flips same is1 is2 one two = then_a c x1 x2 o o1 o2 is1 is2 P Q one two
pair_after false false b2 c o x1 x2 o1 o2 P Q flips same is1 is2 one two = absurd (cc)
pair_after true true b2 c o x1 x2 o1 o2 P Q flips same is1 is2 one two = absurd (cc)
pair_after false true false c o x1 x2 o1 o2 P Q flips same is1 is2 one two = absurd (cc)
pair_after true false true c o x1 x2 o1 o2 P Q flips same is1 is2 one two = absurd (cc)

history_is : (x y : DiskView) → x ≡ y → x.history ≡ y.history
history_is x y is = ap (λ (d : DiskView). d.history) is

pub both_after : (i j k : JournalView) (P Q : List ℕ → List ℕ → Type 0) → j.b_counts ≡ not i.b_counts → j.other ≡ i.counting → k.b_counts ≡ j.b_counts → k.other ≡ j.other
    → LeavesBoth i j P → LeavesBoth j k Q → LeavesBoth i k (λ c d. P c d ⊎ Q c d)
both_after i j k P Q flips other_j stays other_k one two =
    pair_after i.b_counts j.b_counts k.b_counts i.counting.history i.other.history j.other.history k.other.history j.counting.history k.counting.history P Q flips stays
    (history_is j.other i.counting other_j) (history_is k.other i.counting (other_k ∙ other_j)) one two
