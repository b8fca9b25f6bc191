-- What a read answers.
use Rattle.std.proofs.Common.{◌≡◌, ℕ, Bool, true, false, List, Option, Some, None, Result, Ok, Err, refl, ap, sym, subst, ◌∙◌}
use Rattle.std.specs.Prelude.{IfOk, IsErr}
use Rattle.std.specs.Option.{option_map}
use Rattle.commit_ledger.specs.declared.ledger.Pending.{Pending}
use Rattle.commit_ledger.specs.Kept.{Kept, Unconfirmed, is_revert_due}
use Rattle.active_snapshot.specs.declared.reader.Read.{Read}
use Rattle.active_snapshot.specs.declared.reader.Read.TheVariants.{Due}
use Rattle.active_snapshot.specs.Reads.{HandsOut, IsAnswer, IsReadOf}
use Rattle.active_snapshot.specs.Views.{IsLast}

some_inj : {A : Type 0} {x y : A} → Some x ≡ Some y → x ≡ y
some_inj e = cc e

-- what is reported of a run
abbrev told_of : Option Unconfirmed → Option Pending
told_of run = option_map (λ (r : Unconfirmed). record { deadline = r.deadline; target = r.target.number }) run

-- the run whose deadline is reported
pub run-told : (run : Option Unconfirmed) (told : Pending)
    → Some told ≡ told_of run
    → (r : Unconfirmed) × (run ≡ Some r) × (told.deadline ≡ r.deadline)
run-told None told e = absurd (cc e)
run-told (Some r) told e = (r, refl, ap (λ (p : Pending). p.deadline) (some_inj e))

-- the answer of a view whose deadline has come
pub IsAnswer-due : (view one two three : Kept) (moment front : ℕ) (due : Bool) (told : Pending) → one ≡ view
    → two ≡ view → three ≡ view → front ≡ one.count → due ≡ is_revert_due two moment → due ≡ true
    → Some told ≡ told_of three.pending
    → IsAnswer view moment (Due front told.deadline)
IsAnswer-due view one two three moment front due told at_one at_two at_three is_front is_due has_come is_told = (
  is_front ∙ ap (λ (k : Kept). k.count) at_one,
  ap (λ (k : Kept). is_revert_due k moment) (sym at_two) ∙ (sym is_due ∙ has_come),
  run-told view.pending told (is_told ∙ ap (λ (k : Kept). told_of k.pending) at_three),
)

-- the answer of the last view is a read of the list
pub IsReadOf-answer : {E : Type 0} (kept list : List Kept) (view : Kept) (moment : ℕ) (read : Result Read E)
    → IsLast kept view → kept ≡ list → IfOk read (IsAnswer view moment) → IfOk read (IsReadOf list moment)
IsReadOf-answer kept list view moment (Ok read) is_last same is_answer =
    (view, subst (λ (l : List Kept). IsLast l view) same is_last, is_answer)
IsReadOf-answer kept list view moment (Err fault) is_last same is_answer = tt

-- where the answer of the last view isn't there, that one was to be handed out
pub HandsOut-answer : {E : Type 0} (kept list : List Kept) (view : Kept) (moment : ℕ) (read : Result Read E)
    → IsLast kept view → kept ≡ list → (IsErr read → is_revert_due view moment ≡ false) → IsErr read → HandsOut list moment
HandsOut-answer kept list view moment read is_last same not_due failed = λ last is_its_last.
    let here : IsLast list view = subst (λ (l : List Kept). IsLast l view) same is_last in
    subst (λ (v : Kept). is_revert_due v moment ≡ false) (some_inj (sym here ∙ is_its_last)) (not_due failed)
