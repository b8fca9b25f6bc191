-- Facts of all elements of plain lists.
use Rattle.std.proofs.Common.{◌≡◌, List, [], ◌∷◌, ◌++◌, Option, None, Some, IfSome, ap, sym, subst}
use Rattle.std.specs.List.{AllByRecursion, last_or}
use mathlib.Core.List.{IsPrefix}

pub All-append : {A : Type 0} (P : A → Type 0) (xs ys : List A) → AllByRecursion P xs → AllByRecursion P ys
    → AllByRecursion P (xs ++ ys)
All-append P [] ys front back = back
All-append P (x ∷ xs) ys front back = (front.0, All-append P xs ys front.1 back)

pub All-weaker : {A : Type 0} (P Q : A → Type 0) (xs : List A) → ((x : A) → P x → Q x) → AllByRecursion P xs → AllByRecursion Q xs
All-weaker P Q [] to all = tt
All-weaker P Q (x ∷ xs) to all = (to x all.0, All-weaker P Q xs to all.1)

pub all_back : {A : Type 0} (P : A → Type 0) (xs ys : List A) → AllByRecursion P (xs ++ ys) → AllByRecursion P ys
all_back P [] ys all = all
all_back P (x ∷ xs) ys all = all_back P xs ys all.1

pub all_front : {A : Type 0} (P : A → Type 0) (xs ys : List A) → AllByRecursion P (xs ++ ys) → AllByRecursion P xs
all_front P [] ys all = tt
all_front P (x ∷ xs) ys all = (all.0, all_front P xs ys all.1)

pub some_is : {A : Type 0} {a b : A} → Some a ≡ Some b → a ≡ b
some_is {A} {a} {b} is = ap (λ o. elim o [ None ↦ a | Some x ↦ x ]) is

last_of : {A : Type 0} (P : A → Type 0) (o : Option A) (xs more : List A) (x : A) → last_or o xs ≡ Some x → IfSome o P
    → AllByRecursion P (xs ++ more) → P x
last_of P o [] more x is some all = subst (λ o. IfSome o P) is some
last_of P o (y ∷ ys) more x is some all = last_of P (Some y) ys more x is all.0 all.1

-- what holds of all of a list holds of the last one of a beginning of it
pub All-last : {A : Type 0} (P : A → Type 0) (xs ys : List A) (x : A) → IsPrefix xs ys → last_or None xs ≡ Some x
    → AllByRecursion P ys → P x
All-last P xs ys x begins is all = last_of P None xs begins.0 x is tt (subst (AllByRecursion P) (sym begins.1) all)
