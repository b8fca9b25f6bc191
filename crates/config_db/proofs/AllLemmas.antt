-- What holds of each element of a list.
use Rattle.std.proofs.Common.{List, [], ◌∷◌, ◌++◌}
use Rattle.std.specs.List.{AllByRecursion}

pub All-append : {A : Type 0} → (P : A → Type 0) (xs ys : List A) → AllByRecursion P xs → AllByRecursion P ys → AllByRecursion P (xs ++ ys)
All-append P [] ys front back = back
All-append P (x ∷ xs) ys front back = (front.0, All-append P xs ys front.1 back)

pub All-map : {A : Type 0} → (P Q : A → Type 0) (xs : List A) → ((x : A) → P x → Q x) → AllByRecursion P xs → AllByRecursion Q xs
All-map P Q [] to all = tt
All-map P Q (x ∷ xs) to all = (to x all.0, All-map P Q xs to all.1)
