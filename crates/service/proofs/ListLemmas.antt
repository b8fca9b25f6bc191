-- Facts of all elements of plain lists.
use Rattle.std.proofs.Common.{◌≡◌, ℕ, zero, suc, List, [], ◌∷◌, ◌++◌, map, ap, Some, slice_get}
use Rattle.std.specs.List.{AllByRecursion}
use Rattle.session_threads.proofs.ListLemmas.{some_is}

pub All-map : {A B : Type 0} (f : A → B) (P : A → Type 0) (Q : B → Type 0) (xs : List A) → ((x : A) → P x → Q (f x)) → AllByRecursion P xs → AllByRecursion Q (map f xs)
All-map f P Q [] to all = tt
All-map f P Q (x ∷ xs) to all = (to x all.0, All-map f P Q xs to all.1)

pub all_front : {A : Type 0} (P : A → Type 0) (xs ys : List A) → AllByRecursion P (xs ++ ys) → AllByRecursion P xs
all_front P [] ys all = tt
all_front P (x ∷ xs) ys all = (all.0, all_front P xs ys all.1)

pub slice_get-map : {A B : Type 0} (f : A → B) (xs : List A) (k : ℕ) (x : A) → slice_get xs k ≡ Some x → slice_get (map f xs) k ≡ Some (f x)
slice_get-map f [] k x is = cc
slice_get-map f (y ∷ xs) zero x is = ap (λ a. Some (f a)) (some_is is)
slice_get-map f (y ∷ xs) (suc k) x is = slice_get-map f xs k x is
