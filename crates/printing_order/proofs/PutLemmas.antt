-- Lists to whose end something is put, and lists of lists of lists.
use Rattle.std.proofs.Common.{◌≡◌, List, [], ◌∷◌, ◌++◌, refl, sym, ap, ◌∙◌, append-nil, Result, Ok, Err, OnOk}
use Rattle.std.specs.List.{flat_map}
use Rattle.std.proofs.lemmas.Grind.{flat_map-append}

pub rows_flat : {A B C : Type 0} (f : B → List C) (g : A → List B) (xs : List A) → flat_map f (flat_map g xs) ≡ flat_map (λ x. flat_map f (g x)) xs
rows_flat f g [] = refl
rows_flat {A} {B} {C} f g (x ∷ xs) =
    flat_map-append f (g x) (flat_map g xs) ∙ ap (λ (cs : List C). flat_map f (g x) ++ cs) (rows_flat f g xs)

-- nothing more is put
pub put_nothing : {X : Type 0} (xs more : List X) → more ≡ [] → xs ≡ xs ++ more
put_nothing {X} xs more none = sym (append-nil xs) ∙ ap (λ (ys : List X). xs ++ ys) (sym none)

-- the same is put in other words
pub put_same : {X T E : Type 0} (answer : Result T E) (xs new told more : List X) → OnOk answer (new ≡ xs ++ told) → told ≡ more
    → OnOk answer (new ≡ xs ++ more)
put_same {X} (Ok done) xs new told more put e = put ∙ ap (λ (ys : List X). xs ++ ys) e
put_same {X} (Err fault) xs new told more put e = tt
