-- Lists that are mapped, filtered and put together.
use Rattle.std.proofs.Common.{◌≡◌, Bool, true, false, cond, List, [], ◌∷◌, ◌++◌, filter, map, refl, sym, ap, ◌∙◌, append_assoc}
use Rattle.std.specs.Prelude.{flat_map}
use Rattle.std.specs.List.{AllByRecursion}
use Rattle.std.proofs.lemmas.List.Elements.{filter-append}

pub filter_map : {X Y : Type 0} (t : Y → Bool) (f : X → Y) (xs : List X) → filter t (map f xs) ≡ map f (filter (λ x. t (f x)) xs)
filter_map t f [] = refl
filter_map {X} {Y} t f (x ∷ xs) = by_test (t (f x)) (filter_map t f xs)
  where
    by_test : (b : Bool) → filter t (map f xs) ≡ map f (filter (λ x. t (f x)) xs)
        → cond b (f x ∷ filter t (map f xs)) (filter t (map f xs)) ≡ map f (cond b (x ∷ filter (λ x. t (f x)) xs) (filter (λ x. t (f x)) xs))
    by_test true e = ap (λ (ys : List Y). f x ∷ ys) e
    by_test false e = e

pub filter_swap : {X : Type 0} (t u : X → Bool) (xs : List X) → filter t (filter u xs) ≡ filter u (filter t xs)
filter_swap t u [] = refl
filter_swap {X} t u (x ∷ xs) = by_tests (t x) (u x) refl refl (filter_swap t u xs)
  where
    by_tests : (a b : Bool) → t x ≡ a → u x ≡ b → filter t (filter u xs) ≡ filter u (filter t xs)
        → filter t (cond b (x ∷ filter u xs) (filter u xs)) ≡ filter u (cond a (x ∷ filter t xs) (filter t xs))
    by_tests true true e f go =
        ap (λ (c : Bool). cond c (x ∷ filter t (filter u xs)) (filter t (filter u xs))) e ∙ ap (λ (ys : List X). x ∷ ys) go
        ∙ sym (ap (λ (c : Bool). cond c (x ∷ filter u (filter t xs)) (filter u (filter t xs))) f)
    by_tests true false e f go = go ∙ sym (ap (λ (c : Bool). cond c (x ∷ filter u (filter t xs)) (filter u (filter t xs))) f)
    by_tests false true e f go = ap (λ (c : Bool). cond c (x ∷ filter t (filter u xs)) (filter t (filter u xs))) e ∙ go
    by_tests false false e f go = go

pub filter_flat : {X Y : Type 0} (t : Y → Bool) (f : X → List Y) (xs : List X) → filter t (flat_map f xs) ≡ flat_map (λ x. filter t (f x)) xs
filter_flat t f [] = refl
filter_flat {X} {Y} t f (x ∷ xs) = filter-append t (f x) (flat_map f xs) ∙ ap (λ (ys : List Y). filter t (f x) ++ ys) (filter_flat t f xs)

pub flat_same : {X Y : Type 0} (f g : X → List Y) → ((x : X) → f x ≡ g x) → (xs : List X) → flat_map f xs ≡ flat_map g xs
flat_same f g go xs = let same : f ≡ g = λ i x. go x i in ap (λ (h : _). flat_map h xs) same

pub flat_same_all : {X Y : Type 0} (f g : X → List Y) (xs : List X) → AllByRecursion (λ x. f x ≡ g x) xs → flat_map f xs ≡ flat_map g xs
flat_same_all f g [] h = refl
flat_same_all {X} {Y} f g (x ∷ xs) h = ap (λ (ys : List Y). ys ++ flat_map f xs) h.0 ∙ ap (λ (ys : List Y). g x ++ ys) (flat_same_all f g xs h.1)

pub map_map : {X Y Z : Type 0} (f : Y → Z) (g : X → Y) (xs : List X) → map f (map g xs) ≡ map (λ x. f (g x)) xs
map_map f g [] = refl
map_map {X} {Y} {Z} f g (x ∷ xs) = ap (λ (zs : List Z). f (g x) ∷ zs) (map_map f g xs)

pub map_append : {X Y : Type 0} (f : X → Y) (xs ys : List X) → map f (xs ++ ys) ≡ map f xs ++ map f ys
map_append f [] ys = refl
map_append {X} {Y} f (x ∷ xs) ys = ap (λ (zs : List Y). f x ∷ zs) (map_append f xs ys)

pub map_flat : {X Y Z : Type 0} (f : Y → Z) (g : X → List Y) (xs : List X) → map f (flat_map g xs) ≡ flat_map (λ x. map f (g x)) xs
map_flat f g [] = refl
map_flat {X} {Y} {Z} f g (x ∷ xs) = map_append f (g x) (flat_map g xs) ∙ ap (λ (zs : List Z). map f (g x) ++ zs) (map_flat f g xs)

pub flat_map_map : {X Y Z : Type 0} (f : Y → List Z) (g : X → Y) (xs : List X) → flat_map f (map g xs) ≡ flat_map (λ x. f (g x)) xs
flat_map_map f g [] = refl
flat_map_map {X} {Y} {Z} f g (x ∷ xs) = ap (λ (zs : List Z). f (g x) ++ zs) (flat_map_map f g xs)

pub flat_append : {X Y : Type 0} (f : X → List Y) (xs ys : List X) → flat_map f (xs ++ ys) ≡ flat_map f xs ++ flat_map f ys
flat_append f [] ys = refl
flat_append {X} {Y} f (x ∷ xs) ys = ap (λ (zs : List Y). f x ++ zs) (flat_append f xs ys) ∙ sym (append_assoc (f x) (flat_map f xs) (flat_map f ys))

pub flat_flat : {X Y Z : Type 0} (f : Y → List Z) (g : X → List Y) (xs : List X) → flat_map f (flat_map g xs) ≡ flat_map (λ x. flat_map f (g x)) xs
flat_flat f g [] = refl
flat_flat {X} {Y} {Z} f g (x ∷ xs) = flat_append f (g x) (flat_map g xs) ∙ ap (λ (zs : List Z). flat_map f (g x) ++ zs) (flat_flat f g xs)
