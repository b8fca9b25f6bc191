-- Blocks one after another.
use Rattle.std.proofs.Common.{◌≡◌, ℕ, zero, suc, ◌<◌, ◌+◌, List, [], ◌∷◌, ◌++◌, take, drop, length, get_or, set, refl, sym, ap, ◌∙◌, arith, append-nil, append_assoc, take-append-drop}
use Rattle.std.proofs.lemmas.List.{drop_more}
use Rattle.cfg_base.specs.Blocks.{flat}

pub flat-append : {X : Type 0} (cs bs : List (List X)) → flat (cs ++ bs) ≡ flat cs ++ flat bs
flat-append [] bs = refl
flat-append {X} (c ∷ cs) bs = ap (λ (xs : List X). c ++ xs) (flat-append cs bs) ∙ sym (append_assoc c (flat cs) (flat bs))

-- the blocks around one
pub flat_around : {X : Type 0} (bs : List (List X)) (i : ℕ) (b : List X) → i < length bs → b ≡ get_or bs i b
    → flat bs ≡ flat (take i bs) ++ (b ++ flat (drop (i + 1) bs))
flat_around bs i b l read =
    ap (λ ds. flat ds) (sym (take-append-drop i bs))
    ∙ flat-append (take i bs) (drop i bs)
    ∙ ap (λ ds. flat (take i bs) ++ flat ds) (drop_more bs i b l)
    ∙ ap (λ c. flat (take i bs) ++ (c ++ flat (drop (i + 1) bs))) (sym read)

pub last_block : {X : Type 0} (bs ns : List (List X)) (b es : List X) → ns ≡ bs ++ b ∷ [] → b ≡ es → flat ns ≡ flat bs ++ es
last_block {X} bs ns b es e f =
    ap (λ (cs : List (List X)). flat cs) e ∙ flat-append bs (b ∷ []) ∙ ap (λ (xs : List X). flat bs ++ xs) (append-nil b ∙ f)

-- one more item in the last block is one more at the end
pub last_set : {X : Type 0} (bs : List (List X)) (k : ℕ) (new d : List X) (x : X) → k + 1 ≡ length bs → new ≡ get_or bs k d ++ x ∷ []
    → flat (set bs k new) ≡ flat bs ++ x ∷ []
last_set [] k new d x e f = absurd (omega (arith, e))
last_set {X} (b ∷ []) zero new d x e f = append-nil new ∙ f ∙ ap (λ (ys : List X). ys ++ x ∷ []) (sym (append-nil b))
last_set (b ∷ []) (suc k) new d x e f = absurd (omega (arith, e))
last_set (b ∷ c ∷ bs) zero new d x e f = absurd (omega (arith, e))
last_set {X} (b ∷ c ∷ bs) (suc k) new d x e f =
    ap (λ (ys : List X). b ++ ys) (last_set (c ∷ bs) k new d x (omega (arith, e)) f)
    ∙ sym (append_assoc b (flat (c ∷ bs)) (x ∷ []))

-- one block more of the blocks at the front
pub flat_more : {X : Type 0} (bs : List (List X)) (i : ℕ) (d : List X) → i < length bs → flat (take (suc i) bs) ≡ flat (take i bs) ++ get_or bs i d
flat_more [] i d h = absurd (omega (arith, h))
flat_more (b ∷ bs) zero d h = append-nil b
flat_more {X} (b ∷ bs) (suc i) d h = ap (λ (ys : List X). b ++ ys) (flat_more bs i d (omega (arith, h))) ∙ sym (append_assoc b (flat (take i bs)) (get_or bs i d))
