-- Names with a new one in the place of an old one: which they are, and that they differ.
use Rattle.std.proofs.Common.{◌≡◌, ◌≢◌, ℕ, Bool, true, false, ◌||◌, List, [], ◌∷◌, refl, sym, ap, subst, ◌∙◌, if◌then◌else◌}
use Rattle.std.specs.List.{IsDistinct, AllByRecursion}
use Rattle.std.proofs.lemmas.Map.Keys.{IsDistinct-head, IsDistinct-tail, IsDistinct-cons}
use Rattle.cfg_schema.specs.Profile.{same_word}
use Rattle.cfg_schema.proofs.TestLemmas.{same, same_is, neither, other_of}
use Rattle.cfg_tree.specs.Tree.{lists}
use Rattle.cfg_tree.specs.Moving.{in_place}

-- whether two words are one
pub word_or_not : (a b : List ℕ) (P : Type 0) → (a ≡ b → P) → (same_word a b ≡ false → P) → P
word_or_not a b P yes_ no_ = by_test _ refl
  where
    by_test : (t : Bool) → same_word a b ≡ t → P
    by_test true e = yes_ (same a b e)
    by_test false e = no_ e

pub differ : (a b : List ℕ) → a ≢ b → same_word a b ≡ false
differ a b h = word_or_not a b (same_word a b ≡ false) (λ e. absurd (h e)) (λ e. e)

pub turned : (x y : List ℕ) → same_word x y ≡ false → same_word y x ≡ false
turned x y h = differ y x (λ e. let k = same_is x y (sym e) in cc)

-- a word that isn't listed differs from each that is
pub all_unlisted : (x : List ℕ) (names : List (List ℕ)) → lists names x ≡ false → AllByRecursion (λ y. same_word x y ≡ false) names
all_unlisted x [] h = tt
all_unlisted x (y ∷ names) h = let parts = neither (same_word x y) (lists names x) h in (parts.0, all_unlisted x names parts.1)

module _ (old new : List ℕ) where
  first_is : (x : List ℕ) → old ≡ x → (if same_word old x then new else x) ≡ new
  first_is x e = ap (λ (t : Bool). if t then new else x) (same_is old x e)

  first_kept : (x : List ℕ) → same_word old x ≡ false → (if same_word old x then new else x) ≡ x
  first_kept x e = ap (λ (t : Bool). if t then new else x) e

  -- any other name is listed where it was
  pub other_listed : (names : List (List ℕ)) (other : List ℕ) → other ≢ old → other ≢ new → lists (in_place old new names) other ≡ lists names other
  other_listed [] other h k = refl
  other_listed (x ∷ names) other h k =
      word_or_not old x _
      (λ e. ap (λ (y : List ℕ). same_word other y || lists (in_place old new names) other) (first_is x e)
      ∙ ap (λ (t : Bool). t || lists (in_place old new names) other) (differ other new k ∙ sym (ap (same_word other) (sym e) ∙ differ other old h))
      ∙ ap (λ (t : Bool). same_word other x || t) (other_listed names other h k))
      (λ e. ap (λ (y : List ℕ). same_word other y || lists (in_place old new names) other) (first_kept x e)
      ∙ ap (λ (t : Bool). same_word other x || t) (other_listed names other h k))

  -- the old one isn't listed any more
  pub old_unlisted : old ≢ new → (names : List (List ℕ)) → lists (in_place old new names) old ≡ false
  old_unlisted h [] = refl
  old_unlisted h (x ∷ names) =
      word_or_not old x _
      (λ e. ap (λ (y : List ℕ). same_word old y || lists (in_place old new names) old) (first_is x e)
      ∙ ap (λ (t : Bool). t || lists (in_place old new names) old) (differ old new h) ∙ old_unlisted h names)
      (λ e. ap (λ (y : List ℕ). same_word old y || lists (in_place old new names) old) (first_kept x e)
      ∙ ap (λ (t : Bool). t || lists (in_place old new names) old) e ∙ old_unlisted h names)

  or_true : (a b : Bool) → b ≡ true → (a || b) ≡ true
  or_true true b h = refl
  or_true false b h = h

  -- the new one is, where the old one was
  pub new_listed : (names : List (List ℕ)) → lists names old ≡ true → lists (in_place old new names) new ≡ true
  new_listed [] h = h
  new_listed (x ∷ names) h =
      word_or_not old x _
      (λ e. ap (λ (y : List ℕ). same_word new y || lists (in_place old new names) new) (first_is x e)
      ∙ ap (λ (t : Bool). t || lists (in_place old new names) new) (same_is new new refl))
      (λ e. or_true (same_word new (if same_word old x then new else x)) (lists (in_place old new names) new) (new_listed names (other_of (same_word old x) (lists names old) h e)))

  -- where the old one isn't listed nothing changes
  none_placed : (names : List (List ℕ)) → AllByRecursion (λ y. same_word old y ≡ false) names → in_place old new names ≡ names
  none_placed [] h = refl
  none_placed (x ∷ names) h =
      ap (λ (y : List ℕ). y ∷ in_place old new names) (first_kept x h.0) ∙ ap (λ (ys : List (List ℕ)). x ∷ ys) (none_placed names h.1)

  all_placed : (x : List ℕ) (names : List (List ℕ)) → same_word x new ≡ false → AllByRecursion (λ y. same_word x y ≡ false) names
      → AllByRecursion (λ y. same_word x y ≡ false) (in_place old new names)
  all_placed x [] h k = tt
  all_placed x (y ∷ names) h k = (
    word_or_not old y (same_word x (if same_word old y then new else y) ≡ false)
        (λ e. ap (same_word x) (first_is y e) ∙ h)
        (λ e. ap (same_word x) (first_kept y e) ∙ k.0),
    all_placed x names h k.1,
  )

  -- names that differ still do, where the new one is none of them
  pub distinct-in_place : (names : List (List ℕ)) → IsDistinct same_word names → lists names new ≡ false → IsDistinct same_word (in_place old new names)
  distinct-in_place [] h k = h
  distinct-in_place (x ∷ names) h k =
      let parts = neither (same_word new x) (lists names new) k
      in let rest = distinct-in_place names (IsDistinct-tail same_word x names h) parts.1
      in let apart = IsDistinct-head same_word x names h
      in word_or_not old x _
      (λ e.
      let gone = none_placed names (subst (λ (w : List ℕ). AllByRecursion (λ y. same_word w y ≡ false) names) (sym e) apart)
      in subst (λ (w : List ℕ). IsDistinct same_word (w ∷ in_place old new names)) (sym (first_is x e))
      (IsDistinct-cons same_word new (in_place old new names)
      (subst (λ (ys : List (List ℕ)). AllByRecursion (λ y. same_word new y ≡ false) ys) (sym gone) (all_unlisted new names parts.1)) rest))
      (λ e. subst (λ (w : List ℕ). IsDistinct same_word (w ∷ in_place old new names)) (sym (first_kept x e))
      (IsDistinct-cons same_word x (in_place old new names) (all_placed x names (turned new x parts.0) apart) rest))
