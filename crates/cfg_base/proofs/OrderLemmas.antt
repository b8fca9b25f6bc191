-- Words that tie are equal, and words that are one up to the end of the shorter.
use Rattle.std.proofs.Common.{◌≡◌, ℕ, zero, suc, ◌+◌, ◌<◌, min, Bool, true, false, ◌&&◌, eqb, eqb-true, eq-eqb, List, [], ◌∷◌, drop, length, take, get_or, ◌≤◌, Fits, w8, refl, sym, ap, subst, ◌∙◌, arith}
use Rattle.std.specs.FinMap.{IsAntisymmetric, slice_cmp-IsAntisymmetric, nat_cmp-IsAntisymmetric}
use Rattle.std.specs.declared.cmp.Ordering.{Ordering}
use Rattle.std.specs.declared.cmp.Ordering.TheVariants.{Less, Equal, Greater}
use Rattle.std.specs.Ordering.{eq_by_cmp, is_eq, nat_cmp, ordering_then, MatchOrdering}
use Rattle.std.specs.Int.{from_le_bytes, to_le_bytes}
use Rattle.std.specs.Int.{w64}
use Rattle.std.proofs.lemmas.Nat.{le_bytes_8}
use Rattle.std.proofs.Math.Facts.{Fits-lt-pow}
use Rattle.std.specs.Bool.{Decides}
use Rattle.std.specs.Cmp.{IsTotalOrder, tied_itself, nat_cmp_is, ranks, both_tied}
use Rattle.std.specs.Cmp.Lexicographic.{bytes_decides, lists_ties, pointwise}
use Rattle.cfg_base.specs.Order.{word_cmp, step_cmp, path_cmp}
use Rattle.cfg_base.specs.Words.{same_word}
use Rattle.cfg_base.specs.declared.path.Step.{Step}

pub word_same : IsAntisymmetric word_cmp
word_same = slice_cmp-IsAntisymmetric nat_cmp-IsAntisymmetric

pub is_equal : (o : Ordering) → is_eq o ≡ true → o ≡ Equal
is_equal Less e = cc
is_equal Equal e = refl
is_equal Greater e = cc

module _ {K : Type 0} {R : K → K → Ordering} (o : IsTotalOrder R) (same : IsAntisymmetric R) where
  pub ties_decide : (x y : K) → Decides (eq_by_cmp R x y) (x ≡ y)
  ties_decide x y = (λ e. same x y (is_equal _ e), λ e. subst (λ (z : K). eq_by_cmp R x z ≡ true) e (ap is_eq (tied_itself o x)))

-- the lengths of two lists with one more item each
longer_both : (m n : ℕ) → nat_cmp (suc m) (suc n) ≡ nat_cmp m n
longer_both m n = sym (nat_cmp_is (suc m) (suc n) (nat_cmp m n) (by_order (nat_cmp m n) (ranks m n)))
  where
    by_order : (o : Ordering) → MatchOrdering o (m < n) (m ≡ n) (n < m) → MatchOrdering o (suc m < suc n) (suc m ≡ suc n) (suc n < suc m)
    by_order Less h = omega (arith, h)
    by_order Equal h = ap (λ k. suc k) h
    by_order Greater h = omega (arith, h)

-- words that begin with the same bytes are compared from there on
pub word_cmp-front : (n : ℕ) (xs ys : List ℕ) → n ≤ length xs → n ≤ length ys → take n xs ≡ take n ys → word_cmp (drop n xs) (drop n ys) ≡ word_cmp xs ys
word_cmp-front zero xs ys in_xs in_ys same = refl
word_cmp-front (suc n) [] ys in_xs in_ys same = absurd (omega (arith, in_xs))
word_cmp-front (suc n) (x ∷ xs) [] in_xs in_ys same = absurd (omega (arith, in_ys))
word_cmp-front (suc n) (x ∷ xs) (y ∷ ys) in_xs in_ys same =
    let parts = both_parts x y (take n xs) (take n ys) same
    in word_cmp-front n xs ys (omega (arith, in_xs)) (omega (arith, in_ys)) parts.1
    ∙ ap (λ (o : Ordering). ordering_then o (word_cmp xs ys)) (nat_cmp_is x y Equal parts.0)
  where
    both_parts : (a b : ℕ) (cs ds : List ℕ) → a ∷ cs ≡ b ∷ ds → (a ≡ b) × (cs ≡ ds)
    both_parts a b cs ds e = (cc, cc)

-- eight bytes that are the same number are the same
pub eight_same : (xs ys : List ℕ) → 8 ≤ length xs → 8 ≤ length ys → ((i : ℕ) → Fits w8 (get_or xs i 0)) → ((i : ℕ) → Fits w8 (get_or ys i 0))
    → (x y : ℕ) → x ≡ from_le_bytes w64 (take 8 xs) → y ≡ from_le_bytes w64 (take 8 ys) → x ≡ y → take 8 xs ≡ take 8 ys
eight_same xs ys in_xs in_ys small_xs small_ys x y is_x is_y same =
    sym (le_bytes_8 (take 8 xs) x (length_take 8 xs in_xs) (small_front 8 xs (λ i. Fits-lt-pow (small_xs i))) is_x)
    ∙ ap (λ (n : ℕ). to_le_bytes w64 n) same
    ∙ le_bytes_8 (take 8 ys) y (length_take 8 ys in_ys) (small_front 8 ys (λ i. Fits-lt-pow (small_ys i))) is_y
  where
    length_take : (n : ℕ) (zs : List ℕ) → n ≤ length zs → length (take n zs) ≡ n
    length_take zero zs h = refl
    length_take (suc n) [] h = absurd (omega (arith, h))
    length_take (suc n) (z ∷ zs) h = ap (λ k. suc k) (length_take n zs (omega (arith, h)))

    small_front : (n : ℕ) (zs : List ℕ) → ((i : ℕ) → get_or zs i 0 < 256) → (i : ℕ) → get_or (take n zs) i 0 < 256
    small_front zero zs small i = omega arith
    small_front (suc n) [] small i = omega arith
    small_front (suc n) (z ∷ zs) small zero = small 0
    small_front (suc n) (z ∷ zs) small (suc i) = small_front n zs (λ k. small (suc k)) i

-- past the end of the shorter of two words their lengths decide
pub word_cmp-past : (xs ys : List ℕ) (i : ℕ) → i ≡ min (length xs) (length ys) → word_cmp (drop i xs) (drop i ys) ≡ nat_cmp (length xs) (length ys)
word_cmp-past [] [] zero h = refl
word_cmp-past [] [] (suc i) h = absurd (omega (arith, h))
word_cmp-past [] (y ∷ ys) zero h = nat_cmp_is 0 (suc (length ys)) Less (omega arith)
word_cmp-past [] (y ∷ ys) (suc i) h = absurd (omega (arith, h))
word_cmp-past (x ∷ xs) [] zero h = nat_cmp_is (suc (length xs)) 0 Greater (omega arith)
word_cmp-past (x ∷ xs) [] (suc i) h = absurd (omega (arith, h))
word_cmp-past (x ∷ xs) (y ∷ ys) zero h = absurd (omega (arith, h))
word_cmp-past (x ∷ xs) (y ∷ ys) (suc i) h = word_cmp-past xs ys i (omega (arith, h)) ∙ sym (longer_both (length xs) (length ys))

-- lists that are one up to a place, and from a place no later on, are one
front_and_rest : (n k : ℕ) (xs ys : List ℕ) → k ≤ n → take n xs ≡ take n ys → drop k xs ≡ drop k ys → xs ≡ ys
front_and_rest n zero xs ys h front rest = rest
front_and_rest zero (suc k) xs ys h front rest = absurd (omega (arith, h))
front_and_rest (suc n) (suc k) [] [] h front rest = refl
front_and_rest (suc n) (suc k) [] (y ∷ ys) h front rest = cc
front_and_rest (suc n) (suc k) (x ∷ xs) [] h front rest = cc
front_and_rest (suc n) (suc k) (x ∷ xs) (y ∷ ys) h front rest =
    let first : x ≡ y = cc in let others : take n xs ≡ take n ys = cc
    in let more = front_and_rest n k xs ys (omega (arith, h)) others rest in cc

-- a list is all of its first items, where they are as many
take_whole : (n : ℕ) (zs : List ℕ) → length zs ≤ n → take n zs ≡ zs
take_whole zero [] h = refl
take_whole zero (z ∷ zs) h = absurd (omega (arith, h))
take_whole (suc n) [] h = refl
take_whole (suc n) (z ∷ zs) h = ap (λ (xs : List ℕ). z ∷ xs) (take_whole n zs (omega (arith, h)))

length_behind : (k : ℕ) (zs : List ℕ) → k ≤ length zs → k + length (drop k zs) ≡ length zs
length_behind zero zs h = omega arith
length_behind (suc k) [] h = absurd (omega (arith, h))
length_behind (suc k) (z ∷ zs) h = let e = length_behind k zs (omega (arith, h)) in omega (arith, e)

small_behind : (n : ℕ) (zs : List ℕ) → ((i : ℕ) → Fits w8 (get_or zs i 0)) → (i : ℕ) → Fits w8 (get_or (drop n zs) i 0)
small_behind zero zs small i = small i
small_behind (suc n) [] small i = small i
small_behind (suc n) (z ∷ zs) small i = small_behind n zs (λ j. small (suc j)) i

-- eight to sixteen bytes are told by the first eight and the last eight
module _ (xs ys xs' ys' : List ℕ) (k : ℕ) (ends : k + 8 ≡ length xs) (most : k ≤ 8) (alike : length xs ≡ length ys) (small_xs : (i : ℕ) → Fits w8 (get_or xs i 0))
    (small_ys : (i : ℕ) → Fits w8 (get_or ys i 0)) (behind_xs : xs' ≡ drop k xs) (behind_ys : ys' ≡ drop k ys) (front : take 8 xs ≡ take 8 ys) (a b : ℕ)
    (is_a : a ≡ from_le_bytes w64 (take 8 xs')) (is_b : b ≡ from_le_bytes w64 (take 8 ys')) where
  same_by_ends : a ≡ b → xs ≡ ys
  same_by_ends e =
      let one = length_behind k xs (omega (arith, ends)) in let other = length_behind k ys (omega (arith, ends, alike))
      in let back = eight_same (drop k xs) (drop k ys) (omega (arith, one, ends)) (omega (arith, other, ends, alike)) (small_behind k xs small_xs) (small_behind k ys small_ys)
      a b (is_a ∙ ap (λ (zs : List ℕ). from_le_bytes w64 (take 8 zs)) behind_xs) (is_b ∙ ap (λ (zs : List ℕ). from_le_bytes w64 (take 8 zs)) behind_ys) e
      in front_and_rest 8 k xs ys most front
      (sym (take_whole 8 (drop k xs) (omega (arith, one, ends))) ∙ back ∙ take_whole 8 (drop k ys) (omega (arith, other, ends, alike)))

  pub ends_tell : eqb a b ≡ same_word xs ys
  ends_tell = by_test (eqb a b) (same_word xs ys) refl refl
    where
      by_test : (c d : Bool) → eqb a b ≡ c → same_word xs ys ≡ d → eqb a b ≡ same_word xs ys
      by_test true d e f = e ∙ sym ((bytes_decides xs ys).1 (same_by_ends (eqb-true a b e)))
      by_test false true e f =
          let same : drop k xs ≡ drop k ys = ap (drop k) ((bytes_decides xs ys).0 f)
          in let both : a ≡ b = is_a ∙ ap (λ (zs : List ℕ). from_le_bytes w64 (take 8 zs)) (behind_xs ∙ same ∙ sym behind_ys) ∙ sym is_b
          in let c = sym e ∙ eq-eqb a b both in cc
      by_test false false e f = e ∙ sym f

-- steps that are the same one by one tie as paths
pub steps_tie : (one other xs ys : List Step) (told : Bool) → xs ≡ one → ys ≡ other
    → told ≡ pointwise (λ x y. eq_by_cmp word_cmp x.head y.head && eq_by_cmp word_cmp x.name y.name) xs ys → told ≡ eq_by_cmp path_cmp one other
steps_tie one other xs ys told is_one is_other e =
    e ∙ ap (λ (zs : List Step). pointwise same_step zs ys) is_one ∙ ap (λ (zs : List Step). pointwise same_step one zs) is_other ∙ lists_ties step_cmp ties one other
  where
    same_step : Step → Step → Bool
    same_step x y = eq_by_cmp word_cmp x.head y.head && eq_by_cmp word_cmp x.name y.name

    ties : (x y : Step) → same_step x y ≡ eq_by_cmp step_cmp x y
    ties x y = both_tied _ _ (word_cmp x.head y.head) (word_cmp x.name y.name) refl refl
