-- Lists of words: one word more at a time, and what is left of them. Words that differ stay so, and canonical ones too.
use Rattle.std.proofs.Common.{not, ◌&&◌, ◌≡◌, ℕ, zero, suc, ◌+◌, ◌≤◌, ◌<◌, Bool, true, false, cond, ◌||◌, List, [], ◌∷◌, ◌++◌, length, take, filter, get_or, refl, sym, ap, subst, ◌∙◌, arith, length-append, append-nil, append_assoc, ◌==◌, if◌then◌else◌}
use Rattle.std.specs.List.{All, AllByRecursion, IsDistinct}
use Rattle.std.specs.Cmp.{IsEquivalence, nat_eq_equiv}
use Rattle.std.specs.Cmp.Lexicographic.{lists_equiv, bytes_decides}
use Rattle.std.proofs.lemmas.Map.Keys.{IsDistinct-push, IsDistinct-head, IsDistinct-tail, IsDistinct-cons}
use Rattle.std.proofs.lemmas.List.Elements.{All-push, filter-append}
use Rattle.std.proofs.Math.Seq.{take-append_seam}
use Rattle.std.specs.Bool.{Decides}
use Rattle.std.specs.Ordering.{eq_by_cmp}
use Rattle.cfg_base.specs.Order.{word_cmp, words_total}
use Rattle.std.specs.BTreeSet.{BTreeSet}
use Rattle.std.specs.List.{list_all, list_any}
use Rattle.std.proofs.lemmas.Bool.Decides.{nat_tests}
use Rattle.cfg_base.specs.Blocks.{flat, IsSized}
use Rattle.cfg_base.specs.declared.shared.TheConstants.{MAX_ITEMS}
use Rattle.cfg_base.specs.Words.{same_word, lists, with_word, joined, words_without, Knows, Misses}
use Rattle.cfg_base.proofs.FlatLemmas.{flat_more}
use Rattle.cfg_base.proofs.OrderLemmas.{word_same, ties_decide}

same : (xs ys : List ℕ) → same_word xs ys ≡ true → xs ≡ ys
same xs ys = (bytes_decides xs ys).0

same_is : (xs ys : List ℕ) → xs ≡ ys → same_word xs ys ≡ true
same_is xs ys = (bytes_decides xs ys).1

pub joined-more : (words given : List (List ℕ)) (i : ℕ) (d : List ℕ) → i < length given
    → joined words (take (suc i) given) ≡ with_word (joined words (take i given)) (get_or given i d)
joined-more words [] i d h = absurd (none h)
  where
    none : i < 0 → ⊥
    none e = omega (arith, e)
joined-more words (word ∷ given) zero d h = refl
joined-more words (word ∷ given) (suc i) d h = joined-more (with_word words word) given i d (omega (arith, h))

pub joined-step : (words given now new : List (List ℕ)) (i : ℕ) (word d : List ℕ) → i < length given → now ≡ joined words (take i given) → word ≡ get_or given i d
    → new ≡ with_word now word → new ≡ joined words (take (i + 1) given)
joined-step words given now new i word d h e f g =
    g
    ∙ ap (λ (ws : List (List ℕ)). with_word ws word) e
    ∙ ap (λ (w : List ℕ). with_word (joined words (take i given)) w) f
    ∙ sym (joined-more words given i d h)
    ∙ ap (λ (k : ℕ). joined words (take k given)) (one_more i)
  where
    one_more : (n : ℕ) → suc n ≡ n + 1
    one_more n = omega arith

words_equiv : IsEquivalence same_word
words_equiv = lists_equiv nat_eq_equiv

distinct_by : (words : List (List ℕ)) (word : List ℕ) (b : Bool) → lists words word ≡ b → IsDistinct same_word words
    → IsDistinct same_word (if b then words else words ++ word ∷ [])
distinct_by words word true e h = h
distinct_by words word false e h = IsDistinct-push words_equiv words word h e

pub joined-distinct : (words given : List (List ℕ)) → IsDistinct same_word words → IsDistinct same_word (joined words given)
joined-distinct words [] h = h
joined-distinct words (word ∷ given) h = joined-distinct (with_word words word) given (distinct_by words word _ refl h)

all_by : (P : List ℕ → Type 0) (words : List (List ℕ)) (word : List ℕ) (b : Bool) → All P words → P word → All P (if b then words else words ++ word ∷ [])
all_by P words word true h p = h
all_by P words word false h p = All-push P words word h p

pub joined-all : (P : List ℕ → Type 0) (words given : List (List ℕ)) → All P words → All P given → All P (joined words given)
joined-all P words [] h g = h
joined-all P words (word ∷ given) h g =
    joined-all P (with_word words word) given (all_by P words word _ h (g 0 word (omega arith))) (λ k d inside. g (suc k) d (omega (arith, inside)))

longer_by : (words : List (List ℕ)) (word : List ℕ) (b : Bool) → length words ≤ length (if b then words else words ++ word ∷ [])
longer_by words word true = omega arith
longer_by words word false = omega (arith, length-append words (word ∷ []))

pub joined-longer : (words given : List (List ℕ)) → length words ≤ length (joined words given)
joined-longer words [] = omega arith
joined-longer words (word ∷ given) = through (longer_by words word (lists words word)) (joined-longer (with_word words word) given)
  where
    through : {a b c : ℕ} → a ≤ b → b ≤ c → a ≤ c
    through e f = omega (arith, e, f)

-- of no words and one more, that word is there
pub joined-some : (given : List (List ℕ)) → 0 < length given → 0 < length (joined [] given)
joined-some [] h = h
joined-some (word ∷ given) h = some (joined-longer (word ∷ []) given)
  where
    some : 1 ≤ length (joined (word ∷ []) given) → 0 < length (joined (word ∷ []) given)
    some e = omega (arith, e)

module _ (t : List ℕ → Bool) where
  all-left : (y : List ℕ) (words : List (List ℕ)) → AllByRecursion (λ x. same_word y x ≡ false) words
      → AllByRecursion (λ x. same_word y x ≡ false) (filter t words)
  all-left y [] h = h
  all-left y (x ∷ words) h = by_test (t x) (all-left y words h.1)
    where
      by_test : (c : Bool) → AllByRecursion (λ z. same_word y z ≡ false) (filter t words)
          → AllByRecursion (λ z. same_word y z ≡ false) (cond c (x ∷ filter t words) (filter t words))
      by_test true go = (h.0, go)
      by_test false go = go

  pub distinct-left : (words : List (List ℕ)) → IsDistinct same_word words → IsDistinct same_word (filter t words)
  distinct-left [] h = h
  distinct-left (x ∷ words) h = by_test (t x) (distinct-left words (IsDistinct-tail same_word x words h))
    where
      by_test : (c : Bool) → IsDistinct same_word (filter t words) → IsDistinct same_word (cond c (x ∷ filter t words) (filter t words))
      by_test true go = IsDistinct-cons same_word x (filter t words) (all-left x words (IsDistinct-head same_word x words h)) go
      by_test false go = go

  pub fewer-left : (words : List (List ℕ)) → length (filter t words) ≤ length words
  fewer-left [] = omega arith
  fewer-left (x ∷ words) = by_test (t x) (fewer-left words)
    where
      by_test : (c : Bool) → length (filter t words) ≤ length words → length (cond c (x ∷ filter t words) (filter t words)) ≤ length (x ∷ words)
      by_test true go = omega (arith, go)
      by_test false go = omega (arith, go)

-- two words are the same where they tie
one_test : (P : Type 0) (a b : Bool) → Decides a P → Decides b P → a ≡ b
one_test P true true d e = refl
one_test P true false d e = let k = e.1 (d.0 refl) in cc
one_test P false true d e = let k = d.1 (e.0 refl) in cc
one_test P false false d e = refl

tied_same : (word other : List ℕ) → eq_by_cmp word_cmp word other ≡ same_word other word
tied_same word other =
    one_test (other ≡ word) (eq_by_cmp word_cmp word other) (same_word other word)
    (λ e. sym ((ties_decide words_total word_same word other).0 e), λ e. (ties_decide words_total word_same word other).1 (sym e))
    (same other word, same_is other word)

pub learned : (old new : Bool) (word other : List ℕ) → new ≡ cond (eq_by_cmp word_cmp word other) true old → new ≡ (same_word other word || old)
learned old new word other e = e ∙ by_test (eq_by_cmp word_cmp word other) ∙ ap (λ (b : Bool). b || old) (tied_same word other)
  where
    by_test : (b : Bool) → cond b true old ≡ (b || old)
    by_test true = refl
    by_test false = refl

pub unlearned : (old new : Bool) (word other : List ℕ) → new ≡ cond (eq_by_cmp word_cmp word other) false old → new ≡ (not (same_word other word) && old)
unlearned old new word other e = e ∙ by_test (eq_by_cmp word_cmp word other) ∙ ap (λ (b : Bool). not b && old) (tied_same word other)
  where
    by_test : (b : Bool) → cond b false old ≡ (not b && old)
    by_test true = refl
    by_test false = refl

or_false : (a : Bool) → (a || false) ≡ a
or_false true = refl
or_false false = refl

or_assoc : (a b c : Bool) → (a || (b || c)) ≡ ((a || b) || c)
or_assoc true b c = refl
or_assoc false b c = refl

pub lists_more : (words : List (List ℕ)) (x w : List ℕ) → lists (words ++ x ∷ []) w ≡ (lists words w || same_word w x)
lists_more [] x w = or_false (same_word w x)
lists_more (y ∷ words) x w = ap (λ (b : Bool). same_word w y || b) (lists_more words x w) ∙ or_assoc (same_word w y) (lists words w) (same_word w x)

pub lists_with : (words : List (List ℕ)) (x w : List ℕ) → lists (with_word words x) w ≡ (lists words w || same_word w x)
lists_with words x w = by_test (lists words x) refl
  where
    there : (b : Bool) → same_word w x ≡ b → lists words x ≡ true → lists words w ≡ (lists words w || b)
    there true e h =
        let is = ap (λ (v : List ℕ). lists words v) (same w x e) ∙ h
        in is ∙ sym (ap (λ (b : Bool). b || true) is)
    there false e h = sym (or_false (lists words w))

    by_test : (b : Bool) → lists words x ≡ b → lists (if b then words else words ++ x ∷ []) w ≡ (lists words w || same_word w x)
    by_test true h = there (same_word w x) refl h
    by_test false h = lists_more words x w

gone_too : (g l s : Bool) → (not s && (g && not l)) ≡ (g && not (l || s))
gone_too true true true = refl
gone_too true true false = refl
gone_too true false true = refl
gone_too true false false = refl
gone_too false true true = refl
gone_too false true false = refl
gone_too false false true = refl
gone_too false false false = refl

-- a word that is told to be there is missing no more
pub misses_less : (given words more : List (List ℕ)) (x w : List ℕ) (before now : Bool) → before ≡ (lists given w && not (lists words w))
    → now ≡ (not (same_word w x) && before) → lists more w ≡ (lists words w || same_word w x) → now ≡ (lists given w && not (lists more w))
misses_less given words more x w before now e f g =
    f
    ∙ ap (λ (b : Bool). not (same_word w x) && b) e
    ∙ gone_too (lists given w) (lists words w) (same_word w x)
    ∙ ap (λ (b : Bool). lists given w && not b) (sym g)

pub lists_read : (given : List (List ℕ)) (i : ℕ) (d : List ℕ) → i < length given → lists given (get_or given i d) ≡ true
lists_read [] i d h = absurd (omega (arith, h))
lists_read (y ∷ given) zero d h = ap (λ (b : Bool). b || lists given y) (same_is y y refl)
lists_read (y ∷ given) (suc i) d h =
    ap (λ (b : Bool). same_word (get_or given i d) y || b) (lists_read given i d (omega (arith, h))) ∙ or_true (same_word (get_or given i d) y)
  where
    or_true : (a : Bool) → (a || true) ≡ true
    or_true true = refl
    or_true false = refl

pub misses_none : (given : List (List ℕ)) (missing : BTreeSet (List ℕ)) → Knows given missing → Misses [] given missing
misses_none given missing h = λ w. h w ∙ and_true (lists given w)
  where
    and_true : (a : Bool) → a ≡ (a && true)
    and_true true = refl
    and_true false = refl

pub lists-append : (words more : List (List ℕ)) (w : List ℕ) → lists (words ++ more) w ≡ (lists words w || lists more w)
lists-append [] more w = refl
lists-append (x ∷ words) more w = ap (λ (b : Bool). same_word w x || b) (lists-append words more w) ∙ or_assoc (same_word w x) (lists words w) (lists more w)

-- the words of both lists, and no others
pub joined-lists : (old given : List (List ℕ)) (w : List ℕ) → lists (joined old given) w ≡ (lists old w || lists given w)
joined-lists old [] w = sym (or_false (lists old w))
joined-lists old (x ∷ given) w =
    joined-lists (with_word old x) given w
    ∙ ap (λ (b : Bool). b || lists given w) (lists_with old x w)
    ∙ sym (or_assoc (lists old w) (same_word w x) (lists given w))

-- the old words stand first
pub joined-more-words : (old given : List (List ℕ)) → (more : List (List ℕ)) × (joined old given ≡ old ++ more)
joined-more-words old [] = ([], sym (append-nil old))
joined-more-words old (x ∷ given) = by_test (lists old x) (joined-more-words old given) (joined-more-words (old ++ x ∷ []) given)
  where
    by_test : (b : Bool) → (more : List (List ℕ)) × (joined old given ≡ old ++ more)
        → (more : List (List ℕ)) × (joined (old ++ x ∷ []) given ≡ (old ++ x ∷ []) ++ more)
        → (more : List (List ℕ)) × (joined (if b then old else old ++ x ∷ []) given ≡ old ++ more)
    by_test true same longer = same
    by_test false same longer = (x ∷ longer.0, longer.1 ∙ append_assoc old (x ∷ []) longer.0)

pub joined-front : (old given : List (List ℕ)) → take (length old) (joined old given) ≡ old
joined-front old given =
    let (more, is) = joined-more-words old given
    in ap (λ (ws : List (List ℕ)). take (length old) ws) is ∙ take-append_seam old more

-- a list that has all of the given words gets none, and any other is longer
pub joined-same : (old given : List (List ℕ)) → list_all (lists old) given ≡ true → joined old given ≡ old
joined-same old [] h = refl
joined-same old (x ∷ given) h = by_test (lists old x) (joined-same old given) h
  where
    by_test : (b : Bool) → (list_all (lists old) given ≡ true → joined old given ≡ old) → (b && list_all (lists old) given) ≡ true
        → joined (if b then old else old ++ x ∷ []) given ≡ old
    by_test true go h = go h
    by_test false go h = cc

pub joined-grows : (old given : List (List ℕ)) → list_all (lists old) given ≡ false → length old < length (joined old given)
joined-grows old [] h = cc
joined-grows old (x ∷ given) h = by_test (lists old x) (joined-grows old given) (joined-longer (old ++ x ∷ []) given) h
  where
    by_test : (b : Bool) → (list_all (lists old) given ≡ false → length old < length (joined old given))
        → length (old ++ x ∷ []) ≤ length (joined (old ++ x ∷ []) given) → (b && list_all (lists old) given) ≡ false
        → length old < length (joined (if b then old else old ++ x ∷ []) given)
    by_test true go longer h = go h
    by_test false go longer h = omega (arith, longer, length-append old (x ∷ []))

-- whether the join is as long as the list shows whether the list has all of the words
pub has_all_by : (old given : List (List ℕ)) (n k : ℕ) → n ≡ length (joined old given) → k ≡ length old → (n == k) ≡ list_all (lists old) given
has_all_by old given n k e f = by_test (list_all (lists old) given) refl
  where
    by_test : (b : Bool) → list_all (lists old) given ≡ b → (n == k) ≡ b
    by_test true h =
        let same = ap (λ (ws : List (List ℕ)). length ws) (joined-same old given h)
        in grind (arith, nat_tests, e, f, same)
    by_test false h =
        let more = joined-grows old given h
        in grind (arith, nat_tests, e, f, more)

module _ (w : List ℕ) where
  -- a word of one block is one of the list
  pub in_one : (bs : List (List (List ℕ))) (i : ℕ) (d : List (List ℕ)) → i < length bs → lists (get_or bs i d) w ≡ true → lists (flat bs) w ≡ true
  in_one [] i d h e = absurd (omega (arith, h))
  in_one (b ∷ bs) zero d h e = lists-append b (flat bs) w ∙ ap (λ (x : Bool). x || lists (flat bs) w) e
  in_one (b ∷ bs) (suc i) d h e =
      lists-append b (flat bs) w ∙ ap (λ (x : Bool). lists b w || x) (in_one bs i d (omega (arith, h)) e) ∙ or_true (lists b w)
    where
      or_true : (a : Bool) → (a || true) ≡ true
      or_true true = refl
      or_true false = refl

  pub in_none : (bs : List (List (List ℕ))) (i : ℕ) (d : List (List ℕ)) → i < length bs → lists (flat (take i bs)) w ≡ false → lists (get_or bs i d) w ≡ false
      → lists (flat (take (suc i) bs)) w ≡ false
  in_none bs i d h e f =
      ap (λ (ws : List (List ℕ)). lists ws w) (flat_more bs i d h)
      ∙ lists-append (flat (take i bs)) (get_or bs i d) w
      ∙ ap (λ (x : Bool). x || lists (get_or bs i d) w) e
      ∙ f

-- what is left of two lists
pub without-append : (gone words more : List (List ℕ)) → words_without (words ++ more) gone ≡ words_without words gone ++ words_without more gone
without-append gone words more = filter-append (λ (word : List ℕ). not (lists gone word)) words more

pub without-more : (gone : List (List ℕ)) (bs : List (List (List ℕ))) (i : ℕ) (d : List (List ℕ)) → i < length bs
    → words_without (flat (take (suc i) bs)) gone ≡ words_without (flat (take i bs)) gone ++ words_without (get_or bs i d) gone
without-more gone bs i d h = ap (λ (ws : List (List ℕ)). words_without ws gone) (flat_more bs i d h) ∙ without-append gone (flat (take i bs)) (get_or bs i d)

-- where none goes, all are left
pub keeps_all : (gone words : List (List ℕ)) → list_any (lists gone) words ≡ false → words_without words gone ≡ words
keeps_all gone [] h = refl
keeps_all gone (x ∷ words) h = by_test (lists gone x) (keeps_all gone words) h
  where
    by_test : (b : Bool) → (list_any (lists gone) words ≡ false → words_without words gone ≡ words) → (b || list_any (lists gone) words) ≡ false
        → cond (not b) (x ∷ words_without words gone) (words_without words gone) ≡ x ∷ words
    by_test true go h = cc
    by_test false go h = ap (λ (ws : List (List ℕ)). x ∷ ws) (go h)

-- what is left of a block has its size, unless it is nothing
pub left_sized : (gone block seen words new : List (List ℕ)) → seen ≡ block → words ≡ words_without seen gone → new ≡ words → false ≡ (length words == 0) → IsSized block
    → IsSized new
left_sized gone block seen words new s e f h is =
    subst (λ (ws : List (List ℕ)). IsSized ws) (sym f)
    (some (length words) h, few (length words) (ap (λ (ws : List (List ℕ)). length ws) (e ∙ ap (λ (ws : List (List ℕ)). words_without ws gone) s)) is.1)
  where
    some : (n : ℕ) → false ≡ (n == 0) → 0 < n
    some zero h = cc
    some (suc n) h = omega arith

    few : (n : ℕ) → n ≡ length (words_without block gone) → length block ≤ MAX_ITEMS → n ≤ MAX_ITEMS
    few n e is = let fewer = fewer-left (λ (word : List ℕ). not (lists gone word)) block in omega (arith, e, is, fewer)

same_turned : (word other : List ℕ) → same_word word other ≡ same_word other word
same_turned word other =
    one_test (word ≡ other) (same_word word other) (same_word other word)
    (same word other, same_is word other)
    (λ e. sym (same other word e), λ e. same_is other word (sym e))

-- the words without one
pub without_one : (name : List ℕ) (words : List (List ℕ)) → words_without words (name ∷ []) ≡ filter (λ (other : List ℕ). not (same_word name other)) words
without_one name [] = refl
without_one name (x ∷ words) = by_test (same_word x name || false) (same_word name x) (or_false (same_word x name) ∙ same_turned x name) (without_one name words)
  where
    by_test : (a b : Bool) → a ≡ b → words_without words (name ∷ []) ≡ filter (λ (other : List ℕ). not (same_word name other)) words
        → cond (not a) (x ∷ words_without words (name ∷ [])) (words_without words (name ∷ []))
        ≡ cond (not b) (x ∷ filter (λ (other : List ℕ). not (same_word name other)) words) (filter (λ (other : List ℕ). not (same_word name other)) words)
    by_test true true e go = go
    by_test true false e go = cc
    by_test false true e go = cc
    by_test false false e go = ap (λ (ws : List (List ℕ)). x ∷ ws) go
