-- The `set` lines of all statements, in printing order, make what saying them in that order makes.
use Rattle.std.proofs.Common.{◌≡◌, ◌≢◌, ℕ, zero, suc, ◌+◌, ◌-◌, ◌<◌, ◌≤◌, ◌==◌, Bool, true, false, ◌||◌, ◌⊎◌, List, [], ◌∷◌, ◌++◌, length, take, flat_map, refl, sym, ap, subst, ◌∙◌, inl, inr, Option, Some, None, is_some, if◌then◌else◌, arith, length-append, append_assoc, append-nil}
use Rattle.std.specs.Prelude.{IsSome}
use Rattle.std.specs.FinMap as map
use Rattle.std.specs.List.{IsDistinct, AllByRecursion}
use Rattle.std.proofs.lemmas.Bool.{cases_lt}
use Rattle.std.proofs.lemmas.List.{take_at, take_all, length-take, map-append}
use Rattle.std.proofs.lemmas.List.Elements.{All-nil, All-cons, All-head, All-tail}
use Rattle.std.proofs.lemmas.List.Concat.{flat_map-append}
use Rattle.std.proofs.lemmas.Map.Keys.{IsDistinct-head, IsDistinct-tail}
use Rattle.cfg_base.specs.Order.{path_cmp}
use Rattle.cfg_base.specs.Words.{lists, same_word}
use Rattle.cfg_base.proofs.WordLemmas.{lists_more}
use Rattle.cfg_base.specs.declared.kind.Shape.{Shape}
use Rattle.cfg_base.specs.declared.kind.Shape.TheVariants.{Container, Fixed, Keyed, Bare, Leaf, Flag, Many}
use Rattle.cfg_base.specs.declared.path.Step.{Step}
use Rattle.cfg_base.specs.declared.path.TheConstants.{MAX_STEPS}
use Rattle.cfg_base.specs.declared.value.Value.{Value}
use Rattle.cfg_schema.specs.declared.place.Place.{Place}
use Rattle.cfg_schema.specs.Profile.{row_of}
use Rattle.cfg_schema.specs.Place.{top_place, place_of}
use Rattle.cfg_schema.proofs.TestLemmas.{same as same_words, same_is}
use Rattle.cfg_values.specs.Spelling.{IsCanonical}
use Rattle.cfg_tree.specs.Statements.{Statements, parent_of}
use Rattle.cfg_tree.specs.Typed.{AreCounted, AreCanonical, AreWordsOf}
use Rattle.cfg_tree.specs.Tree.{IsTree}
use Rattle.cfg_tree.specs.Change.{put_at}
use Rattle.cfg_tree.specs.Children.{children_of}
use Rattle.cfg_tree.specs.Gather.{joined_at}
use Rattle.cfg_tree.specs.OwnWords.{own_words}
use Rattle.cfg_resolve.specs.Resolve.{AreGiven}
use Rattle.cfg_tree.specs.Stated.{stated_one, stated}
use Rattle.cfg_tree.proofs.FollowLemmas.{typed_place}
use Rattle.cfg_tree.proofs.PathLemmas.{child_longer}
use Rattle.cfg_tree.proofs.StepLemmas.{puts}
use Rattle.cfg_tree.proofs.StatedLemmas.{stated-append, stays_there}
use Rattle.edit_ops.specs.Value.{no_value, value_or_none, value_set, words_set, has_words}
use Rattle.edit_ops.specs.Change.{with_level, with_levels, set_of}
use Rattle.set_text.specs.Printed.{Line, set_line, word_lines, sets_by, sets_at, sets_in, sets_of, with_below, each_below, paths_below}
use Rattle.set_text.proofs.PrintedLemmas.{paths_below_more}
use Rattle.curly_text.proofs.FillLemmas.{Lists, Differ, children_differ, child_there, no_deeper, item_and, items_below, child_items}
use Rattle.set_laws.proofs.LookLemmas.{plain, Unprotected, put_open, put_stays, levels_all, IsReached}
use Rattle.set_laws.proofs.SetLemmas.{bare_item, bare, SetsAll, sets_both, sets_wider, sets_open, sets_kept, AtChild, Below, set_first, set_more}

abbrev pub set_lines : Statements → List (List Step) → List Line
set_lines m paths = flat_map (sets_of m) paths

-- a path that is not longer than another one
along : (p rest : List Step) (s : Step) → (p ++ s ∷ []) ++ rest ≡ p ++ s ∷ rest
along p rest s = append_assoc p (s ∷ []) rest

longer : (p rest : List Step) (s : Step) → p ++ s ∷ rest ≢ p
longer p rest s e = let k = ap (λ (xs : List Step). length xs) e in omega (arith, k, length-append p (s ∷ rest))

-- a value without marks is unset by a set that names one word, or none
one_word : (w : List ℕ) (b : Bool) → words_set b [] (w ∷ []) ≡ w ∷ []
one_word w true = refl
one_word w false = refl

no_word : (b : Bool) → words_set b [] [] ≡ []
no_word true = refl
no_word false = refl

-- all levels above the next one are there
reached_next : (x : Statements) (p : List Step) (s : Step) → ((k : ℕ) → 0 < k → k ≤ length p → IsSome (map.get x (take k p))) → IsReached x (p ++ s ∷ [])
reached_next x p s there k some within =
    subst (λ (q : List Step). IsSome (map.get x q)) (sym (front p k (omega (arith, child_longer p s, within)))) (there k some (omega (arith, child_longer p s, within)))
  where
    front : (q : List Step) (n : ℕ) → n ≤ length q → take n (q ++ s ∷ []) ≡ take n q
    front [] zero short = refl
    front [] (suc n) short = absurd (omega (arith, short))
    front (t ∷ q) zero short = refl
    front (t ∷ q) (suc n) short = ap (λ (r : List Step). t ∷ r) (front q n (omega (arith, short)))

abbrev IsHere : Statements → List Step → Type 0
IsHere x p = (k : ℕ) → 0 < k → k ≤ length p → IsSome (map.get x (take k p))

-- a new statement, said
module _ (m : Statements) (tree : IsTree m) (p : List Step) (s : Step) (v : Value) (found : map.get m (p ++ s ∷ []) ≡ Some v) (here : Place) (placed : place_of (p ++ s ∷ []) ≡ Some here)
    (x : Statements) (reached : IsHere x p) (new : map.get x (p ++ s ∷ []) ≡ None) (start : Unprotected x) where
  fits : AreWordsOf here.row v.words
  fits = tree.typed.words (p ++ s ∷ []) v here found placed

  some_steps : 0 < length (p ++ s ∷ [])
  some_steps = omega (arith, child_longer p s)

  said : Statements
  said = put_at x (p ++ s ∷ []) (plain v.words)

  said_is : stated_one x (p ++ s ∷ [], plain v.words) ≡ put_at x (p ++ s ∷ []) (plain v.words)
  said_is = ap (λ (o : Option Value). put_at x (p ++ s ∷ []) (joined_at (p ++ s ∷ []) o (plain v.words))) new

  abbrev Ends : List Line → Type 0
  Ends lines = SetsAll m (AtChild p s) x lines (put_at x (p ++ s ∷ []) (plain v.words))

  -- one line without a word
  bare_line : v.words ≡ [] → has_words (row_of here.row).shape ≡ false → AreGiven (row_of here.row).shape [] → Ends (set_line (own_words (p ++ s ∷ [])) ∷ [])
  bare_line none flat given =
      subst (λ (ws : List (List ℕ)). SetsAll m (AtChild p s) x (set_line (own_words (p ++ s ∷ [])) ∷ []) (put_at x (p ++ s ∷ []) (plain ws))) (sym none)
      (subst (λ (ws : List (List ℕ)). SetsAll m (AtChild p s) x (set_line ws ∷ []) (put_at x (p ++ s ∷ []) (plain []))) (append-nil (own_words (p ++ s ∷ []))) (
        put_at x (p ++ s ∷ []) (plain []),
        set_first m p s v found here placed fits x [] (reached_next x p s reached) new start (All-nil (IsCanonical (row_of here.row).value_kind)) given (λ e. let f = sym e ∙ flat in cc) no_word,
        refl,
      ))

  -- a line for each further word
  word_more : (row_of here.row).shape ≡ Many → (front more : List (List ℕ)) → AreCanonical (row_of here.row).value_kind more → AllByRecursion (λ w. lists front w ≡ false) more → IsDistinct same_word more
      → SetsAll m (AtChild p s) (put_at x (p ++ s ∷ []) (plain front)) (word_lines (p ++ s ∷ []) more) (put_at x (p ++ s ∷ []) (plain (front ++ more)))
  word_more shape front [] canonical apart distinct = ap (λ (ws : List (List ℕ)). put_at x (p ++ s ∷ []) (plain ws)) (sym (append-nil front))
  word_more shape front (w ∷ more) canonical apart distinct = (
    put_at x (p ++ s ∷ []) (plain (front ++ w ∷ [])),
    set_more m p s v found here placed fits x front w (reached_next x p s reached) new start shape
        (All-cons (IsCanonical (row_of here.row).value_kind) w [] (All-head (IsCanonical (row_of here.row).value_kind) w more canonical) (All-nil (IsCanonical (row_of here.row).value_kind))) apart.0,
    subst (λ (ws : List (List ℕ)). SetsAll m (AtChild p s) (put_at x (p ++ s ∷ []) (plain (front ++ w ∷ []))) (word_lines (p ++ s ∷ []) more) (put_at x (p ++ s ∷ []) (plain ws)))
        (append_assoc front (w ∷ []) more)
        (word_more shape (front ++ w ∷ []) more (All-tail (IsCanonical (row_of here.row).value_kind) w more canonical) (others more apart.1 (IsDistinct-head same_word w more distinct)) (IsDistinct-tail same_word w more distinct)),
  )
    where
      or_false : (a b : Bool) → a ≡ false → b ≡ false → (a || b) ≡ false
      or_false a b e f = ap (λ (c : Bool). c || b) e ∙ f

      swapped : (a b : List ℕ) → same_word a b ≡ false → same_word b a ≡ false
      swapped a b e = by_test (same_word b a) refl
        where
          by_test : (t : Bool) → same_word b a ≡ t → t ≡ false
          by_test true f = let g = same_is a b (sym (same_words b a f)) in cc
          by_test false f = refl

      others : (vs : List (List ℕ)) → AllByRecursion (λ u. lists front u ≡ false) vs → AllByRecursion (λ u. same_word w u ≡ false) vs → AllByRecursion (λ u. lists (front ++ w ∷ []) u ≡ false) vs
      others [] h k = tt
      others (u ∷ vs) h k = (lists_more front w u ∙ or_false (lists front u) (same_word u w) h.0 (swapped w u k.0), others vs h.1 k.1)

  -- a word has no word before it in the list
  none_before : (words : List (List ℕ)) → AllByRecursion (λ w. lists [] w ≡ false) words
  none_before [] = tt
  none_before (w ∷ words) = (refl, none_before words)

  -- the lines of a statement with words
  some_words : (words : List (List ℕ)) → v.words ≡ words → 0 < length words → AreCanonical (row_of here.row).value_kind words → ((w : List ℕ) → AreGiven (row_of here.row).shape (w ∷ []))
      → (((row_of here.row).shape ≡ Many) × IsDistinct same_word words) ⊎ (length words ≡ 1) → Ends (word_lines (p ++ s ∷ []) words)
  some_words [] same some canonical given counted = absurd (omega (arith, some))
  some_words (w ∷ more) same some canonical given counted =
      subst (λ (ws : List (List ℕ)). SetsAll m (AtChild p s) x (word_lines (p ++ s ∷ []) (w ∷ more)) (put_at x (p ++ s ∷ []) (plain ws))) (sym same) (
        put_at x (p ++ s ∷ []) (plain (w ∷ [])),
        set_first m p s v found here placed fits x (w ∷ []) (reached_next x p s reached) new start (All-cons (IsCanonical (row_of here.row).value_kind) w [] (All-head (IsCanonical (row_of here.row).value_kind) w more canonical) (All-nil (IsCanonical (row_of here.row).value_kind))) (given w) (λ e. omega arith) (one_word w),
        rest counted,
      )
    where
      nothing : (ws : List (List ℕ)) → length (w ∷ ws) ≡ 1 → ws ≡ []
      nothing [] e = refl
      nothing (u ∷ ws) e = absurd (omega (arith, e))

      first_apart : (ws : List (List ℕ)) → AllByRecursion (λ u. same_word w u ≡ false) ws → AllByRecursion (λ u. lists (w ∷ []) u ≡ false) ws
      first_apart [] h = tt
      first_apart (u ∷ ws) h = (flipped, first_apart ws h.1)
        where
          flipped : lists (w ∷ []) u ≡ false
          flipped = by_test (same_word u w) refl
            where
              by_test : (t : Bool) → same_word u w ≡ t → (t || false) ≡ false
              by_test true f = let g = same_is w u (sym (same_words u w f)) in let clash = h.0 in cc
              by_test false f = refl

      rest : (((row_of here.row).shape ≡ Many) × IsDistinct same_word (w ∷ more)) ⊎ (length (w ∷ more) ≡ 1)
          → SetsAll m (AtChild p s) (put_at x (p ++ s ∷ []) (plain (w ∷ []))) (word_lines (p ++ s ∷ []) more) (put_at x (p ++ s ∷ []) (plain (w ∷ more)))
      rest (inl many) =
          word_more many.0 (w ∷ []) more (All-tail (IsCanonical (row_of here.row).value_kind) w more canonical) (first_apart more (IsDistinct-head same_word w more many.1)) (IsDistinct-tail same_word w more many.1)
      rest (inr one) =
          subst (λ (ws : List (List ℕ)). SetsAll m (AtChild p s) (put_at x (p ++ s ∷ []) (plain (w ∷ []))) (word_lines (p ++ s ∷ []) ws) (put_at x (p ++ s ∷ []) (plain (w ∷ ws)))) (sym (nothing more one)) refl

  -- the lines of a statement of each shape; a level with children has none
  by_shape : (shape : Shape) (childless : Bool) → (row_of here.row).shape ≡ shape
      → Ends (sets_by shape (p ++ s ∷ []) childless v.words) ⊎ ((sets_by shape (p ++ s ∷ []) childless v.words ≡ []) × (v.words ≡ []) × (childless ≡ false))
  by_shape Container true e = inl (bare_line (subst (λ (k : Shape). AreCounted k v.words) e fits.0) (ap has_words e) (subst (λ (k : Shape). AreGiven k []) (sym e) refl))
  by_shape Container false e = inr (refl, subst (λ (k : Shape). AreCounted k v.words) e fits.0, refl)
  by_shape Fixed true e = inl (bare_line (subst (λ (k : Shape). AreCounted k v.words) e fits.0) (ap has_words e) (subst (λ (k : Shape). AreGiven k []) (sym e) refl))
  by_shape Fixed false e = inr (refl, subst (λ (k : Shape). AreCounted k v.words) e fits.0, refl)
  by_shape Keyed true e = inl (bare_line (subst (λ (k : Shape). AreCounted k v.words) e fits.0) (ap has_words e) (subst (λ (k : Shape). AreGiven k []) (sym e) refl))
  by_shape Keyed false e = inr (refl, subst (λ (k : Shape). AreCounted k v.words) e fits.0, refl)
  by_shape Bare true e = inl (bare_line (subst (λ (k : Shape). AreCounted k v.words) e fits.0) (ap has_words e) (subst (λ (k : Shape). AreGiven k []) (sym e) refl))
  by_shape Bare false e = inr (refl, subst (λ (k : Shape). AreCounted k v.words) e fits.0, refl)
  by_shape Flag childless e = inl (bare_line (subst (λ (k : Shape). AreCounted k v.words) e fits.0) (ap has_words e) (subst (λ (k : Shape). AreGiven k []) (sym e) refl))
  by_shape Leaf childless e =
      let one : length v.words ≡ 1 = subst (λ (k : Shape). AreCounted k v.words) e fits.0 in
      inl (some_words v.words refl (omega (arith, one)) fits.1 (λ w. subst (λ (k : Shape). AreGiven k (w ∷ [])) (sym e) (omega arith)) (inr one))
  by_shape Many childless e =
      let many : AreCounted Many v.words = subst (λ (k : Shape). AreCounted k v.words) e fits.0 in
      inl (some_words v.words refl many.0 fits.1 (λ w. subst (λ (k : Shape). AreGiven k (w ∷ [])) (sym e) tt) (inl (e, many.1)))

  own_is : sets_of m (p ++ s ∷ []) ≡ sets_by (row_of here.row).shape (p ++ s ∷ []) (length (children_of m (p ++ s ∷ [])) == 0) v.words
  own_is =
      ap (λ (o : Option Value). sets_in (p ++ s ∷ []) (length (children_of m (p ++ s ∷ [])) == 0) o) found
      ∙ ap (λ (o : Option Place). sets_at o (p ++ s ∷ []) (length (children_of m (p ++ s ∷ [])) == 0) v.words) placed

  -- its own lines make it; or it is a level with children, and has none
  pub own_lines : SetsAll m (AtChild p s) x (sets_of m (p ++ s ∷ [])) (put_at x (p ++ s ∷ []) (plain v.words))
      ⊎ ((sets_of m (p ++ s ∷ []) ≡ []) × (v.words ≡ []) × ((length (children_of m (p ++ s ∷ [])) == 0) ≡ false))
  own_lines =
      elim (by_shape (row_of here.row).shape (length (children_of m (p ++ s ∷ [])) == 0) refl) [
        | inl ends ↦ inl (subst (λ (ls : List Line). SetsAll m (AtChild p s) x ls (put_at x (p ++ s ∷ []) (plain v.words))) (sym own_is) ends)
        | inr level ↦ inr (own_is ∙ level.0, level.1, level.2)
      ]

  -- the levels of what is below it are made as if it was there
  levels_from : (path : List Step) (rest : List Step) (t : Step) → path ≡ p ++ s ∷ t ∷ rest → (n : ℕ) → length p < n → with_levels x n path ≡ with_levels (put_at x (p ++ s ∷ []) no_value) n path
  levels_from path rest t below zero more = absurd (omega (arith, more))
  levels_from path rest t below (suc n) more =
      elim (cases_lt (length p) n) as (λ _. with_levels x (suc n) path ≡ with_levels (put_at x (p ++ s ∷ []) no_value) (suc n) path) [
        | inl deeper ↦ ap (λ (y : Statements). with_level y (take (suc n) path)) (levels_from path rest t below n deeper)
        | inr last ↦
            let same : n ≡ length p = omega (arith, more, last) in
            let front : take (suc n) path ≡ p ++ s ∷ [] = front_is n same in
            ap (λ (y : Statements). with_level y (take (suc n) path)) (levels_all x n path (λ k some within. subst (λ (q : List Step). IsSome (map.get x q)) (sym (front_of k (omega (arith, within, same)))) (reached k some (omega (arith, within, same)))))
            ∙ ap (with_level x) front
            ∙ ap (λ (o : Option Value). if is_some o then x else put_at x (p ++ s ∷ []) no_value) new
            ∙ sym (levels_all (put_at x (p ++ s ∷ []) no_value) (suc n) path (λ k some within. upto n same k some within (cases_lt k (suc n))))
      ]
    where
      whole : path ≡ (p ++ s ∷ []) ++ t ∷ rest
      whole = below ∙ sym (append_assoc p (s ∷ []) (t ∷ rest))

      front_is : (k : ℕ) → k ≡ length p → take (suc k) path ≡ p ++ s ∷ []
      front_is k same =
          ap (take (suc k)) whole ∙ take_at (p ++ s ∷ []) (t ∷ rest) (suc k) (omega (arith, same, child_longer p s))

      front_of : (k : ℕ) → k ≤ length p → take k path ≡ take k p
      front_of k short = ap (take k) below ∙ take_front p (s ∷ t ∷ rest) k short
        where
          take_front : (q r : List Step) (i : ℕ) → i ≤ length q → take i (q ++ r) ≡ take i q
          take_front [] r zero h = refl
          take_front [] r (suc i) h = absurd (omega (arith, h))
          take_front (u ∷ q) r zero h = refl
          take_front (u ∷ q) r (suc i) h = ap (λ (z : List Step). u ∷ z) (take_front q r i (omega (arith, h)))

      upto : (k : ℕ) → k ≡ length p → (i : ℕ) → 0 < i → i ≤ suc k → (i < suc k) ⊎ (suc k ≤ i) → IsSome (map.get (put_at x (p ++ s ∷ []) no_value) (take i path))
      upto k same i some within (inl less) =
          put_stays x (p ++ s ∷ []) (take i path) no_value
          (subst (λ (q : List Step). IsSome (map.get x q)) (sym (front_of i (omega (arith, less, same)))) (reached i some (omega (arith, less, same))))
      upto k same i some within (inr up) =
          subst (λ (q : List Step). IsSome (map.get (put_at x (p ++ s ∷ []) no_value) q)) (sym (let last : i ≡ suc k = omega (arith, within, up) in ap (λ (j : ℕ). take j path) last ∙ front_is k same))
          (ap is_some (puts x (p ++ s ∷ []) no_value some_steps).here)

  -- a set below it makes it, where it isn't there
  set_lagging : (path rest : List Step) (t : Step) (words : List (List ℕ)) → path ≡ p ++ s ∷ t ∷ rest → map.get x path ≡ None → set_of (put_at x (p ++ s ∷ []) no_value) path words ≡ set_of x path words
  set_lagging path rest t words below none =
      let long : length p < length path - 1 = omega (arith, ap (λ (q : List Step). length q) below, length-append p (s ∷ t ∷ rest)) in
      let size = ap (λ (q : List Step). length q) below in
      let other = (puts x (p ++ s ∷ []) no_value some_steps).others path
      (λ e. let k = ap (λ (q : List Step). length q) e in omega (arith, k, size, length-append p (s ∷ t ∷ rest), child_longer p s))
      (λ e. let k = ap (λ (q : List Step). length q) e in omega (arith, k, size, length-append p (s ∷ t ∷ rest), child_longer p s, length-parent (p ++ s ∷ []))) in
      ap (λ (y : Statements). put_at y path (value_set path (value_or_none (map.get (put_at x (p ++ s ∷ []) no_value) path)) words)) (sym (levels_from path rest t below (length path - 1) long))
      ∙ ap (λ (o : Option Value). put_at (with_levels x (length path - 1) path) path (value_set path (value_or_none o) words)) other
    where
      length-parent : (q : List Step) → length (parent_of q) ≤ length q
      length-parent q = omega (arith, length-take (length q - 1) q)

  -- what is below a level with children makes it
  pub lag_first : v.words ≡ [] → ((rest : List Step) → map.get x (p ++ s ∷ rest) ≡ None) → (z : Statements) (lines : List Line) → 0 < length lines
      → SetsAll m (Below (p ++ s ∷ [])) (put_at x (p ++ s ∷ []) (plain v.words)) lines z → SetsAll m (AtChild p s) x lines z
  lag_first none free z [] some sets = absurd (omega (arith, some))
  lag_first none free z (l ∷ lines) some sets =
      let one = sets.1 in
      let t = one.passed.0 in
      let rest = one.passed.1 in
      let below : one.path ≡ p ++ s ∷ t ∷ rest = one.passed.2 ∙ append_assoc p (s ∷ []) (t ∷ rest) in
      let gone : map.get x one.path ≡ None = ap (map.get x) below ∙ free (t ∷ rest) in
      let put = puts (with_levels x (length one.path - 1) one.path) one.path (value_set one.path (value_or_none (map.get x one.path)) one.words)
      (omega (arith, ap (λ (q : List Step). length q) below, length-append p (s ∷ t ∷ rest))) in
      let level : put_at x (p ++ s ∷ []) (plain v.words) ≡ put_at x (p ++ s ∷ []) no_value = ap (λ (ws : List (List ℕ)). put_at x (p ++ s ∷ []) (plain ws)) none in
      let made : sets.0 ≡ set_of x one.path one.words = one.made ∙ ap (λ (y : Statements). set_of y one.path one.words) level ∙ set_lagging one.path rest t one.words below gone in (
        sets.0,
        record {
          path = one.path;
          passed = (t ∷ rest, below);
          words = one.words;
          value = one.value;
          found = one.found;
          is_line = one.is_line;
          given = one.given;
          enough = one.enough;
          made = made;
          differs = λ e. let h = sym gone ∙ e ∙ ap (λ (y : Statements). map.get y one.path) made ∙ put.here in cc;
          open_before = start;
          open_after = one.open_after;
        },
        sets_wider m (Below (p ++ s ∷ [])) (AtChild p s) sets.0 z lines (λ q h. (h.0 ∷ h.1, h.2 ∙ append_assoc p (s ∷ []) (h.0 ∷ h.1))) sets.2,
      )

  -- all levels of it are there once it is put
  pub here_after : (w : Value) → IsHere (put_at x (p ++ s ∷ []) w) (p ++ s ∷ [])
  here_after w k some within =
      elim (cases_lt (length p) k) as (λ _. IsSome (map.get (put_at x (p ++ s ∷ []) w) (take k (p ++ s ∷ [])))) [
        | inl last ↦
            let whole : take k (p ++ s ∷ []) ≡ p ++ s ∷ [] = take_all k (p ++ s ∷ []) (omega (arith, last, child_longer p s)) in
            subst (λ (q : List Step). IsSome (map.get (put_at x (p ++ s ∷ []) w) q)) (sym whole) (ap is_some (puts x (p ++ s ∷ []) w some_steps).here)
        | inr above ↦ put_stays x (p ++ s ∷ []) (take k (p ++ s ∷ [])) w (reached_next x p s reached k some (omega (arith, above, child_longer p s)))
      ]

  -- nothing is below it yet
  pub free_after : ((rest : List Step) → map.get x (p ++ s ∷ rest) ≡ None) → (w : Value) (t : Step) (rest : List Step) → map.get (put_at x (p ++ s ∷ []) w) ((p ++ s ∷ []) ++ t ∷ rest) ≡ None
  free_after free w t rest =
      (puts x (p ++ s ∷ []) w some_steps).others ((p ++ s ∷ []) ++ t ∷ rest) (longer (p ++ s ∷ []) rest t)
      (λ e. let k = ap (λ (q : List Step). length q) e in omega (arith, k, length-append (p ++ s ∷ []) (t ∷ rest), length-take (length (p ++ s ∷ []) - 1) (p ++ s ∷ [])))
      ∙ ap (map.get x) (append_assoc p (s ∷ []) (t ∷ rest))
      ∙ free (t ∷ rest)

-- a statement has lines of its own, or has children
lines_or_children : (shape : Shape) (path : List Step) (childless : Bool) (words : List (List ℕ)) → AreCounted shape words → (0 < length (sets_by shape path childless words)) ⊎ (childless ≡ false)
lines_or_children Container path true words h = inl (omega arith)
lines_or_children Container path false words h = inr refl
lines_or_children Fixed path true words h = inl (omega arith)
lines_or_children Fixed path false words h = inr refl
lines_or_children Keyed path true words h = inl (omega arith)
lines_or_children Keyed path false words h = inr refl
lines_or_children Bare path true words h = inl (omega arith)
lines_or_children Bare path false words h = inr refl
lines_or_children Flag path childless words h = inl (omega arith)
lines_or_children Leaf path childless [] h = absurd (omega (arith, h))
lines_or_children Leaf path childless (w ∷ words) h = inl (omega arith)
lines_or_children Many path childless [] h = absurd (omega (arith, h.0))
lines_or_children Many path childless (w ∷ words) h = inl (omega arith)

module _ (m : Statements) (tree : IsTree m) where
  place_there : (q : List Step) (v : Value) → map.get m q ≡ Some v → (here : Place) × (place_of q ≡ Some here)
  place_there q v found = typed_place q top_place (tree.typed.paths q (ap is_some found))

  own_or_children : (q : List Step) (v : Value) → map.get m q ≡ Some v → (0 < length (sets_of m q)) ⊎ ((length (children_of m q) == 0) ≡ false)
  own_or_children q v found =
      let here = place_there q v found in
      let is : sets_of m q ≡ sets_by (row_of here.0.row).shape q (length (children_of m q) == 0) v.words =
      ap (λ (o : Option Value). sets_in q (length (children_of m q) == 0) o) found
      ∙ ap (λ (o : Option Place). sets_at o q (length (children_of m q) == 0) v.words) here.1 in
      elim (lines_or_children (row_of here.0.row).shape q (length (children_of m q) == 0) v.words (tree.typed.words q v here.0 found here.1).0) [
        | inl some ↦ inl (subst (λ (ls : List Line). 0 < length ls) (sym is) some)
        | inr children ↦ inr children
      ]

  -- below a level with children some line is
  some_below : (levels : ℕ) (q : List Step) → 10 ≤ levels + length q → (length (children_of m q) == 0) ≡ false → 0 < length (set_lines m (paths_below levels m q))
  some_below zero q deep children =
      let none = no_deeper m tree q (omega (arith, deep)) in
      absurd (clash (ap (λ (steps : List Step). length steps == 0) none) children)
    where
      clash : (length (children_of m q) == 0) ≡ true → (length (children_of m q) == 0) ≡ false → ⊥
      clash a b = cc
  some_below (suc levels) q deep children =
      subst (λ (ps : List (List Step)). 0 < length (set_lines m ps)) (sym (paths_below_more levels m q))
      (by_steps (children_of m q) refl children (λ t more. some_below levels (q ++ t ∷ []) (omega (arith, deep, child_longer q t)) more))
    where
      by_steps : (steps : List Step) → children_of m q ≡ steps → (length steps == 0) ≡ false
          → ((t : Step) → (length (children_of m (q ++ t ∷ [])) == 0) ≡ false → 0 < length (set_lines m (paths_below levels m (q ++ t ∷ []))))
          → 0 < length (set_lines m (each_below (paths_below levels m) q steps))
      by_steps [] e h deeper = absurd cc
      by_steps (t ∷ steps) e h deeper = by_value (map.get m (q ++ t ∷ [])) refl
        where
          there : is_some (map.get m (q ++ t ∷ [])) ≡ true
          there = child_there m tree q t (subst (λ (ss : List Step). Lists ss t) (sym e) (inl refl))

          first : 0 < length (set_lines m (with_below (paths_below levels m) (q ++ t ∷ []))) → 0 < length (set_lines m (each_below (paths_below levels m) q (t ∷ steps)))
          first some =
              subst (λ (ls : List Line). 0 < length ls) (sym (flat_map-append (sets_of m) (with_below (paths_below levels m) (q ++ t ∷ [])) (each_below (paths_below levels m) q steps)))
              (omega (arith, some, length-append (set_lines m (with_below (paths_below levels m) (q ++ t ∷ []))) (set_lines m (each_below (paths_below levels m) q steps))))

          by_value : (o : Option Value) → map.get m (q ++ t ∷ []) ≡ o → 0 < length (set_lines m (each_below (paths_below levels m) q (t ∷ steps)))
          by_value None f = let gone = ap is_some f in let found = there in cc
          by_value (Some v) f =
              let size = length-append (sets_of m (q ++ t ∷ [])) (set_lines m (paths_below levels m (q ++ t ∷ []))) in
              elim (own_or_children (q ++ t ∷ []) v f) as (λ _. 0 < length (set_lines m (each_below (paths_below levels m) q (t ∷ steps)))) [
                | inl some ↦ first (omega (arith, some, size))
                | inr more ↦ first (omega (arith, deeper t more, size))
              ]

  abbrev SetsBelow : ℕ → List Step → Type 0
  SetsBelow levels p = (x : Statements) → Unprotected x → IsHere x p → ((s : Step) (rest : List Step) → map.get x (p ++ s ∷ rest) ≡ None)
      → SetsAll m (Below p) x (set_lines m (paths_below levels m p)) (stated x (bare (items_below levels m p)))

  one_child : (levels : ℕ) (p : List Step) (s : Step) (o : Option Value) (x : Statements) → map.get m (p ++ s ∷ []) ≡ o → is_some o ≡ true → 10 ≤ levels + length (p ++ s ∷ [])
      → Unprotected x → IsHere x p → ((rest : List Step) → map.get x (p ++ s ∷ rest) ≡ None) → SetsBelow levels (p ++ s ∷ [])
      → SetsAll m (AtChild p s) x (set_lines m (with_below (paths_below levels m) (p ++ s ∷ []))) (stated x (bare (item_and (p ++ s ∷ []) o (items_below levels m (p ++ s ∷ [])))))
  one_child levels p s None x found there deep start reached free more = absurd cc
  one_child levels p s (Some v) x found there deep start reached free more =
      let here = place_there (p ++ s ∷ []) v found in
      let some : 0 < length (p ++ s ∷ []) = omega (arith, child_longer p s) in
      let is = said_is m tree p s v found here.0 here.1 x reached (free []) start in
      let below = more (put_at x (p ++ s ∷ []) (plain v.words)) (put_open x (p ++ s ∷ []) (plain v.words) some refl start)
      (here_after m tree p s v found here.0 here.1 x reached (free []) start (plain v.words))
      (free_after m tree p s v found here.0 here.1 x reached (free []) start free (plain v.words)) in
      subst (λ (y : Statements). SetsAll m (AtChild p s) x (set_lines m (with_below (paths_below levels m) (p ++ s ∷ []))) (stated y (bare (items_below levels m (p ++ s ∷ []))))) (sym is)
      (elim (own_lines m tree p s v found here.0 here.1 x reached (free []) start)
      as (λ _. SetsAll m (AtChild p s) x (sets_of m (p ++ s ∷ []) ++ set_lines m (paths_below levels m (p ++ s ∷ []))) (stated (put_at x (p ++ s ∷ []) (plain v.words)) (bare (items_below levels m (p ++ s ∷ []))))) [
        | inl ends ↦
            sets_both m (AtChild p s) x (put_at x (p ++ s ∷ []) (plain v.words)) _ (sets_of m (p ++ s ∷ [])) (set_lines m (paths_below levels m (p ++ s ∷ []))) ends
            (sets_wider m (Below (p ++ s ∷ [])) (AtChild p s) (put_at x (p ++ s ∷ []) (plain v.words)) _ (set_lines m (paths_below levels m (p ++ s ∷ [])))
            (λ q h. (h.0 ∷ h.1, h.2 ∙ append_assoc p (s ∷ []) (h.0 ∷ h.1))) below)
        | inr level ↦
            subst (λ (ls : List Line). SetsAll m (AtChild p s) x (ls ++ set_lines m (paths_below levels m (p ++ s ∷ []))) (stated (put_at x (p ++ s ∷ []) (plain v.words)) (bare (items_below levels m (p ++ s ∷ []))))) (sym level.0)
            (lag_first m tree p s v found here.0 here.1 x reached (free []) start level.1 free _ (set_lines m (paths_below levels m (p ++ s ∷ [])))
            (some_below levels (p ++ s ∷ []) deep level.2) below)
      ])

  all_children : (levels : ℕ) (p steps : List Step) (x : Statements) → Differ steps → 10 ≤ suc levels + length p
      → ((s : Step) → Lists steps s → is_some (map.get m (p ++ s ∷ [])) ≡ true)
      → Unprotected x → IsHere x p → ((s : Step) (rest : List Step) → Lists steps s → map.get x (p ++ s ∷ rest) ≡ None)
      → ((s : Step) → SetsBelow levels (p ++ s ∷ []))
      → SetsAll m (Below p) x (set_lines m (each_below (paths_below levels m) p steps)) (stated x (bare (flat_map (child_items levels m p) steps)))
  all_children levels p [] x differ deep there start reached free more = refl
  all_children levels p (s ∷ steps) x differ deep there start reached free more =
      let one = one_child levels p s (map.get m (p ++ s ∷ [])) x refl (there s (inl refl)) (omega (arith, deep, child_longer p s)) start reached (λ rest. free s rest (inl refl)) (more s) in
      let after : Statements = stated x (bare (child_items levels m p s)) in
      let others = all_children levels p steps after differ.1 deep (λ t l. there t (inr l))
      (sets_open m (AtChild p s) x after (set_lines m (with_below (paths_below levels m) (p ++ s ∷ []))) start one)
      (λ k some within. stays_there x (bare (child_items levels m p s)) (take k p) (reached k some within))
      (λ t rest l. sets_kept m p s t rest x after (set_lines m (with_below (paths_below levels m) (p ++ s ∷ []))) (λ e. differ.0 (subst (Lists steps) e l)) one ∙ free t rest (inr l))
      more in
      subst (λ (ls : List Line). SetsAll m (Below p) x ls (stated x (bare (flat_map (child_items levels m p) (s ∷ steps)))))
      (sym (flat_map-append (sets_of m) (with_below (paths_below levels m) (p ++ s ∷ [])) (each_below (paths_below levels m) p steps)))
      (subst (λ (y : Statements). SetsAll m (Below p) x (set_lines m (with_below (paths_below levels m) (p ++ s ∷ [])) ++ set_lines m (each_below (paths_below levels m) p steps)) y)
      (sym (ap (stated x) (map-append bare_item (child_items levels m p s) (flat_map (child_items levels m p) steps)) ∙ stated-append x (bare (child_items levels m p s)) (bare (flat_map (child_items levels m p) steps))))
      (sets_both m (Below p) x after _ (set_lines m (with_below (paths_below levels m) (p ++ s ∷ []))) (set_lines m (each_below (paths_below levels m) p steps))
      (sets_wider m (AtChild p s) (Below p) x after (set_lines m (with_below (paths_below levels m) (p ++ s ∷ []))) (λ q h. (s, h.0, h.1)) one) others))

  sets_below : (levels : ℕ) (p : List Step) → 10 ≤ levels + length p → SetsBelow levels p
  unfolding paths_below items_below
  sets_below zero p deep x start reached free = refl
  sets_below (suc levels) p deep x start reached free =
      all_children levels p (children_of m p) x (children_differ m tree p) deep (child_there m tree p) start reached (λ s rest l. free s rest)
      (λ s. sets_below levels (p ++ s ∷ []) (omega (arith, deep, child_longer p s)))

  -- all `set` lines, from nothing
  pub sets_from_none : SetsAll m (Below []) (map.empty {R = path_cmp}) (set_lines m (paths_below MAX_STEPS m [])) (stated map.empty (bare (items_below MAX_STEPS m [])))
  sets_from_none =
      sets_below MAX_STEPS [] (omega arith) map.empty
      (λ q v e. let h = sym (map.get-empty {X = Value} path_cmp q) ∙ e in cc)
      (λ k some within. absurd (omega (arith, some, within)))
      (λ s rest. map.get-empty {X = Value} path_cmp (s ∷ rest))
