-- The entries of a map that stand below a path, from that path on.
use Rattle.std.proofs.Common.{◌≡◌, ℕ, ◌<◌, arith, nat_lt, Bool, true, false, cond, T, ◌&&◌, ◌==◌, ◌+◌, List, [], ◌∷◌, ◌++◌, length, filter, Some, refl, sym, ap, ◌∙◌, append-nil, append_assoc, length-append, eqb-true, eq-eqb, None}
use Rattle.std.specs.FinMap as finite
use Rattle.std.specs.FinMap.Entries.{find, is_sorted}
use Rattle.std.specs.Map.{keys_of}
use Rattle.std.specs.Ordering.{is_eq, is_le}
use Rattle.cfg_base.specs.Order.{path_cmp}
use Rattle.cfg_base.specs.declared.path.Step.{Step}
use Rattle.cfg_entries.specs.EntryMap.{Pair}
use Rattle.cfg_schema.proofs.TestLemmas.{both, both_true}
use Rattle.cfg_tree.specs.Statements.{is_below, last_of, parent_of}
use Rattle.cfg_tree.specs.Children.{is_inside, is_child}
pub use Rattle.cfg_tree.proofs.FoundLemmas.{head_of, tail_of, later, found_all}
use Rattle.cfg_tree.proofs.BelowLemmas.{front_of, none_later, below_le, below_more, below_self}
use Rattle.cfg_tree.proofs.MapLemmas.{same_path}
use Rattle.cfg_tree.proofs.OnceLemmas.{below_rest}
use Rattle.cfg_tree.proofs.PathLemmas.{split, same_ends, child_longer}
use Rattle.printing_order.proofs.NumberLemmas.{lt_is}

-- what passes a test stands below a path
abbrev pub IsPart : List Step → (List Step → Bool) → Type 0
IsPart path test = (k : List Step) → is_below path k ≡ false → test k ≡ false

-- what is below a path and longer is below it
pub inside_part : (path : List Step) → IsPart path (is_inside path)
inside_part path k other = ap (λ (b : Bool). b && nat_lt (length path) (length k)) other

module _ {V : Type 0} where
  module _ (path : List Step) (test : List Step → Bool) where
    -- of entries, up to the first that isn't below a path, those that pass
    abbrev pub ahead : List (Pair V) → List (Pair V)
    ahead es = filter (λ e. test e.0) (front_of (λ e. is_below path e.0) es)

    -- an entry below a path is one of them or not
    ahead_more : (e : Pair V) (es : List (Pair V)) (b : Bool) → is_below path e.0 ≡ true → test e.0 ≡ b
        → ahead (e ∷ es) ≡ cond b (e ∷ ahead es) (ahead es)
    ahead_more e es b below passes =
        ap (λ (c : Bool). filter (λ (x : Pair V). test x.0) (cond c (e ∷ front_of (λ (x : Pair V). is_below path x.0) es) [])) below
        ∙ ap (λ (c : Bool). cond c (e ∷ ahead es) (ahead es)) passes

    ahead_none : (e : Pair V) (es : List (Pair V)) → is_below path e.0 ≡ false → ahead (e ∷ es) ≡ []
    ahead_none e es other =
        ap (λ (c : Bool). filter (λ (x : Pair V). test x.0) (cond c (e ∷ front_of (λ (x : Pair V). is_below path x.0) es) [])) other

    -- one that is below the path is taken where it passes
    pub ahead_taken : (e : Pair V) (left rest taken more all : List (Pair V)) (b : Bool) → test e.0 ≡ b
        → left ≡ e ∷ rest → is_below path e.0 ≡ true → more ≡ taken ++ cond b (e ∷ []) []
        → taken ++ ahead left ≡ all → more ++ ahead rest ≡ all
    ahead_taken e left rest taken more all b passes next below m told = by_test b passes m
      where
        before : (b : Bool) → test e.0 ≡ b → taken ++ cond b (e ∷ ahead rest) (ahead rest) ≡ all
        before b f =
            ap (λ (xs : List (Pair V)). taken ++ xs) (sym (ahead_more e rest b below f))
            ∙ ap (λ (xs : List (Pair V)). taken ++ ahead xs) (sym next)
            ∙ told

        by_test : (b : Bool) → test e.0 ≡ b → more ≡ taken ++ cond b (e ∷ []) [] → more ++ ahead rest ≡ all
        by_test true f m =
            ap (λ (xs : List (Pair V)). xs ++ ahead rest) m ∙ append_assoc taken (e ∷ []) (ahead rest) ∙ before true f
        by_test false f m =
            ap (λ (xs : List (Pair V)). xs ++ ahead rest) (m ∙ append-nil taken) ∙ before false f

    -- where none is left, or the next one isn't below the path, all are taken
    pub ahead_end : (left taken all : List (Pair V)) → left ≡ [] → taken ++ ahead left ≡ all → taken ≡ all
    ahead_end left taken all none told =
        sym (append-nil taken) ∙ ap (λ (xs : List (Pair V)). taken ++ ahead xs) (sym none) ∙ told

    pub ahead_other : (e : Pair V) (left rest taken all : List (Pair V)) → left ≡ e ∷ rest → is_below path e.0 ≡ false
        → taken ++ ahead left ≡ all → taken ≡ all
    ahead_other e left rest taken all next other told =
        sym (append-nil taken)
        ∙ ap (λ (xs : List (Pair V)). taken ++ xs) (sym (ahead_none e rest other))
        ∙ ap (λ (xs : List (Pair V)). taken ++ ahead xs) (sym next)
        ∙ told

    module _ (part : IsPart path test) where
      -- where none is below a path, none passes
      pub none_passes : (es : List (Pair V)) → filter (is_below path) (keys_of es) ≡ [] → filter (λ e. test e.0) es ≡ []
      none_passes [] none = refl
      none_passes (e ∷ es) none = by_test (is_below path e.0) refl none (λ rest. none_passes es rest)
        where
          by_test : (b : Bool) → is_below path e.0 ≡ b → cond b (e.0 ∷ filter (is_below path) (keys_of es)) (filter (is_below path) (keys_of es)) ≡ []
              → (filter (is_below path) (keys_of es) ≡ [] → filter (λ x. test x.0) es ≡ [])
              → filter (λ x. test x.0) (e ∷ es) ≡ []
          by_test true below none go = cc
          by_test false other none go =
              ap (λ (c : Bool). cond c (e ∷ filter (λ (x : Pair V). test x.0) es) (filter (λ (x : Pair V). test x.0) es)) (part e.0 other)
              ∙ go none

      -- from a path on they are all that pass
      ahead_from : (es : List (Pair V)) → T (is_sorted path_cmp es)
          → ahead (filter (λ e. is_le (path_cmp path e.0)) es) ≡ filter (λ e. test e.0) es
      ahead_from [] sorted = refl
      ahead_from (e ∷ es) sorted =
          by_tests _ _ _ _ _ refl refl refl (ahead_from es (tail_of _ _ sorted))
          (λ from other. none_passes es (none_later path e.0 (keys_of es) from other (later e.0 es (head_of _ _ sorted))))
        where
          by_tests : (rest kept : List (Pair V)) (t b c : Bool) → is_le (path_cmp path e.0) ≡ t → is_below path e.0 ≡ b → test e.0 ≡ c
              → ahead rest ≡ kept → (t ≡ true → b ≡ false → kept ≡ [])
              → ahead (cond t (e ∷ rest) rest) ≡ cond c (e ∷ kept) kept
          by_tests rest kept true true c from below passes go none =
              ahead_more e rest c below passes ∙ ap (λ (xs : List (Pair V)). cond c (e ∷ xs) xs) go
          by_tests rest kept true false c from other passes go none =
              ahead_none e rest other
              ∙ sym (none refl refl)
              ∙ ap (λ (d : Bool). cond d (e ∷ kept) kept) (sym (part e.0 other) ∙ passes)
          by_tests rest kept false true c before below passes go none = let from = below_le path e.0 below in cc
          by_tests rest kept false false c before other passes go none =
              go ∙ ap (λ (d : Bool). cond d (e ∷ kept) kept) (sym (part e.0 other) ∙ passes)

      -- from a path on, before any is taken
      pub ahead_start : (full : finite.FinMap path_cmp V) (left taken : List (Pair V)) → taken ≡ []
          → left ≡ filter (λ e. is_le (path_cmp path e.0)) (finite.entries full)
          → taken ++ ahead left ≡ filter (λ e. test e.0) (finite.entries full)
      ahead_start full left taken none e =
          ap (λ (xs : List (Pair V)). xs ++ ahead left) none
          ∙ ap ahead e
          ∙ ahead_from (finite.entries full) (finite.entries_sorted full)

  pub ahead_less : (e : Pair V) (left rest : List (Pair V)) → left ≡ e ∷ rest → length rest < length left
  ahead_less e left rest next = omega (arith, ap (λ (xs : List (Pair V)). length xs) next)

-- what is below a path and as long as a child is a child
pub long_child : (path k : List Step) (count : ℕ) → count ≡ length path + 1 → is_below path k ≡ true → is_child path k ≡ (length k == count)
long_child path k count long below =
    ap (λ (b : Bool). b && (length k == length path + 1)) below ∙ ap (λ (n : ℕ). length k == n) (sym long)

-- what is below a path and longer is inside
pub long_inside : (path k : List Step) (count : ℕ) → count ≡ length path → is_below path k ≡ true → is_inside path k ≡ nat_lt count (length k)
long_inside path k count long below =
    ap (λ (b : Bool). b && nat_lt (length path) (length k)) below ∙ ap (λ (n : ℕ). nat_lt n (length k)) (sym long)

-- a path right below another one is it with a last step
pub child_is : (path k : List Step) → is_child path k ≡ true → k ≡ path ++ last_of k ∷ []
child_is path k child =
    let parts = both (is_below path k) _ child
    in let more = below_rest path k parts.0
    in let long = eqb-true (length k) (length path + 1) parts.1
    in let one = one_step more.0 (omega (arith, long, ap (λ (xs : List Step). length xs) more.1, length-append path more.0))
    in let whole = split k (omega (arith, long))
    in let ends = same_ends (parent_of k) path (last_of k) one.0 (sym whole ∙ more.1 ∙ ap (λ (xs : List Step). path ++ xs) one.1)
    in whole ∙ ap (λ (xs : List Step). xs ++ last_of k ∷ []) ends.0
  where
    one_step : (rest : List Step) → length rest ≡ 1 → (s : Step) × (rest ≡ s ∷ [])
    one_step [] e = absurd (omega (arith, e))
    one_step (s ∷ []) e = (s, refl)
    one_step (s ∷ t ∷ rest) e = absurd (omega (arith, e))

module _ {V : Type 0} where
  -- where no entry passes that is right below a path, nothing is found there
  none_found : (path : List Step) (test : List Step → Bool) (s : Step) (es : List (Pair V)) → test (path ++ s ∷ []) ≡ true
      → filter (λ e. test e.0) es ≡ [] → find path_cmp (path ++ s ∷ []) es ≡ None
  none_found path test s [] there none = refl
  none_found path test s (e ∷ es) there none = by_tests _ _ refl refl none (λ rest. none_found path test s es there rest)
    where
      by_tests : (c b : Bool) → test e.0 ≡ c → is_eq (path_cmp (path ++ s ∷ []) e.0) ≡ b
          → cond c (e ∷ filter (λ x. test x.0) es) (filter (λ x. test x.0) es) ≡ []
          → (filter (λ x. test x.0) es ≡ [] → find path_cmp (path ++ s ∷ []) es ≡ None)
          → cond b (Some e.1) (find path_cmp (path ++ s ∷ []) es) ≡ None
      by_tests true b passes at none go = cc
      by_tests false true passes at none go = let is = ap test ((same_path (path ++ s ∷ []) e.0).0 at) in cc
      by_tests false false passes at none go = go none

  pub none_given : (full : finite.FinMap path_cmp V) (path : List Step) (test : List Step → Bool) (s : Step) → test (path ++ s ∷ []) ≡ true
      → filter (λ e. test e.0) (finite.entries full) ≡ [] → finite.get full (path ++ s ∷ []) ≡ None
  none_given full path test s there none =
      finite.get-entries full (path ++ s ∷ []) ∙ none_found path test s (finite.entries full) there none

pub right_below : (path : List Step) (s : Step) → is_child path (path ++ s ∷ []) ≡ true
right_below path s = both_true _ _ (below_more path path s (below_self path)) (eq-eqb _ _ (child_longer path s))

pub right_inside : (path : List Step) (s : Step) → is_inside path (path ++ s ∷ []) ≡ true
right_inside path s = both_true _ _ (below_more path path s (below_self path)) (lt_is _ _ (omega (arith, child_longer path s)))

pub child_inside : (path k : List Step) → is_child path k ≡ true → is_inside path k ≡ true
child_inside path k child =
    let parts = both (is_below path k) _ child
    in let long = eqb-true (length k) (length path + 1) parts.1
    in both_true _ _ parts.0 (lt_is _ _ (omega (arith, long)))
