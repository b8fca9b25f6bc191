-- An expansion that inherits nothing, of a configuration without marks: its text.
use Rattle.std.proofs.Common.{◌≡◌, ℕ, zero, suc, ◌+◌, Bool, true, false, ◌&&◌, cond, T, List, [], ◌∷◌, ◌++◌, filter, map, refl, sym, ap, subst, ◌∙◌, Option, Some, None, is_some, if◌then◌else◌}
use Rattle.std.specs.FinMap as finite
use Rattle.std.specs.FinMap.Entries.{find, is_sorted, below_all, same_entries}
use Rattle.std.specs.List.{flat_map}
use Rattle.std.specs.Option.{option_map}
use Rattle.std.specs.Ordering.{is_lt, eq_by_cmp}
use Rattle.cfg_base.specs.Order.{path_cmp, paths_total}
use Rattle.cfg_base.specs.declared.path.Step.{Step}
use Rattle.cfg_base.specs.declared.path.TheConstants.{MAX_STEPS}
use Rattle.cfg_base.specs.declared.value.Value.{Value}
use Rattle.cfg_schema.specs.declared.place.Place.{Place}
use Rattle.cfg_schema.specs.Place.{place_of}
use Rattle.cfg_schema.specs.Profile.{row_of, rows_below, is_level}
use Rattle.cfg_tree.specs.declared.full.Given.{Given}
use Rattle.cfg_tree.specs.Statements.{Statements, last_of}
use Rattle.cfg_tree.specs.Children.{is_child, row_steps, order_in, children_at, children_of}
use Rattle.cfg_tree.specs.Full.{Expansion, own_given}
use Rattle.cfg_tree.specs.OwnWords.{own_words}
use Rattle.cfg_tree.proofs.MapLemmas.{path_same}
use Rattle.cfg_lex.specs.declared.mark.Mark.TheVariants.{Inactive, Protect}
use Rattle.curly_print.specs.Printed.{ended, mark_text, spaces, statement_text, text_at, text_below, printed, value_text, words_line}
use Rattle.curly_print.specs.Inherited.{full_text_at, given_below, given_children_at, given_order, given_steps, given_text, printed_full}
use Rattle.curly_print.specs.Inheriting.{given_child_text}
use Rattle.curly_print.specs.Printing.{child_text}
use Rattle.curly_print.specs.Own.{IsOwn}

-- the paths alone
abbrev bare : {X : Type 0} → List (List Step × X) → List (List Step × Unit {0})
bare es = map (λ e. (e.0, tt)) es

module _ {X : Type 0} where
  below_bare : (k : List Step) (es : List (List Step × X)) → below_all path_cmp k (bare es) ≡ below_all path_cmp k es
  below_bare k [] = refl
  below_bare k (e ∷ es) = ap (λ (b : Bool). is_lt (path_cmp k e.0) && b) (below_bare k es)

  sorted_bare : (es : List (List Step × X)) → is_sorted path_cmp (bare es) ≡ is_sorted path_cmp es
  sorted_bare [] = refl
  sorted_bare (e ∷ es) =
      ap (λ (b : Bool). b && is_sorted path_cmp (bare es)) (below_bare e.0 es) ∙ ap (λ (b : Bool). below_all path_cmp e.0 es && b) (sorted_bare es)

  find_bare : (q : List Step) (es : List (List Step × X)) → is_some (find path_cmp q (bare es)) ≡ is_some (find path_cmp q es)
  find_bare q [] = refl
  find_bare q (e ∷ es) = by_test (eq_by_cmp path_cmp q e.0) (find_bare q es)
    where
      by_test : (b : Bool) → is_some (find path_cmp q (bare es)) ≡ is_some (find path_cmp q es)
          → is_some (cond b (Some tt) (find path_cmp q (bare es))) ≡ is_some (cond b (Some e.1) (find path_cmp q es))
      by_test true h = refl
      by_test false h = h

  keys_bare : (es : List (List Step × X)) → map (λ (e : List Step × Unit {0}). e.0) (bare es) ≡ map (λ (e : List Step × X). e.0) es
  keys_bare [] = refl
  keys_bare (e ∷ es) = ap (λ (ks : List (List Step)). e.0 ∷ ks) (keys_bare es)

  sorted_paths : (m : finite.FinMap path_cmp X) → T (is_sorted path_cmp (bare (finite.entries m)))
  sorted_paths m = subst (λ (b : Bool). T b) (sym (sorted_bare (finite.entries m))) (finite.entries_sorted m)

  found_bare : (m : finite.FinMap path_cmp X) (q : List Step) → is_some (find path_cmp q (bare (finite.entries m))) ≡ is_some (finite.get m q)
  found_bare m q = find_bare q (finite.entries m) ∙ ap is_some (sym (finite.get-entries m q))

nothing_more : (o p : Option (Unit {0})) → is_some o ≡ is_some p → o ≡ p
nothing_more None None e = refl
nothing_more None (Some y) e = cc
nothing_more (Some x) None e = cc
nothing_more (Some x) (Some y) e = refl

-- maps that have something at the same paths have the same paths
keys_same : {X Y : Type 0} (m : finite.FinMap path_cmp X) (n : finite.FinMap path_cmp Y) → ((q : List Step) → is_some (finite.get m q) ≡ is_some (finite.get n q))
    → finite.keys m ≡ finite.keys n
keys_same m n h =
    let same : bare (finite.entries m) ≡ bare (finite.entries n)
    = same_entries path_cmp paths_total path_same (bare (finite.entries m)) (bare (finite.entries n)) (sorted_paths m) (sorted_paths n)
    (λ q. nothing_more _ _ (found_bare m q ∙ h q ∙ sym (found_bare n q)))
    in sym (keys_bare (finite.entries m)) ∙ ap (λ (es : List (List Step × Unit {0})). map (λ (e : List Step × Unit {0}). e.0) es) same ∙ keys_bare (finite.entries n)

some_mapped : {A B : Type 0} (f : A → B) (o : Option A) → is_some (option_map f o) ≡ is_some o
some_mapped f None = refl
some_mapped f (Some x) = refl

flat_map_same : {A B : Type 0} (f g : A → List B) (xs : List A) → ((x : A) → f x ≡ g x) → flat_map f xs ≡ flat_map g xs
flat_map_same f g [] h = refl
flat_map_same {A} {B} f g (x ∷ xs) h = ap (λ (ys : List B). ys ++ flat_map f xs) (h x) ∙ ap (λ (ys : List B). g x ++ ys) (flat_map_same f g xs h)

order_own : (o : Option Value) → given_order (option_map own_given o) ≡ order_in o
order_own None = refl
order_own (Some value) = refl

-- a statement without marks
bare_text : (indent : ℕ) (step : Step) (value : Value) (body : List ℕ) → value.inactive ≡ false → value.protected ≡ false
    → given_text indent step (Some (own_given value)) body ≡ statement_text indent step (Some value) body
bare_text indent step value body inactive protected =
    ap (λ (b : Bool). line ((if b then mark_text Inactive else []) ++ [])) (sym inactive)
    ∙ ap (λ (b : Bool). line ((if value.inactive then mark_text Inactive else []) ++ (if b then mark_text Protect else []))) (sym protected)
  where
    line : List ℕ → List ℕ
    line marks = spaces indent ++ ((marks ++ (words_line (own_words (step ∷ [])) ++ value_text value.words)) ++ ended indent body)

module _ (m : Statements) (full : Expansion) (own : IsOwn m full) where
  keys_own : finite.keys full ≡ finite.keys m
  keys_own = keys_same full m (λ q. ap is_some (own.given q) ∙ some_mapped own_given (finite.get m q))

  children_own : (path : List Step) (here : Option Place) → given_children_at full path here ≡ children_at m path here
  children_own path None = refl
  children_own path (Some here) =
      ap (λ (names : List (List ℕ)). flat_map (λ (id : ℕ). row_steps id names (given_steps full path)) (rows_below here.row here.in_group))
      (ap given_order (own.given path) ∙ order_own (finite.get m path))
      ∙ ap
      (λ (ks : List (List Step)).
      flat_map (λ (id : ℕ). row_steps id (order_in (finite.get m path)) (map last_of (filter (is_child path) ks))) (rows_below here.row here.in_group))
      keys_own

  text_own : (indent : ℕ) (step : Step) (path : List Step) (body : List ℕ)
      → given_text indent step (finite.get full path) body ≡ statement_text indent step (finite.get m path) body
  text_own indent step path body =
      ap (λ (o : Option Given). given_text indent step o body) (own.given path) ∙ by_value (finite.get m path) refl
    where
      by_value : (o : Option Value) → finite.get m path ≡ o → given_text indent step (option_map own_given o) body ≡ statement_text indent step o body
      by_value None e = refl
      by_value (Some value) e = let marks = own.unmarked path value e in bare_text indent step value body marks.0 marks.1

  below_own : (levels : ℕ) (path : List Step) (indent : ℕ) → given_below levels full path indent ≡ text_below levels m path indent
  unfolding given_below text_below
  below_own zero path indent = refl
  below_own (suc levels) path indent =
      ap (λ (steps : List Step). flat_map (given_child_text levels full path indent) steps) (children_own path (place_of path))
      ∙ flat_map_same (given_child_text levels full path indent) (child_text levels m path indent) (children_of m path)
      (λ step.
      text_own indent step (path ++ step ∷ []) (given_below levels full (path ++ step ∷ []) (indent + 4))
      ∙ ap (statement_text indent step (finite.get m (path ++ step ∷ []))) (below_own levels (path ++ step ∷ []) (indent + 4)))

  pub printed_own : (path : List Step) → printed_full full path ≡ printed m path
  printed_own path = by_place (place_of path)
    where
      by_place : (here : Option Place) → full_text_at full path here (finite.get full path) ≡ text_at m path here (finite.get m path)
      by_place None = refl
      by_place (Some here) = by_level (is_level (row_of here.row).shape)
        where
          by_level : (b : Bool) → (if b then given_below MAX_STEPS full path 0 else given_text 0 (last_of path) (finite.get full path) [])
              ≡ (if b then text_below MAX_STEPS m path 0 else statement_text 0 (last_of path) (finite.get m path) [])
          by_level true = below_own MAX_STEPS path 0
          by_level false = text_own 0 (last_of path) path []
