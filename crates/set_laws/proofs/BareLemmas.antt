-- What is said without marks is what is said, without its marks.
use Rattle.std.proofs.Common.{◌≡◌, ℕ, zero, suc, ◌<◌, Bool, true, false, ◌&&◌, List, [], ◌∷◌, ◌++◌, length, flat_map, refl, sym, ap, ◌∙◌, inl, inr, Option, Some, None, is_some, is_none, option_map, if◌then◌else◌, arith}
use Rattle.std.specs.FinMap as map
use Rattle.std.specs.List.{AllByRecursion, list_any}
use Rattle.std.specs.Ordering.{eq_by_cmp}
use Rattle.cfg_base.specs.Order.{path_cmp}
use Rattle.cfg_base.specs.declared.path.Step.{Step}
use Rattle.cfg_base.specs.declared.path.TheConstants.{MAX_STEPS}
use Rattle.cfg_base.specs.declared.value.Value.{Value}
use Rattle.cfg_entries.specs.EntryMap.{Pair}
use Rattle.cfg_tree.specs.Statements.{Statements, size_of, parent_of, last_of}
use Rattle.cfg_tree.specs.Tree.{IsTree}
use Rattle.cfg_tree.specs.Change.{is_ordered, put_last}
use Rattle.cfg_tree.specs.Children.{children_of}
use Rattle.cfg_tree.specs.Gather.{joined_at, value_of_both}
use Rattle.cfg_tree.specs.Limit.{paths_of, different}
use Rattle.cfg_tree.specs.Stated.{stated_one, stated}
use Rattle.cfg_tree.proofs.PathLemmas.{same_or_not, child_longer, renamed}
use Rattle.cfg_tree.proofs.StepLemmas.{puts}
use Rattle.cfg_tree.proofs.StatedLemmas.{size-stated, from_none_there}
use Rattle.set_text.specs.Printed.{with_below, each_below, paths_below}
use Rattle.curly_text.proofs.FillLemmas.{Lists, child_there, item_and, items_below, child_items, said_back}
use Rattle.set_laws.proofs.LookLemmas.{plain}
use Rattle.set_laws.proofs.SetLemmas.{bare_item, bare}

-- a value without its marks
abbrev pub unmarked : Value → Value
unmarked v = record v { inactive = false; protected = false }

-- the one has what the other has, without the marks
abbrev pub IsBare : Statements → Statements → Type 0
IsBare a b = (q : List Step) → map.get b q ≡ option_map unmarked (map.get a q)

-- an item that has a path, and says no order
abbrev pub IsOrderless : Pair Value → Type 0
IsOrderless item = (0 < length item.0) × (item.1.order ≡ [])

joined_bare : (p : List Step) (o : Option Value) (v : Value) → v.order ≡ [] → joined_at p (option_map unmarked o) (plain v.words) ≡ unmarked (joined_at p o v)
joined_bare p None v none = ap (λ (names : List (List ℕ)). record { inactive = false; protected = false; order = names; words = v.words }) (sym none)
joined_bare p (Some w) v none = ap (λ (names : List (List ℕ)). unmarked (value_of_both p w (record v { order = names }))) (sym none)

none_bare : (o : Option Value) → is_none (option_map unmarked o) ≡ is_none o
none_bare None = refl
none_bare (Some v) = refl

renamed_bare : (f : List (List ℕ) → List (List ℕ)) (o : Option Value) → option_map (renamed f) (option_map unmarked o) ≡ option_map unmarked (option_map (renamed f) o)
renamed_bare f None = refl
renamed_bare f (Some v) = refl

one_bare : (a b : Statements) (item : Pair Value) → IsOrderless item → IsBare a b → IsBare (stated_one a item) (stated_one b (bare_item item))
one_bare a b item orderless alike q =
    let p : List Step = item.0 in
    let left = puts a item.0 (joined_at item.0 (map.get a item.0) item.1) orderless.0 in
    let right = puts b item.0 (joined_at item.0 (map.get b item.0) (plain item.1.words)) orderless.0 in
    let value : joined_at item.0 (map.get b item.0) (plain item.1.words) ≡ unmarked (joined_at item.0 (map.get a item.0) item.1) =
    ap (λ (o : Option Value). joined_at item.0 o (plain item.1.words)) (alike item.0) ∙ joined_bare item.0 (map.get a item.0) item.1 orderless.1 in
    let new : is_none (map.get b item.0) ≡ is_none (map.get a item.0) = ap is_none (alike item.0) ∙ none_bare (map.get a item.0) in
    same_or_not q item.0 (map.get (stated_one b (bare_item item)) q ≡ option_map unmarked (map.get (stated_one a item) q))
    (λ same.
    ap (map.get (stated_one b (bare_item item))) same ∙ right.here ∙ ap (λ (v : Value). Some v) value
    ∙ sym (ap (λ (o : Option Value). option_map unmarked o) (ap (map.get (stated_one a item)) same ∙ left.here)))
    (λ apart. same_or_not q (parent_of item.0) (map.get (stated_one b (bare_item item)) q ≡ option_map unmarked (map.get (stated_one a item) q))
    (λ above.
    ap (map.get (stated_one b (bare_item item))) above
    ∙ right.parent
    ∙ ap (λ (c : Bool). option_map (renamed (if c && is_ordered item.0 then put_last (last_of item.0).name else (λ names. names))) (map.get b (parent_of item.0))) new
    ∙ ap (λ (o : Option Value). option_map (renamed (if is_none (map.get a item.0) && is_ordered item.0 then put_last (last_of item.0).name else (λ names. names))) o) (alike (parent_of item.0))
    ∙ renamed_bare (if is_none (map.get a item.0) && is_ordered item.0 then put_last (last_of item.0).name else (λ names. names)) (map.get a (parent_of item.0))
    ∙ sym (ap (λ (o : Option Value). option_map unmarked o) (ap (map.get (stated_one a item)) above ∙ left.parent)))
    (λ other. right.others q apart other ∙ alike q ∙ sym (ap (λ (o : Option Value). option_map unmarked o) (left.others q apart other))))

all_bare : (a b : Statements) (items : List (Pair Value)) → AllByRecursion IsOrderless items → IsBare a b → IsBare (stated a items) (stated b (bare items))
all_bare a b [] orderless alike = alike
all_bare a b (item ∷ items) orderless alike =
    all_bare (stated_one a item) (stated_one b (bare_item item)) items orderless.1 (one_bare a b item orderless.0 alike)

orderless_both : (xs ys : List (Pair Value)) → AllByRecursion IsOrderless xs → AllByRecursion IsOrderless ys → AllByRecursion IsOrderless (xs ++ ys)
orderless_both [] ys h k = k
orderless_both (x ∷ xs) ys h k = (h.0, orderless_both xs ys h.1 k)

bare_paths : (items : List (Pair Value)) → paths_of (bare items) ≡ paths_of items
bare_paths [] = refl
bare_paths (item ∷ items) = ap (λ (ps : List (List Step)). item.0 ∷ ps) (bare_paths items)

paths_both : (xs ys : List (Pair Value)) → paths_of (xs ++ ys) ≡ paths_of xs ++ paths_of ys
paths_both [] ys = refl
paths_both (x ∷ xs) ys = ap (λ (ps : List (List Step)). x.0 ∷ ps) (paths_both xs ys)

module _ (m : Statements) (tree : IsTree m) where
  item_orderless : (p : List Step) (s : Step) (o : Option Value) (inner : List (Pair Value)) → AllByRecursion IsOrderless inner → AllByRecursion IsOrderless (item_and (p ++ s ∷ []) o inner)
  item_orderless p s None inner h = tt
  item_orderless p s (Some v) inner h = ((omega (arith, child_longer p s), refl), h)

  steps_orderless : (levels : ℕ) (p steps : List Step) → ((s : Step) → AllByRecursion IsOrderless (items_below levels m (p ++ s ∷ []))) → AllByRecursion IsOrderless (flat_map (child_items levels m p) steps)
  steps_orderless levels p [] h = tt
  steps_orderless levels p (s ∷ steps) h =
      orderless_both (child_items levels m p s) (flat_map (child_items levels m p) steps)
      (item_orderless p s (map.get m (p ++ s ∷ [])) (items_below levels m (p ++ s ∷ [])) (h s)) (steps_orderless levels p steps h)

  below_orderless : (levels : ℕ) (p : List Step) → AllByRecursion IsOrderless (items_below levels m p)
  unfolding items_below
  below_orderless zero p = tt
  below_orderless (suc levels) p = steps_orderless levels p (children_of m p) (λ s. below_orderless levels (p ++ s ∷ []))

  -- the paths that are printed are those of the items
  item_paths : (q : List Step) (o : Option Value) (inner : List (Pair Value)) (paths : List (List Step)) → is_some o ≡ true → paths_of inner ≡ paths → paths_of (item_and q o inner) ≡ q ∷ paths
  item_paths q None inner paths there same = absurd cc
  item_paths q (Some v) inner paths there same = ap (λ (ps : List (List Step)). q ∷ ps) same

  steps_paths : (levels : ℕ) (p steps : List Step) → ((s : Step) → Lists steps s → is_some (map.get m (p ++ s ∷ [])) ≡ true)
      → ((s : Step) → paths_of (items_below levels m (p ++ s ∷ [])) ≡ paths_below levels m (p ++ s ∷ []))
      → paths_of (flat_map (child_items levels m p) steps) ≡ each_below (paths_below levels m) p steps
  steps_paths levels p [] there h = refl
  steps_paths levels p (s ∷ steps) there h =
      paths_both (child_items levels m p s) (flat_map (child_items levels m p) steps)
      ∙ ap (λ (ps : List (List Step)). ps ++ paths_of (flat_map (child_items levels m p) steps))
      (item_paths (p ++ s ∷ []) (map.get m (p ++ s ∷ [])) (items_below levels m (p ++ s ∷ [])) (paths_below levels m (p ++ s ∷ [])) (there s (inl refl)) (h s))
      ∙ ap (λ (ps : List (List Step)). with_below (paths_below levels m) (p ++ s ∷ []) ++ ps) (steps_paths levels p steps (λ t l. there t (inr l)) h)

  below_paths : (levels : ℕ) (p : List Step) → paths_of (items_below levels m p) ≡ paths_below levels m p
  unfolding items_below paths_below
  below_paths zero p = refl
  below_paths (suc levels) p = steps_paths levels p (children_of m p) (child_there m tree p) (λ s. below_paths levels (p ++ s ∷ []))

  pub bare_is : IsBare m (stated map.empty (bare (items_below MAX_STEPS m [])))
  bare_is q =
      all_bare map.empty map.empty (items_below MAX_STEPS m []) (below_orderless MAX_STEPS [])
      (λ r. map.get-empty {X = Value} path_cmp r ∙ sym (ap (λ (o : Option Value). option_map unmarked o) (map.get-empty {X = Value} path_cmp r))) q
      ∙ ap (λ (n : Statements). option_map unmarked (map.get n q)) (sym (said_back m tree))

  pub bare_size : size_of (stated map.empty (bare (items_below MAX_STEPS m []))) ≡ size_of m
  bare_size =
      size-stated (bare (items_below MAX_STEPS m []))
      ∙ ap different (bare_paths (items_below MAX_STEPS m []))
      ∙ sym (size-stated (items_below MAX_STEPS m []))
      ∙ ap size_of (sym (said_back m tree))

  -- each statement is printed
  pub printed_there : (q : List Step) → is_some (map.get m q) ≡ list_any (eq_by_cmp path_cmp q) (paths_below MAX_STEPS m [])
  printed_there q =
      ap (λ (n : Statements). is_some (map.get n q)) (said_back m tree)
      ∙ from_none_there (items_below MAX_STEPS m []) q
      ∙ ap (λ (ps : List (List Step)). list_any (eq_by_cmp path_cmp q) ps) (below_paths MAX_STEPS [])
