-- The statements of a row below a path of a tree.
use Rattle.std.proofs.Common.{◌≡◌, inl, inr, ◌<◌, ◌==◌, ℕ, zero, suc, Bool, true, false, not, cond, List, [], ◌∷◌, ◌++◌, length, map as each, filter, refl, sym, ap, subst, ◌∙◌, Option, Some, None, is_some, arith, eqb-true, if◌then◌else◌, append_assoc, length-append}
use Rattle.std.specs.Prelude.{◌||◌}
use Rattle.std.specs.FinMap as map
use Rattle.std.specs.List.{AllByRecursion, list_all}
use Rattle.std.specs.Ordering.{eq_by_cmp}
use Rattle.cfg_base.specs.Order.{step_cmp}
use Rattle.cfg_base.specs.declared.kind.Shape.{Shape}
use Rattle.cfg_base.specs.declared.kind.Shape.TheVariants.{Container, Fixed, Keyed, Bare, Leaf, Flag, Many}
use Rattle.cfg_base.specs.declared.path.Step.{Step}
use Rattle.cfg_base.specs.declared.value.Value.{Value}
use Rattle.cfg_schema.specs.declared.place.Place.{Place}
use Rattle.cfg_schema.specs.declared.table.Line.{Line}
use Rattle.cfg_schema.specs.Keyword.{spelled}
use Rattle.cfg_schema.specs.Profile.{profile, line_at, no_line, row_of, head_of, name_of, is_fixed, is_named, is_step_of, level_of, stands, rows_below, same_word, StandsBelow}
use Rattle.cfg_schema.specs.Place.{has_words, HasWords, top_place, entered, place_of, place_after, and_then}
use Rattle.cfg_schema.proofs.TestLemmas.{both, both_true, not_true, other_of, same, same_is}
use Rattle.cfg_schema.proofs.RowFacts.{number_at}
use Rattle.cfg_schema.proofs.LevelLemmas.{all_at, led_to, starts_once, StartsWith}
use Rattle.cfg_schema.proofs.WordsLemmas.{told}
use Rattle.cfg_tree.specs.Statements.{Statements, parent_of, last_of}
use Rattle.cfg_tree.specs.Children.{step_if, steps_below, order_in, row_steps}
use Rattle.cfg_tree.specs.Tree.{step_of, IsTree}
use Rattle.cfg_tree.specs.Typed.{IsNamed, AreWordsOf}
use Rattle.cfg_tree.proofs.MapLemmas.{same_step}
use Rattle.cfg_tree.proofs.PathLemmas.{split, same_ends, child_longer}
use Rattle.cfg_tree.proofs.TypedLemmas.{place_snoc}
use Rattle.cfg_tree.proofs.FollowLemmas.{typed_last}
use Rattle.cfg_tree.proofs.OnceLemmas.{steps_once}
use Rattle.printing_order.proofs.ListedLemmas.{Lists}
use Rattle.json_text.specs.Said.{name_by, single_of}

-- a Fixed row has a name
abbrev is_given : Line → Bool
is_given line = not (is_fixed line.shape) || not (length (spelled line.name) == 0)

profile_given : list_all is_given profile ≡ true
unfolding profile
profile_given = refl

not_is : (b : Bool) → b ≡ true → not b ≡ false
not_is true e = refl
not_is false e = cc

-- a row without names has no order
abbrev names_order : Line → Bool
names_order line = not line.ordered || is_named line.shape

profile_orders : list_all names_order profile ≡ true
unfolding profile
profile_orders = refl

-- also past the end of the table
orders_past : (lines : List Line) (id : ℕ) → list_all names_order lines ≡ true → names_order (line_at lines id) ≡ true
orders_past [] id h = refl
orders_past (line ∷ lines) zero h = (both (names_order line) _ h).0
orders_past (line ∷ lines) (suc id) h = orders_past lines id (both (names_order line) _ h).1

pub plain_unordered : (id : ℕ) → is_named (row_of id).shape ≡ false → (row_of id).ordered ≡ false
plain_unordered id plain = no_order (row_of id).ordered (is_named (row_of id).shape) (orders_past profile id profile_orders) plain
  where
    no_order : (a b : Bool) → (not a || b) ≡ true → b ≡ false → a ≡ false
    no_order true b h e = let c = sym e ∙ h in cc
    no_order false b h e = refl

-- a step of a row has the row's head
pub own_head : (id : ℕ) (step : Step) → is_step_of id step ≡ true → step.head ≡ head_of id
own_head id step own = sym (same _ _ (both (same_word (head_of id) step.head) _ own).0)

-- a row that stands at a level starts with the words of its steps
starts : (here : Place) (id : ℕ) (step : Step) → StandsBelow here.row here.in_group id → is_step_of id step ≡ true
    → StartsWith (level_of here.row here.in_group) step.head step.name id
starts here id step stood own = record {
  within = stood.0;
  stood = stood.1;
  head = same _ _ (both (same_word (head_of id) step.head) _ own).0;
  name = λ fixed.
      let given = all_at is_given profile id no_line profile_given stood.0
      in let long = not_true _ (other_of _ _ given (not_is _ fixed))
      in same _ _ (other_of _ _ (both (same_word (head_of id) step.head) _ own).1 long);
}

-- at a level a step is one of one row at most
row_is : (here : Place) (i j : ℕ) (step : Step) → StandsBelow here.row here.in_group i → StandsBelow here.row here.in_group j
    → is_step_of i step ≡ true → is_step_of j step ≡ true → i ≡ j
row_is here i j step in_i in_j own_i own_j =
    starts_once (level_of here.row here.in_group) step.head step.name i j (starts here i step in_i own_i) (starts here j step in_j own_j)

-- rows below a place stand there
pub all_stand : (here : Place) → AllByRecursion (StandsBelow here.row here.in_group) (rows_below here.row here.in_group)
all_stand here = from [] profile refl
  where
    from : (front lines : List Line) → front ++ lines ≡ profile
        → AllByRecursion (StandsBelow here.row here.in_group) (each (λ (line : Line). line.number) (filter (stands (level_of here.row here.in_group)) lines))
    from front [] e = tt
    from front (line ∷ lines) e = by_test (stands (level_of here.row here.in_group) line) refl (from (front ++ line ∷ []) lines (append_assoc front (line ∷ []) lines ∙ e))
      where
        middle : (fs : List Line) → line_at (fs ++ line ∷ lines) (length fs) ≡ line
        middle [] = refl
        middle (f ∷ fs) = middle fs

        at : line_at profile (length front) ≡ line
        at = ap (λ (ls : List Line). line_at ls (length front)) (sym e) ∙ middle front

        within : length front < length profile
        within = omega (arith, length-append front (line ∷ lines), ap (λ (ls : List Line). length ls) e)

        number : line.number ≡ length front
        number = ap (λ (l : Line). l.number) (sym at) ∙ number_at (length front) within

        by_test : (b : Bool) → stands (level_of here.row here.in_group) line ≡ b
            → AllByRecursion (StandsBelow here.row here.in_group) (each (λ (l : Line). l.number) (filter (stands (level_of here.row here.in_group)) lines))
            → AllByRecursion (StandsBelow here.row here.in_group) (each (λ (l : Line). l.number) (cond b (line ∷ filter (stands (level_of here.row here.in_group)) lines) (filter (stands (level_of here.row here.in_group)) lines)))
        by_test true f go =
            (subst (λ (n : ℕ). StandsBelow here.row here.in_group n) (sym number) (within, ap (stands (level_of here.row here.in_group)) at ∙ f), go)
        by_test false f go = go

made : (step : Step) (head name : List ℕ) → head ≡ step.head → step.name ≡ name → step ≡ step_of head name
made step head name h n = λ i. record { head = sym h i; name = n i }

empty : (xs : List ℕ) → (length xs == 0) ≡ true → xs ≡ []
empty [] e = refl
empty (x ∷ xs) e = absurd (omega (arith, eqb-true (length (x ∷ xs)) 0 e))

-- a child of a path of a tree that has the words of a row there is a statement of that row
pub record OfRow (here : Place) (id : ℕ) (step : Step) (value : Value) : Type 0 where
  pub led : place_after here step ≡ Some (entered here id)
  pub words_of : HasWords id step
  pub named : IsNamed here id (row_of id).shape step.name
  pub words : AreWordsOf id value.words

module _ (m : Statements) (tree : IsTree m) (path : List Step) (here : Place) (placed : place_of path ≡ Some here) where
  pub of_row : (id : ℕ) → StandsBelow here.row here.in_group id → (step : Step) (value : Value) → map.get m (path ++ step ∷ []) ≡ Some value → is_step_of id step ≡ true
      → OfRow here id step value × (place_of (path ++ step ∷ []) ≡ Some (entered here id))
  of_row id stood step value found own =
      let long : 0 < length (path ++ step ∷ []) = omega (arith, child_longer path step)
      in let typed = tree.typed.paths (path ++ step ∷ []) (ap is_some found)
      in let ends = same_ends (parent_of (path ++ step ∷ [])) path (last_of (path ++ step ∷ [])) step (sym (split (path ++ step ∷ []) long))
      in let last = typed_last (path ++ step ∷ []) long typed here (ap (λ (p : List Step). place_of p) ends.0 ∙ placed)
      in let led = ap (λ (s : Step). place_after here s) (sym ends.1) ∙ last.1
      in let to = led_to here last.0 step led
      in let same_row : last.0.row ≡ id = row_is here last.0.row id step to.stood stood (told last.0.row step to.stood.0 to.words) own
      in let there : last.0 ≡ entered here id = to.is_entered ∙ ap (λ (n : ℕ). entered here n) same_row
      in let placed_there = place_snoc path step top_place ∙ ap (and_then (λ h. place_after h step)) placed ∙ led ∙ ap (λ (p : Place). Some p) there
      in (
        record {
          led = led ∙ ap (λ (p : Place). Some p) there;
          words_of = subst (λ (n : ℕ). HasWords n step) same_row to.words;
          named = subst (λ (n : ℕ). IsNamed here n (row_of n).shape step.name) same_row (subst (λ (s : Step). IsNamed here last.0.row (row_of last.0.row).shape s.name) ends.1 last.2);
          words = subst (λ (n : ℕ). AreWordsOf n value.words) refl (tree.typed.words (path ++ step ∷ []) value (entered here id) found placed_there);
        },
        placed_there,
      )

  -- the steps right below the path are those of children
  kept : (s : Step) (steps : List Step) → Lists steps s → 0 < length (filter (eq_by_cmp step_cmp s) steps)
  kept s [] l = absurd l
  kept s (t ∷ steps) l =
      elim l [
        | inl e ↦
            let itself : eq_by_cmp step_cmp s t ≡ true = (same_step s t).1 e
            in subst (λ (b : Bool). 0 < length (cond b (t ∷ filter (eq_by_cmp step_cmp s) steps) (filter (eq_by_cmp step_cmp s) steps))) (sym itself) (omega arith)
        | inr r ↦ more (eq_by_cmp step_cmp s t) (kept s steps r)
      ]
    where
      more : (b : Bool) → 0 < length (filter (eq_by_cmp step_cmp s) steps)
          → 0 < length (cond b (t ∷ filter (eq_by_cmp step_cmp s) steps) (filter (eq_by_cmp step_cmp s) steps))
      more true h = omega arith
      more false h = h

  below_there : (s : Step) → Lists (steps_below m path) s → is_some (map.get m (path ++ s ∷ [])) ≡ true
  below_there s l = by_there (is_some (map.get m (path ++ s ∷ []))) refl
    where
      some : 0 < length (filter (eq_by_cmp step_cmp s) (steps_below m path))
      some = kept s (steps_below m path) l

      by_there : (b : Bool) → is_some (map.get m (path ++ s ∷ [])) ≡ b → b ≡ true
      by_there true e = refl
      by_there false e =
          let none = ap (λ (xs : List Step). length xs) (steps_once m path s ∙ ap (λ (b : Bool). step_if b s) e) in absurd (omega (arith, some, none))

  -- a row without names has its one step there, or none
  module _ (id : ℕ) (stood : StandsBelow here.row here.in_group id) (plain : is_named (row_of id).shape ≡ false) where
    step_is : (shape : Shape) (head name : List ℕ) (step : Step) → is_named shape ≡ false → has_words shape head name step ≡ true → step ≡ step_of head (name_by shape name)
    step_is Container head name step p h = let k = both _ _ h in made step head [] (same _ _ k.0) (empty step.name k.1)
    step_is Fixed head name step p h = let k = both _ _ h in made step head name (same _ _ k.0) (sym (same _ _ k.1))
    step_is Keyed head name step p h = cc
    step_is Bare head name step p h = cc
    step_is Leaf head name step p h = let k = both _ _ h in made step head [] (same _ _ k.0) (empty step.name k.1)
    step_is Flag head name step p h = let k = both _ _ h in made step head [] (same _ _ k.0) (empty step.name k.1)
    step_is Many head name step p h = let k = both _ _ h in made step head [] (same _ _ k.0) (empty step.name k.1)

    single_words : (shape : Shape) (head name : List ℕ) → is_named shape ≡ false → has_words shape head name (step_of head (name_by shape name)) ≡ true
    single_words Container head name p = both_true _ _ (same_is head head refl) refl
    single_words Fixed head name p = both_true _ _ (same_is head head refl) (same_is name name refl)
    single_words Keyed head name p = cc
    single_words Bare head name p = cc
    single_words Leaf head name p = both_true _ _ (same_is head head refl) refl
    single_words Flag head name p = both_true _ _ (same_is head head refl) refl
    single_words Many head name p = both_true _ _ (same_is head head refl) refl

    -- the one step of such a row is one of it
    pub single_own : is_step_of id (single_of id) ≡ true
    single_own = told id (single_of id) stood.0 (single_words (row_of id).shape (head_of id) (name_of id) plain)

    tests_same : (s : Step) → Lists (steps_below m path) s → is_step_of id s ≡ eq_by_cmp step_cmp (single_of id) s
    tests_same s l = by_test (is_step_of id s) refl
      where
        value_of : (o : Option Value) → map.get m (path ++ s ∷ []) ≡ o → is_some o ≡ true → (v : Value) × (map.get m (path ++ s ∷ []) ≡ Some v)
        value_of None e h = cc
        value_of (Some v) e h = (v, e)

        by_test : (b : Bool) → is_step_of id s ≡ b → b ≡ eq_by_cmp step_cmp (single_of id) s
        by_test true e =
            let v = value_of _ refl (below_there s l)
            in let row = (of_row id stood s v.0 v.1 e).0
            in sym ((same_step (single_of id) s).1 (sym (step_is (row_of id).shape (head_of id) (name_of id) s plain row.words_of)))
        by_test false e = by_eq (eq_by_cmp step_cmp (single_of id) s) refl
          where
            by_eq : (c : Bool) → eq_by_cmp step_cmp (single_of id) s ≡ c → false ≡ c
            by_eq false f = refl
            by_eq true f = sym e ∙ ap (is_step_of id) (sym ((same_step (single_of id) s).0 f)) ∙ single_own

    filters_same : (steps : List Step) → ((s : Step) → Lists steps s → is_step_of id s ≡ eq_by_cmp step_cmp (single_of id) s)
        → filter (is_step_of id) steps ≡ filter (eq_by_cmp step_cmp (single_of id)) steps
    filters_same [] h = refl
    filters_same (s ∷ steps) h =
        ap (λ (b : Bool). cond b (s ∷ filter (is_step_of id) steps) (filter (is_step_of id) steps)) (h s (inl refl))
        ∙ ap (λ (ss : List Step). cond (eq_by_cmp step_cmp (single_of id) s) (s ∷ ss) ss) (filters_same steps (λ t l. h t (inr l)))

    pub single_steps : row_steps id (order_in (map.get m path)) (steps_below m path) ≡ step_if (is_some (map.get m (path ++ single_of id ∷ []))) (single_of id)
    single_steps =
        ap (λ (b : Bool). if b then each (step_of (head_of id)) (order_in (map.get m path)) else filter (is_step_of id) (steps_below m path)) (plain_unordered id plain)
        ∙ filters_same (steps_below m path) tests_same
        ∙ steps_once m path (single_of id)
