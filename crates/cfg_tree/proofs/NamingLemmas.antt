-- Statements that are joined with the names that they add to their parents: they make what they make when they are said.
use Rattle.std.proofs.Common.{◌≡◌, ℕ, ◌<◌, Bool, true, false, ◌||◌, ◌&&◌, List, [], ◌∷◌, ◌++◌, length, refl, sym, ap, subst, ◌∙◌, Option, Some, None, is_some, is_none, arith, if◌then◌else◌}
use Rattle.std.specs.Prelude.{IsSome}
use Rattle.std.specs.FinMap as map
use Rattle.std.specs.Option.{option_to_list, option_map}
use Rattle.cfg_base.specs.declared.path.Step.{Step}
use Rattle.cfg_base.specs.declared.value.Value.{Value}
use Rattle.cfg_base.specs.Words.{with_word}
use Rattle.cfg_schema.specs.Profile.{head_of}
use Rattle.cfg_schema.specs.Place.{place_of}
use Rattle.cfg_schema.proofs.RowFacts.{top_unordered}
use Rattle.cfg_schema.proofs.TestLemmas.{same}
use Rattle.cfg_entries.specs.EntryMap.{Pair}
use Rattle.cfg_tree.specs.Statements.{Statements, parent_of, last_of}
use Rattle.cfg_tree.specs.Tree.{ordered_head, step_of, lists, IsOrderBy, IsStatementMap, IsTyped}
use Rattle.cfg_tree.specs.Change.{has_head, is_ordered, with_order, with_order_of, put_last, listed}
use Rattle.cfg_tree.specs.Gather.{words_of_both, is_many_at, value_of_both, joined_at, gathered, gathered_one, gathered_from_none}
use Rattle.cfg_tree.specs.Stated.{stated_one, stated, stated_from_none, IsSaid, AreSaid}
use Rattle.cfg_tree.specs.Naming.{naming, named_in_parent, with_child_names}
use Rattle.cfg_tree.proofs.MapLemmas.{same_statements}
use Rattle.cfg_tree.proofs.OrderLemmas.{top_is_unordered}
use Rattle.cfg_tree.proofs.PathLemmas.{split, get_here, get_other, same_or_not}
use Rattle.cfg_tree.proofs.StepLemmas.{differs_from_parent}
use Rattle.cfg_tree.proofs.TreeLemmas.{nothing_is}
use Rattle.cfg_tree.proofs.StatedLemmas.{one_statements, one_typed, gathered-append}

-- a child of an ordered row isn't at the top
deep : (path : List Step) → is_ordered path ≡ true → 1 < length path
deep [] h = let top = top_is_unordered [] refl in cc
deep (s ∷ []) h = let top = ap (λ o. has_head (option_map head_of o) s) top_unordered in cc
deep (s ∷ t ∷ path) h = omega arith

or_none : (b : Bool) → (b || false) ≡ b
or_none true = refl
or_none false = refl

no_more : (many : Bool) (words : List (List ℕ)) → words_of_both many words [] ≡ words
no_more true words = refl
no_more false words = refl

-- a value with a name more
named : (path : List Step) (u : Value) (name : List ℕ) → value_of_both path u (naming name) ≡ record u { order = with_word u.order name }
named path u name = λ i.
    record {
      inactive = or_none u.inactive i;
      protected = or_none u.protected i;
      order = with_word u.order name;
      words = no_more (is_many_at path) u.words i;
    }

-- the same value put again
put_again : (m : Statements) (p : List Step) (v : Value) → map.get m p ≡ Some v → map.insert m p v ≡ m
put_again m p v e = same_statements (map.insert m p v) m (λ q.
    same_or_not q p (map.get (map.insert m p v) q ≡ map.get m q)
    (λ is. subst (λ (x : List Step). map.get (map.insert m p v) x ≡ map.get m x) (sym is) (get_here m p v ∙ sym e))
    (λ differs. get_other m p q v differs))

there : (o : Option Value) → IsSome o → (v : Value) × (o ≡ Some v)
there None h = cc
there (Some v) h = (v, refl)

module _ (m : Statements) (item : Pair Value) (statements : IsStatementMap m) (said : IsSaid m item) (ordered : is_ordered item.0 ≡ true) where
  abbrev above : List Step
  above = parent_of item.0

  abbrev name : List ℕ
  name = (last_of item.0).name

  found : (v : Value) × (map.get m above ≡ Some v)
  found = there (map.get m above) (said.parent.parent (deep item.0 ordered))

  by_head : (o : Option (List ℕ)) (names : List (List ℕ)) → has_head o (last_of item.0) ≡ true → IsOrderBy m above o names → lists names name ≡ is_some (map.get m item.0)
  by_head None names h order = cc
  by_head (Some head) names h order =
      order.each name
      ∙ ap (λ (p : List Step). is_some (map.get m p))
      (ap (λ (w : List ℕ). above ++ step_of w name ∷ []) (same _ _ h) ∙ sym (split item.0 said.parent.steps))

  is_listed : lists found.0.order name ≡ is_some (map.get m item.0)
  is_listed = by_head (ordered_head (place_of above)) found.0.order ordered (statements.orders above found.0 found.1)

  module _ (value : Value) where
    after : map.get (map.insert m item.0 value) above ≡ Some found.0
    after = get_other m item.0 above value (λ e. differs_from_parent item.0 said.parent.steps (sym e)) ∙ found.1

    joins : gathered_one (map.insert m item.0 value) (above, naming name)
        ≡ map.insert (map.insert m item.0 value) above (record found.0 { order = with_word found.0.order name })
    joins =
        ap (λ (o : Option Value). map.insert (map.insert m item.0 value) above (joined_at above o (naming name))) after
        ∙ ap (λ (v : Value). map.insert (map.insert m item.0 value) above v) (named above found.0 name)

    -- a new one goes last, and the order of an old one stays
    by_old : (o : Option Value) → map.get m item.0 ≡ o
        → map.insert (map.insert m item.0 value) above (record found.0 { order = with_word found.0.order name })
        ≡ (if is_none o && true then with_order (map.insert m item.0 value) above (put_last name) else map.insert m item.0 value)
    by_old None e =
        ap (λ (b : Bool). map.insert (map.insert m item.0 value) above (record found.0 { order = if b then found.0.order else put_last name found.0.order }))
        (is_listed ∙ ap is_some e)
        ∙ sym (ap (with_order_of (map.insert m item.0 value) above (put_last name)) after)
    by_old (Some old) e =
        ap (λ (b : Bool). map.insert (map.insert m item.0 value) above (record found.0 { order = if b then found.0.order else put_last name found.0.order }))
        (is_listed ∙ ap is_some e)
        ∙ put_again (map.insert m item.0 value) above found.0 after

    pub name_joined : gathered_one (map.insert m item.0 value) (above, naming name) ≡ listed (is_none (map.get m item.0)) (map.insert m item.0 value) item.0
    name_joined =
        joins
        ∙ by_old (map.get m item.0) refl
        ∙ ap (λ (b : Bool). if is_none (map.get m item.0) && b then with_order (map.insert m item.0 value) above (put_last name) else map.insert m item.0 value) (sym ordered)

-- a statement and the name that it adds are the statement said
with_name_said : (m : Statements) (item : Pair Value) → IsStatementMap m → IsSaid m item → (b : Bool) → is_ordered item.0 ≡ b
    → gathered (gathered_one m item) (option_to_list (if b then Some (parent_of item.0, naming (last_of item.0).name) else None)) ≡ stated_one m item
with_name_said m item statements said true e = name_joined m item statements said e (joined_at item.0 (map.get m item.0) item.1)
with_name_said m item statements said false e =
    let value = joined_at item.0 (map.get m item.0) item.1
    in ap (λ (b : Bool). if b then with_order (map.insert m item.0 value) (parent_of item.0) (put_last (last_of item.0).name) else map.insert m item.0 value)
    (sym (not_both (is_none (map.get m item.0)) (is_ordered item.0) e))
  where
    not_both : (a b : Bool) → b ≡ false → (a && b) ≡ false
    not_both true b h = h
    not_both false b h = refl

-- so are all of them
pub names_said : (m : Statements) (items : List (Pair Value)) → IsStatementMap m → IsTyped m → AreSaid m items → gathered m (with_child_names items) ≡ stated m items
names_said m [] statements typed said = refl
names_said m (item ∷ items) statements typed said =
    gathered-append (gathered_one m item) (option_to_list (named_in_parent item.0)) (with_child_names items)
    ∙ ap (λ (n : Statements). gathered n (with_child_names items)) (with_name_said m item statements said.0 _ refl)
    ∙ names_said (stated_one m item) items (one_statements m item statements typed said.0) (one_typed m item statements typed said.0) said.1

-- what is gathered of them with their names is what they make
pub names_from_none : (m : Statements) (items all : List (Pair Value)) → AreSaid map.empty items → all ≡ with_child_names items → m ≡ gathered_from_none all
    → m ≡ stated_from_none items
names_from_none m items all said e f =
    f ∙ ap (λ (xs : List (Pair Value)). gathered_from_none xs) e ∙ names_said map.empty items nothing_is.statements nothing_is.typed said
