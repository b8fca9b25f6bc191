-- A copy and a change of a name, stated by look-ups; how many statements they leave; and that these are a tree.
use Rattle.std.proofs.Common.{◌≡◌, ◌≢◌, ℕ, ◌+◌, ◌-◌, ◌<◌, ◌≤◌, Bool, true, false, cond, ◌&&◌, List, [], ◌∷◌, ◌++◌, length, append-nil, refl, sym, ap, subst, ◌∙◌, Option, Some, None, is_some, is_none, option_map, arith, if◌then◌else◌}
use Rattle.std.specs.Prelude.{IsSome}
use Rattle.std.specs.FinMap as map
use Rattle.std.specs.List.{IsDistinct}
use Rattle.cfg_base.specs.Order.{path_cmp}
use Rattle.cfg_base.specs.declared.path.Step.{Step}
use Rattle.cfg_base.specs.declared.value.Value.{Value}
use Rattle.cfg_schema.specs.declared.place.Place.{Place}
use Rattle.cfg_schema.specs.Profile.{same_word}
use Rattle.cfg_schema.specs.Place.{place_of}
use Rattle.cfg_schema.proofs.TestLemmas.{same, same_is}
use Rattle.cfg_entries.specs.EntryMap.{EntryMap, IsOrdered}
use Rattle.cfg_tree.specs.declared.limit.TheConstants.{MAX_STATEMENTS}
use Rattle.cfg_tree.specs.Statements.{Statements, size_of, parent_of, last_of, is_below, HasParent}
use Rattle.cfg_tree.specs.Shown.{shown}
use Rattle.cfg_tree.specs.Typed.{IsTypedPath, AreWordsOf}
use Rattle.cfg_tree.specs.Tree.{ordered_head, step_of, lists, IsOrderBy, IsOrderOf, IsTree}
use Rattle.cfg_tree.specs.Change.{with_order, has_head, is_ordered, put_last, put_at, cleared, FitsProfile, IsReady}
use Rattle.cfg_tree.specs.Moving.{IsNewName, Moves, part_of, placed, with_part, in_place, copied, renamed, names_copied, names_renamed}
use Rattle.cfg_tree.proofs.PathLemmas.{split, same_ends, same_or_not, child_differs, order_at, order_other}
use Rattle.cfg_tree.proofs.PathLemmas as path
use Rattle.cfg_tree.proofs.MapLemmas.{same_statements}
use Rattle.cfg_tree.proofs.OnceLemmas.{below_rest}
use Rattle.cfg_tree.proofs.BelowLemmas.{below_first}
use Rattle.cfg_tree.proofs.PutLemmas.{Puts, order_same, put_statements}
use Rattle.cfg_tree.proofs.ReadyLemmas.{new_ready}
use Rattle.cfg_tree.proofs.StepLemmas.{size-order, puts, cleared_below, cleared_other, parent_out, below_out}
use Rattle.cfg_tree.proofs.PartLemmas.{below_more_steps, or_else, placed_at, get-with_part, size-with_part, part_size}
use Rattle.cfg_tree.proofs.BesideLemmas.{from_parent, lengths, differ_there, to_apart, from_apart, none_new, ordered_alike, heads}
use Rattle.cfg_tree.proofs.InPlaceLemmas.{word_or_not, other_listed, old_unlisted, new_listed, distinct-in_place}
use Rattle.cfg_tree.proofs.MovesLemmas.{by_place, there, moves_keep}

or_none : (o : Option Value) → or_else o None ≡ o
or_none None = refl
or_none (Some v) = refl

some_is : (o : Option Value) → is_some o ≡ true → (v : Value) × (o ≡ Some v)
some_is None h = cc
some_is (Some v) h = (v, refl)

unchanged : (o : Option Value) → o ≡ option_map (path.renamed (λ names. names)) o
unchanged None = refl
unchanged (Some v) = refl

module _ (m : Statements) (from to : List Step) (tree : IsTree m) (new : IsNewName m from to) where
  long : 0 < length from
  long = (from_parent m from to tree.statements new).steps

  from_out : is_below from (parent_of from) ≡ false
  from_out = parent_out from long

  to_out : is_below to (parent_of from) ≡ false
  to_out = ap (is_below to) (sym new.beside) ∙ parent_out to new.steps

  new_not_parent : (rest : List Step) → to ++ rest ≢ parent_of from
  new_not_parent rest e = below_out to (to ++ rest) (below_more_steps to rest) (parent_out to new.steps) (e ∙ sym new.beside)

  old_not_parent : (rest : List Step) → from ++ rest ≢ parent_of from
  old_not_parent rest = below_out from (from ++ rest) (below_more_steps from rest) from_out

  -- the part put into a map
  part_new : (k : Statements) → ((rest : List Step) → map.get k (to ++ rest) ≡ None) → (rest : List Step)
      → map.get (with_part from to k (part_of m from)) (to ++ rest) ≡ map.get m (from ++ rest)
  part_new k none rest =
      get-with_part from to m k (to ++ rest)
      ∙ ap (λ (b : Bool). cond b (or_else (map.get m (placed to from (to ++ rest))) (map.get k (to ++ rest))) (map.get k (to ++ rest))) (below_more_steps to rest)
      ∙ ap (λ (p : List Step). or_else (map.get m p) (map.get k (to ++ rest))) (placed_at to from rest)
      ∙ ap (or_else (map.get m (from ++ rest))) (none rest)
      ∙ or_none (map.get m (from ++ rest))

  part_else : (k : Statements) (q : List Step) → is_below to q ≡ false → map.get (with_part from to k (part_of m from)) q ≡ map.get k q
  part_else k q apart =
      get-with_part from to m k q ∙ ap (λ (b : Bool). cond b (or_else (map.get m (placed to from q)) (map.get k q)) (map.get k q)) apart

  -- and a change of the parent's order
  moves_by : (w : Statements) (stays b : Bool) (f : List (List ℕ) → List (List ℕ))
      → ((rest : List Step) → map.get w (to ++ rest) ≡ map.get m (from ++ rest))
      → ((rest : List Step) → map.get w (from ++ rest) ≡ (if stays then map.get m (from ++ rest) else None))
      → ((q : List Step) → is_below from q ≡ false → is_below to q ≡ false → map.get w q ≡ map.get m q)
      → Moves m (if b then with_order w (parent_of from) f else w) from to stays (if b then f else (λ names. names))
  moves_by w stays true f at_new at_old elsewhere = record {
    new = λ rest. order_other w (parent_of from) (to ++ rest) f (new_not_parent rest) ∙ at_new rest;
    old = λ rest. order_other w (parent_of from) (from ++ rest) f (old_not_parent rest) ∙ at_old rest;
    parent = order_at w (parent_of from) f ∙ ap (option_map (path.renamed f)) (elsewhere (parent_of from) from_out to_out);
    others = λ q a b differs. order_other w (parent_of from) q f differs ∙ elsewhere q a b;
  }
  moves_by w stays false f at_new at_old elsewhere = record {
    new = at_new;
    old = at_old;
    parent = elsewhere (parent_of from) from_out to_out ∙ unchanged (map.get m (parent_of from));
    others = λ q a b differs. elsewhere q a b;
  }

  pub copied_moves : Moves m (copied m from to) from to true (names_copied to)
  copied_moves =
      subst (λ (p : List Step). Moves m
      (if is_ordered to then with_order (with_part from to m (part_of m from)) p (put_last (last_of to).name) else with_part from to m (part_of m from))
      from to true (names_copied to)) (sym new.beside)
      (moves_by (with_part from to m (part_of m from)) true (is_ordered to) (put_last (last_of to).name)
      (part_new m (none_new m from to tree.statements new))
      (λ rest. part_else m (from ++ rest) (from_apart m from to tree.statements new rest))
      (λ q a b. part_else m q b))

  none_left : (rest : List Step) → map.get (cleared m from) (to ++ rest) ≡ None
  none_left rest = cleared_other m from (to ++ rest) (to_apart m from to tree.statements new rest) ∙ none_new m from to tree.statements new rest

  pub renamed_moves : Moves m (renamed m from to) from to false (names_renamed from to)
  renamed_moves =
      moves_by (with_part from to (cleared m from) (part_of m from)) false (is_ordered from) (in_place (last_of from).name (last_of to).name)
      (part_new (cleared m from) none_left)
      (λ rest. part_else (cleared m from) (from ++ rest) (from_apart m from to tree.statements new rest)
      ∙ cleared_below m from (from ++ rest) (below_more_steps from rest))
      (λ q a b. part_else (cleared m from) q b ∙ cleared_other m from q a)

  size_by : (w : Statements) (p : List Step) (f : List (List ℕ) → List (List ℕ)) (b : Bool) → size_of (if b then with_order w p f else w) ≡ size_of w
  size_by w p f true = size-order w p f
  size_by w p f false = refl

  -- how many there are
  pub size-copied : size_of (copied m from to) ≡ size_of m + length (part_of m from)
  size-copied =
      size_by (with_part from to m (part_of m from)) (parent_of to) (put_last (last_of to).name) (is_ordered to)
      ∙ size-with_part from to m m (none_new m from to tree.statements new)

  pub size-renamed : size_of (renamed m from to) ≡ size_of (cleared m from) + length (part_of m from)
  size-renamed =
      size_by (with_part from to (cleared m from) (part_of m from)) (parent_of from) (in_place (last_of from).name (last_of to).name) (is_ordered from)
      ∙ size-with_part from to m (cleared m from) none_left

  from_typed : IsTypedPath from
  from_typed = tree.typed.paths from new.there

  child_path : (s : Step) (p : List Step) → parent_of from ++ s ∷ [] ≡ p → parent_of p ≡ parent_of from → 0 < length p → s ≡ last_of p
  child_path s p e same some = (same_ends (parent_of from) (parent_of p) s (last_of p) (e ∙ split p some)).1

  -- a child of the parent is neither below the new name nor below the old one, or is it
  child_apart : (s : Step) (p : List Step) → parent_of from ++ s ∷ [] ≢ p → is_below p (parent_of from) ≡ false → is_below p (parent_of from ++ s ∷ []) ≡ false
  child_apart s p differs out = by_test _ refl
    where
      by_test : (b : Bool) → is_below p (parent_of from ++ s ∷ []) ≡ b → b ≡ false
      by_test true e = absurd (differs (sym (below_first p (parent_of from) s e out)))
      by_test false e = refl

  at_end : (p : List Step) → p ++ [] ≡ p
  at_end = append-nil

  -- the copy's value without its names, which the parent's order is reckoned with
  copy_order : (n : Statements) → Moves m n from to true (names_copied to) → (w : Value) → map.get m (parent_of from) ≡ Some w
      → IsOrderOf n (parent_of from) (names_copied to w.order)
  copy_order n moves w found =
      order_same put n (parent_of from) (ordered_head (place_of (parent_of from))) (names_copied to w.order)
      (λ name h _. alike (step_of h name))
      ((put_statements m put to value (is_none (map.get m to) && is_ordered to) tree.statements tree.typed ready fit left refl).orders (parent_of from) _ order_there)
    where
      there_is : (v : Value) × (map.get m from ≡ Some v)
      there_is = some_is (map.get m from) new.there

      value : Value
      value = record there_is.0 { order = [] }

      put : Statements
      put = put_at m to value

      parent : HasParent m to
      parent = record {
        steps = new.steps;
        parent = λ some. subst (λ (p : List Step). IsSome (map.get m p)) (sym new.beside)
            ((from_parent m from to tree.statements new).parent (subst (λ (k : ℕ). 1 < k) (lengths m from to tree.statements new) some));
      }

      words : (here : Place) → place_of to ≡ Some here → AreWordsOf here.row there_is.0.words
      words here e = tree.typed.words from there_is.0 here there_is.1 (sym new.row ∙ e)

      ready : IsReady m to value
      ready = new_ready m to value tree.statements new.typed parent new.none refl (λ here e. (words here e).0)

      fit : FitsProfile to value
      fit = record { typed = new.typed; words = words }

      left : Puts m put to value (is_none (map.get m to) && is_ordered to)
      left = puts m to value new.steps

      adds : (is_none (map.get m to) && is_ordered to) ≡ is_ordered to
      adds = ap (λ (o : Option Value). is_none o && is_ordered to) new.none

      order_there : map.get put (parent_of from) ≡ Some (path.renamed (names_copied to) w)
      order_there =
          ap (map.get put) (sym new.beside) ∙ left.parent
          ∙ ap (λ (b : Bool). option_map (path.renamed (if b then put_last (last_of to).name else (λ names. names))) (map.get m (parent_of to))) adds
          ∙ ap (λ (p : List Step). option_map (path.renamed (names_copied to)) (map.get m p)) new.beside
          ∙ ap (option_map (path.renamed (names_copied to))) found

      here_both : is_some (map.get n to) ≡ is_some (map.get put to)
      here_both =
          ap is_some (ap (map.get n) (sym (at_end to)) ∙ moves.new [] ∙ ap (map.get m) (at_end from)) ∙ new.there ∙ sym (ap is_some left.here)

      child_not_parent : (s : Step) → parent_of from ++ s ∷ [] ≢ parent_of to
      child_not_parent s e = child_differs (parent_of from) s (e ∙ new.beside)

      alike : (s : Step) → is_some (map.get n (parent_of from ++ s ∷ [])) ≡ is_some (map.get put (parent_of from ++ s ∷ []))
      alike s =
          same_or_not (parent_of from ++ s ∷ []) to _
          (λ e. subst (λ (p : List Step). is_some (map.get n p) ≡ is_some (map.get put p)) (sym e) here_both)
          (λ differs.
          by_place m n from to true (names_copied to) tree new moves (parent_of from ++ s ∷ []) _
          (λ rest e. let out = child_apart s to differs to_out in let inside = ap (is_below to) e ∙ below_more_steps to rest in cc)
          (λ rest e.
          ap (λ (p : List Step). is_some (map.get n p)) e ∙ ap is_some (moves.old rest) ∙ ap (λ (p : List Step). is_some (map.get m p)) (sym e)
          ∙ sym (ap is_some (left.others (parent_of from ++ s ∷ []) differs (child_not_parent s))))
          (λ a b. there m n from to true (names_copied to) tree new moves (parent_of from ++ s ∷ []) a b
          ∙ sym (ap is_some (left.others (parent_of from ++ s ∷ []) differs (child_not_parent s)))))

  pub copied_tree : size_of (copied m from to) ≤ MAX_STATEMENTS → IsTree (copied m from to)
  copied_tree = moves_keep m (copied m from to) from to true (names_copied to) tree new copied_moves (copy_order (copied m from to) copied_moves)

  -- the names of the parent's children, with the new one in the old one's place
  place_order : (n : Statements) → Moves m n from to false (names_renamed from to) → (w : Value) → map.get m (parent_of from) ≡ Some w
      → IsOrderOf n (parent_of from) (names_renamed from to w.order)
  place_order n moves w found = by_order _ refl (tree.statements.orders (parent_of from) w found)
    where
      old_gone : map.get n from ≡ None
      old_gone = ap (map.get n) (sym (at_end from)) ∙ moves.old []

      new_there : is_some (map.get n to) ≡ true
      new_there = ap is_some (ap (map.get n) (sym (at_end to)) ∙ moves.new [] ∙ ap (map.get m) (at_end from)) ∙ new.there

      elsewhere : (s : Step) → parent_of from ++ s ∷ [] ≢ to → parent_of from ++ s ∷ [] ≢ from
          → is_some (map.get n (parent_of from ++ s ∷ [])) ≡ is_some (map.get m (parent_of from ++ s ∷ []))
      elsewhere s not_new not_old =
          there m n from to false (names_renamed from to) tree new moves (parent_of from ++ s ∷ [])
          (child_apart s from not_old from_out) (child_apart s to not_new to_out)

      -- a child of the ordered row makes the old and the new name its children too
      is_ordered_by : (h name : List ℕ) (p : List Step) → ordered_head (place_of (parent_of from)) ≡ Some h → parent_of from ++ step_of h name ∷ [] ≡ p
          → parent_of p ≡ parent_of from → 0 < length p → is_ordered p ≡ true
      is_ordered_by h name p e same above some =
          ap (λ (q : List Step). has_head (ordered_head (place_of q)) (last_of p)) above
          ∙ ap (λ (o : Option (List ℕ)). has_head o (last_of p)) e
          ∙ same_is h (last_of p).head (ap (λ (t : Step). t.head) (child_path (step_of h name) p same above some))

      clash : (b : Bool) → b ≡ true → b ≡ false → ⊥
      clash b t f = cc

      unordered : is_ordered from ≡ false → (name h : List ℕ) → ordered_head (place_of (parent_of from)) ≡ Some h
          → is_some (map.get n (parent_of from ++ step_of h name ∷ [])) ≡ is_some (map.get m (parent_of from ++ step_of h name ∷ []))
      unordered f name h e =
          elsewhere (step_of h name)
          (λ same. clash (is_ordered from) (sym (ordered_alike m from to tree.statements new from_typed) ∙ is_ordered_by h name to e same new.beside new.steps) f)
          (λ same. clash (is_ordered from) (is_ordered_by h name from e same refl long) f)

      by_head : (o : Option (List ℕ)) → ordered_head (place_of (parent_of from)) ≡ o → has_head o (last_of from) ≡ true → IsOrderBy m (parent_of from) o w.order
          → IsOrderBy n (parent_of from) o (in_place (last_of from).name (last_of to).name w.order)
      by_head None e headed order = cc
      by_head (Some h) e headed order = record { once = once; each = each }
        where
          old_head : h ≡ (last_of from).head
          old_head = same _ _ headed

          child : (p : List Step) → parent_of p ≡ parent_of from → 0 < length p → h ≡ (last_of p).head
              → parent_of from ++ step_of h (last_of p).name ∷ [] ≡ p
          child p above some head =
              ap (λ (x : List ℕ). parent_of from ++ step_of x (last_of p).name ∷ []) head
              ∙ ap (λ (q : List Step). q ++ last_of p ∷ []) (sym above) ∙ sym (split p some)

          old_is : parent_of from ++ step_of h (last_of from).name ∷ [] ≡ from
          old_is = child from refl long old_head

          new_is : parent_of from ++ step_of h (last_of to).name ∷ [] ≡ to
          new_is = child to new.beside new.steps (old_head ∙ sym (heads m from to tree.statements new from_typed))

          names_differ : (last_of from).name ≢ (last_of to).name
          names_differ e = differ_there m from to tree.statements new
              (sym old_is ∙ ap (λ (x : List ℕ). parent_of from ++ step_of h x ∷ []) e ∙ new_is)

          old_listed : lists w.order (last_of from).name ≡ true
          old_listed = order.each (last_of from).name ∙ ap (λ (p : List Step). is_some (map.get m p)) old_is ∙ new.there

          new_unlisted : lists w.order (last_of to).name ≡ false
          new_unlisted = order.each (last_of to).name ∙ ap (λ (p : List Step). is_some (map.get m p)) new_is ∙ ap is_some new.none

          once : IsDistinct same_word (in_place (last_of from).name (last_of to).name w.order)
          once = distinct-in_place (last_of from).name (last_of to).name w.order order.once new_unlisted

          named : (name : List ℕ) (s : Step) (p : List Step) → parent_of from ++ step_of h s.name ∷ [] ≡ p → name ≡ s.name → parent_of from ++ step_of h name ∷ [] ≡ p
          named name s p e same = ap (λ (x : List ℕ). parent_of from ++ step_of h x ∷ []) same ∙ e

          each : (name : List ℕ) → lists (in_place (last_of from).name (last_of to).name w.order) name ≡ is_some (map.get n (parent_of from ++ step_of h name ∷ []))
          each name =
              word_or_not name (last_of to).name _
              (λ is_new.
              ap (lists (in_place (last_of from).name (last_of to).name w.order)) is_new
              ∙ new_listed (last_of from).name (last_of to).name w.order old_listed
              ∙ sym (ap (λ (p : List Step). is_some (map.get n p)) (named name (last_of to) to new_is is_new) ∙ new_there))
              (λ not_new. word_or_not name (last_of from).name _
              (λ is_old.
              ap (lists (in_place (last_of from).name (last_of to).name w.order)) is_old
              ∙ old_unlisted (last_of from).name (last_of to).name names_differ w.order
              ∙ sym (ap (λ (p : List Step). is_some (map.get n p)) (named name (last_of from) from old_is is_old) ∙ ap is_some old_gone))
              (λ not_old.
              other_listed (last_of from).name (last_of to).name w.order name (unlike name _ not_old) (unlike name _ not_new)
              ∙ order.each name
              ∙ sym (elsewhere (step_of h name)
              (λ same. unlike name _ not_new (ap (λ (s : Step). s.name) (child_path (step_of h name) to same new.beside new.steps)))
              (λ same. unlike name _ not_old (ap (λ (s : Step). s.name) (child_path (step_of h name) from same refl long))))))
            where
              unlike : (a b : List ℕ) → same_word a b ≡ false → a ≢ b
              unlike a b e f = clash (same_word a b) (same_is a b f) e

      by_order : (b : Bool) → is_ordered from ≡ b → IsOrderOf m (parent_of from) w.order
          → IsOrderOf n (parent_of from) ((if b then in_place (last_of from).name (last_of to).name else (λ names. names)) w.order)
      by_order true f order = by_head (ordered_head (place_of (parent_of from))) refl f order
      by_order false f order = order_same m n (parent_of from) (ordered_head (place_of (parent_of from))) w.order (unordered f) order

  pub renamed_tree : size_of (renamed m from to) ≤ MAX_STATEMENTS → IsTree (renamed m from to)
  renamed_tree = moves_keep m (renamed m from to) from to false (names_renamed from to) tree new renamed_moves (place_order (renamed m from to) renamed_moves)

-- a copy that finds room leaves a tree, and so does a change of a name
pub copied_kept : (m : EntryMap (List Step) Value) (from to : List Step) (count size : ℕ) → IsTree (shown m) → IsNewName (shown m) from to
    → count ≡ length (part_of (shown m) from) → size ≡ size_of (shown m) → count ≤ MAX_STATEMENTS - size → IsTree (copied (shown m) from to)
copied_kept m from to count size tree new is_count is_size room =
    copied_tree (shown m) from to tree new
    (let few = tree.few in let grown = size-copied (shown m) from to tree new in omega (arith, few, grown, is_count, is_size, room))

pub copied_crowded : (m : EntryMap (List Step) Value) (from to : List Step) (count size : ℕ) → IsTree (shown m) → IsNewName (shown m) from to
    → count ≡ length (part_of (shown m) from) → size ≡ size_of (shown m) → MAX_STATEMENTS - size < count → MAX_STATEMENTS < size_of (copied (shown m) from to)
copied_crowded m from to count size tree new is_count is_size full =
    let few = tree.few in let grown = size-copied (shown m) from to tree new in omega (arith, few, grown, is_count, is_size, full)

pub renamed_kept : (m : EntryMap (List Step) Value) (from to : List Step) → IsOrdered path_cmp m → IsTree (shown m) → IsNewName (shown m) from to
    → IsTree (renamed (shown m) from to)
renamed_kept m from to sorted tree new =
    renamed_tree (shown m) from to tree new
    (let few = tree.few in let parts = part_size m from sorted in let same = size-renamed (shown m) from to tree new in omega (arith, few, parts, same))

-- look-ups determine one map
pub one_move : (m one other : Statements) (from to : List Step) (stays : Bool) (change : List (List ℕ) → List (List ℕ)) → Moves m one from to stays change
    → Moves m other from to stays change → one ≡ other
one_move m one other from to stays change a b = same_statements one other (λ q. by_tests q _ _ refl refl)
  where
    by_tests : (q : List Step) (s t : Bool) → is_below from q ≡ s → is_below to q ≡ t → map.get one q ≡ map.get other q
    by_tests q true t e f =
        let r = below_rest from q e
        in ap (map.get one) r.1 ∙ a.old r.0 ∙ sym (b.old r.0) ∙ ap (map.get other) (sym r.1)
    by_tests q false true e f =
        let r = below_rest to q f
        in ap (map.get one) r.1 ∙ a.new r.0 ∙ sym (b.new r.0) ∙ ap (map.get other) (sym r.1)
    by_tests q false false e f =
        same_or_not q (parent_of from) (map.get one q ≡ map.get other q)
        (λ same. ap (map.get one) same ∙ a.parent ∙ sym b.parent ∙ ap (map.get other) (sym same))
        (λ differs. a.others q e f differs ∙ sym (b.others q e f differs))
