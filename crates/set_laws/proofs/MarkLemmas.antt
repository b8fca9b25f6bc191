-- The lines of marks, made in order, give the marks.
use Rattle.std.proofs.Common.{◌≡◌, ◌≢◌, ℕ, ◌+◌, ◌≤◌, Bool, true, false, cond, ◌||◌, List, [], ◌∷◌, length, flat_map, refl, sym, ap, subst, ◌∙◌, Option, Some, None, is_some, option_map, Ok}
use Rattle.std.specs.FinMap as map
use Rattle.std.specs.List.{list_any}
use Rattle.std.specs.Ordering.{eq_by_cmp}
use Rattle.cfg_base.specs.Order.{path_cmp}
use Rattle.commands.specs.declared.command.Op.{Op}
use Rattle.cfg_base.specs.declared.path.Step.{Step}
use Rattle.cfg_base.specs.declared.value.Value.{Value}
use Rattle.cfg_tree.specs.declared.limit.TheConstants.{MAX_STATEMENTS}
use Rattle.cfg_tree.specs.Statements.{Statements, size_of}
use Rattle.cfg_tree.specs.Tree.{IsTree}
use Rattle.cfg_tree.specs.Change.{put_at}
use Rattle.cfg_tree.specs.OwnWords.{own_words}
use Rattle.cfg_resolve.specs.Resolve.{ResolvesTo, target}
use Rattle.cfg_tree.proofs.MapLemmas.{same_path}
use Rattle.cfg_tree.proofs.PathLemmas.{same_or_not, get_here, get_other}
use Rattle.edit_ops.specs.Change.{words_of, second_words, changed}
use Rattle.edit_ops.specs.Answer.{IsChange, IsWhole, NamesOther}
use Rattle.edit_ops.specs.Block.{IsFree, IsSpared}
use Rattle.edit_ops.proofs.NearLemmas.{put_there, put_same, size-put}
use Rattle.set_text.specs.Printed.{Line}
use Rattle.set_text.specs.Back.{changes_of}
use Rattle.load_ops.specs.Lines.{AreMade}
use Rattle.set_laws.proofs.ChangeLemmas.{made_both, named_alone}

-- the paths that were met, with one more
abbrev pub with_path : List Step → (List Step → Bool) → List Step → Bool
with_path p seen q = eq_by_cmp path_cmp q p || seen q

abbrev pub after : List (List Step) → (List Step → Bool) → List Step → Bool
after [] seen = seen
after (p ∷ paths) seen = after paths (with_path p seen)

moved : (a b c : Bool) → ((a || b) || c) ≡ true → (b || (a || c)) ≡ true
moved true true c h = refl
moved true false c h = refl
moved false true c h = refl
moved false false c h = h

pub after_has : (paths : List (List Step)) (seen : List Step → Bool) (q : List Step) → (list_any (eq_by_cmp path_cmp q) paths || seen q) ≡ true → after paths seen q ≡ true
after_has [] seen q h = h
after_has (p ∷ paths) seen q h = after_has paths (with_path p seen) q (moved (eq_by_cmp path_cmp q p) (list_any (eq_by_cmp path_cmp q) paths) (seen q) h)

is_self : (p : List Step) → eq_by_cmp path_cmp p p ≡ true
is_self p = (same_path p p).1 refl

is_other : (q p : List Step) → q ≢ p → eq_by_cmp path_cmp q p ≡ false
is_other q p apart = by_test (eq_by_cmp path_cmp q p) refl
  where
    by_test : (b : Bool) → eq_by_cmp path_cmp q p ≡ b → b ≡ false
    by_test true e = absurd (apart ((same_path q p).0 e))
    by_test false e = refl

-- what has a mark, how it is given, what stands at a path before and after it was met, and the change that gives it
module _ (m : Statements) (tree : IsTree m) (has : Value → Bool) (given : Value → Value) (shown : Bool → Value → Value) (make : List (List ℕ) → Op) (lines_at : List Step → List Line)
    (given_is : (b : Bool) (v : Value) → has v ≡ true → given (shown b v) ≡ shown true v)
    (shown_is : (b : Bool) (v : Value) → has v ≡ false → shown b v ≡ shown true v)
    (shown_apart : (v : Value) → has v ≡ true → shown false v ≢ shown true v)
    (words_are : (ws : List (List ℕ)) → words_of (make ws) ≡ ws)
    (alone : (ws : List (List ℕ)) → second_words (make ws) ≡ None)
    (whole : (ws : List (List ℕ)) (path : List Step) → IsWhole (make ws) (target path []))
    (changes : (x : Statements) (ws : List (List ℕ)) (path : List Step) (v : Value) → map.get x path ≡ Some v → changed x (make ws) (record { target = target path []; other = None }) ≡ Ok (put_at x path (given v)))
    (no_lines : (path : List Step) → map.get m path ≡ None → lines_at path ≡ [])
    (lines_are : (path : List Step) (v : Value) (number : ℕ) (x y : Statements) → map.get m path ≡ Some v → has v ≡ true
    → (told : Bool) → IsChange x y [] (make (own_words path)) told → AreMade x (changes_of number (lines_at path)) y)
    (none_are : (path : List Step) (v : Value) → map.get m path ≡ Some v → has v ≡ false → lines_at path ≡ [])
    (is_free : (x : Statements) (seen : List Step → Bool) (path : List Step) (v : Value) → ((q : List Step) → map.get x q ≡ option_map (shown (seen q)) (map.get m q)) → map.get m path ≡ Some v → has v ≡ true
    → seen path ≡ false → IsFree x (put_at x path (given (shown (seen path) v))) (IsSpared (make (own_words path)) path)) where
  abbrev IsShown : Statements → (List Step → Bool) → Type 0
  IsShown x seen = (q : List Step) → map.get x q ≡ option_map (shown (seen q)) (map.get m q)

  -- one path more was met
  record Further (x : Statements) (number : ℕ) (lines : List Line) (seen : List Step → Bool) : Type 0 where
    next : Statements
    made : AreMade x (changes_of number lines) next
    are : IsShown next seen
    size : size_of next ≡ size_of x

  same_shown : (x : Statements) (seen : List Step → Bool) (path : List Step) → IsShown x seen → (option_map (shown (seen path)) (map.get m path) ≡ option_map (shown true) (map.get m path)) → IsShown x (with_path path seen)
  same_shown x seen path are same q =
      same_or_not q path (map.get x q ≡ option_map (shown (with_path path seen q)) (map.get m q))
      (λ e. subst (λ (r : List Step). map.get x r ≡ option_map (shown (with_path path seen r)) (map.get m r)) (sym e)
      (are path ∙ same ∙ ap (λ (b : Bool). option_map (shown (b || seen path)) (map.get m path)) (sym (is_self path))))
      (λ apart. are q ∙ ap (λ (b : Bool). option_map (shown (b || seen q)) (map.get m q)) (sym (is_other q path apart)))

  -- nothing is made
  stays : (x : Statements) (number : ℕ) (seen : List Step → Bool) (path : List Step) → IsShown x seen → lines_at path ≡ [] → option_map (shown (seen path)) (map.get m path) ≡ option_map (shown true) (map.get m path)
      → Further x number (lines_at path) (with_path path seen)
  stays x number seen path are none same = record {
    next = x;
    made = subst (λ (ls : List Line). AreMade x (changes_of number ls) x) (sym none) refl;
    are = same_shown x seen path are same;
    size = refl;
  }

  module _ (x : Statements) (seen : List Step → Bool) (path : List Step) (v : Value) (are : IsShown x seen) (found : map.get m path ≡ Some v) (marked : has v ≡ true) (few : size_of x ≤ MAX_STATEMENTS) where
    there : map.get x path ≡ Some (shown (seen path) v)
    there = are path ∙ ap (λ (o : Option Value). option_map (shown (seen path)) o) found

    next : Statements
    next = put_at x path (given (shown (seen path) v))

    next_is : put_at x path (given (shown (seen path) v)) ≡ map.insert x path (given (shown (seen path) v))
    next_is = put_there x path (shown (seen path) v) (given (shown (seen path) v)) there

    next_here : map.get (put_at x path (given (shown (seen path) v))) path ≡ Some (shown true v)
    next_here = ap (λ (n : Statements). map.get n path) next_is ∙ get_here x path (given (shown (seen path) v)) ∙ ap (λ (w : Value). Some w) (given_is (seen path) v marked)

    next_shown : IsShown (put_at x path (given (shown (seen path) v))) (with_path path seen)
    next_shown q =
        same_or_not q path (map.get (put_at x path (given (shown (seen path) v))) q ≡ option_map (shown (with_path path seen q)) (map.get m q))
        (λ e. subst (λ (r : List Step). map.get (put_at x path (given (shown (seen path) v))) r ≡ option_map (shown (with_path path seen r)) (map.get m r)) (sym e)
        (next_here
        ∙ sym (ap (λ (o : Option Value). option_map (shown (with_path path seen path)) o) found ∙ ap (λ (b : Bool). Some (shown (b || seen path) v)) (is_self path))))
        (λ apart.
        ap (λ (n : Statements). map.get n q) next_is ∙ get_other x path q (given (shown (seen path) v)) apart
        ∙ are q ∙ ap (λ (b : Bool). option_map (shown (b || seen q)) (map.get m q)) (sym (is_other q path apart)))

    next_size : size_of (put_at x path (given (shown (seen path) v))) ≡ size_of x
    next_size = size-put x path (given (shown (seen path) v)) ∙ ap (λ (o : Option Value). cond (is_some o) (size_of x) (size_of x + 1)) there

    change : (told : Bool) → IsFree x (put_at x path (given (shown (seen path) v))) (IsSpared (make (own_words path)) path)
        → (told ≡ true → put_at x path (given (shown (seen path) v)) ≢ x) × (put_at x path (given (shown (seen path) v)) ≢ x → told ≡ true)
        → IsChange x (put_at x path (given (shown (seen path) v))) [] (make (own_words path)) told
    change told free tells = record {
      subject = record { target = target path []; other = None };
      asks = record {
        names = subst (λ (ws : List (List ℕ)). ResolvesTo [] ws (Ok (target path []))) (sym (words_are (own_words path))) (named_alone m tree path v found);
        is_whole = whole (own_words path) path;
        other = subst (λ (o : Option (List (List ℕ))). NamesOther o path None) (sym (alone (own_words path))) refl;
      };
      makes = record { made = changes x (own_words path) path (shown (seen path) v) there; free = free; few = subst (λ (n : ℕ). n ≤ MAX_STATEMENTS) (sym next_size) few };
      tells = tells;
    }

    some_value : (a b : Value) → Some a ≡ Some b → a ≡ b
    some_value a b e = cc

    -- it is new, or it was given before and nothing is changed
    by_seen : (b : Bool) → seen path ≡ b → (told : Bool) × IsChange x (put_at x path (given (shown (seen path) v))) [] (make (own_words path)) told
    by_seen true e =
        let same : put_at x path (given (shown (seen path) v)) ≡ x =
        ap (put_at x path) (given_is (seen path) v marked)
        ∙ put_same x path (shown true v) (there ∙ ap (λ (c : Bool). Some (shown c v)) e) in (
          false,
          change false (λ q blocks. blocks.differs.differs (ap (λ (n : Statements). map.get n blocks.differs.place) (sym same))) (λ f. absurd cc, λ f. absurd (f same)),
        )
    by_seen false e = (
      true,
      change true (is_free x seen path v are found marked e) (
        λ f same. shown_apart v marked (some_value (shown false v) (shown true v)
            (ap (λ (c : Bool). Some (shown c v)) (sym e) ∙ sym there ∙ ap (λ (n : Statements). map.get n path) (sym same) ∙ next_here)),
        λ f. refl,
      ),
    )

    goes_on : (number : ℕ) → Further x number (lines_at path) (with_path path seen)
    goes_on number =
        let one = by_seen (seen path) refl in
        record {
          next = put_at x path (given (shown (seen path) v));
          made = lines_are path v number x (put_at x path (given (shown (seen path) v))) found marked one.0 one.1;
          are = next_shown;
          size = next_size;
        }

  one_path : (x : Statements) (number : ℕ) (seen : List Step → Bool) (path : List Step) → IsShown x seen → size_of x ≤ MAX_STATEMENTS → Further x number (lines_at path) (with_path path seen)
  one_path x number seen path are few = by_value (map.get m path) refl
    where
      by_mark : (v : Value) (b : Bool) → map.get m path ≡ Some v → has v ≡ b → Further x number (lines_at path) (with_path path seen)
      by_mark v true found e = goes_on x seen path v are found e few number
      by_mark v false found e =
          stays x number seen path are (none_are path v found e)
          (ap (λ (o : Option Value). option_map (shown (seen path)) o) found ∙ ap (λ (w : Value). Some w) (shown_is (seen path) v e) ∙ sym (ap (λ (o : Option Value). option_map (shown true) o) found))

      by_value : (o : Option Value) → map.get m path ≡ o → Further x number (lines_at path) (with_path path seen)
      by_value None found =
          stays x number seen path are (no_lines path found)
          (ap (λ (o : Option Value). option_map (shown (seen path)) o) found ∙ sym (ap (λ (o : Option Value). option_map (shown true) o) found))
      by_value (Some v) found = by_mark v (has v) found refl

  -- the lines of all these paths
  pub record Marks (x : Statements) (number : ℕ) (paths : List (List Step)) (seen : List Step → Bool) : Type 0 where
    pub last : Statements
    pub all_made : AreMade x (changes_of number (flat_map lines_at paths)) last
    pub all_are : (q : List Step) → map.get last q ≡ option_map (shown (after paths seen q)) (map.get m q)
    pub all_size : size_of last ≡ size_of x

  pub marks_made : (x : Statements) (number : ℕ) (paths : List (List Step)) (seen : List Step → Bool) → ((q : List Step) → map.get x q ≡ option_map (shown (seen q)) (map.get m q)) → size_of x ≤ MAX_STATEMENTS → Marks x number paths seen
  marks_made x number [] seen are few = record { last = x; all_made = refl; all_are = are; all_size = refl }
  marks_made x number (p ∷ paths) seen are few =
      let one = one_path x number seen p are few in
      let rest = marks_made one.next (number + length (lines_at p)) paths (with_path p seen) one.are (subst (λ (n : ℕ). n ≤ MAX_STATEMENTS) (sym one.size) few) in
      record {
        last = rest.last;
        all_made = made_both x one.next rest.last number (lines_at p) (flat_map lines_at paths) one.made rest.all_made;
        all_are = rest.all_are;
        all_size = rest.all_size ∙ one.size;
      }
