-- Statements said one after another: what a look-up gives, and that they keep what holds of the statements of a tree.
use Rattle.std.proofs.Common.{◌≡◌, ℕ, zero, suc, ◌+◌, ◌<◌, ◌≤◌, Bool, true, false, cond, ◌||◌, ◌&&◌, List, [], ◌∷◌, ◌++◌, take, length, get_or, refl, sym, ap, subst, ◌∙◌, Option, Some, None, is_some, is_none, option_map, arith, if◌then◌else◌}
use Rattle.std.specs.Prelude.{IsSome}
use Rattle.std.specs.FinMap as map
use Rattle.std.specs.Ordering.{eq_by_cmp}
use Rattle.std.proofs.lemmas.List.{take_more, take_all, map-append}
use Rattle.cfg_base.specs.Order.{path_cmp, paths_total}
use Rattle.cfg_base.specs.declared.path.Step.{Step}
use Rattle.cfg_base.specs.declared.value.Value.{Value}
use Rattle.cfg_base.specs.declared.kind.Kind.{Kind}
use Rattle.cfg_base.specs.declared.kind.Shape.{Shape}
use Rattle.cfg_base.specs.declared.kind.Shape.TheVariants.{Many}
use Rattle.cfg_base.specs.Words.{joined}
use Rattle.cfg_base.proofs.WordLemmas.{joined-distinct, joined-all, joined-longer}
use Rattle.cfg_values.specs.Spelling.{IsCanonical}
use Rattle.cfg_schema.specs.declared.place.Place.{Place}
use Rattle.cfg_schema.specs.Profile.{row_of}
use Rattle.cfg_schema.specs.Place.{place_of}
use Rattle.cfg_entries.specs.EntryMap.{Pair}
use Rattle.cfg_tree.specs.declared.limit.TheConstants.{MAX_STATEMENTS}
use Rattle.cfg_tree.specs.Statements.{Statements, size_of, parent_of, last_of}
use Rattle.cfg_tree.specs.Typed.{AreCounted, AreCanonical, AreWordsOf}
use Rattle.cfg_tree.specs.Tree.{IsStatementMap, IsTyped, IsTree}
use Rattle.cfg_tree.specs.Change.{with_order, put_last, put_at, is_ordered, IsReady, FitsProfile}
use Rattle.cfg_tree.specs.Children.{order_in}
use Rattle.cfg_tree.specs.Gather.{is_many, has_many, is_many_at, words_of_both, joined_at, gathered, gathered_one, gathered_from_none}
use Rattle.cfg_tree.specs.Limit.{paths_of, different}
use Rattle.cfg_tree.specs.Stated.{stated_one, stated, stated_from_none, IsSaid, AreSaid}
use Rattle.cfg_tree.proofs.PathLemmas.{same_or_not, renamed, order_at, order_other}
use Rattle.cfg_tree.proofs.PutLemmas.{Puts, put_statements, put_typed}
use Rattle.cfg_tree.proofs.StepLemmas.{puts, size-put}
use Rattle.cfg_tree.proofs.ReadyLemmas.{ready}
use Rattle.cfg_tree.proofs.TreeLemmas.{nothing_is}
use Rattle.cfg_tree.proofs.LimitLemmas.{is_met, met-push, different-push}

-- statements said in two times
pub stated-append : (m : Statements) (xs ys : List (Pair Value)) → stated m (xs ++ ys) ≡ stated (stated m xs) ys
stated-append m [] ys = refl
stated-append m (x ∷ xs) ys = stated-append (stated_one m x) xs ys

pub said_back : (m : Statements) (xs ys : List (Pair Value)) → AreSaid m (xs ++ ys) → AreSaid (stated m xs) ys
said_back m [] ys h = h
said_back m (x ∷ xs) ys h = said_back (stated_one m x) xs ys h.1

pub said_join : (m : Statements) (xs ys : List (Pair Value)) → AreSaid m xs → AreSaid (stated m xs) ys → AreSaid m (xs ++ ys)
said_join m [] ys h k = k
said_join m (x ∷ xs) ys h k = (h.0, said_join (stated_one m x) xs ys h.1 k)

-- what a look-up gives after one statement: at its path
pub stated_here : (m : Statements) (item : Pair Value) → 0 < length item.0 → map.get (stated_one m item) item.0 ≡ Some (joined_at item.0 (map.get m item.0) item.1)
stated_here m item long = (puts m item.0 (joined_at item.0 (map.get m item.0) item.1) long).here

or_none : (b : Bool) → b ≡ (b || false)
or_none true = refl
or_none false = refl

or_assoc : (a b c : Bool) → ((a || b) || c) ≡ (a || (b || c))
or_assoc true b c = refl
or_assoc false b c = refl

some_or : (b : Bool) (v : Value) (o : Option Value) → is_some (cond b (Some v) o) ≡ (is_some o || b)
some_or true v None = refl
some_or true v (Some w) = refl
some_or false v None = refl
some_or false v (Some w) = refl

insert_there : (m : Statements) (p q : List Step) (v : Value) → is_some (map.get (map.insert m p v) q) ≡ (is_some (map.get m q) || eq_by_cmp path_cmp q p)
insert_there m p q v = ap is_some (map.get-insert paths_total m p v q) ∙ some_or (eq_by_cmp path_cmp q p) v (map.get m q)

mapped : {A B : Type 0} (f : A → B) (o : Option A) → is_some (option_map f o) ≡ is_some o
mapped f None = refl
mapped f (Some x) = refl

order_there : (m : Statements) (a q : List Step) (f : List (List ℕ) → List (List ℕ)) → is_some (map.get (with_order m a f) q) ≡ is_some (map.get m q)
order_there m a q f =
    same_or_not q a (is_some (map.get (with_order m a f) q) ≡ is_some (map.get m q))
    (λ e. subst (λ (x : List Step). is_some (map.get (with_order m a f) x) ≡ is_some (map.get m x)) (sym e)
    (ap is_some (order_at m a f) ∙ mapped (renamed f) (map.get m a)))
    (λ d. ap is_some (order_other m a q f d))

-- which paths are there after a put
pub put_there : (m : Statements) (p q : List Step) (v : Value) → is_some (map.get (put_at m p v) q) ≡ (is_some (map.get m q) || eq_by_cmp path_cmp q p)
put_there m p q v = by_order (is_none (map.get m p) && is_ordered p) ∙ insert_there m p q v
  where
    by_order : (b : Bool)
        → is_some (map.get (if b then with_order (map.insert m p v) (parent_of p) (put_last (last_of p).name) else map.insert m p v) q)
        ≡ is_some (map.get (map.insert m p v) q)
    by_order true = order_there (map.insert m p v) (parent_of p) q (put_last (last_of p).name)
    by_order false = refl

-- after one statement
pub one_there : (m : Statements) (item : Pair Value) (q : List Step) → is_some (map.get (stated_one m item) q) ≡ (is_some (map.get m q) || eq_by_cmp path_cmp q item.0)
one_there m item q = put_there m item.0 q (joined_at item.0 (map.get m item.0) item.1)

-- after several
pub stated_there : (m : Statements) (xs : List (Pair Value)) (q : List Step) → is_some (map.get (stated m xs) q) ≡ (is_some (map.get m q) || is_met (paths_of xs) q)
stated_there m [] q = or_none (is_some (map.get m q))
stated_there m (x ∷ xs) q =
    stated_there (stated_one m x) xs q
    ∙ ap (λ (b : Bool). b || is_met (paths_of xs) q) (one_there m x q)
    ∙ or_assoc (is_some (map.get m q)) (eq_by_cmp path_cmp q x.0) (is_met (paths_of xs) q)

-- what is there stays there
pub stays_there : (m : Statements) (xs : List (Pair Value)) (q : List Step) → IsSome (map.get m q) → IsSome (map.get (stated m xs) q)
stays_there m xs q h = stated_there m xs q ∙ ap (λ (b : Bool). b || is_met (paths_of xs) q) h

-- what is made of statements one by one, each of which adds its path, has a statement for each path
module _ (made : List (Pair Value) → Statements) (one : Statements → Pair Value → Statements) (none : made [] ≡ map.empty)
    (more : (xs : List (Pair Value)) (x : Pair Value) → made (xs ++ x ∷ []) ≡ one (made xs) x)
    (there : (m : Statements) (x : Pair Value) (q : List Step) → is_some (map.get (one m x) q) ≡ (is_some (map.get m q) || eq_by_cmp path_cmp q x.0))
    (size : (m : Statements) (x : Pair Value) → size_of (one m x) ≡ cond (is_some (map.get m x.0)) (size_of m) (size_of m + 1)) where
  abbrev HasPaths : List (Pair Value) → Type 0
  HasPaths xs = ((q : List Step) → is_some (map.get (made xs) q) ≡ is_met (paths_of xs) q) × (size_of (made xs) ≡ different (paths_of xs))

  paths_push : (xs : List (Pair Value)) (x : Pair Value) → paths_of (xs ++ x ∷ []) ≡ paths_of xs ++ x.0 ∷ []
  paths_push xs x = map-append (λ (e : Pair Value). e.0) xs (x ∷ [])

  has_none : HasPaths []
  has_none = (
    λ q. ap (λ (m : Statements). is_some (map.get m q)) none ∙ ap is_some (map.get-empty {X = Value} path_cmp q),
    ap (λ (m : Statements). size_of m) none ∙ map.len-empty path_cmp Value,
  )

  has_more : (xs : List (Pair Value)) (x : Pair Value) → HasPaths xs → HasPaths (xs ++ x ∷ [])
  has_more xs x h = (
    λ q.
        ap (λ (m : Statements). is_some (map.get m q)) (more xs x)
        ∙ there (made xs) x q
        ∙ ap (λ (b : Bool). b || eq_by_cmp path_cmp q x.0) (h.0 q)
        ∙ sym (ap (λ (ps : List (List Step)). is_met ps q) (paths_push xs x) ∙ met-push (paths_of xs) x.0 q),
    ap (λ (m : Statements). size_of m) (more xs x)
        ∙ size (made xs) x
        ∙ ap (λ (b : Bool). cond b (size_of (made xs)) (size_of (made xs) + 1)) (h.0 x.0)
        ∙ ap (λ (k : ℕ). cond (is_met (paths_of xs) x.0) k (k + 1)) h.1
        ∙ sym (ap (λ (ps : List (List Step)). different ps) (paths_push xs x) ∙ different-push (paths_of xs) x.0),
  )

  first_have : (xs : List (Pair Value)) (n : ℕ) → n ≤ length xs → HasPaths (take n xs)
  first_have xs zero h = has_none
  first_have [] (suc n) h = absurd (omega (arith, h))
  first_have (d ∷ xs) (suc n) h =
      let one : n + 1 ≡ suc n = omega arith
      in subst (λ (es : List (Pair Value)). HasPaths es) (sym (take_more (d ∷ xs) n d (omega (arith, h))) ∙ ap (λ (k : ℕ). take k (d ∷ xs)) one)
      (has_more (take n (d ∷ xs)) (get_or (d ∷ xs) n d) (first_have (d ∷ xs) n (omega (arith, h))))

  has_paths : (xs : List (Pair Value)) → HasPaths xs
  has_paths xs = subst (λ (es : List (Pair Value)). HasPaths es) (take_all (length xs) xs (omega arith)) (first_have xs (length xs) (omega arith))

  pub made_there : (xs : List (Pair Value)) (q : List Step) → is_some (map.get (made xs) q) ≡ is_met (paths_of xs) q
  made_there xs = (has_paths xs).0

  pub size-made : (xs : List (Pair Value)) → size_of (made xs) ≡ different (paths_of xs)
  size-made xs = (has_paths xs).1

size-one : (m : Statements) (item : Pair Value) → size_of (stated_one m item) ≡ cond (is_some (map.get m item.0)) (size_of m) (size_of m + 1)
size-one m item = size-put m item.0 (joined_at item.0 (map.get m item.0) item.1)

stated_push : (xs : List (Pair Value)) (x : Pair Value) → stated_from_none (xs ++ x ∷ []) ≡ stated_one (stated_from_none xs) x
stated_push xs x = stated-append map.empty xs (x ∷ [])

-- from nothing, the paths that are there are those of the statements
pub from_none_there : (xs : List (Pair Value)) (q : List Step) → is_some (map.get (stated_from_none xs) q) ≡ is_met (paths_of xs) q
from_none_there = made_there stated_from_none stated_one refl stated_push one_there size-one

pub size-stated : (xs : List (Pair Value)) → size_of (stated_from_none xs) ≡ different (paths_of xs)
size-stated = size-made stated_from_none stated_one refl stated_push one_there size-one

pub gathered-append : (m : Statements) (xs ys : List (Pair Value)) → gathered m (xs ++ ys) ≡ gathered (gathered m xs) ys
gathered-append m [] ys = refl
gathered-append m (x ∷ xs) ys = gathered-append (gathered_one m x) xs ys

pub size-gathered : (xs : List (Pair Value)) → size_of (gathered_from_none xs) ≡ different (paths_of xs)
size-gathered = size-made gathered_from_none gathered_one refl (λ xs x. gathered-append map.empty xs (x ∷ []))
    (λ m x q. insert_there m x.0 q (joined_at x.0 (map.get m x.0) x.1))
    (λ m x. map.len-insert paths_total m x.0 (joined_at x.0 (map.get m x.0) x.1))

-- the words of a statement that is said twice are those of a statement of its row
later_words : (P : List (List ℕ) → Type 0) (old new : List (List ℕ)) → P old → P new → P (words_of_both false old new)
later_words P old [] h k = h
later_words P old (word ∷ new) h k = k

words_by : (shape : Shape) (kind : Kind) (old new : List (List ℕ)) → AreCounted shape old × AreCanonical kind old → AreCounted shape new × AreCanonical kind new
    → AreCounted shape (words_of_both (is_many shape) old new) × AreCanonical kind (words_of_both (is_many shape) old new)
words_by Many kind old new h k = ((some, joined-distinct old new h.0.1), joined-all (IsCanonical kind) old new h.1 k.1)
  where
    some : 0 < length (joined old new)
    some = let long = joined-longer old new in let few = h.0.0 in omega (arith, long, few)
words_by shape kind old new h k = later_words (λ (ws : List (List ℕ)). AreCounted shape ws × AreCanonical kind ws) old new h k

pub words_joined : (path : List Step) (here : Place) (old new : List (List ℕ)) → place_of path ≡ Some here → AreWordsOf here.row old → AreWordsOf here.row new
    → AreWordsOf here.row (words_of_both (is_many_at path) old new)
words_joined path here old new e h k =
    subst (λ (b : Bool). AreWordsOf here.row (words_of_both b old new)) (sym (ap has_many e))
    (words_by (row_of here.row).shape (row_of here.row).value_kind old new h k)

-- what is said is of the profile, joined to what is there
pub fits_joined : (m : Statements) (item : Pair Value) → IsTyped m → FitsProfile item.0 item.1 → FitsProfile item.0 (joined_at item.0 (map.get m item.0) item.1)
fits_joined m item typed fits = record { typed = fits.typed; words = λ here e. by_value here e _ refl }
  where
    by_value : (here : Place) → place_of item.0 ≡ Some here → (o : Option Value) → map.get m item.0 ≡ o → AreWordsOf here.row (joined_at item.0 o item.1).words
    by_value here e None f = fits.words here e
    by_value here e (Some old) f = words_joined item.0 here old.words item.1.words e (typed.words item.0 old here f e) (fits.words here e)

-- and its order is what stands there
order_joined : (path : List Step) (new : Value) (o : Option Value) → new.order ≡ [] → (joined_at path o new).order ≡ order_in o
order_joined path new None e = e
order_joined path new (Some old) e = ap (λ (names : List (List ℕ)). joined old.order names) e

pub said_ready : (m : Statements) (item : Pair Value) → IsStatementMap m → IsTyped m → IsSaid m item → IsReady m item.0 (joined_at item.0 (map.get m item.0) item.1)
said_ready m item statements typed said =
    let fits = fits_joined m item typed said.fits
    in ready m item.0 (joined_at item.0 (map.get m item.0) item.1) statements fits.typed said.parent
    (order_joined item.0 item.1 (map.get m item.0) said.order) (λ here e. (fits.words here e).0)

module _ (m : Statements) (item : Pair Value) (statements : IsStatementMap m) (typed : IsTyped m) (said : IsSaid m item) where
  left : Puts m (put_at m item.0 (joined_at item.0 (map.get m item.0) item.1)) item.0 (joined_at item.0 (map.get m item.0) item.1) (is_none (map.get m item.0) && is_ordered item.0)
  left = puts m item.0 (joined_at item.0 (map.get m item.0) item.1) said.parent.steps

  pub one_statements : IsStatementMap (stated_one m item)
  one_statements = put_statements m (stated_one m item) item.0 _ _ statements typed (said_ready m item statements typed said) (fits_joined m item typed said.fits) left refl

  pub one_typed : IsTyped (stated_one m item)
  one_typed = put_typed m (stated_one m item) item.0 _ _ statements typed (said_ready m item statements typed said) (fits_joined m item typed said.fits) left refl

-- what is said in turn keeps what holds of statements
pub said_keep : (m : Statements) (xs : List (Pair Value)) → IsStatementMap m → IsTyped m → AreSaid m xs → IsStatementMap (stated m xs) × IsTyped (stated m xs)
said_keep m [] statements typed h = (statements, typed)
said_keep m (x ∷ xs) statements typed h =
    said_keep (stated_one m x) xs (one_statements m x statements typed h.0) (one_typed m x statements typed h.0) h.1

-- from nothing it makes a tree, where the paths aren't too many
pub said_tree : (xs : List (Pair Value)) → AreSaid map.empty xs → different (paths_of xs) ≤ MAX_STATEMENTS → IsTree (stated_from_none xs)
said_tree xs said few =
    let kept = said_keep map.empty xs nothing_is.statements nothing_is.typed said
    in record { statements = kept.0; typed = kept.1; few = subst (λ (k : ℕ). k ≤ MAX_STATEMENTS) (sym (size-stated xs)) few }

-- what is gathered makes a tree, where the paths aren't too many
pub gathered_tree : (m : Statements) (xs : List (Pair Value)) → m ≡ gathered_from_none xs → IsStatementMap (gathered_from_none xs) → IsTyped (gathered_from_none xs)
    → different (paths_of xs) ≤ MAX_STATEMENTS → IsTree m
gathered_tree m xs e statements typed few =
    subst (λ (n : Statements). IsTree n) (sym e)
    record { statements = statements; typed = typed; few = subst (λ (k : ℕ). k ≤ MAX_STATEMENTS) (sym (size-gathered xs)) few }
