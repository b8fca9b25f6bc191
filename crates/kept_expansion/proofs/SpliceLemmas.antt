-- What a look-up in a spliced expansion gives.
use Rattle.std.proofs.Common.{◌≡◌, Bool, true, false, cond, T, List, [], ◌∷◌, filter, refl, sym, ap, ◌∙◌, Option, Some, None, is_some, Equal}
use Rattle.std.specs.Prelude.{◌&&◌, ◌||◌}
use Rattle.std.specs.FinMap as finite
use Rattle.std.specs.FinMap.Entries.{find, find-where_key, is_sorted, is_sorted-where_key, below_all}
use Rattle.std.specs.List.{AllByRecursion}
use Rattle.std.specs.List.Sorted.{IsStrictlySortedBy}
use Rattle.std.specs.Map.{keys_of}
use Rattle.std.specs.Ordering.{eq_by_cmp, is_eq, is_le, is_lt}
use Rattle.std.specs.declared.cmp.Ordering.{Ordering}
use Rattle.std.specs.declared.cmp.Ordering.TheVariants.{Less, Greater}
use Rattle.cfg_base.specs.Order.{path_cmp, paths_total}
use Rattle.cfg_base.specs.declared.path.Step.{Step}
use Rattle.cfg_tree.specs.Statements.{is_below}
use Rattle.cfg_tree.specs.Shown.{without_all}
use Rattle.cfg_tree.specs.declared.full.Given.{Given}
use Rattle.cfg_tree.specs.Full.{Expansion}
use Rattle.cfg_tree.proofs.MapLemmas.{same_path}
use Rattle.cfg_tree.proofs.BelowLemmas.{front_of, found_below}
use Rattle.cfg_tree.proofs.ClearLemmas.{get-without_all, any-filter}
use Rattle.kept_expansion.specs.Changes.{is_reached}
use Rattle.kept_expansion.specs.Splice.{cleared, with_entries, entries_at, spliced}

taken_or_not : (b c d : Bool) (o : Option Given) → cond (b && d) None (cond (c && d) None o) ≡ cond ((c || b) && d) None o
taken_or_not true true true o = refl
taken_or_not true true false o = refl
taken_or_not true false true o = refl
taken_or_not true false false o = refl
taken_or_not false true true o = refl
taken_or_not false true false o = refl
taken_or_not false false true o = refl
taken_or_not false false false o = refl

-- the paths that one expansion has at and below some paths are gone
get-cleared : (made full : Expansion) (roots : List (List Step)) (q : List Step)
    → finite.get (cleared made full roots) q ≡ cond (is_reached roots q && is_some (finite.get full q)) None (finite.get made q)
get-cleared made full [] q = refl
get-cleared made full (root ∷ roots) q =
    get-cleared (without_all made (filter (is_below root) (finite.keys full))) full roots q
    ∙ ap (λ (o : Option Given). cond (is_reached roots q && is_some (finite.get full q)) None o)
    (get-without_all made (filter (is_below root) (finite.keys full)) q
    ∙ ap (λ (b : Bool). cond b None (finite.get made q))
    (any-filter (is_below root) (finite.keys full) q ∙ ap (λ (b : Bool). is_below root q && b) (sym (finite.contains_key-keys full q))))
    ∙ taken_or_not (is_reached roots q) (is_below root q) (is_some (finite.get full q)) (finite.get made q)

gone : (b : Bool) (o : Option Given) → cond (b && is_some o) None o ≡ cond b None o
gone true None = refl
gone true (Some g) = refl
gone false o = refl

abbrev or_else : Option Given → Option Given → Option Given
or_else None p = p
or_else (Some g) p = Some g

both_hold : (a b : Bool) → T (a && b) → T a × T b
both_hold true b h = (tt, h)
both_hold false b h = absurd h

-- an entry isn't found where all are after it
none_above : (k q : List Step) (es : List (List Step × Given)) → T (below_all path_cmp k es) → q ≡ k → find path_cmp q es ≡ None
none_above k q [] h is = refl
none_above k q (e ∷ es) h is =
    let parts = both_hold (is_lt (path_cmp k e.0)) (below_all path_cmp k es) h
    in ap (λ (b : Bool). cond b (Some e.1) (find path_cmp q es)) (ap (λ (p : List Step). eq_by_cmp path_cmp p e.0) is ∙ less (path_cmp k e.0) parts.0)
    ∙ none_above k q es parts.1 is
  where
    less : (o : Ordering) → T (is_lt o) → is_eq o ≡ false
    less Less h = refl
    less Equal h = absurd h
    less Greater h = refl

get-with_entries : (made : Expansion) (es : List (List Step × Given)) (q : List Step) → T (is_sorted path_cmp es)
    → finite.get (with_entries made es) q ≡ or_else (find path_cmp q es) (finite.get made q)
get-with_entries made [] q h = refl
get-with_entries made (e ∷ es) q h =
    let parts = both_hold (below_all path_cmp e.0 es) (is_sorted path_cmp es) h
    in get-with_entries (finite.insert made e.0 e.1) es q parts.1
    ∙ ap (or_else (find path_cmp q es)) (finite.get-insert paths_total made e.0 e.1 q)
    ∙ by_test (eq_by_cmp path_cmp q e.0) refl parts.0
  where
    by_test : (b : Bool) → eq_by_cmp path_cmp q e.0 ≡ b → T (below_all path_cmp e.0 es)
        → or_else (find path_cmp q es) (cond b (Some e.1) (finite.get made q)) ≡ or_else (cond b (Some e.1) (find path_cmp q es)) (finite.get made q)
    by_test true f above = ap (λ (o : Option Given). or_else o (Some e.1)) (none_above e.0 q es above ((same_path q e.0).0 f))
    by_test false f above = refl

ascend : (es : List (List Step × Given)) → T (is_sorted path_cmp es) → IsStrictlySortedBy path_cmp (keys_of es)
unfolding IsStrictlySortedBy
ascend [] h = tt
ascend (e ∷ es) h = let parts = both_hold (below_all path_cmp e.0 es) (is_sorted path_cmp es) h in (above es parts.0, ascend es parts.1)
  where
    less : (o : Ordering) → T (is_lt o) → o ≡ Less
    less Less h = refl
    less Equal h = absurd h
    less Greater h = absurd h

    above : (xs : List (List Step × Given)) → T (below_all path_cmp e.0 xs) → AllByRecursion (λ y. path_cmp e.0 y ≡ Less) (keys_of xs)
    above [] h = tt
    above (x ∷ xs) h = let parts = both_hold (is_lt (path_cmp e.0 x.0)) (below_all path_cmp e.0 xs) h in (less _ parts.0, above xs parts.1)

-- a walk from a path on meets first all that is at and below it
pub walk_below : (full : Expansion) (root : List Step) (left : List (List Step × Given)) → left ≡ filter (λ e. is_le (path_cmp root e.0)) (finite.entries full)
    → front_of (is_below root) (keys_of left) ≡ filter (is_below root) (finite.keys full)
walk_below full root left e = found_below root (finite.entries full) left (ascend (finite.entries full) (finite.entries_sorted full)) e

joined : (b : Bool) (o p : Option Given) → or_else (cond b o None) (cond b None p) ≡ cond b o p
joined true None p = refl
joined true (Some g) p = refl
joined false o p = refl

-- at and below the paths it is the part's, elsewhere the old one's
pub get-spliced : (full part : Expansion) (roots : List (List Step)) (q : List Step)
    → finite.get (spliced full part roots) q ≡ cond (is_reached roots q) (finite.get part q) (finite.get full q)
get-spliced full part roots q =
    get-with_entries (cleared full full roots) (entries_at roots (finite.entries part)) q
    (is_sorted-where_key path_cmp (is_reached roots) (finite.entries part) (finite.entries_sorted part))
    ∙ ap (λ (o : Option Given). or_else o (finite.get (cleared full full roots) q))
    (find-where_key path_cmp (is_reached roots) q (λ x tie. ap (is_reached roots) (sym ((same_path q x).0 (ap is_eq tie)))) (finite.entries part)
    ∙ ap (λ (o : Option Given). cond (is_reached roots q) o None) (sym (finite.get-entries part q)))
    ∙ ap (or_else (cond (is_reached roots q) (finite.get part q) None)) (get-cleared full full roots q ∙ gone (is_reached roots q) (finite.get full q))
    ∙ joined (is_reached roots q) (finite.get part q) (finite.get full q)
