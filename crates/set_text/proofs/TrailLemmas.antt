-- The trail of a walk over statements: what one step more makes of it, and that statements in printing order go on from each other.
use Rattle.std.proofs.Common.{◌≡◌, ◌<◌, ◌+◌, ◌-◌, zero, suc, ℕ, List, [], ◌∷◌, ◌++◌, length, take, Option, Some, None, slice_get, refl, sym, ap, subst, ◌∙◌, arith, append-nil, length-append}
use Rattle.std.specs.List.{flat_map}
use Rattle.std.specs.FinMap as map
use Rattle.std.proofs.lemmas.List.{append_assoc}
use Rattle.std.proofs.lemmas.List.Concat.{flat_map-append}
use mathlib.Core.List.{IsPrefix}
use Rattle.cfg_base.specs.declared.path.Step.{Step}
use Rattle.cfg_base.specs.declared.value.Value.{Value}
use Rattle.cfg_schema.specs.declared.place.Place.{Place}
use Rattle.cfg_schema.specs.Place.{and_then, place_after, place_from, place_of, top_place}
use Rattle.cfg_tree.specs.Statements.{Statements, parent_of, last_of}
use Rattle.cfg_tree.specs.Children.{children_of}
use Rattle.cfg_tree.specs.OwnWords.{own_words, words_of_step}
use Rattle.cfg_tree.proofs.PathLemmas.{split, child_longer}
use Rattle.printing_order.specs.Listed.{Item, item_with, items_below}
use Rattle.printing_order.specs.Listing.{child_items}
use Rattle.printing_order.proofs.ListedLemmas.{parent_child}
use Rattle.set_text.specs.declared.trail.Mark.{Mark}
use Rattle.set_text.specs.Printed.{spaced}
use Rattle.set_text.specs.Trail.{own_text, place_behind, mark_of, marks_from, IsTrail, ComesAt, GoesOn}

-- one step more
words_more : (path : List Step) (s : Step) → own_words (path ++ s ∷ []) ≡ own_words path ++ words_of_step s
words_more path s =
    flat_map-append words_of_step path (s ∷ []) ∙ ap (λ (ws : List (List ℕ)). own_words path ++ ws) (append-nil (words_of_step s))

pub text_more : (path : List Step) (s : Step) → own_text (path ++ s ∷ []) ≡ own_text path ++ flat_map spaced (words_of_step s)
text_more path s = ap (flat_map spaced) (words_more path s) ∙ flat_map-append spaced (own_words path) (words_of_step s)

same_place : (o : Option Place) → and_then (place_from []) o ≡ o
same_place None = refl
same_place (Some here) = refl

place_more_from : (path : List Step) (s : Step) (here : Place) → place_from (path ++ s ∷ []) here ≡ place_behind (place_from path here) s
place_more_from [] s here = same_place (place_after here s)
place_more_from (t ∷ path) s here = by_place (place_more_from path s) (place_after here t)
  where
    by_place : ((there : Place) → place_from (path ++ s ∷ []) there ≡ place_behind (place_from path there) s)
        → (o : Option Place) → and_then (place_from (path ++ s ∷ [])) o ≡ place_behind (and_then (place_from path) o) s
    by_place further None = refl
    by_place further (Some there) = further there

pub place_more : (path : List Step) (s : Step) → place_of (path ++ s ∷ []) ≡ place_behind (place_of path) s
place_more path s = place_more_from path s top_place

-- the marks of a path with more steps begin with the path's
more_steps : (front : List Step) (x : Step) (xs : List Step) → (front ++ x ∷ []) ++ xs ≡ front ++ x ∷ xs
more_steps front x xs = append_assoc front (x ∷ []) xs

marks_first : (front more : List Step) → take (suc zero) (marks_from front more) ≡ mark_of front ∷ []
marks_first front [] = refl
marks_first front (s ∷ more) = refl

marks_taken : (front path more : List Step) → take (suc (length path)) (marks_from front (path ++ more)) ≡ marks_from front path
marks_taken front [] more = marks_first front more
marks_taken front (s ∷ path) more = ap (λ (ms : List Mark). mark_of front ∷ ms) (marks_taken (front ++ s ∷ []) path more)

marks_head : (front more : List Step) → slice_get (marks_from front more) 0 ≡ Some (mark_of front)
marks_head front [] = refl
marks_head front (s ∷ more) = refl

marks_at : (front path more : List Step) → slice_get (marks_from front (path ++ more)) (length path) ≡ Some (mark_of (front ++ path))
marks_at front [] more = marks_head front more ∙ ap (λ (p : List Step). Some (mark_of p)) (sym (append-nil front))
marks_at front (s ∷ path) more =
    marks_at (front ++ s ∷ []) path more ∙ ap (λ (p : List Step). Some (mark_of p)) (more_steps front s path)

pub marks_more : (front path : List Step) (s : Step)
    → marks_from front (path ++ s ∷ []) ≡ marks_from front path ++ mark_of (front ++ (path ++ s ∷ [])) ∷ []
marks_more front [] s = refl
marks_more front (t ∷ path) s =
    ap (λ (ms : List Mark). mark_of front ∷ ms)
    (marks_more (front ++ t ∷ []) path s
    ∙ ap (λ (p : List Step). marks_from (front ++ t ∷ []) path ++ mark_of p ∷ []) (more_steps front t (path ++ s ∷ [])))

marks_count : (front path : List Step) → length (marks_from front path) ≡ length path + 1
marks_count front [] = refl
marks_count front (s ∷ path) = let n = marks_count (front ++ s ∷ []) path in omega (arith, n)

taken_back : {A : Type 0} (xs ys : List A) → take (length xs) (xs ++ ys) ≡ xs
taken_back [] ys = refl
taken_back {A} (x ∷ xs) ys = ap (λ (zs : List A). x ∷ zs) (taken_back xs ys)

more_text : (path more : List Step) → own_text (path ++ more) ≡ own_text path ++ own_text more
more_text path more =
    ap (flat_map spaced) (flat_map-append words_of_step path more) ∙ flat_map-append spaced (own_words path) (own_words more)

-- back to a path above
module _ (path : List Step) (text : List ℕ) (marks : List Mark) (trail : IsTrail path text marks)
    (above : List Step) (begins : IsPrefix above path) where
  pub back_marks : take (suc (length above)) marks ≡ marks_from [] above
  back_marks =
      ap (take (suc (length above))) (trail.marked ∙ ap (marks_from []) (sym begins.1)) ∙ marks_taken [] above begins.0

  pub back_mark : slice_get marks (length above) ≡ Some (mark_of above)
  back_mark =
      ap (λ (ms : List Mark). slice_get ms (length above)) (trail.marked ∙ ap (marks_from []) (sym begins.1)) ∙ marks_at [] above begins.0

  pub back_text : take (length (own_text above)) text ≡ own_text above
  back_text =
      ap (take (length (own_text above))) (trail.words ∙ ap own_text (sym begins.1) ∙ more_text above begins.0)
      ∙ taken_back (own_text above) (own_text begins.0)

  pub back_within : length above < length marks
  back_within =
      let n = ap length trail.marked ∙ marks_count [] path
      in let k = ap length (sym begins.1) ∙ length-append above begins.0
      in omega (arith, n, k)

-- and one step on from there
pub one_more : (above : List Step) (s : Step) (text : List ℕ) (marks : List Mark) → IsTrail above text marks
    → IsTrail (above ++ s ∷ []) (text ++ flat_map spaced (words_of_step s))
    (marks ++ record { end = length (text ++ flat_map spaced (words_of_step s)); place = place_behind (place_of above) s } ∷ [])
one_more above s text marks trail = record { words = own; marked = marked }
  where
    own : text ++ flat_map spaced (words_of_step s) ≡ own_text (above ++ s ∷ [])
    own = ap (λ (bytes : List ℕ). bytes ++ flat_map spaced (words_of_step s)) trail.words ∙ sym (text_more above s)

    mark : Mark
    mark = record { end = length (text ++ flat_map spaced (words_of_step s)); place = place_behind (place_of above) s }

    same : mark ≡ mark_of (above ++ s ∷ [])
    same = ap (λ (n : ℕ). record { end = n; place = place_behind (place_of above) s }) (ap length own)
        ∙ ap (λ (o : Option Place). record { end = length (own_text (above ++ s ∷ [])); place = o }) (sym (place_more above s))

    marked : marks ++ mark ∷ [] ≡ marks_from [] (above ++ s ∷ [])
    marked = ap (λ (ms : List Mark). ms ++ mark ∷ []) trail.marked
        ∙ ap (λ (m : Mark). marks_from [] above ++ m ∷ []) same
        ∙ sym (marks_more [] above s)

-- the last of the marks is the path's
module _ (path : List Step) (text : List ℕ) (marks : List Mark) (trail : IsTrail path text marks) where
  last_count : length marks - 1 ≡ length path
  last_count = let n = ap length trail.marked ∙ marks_count [] path in omega (arith, n)

  pub some_marks : 0 < length marks
  some_marks = let n = ap length trail.marked ∙ marks_count [] path in omega (arith, n)

  pub last_mark : (mark : Mark) → slice_get marks (length marks - 1) ≡ Some mark → mark.place ≡ place_of path
  last_mark mark here = some_is (sym here ∙ ap (slice_get marks) last_count ∙ back_mark path text marks trail path ([], append-nil path))
    where
      some_is : Some mark ≡ Some (mark_of path) → mark.place ≡ place_of path
      some_is e = cc

  pub along : (s : Step) (text' : List ℕ) (marks' : List Mark) (mark : Mark) → slice_get marks (length marks - 1) ≡ Some mark
      → text' ≡ text ++ flat_map spaced (words_of_step s)
      → marks' ≡ marks ++ record { end = length text'; place = place_behind mark.place s } ∷ []
      → IsTrail (path ++ s ∷ []) text' marks'
  along s text' marks' mark here cut kept =
      subst (λ (ms : List Mark). IsTrail (path ++ s ∷ []) text' ms) (sym kept)
      (subst (λ (bytes : List ℕ). IsTrail (path ++ s ∷ []) bytes (marks ++ record { end = length bytes; place = place_behind mark.place s } ∷ []))
      (sym cut)
      (subst (λ (o : Option Place). IsTrail (path ++ s ∷ []) (text ++ flat_map spaced (words_of_step s))
      (marks ++ record { end = length (text ++ flat_map spaced (words_of_step s)); place = place_behind o s } ∷ []))
      (sym (last_mark mark here))
      (one_more path s text marks trail)))

-- a path that stands right below another one, or right below one above that
module _ (p old : List Step) (comes : ComesAt p old) where
  parent_count : length p - 1 ≡ length (parent_of p)
  parent_count = let n = ap length (split p comes.0) in omega (arith, n, child_longer (parent_of p) (last_of p))

  pub gone_within : (text : List ℕ) (marks : List Mark) → IsTrail old text marks → length p - 1 < length marks
  gone_within text marks trail = let n = back_within old text marks trail (parent_of p) comes.1 in omega (arith, n, parent_count)

  pub gone : (text text' : List ℕ) (marks marks' : List Mark) (mark : Mark) (s : Step) → IsTrail old text marks
      → slice_get marks (length p - 1) ≡ Some mark → s ≡ last_of p
      → text' ≡ take mark.end text ++ flat_map spaced (words_of_step s)
      → marks' ≡ take (length p - 1 + 1) marks ++ record { end = length text'; place = place_behind mark.place s } ∷ []
      → IsTrail p text' marks'
  gone text text' marks marks' mark s trail here is_last cut kept =
      subst (λ (ms : List Mark). IsTrail p text' ms) (sym kept)
      (subst (λ (bytes : List ℕ). IsTrail p bytes (take (length p - 1 + 1) marks ++ record { end = length bytes; place = place_behind mark.place s } ∷ []))
      (sym cut) at_path)
    where
      above : List Step
      above = parent_of p

      same : mark ≡ mark_of above
      same = some_is (sym here ∙ ap (slice_get marks) parent_count ∙ back_mark old text marks trail above comes.1)
        where
          some_is : Some mark ≡ Some (mark_of above) → mark ≡ mark_of above
          some_is e = cc

      one_longer : length p - 1 + 1 ≡ suc (length above)
      one_longer = omega (arith, parent_count)

      back : IsTrail above (take mark.end text) (take (length p - 1 + 1) marks)
      back = record {
        words = ap (λ (m : Mark). take m.end text) same ∙ back_text old text marks trail above comes.1;
        marked = ap (λ (n : ℕ). take n marks) one_longer ∙ back_marks old text marks trail above comes.1;
      }

      at_child : IsTrail (above ++ s ∷ []) (take mark.end text ++ flat_map spaced (words_of_step s))
          (take (length p - 1 + 1) marks
          ++ record { end = length (take mark.end text ++ flat_map spaced (words_of_step s)); place = place_behind mark.place s } ∷ [])
      at_child =
          subst (λ (o : Option Place). IsTrail (above ++ s ∷ []) (take mark.end text ++ flat_map spaced (words_of_step s))
          (take (length p - 1 + 1) marks
          ++ record { end = length (take mark.end text ++ flat_map spaced (words_of_step s)); place = place_behind o s } ∷ []))
          (ap (λ (m : Mark). m.place) (sym same))
          (one_more above s (take mark.end text) (take (length p - 1 + 1) marks) back)

      is_path : above ++ s ∷ [] ≡ p
      is_path = ap (λ (t : Step). above ++ t ∷ []) is_last ∙ sym (split p comes.0)

      at_path : IsTrail p (take mark.end text ++ flat_map spaced (words_of_step s))
          (take (length p - 1 + 1) marks
          ++ record { end = length (take mark.end text ++ flat_map spaced (words_of_step s)); place = place_behind mark.place s } ∷ [])
      at_path = subst (λ (q : List Step). IsTrail q (take mark.end text ++ flat_map spaced (words_of_step s))
          (take (length p - 1 + 1) marks
          ++ record { end = length (take mark.end text ++ flat_map spaced (words_of_step s)); place = place_behind mark.place s } ∷ [])) is_path at_child

-- statements in printing order go on from any path at or below the one that they stand below, and what goes on from each such path may come after them
prefix_more : (path q : List Step) (s : Step) → IsPrefix (path ++ s ∷ []) q → IsPrefix path q
prefix_more path q s begins = (s ∷ begins.0, sym (append_assoc path (s ∷ []) begins.0) ∙ begins.1)

module _ (m : Statements) where
  by_item : (path : List Step) (s : Step) (o : Option Value) (inside rest : List Item)
      → ((q : List Step) → IsPrefix (path ++ s ∷ []) q → GoesOn q (inside ++ rest)) → ((q : List Step) → IsPrefix path q → GoesOn q rest)
      → (q : List Step) → IsPrefix path q → GoesOn q (item_with (path ++ s ∷ []) o inside ++ rest)
  by_item path s None inside rest within behind q begins = behind q begins
  by_item path s (Some value) inside rest within behind q begins = (
    (omega (arith, child_longer path s), subst (λ (p : List Step). IsPrefix p q) (sym (parent_child path s).0) begins),
    within (path ++ s ∷ []) ([], append-nil (path ++ s ∷ [])),
  )

  goes_on_with : (levels : ℕ) (path : List Step) (more : List Item) → ((q : List Step) → IsPrefix path q → GoesOn q more)
      → (q : List Step) → IsPrefix path q → GoesOn q (items_below levels m path ++ more)
  unfolding items_below
  goes_on_with zero path more behind = behind
  goes_on_with (suc levels) path more behind =
      by_steps (λ s rest. goes_on_with levels (path ++ s ∷ []) rest) (children_of m path)
    where
      by_steps : ((s : Step) (rest : List Item) → ((q : List Step) → IsPrefix (path ++ s ∷ []) q → GoesOn q rest)
          → (q : List Step) → IsPrefix (path ++ s ∷ []) q → GoesOn q (items_below levels m (path ++ s ∷ []) ++ rest))
          → (steps : List Step) → (q : List Step) → IsPrefix path q → GoesOn q (flat_map (child_items levels m path) steps ++ more)
      by_steps within [] q begins = behind q begins
      by_steps within (s ∷ steps) q begins =
          subst (GoesOn q)
          (sym (append_assoc (child_items levels m path s) (flat_map (child_items levels m path) steps) more))
          (by_item path s (map.get m (path ++ s ∷ [])) (items_below levels m (path ++ s ∷ [])) (flat_map (child_items levels m path) steps ++ more)
          (within s (flat_map (child_items levels m path) steps ++ more) (λ r below. by_steps within steps r (prefix_more path r s below)))
          (by_steps within steps) q begins)

  pub items_go_on : (levels : ℕ) (path : List Step) → GoesOn path (items_below levels m path)
  items_go_on levels path =
      subst (GoesOn path) (append-nil (items_below levels m path)) (goes_on_with levels path [] (λ q begins. tt) path ([], append-nil path))
