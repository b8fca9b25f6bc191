-- Of a typed map nothing stands below an apply statement.
use Rattle.std.proofs.Common.{◌≡◌, ◌<◌, Bool, true, false, not, ◌&&◌, ◌||◌, List, [], ◌∷◌, ◌++◌, length, refl, sym, ap, subst, ◌∙◌, arith, length-append, Option, Some, None}
use Rattle.std.specs.Prelude.{IsSome}
use Rattle.std.specs.List.{list_all}
use Rattle.std.specs.FinMap as finite
use Rattle.cfg_base.specs.declared.path.Step.{Step}
use Rattle.cfg_schema.specs.declared.place.Place.{Place}
use Rattle.cfg_schema.specs.declared.table.Line.{Line}
use Rattle.cfg_schema.specs.Keyword.{spelled}
use Rattle.cfg_schema.specs.Profile.{profile, line_at, no_line, is_level}
use Rattle.cfg_schema.specs.Place.{has_words, top_place, place_after, and_then, place_from, place_of}
use Rattle.cfg_schema.proofs.TestLemmas.{same}
use Rattle.cfg_schema.proofs.LevelLemmas.{led_to, all_at}
use Rattle.cfg_tree.specs.Statements.{Statements, parent_of, last_of}
use Rattle.cfg_tree.specs.Tree.{IsTree}
use Rattle.cfg_tree.specs.Typed.{IsLevelPath}
use Rattle.cfg_tree.proofs.PathLemmas.{split, same_ends}
use Rattle.cfg_tree.proofs.FollowLemmas.{typed_place, typed_front, typed_last, parent_is_level}
use Rattle.group_expand.specs.Sources.{apply_step, except_step, same_step}
use Rattle.group_expand.specs.Expansion.{is_apply}
use Rattle.group_expand.proofs.ClosedLemmas.{both}

-- no row of a level has the words of an apply statement
abbrev keeps_apart : Step → Line → Bool
keeps_apart step line = not (has_words line.shape (spelled line.head) (spelled line.name) step && is_level line.shape)

no_applied_level : list_all (keeps_apart apply_step) profile ≡ true
unfolding profile
no_applied_level = refl

no_excepted_level : list_all (keeps_apart except_step) profile ≡ true
unfolding profile
no_excepted_level = refl

after_more : (o : Option Place) (rest : List Step) (s : Step)
    → ((here : Place) → place_from (rest ++ s ∷ []) here ≡ and_then (λ h. place_after h s) (place_from rest here))
    → and_then (place_from (rest ++ s ∷ [])) o ≡ and_then (λ h. place_after h s) (and_then (place_from rest) o)
after_more None rest s go = refl
after_more (Some here) rest s go = go here

one_place : (o : Option Place) → and_then (place_from []) o ≡ o
one_place None = refl
one_place (Some here) = refl

place_more : (rest : List Step) (s : Step) (here : Place) → place_from (rest ++ s ∷ []) here ≡ and_then (λ h. place_after h s) (place_from rest here)
place_more [] s here = one_place (place_after here s)
place_more (t ∷ rest) s here = after_more (place_after here t) rest s (place_more rest s)

pub step_is : (s t : Step) → same_step s t ≡ true → s ≡ t
step_is s t e = let h = both _ _ e in λ i. record { head = same s.head t.head h.0 i; name = same s.name t.name h.1 i }

clash : (a b : Bool) → not (a && b) ≡ true → a ≡ true → b ≡ true → ⊥
clash true true h e f = cc
clash true false h e f = cc
clash false b h e f = cc

-- a path whose last step is this one isn't a level's
not_a_level : (step : Step) → list_all (keeps_apart step) profile ≡ true → (p : List Step) → 0 < length p → IsLevelPath p → last_of p ≡ step → ⊥
not_a_level step table p long level last =
    let up = typed_place (parent_of p) top_place (typed_front p _ level.typed)
    in let led = typed_last p long level.typed up.0 up.1
    in let to = led_to up.0 led.0 (last_of p) led.1
    in let here : place_of p ≡ Some led.0
    = ap (λ (q : List Step). place_from q top_place) (split p long) ∙ place_more (parent_of p) (last_of p) top_place
    ∙ ap (and_then (λ h. place_after h (last_of p))) up.1 ∙ led.1
    in let words = subst (λ (s : Step). has_words (line_at profile led.0.row).shape (spelled (line_at profile led.0.row).head) (spelled (line_at profile led.0.row).name) s ≡ true) last to.words
    in clash _ _ (all_at (keeps_apart step) profile led.0.row no_line table to.stood.0) words (level.opens led.0 here)

either : (a b : Bool) (P : Type 0) → (a || b) ≡ true → (a ≡ true → P) → (b ≡ true → P) → P
either true b P e f g = f refl
either false b P e f g = g e

apply_last : (p : List Step) (P : Type 0) → is_apply p ≡ true → (0 < length p → (last_of p ≡ apply_step → P)) → (0 < length p → (last_of p ≡ except_step → P)) → P
apply_last [] P e f g = cc
apply_last (t ∷ p) P e f g =
    either _ _ P e (λ k. f (omega arith) (sym (step_is apply_step (last_of (t ∷ p)) k))) (λ k. g (omega arith) (sym (step_is except_step (last_of (t ∷ p)) k)))

pub parent_is : (p : List Step) (s : Step) → parent_of (p ++ s ∷ []) ≡ p
parent_is p s = sym (same_ends p _ s _ (split (p ++ s ∷ []) (let k = length-append p (s ∷ []) in omega (arith, k)))).0

-- the premise of the closure, of each tree
pub nothing_below_apply : (m : Statements) → IsTree m → (p : List Step) (s : Step) → IsSome (finite.get m (p ++ s ∷ [])) → is_apply p ≡ false
nothing_below_apply m tree p s there = by_test _ refl
  where
    level : IsLevelPath p
    level = subst (λ (q : List Step). IsLevelPath q) (parent_is p s)
        (parent_is_level (p ++ s ∷ []) (let k = length-append p (s ∷ []) in omega (arith, k)) (tree.typed.paths (p ++ s ∷ []) there))

    by_test : (b : Bool) → is_apply p ≡ b → b ≡ false
    by_test true e =
        absurd (apply_last p ⊥ e (λ long last. not_a_level apply_step no_applied_level p long level last) (λ long last. not_a_level except_step no_excepted_level p long level last))
    by_test false e = refl
