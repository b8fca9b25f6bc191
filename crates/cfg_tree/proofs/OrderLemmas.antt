-- Orders of parents: none at the top, and what a change of one leaves.
use Rattle.std.proofs.Common.{eqb-true, ◌==◌, ◌||◌, ◌&&◌, not, Bool, Some, None, position, ◌≡◌, ℕ, true, false, List, [], ◌∷◌, length, refl, sym, ap, subst, Option, option_map, arith}
use Rattle.std.specs.Prelude.{codes}
use Rattle.std.proofs.lemmas.List.Quantifiers.{position-Some}
use Rattle.cfg_base.specs.declared.path.Step.{Step}
use Rattle.cfg_schema.specs.declared.level.Level.{Level}
use Rattle.cfg_schema.specs.declared.place.Place.{Place}
use Rattle.cfg_schema.specs.Place.{ordered_row}
use Rattle.cfg_schema.specs.Profile.{profile, line_at, no_line, head_of, level_of, same_word, stands}
use Rattle.cfg_schema.proofs.LevelLemmas.{all_at}
use Rattle.cfg_schema.proofs.RowFacts.{has_ordered_head, profile_ordered_heads, top_unordered}
use Rattle.cfg_schema.proofs.TestLemmas.{both, same}
use Rattle.cfg_tree.specs.Statements.{no_step}
use Rattle.cfg_tree.specs.Change.{has_head, is_ordered}
use Rattle.cfg_tree.specs.Tree.{ordered_head}

no_steps : (path : List Step) → length path ≡ 0 → path ≡ []
no_steps [] e = refl
no_steps (x ∷ path) e = absurd (omega arith)

-- the top is no child
pub top_is_unordered : (path : List Step) → length path ≡ 0 → false ≡ is_ordered path
top_is_unordered path e =
    subst (λ (p : List Step). false ≡ is_ordered p) (sym (no_steps path e))
    (sym (ap (λ (o : Option ℕ). has_head (option_map head_of o) no_step) top_unordered))

pub none_there : (steps path : List Step) → steps ≡ path → true ≡ (length steps == 0) → length path ≡ 0
none_there steps path e h = let z = eqb-true (length steps) 0 (sym h) in subst (λ (p : List Step). length p ≡ 0) e z

may_be_here : (id : ℕ) (level : Level) (step : Step) → position (λ line. stands level line && line.ordered) profile ≡ Some id
    → same_word (head_of id) step.head ≡ true → (length step.head == 0 || same_word step.head (codes "term")) ≡ true
may_be_here id level step found same_head =
    let at = position-Some (λ line. stands level line && line.ordered) profile id no_line found
    in let ordered = (both (stands level (line_at profile id)) _ at.1).1
    in let heads = all_at has_ordered_head profile id no_line profile_ordered_heads at.0
    in subst (λ (w : List ℕ). (length w == 0 || same_word w (codes "term")) ≡ true) {x = head_of id} {y = step.head} (same _ _ same_head)
    (told (line_at profile id).ordered _ ordered heads)
  where
    told : (ordered b : Bool) → ordered ≡ true → (not ordered || b) ≡ true → b ≡ true
    told true b e h = h
    told false b e h = cc

-- a step of an ordered row has no head, or that one
pub may_be_ordered : (here : Option Place) (step : Step) → has_head (ordered_head here) step ≡ true
    → (length step.head == 0 || same_word step.head (codes "term")) ≡ true
may_be_ordered None step h = cc
may_be_ordered (Some here) step h = by_row (ordered_row here) refl h
  where
    by_row : (o : Option ℕ) → ordered_row here ≡ o → has_head (option_map head_of o) step ≡ true
        → (length step.head == 0 || same_word step.head (codes "term")) ≡ true
    by_row None found h = cc
    by_row (Some id) found h = may_be_here id (level_of here.row here.in_group) step found h
