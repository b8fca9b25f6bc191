-- Which configurations were accepted before there was a second profile, by the rows of the first one, and how they were printed.
-- Junos OS CLI User Guide, on commit check and on displaying the configuration; which rows and rules there were is this project's own.
use Rattle.std.specs.Prelude.{◌≡◌, ◌≢◌, ◌≤◌, ◌<◌, ◌+◌, ℕ, zero, suc, List, [], ◌∷◌, ◌++◌, length, Contains, Option, Some, None, IsSome}
use Rattle.std.specs.List.{AllByRecursion, flat_map}
use Rattle.std.specs.Option.{option_map}
use Rattle.std.specs.FinMap as finite
use Rattle.cfg_base.specs.declared.kind.Shape.{Shape}
use Rattle.cfg_base.specs.declared.kind.Shape.TheVariants.{Keyed, Bare}
use Rattle.cfg_base.specs.declared.path.Step.{Step}
use Rattle.cfg_base.specs.declared.path.TheConstants.{MAX_STEPS}
use Rattle.cfg_base.specs.declared.value.Value.{Value}
use Rattle.cfg_schema.specs.declared.place.Place.{Place}
use Rattle.cfg_schema.specs.Place.{top_place}
use Rattle.cfg_tree.specs.declared.first_profile.TheConstants.{PERMISSIONS}
use Rattle.cfg_tree.specs.declared.full.Given.{Given}
use Rattle.cfg_tree.specs.declared.limit.TheConstants.{MAX_STATEMENTS}
use Rattle.cfg_tree.specs.Children.{order_in, row_steps, steps_below}
use Rattle.cfg_tree.specs.FirstProfile.{first_permissions}
use Rattle.cfg_tree.specs.Full.{Expansion}
use Rattle.cfg_tree.specs.Statements.{Statements, HasParent, size_of}
use Rattle.cfg_tree.specs.Tree.{IsOrderBy}
use Rattle.cfg_tree.specs.Typed.{AreCanonical, AreCounted, IsName}
use Rattle.curly_print.specs.Printed.{statement_text}
use Rattle.group_expand.specs.Expansion.{gift_at, gift_of, order_by}
use Rattle.commit_check.specs.declared.rule.CommitRule.{CommitRule}
use Rattle.commit_check.specs.declared.rule.CommitRule.TheVariants.{TextLength}
use Rattle.commit_check.specs.declared.rule.TheConstants.{MAX_TEXT}
use Rattle.commit_check.specs.Least.{Nowhere}
use Rattle.commit_check.specs.Rules.{AtTop, Fails, number_of}
use Rattle.profile_laws.specs.Before.{was_ordered_head, was_place_after, was_place_of, was_row, was_rows, WasNoHead}

-- the name of a step below a place, where the step followed that row; a bare name was no head
abbrev pub WasNamed : Place → ℕ → Shape → List ℕ → Type 0
WasNamed here id Keyed name = IsName here.in_group (was_row id).name_kind name
WasNamed here id Bare name = IsName here.in_group (was_row id).name_kind name × WasNoHead here.row here.in_group name
WasNamed here id _ name = Unit {0}

-- the steps from a place on followed rows, and had names of those
abbrev pub FollowedFrom : List Step → Place → Type 0
FollowedFrom [] here = Unit {0}
FollowedFrom (step ∷ rest) here =
    (next : Place) × (was_place_after here step ≡ Some next) × WasNamed here next.row (was_row next.row).shape step.name × FollowedFrom rest next

-- the words that a statement of a row had; a permission was one of five
pub record WereWords (id : ℕ) (words : List (List ℕ)) : Type 0 where
  pub counted : AreCounted (was_row id).shape words
  pub permissions : id ≡ PERMISSIONS → AllByRecursion (Contains first_permissions) words
  pub others : id ≢ PERMISSIONS → AreCanonical (was_row id).value_kind words

-- the statements of a configuration of before
pub record WasTree (m : Statements) : Type 0 where
  pub top : finite.get m [] ≡ None
  pub parents : (path : List Step) → IsSome (finite.get m path) → HasParent m path
  pub orders : (path : List Step) (value : Value) → finite.get m path ≡ Some value → IsOrderBy m path (was_ordered_head (was_place_of path)) value.order
  pub paths : (path : List Step) → IsSome (finite.get m path) → FollowedFrom path top_place
  pub words : (path : List Step) (value : Value) (here : Place) → finite.get m path ≡ Some value → was_place_of path ≡ Some here
      → WereWords here.row value.words
  pub few : size_of m ≤ MAX_STATEMENTS

-- its expansion
pub record WasExpansion (m : Statements) (full : Expansion) : Type 0 where
  pub gifts : (path : List Step) → path ≢ [] → option_map gift_of (finite.get full path) ≡ gift_at (finite.get m) (steps_below m) path
  pub top : finite.get full [] ≡ None
  pub orders : (path : List Step) (given : Given) → finite.get full path ≡ Some given
      → given.order ≡ order_by (finite.get m) full path (was_ordered_head (was_place_of path))

-- the steps of a path's children in printing order, and its text
abbrev pub were_children_at : Statements → List Step → Option Place → List Step
were_children_at m path None = []
were_children_at m path (Some here) =
    flat_map (λ id. row_steps id (order_in (finite.get m path)) (steps_below m path)) (was_rows here.row here.in_group)

abbrev pub were_children : Statements → List Step → List Step
were_children m path = were_children_at m path (was_place_of path)

unfoldable pub was_text_below : ℕ → Statements → List Step → ℕ → List ℕ
was_text_below zero m path indent = []
was_text_below (suc levels) m path indent =
    flat_map
    (λ step. statement_text indent step (finite.get m (path ++ step ∷ [])) (was_text_below levels m (path ++ step ∷ []) (indent + 4)))
    (were_children m path)

-- the canonical text of a configuration of before
abbrev pub was_text : Statements → List ℕ
was_text m = was_text_below MAX_STEPS m [] 0

-- a rule of before doesn't hold at a path: they were those up to number 12
abbrev pub WasFailed : CommitRule → Statements → Expansion → List Step → Type 0
WasFailed TextLength m full path = AtTop (MAX_TEXT < length (was_text m)) path
WasFailed rule m full path = Fails rule m full path

-- a configuration was accepted, with its expansion
pub record WasAccepted (m : Statements) (full : Expansion) : Type 0 where
  pub tree : WasTree m
  pub expansion : WasExpansion m full
  pub holds : (rule : CommitRule) → number_of rule ≤ 12 → Nowhere (WasFailed rule m full)
