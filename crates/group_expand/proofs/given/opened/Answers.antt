use Rattle.std.proofs.Common.{◌≡◌, ℕ, List, sym, ap, ◌∙◌}
use Rattle.cfg_schema.specs.Place.{place_of}
use Rattle.cfg_tree.specs.Tree.{ordered_head}
use Rattle.cfg_tree.specs.Statements.{parent_of, last_of}
use Rattle.cfg_tree.proofs.PathLemmas.{split}
use Rattle.group_expand.specs.Sources.{is_plain}
use Rattle.group_expand.specs.Made.{with_order, given_at}
use Rattle.group_expand.specs.Node.{Node}
use Rattle.group_expand.specs.Runs.{own_of, order_for}
use Rattle.group_expand.specs.Placed.{look_of, kids_of, IsLevelAt}
use Rattle.group_expand.proofs.ExpandLemmas.{tame_row, level_is_at, given_is}
use Rattle.group_expand.proofs.PlaceLemmas.{order_by_place}
use Rattle.group_expand.proofs.given.opened.Goals as goal

pub given-requires : goal.given-requires
given-requires c =
    let at : IsLevelAt (look_of c.args.plan.now) (kids_of c.args.plan.now) c.args.plan.now c.args.path.now c.in_ok-level.level
    = level_is_at c.args.plan.now c.level_below.ensures.row (tame_row c.args.plan.now c.level_below.ensures.row) (parent_of c.args.path.now) (last_of c.args.path.now) c.args.run.now c.args.path.now
    (split c.args.path.now c.requires.long) c.requires.run (ap is_plain (sym (split c.args.path.now c.requires.long)) ∙ c.requires.plain)
    c.args.gift c.requires.gift c.deref.result.now c.in_ok-level.level (c.deref.ensures.value ∙ c.in_ok-children.ensures) c.in_ok-level.ensures.level
    in at.climbs

pub returns-clause-given : goal.returns-clause-given
returns-clause-given c =
    let order : order_for (ordered_head c.place_below-place.result) (own_of c.args.run.now) c.deref-2.result.now c.in_ok-level.level
    ≡ order_for (ordered_head (place_of c.args.path.now)) (own_of c.args.run.now) c.deref-2.result.now c.in_ok-level.level
    = order_by_place c.place_below-place.result (place_of c.args.path.now) (own_of c.args.run.now) c.deref-2.result.now c.in_ok-level.level c.place_below-place.ensures.children c.place_below-place.ensures.level
    in let is_g : c.in_ok-given.given ≡ with_order (order_for (ordered_head (place_of c.args.path.now)) (own_of c.args.run.now) c.deref.result.now c.in_ok-level.level) c.args.gift
    = c.in_ok-given.ensures
    ∙ ap (λ (ns : List Node). with_order (order_for (ordered_head c.place_below-place.result) (own_of c.args.run.now) ns c.in_ok-level.level) c.args.gift) (c.deref-3.ensures.value ∙ sym c.deref-2.ensures.value)
    ∙ ap (λ (names : List (List ℕ)). with_order names c.args.gift) order
    ∙ ap (λ (ns : List Node). with_order (order_for (ordered_head (place_of c.args.path.now)) (own_of c.args.run.now) ns c.in_ok-level.level) c.args.gift) (c.deref-2.ensures.value ∙ sym c.deref.ensures.value)
    in ap (given_at (look_of c.args.plan.now) (kids_of c.args.plan.now)) (split c.args.path.now c.requires.long)
    ∙ given_is c.args.plan.now c.level_below.ensures.row (tame_row c.args.plan.now c.level_below.ensures.row) (parent_of c.args.path.now) (last_of c.args.path.now) c.args.run.now c.args.path.now
    (split c.args.path.now c.requires.long) c.requires.run (ap is_plain (sym (split c.args.path.now c.requires.long)) ∙ c.requires.plain)
    c.args.gift c.requires.gift c.deref.result.now c.in_ok-level.level c.in_ok-given.given (c.deref.ensures.value ∙ c.in_ok-children.ensures) c.in_ok-level.ensures.level is_g

pub returns-clause-level : goal.returns-clause-level
returns-clause-level c =
    level_is_at c.args.plan.now c.level_below.ensures.row (tame_row c.args.plan.now c.level_below.ensures.row) (parent_of c.args.path.now) (last_of c.args.path.now) c.args.run.now c.args.path.now
    (split c.args.path.now c.requires.long) c.requires.run (ap is_plain (sym (split c.args.path.now c.requires.long)) ∙ c.requires.plain)
    c.args.gift c.requires.gift c.deref.result.now c.in_ok-level.level (c.deref.ensures.value ∙ c.in_ok-children.ensures) c.in_ok-level.ensures.level
