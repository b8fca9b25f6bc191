use Rattle.std.proofs.Common.{List, not, sym, ap, subst, ◌∙◌, None}
use Rattle.std.specs.Option.{option_to_list}
use Rattle.cfg_tree.specs.Tree.{step_of}
use Rattle.group_expand.specs.Row.{StatementView, Counted, Ordered}
use Rattle.group_expand.specs.Node.{Node, AreInside, children_of}
use Rattle.group_expand.specs.Fitting.{exact}
use Rattle.group_expand.specs.Sources.{same_step}
use Rattle.group_expand.specs.Cut.{is_earlier, is_before}
use Rattle.group_expand.proofs.NodeLemmas.{ordered_kept}
use Rattle.group_expand.proofs.CutLemmas.{counted_kept, inside_kept}
use Rattle.group_expand.proofs.SearchLemmas.{child_told, child_there, child_other}
use Rattle.group_expand.proofs.node.Node.child.Goals as goal

pub first_child-requires-clause-counted : goal.first_child-requires-clause-counted
first_child-requires-clause-counted c =
    subst (λ (xs : List StatementView). Counted xs) (sym c.cut_at.ensures.from)
    (counted_kept c.self.inside.path.now (λ s. not (is_earlier (step_of c.args.head.now c.args.name.now) s)) c.self.inside.below.now c.self.invariant.inside c.self.invariant.counted)

pub first_child-requires-clause-ordered : goal.first_child-requires-clause-ordered
first_child-requires-clause-ordered c =
    subst (λ (xs : List StatementView). Ordered xs) (sym c.cut_at.ensures.from)
    (ordered_kept (λ x. not (is_before c.self.inside.path.now (step_of c.args.head.now c.args.name.now) x)) c.self.inside.below.now c.self.invariant.ordered)

pub first_child-requires-clause-inside : goal.first_child-requires-clause-inside
first_child-requires-clause-inside c =
    subst (λ (xs : List StatementView). AreInside c.self.inside.path.now xs) (sym c.cut_at.ensures.from)
    (inside_kept c.self.inside.path.now (λ s. not (is_earlier (step_of c.args.head.now c.args.name.now) s)) c.self.inside.below.now c.self.invariant.inside)

pub returns-in-None : goal.returns-in-None
returns-in-None c =
    let bound = step_of c.args.head.now c.args.name.now
    in child_told (record { path = c.self.inside.path.now; value = c.self.inside.value.now; below = c.self.inside.below.now }) c.self.invariant bound c.cut_at.result.1.now None c.cut_at.ensures.from
    (ap option_to_list (sym c.in-None.is) ∙ c.first_child.ensures)
    ∙ ap (λ (n : Node). exact bound (children_of n)) c.self.view_is

pub returns-in-Some : goal.returns-in-Some
returns-in-Some c =
    let bound = step_of c.args.head.now c.args.name.now
    in child_there (record { path = c.self.inside.path.now; value = c.self.inside.value.now; below = c.self.inside.below.now }) c.self.invariant bound c.cut_at.result.1.now c.in-Some.child c.cut_at.ensures.from
    (ap option_to_list (sym c.in-Some.is) ∙ c.first_child.ensures)
    (ap (same_step bound) (sym c.step.ensures) ∙ sym c.is_step.ensures ∙ c.if-is_step.true)
    ∙ ap (λ (n : Node). exact bound (children_of n)) c.self.view_is

pub returns-in-Some-2 : goal.returns-in-Some-2
returns-in-Some-2 c =
    let bound = step_of c.args.head.now c.args.name.now
    in child_other (record { path = c.self.inside.path.now; value = c.self.inside.value.now; below = c.self.inside.below.now }) c.self.invariant bound c.cut_at.result.1.now c.in-Some.child c.cut_at.ensures.from
    (ap option_to_list (sym c.in-Some.is) ∙ c.first_child.ensures)
    (ap (same_step bound) (sym c.step.ensures) ∙ sym c.is_step.ensures ∙ c.if-is_step.false)
    ∙ ap (λ (n : Node). exact bound (children_of n)) c.self.view_is
