use Rattle.std.proofs.Common.{◌≡◌, List, [], ◌∷◌, not, sym, ap, subst, ◌∙◌, IfOk}
use Rattle.cfg_tree.specs.Tree.{step_of}
use Rattle.group_expand.specs.Row.{StatementView, Counted, Ordered}
use Rattle.group_expand.specs.Node.{Node, AreInside, live_children}
use Rattle.group_expand.specs.Fitting.{wildcards_of}
use Rattle.group_expand.specs.Cut.{is_earlier, is_before, before_of, from_of}
use Rattle.group_expand.proofs.NodeLemmas.{ordered_kept}
use Rattle.group_expand.proofs.CutLemmas.{counted_kept, inside_kept}
use Rattle.group_expand.proofs.SearchLemmas.{wildcards_found}
use Rattle.group_expand.proofs.node.Node.wildcards.Goals as goal

pub cut_at-requires-2-clause-ordered : goal.cut_at-requires-2-clause-ordered
cut_at-requires-2-clause-ordered c =
    subst (λ (xs : List StatementView). Ordered xs) (sym c.cut_at.ensures.from)
    (ordered_kept (λ x. not (is_before c.self.inside.path.now (step_of c.args.head.now (60 ∷ [])) x)) c.self.inside.below.now c.self.invariant.ordered)

pub cut_at-requires-2-clause-inside : goal.cut_at-requires-2-clause-inside
cut_at-requires-2-clause-inside c =
    subst (λ (xs : List StatementView). AreInside c.self.inside.path.now xs) (sym c.cut_at.ensures.from)
    (inside_kept c.self.inside.path.now (λ s. not (is_earlier (step_of c.args.head.now (60 ∷ [])) s)) c.self.inside.below.now c.self.invariant.inside)

pub live_children-requires-clause-counted : goal.live_children-requires-clause-counted
live_children-requires-clause-counted c =
    let path = c.self.inside.path.now
    in subst (λ (xs : List StatementView). Counted xs) (sym (c.cut_at-2.ensures.before ∙ ap (before_of path (step_of c.args.head.now (61 ∷ []))) c.cut_at.ensures.from))
    (counted_kept path (is_earlier (step_of c.args.head.now (61 ∷ []))) (from_of path (step_of c.args.head.now (60 ∷ [])) c.self.inside.below.now)
    (inside_kept path (λ s. not (is_earlier (step_of c.args.head.now (60 ∷ [])) s)) c.self.inside.below.now c.self.invariant.inside)
    (counted_kept path (λ s. not (is_earlier (step_of c.args.head.now (60 ∷ [])) s)) c.self.inside.below.now c.self.invariant.inside c.self.invariant.counted))

pub live_children-requires-clause-ordered : goal.live_children-requires-clause-ordered
live_children-requires-clause-ordered c =
    let path = c.self.inside.path.now
    in subst (λ (xs : List StatementView). Ordered xs) (sym (c.cut_at-2.ensures.before ∙ ap (before_of path (step_of c.args.head.now (61 ∷ []))) c.cut_at.ensures.from))
    (ordered_kept (is_before path (step_of c.args.head.now (61 ∷ []))) (from_of path (step_of c.args.head.now (60 ∷ [])) c.self.inside.below.now)
    (ordered_kept (λ x. not (is_before path (step_of c.args.head.now (60 ∷ [])) x)) c.self.inside.below.now c.self.invariant.ordered))

pub live_children-requires-clause-inside : goal.live_children-requires-clause-inside
live_children-requires-clause-inside c =
    let path = c.self.inside.path.now
    in subst (λ (xs : List StatementView). AreInside path xs) (sym (c.cut_at-2.ensures.before ∙ ap (before_of path (step_of c.args.head.now (61 ∷ []))) c.cut_at.ensures.from))
    (inside_kept path (is_earlier (step_of c.args.head.now (61 ∷ []))) (from_of path (step_of c.args.head.now (60 ∷ [])) c.self.inside.below.now)
    (inside_kept path (λ s. not (is_earlier (step_of c.args.head.now (60 ∷ [])) s)) c.self.inside.below.now c.self.invariant.inside))

pub returns : goal.returns
returns c =
    let path = c.self.inside.path.now
    in subst (λ (ns : List Node). IfOk c.live_children.result (λ nodes. nodes.items ≡ ns))
    (ap (live_children path) (c.cut_at-2.ensures.before ∙ ap (before_of path (step_of c.args.head.now (61 ∷ []))) c.cut_at.ensures.from)
    ∙ wildcards_found path c.args.head.now c.self.inside.below.now
    ∙ ap (wildcards_of c.args.head.now) c.self.view_is)
    c.live_children.ensures
