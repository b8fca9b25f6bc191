use Rattle.std.proofs.Common.{◌≡◌, List, [], sym, ap, subst, ◌∙◌, IfOk}
use Rattle.cfg_base.specs.declared.path.Step.{Step}
use Rattle.group_expand.specs.Node.{Node, AreInside, live_children}
use Rattle.group_expand.specs.Placed.{kids_at, look_of, kids_of}
use Rattle.group_expand.proofs.PlanLemmas.{top_inside, top_at}
use Rattle.group_expand.proofs.plan.top_nodes.Goals as goal

pub live_children-requires-clause-inside : goal.live_children-requires-clause-inside
live_children-requires-clause-inside c = subst (λ (p : List Step). AreInside p c.args.row.now) (sym c.top.ensures) (top_inside c.args.row.now c.requires)

pub returns : goal.returns
returns c =
    let e : live_children c.top.result c.args.row.now ≡ kids_at (look_of c.args.row.now) (kids_of c.args.row.now) c.args.row.now []
    = ap (λ (p : List Step). live_children p c.args.row.now) c.top.ensures ∙ top_at c.args.row.now c.requires
    in subst (λ (ns : List Node). IfOk c.live_children.result (λ nodes. nodes.items ≡ ns)) e c.live_children.ensures
