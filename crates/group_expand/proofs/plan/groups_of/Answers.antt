use Rattle.std.proofs.Common.{◌≡◌, List, [], ap, ◌∙◌, rules}
use Rattle.std.specs.Prelude.{find}
use Rattle.cfg_tree.specs.Statements.{last_of}
use Rattle.group_expand.specs.Sources.{groups_step, same_step}
use Rattle.group_expand.specs.Node.{Node}
use Rattle.group_expand.specs.Runs.{own_nodes}
use Rattle.group_expand.specs.Placed.{kids_at, look_of, kids_of}
use Rattle.group_expand.proofs.PlanLemmas.{groups_at}
use Rattle.group_expand.proofs.plan.groups_of.Goals as goal

pub returns : goal.returns
returns c =
    let top : c.deref.result.now ≡ kids_at (look_of c.args.row.now) (kids_of c.args.row.now) c.args.row.now [] = search rules
    in c.among.ensures ∙ ap (λ (ts : List Node). own_nodes (find (λ n. same_step groups_step (last_of n.path)) ts)) top ∙ groups_at c.args.row.now c.requires
