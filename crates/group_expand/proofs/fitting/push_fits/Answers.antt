use Rattle.std.proofs.Common.{List, subst, rules, ◌≡◌}
use Rattle.std.specs.Prelude.{OnOk}
use Rattle.group_expand.specs.Node.{Node}
use Rattle.group_expand.proofs.FittingLemmas.{fits_told}
use Rattle.group_expand.proofs.fitting.push_fits.Goals as goal

pub returns : goal.returns
returns c =
    subst (λ (ns : List Node). OnOk c.push_wild.result (c.push_wild.new.found.items ≡ ns))
    (fits_told c.args.step.now c.args.node.now c.args.found.now.items c.push_child.new.found.items c.deref.result.now (search rules) (search rules))
    c.push_wild.ensures
