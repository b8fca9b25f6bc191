use Rattle.std.proofs.Common.{◌∙◌, ap}
use Rattle.cfg_tree.specs.Shown.{shown}
use Rattle.cfg_tree.specs.Renaming.{reordered_by}
use Rattle.cfg_tree.proofs.MovedLemmas.{copy_made}
use Rattle.cfg_tree.proofs.moving.copy_part.Goals as goal

pub returns-clause-ok : goal.returns-clause-ok
returns-clause-ok c =
    c.in_ok-carry_out.ensures.ok
    ∙ ap (reordered_by c.in_ok-reorder.reorder) c.in_ok-next.ensures
    ∙ copy_made (shown c.args.entries.now) c.args.from.now c.args.to.now c.args.part.items c.in_ok-reorder.reorder c.requires.steps c.requires.part c.in_ok-reorder.ensures
