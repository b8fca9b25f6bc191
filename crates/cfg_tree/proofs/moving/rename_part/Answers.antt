use Rattle.std.proofs.Common.{ap, ◌∙◌}
use Rattle.cfg_tree.specs.Shown.{shown}
use Rattle.cfg_tree.specs.Statements.{Statements}
use Rattle.cfg_tree.specs.Moving.{relisted}
use Rattle.cfg_tree.proofs.MovedLemmas.{rename_made}
use Rattle.cfg_tree.proofs.moving.rename_part.Goals as goal

pub returns-clause-ok : goal.returns-clause-ok
returns-clause-ok c =
    c.in_ok-relist.ensures
    ∙ ap (λ (m : Statements). relisted m c.args.from.now c.args.to.now) c.in_ok-next.ensures
    ∙ rename_made (shown c.args.entries.now) c.args.from.now c.args.to.now c.args.part.items c.requires.part
