use Rattle.std.proofs.Common.{sym, ◌∙◌}
use Rattle.cfg_base.specs.declared.path.TheConstants.{MAX_STEPS}
use Rattle.printing_order.proofs.PutLemmas.{put_nothing}
use Rattle.curly_print.proofs.TreeTextLemmas.{no_statements}
use Rattle.curly_print.proofs.printing.push_level.Goals as goal

pub returns-then-count-eq0 : goal.returns-then-count-eq0
returns-then-count-eq0 c =
    put_nothing c.args.text.now.items _ (no_statements MAX_STEPS c.args.tree.now c.args.path.now 0 (sym c.count.ensures.count ∙ c.if-count-eq0.true))
