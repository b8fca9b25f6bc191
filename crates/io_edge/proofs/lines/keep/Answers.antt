use Rattle.std.proofs.Common.{rules, ◌∙◌}
use Rattle.io_edge.specs.declared.lines.TheConstants.{KEPT}
use Rattle.io_edge.proofs.ReaderLemmas.{kept_more, kept_same}
use Rattle.io_edge.proofs.lines.keep.Goals as goal

pub returns-then-len-lt-KEPT-clause-items : goal.returns-then-len-lt-KEPT-clause-items
returns-then-len-lt-KEPT-clause-items c = c.push_reserved.ensures.items ∙ kept_more KEPT c.args.kept.now.items c.args.byte (search rules)

pub returns-else-len-lt-KEPT-clause-items : goal.returns-else-len-lt-KEPT-clause-items
returns-else-len-lt-KEPT-clause-items c = kept_same KEPT c.args.kept.now.items c.args.byte (search rules) (search rules)
