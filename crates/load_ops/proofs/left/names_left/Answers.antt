use Rattle.std.proofs.Common.{sym, ap, ◌∙◌}
use Rattle.std.specs.Option.{option_copied}
use Rattle.load_ops.proofs.LeftLemmas.{takes_child}
use Rattle.load_ops.proofs.left.names_left.Goals as goal

pub untagged-requires : goal.untagged-requires
untagged-requires c = takes_child c.args.path.now c.in-Some.head.now (sym c.ordered_head.ensures ∙ ap option_copied c.in-Some.is)
