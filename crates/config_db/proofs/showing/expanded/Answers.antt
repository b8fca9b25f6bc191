use Rattle.std.proofs.Common.{Err, ap}
use Rattle.config_db.proofs.ShownLemmas.{not_wide}
use Rattle.config_db.proofs.showing.expanded.Goals as goal

pub unreachable-requires : goal.unreachable-requires
unreachable-requires c =
    not_wide c.args.tree.now c.requires c.expansion_is_one.ensures.one c.accepted_configurations_fit.ensures.expansion (c.in-Err-TooWide.ensures.wide (ap Err c.in-Err-TooWide.field-0-is))
