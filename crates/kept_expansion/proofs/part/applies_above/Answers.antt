use Rattle.std.proofs.Common.{rules}
use Rattle.kept_expansion.proofs.PartLemmas.{applies_is}
use Rattle.kept_expansion.proofs.part.applies_above.Goals as goal

pub returns-then-is_apply : goal.returns-then-is_apply
returns-then-is_apply c =
    applies_is c.args.path.now c.args.root.now c.split_at.result.0.now c.last_step.result.now c.is_apply.result c.starts_with.result
    (search rules) (search rules) (search rules) (search rules) (search rules)
