use Rattle.std.proofs.Common.{◌∙◌}
use Rattle.kept_expansion.proofs.DifferingLemmas.{differ_there, none_left}
use Rattle.kept_expansion.proofs.differing.differing.Goals as goal

pub returns : goal.returns
returns c =
    differ_there _ _ _ _ _ _ _ (c.of-before.ensures ∙ c.walk.ensures) (c.of-after.ensures ∙ c.walk-2.ensures) c.loop-path.invariant
    (none_left (λ path. path.now) _ _ _ _ c.next_apart.result c.in_default.not-Some c.next_apart.ensures)
