use Rattle.kept_expansion.proofs.expanded.Expanded.following.Goals as goal

pub returns-clause-wide : goal.returns-clause-wide
returns-clause-wide c = λ wide. c.expansion_after.ensures.wide (c.joined.ensures.wide wide)
