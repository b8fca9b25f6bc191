use Rattle.kept_expansion.proofs.expanded.Expanded.of.Goals as goal

pub returns-clause-wide : goal.returns-clause-wide
returns-clause-wide c = λ wide. c.expand.ensures.wide (c.joined.ensures.wide wide)
