use Rattle.glob_name.proofs.CutLemmas.{cut_is_items, plain_matches}
use Rattle.glob_name.proofs.TestLemmas.{glob_tells}
use Rattle.glob_name.proofs.laws.patterns_are_sound.Goals as goal

pub returns-clause-cut : goal.returns-clause-cut
returns-clause-cut c = cut_is_items

pub returns-clause-plain : goal.returns-clause-plain
returns-clause-plain c = plain_matches

pub returns-clause-test : goal.returns-clause-test
returns-clause-test c = glob_tells
