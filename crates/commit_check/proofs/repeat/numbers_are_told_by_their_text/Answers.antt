use Rattle.commit_check.proofs.KeptLemmas.{same_numbers}
use Rattle.commit_check.proofs.repeat.numbers_are_told_by_their_text.Goals as goal

pub returns : goal.returns
returns c = same_numbers
