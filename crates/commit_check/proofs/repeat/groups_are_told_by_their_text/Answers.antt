use Rattle.commit_check.proofs.Kept6Lemmas.{same_groups}
use Rattle.commit_check.proofs.repeat.groups_are_told_by_their_text.Goals as goal

pub returns : goal.returns
returns c = same_groups
