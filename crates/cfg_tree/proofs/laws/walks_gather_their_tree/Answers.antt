use Rattle.cfg_tree.proofs.GatheredLemmas.{gathered_again}
use Rattle.cfg_tree.proofs.laws.walks_gather_their_tree.Goals as goal

pub returns : goal.returns
returns c = gathered_again
