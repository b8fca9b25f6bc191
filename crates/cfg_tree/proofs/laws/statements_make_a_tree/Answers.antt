use Rattle.cfg_tree.proofs.StatedLemmas.{said_tree, size-stated}
use Rattle.cfg_tree.proofs.laws.statements_make_a_tree.Goals as goal

pub returns : goal.returns
returns c = record { tree = said_tree; size = size-stated }
