use Rattle.cfg_tree.proofs.UnionLemmas.{union_once}
use Rattle.cfg_tree.proofs.draft.two_maps_have_one_union.Goals as goal

pub returns : goal.returns
returns c = union_once
