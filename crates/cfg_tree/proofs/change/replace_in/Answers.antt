use Rattle.cfg_tree.proofs.OtherLemmas.{not_new, other_tree}
use Rattle.cfg_tree.proofs.change.replace_in.Goals as goal

pub store-requires-clause-steps : goal.store-requires-clause-steps
store-requires-clause-steps c = c.requires.other.steps

pub store-requires-clause-is_new : goal.store-requires-clause-is_new
store-requires-clause-is_new c = not_new _ _ _ c.requires.other

pub returns-clause-kept : goal.returns-clause-kept
returns-clause-kept c = other_tree _ _ _ c.requires.other _ c.requires.tree c.in_ok-store.ensures.ok
