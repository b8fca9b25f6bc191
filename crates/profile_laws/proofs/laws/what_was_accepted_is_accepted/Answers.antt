use Rattle.profile_laws.proofs.ReturnLemmas.{was_tree}
use Rattle.profile_laws.proofs.RuleLemmas.{is_accepted}
use Rattle.profile_laws.proofs.TextLemmas.{printed_same}
use Rattle.profile_laws.proofs.TypedLemmas.{is_first, is_tree}
use Rattle.profile_laws.proofs.laws.what_was_accepted_is_accepted.Goals as goal

pub returns-clause-tree : goal.returns-clause-tree
returns-clause-tree c = λ m. (λ was. (is_tree m was, is_first m was), λ is. was_tree m is.0 is.1)

pub returns-clause-text : goal.returns-clause-text
returns-clause-text c = printed_same

pub returns-clause-accepted : goal.returns-clause-accepted
returns-clause-accepted c = λ m full was. is_accepted m full was
