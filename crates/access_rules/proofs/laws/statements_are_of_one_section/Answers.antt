use Rattle.access_rules.proofs.RightLemmas.{heads_tell, told_heads}
use Rattle.access_rules.proofs.SectionLemmas.{typed_section}
use Rattle.access_rules.proofs.laws.statements_are_of_one_section.Goals as goal

pub returns-clause-some : goal.returns-clause-some
returns-clause-some c = typed_section

pub returns-clause-told : goal.returns-clause-told
returns-clause-told c = λ section word. (told_heads section word, heads_tell section word)
