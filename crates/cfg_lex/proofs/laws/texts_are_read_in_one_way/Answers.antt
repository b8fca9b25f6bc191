use Rattle.cfg_lex.proofs.LexLemmas.{one_list, one_fault, not_both, one_cut}
use Rattle.cfg_lex.proofs.LexerLemmas.{answered}
use Rattle.cfg_lex.proofs.laws.texts_are_read_in_one_way.Goals as goal

pub returns-clause-answered : goal.returns-clause-answered
returns-clause-answered c = answered

pub returns-clause-one_list : goal.returns-clause-one_list
returns-clause-one_list c = one_list

pub returns-clause-one_fault : goal.returns-clause-one_fault
returns-clause-one_fault c = one_fault

pub returns-clause-not_both : goal.returns-clause-not_both
returns-clause-not_both c = not_both

pub returns-clause-one_cut : goal.returns-clause-one_cut
returns-clause-one_cut c = one_cut
