use Rattle.shell_words.proofs.ReadingLemmas.{one_reading, own_line, each_form}
use Rattle.shell_words.proofs.PairLemmas.{two_sides}
use Rattle.shell_words.proofs.laws.lines_are_read_in_one_way.Goals as goal

pub returns-clause-one_reading : goal.returns-clause-one_reading
returns-clause-one_reading c = one_reading c.texts_are_read_in_one_way.ensures.one_cut

pub returns-clause-own_line : goal.returns-clause-own_line
returns-clause-own_line c = own_line

pub returns-clause-each_form : goal.returns-clause-each_form
returns-clause-each_form c = each_form

pub returns-clause-two_sides : goal.returns-clause-two_sides
returns-clause-two_sides c = two_sides
