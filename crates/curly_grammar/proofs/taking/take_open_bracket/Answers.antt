use Rattle.curly_grammar.proofs.TakingLemmas.{list_taken}
use Rattle.curly_grammar.proofs.taking.take_open_bracket.Goals as goal

pub returns-in_ok-level-in-Valuing : goal.returns-in_ok-level-in-Valuing
returns-in_ok-level-in-Valuing c =
    list_taken c.args.reader.now c.in-Valuing.marks c.in-Valuing.level c.in_ok-level-in-Valuing.level c.new-words.result c.in-Valuing.is c.if-is_many.ensures
    c.in_ok-level-in-Valuing.ensures c.new-words.ensures
