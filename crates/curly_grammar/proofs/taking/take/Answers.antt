use Rattle.curly_grammar.proofs.TakingLemmas.{either_word, word_kind_taken}
use Rattle.curly_grammar.proofs.taking.take.Goals as goal

pub returns-in-Bare : goal.returns-in-Bare
returns-in-Bare c =
    word_kind_taken c.args.kind c.args.reader.now c.take_word.new.reader c.args.word.now c.take_word.result (either_word c.args.kind c.in-Bare.is) c.take_word.ensures
