use Rattle.cfg_lex.specs.Lexed.{lexed}
use Rattle.curly_grammar.specs.declared.phase.Phase.TheVariants.{After, Marked, Naming, Valuing}
use Rattle.curly_grammar.proofs.TakingLemmas.{in_phase, word_followed, word_taken, value_listed}
use Rattle.curly_grammar.proofs.taking.take_word.Goals as goal

pub returns-in-Valuing : goal.returns-in-Valuing
returns-in-Valuing c =
    word_taken c.args.reader.now c.follow-in-Valuing.new.reader _ (lexed c.args.kind c.args.word.now) c.follow-in-Valuing.result c.in-Valuing.is
    (word_followed (in_phase c.args.reader.now (Valuing c.in-Valuing.marks c.in-Valuing.level)) c.follow-in-Valuing.new.reader (lexed c.args.kind c.args.word.now)
    c.value_step-answer.result c.follow-in-Valuing.result c.value_step-answer.ensures c.follow-in-Valuing.ensures)

pub returns-in-Listing : goal.returns-in-Listing
returns-in-Listing c =
    word_taken c.args.reader.now _ _ (lexed c.args.kind c.args.word.now) c.list_value.result c.in-Listing.is
    (value_listed c.args.reader.now c.in-Listing.marks c.in-Listing.level c.in-Listing.words c.list_value.new.words (lexed c.args.kind c.args.word.now) c.list_value.result c.list_value.ensures)

pub returns-in-Marked : goal.returns-in-Marked
returns-in-Marked c =
    word_taken c.args.reader.now c.follow-in-Marked.new.reader _ (lexed c.args.kind c.args.word.now) c.follow-in-Marked.result c.in-Marked.is
    (word_followed (in_phase c.args.reader.now (Marked c.in-Marked.marks)) c.follow-in-Marked.new.reader (lexed c.args.kind c.args.word.now)
    c.first_word-answer-in-Marked.result c.follow-in-Marked.result c.first_word-answer-in-Marked.ensures c.follow-in-Marked.ensures)

pub returns-in-Naming : goal.returns-in-Naming
returns-in-Naming c =
    word_taken c.args.reader.now c.follow-in-Naming.new.reader _ (lexed c.args.kind c.args.word.now) c.follow-in-Naming.result c.in-Naming.is
    (word_followed (in_phase c.args.reader.now (Naming c.in-Naming.marks c.in-Naming.at c.in-Naming.head)) c.follow-in-Naming.new.reader (lexed c.args.kind c.args.word.now)
    c.name_step-answer.result c.follow-in-Naming.result c.name_step-answer.ensures c.follow-in-Naming.ensures)

pub returns-in-After : goal.returns-in-After
returns-in-After c =
    word_taken c.args.reader.now c.follow-in-After.new.reader _ (lexed c.args.kind c.args.word.now) c.follow-in-After.result c.in-After.is
    (word_followed (in_phase c.args.reader.now (After c.in-After.level)) c.follow-in-After.new.reader (lexed c.args.kind c.args.word.now)
    c.further_word-answer.result c.follow-in-After.result c.further_word-answer.ensures c.follow-in-After.ensures)
