use Rattle.curly_grammar.proofs.TakingLemmas.{list_ended}
use Rattle.curly_grammar.proofs.taking.take_close_bracket.Goals as goal

pub returns-in-Listing : goal.returns-in-Listing
returns-in-Listing c =
    list_ended c.args.reader.now c.follow.new.reader c.in-Listing.marks c.in-Listing.level c.in-Listing.words c.list_step-answer.result c.follow.result
    c.in-Listing.is c.list_step-answer.ensures c.follow.ensures
