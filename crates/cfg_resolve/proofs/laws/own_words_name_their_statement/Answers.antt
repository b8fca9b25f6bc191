use Rattle.cfg_resolve.proofs.OwnLemmas.{below_named, kept_named}
use Rattle.cfg_resolve.proofs.laws.own_words_name_their_statement.Goals as goal

pub returns : goal.returns
returns c = record { below = below_named; kept = kept_named }
