use Rattle.std.proofs.Common.{◌∷◌}
use Rattle.cfg_lex.specs.Printed.{printed_word}
use Rattle.io_edge.proofs.WroteLemmas.{wrote_then, wrote_part_of}
use Rattle.reply_text.proofs.writing.put_two_words.Goals as goal

pub returns-in-Ok-clause-wrote : goal.returns-in-Ok-clause-wrote
returns-in-Ok-clause-wrote g c = wrote_then _ (printed_word c.args.head.now) (32 ∷ printed_word c.args.name.now) _ _ _ c.in-Ok.ensures.wrote c.put_spaced_word.ensures.wrote

pub returns-in-Err-clause-wrote : goal.returns-in-Err-clause-wrote
returns-in-Err-clause-wrote g c = wrote_part_of (printed_word c.args.head.now) (32 ∷ printed_word c.args.name.now) _ _ c.in-Err.ensures.wrote
