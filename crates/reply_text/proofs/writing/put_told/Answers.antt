use Rattle.reply_text.specs.Texts.{printed_path}
use Rattle.io_edge.proofs.WroteLemmas.{wrote_then, wrote_part_of}
use Rattle.reply_text.proofs.writing.put_told.Goals as goal

pub returns-in-Ok-clause-wrote : goal.returns-in-Ok-clause-wrote
returns-in-Ok-clause-wrote g c = wrote_then _ c.args.front.now (printed_path c.args.path.now) _ _ _ c.in-Ok.ensures.wrote c.put_path.ensures.wrote

pub returns-in-Err-clause-wrote : goal.returns-in-Err-clause-wrote
returns-in-Err-clause-wrote g c = wrote_part_of c.args.front.now (printed_path c.args.path.now) _ _ c.in-Err.ensures.wrote
