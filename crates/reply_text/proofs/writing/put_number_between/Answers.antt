use Rattle.std.proofs.Common.{◌++◌, decimal}
use Rattle.io_edge.proofs.WroteLemmas.{wrote_then, wrote_part_of}
use Rattle.reply_text.proofs.writing.put_number_between.Goals as goal

pub returns-in-Ok-clause-wrote : goal.returns-in-Ok-clause-wrote
returns-in-Ok-clause-wrote g c =
    wrote_then _ c.args.front.now (decimal c.args.number ++ c.args.back.now) _ _ _ c.in-Ok.ensures.wrote c.put_number_before.ensures.wrote

pub returns-in-Err-clause-wrote : goal.returns-in-Err-clause-wrote
returns-in-Err-clause-wrote g c = wrote_part_of c.args.front.now (decimal c.args.number ++ c.args.back.now) _ _ c.in-Err.ensures.wrote
