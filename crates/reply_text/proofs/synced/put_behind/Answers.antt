use Rattle.std.proofs.Common.{◌++◌, codes, decimal}
use Rattle.io_edge.proofs.WroteLemmas.{wrote_then, wrote_part_of}
use Rattle.reply_text.proofs.synced.put_behind.Goals as goal

pub returns-in-Ok-clause-wrote : goal.returns-in-Ok-clause-wrote
returns-in-Ok-clause-wrote g c =
    wrote_then _ (codes "warning: backup has " ++ decimal c.args.acknowledged) (codes " of " ++ (decimal c.args.count ++ codes " entries\n"))
    _ _ _ c.in-Ok.ensures.wrote c.put_of_count.ensures.wrote

pub returns-in-Err-clause-wrote : goal.returns-in-Err-clause-wrote
returns-in-Err-clause-wrote g c =
    wrote_part_of (codes "warning: backup has " ++ decimal c.args.acknowledged) (codes " of " ++ (decimal c.args.count ++ codes " entries\n"))
    _ _ c.in-Err.ensures.wrote
