use Rattle.io_edge.proofs.WroteLemmas.{wrote_then, wrote_part_of}
use Rattle.reply_text.specs.Texts.{deadline_text, complete_text}
use Rattle.reply_text.proofs.reply.put_committed.Goals as goal

pub returns-in-Ok-clause-wrote : goal.returns-in-Ok-clause-wrote
returns-in-Ok-clause-wrote g c = wrote_then _ (deadline_text c.args.minutes) (complete_text c.args.quit) _ _ _ c.in-Ok.ensures.wrote c.put_complete.ensures.wrote

pub returns-in-Err-clause-wrote : goal.returns-in-Err-clause-wrote
returns-in-Err-clause-wrote g c = wrote_part_of (deadline_text c.args.minutes) (complete_text c.args.quit) _ _ c.in-Err.ensures.wrote
