use Rattle.std.proofs.Common.{◌∷◌, []}
use Rattle.io_edge.proofs.WroteLemmas.{wrote_then, wrote_part_of}
use Rattle.reply_text.specs.Texts.{message_of_json}
use Rattle.reply_text.proofs.json.put_json_line.Goals as goal

pub returns-in-Ok-clause-wrote : goal.returns-in-Ok-clause-wrote
returns-in-Ok-clause-wrote g c = wrote_then _ (message_of_json c.args.fault.now) (10 ∷ []) _ _ _ c.in-Ok.ensures.wrote c.put_all.ensures.wrote

pub returns-in-Err-clause-wrote : goal.returns-in-Err-clause-wrote
returns-in-Err-clause-wrote g c = wrote_part_of (message_of_json c.args.fault.now) (10 ∷ []) _ _ c.in-Err.ensures.wrote
