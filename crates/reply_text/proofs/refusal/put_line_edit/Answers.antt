use Rattle.io_edge.proofs.WroteLemmas.{wrote_then, wrote_part_of}
use Rattle.reply_text.specs.Texts.{in_line, message_of_edit}
use Rattle.reply_text.proofs.refusal.put_line_edit.Goals as goal

pub returns-in-Ok-clause-wrote : goal.returns-in-Ok-clause-wrote
returns-in-Ok-clause-wrote g c =
    wrote_then _ (in_line c.args.line) (message_of_edit c.args.fault.now) _ _ _ c.in-Ok.ensures.wrote c.put_edit_message.ensures.wrote

pub returns-in-Err-clause-wrote : goal.returns-in-Err-clause-wrote
returns-in-Err-clause-wrote g c =
    wrote_part_of (in_line c.args.line) (message_of_edit c.args.fault.now) _ _ c.in-Err.ensures.wrote
