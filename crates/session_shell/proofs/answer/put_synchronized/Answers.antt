use Rattle.io_edge.proofs.WroteLemmas.{wrote_then, wrote_part_of}
use Rattle.session_shell.specs.Exchange.{text_of_given, text_of_synced_turn}
use Rattle.session_shell.proofs.answer.put_synchronized.Goals as goal

pub returns-in-Ok-clause-wrote : goal.returns-in-Ok-clause-wrote
returns-in-Ok-clause-wrote g c =
    wrote_then _ (text_of_given c.args.given.now) (text_of_synced_turn c.args.synced) _ _ _ c.in-Ok.ensures.wrote c.put_synced_turn.ensures.wrote

pub returns-in-Err-clause-wrote : goal.returns-in-Err-clause-wrote
returns-in-Err-clause-wrote g c = wrote_part_of (text_of_given c.args.given.now) (text_of_synced_turn c.args.synced) _ _ c.in-Err.ensures.wrote
