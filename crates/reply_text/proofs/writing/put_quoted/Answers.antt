use Rattle.std.proofs.Common.{◌∷◌, ◌++◌, []}
use Rattle.std.specs.List.{flat_map}
use Rattle.cfg_lex.specs.Printed.{escaped}
use Rattle.io_edge.proofs.WroteLemmas.{wrote_then, wrote_part_of}
use Rattle.reply_text.proofs.writing.put_quoted.Goals as goal

pub returns-in-Ok-clause-wrote : goal.returns-in-Ok-clause-wrote
returns-in-Ok-clause-wrote g c = wrote_then _ (34 ∷ []) (flat_map escaped c.args.bytes.now ++ 34 ∷ []) _ _ _ c.in-Ok.ensures.wrote c.put_end_quoted.ensures.wrote

pub returns-in-Err-clause-wrote : goal.returns-in-Err-clause-wrote
returns-in-Err-clause-wrote g c = wrote_part_of (34 ∷ []) (flat_map escaped c.args.bytes.now ++ 34 ∷ []) _ _ c.in-Err.ensures.wrote
