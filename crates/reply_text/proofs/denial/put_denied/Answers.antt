use Rattle.std.proofs.Common.{◌∷◌, [], ◌++◌, codes, rules}
use Rattle.access_rules.specs.Rights.{word_of}
use Rattle.io_edge.proofs.WroteLemmas.{wrote_then, wrote_part_of}
use Rattle.reply_text.proofs.denial.put_denied.Goals as goal

pub returns-in-Ok-clause-wrote : goal.returns-in-Ok-clause-wrote
returns-in-Ok-clause-wrote g c =
    wrote_then _ (codes "error: permission denied: ") (word_of c.args.right ++ 10 ∷ []) _ _ _ c.in-Ok.ensures.wrote (search rules)

pub returns-in-Err-clause-wrote : goal.returns-in-Err-clause-wrote
returns-in-Err-clause-wrote g c =
    wrote_part_of (codes "error: permission denied: ") (word_of c.args.right ++ 10 ∷ []) _ _ c.in-Err.ensures.wrote
