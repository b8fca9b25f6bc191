use Rattle.std.proofs.Common.{[], ◌∷◌, ◌++◌}
use Rattle.config_db.proofs.HeldLemmas.{none_rests}
use Rattle.config_db.proofs.holding.put.Goals as goal

pub returns-in_default-clause-put : goal.returns-in_default-clause-put
returns-in_default-clause-put c = λ entry is. none_rests (c.args.entries.now ++ entry ∷ []) c.clear.new.self c.clear.ensures

pub returns-then-is_err-clause-put : goal.returns-then-is_err-clause-put
returns-then-is_err-clause-put c = λ entry is. none_rests (c.args.entries.now ++ entry ∷ []) c.clear-then-is_err.new.self c.clear-then-is_err.ensures
