use Rattle.std.proofs.lemmas.Result.{IfErr-weaker}
use Rattle.commit_check.proofs.CheckLemmas.{later_fault}
use Rattle.commit_check.proofs.checking.+ask_all.Goals as goal

pub returns-in_default-clause-err : goal.returns-in_default-clause-err
returns-in_default-clause-err t c = IfErr-weaker c.ask_all.result _ _ (later_fault _ _ c.args.rules.now c.in-len1-up.len_at_least c.in_default.ensures.ok) c.ask_all.ensures.err
