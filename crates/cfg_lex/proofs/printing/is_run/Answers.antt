use Rattle.std.proofs.Common.{length, eqb, ap, ◌∙◌}
use Rattle.cfg_lex.proofs.RunLemmas.{run_length}
use Rattle.cfg_lex.proofs.printing.is_run.Goals as goal

pub returns : goal.returns
returns c = ap (λ n. eqb n (length c.args.word.now)) c.bare_len.ensures.length ∙ run_length c.args.word.now
