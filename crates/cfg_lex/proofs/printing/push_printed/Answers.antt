use Rattle.std.proofs.Common.{[], sym, ◌∙◌}
use Rattle.std.proofs.lemmas.List.{append-nil}
use Rattle.cfg_lex.proofs.printing.push_printed.Goals as goal

pub returns-in-Err-clause-kept : goal.returns-in-Err-clause-kept
returns-in-Err-clause-kept c = ([], c.in-Err.ensures.items ∙ sym (append-nil c.args.text.now.items))
