use Rattle.std.proofs.Common.{sym, ◌∙◌}
use Rattle.cfg_lex.proofs.WordLemmas.{plain_unescaped}
use Rattle.cfg_lex.proofs.word.quoted_word.Goals as goal

pub returns-else-has_backslash-clause-word : goal.returns-else-has_backslash-clause-word
returns-else-has_backslash-clause-word c = sym (plain_unescaped c.args.inside.now (sym c.has_backslash.ensures ∙ c.if-has_backslash.false))
