-- What an accepted configuration's text and a printable comment keep to.
use Rattle.std.proofs.Common.{◌≤◌, ℕ, List, [], length}
use Rattle.cfg_lex.specs.Printed.{IsPrintable}
use Rattle.cfg_tree.specs.Statements.{Statements}
use Rattle.cfg_values.specs.Spelling.{IsText}
use Rattle.commit_check.specs.declared.rule.TheConstants.{MAX_TEXT}
use Rattle.commit_ledger.specs.Payload.{most_text, text_of}
use Rattle.curly_print.specs.Printed.{printed}

-- the text of a configuration is what is printed of it from the top
pub short_text : (m : Statements) → length (printed m []) ≤ MAX_TEXT → length (text_of m) ≤ most_text
unfolding text_of
short_text m short = short

-- a printable comment is a text
pub text_of_comment : (comment : List ℕ) → IsPrintable comment → IsText comment
text_of_comment comment printable = record { short = printable.short; each = printable.printing }
