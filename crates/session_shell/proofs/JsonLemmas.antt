-- The JSON of what a curly text is read as is that of the configuration whose text it is.
use Rattle.std.proofs.Common.{◌≡◌, ℕ, List, [], ◌∷◌, ◌++◌, Result, Ok, Err, IfOk, ap, ◌∙◌}
use Rattle.cfg_tree.specs.Statements.{Statements}
use Rattle.cfg_tree.specs.Tree.{IsTree}
use Rattle.curly_print.specs.Printed.{printed}
use Rattle.json_text.specs.Written.{json_of}
use Rattle.serde_json.specs.Written.{compact_text}
use Rattle.session_shell.specs.Json.{IsJsonOf}

pub json_is : {E : Type 0} (curly : List ℕ) (result : Result (List ℕ) E) (m n : Statements) → IsTree m → curly ≡ printed m []
    → n ≡ m → IfOk result (λ text. text ≡ compact_text (json_of n) ++ 10 ∷ []) → IfOk result (IsJsonOf curly)
json_is curly (Ok text) m n tree shown same is =
    record { statements = m; tree = tree; shown = shown; is = is ∙ ap (λ s. compact_text (json_of s) ++ 10 ∷ []) same }
json_is curly (Err failed) m n tree shown same is = tt
