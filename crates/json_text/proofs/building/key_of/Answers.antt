use Rattle.std.proofs.Common.{rules, ◌≡◌, ℕ, List, IsUtf8, sym, subst}
use Rattle.json_text.specs.Keys.{key_of}
use Rattle.json_text.proofs.TextLemmas.{key_text}
use Rattle.json_text.proofs.building.key_of.Goals as goal

pub returns-clause-text : goal.returns-clause-text
returns-clause-text c =
    let same : c.match-row.key.items ≡ key_of c.args.id = search rules
    in subst (λ (w : List ℕ). IsUtf8 w) (sym same) (key_text c.args.id)
