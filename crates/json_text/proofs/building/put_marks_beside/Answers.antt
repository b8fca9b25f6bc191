use Rattle.std.proofs.Common.{rules, ◌≡◌, ℕ, List, IsUtf8, sym, subst}
use Rattle.json_text.specs.Keys.{marks_key}
use Rattle.json_text.proofs.TextLemmas.{marks_text}
use Rattle.json_text.proofs.building.put_marks_beside.Goals as goal

pub put_marks-requires : goal.put_marks-requires
put_marks-requires c =
    let same : c.deref.result.now ≡ marks_key c.args.key.now = search rules
    in subst (λ (w : List ℕ). IsUtf8 w) (sym same) (marks_text c.args.key.now c.requires)
