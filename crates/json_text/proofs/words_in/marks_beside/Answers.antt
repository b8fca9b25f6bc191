use Rattle.std.proofs.Common.{rules, ◌≡◌, ℕ, List, IsUtf8, subst}
use Rattle.json_text.specs.Keys.{marks_key}
use Rattle.json_text.proofs.TextLemmas.{marks_text}
use Rattle.json_text.proofs.words_in.marks_beside.Goals as goal

pub member-requires : goal.member-requires
member-requires c =
    let made : marks_key c.args.key.now ≡ c.deref.result.now = search rules
    in subst (λ (bs : List ℕ). IsUtf8 bs) made (marks_text c.args.key.now c.requires)
