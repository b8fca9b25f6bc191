use Rattle.std.proofs.Common.{sym, ◌∙◌, rules}
use Rattle.serde_json.specs.View.{number_view}
use Rattle.json_text.specs.Said.{IsNumberKind}
use Rattle.json_text.proofs.WordsLemmas.{unsigned_checked}
use Rattle.json_text.proofs.words.check_number.Goals as goal

pub returns-in_ok-digits-in-Some : goal.returns-in_ok-digits-in-Some
returns-in_ok-digits-in-Some c =
    let is_number : IsNumberKind c.args.kind = search rules
    in unsigned_checked c.args.kind c.args.path.now (number_view c.args.number.now) c.in-Some.number c.as_bytes.result.now c.check_spelling.result
    (sym c.as_u64.ensures ∙ c.in-Some.is) is_number (c.as_bytes.ensures.value ∙ c.in_ok-digits-in-Some.ensures.ok) c.check_spelling.ensures
