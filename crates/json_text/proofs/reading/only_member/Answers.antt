use Rattle.std.proofs.Common.{ap, sym, ◌∙◌, option_map}
use Rattle.serde_json.specs.View.{view}
use Rattle.json_text.proofs.WholeLemmas.{not_alone, only_answers}
use Rattle.json_text.proofs.reading.only_member.Goals as goal

pub returns-then-len-ne1 : goal.returns-then-len-ne1
returns-then-len-ne1 c = λ ms e. not_alone c.args.members.now.entries ms (λ l. c.if-len-ne1.true (c.len.ensures.len ∙ l)) e

pub returns-in-Some : goal.returns-in-Some
returns-in-Some c =
    only_answers c.args.members.now.entries (view c.in-Some.value.now) c.as_object.result (sym c.len.ensures.len ∙ c.if-len-ne1.false)
    (ap (option_map (λ v. view v.now)) (sym c.in-Some.is) ∙ c.member.ensures) c.as_object.ensures
