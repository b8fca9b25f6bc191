use Rattle.serde_json.specs.View.{view, members_view}
use Rattle.json_text.proofs.WalkLemmas.{whole_checked}
use Rattle.json_text.proofs.reading.check.Goals as goal

pub returns-in-Some : goal.returns-in-Some
returns-in-Some c =
    whole_checked (view c.args.value.now) (members_view c.in-Some.members.now.entries) c.top-top.result c.top.result c.check_inside.result c.in-Some.ensures
    c.top-top.ensures c.top.ensures c.check_inside.ensures
