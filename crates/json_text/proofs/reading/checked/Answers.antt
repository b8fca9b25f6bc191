use Rattle.serde_json.specs.View.{view}
use Rattle.json_text.proofs.ReadLemmas.{refused_by}
use Rattle.json_text.proofs.reading.checked.Goals as goal

pub returns-in-Err-check-clause-refused : goal.returns-in-Err-check-clause-refused
returns-in-Err-check-clause-refused c =
    refused_by c.args.text.now (view c.in-Ok.value) c.in-Err-check.fault c.in-Ok.ensures.ok c.in-Err-check.ensures
