use Rattle.std.proofs.Common.{Err, ap}
use Rattle.serde_json.specs.View.{view}
use Rattle.json_text.proofs.ReadLemmas.{too_many}
use Rattle.json_text.proofs.reading.read.Goals as goal

pub returns-in-Err-TooMany-clause-refused : goal.returns-in-Err-TooMany-clause-refused
returns-in-Err-TooMany-clause-refused c =
    too_many c.args.text.now (view c.in-Ok.value) c.in-Ok.ensures.ok.0 c.in-Ok.ensures.ok.1
    (c.in-Err-TooMany.ensures.many (ap Err c.in-Err-TooMany.field-0-is))
