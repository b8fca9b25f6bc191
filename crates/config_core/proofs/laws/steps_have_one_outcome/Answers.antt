use Rattle.config_core.proofs.OutcomeLemmas.{steps_once}
use Rattle.config_core.proofs.laws.steps_have_one_outcome.Goals as goal

pub returns : goal.returns
returns c =
    let changes = c.changes_have_one_answer.ensures in
    let checks = c.checks_have_one_answer.ensures in
    let loads = c.loads_have_one_answer.ensures in
    let merges = c.merges_have_one_answer.ensures in
    let edits = c.edits_have_one_answer.ensures in
    steps_once c.words_have_one_answer.ensures c.expansion_is_one.ensures.one checks.one checks.apart changes.one_fault changes.apart
    loads.one_map loads.one_fault loads.apart c.listings_are_one_text.ensures merges.one_map merges.one_fault merges.apart edits.one_edit edits.one_change
