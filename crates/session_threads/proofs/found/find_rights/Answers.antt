use Rattle.session_threads.proofs.FoundLemmas.{WereFound-last}
use Rattle.session_threads.proofs.found.find_rights.Goals as goal

pub returns-clause-found : goal.returns-clause-found
returns-clause-found g c =
    WereFound-last c.args.reader.now.list c.args.view.now c.args.user.now
    (record { views = c.kept.result; rights = c.in_ok-of.field-0 }) c.requires c.kept.ensures c.expansion_is_one.ensures.one
    c.full.result.now c.full.ensures.expanded c.in_ok-of.ensures
