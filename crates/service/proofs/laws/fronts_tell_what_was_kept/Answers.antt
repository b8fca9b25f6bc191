use Rattle.std.proofs.Common.{sym, ◌∙◌}
use Rattle.config_core.specs.State.{opening_of}
use Rattle.session_history.proofs.KeptLemmas.{WasKept-one}
use Rattle.service.proofs.ShowLemmas.{shows_once}
use Rattle.service.proofs.laws.fronts_tell_what_was_kept.Goals as goal

pub returns-clause-kept : goal.returns-clause-kept
returns-clause-kept c = λ kept users events front one other was was'.
    WasKept-one (opening_of kept users) (c.histories_have_one_outcome.ensures.state kept users) events one other was.0 was'.0 (was.1 ∙ sym was'.1)

pub returns-clause-shown : goal.returns-clause-shown
returns-clause-shown c = λ kept command one other shows shows'. shows_once kept c.steps_have_one_outcome.ensures command one other shows shows'
