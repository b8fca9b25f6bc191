use Rattle.config_core.specs.State.{opening_of}
use Rattle.session_history.proofs.KeptLemmas.{WasKept-one}
use Rattle.session_shell.proofs.LawLemmas.{Once, printed_once}
use Rattle.service.proofs.LawLemmas.{names_agree, one_text}
use Rattle.service.proofs.ShowLemmas.{shows_once}
use Rattle.service.proofs.laws.sessions_have_one_text.Goals as goal

pub returns-clause-alone : goal.returns-clause-alone
returns-clause-alone c =
    let once : Once = record {
      lines = c.lines_are_read_in_one_way.ensures.one_reading;
      maps = c.texts_have_one_answer.ensures.one;
      apart = c.texts_have_one_answer.ensures.apart;
      faults = c.texts_have_one_answer.ensures.one_fault;
      printed_is = printed_once c.printed_text_is_read_back.ensures c.texts_say_one_thing.ensures.one_reading;
    } in
    λ kept users caller limit bytes coming after after' one other first alone second alone' seen.
    one_text (opening_of kept users) (WasKept-one (opening_of kept users) (c.histories_have_one_outcome.ensures.state kept users)) (λ k. shows_once k c.steps_have_one_outcome.ensures) caller once
    (c.histories_have_one_outcome.ensures.state kept users) (c.histories_have_one_outcome.ensures.reply kept users) limit bytes coming after after' one other first alone second alone' seen

pub returns-clause-replies : goal.returns-clause-replies
returns-clause-replies c = λ kept users caller events d.
    names_agree (opening_of kept users) (WasKept-one (opening_of kept users) (c.histories_have_one_outcome.ensures.state kept users)) (λ k. shows_once k c.steps_have_one_outcome.ensures) caller events d
    (c.histories_have_one_outcome.ensures.reply kept users d.events)
