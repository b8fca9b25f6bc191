use Rattle.session_shell.proofs.LawLemmas.{Once, one_run, one_text, printed_once}
use Rattle.session_shell.proofs.laws.sessions_have_one_text.Goals as goal

pub returns-clause-text : goal.returns-clause-text
returns-clause-text g c =
    let once : Once = record {
      lines = c.lines_are_read_in_one_way.ensures.one_reading;
      maps = c.texts_have_one_answer.ensures.one;
      apart = c.texts_have_one_answer.ensures.apart;
      faults = c.texts_have_one_answer.ensures.one_fault;
      printed_is = printed_once c.printed_text_is_read_back.ensures c.texts_say_one_thing.ensures.one_reading;
    } in
    one_text g.D.Door.names g.D.Door.follows g.D.Door.syncs g.met.D.Door.named g.met.D.Door.keeps g.met.D.Door.keeps_synced once

pub returns-clause-run : goal.returns-clause-run
returns-clause-run g c =
    let once : Once = record {
      lines = c.lines_are_read_in_one_way.ensures.one_reading;
      maps = c.texts_have_one_answer.ensures.one;
      apart = c.texts_have_one_answer.ensures.apart;
      faults = c.texts_have_one_answer.ensures.one_fault;
      printed_is = printed_once c.printed_text_is_read_back.ensures c.texts_say_one_thing.ensures.one_reading;
    } in
    λ limit bytes coming d e e' one other determined. one_run g.D.Door.follows g.D.Door.syncs once determined limit bytes coming d e e' one other
