use Rattle.std.proofs.Common.{◌≡◌, IsTrue, sym, subst, ◌∙◌, arith}
use Rattle.disk_model.specs.Disk.{History, contents_of}
use Rattle.record_code.specs.Reading.{byte, IsRecordAt, next_gate}
use Rattle.record_code.specs.Listed.{record_of}
use Rattle.commit_journal.proofs.ReadLemmas.{is_one, read_more, placed_more}
use Rattle.commit_journal.proofs.reading.read_records.Goals as goal

pub loop-gate-preserved : goal.loop-gate-preserved
loop-gate-preserved g c =
    let so_far = c.loop-gate.invariant in
    let gate = c.loop-gate.gate in
    let same = c.read_gate.ensures.history ∙ so_far.history in
    record {
      tells = c.read_record.ensures.tells ∙ c.read_gate.ensures.tells ∙ so_far.tells;
      history = c.read_record.ensures.history ∙ same;
      faults = omega (arith, so_far.faults, c.read_gate.ensures.cause.later, c.read_record.ensures.cause.later);
      bound = c.in_ok-placed.ensures.bound;
      places = placed_more _ _ c.in_ok-placed.placed _ gate c.in_ok-placed.next so_far.places c.in_ok-placed.ensures.offset c.in_ok-placed.ensures.behind c.in_ok-push.ensures.ok;
      reads = λ t.
          let tl = subst IsTrue (sym so_far.tells) t in
          let tg = subst IsTrue (sym c.read_gate.ensures.tells) tl in
          let here = is_one _ c.in-Some-true.field-0 (c.in-Some-true.ensures.gate tl) c.in-Some-true.field-0-test in
          let opened = subst (λ (h : History). byte (contents_of h) gate ≡ 1) (sym c.read_gate.ensures.history) here in
          let at = subst (λ (h : History). IsRecordAt (contents_of h) gate (record_of c.in_ok-placed.placed)) same (c.in_ok-placed.ensures.ok tg opened) in
          let next = subst (λ (h : History). c.in_ok-placed.next ≡ next_gate (contents_of h) gate) same (c.in_ok-placed.ensures.next tg) in
          read_more _ _ _ c.in_ok-placed.placed gate c.in_ok-placed.next (so_far.reads t) at next c.in_ok-push.ensures.ok;
    }
