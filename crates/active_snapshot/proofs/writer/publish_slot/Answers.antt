use Rattle.std.proofs.Common.{◌≡◌, MatchOption, sym, subst, ◌∙◌}
use Rattle.active_snapshot.proofs.PublishLemmas.{last_shown}
use Rattle.active_snapshot.proofs.writer.publish_slot.Goals as goal
use Rattle.active_snapshot.proofs.writer.publish_slot.Goals.{in-Ok, in-Err}

pub returns-clause-done : goal.returns-clause-done
returns-clause-done g c = λ done. elim c.match-append.branch [
  | in-Ok w ↦
      let shown = last_shown _ _ w.publish_as-open.result.1 w.publish_as-open.result.0.desk.shown.value _ c.args.slot _ _
      (sym w.is_ok.ensures.value ∙ (sym w.result-is ∙ done)) w.publish_as-open.ensures.values w.in-Ok.ensures.pending in
      subst (λ o. MatchOption o ⊥ (λ writer. writer.desk.shown.value ≡ c.args.slot)) (sym (w.writer-is ∙ w.put_back.ensures)) shown
  | in-Err w ↦ absurd (cc (sym w.result-is ∙ done))
]
