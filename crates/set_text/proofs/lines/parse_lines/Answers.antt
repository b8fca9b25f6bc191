use Rattle.std.proofs.Common.{List, subst, sym}
use Rattle.set_text.specs.declared.op_lines.OpLine.{OpLine}
use Rattle.set_text.specs.Stop.{IsReadTo}
use Rattle.set_text.proofs.ReadLemmas.{SaysMaybe, skipped_more, change_more}
use Rattle.set_text.proofs.lines.parse_lines.Goals as goal

pub loop-rest-preserved-in-Ok-None : goal.loop-rest-preserved-in-Ok-None
loop-rest-preserved-in-Ok-None c =
    skipped_more c.args.text.now c.loop-rest.rest.now c.first_line.result.1.now c.first_line.result.0.now c.loop-rest.number c.saturating_add-number.result
    c.loop-rest.changes.items c.loop-rest.invariant c.first_line.ensures.first c.saturating_add-number.ensures
    (subst (SaysMaybe c.first_line.result.0.now) c.in-Ok-None.field-0-is c.in-Ok-None.ensures)

pub loop-rest-preserved : goal.loop-rest-preserved
loop-rest-preserved c =
    subst (λ (changes : List OpLine). IsReadTo c.args.text.now c.first_line.result.1.now c.saturating_add-number.result changes)
    (sym c.in_ok-push-in-Ok-Some.ensures.items)
    (change_more c.args.text.now c.loop-rest.rest.now c.first_line.result.1.now c.first_line.result.0.now c.loop-rest.number c.saturating_add-number.result
    c.loop-rest.changes.items c.in-Ok-Some.op c.loop-rest.invariant c.first_line.ensures.first c.saturating_add-number.ensures
    (subst (SaysMaybe c.first_line.result.0.now) c.in-Ok-Some.field-0-is c.in-Ok-Some.ensures))
