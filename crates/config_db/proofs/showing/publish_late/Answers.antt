use Rattle.std.proofs.Common.{sym, ◌∙◌}
use Rattle.config_db.proofs.ShownLemmas.{late_published, late_still, published_all}
use Rattle.config_db.proofs.showing.publish_late.Goals as goal

pub returns-then-is_late-clause-ok : goal.returns-then-is_late-clause-ok
returns-then-is_late-clause-ok g c =
    late_published c.keep.result c.args.shown.now c.keep.new.self (c.requires (sym c.is_late.ensures.late ∙ c.if-is_late.true)) c.keep.ensures.ok

pub returns-then-is_late-clause-err : goal.returns-then-is_late-clause-err
returns-then-is_late-clause-err g c =
    let late = sym c.is_late.ensures.late ∙ c.if-is_late.true in
    late_still c.keep.result c.args.shown.now c.keep.new.self late (c.requires late) c.keep.ensures.err

pub returns-else-is_late-clause-ok : goal.returns-else-is_late-clause-ok
returns-else-is_late-clause-ok g c =
    published_all c.args.shown.now (sym c.is_late.ensures.late ∙ c.if-is_late.false) (c.is_late.ensures.whole c.if-is_late.false)
