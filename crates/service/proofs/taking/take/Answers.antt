use Rattle.std.proofs.Common.{◌∷◌, [], ◌++◌, ap, ◌∙◌}
use Rattle.service.specs.Taking.{done_event}
use Rattle.service.proofs.StepLemmas.{Happens-of}
use Rattle.service.proofs.taking.take.Goals as goal

pub returns-clause-ok : goal.returns-clause-ok
returns-clause-ok c =
    Happens-of c.args.caller c.args.moment c.args.event c.accept-reply.result c.in_ok-prepared.prepared c.args.core.now c.accept-reply.new.self c.args.events.now.items c.note.new.self.items c.requires.fits c.requires.free
    c.in_ok-prepared.ensures.ok c.accept-reply.ensures.state c.accept-reply.ensures.reply
    (c.note.ensures.items ∙ ap (λ l. l ++ done_event c.args.caller c.args.moment c.args.event ∷ []) c.in_ok-reserve.ensures.items)
