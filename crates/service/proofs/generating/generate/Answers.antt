use Rattle.std.proofs.Common.{ap}
use Rattle.service.proofs.GeneratingLemmas.{generated}
use Rattle.service.proofs.generating.generate.Goals as goal

pub returns : goal.returns
returns c = generated c.args.count c.args.users c.in_ok-history.history c.in_ok-text.text c.told.new.events.items c.in_ok-text.ensures c.in_ok-history.ensures.opening
    c.in_ok-history.ensures.users c.in_ok-history.ensures.no_calls (ap (λ v. v.items) c.in_ok-history.ensures.events)
