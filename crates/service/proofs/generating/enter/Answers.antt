use Rattle.commands.specs.declared.command.Command.TheVariants.{Configure}
use Rattle.commands.specs.declared.command.Mode.TheVariants.{Shared}
use Rattle.config_core.specs.declared.reply.Reply.TheVariants.{Entered}
use Rattle.service.proofs.GeneratingLemmas.{on_ok_if, replied_so}
use Rattle.service.proofs.generating.enter.Goals as goal

pub returns : goal.returns
returns c = on_ok_if c.expect.result _ (λ ok.
    replied_so (Configure Shared) c.in_ok-reply.reply (Entered Shared) c.args.core.now c.ask.new.core c.args.events.now.items c.ask.new.events.items (c.was_entered.ensures (c.expect.ensures ok)) c.in_ok-reply.ensures)
