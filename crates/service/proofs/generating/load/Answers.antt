use Rattle.commands.specs.declared.command.Command.TheVariants.{Load}
use Rattle.commands.specs.declared.command.LoadWay.TheVariants.{Override}
use Rattle.config_core.specs.declared.reply.Reply.TheVariants.{Loaded}
use Rattle.service.proofs.GeneratingLemmas.{on_ok_if, replied_so}
use Rattle.service.proofs.generating.load.Goals as goal

pub returns : goal.returns
returns c = on_ok_if c.expect.result _ (λ ok.
    replied_so (Load Override c.args.text) c.in_ok-reply.reply Loaded c.args.core.now c.ask.new.core c.args.events.now.items c.ask.new.events.items (c.was_loaded.ensures (c.expect.ensures ok)) c.in_ok-reply.ensures)
