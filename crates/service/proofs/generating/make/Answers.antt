use Rattle.std.proofs.Common.{ℕ, List, subst}
use Rattle.std.proofs.lemmas.Result.{on_ok_weaker}
use Rattle.commands.specs.declared.command.Command.TheVariants.{Load}
use Rattle.commands.specs.declared.command.LoadWay.TheVariants.{Override}
use Rattle.config_core.specs.declared.reply.Reply.TheVariants.{Loaded}
use Rattle.service.specs.Generating.{IsDone}
use Rattle.service.proofs.generating.make.Goals as goal

pub returns : goal.returns
returns c = on_ok_weaker c.commit.result (λ done. record {
  editing = c.enter.new.core;
  loading = c.load.new.core;
  one = c.enter.new.events.items;
  two = c.load.new.events.items;
  entered = c.in_ok-enter.ensures;
  loaded = subst (λ (t : List ℕ). IsDone (Load Override t) Loaded c.enter.new.core c.load.new.core c.enter.new.events.items c.load.new.events.items) c.in_ok-text.ensures c.in_ok-load.ensures;
  committed = done;
}) c.commit.ensures
