use Rattle.std.proofs.Common.{refl, rules}
use Rattle.commands.specs.declared.command.Command.TheVariants.{Logout}
use Rattle.session_shell.specs.declared.json_show.Manner.TheVariants.{Plain}
use Rattle.session_shell.specs.Exchange.{Asked}
use Rattle.session_shell.proofs.TurnLemmas.{one_answer}
use Rattle.session_shell.proofs.serving.Serving.ask_unheard.Goals as goal

pub returns-clause-asks : goal.returns-clause-asks
returns-clause-asks g c = record {
  exchange = Asked c.now-moment.result Logout c.ask-given.result Plain;
  is_item = refl;
  turns = record { moments = one_answer _ _ c.now-moment.result (search rules); turned = search rules; asked = (c.ask-given.new.self, search rules, c.ask-given.new.self, refl, refl); written = (tt, tt) };
  same = search rules;
}
