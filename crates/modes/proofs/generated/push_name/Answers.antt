use Rattle.std.proofs.lemmas.Result.{on_ok_weaker}
use Rattle.std.specs.Prelude.{codes, decimal}
use Rattle.modes.proofs.TextLemmas.{two_pieces}
use Rattle.modes.proofs.generated.push_name.Goals as goal

pub returns : goal.returns
returns c = on_ok_weaker c.push_named-2.result (two_pieces c.args.text.now.items c.push_named.new.text.items c.push_named-2.new.text.items
    (codes "ge-0/0/") (decimal c.args.number) (codes " {\ndescription \"port ") (decimal c.args.number) c.in_ok-push_named.ensures) c.push_named-2.ensures
