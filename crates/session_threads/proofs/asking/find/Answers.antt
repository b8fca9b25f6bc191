use Rattle.std.proofs.Common.{subst, sym}
use Rattle.session_threads.specs.Access.{Finds}
use Rattle.session_threads.proofs.AskingLemmas.{finds_of}
use Rattle.session_threads.proofs.asking.find.Goals as goal

pub returns : goal.returns
returns c =
    subst (λ u. Finds u c.args.view.now c.args.level.now c.args.command.now c.allows.result) (sym c.in-Some.is)
    (finds_of c.expansion_is_one.ensures.one c.args.view.now c.in-Some.user c.args.level.now c.args.command.now c.full.result.now
    c.full.ensures.expanded c.allows.result c.allows.ensures)
