use Rattle.std.proofs.Common.{IfSome, Some, subst}
use Rattle.session_threads.specs.Found.{WereFound}
use Rattle.session_threads.proofs.FoundLemmas.{Lacks-found}
use Rattle.session_threads.proofs.found.lacking.Goals as goal

pub returns-in-Some-clause-lacks : goal.returns-in-Some-clause-lacks
returns-in-Some-clause-lacks g c =
    let were = subst (λ o. IfSome o (WereFound (Some c.args.user.now) c.args.reader.now.list)) c.in-Some.ensures.is c.requires.knows in
    Lacks-found c.args.reader.now.list c.args.view.now c.args.user.now c.in-Some.last.now c.requires.last c.in-Some.ensures.views
    c.args.command.now c.missing.result were (cc (c.missing.ensures, c.top-top.ensures))

pub returns-clause-lacks : goal.returns-clause-lacks
returns-clause-lacks g c =
    Lacks-found c.args.reader.now.list c.args.view.now c.args.user.now c.in_ok-now.now c.requires.last c.in_ok-now.ensures.views
    c.args.command.now c.missing-missing.result c.in_ok-now.ensures.found (cc (c.missing-missing.ensures, c.top-top.ensures))
