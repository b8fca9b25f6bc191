use Rattle.std.proofs.Common.{rules, ◌≡◌, [], subst, sym}
use Rattle.session_threads.specs.Served.{IsUnderway}
use Rattle.session_threads.proofs.LogLemmas.{IsUnderway-none}
use Rattle.session_threads.proofs.served.Served.of.Goals as goal

pub invariant_of-result : goal.invariant_of-result
invariant_of-result g c =
    let none : c.new.result.items ≡ [] = search rules in
    subst (λ l. IsUnderway (record { first = c.of-first.result; database = c.args.database; notes = l })) (sym none)
    (IsUnderway-none c.of-first.result c.args.database c.of-first.ensures c.requires.fresh c.requires.starts)
