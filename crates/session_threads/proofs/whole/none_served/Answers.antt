use Rattle.std.proofs.Common.{rules, ◌≡◌, ◌==◌, [], ℕ, length, replicate, ap, ◌∙◌, if◌then◌else◌}
use Rattle.session_threads.proofs.RowLemmas.{NoneServed-of}
use Rattle.session_threads.proofs.whole.none_served.Goals as goal

pub returns-clause-none : goal.returns-clause-none
returns-clause-none g c =
    let count : c.loop.counter ≡ length c.args.ends.items = search rules in
    NoneServed-of c.args.ends.items c.loop.turns.items c.status_of_none-status.result
    (c.loop.invariant.0 ∙ ap (λ (n : ℕ). replicate n []) count)
    (c.status_of_none-status.ensures ∙ ap (λ (n : ℕ). if n == 0 then 0 else 9) (c.len-count.ensures ∙ c.args.ends.ok.0))
