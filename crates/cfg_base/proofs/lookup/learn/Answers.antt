use Rattle.std.proofs.Common.{true, cond, List, ℕ, ap, ◌∙◌}
use Rattle.std.specs.BTreeSet as set
use Rattle.std.specs.Ordering.{eq_by_cmp}
use Rattle.cfg_base.specs.Order.{word_cmp}
use Rattle.cfg_base.proofs.WordLemmas.{learned}
use Rattle.cfg_base.proofs.lookup.learn.Goals as goal

pub returns-clause-knows : goal.returns-clause-knows
returns-clause-knows c = λ other.
    learned (set.contains word_cmp c.args.known.now other) (set.contains word_cmp c.insert.new.self other) c.args.word.now other
    (c.in_ok-insert.ensures.updates.0 other
    ∙ ap (λ (w : List ℕ). cond (eq_by_cmp word_cmp w other) true (set.contains word_cmp c.args.known.now other)) c.in_ok-clone.ensures.cases)
