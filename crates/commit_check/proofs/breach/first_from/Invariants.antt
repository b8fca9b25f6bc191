use Rattle.std.proofs.Common.{◌≡◌, length, filter}
use Rattle.std.specs.FinMap as map
use Rattle.std.specs.Ordering.{is_le}
use Rattle.cfg_base.specs.Order.{path_cmp}
use Rattle.commit_check.specs.Rules.{breaks}
use Rattle.commit_check.specs.First.{first_of, top_row}
use Rattle.commit_check.proofs.UnderLemmas.{IsGrouped}
use Rattle.commit_check.proofs.breach.first_from.Given as goal

-- what is left to be found is what was to be found, and no statement of the row comes after one of another
abbrev pub invariant-loop-path : goal.invariant-loop-path
invariant-loop-path l =
    (first_of (λ e. breaks l.rule l.full e.0 e.1.words) l.left
    ≡ first_of (λ e. breaks l.rule l.full e.0 e.1.words) (filter (λ e. is_le (path_cmp l.start e.0)) (map.entries l.full)))
    × IsGrouped (top_row l.rule) l.left

abbrev pub decreases-loop-path : goal.decreases-loop-path
decreases-loop-path l = length l.left
