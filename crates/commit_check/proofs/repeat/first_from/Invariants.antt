use Rattle.std.proofs.Common.{◌≡◌, ℕ, List, length, [], filter}
use Rattle.std.specs.FinMap as map
use Rattle.std.specs.Ordering.{is_le}
use Rattle.cfg_base.specs.Order.{path_cmp}
use Rattle.cfg_base.specs.Words.{Knows}
use Rattle.commit_check.specs.Repeats.{first_repeat}
use Rattle.commit_check.specs.First.{key_row}
use Rattle.commit_check.proofs.UnderLemmas.{IsGrouped}
use Rattle.commit_check.proofs.repeat.first_from.Given as goal

-- the set has the keys that were met, what the rest gives with these is what all gives, and no statement of the row comes after
-- one of another
abbrev pub invariant-loop-path : goal.invariant-loop-path
invariant-loop-path l =
    (met : List (List ℕ)) × Knows met l.met
    × (first_repeat l.rule met l.rest ≡ first_repeat l.rule [] (filter (λ e. is_le (path_cmp l.start e.0)) (map.entries l.full)))
    × IsGrouped (key_row l.rule) l.rest

abbrev pub decreases-loop-path : goal.decreases-loop-path
decreases-loop-path l = length l.rest
