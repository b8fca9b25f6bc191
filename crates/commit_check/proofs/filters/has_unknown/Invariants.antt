use Rattle.std.proofs.Common.{◌≡◌, length, not}
use Rattle.std.specs.List.{list_any}
use Rattle.commit_check.specs.Kinds.{is_in, filter_of}
use Rattle.commit_check.proofs.filters.has_unknown.Given as goal

abbrev pub invariant-loop-word : goal.invariant-loop-word
invariant-loop-word l = list_any (λ name. not (is_in l.full (filter_of name))) l.left ≡ list_any (λ name. not (is_in l.full (filter_of name))) l.words

abbrev pub decreases-loop-word : goal.decreases-loop-word
decreases-loop-word l = length l.left
