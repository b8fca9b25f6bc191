-- The order of words and of paths: by bytes, and step by step, first by the head and then by the name.
-- The order is this project's own.
use Rattle.std.specs.Prelude.{ℕ, List, Bool}
use Rattle.std.specs.List.{starts_with}
use Rattle.std.specs.declared.cmp.Ordering.{Ordering}
use Rattle.std.specs.Ordering.{nat_cmp, eq_by_cmp, on, then_cmp}
use Rattle.std.specs.Cmp.{IsTotalOrder, IsEquivalence, IsPartialEquivalence, partial_equiv_from_equiv, on_total, then_total, eq_by_cmp_equiv}
use Rattle.std.specs.Cmp.Lexicographic.{pointwise, slice_cmp, lists_total, lists_equiv, nat_list_cmp_total}
use Rattle.cfg_base.specs.declared.path.Step.{Step}

-- words by their bytes, from the first one that differs
abbrev pub word_cmp : List ℕ → List ℕ → Ordering
word_cmp = slice_cmp nat_cmp

-- steps by the head, and then by the name
abbrev pub step_cmp : Step → Step → Ordering
step_cmp = then_cmp (on (λ step. step.head) word_cmp) (on (λ step. step.name) word_cmp)

-- paths by their steps, from the first one that differs
abbrev pub path_cmp : List Step → List Step → Ordering
path_cmp = slice_cmp step_cmp

-- a path begins with the steps of another one, or is that one
abbrev pub is_below : List Step → List Step → Bool
is_below above path = starts_with (eq_by_cmp step_cmp) path above

pub words_total : IsTotalOrder word_cmp
words_total = nat_list_cmp_total

pub steps_total : IsTotalOrder step_cmp
steps_total = then_total (on_total (λ step. step.head) words_total) (on_total (λ step. step.name) words_total)

pub paths_total : IsTotalOrder path_cmp
paths_total = lists_total steps_total

pub words_equal : IsEquivalence (eq_by_cmp word_cmp)
words_equal = eq_by_cmp_equiv words_total

pub paths_equal : IsEquivalence (eq_by_cmp path_cmp)
paths_equal = eq_by_cmp_equiv paths_total

-- two lists of words are the same
abbrev pub words_eq : List (List ℕ) → List (List ℕ) → Bool
words_eq = pointwise (eq_by_cmp word_cmp)

pub words_alike : IsEquivalence words_eq
words_alike = lists_equiv words_equal

pub words_per : IsPartialEquivalence words_eq
words_per = partial_equiv_from_equiv words_alike
