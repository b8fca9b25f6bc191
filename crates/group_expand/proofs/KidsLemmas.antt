-- Configurations that are alike have alike expansions.
use Rattle.std.proofs.Common.{◌≡◌, Bool, true, List, [], ◌∷◌}
use Rattle.std.specs.FinMap as finite
use Rattle.cfg_base.specs.declared.path.Step.{Step}
use Rattle.cfg_tree.specs.Children.{steps_below}
use Rattle.cfg_tree.specs.Full.{Expansion}
use Rattle.cfg_tree.specs.Statements.{Statements}
use Rattle.cfg_tree.specs.Tree.{step_of}
use Rattle.group_expand.specs.Expansion.{AreAlikeIn, DifferUnapplied, IsExpansion}
use Rattle.group_expand.specs.Sources.{groups_step}
use Rattle.group_expand.proofs.AlikeLemmas.{expansion_same, expansions_same}
use Rattle.group_expand.proofs.KeysLemmas.{kids_same}

-- the expansion is that of what is applied
pub unapplied : (m n : Statements) (full : Expansion) → DifferUnapplied m n → IsExpansion m full → IsExpansion n full
unapplied m n full d h =
    expansion_same (finite.get m) (finite.get n) (steps_below m) (steps_below n) (λ q same. kids_same m n q same) d.outside d.groups d.given full h

-- what an expansion has in a part is of that part
pub part_same : (m n : Statements) (full other : Expansion) (in_part : Step → Bool) → AreAlikeIn in_part m n → IsExpansion m full → IsExpansion n other
    → (step : Step) (path : List Step) → in_part step ≡ true → finite.get full (step ∷ path) ≡ finite.get other (step ∷ path)
part_same m n full other in_part a one two =
    expansions_same (finite.get m) (finite.get n) (steps_below m) (steps_below n) (λ q same. kids_same m n q same) in_part a.statements a.applied a.excepted
    (a.statements groups_step [] a.groups) (λ level g l w r. a.statements groups_step (step_of [] g ∷ r) a.groups) full other one two
