-- The first fault among some of the rules, in their order. For the inner functions.
use Rattle.std.specs.Prelude.{◌≡◌, ◌⊎◌, ℕ, List, [], ◌∷◌}
use Rattle.cfg_base.specs.declared.path.Step.{Step}
use Rattle.cfg_tree.specs.Statements.{Statements}
use Rattle.cfg_tree.specs.Full.{Expansion}
use Rattle.commit_check.specs.declared.rule.CommitRule.{CommitRule}
use Rattle.commit_check.specs.declared.fault.CheckFault.{CheckFault}
use Rattle.commit_check.specs.declared.fault.CheckFault.TheVariants.{Rule, NoMemory}
use Rattle.commit_check.specs.Least.{IsLeast}
use Rattle.commit_check.specs.Rules.{number_of, Fails}
use Rattle.commit_check.specs.Accepts.{Holds}

-- a rule of this number doesn't hold, and this is the least path
abbrev pub IsOf : CommitRule → Statements → Expansion → ℕ → List Step → Type 0
IsOf rule m full number path = (number ≡ number_of rule) × IsLeast (Fails rule m full) path

-- the first of these rules that doesn't hold has this number, and this is the least path
abbrev pub IsFirstAmong : List CommitRule → Statements → Expansion → ℕ → List Step → Type 0
IsFirstAmong [] m full number path = ⊥
IsFirstAmong (rule ∷ rules) m full number path = IsOf rule m full number path ⊎ (Holds rule m full × IsFirstAmong rules m full number path)

-- the same of a fault; want of memory is free
abbrev pub IsFaultOf : CommitRule → Statements → Expansion → CheckFault → Type 0
IsFaultOf rule m full (Rule number path) = IsOf rule m full number path
IsFaultOf rule m full NoMemory = Unit {0}

abbrev pub IsFaultAmong : List CommitRule → Statements → Expansion → CheckFault → Type 0
IsFaultAmong rules m full (Rule number path) = IsFirstAmong rules m full number path
IsFaultAmong rules m full NoMemory = Unit {0}
