-- Which configurations are accepted, and the first fault of another one. Junos OS CLI User Guide, on commit check; that the first fault is that of
-- the lowest rule and the least path is this project's own.
use Rattle.std.specs.Prelude.{◌≡◌, ℕ, ◌<◌, List}
use Rattle.cfg_base.specs.declared.path.Step.{Step}
use Rattle.cfg_tree.specs.Statements.{Statements}
use Rattle.cfg_tree.specs.Tree.{IsTree}
use Rattle.cfg_tree.specs.Full.{Expansion}
use Rattle.group_expand.specs.Expansion.{IsExpansion}
use Rattle.commit_check.specs.declared.rule.CommitRule.{CommitRule}
use Rattle.commit_check.specs.declared.fault.CheckFault.{CheckFault}
use Rattle.commit_check.specs.declared.fault.CheckFault.TheVariants.{Rule, NoMemory}
use Rattle.commit_check.specs.Least.{Nowhere, IsLeast}
use Rattle.commit_check.specs.Rules.{number_of, Fails}

-- a rule holds everywhere
abbrev pub Holds : CommitRule → Statements → Expansion → Type 0
Holds rule m full = Nowhere (Fails rule m full)

-- a configuration with an expansion for which every rule holds
pub record IsAccepted (m : Statements) (full : Expansion) : Type 0 where
  pub tree : IsTree m
  pub expansion : IsExpansion m full
  pub holds : (rule : CommitRule) → Holds rule m full

-- the configurations that are accepted
abbrev pub Accepts : Statements → Type 0
Accepts m = (full : Expansion) × IsAccepted m full

-- the first fault: the rule of this number doesn't hold, all of lower numbers do, and this is the least path
pub record IsFirst (m : Statements) (number : ℕ) (path : List Step) : Type 0 where
  pub full : Expansion
  pub expansion : IsExpansion m full
  pub rule : CommitRule
  pub named : number_of rule ≡ number
  pub least : IsLeast (Fails rule m full) path
  pub before : (other : CommitRule) → number_of other < number → Holds other m full

-- what a check may answer other than an expansion; want of memory is free
abbrev pub IsCheckFault : Statements → CheckFault → Type 0
IsCheckFault m (Rule number path) = IsFirst m number path
IsCheckFault m NoMemory = Unit {0}
