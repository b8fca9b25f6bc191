-- What an allowed show tells. This project's own.
use Rattle.std.specs.Prelude.{◌≡◌, ℕ, Bool, true, false, List, [], ◌∷◌, Option, Some, None, Ok}
use Rattle.std.specs.FinMap as finite
use Rattle.cfg_base.specs.declared.path.Step.{Step}
use Rattle.cfg_resolve.specs.Resolve.{ResolvesTo}
use Rattle.cfg_resolve.specs.declared.target.Target.{Target}
use Rattle.cfg_tree.specs.Statements.{Statements}
use Rattle.commands.specs.declared.command.Form.{Form}
use Rattle.access_rules.specs.declared.right.Right.TheVariants.{See}
use Rattle.access_rules.specs.declared.section.Section.{Section}
use Rattle.access_rules.specs.Sections.{section_of}
use Rattle.access_rules.specs.Rights.{has_right}
use Rattle.access_rules.specs.Needs.{first_missing, show_needs}

-- words let see a section
abbrev pub sees : List (List ℕ) → Option Section → Bool
sees words None = false
sees words (Some section) = has_right words (See section)

-- words let see the statements at and below a step at the top
abbrev pub sees_step : List (List ℕ) → Step → Bool
sees_step words step = sees words (section_of step.head)

-- two configurations are the same in all that words let see
abbrev pub AreSeenAlike : List (List ℕ) → Statements → Statements → Type 0
AreSeenAlike words m n =
    (step : Step) (path : List Step) → sees_step words step ≡ true → finite.get m (step ∷ path) ≡ finite.get n (step ∷ path)

-- the path that a show is of: the level's own, or that of the statement that its words name from the level on
abbrev pub IsShownPath : List Step → List (List ℕ) → List Step → Type 0
IsShownPath level [] path = path ≡ level
IsShownPath level (word ∷ words) path = (target : Target) × ResolvesTo level (word ∷ words) (Ok target) × (path ≡ target.path)

-- a show of a path for which words give all that is needed
pub record IsAllowedShow (words : List (List ℕ)) (level : List Step) (asked : List (List ℕ)) (form : Form) (path : List Step) : Type 0 where
  pub may : first_missing words (show_needs level asked form) ≡ None
  pub shown : IsShownPath level asked path
