-- What a curly text makes is loaded, or refused for the first cause.
use Rattle.std.proofs.Common.{◌≡◌, ◌≤◌, ℕ, List, sym, ap, subst, ◌∙◌, Option, Result, Ok, Err}
use Rattle.std.specs.Prelude.{IfOk, IfErr}
use Rattle.std.specs.FinMap as map
use Rattle.cfg_base.specs.declared.path.Step.{Step}
use Rattle.cfg_base.specs.declared.value.Value.{Value}
use Rattle.commands.specs.declared.command.LoadWay.{LoadWay}
use Rattle.commands.specs.declared.command.LoadWay.TheVariants.{Replace}
use Rattle.cfg_tree.specs.declared.limit.TheConstants.{MAX_STATEMENTS}
use Rattle.cfg_tree.specs.Statements.{Statements, size_of}
use Rattle.cfg_tree.specs.Union.{value_in_both, IsUnion}
use Rattle.curly_grammar.specs.Grammar.{Reads}
use Rattle.load_ops.specs.declared.fault.LoadFault.{LoadFault}
use Rattle.load_ops.specs.declared.fault.LoadFault.TheVariants.{Text, Line, Edit, Protected, TooMany, NoMemory}
use Rattle.load_ops.specs.Left.{IsLeft}
use Rattle.load_ops.specs.Texts.{IsMadeOf, Makes, IsTextLoad, IsTextLoadFault}
use Rattle.load_ops.specs.Parts.{IsAllowed, IsRefusal}

module _ (way : LoadWay) (old : Statements) (text : List ℕ) (said : Statements) (tags : List (List Step)) (made : Statements)
    (reads : Reads text said tags) (few : size_of said ≤ MAX_STATEMENTS) (is : IsMadeOf way old said tags made) where
  makes : Makes way old text made
  makes = record { said = said; tags = tags; reads = reads; few = few; made = is }

  pub loaded : (answer : Result Statements LoadFault) → IfOk answer (IsAllowed old made) → IfOk answer (IsTextLoad way old text)
  loaded (Ok new) h = subst (λ (n : Statements). IsTextLoad way old text n) (sym h.same) record { makes = makes; free = h.free; few = h.few }
  loaded (Err fault) h = tt

  by_fault : (fault : LoadFault) → IsRefusal old made fault → IsTextLoadFault way old text fault
  by_fault (Text f) h = absurd h
  by_fault (Line f) h = absurd h
  by_fault (Edit number f) h = absurd h
  by_fault (Protected path) h = record { new = made; makes = makes; blocked = h }
  by_fault TooMany h = record { new = made; makes = makes; free = h.0; many = h.1 }
  by_fault NoMemory h = tt

  pub refused : (answer : Result Statements LoadFault) → IfErr answer (IsRefusal old made) → IfErr answer (IsTextLoadFault way old text)
  refused (Ok new) h = tt
  refused (Err fault) h = by_fault fault h

-- the union of what is left and of what the text says
pub replaced_by : (old said made left : Statements) (tags paths : List (List Step)) → IsLeft old paths left → paths ≡ tags → IsUnion left said made
    → IsMadeOf Replace old said tags made
replaced_by old said made left tags paths is same both =
    subst (λ (ts : List (List Step)). IsMadeOf Replace old said ts made) same
    (λ q. both q ∙ ap (λ (o : Option Value). value_in_both q o (map.get said q)) (is q))
