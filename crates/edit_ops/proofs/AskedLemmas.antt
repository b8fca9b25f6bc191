-- What the words of a change name.
use Rattle.std.proofs.Common.{◌≡◌, ◌==◌, ℕ, eqb-true, true, List, [], ◌∷◌, length, refl, sym, subst, ◌∙◌, inl, Result, Ok, Err, arith}
use Rattle.std.specs.Result.{IfErr, IsErr, IsErrAnd}
use Rattle.cfg_base.specs.declared.path.Step.{Step}
use Rattle.cfg_resolve.specs.declared.target.Target.{Target}
use Rattle.cfg_resolve.specs.declared.target.WordsFault.TheVariants as words
use Rattle.cfg_tree.specs.Statements.{parent_of, last_of}
use Rattle.cfg_resolve.specs.Resolve.{ResolvesTo, target}
use Rattle.cfg_tree.proofs.PathLemmas.{split}
use Rattle.edit_ops.specs.declared.fault.EditFault.{EditFault}
use Rattle.edit_ops.specs.declared.fault.EditFault.TheVariants.{NoMemory}
use Rattle.edit_ops.specs.Answer.{IsNameFault}
use Rattle.edit_ops.specs.Made.{IsTarget, IsBesidePath}

-- want of memory may stand in place of any answer
pub memory_fault : (level : List Step) (given : List (List ℕ)) (whole : Target → Type 0) (refusal : List Step → EditFault)
    → IsNameFault level given whole refusal NoMemory
memory_fault level given whole refusal = inl record { why = words.NoMemory; refused = λ here e. tt; is = refl }

-- a refusal that can only be want of memory
pub memory_only : {T : Type 0} (P : EditFault → Type 0) (r : Result T EditFault) → P NoMemory → IsErr r × IsErrAnd r (λ e. e ≡ NoMemory) → IfErr r P
memory_only P (Ok v) p h = tt
memory_only P (Err e) p h = subst P (sym h.1) p

no_words : (ws : List (List ℕ)) → true ≡ (length ws == 0) → ws ≡ []
no_words [] h = refl
no_words (w ∷ ws) h = let z = eqb-true (length (w ∷ ws)) 0 (sym h) in absurd (omega (arith, z))

-- what words name from the parent, without words after it
pub names_alone : (parent path : List Step) (given slice : List (List ℕ)) (found : Target) → parent ≡ parent_of path → slice ≡ found.words
    → true ≡ (length slice == 0) → ResolvesTo parent given (Ok found) → ResolvesTo (parent_of path) given (Ok (target found.path []))
names_alone parent path given slice found is_parent is_words empty names =
    let none : found.words ≡ [] = sym is_words ∙ no_words slice empty
    in subst (λ (ws : List (List ℕ)). ResolvesTo (parent_of path) given (Ok (target found.path ws))) none
    (subst (λ (p : List Step). ResolvesTo p given (Ok found)) is_parent names)

-- a statement stands below its own parent
pub beside_itself : (found : Target) → IsTarget found → IsBesidePath found.path found.path
beside_itself found t = record {
  steps = t.steps;
  rest = last_of found.path ∷ [];
  some = omega arith;
  below = split found.path t.steps;
  typed = t.typed;
}
