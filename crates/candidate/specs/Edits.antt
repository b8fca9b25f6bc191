-- A candidate: a commit that it is based on, and edits over that commit's map. Junos OS CLI User Guide, on the candidate
-- configuration; that a candidate is known by its edits, and which edits there are, is this project's own.
use Rattle.std.specs.Prelude.{◌≡◌, ◌≢◌, ◌⊎◌, ℕ, Bool, false, IsTrue, Decides, List, [], ◌∷◌}
use Rattle.std.specs.FinMap as finite
use Rattle.cfg_base.specs.declared.path.Step.{Step}
use Rattle.cfg_base.specs.declared.value.Value.{Value}
use Rattle.commands.specs.declared.command.Op.{Op}
use Rattle.cfg_tree.specs.Statements.{Statements}
use Rattle.cfg_tree.specs.Change.{cleared}
use Rattle.edit_ops.specs.Answer.{IsChange}

-- one edit: a value put at a path, a path taken away with all below it, or a whole map in place of the old one
pub data Edit : Type 0 where
  Put : List Step → Value → Edit
  Remove : List Step → Edit
  Whole : Statements → Edit

-- the map after an edit
abbrev pub after_edit : Statements → Edit → Statements
after_edit m (Put path value) = finite.insert m path value
after_edit m (Remove path) = cleared m path
after_edit m (Whole other) = other

-- the map after edits, the first of them first
abbrev pub after_edits : Statements → List Edit → Statements
after_edits m [] = m
after_edits m (edit ∷ edits) = after_edits (after_edit m edit) edits

-- what is seen of a candidate: the number and the map of the commit that it is based on, its own map, and whether it is
-- modified
pub record CandidateView : Type 0 where
  pub number : ℕ
  pub base : Statements
  pub map : Statements
  pub modified : Bool

-- the edits of a candidate: its map is what they make of the base, and it is modified exactly where there are some
pub record AreEditsOf (candidate : CandidateView) (edits : List Edit) : Type 0 where
  pub made : candidate.map ≡ after_edits candidate.base edits
  pub some : Decides candidate.modified (edits ≢ [])

-- a candidate of a commit, without edits
abbrev pub fresh : ℕ → Statements → CandidateView
fresh number base = record { number = number; base = base; map = base; modified = false }

-- a command has made this map of a candidate, over the same base. It modifies the candidate where it changes the map, and
-- what was modified stays so.
pub record IsEdited (old new : CandidateView) (made : Statements) : Type 0 where
  pub same_number : new.number ≡ old.number
  pub same_base : new.base ≡ old.base
  pub is_made : new.map ≡ made
  pub modifies : Decides new.modified (IsTrue old.modified ⊎ (made ≢ old.map))

-- a change of a candidate is one of its map
pub record IsCandidateChange (old new : CandidateView) (level : List Step) (op : Op) : Type 0 where
  pub told : Bool
  pub change : IsChange old.map new.map level op told
  pub edited : IsEdited old new new.map
