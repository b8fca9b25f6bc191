-- What a session keeps of its user's rights. This project's own.
use Rattle.std.specs.Prelude.{◌≡◌, ℕ, List, Option, IfSome}
use Rattle.access_rules.specs.Rights.{rights_of}
use Rattle.active_snapshot.specs.Views.{AreFirst, IsLast}
use Rattle.cfg_tree.specs.Full.{Expansion}
use Rattle.commit_ledger.specs.Kept.{Kept, active_of}
use Rattle.group_expand.specs.Expansion.{IsExpansion}
use Rattle.session_threads.specs.declared.found.FoundRights.{FoundRights}

-- these words give a user's rights: by the active configuration of a list of commits, with all that its groups give
abbrev pub GiveRights : Kept → List (List ℕ) → List ℕ → Type 0
GiveRights kept words user = (full : Expansion) → IsExpansion (active_of kept) full → rights_of full user ≡ words

-- rights that were found when a list had so many views, by the last one of these: they are those of the user whose rights are asked
pub record WereFound (asks : Option (List ℕ)) (list : List Kept) (found : FoundRights) : Type 0 where
  pub front : List Kept
  pub view : Kept
  pub first : AreFirst found.views list front
  pub is_last : IsLast front view
  pub gives : IfSome asks (GiveRights view found.rights)

-- what is known of a user's rights, if anything, was found so
abbrev pub KnowsRights : Option (List ℕ) → List Kept → Option FoundRights → Type 0
KnowsRights asks list found = IfSome found (WereFound asks list)
