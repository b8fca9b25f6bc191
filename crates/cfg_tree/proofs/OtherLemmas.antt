-- Another value for a statement that is there.
use Rattle.std.proofs.Common.{◌≡◌, ◌<◌, false, List, sym, ap, ◌∙◌, Option, None, is_none}
use Rattle.std.specs.FinMap as map
use Rattle.cfg_base.specs.declared.path.Step.{Step}
use Rattle.cfg_base.specs.declared.value.Value.{Value}
use Rattle.cfg_tree.specs.declared.limit.TheConstants.{MAX_STATEMENTS}
use Rattle.cfg_tree.specs.Statements.{Statements, size_of}
use Rattle.cfg_tree.specs.Tree.{IsTree}
use Rattle.cfg_tree.specs.Change.{put_at, IsOther}
use Rattle.cfg_tree.proofs.ReadyLemmas.{kept_ready}
use Rattle.cfg_tree.proofs.RoomLemmas.{put_tree}

module _ (m : Statements) (path : List Step) (value : Value) (other : IsOther m path value) where
  pub not_new : false ≡ is_none (map.get m path)
  not_new = sym (ap (λ (o : Option Value). is_none o) other.found)

  room : map.get m path ≡ None → size_of m < MAX_STATEMENTS
  room none = let clash = sym other.found ∙ none in cc

  pub other_tree : (n : Statements) → IsTree m → n ≡ put_at m path value → IsTree n
  other_tree n tree put =
      put_tree m n path value tree (kept_ready m path other.old value tree other.found other.order (λ here e. (other.fits.words here e).0)) other.fits room put
