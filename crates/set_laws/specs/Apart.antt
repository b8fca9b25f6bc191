-- Which configurations their own lines make. Junos OS CLI User Guide, on display set and load set.
use Rattle.std.specs.Prelude.{◌≡◌, true, List}
use Rattle.cfg_base.specs.declared.path.Step.{Step}
use Rattle.cfg_tree.specs.Statements.{Statements, is_below}
use Rattle.edit_ops.specs.Block.{IsProtected}

-- no protected statement is below another one
abbrev pub IsProtectedApart : Statements → Type 0
IsProtectedApart m = (above path : List Step) → IsProtected m above → IsProtected m path → is_below above path ≡ true → above ≡ path
