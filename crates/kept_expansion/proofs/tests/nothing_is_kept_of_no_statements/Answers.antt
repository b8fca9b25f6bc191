use Rattle.std.proofs.Common.{[], ◌∷◌}
use Rattle.kept_expansion.proofs.UpdateLemmas.{kept_behind}
use Rattle.kept_expansion.proofs.tests.nothing_is_kept_of_no_statements.Goals as goal

pub update-requires : goal.update-requires
update-requires g c = kept_behind c.empty-tree.result c.in_ok-cached.cached (c.in_ok-interfaces.field-0 ∷ []) c.in_ok-cached.ensures.ok
