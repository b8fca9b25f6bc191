use Rattle.std.proofs.Common.{sym, subst}
use Rattle.cfg_tree.specs.Typed.{IsLevelPath}
use Rattle.config_core.proofs.LevelLemmas.{level_front, alone}
use Rattle.config_core.proofs.position.Position.moved_up.Goals as goal

pub invariant_of-result : goal.invariant_of-result
invariant_of-result c =
    alone _ _ (subst IsLevelPath (sym c.in_ok-prefix.ensures) (level_front _ _ c.self.invariant.here)) c.new.ensures.items
