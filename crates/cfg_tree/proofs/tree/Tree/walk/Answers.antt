use Rattle.std.proofs.Common.{ap, sym, ◌∙◌}
use Rattle.std.specs.FinMap as map
use Rattle.cfg_tree.specs.Statements.{Statements}
use Rattle.cfg_tree.proofs.MapLemmas.{entries_is}
use Rattle.cfg_tree.proofs.tree.Tree.walk.Goals as goal

pub returns : goal.returns
returns c =
    c.of.ensures ∙ c.iter.ensures.all ∙ sym (entries_is c.self.inside.statements.entries c.iter.ensures.ordered) ∙ ap (λ (m : Statements). map.entries m) c.self.view_is
