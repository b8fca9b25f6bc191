use Rattle.cfg_tree.proofs.SameLemmas.{same_trees, other_trees}
use Rattle.cfg_tree.proofs.tree.Tree.same.Goals as goal

pub returns-then-alike : goal.returns-then-alike
returns-then-alike c =
    same_trees c.self.inside.statements c.other.inside.statements _ _ _ c.self.view_is c.other.view_is
    c.len.ensures.ordered c.len-2.ensures.ordered c.same.ensures

pub returns-else-alike : goal.returns-else-alike
returns-else-alike c =
    other_trees c.self.inside.statements c.other.inside.statements _ _ _ _ c.self.view_is c.other.view_is
    c.len.ensures.ordered c.len-2.ensures.ordered c.len.ensures.len c.len-2.ensures.len c.if-alike.false
