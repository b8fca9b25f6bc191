use Rattle.cfg_tree.specs.Shown.{shown}
use Rattle.cfg_tree.proofs.UnionLemmas.{few_tree, few_made, too_many}
use Rattle.cfg_tree.proofs.draft.Draft.into_tree.Goals as goal

pub of_entries-requires : goal.of_entries-requires
of_entries-requires c = few_tree c.self.inside.statements c.len.result c.len.ensures.len c.len.ensures.ordered c.self.invariant c.if-len-le-MAX_STATEMENTS.true

pub returns-then-len-le-MAX_STATEMENTS : goal.returns-then-len-le-MAX_STATEMENTS
returns-then-len-le-MAX_STATEMENTS c =
    few_made c.args.self (shown c.self.inside.statements) c.of_entries.result c.of_entries.ensures c.self.view_is
    (few_tree c.self.inside.statements c.len.result c.len.ensures.len c.len.ensures.ordered c.self.invariant c.if-len-le-MAX_STATEMENTS.true)

pub returns-else-len-le-MAX_STATEMENTS : goal.returns-else-len-le-MAX_STATEMENTS
returns-else-len-le-MAX_STATEMENTS c =
    too_many c.self.inside.statements c.args.self c.len.result c.len.ensures.len c.len.ensures.ordered c.self.view_is c.if-len-le-MAX_STATEMENTS.false
