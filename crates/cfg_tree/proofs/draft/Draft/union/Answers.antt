use Rattle.cfg_tree.specs.Shown.{shown}
use Rattle.cfg_tree.proofs.UnionLemmas.{union_by, union_unbounded}
use Rattle.cfg_tree.proofs.draft.Draft.union.Goals as goal

pub returns : goal.returns
returns c =
    union_by c.entries.result.now c.entries-2.result.now c.in_ok-statements.statements c.args.one.now c.args.other.now c.in_ok-statements.ensures.ordered
    c.entries.ensures.shown c.entries-2.ensures.shown c.in_ok-statements.ensures.joins

pub invariant_of-result : goal.invariant_of-result
invariant_of-result c =
    union_unbounded c.args.one.now c.args.other.now (shown c.in_ok-statements.statements) c.entries.ensures.tree c.entries-2.ensures.tree
    (union_by c.entries.result.now c.entries-2.result.now c.in_ok-statements.statements c.args.one.now c.args.other.now c.in_ok-statements.ensures.ordered
    c.entries.ensures.shown c.entries-2.ensures.shown c.in_ok-statements.ensures.joins)
