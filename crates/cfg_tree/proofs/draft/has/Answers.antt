use Rattle.cfg_entries.specs.EntryMap as tree
use Rattle.cfg_base.specs.Order.{path_cmp}
use Rattle.cfg_tree.proofs.UnionLemmas.{has_value}
use Rattle.cfg_tree.proofs.draft.has.Goals as goal

pub returns-in-Some : goal.returns-in-Some
returns-in-Some c =
    has_value (tree.get path_cmp c.args.entries.now c.args.path.now) c.in-Some.there.now c.args.value.now c.eq.result c.in-Some.ensures.value c.eq.ensures
