use Rattle.std.proofs.Common.{sym, subst, ◌∙◌}
use Rattle.cfg_tree.specs.Statements.{Statements}
use Rattle.cfg_tree.specs.Tree.{IsTree}
use Rattle.group_expand.proofs.DepthLemmas.{row_told}
use Rattle.group_expand.proofs.RowLemmas.{map_row}
use Rattle.group_expand.proofs.EndLemmas.{map_is, row_is}
use Rattle.group_expand.proofs.row.row_of.Goals as goal

pub size_all-requires-clause-ordered : goal.size_all-requires-clause-ordered
size_all-requires-clause-ordered c = map_row c.args.tree.now c.in_ok-row.row.items c.in_ok-row.ensures.same

pub size_all-requires-clause-told : goal.size_all-requires-clause-told
size_all-requires-clause-told c =
    row_told c.in_ok-row.row.items
    (subst (λ (m : Statements). IsTree m) (sym (map_is c.args.tree.now c.in_ok-row.row.items c.in_ok-row.ensures.same)) c.gathered.ensures.tree)
    (map_row c.args.tree.now c.in_ok-row.row.items c.in_ok-row.ensures.same)

pub returns-clause-map : goal.returns-clause-map
returns-clause-map c = map_is c.args.tree.now c.size_all.new.row.items (c.size_all.ensures.same ∙ c.in_ok-row.ensures.same)

pub returns-clause-row : goal.returns-clause-row
returns-clause-row c =
    row_is c.args.tree.now c.size_all.new.row.items (c.size_all.ensures.same ∙ c.in_ok-row.ensures.same) c.gathered.ensures.tree c.size_all.ensures.counted
    (map_row c.args.tree.now c.size_all.new.row.items (c.size_all.ensures.same ∙ c.in_ok-row.ensures.same))
