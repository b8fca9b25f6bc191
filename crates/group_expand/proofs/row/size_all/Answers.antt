use Rattle.std.proofs.Common.{sym, ◌∙◌, arith}
use Rattle.group_expand.proofs.RowLemmas.{ordered_by_entries, same_length}
use Rattle.group_expand.proofs.DepthLemmas.{all_told_by}
use Rattle.group_expand.proofs.row.size_all.Goals as goal

pub loop-at-preserved : goal.loop-at-preserved
loop-at-preserved c =
    let i = c.loop-at.invariant in let same = c.size_at.ensures.same
    in let l = same_length c.size_at.new.row.items c.loop-at.row.items same in let j = i.0
    in (
      omega (arith, l, j),
      c.size_at.ensures.counted,
      ordered_by_entries c.loop-at.row.items c.size_at.new.row.items (sym same) i.2,
      same ∙ i.3,
      all_told_by c.loop-at.row.items c.size_at.new.row.items (sym same) i.4,
    )
