use Rattle.std.proofs.Common.{rules, of_calls}
use Rattle.std.proofs.lemmas.Fn.{always_returns_same}
use Rattle.cfg_entries.specs.Cuts.{in_front, begins}
use Rattle.cfg_entries.proofs.ChangeLemmas.{rows_of_blocks}
use Rattle.cfg_entries.proofs.CutLemmas.{front_of, rows_partitioned, row_found}
use Rattle.cfg_entries.proofs.cut.cut_block.Goals as goal

pub returns : goal.returns
returns g c =
    let test = in_front c.args.cut c.args.at.now
    in let rows = rows_of_blocks _ c.requires
    in let point = c.partition_point-count.ensures.partitioned (begins test) (always_returns_same _ _ _ (λ a r f k. search (rules, of_calls)))
    (rows_partitioned test (front_of c.args.cut c.args.at.now) c.args.blocks.now rows)
    in row_found test (front_of c.args.cut c.args.at.now) c.args.blocks.now c.partition_point-count.result rows c.partition_point-count.ensures.bound point _ c.saturating_sub.ensures
