use Rattle.std.proofs.Common.{arith}
use Rattle.io_edge.proofs.WroteLemmas.{wrote_more}
use Rattle.io_edge.proofs.writing.put_all.Goals as goal

pub pieces-preserved : goal.pieces-preserved
pieces-preserved g c = record {
  within = omega (arith, c.in-Took.ensures.count.1, c.split_at.ensures.back_len);
  written = wrote_more _ _ _ _ _ _ _ c.pieces.invariant.written c.split_at.ensures.back c.in-Took.ensures.bytes;
  later = omega (arith, c.pieces.invariant.later, c.in-Took.ensures.later);
}
