use Rattle.io_edge.proofs.ReaderLemmas.{gathered_more}
use Rattle.io_edge.proofs.lines.Lines.gather.Goals as goal

pub bytes-preserved : goal.bytes-preserved
bytes-preserved g c = record {
  gathered =
      gathered_more _ _ _ _ _ _ c.bytes.invariant.gathered c.in-Byte.ensures.takes.0 c.in-Byte.ensures.takes.1
      c.in-Byte.ensures.later c.keep.ensures.items;
  within = c.keep.ensures.within;
  room = c.keep.ensures.room;
}
