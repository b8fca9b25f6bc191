use Rattle.std.proofs.Common.{arith, rules}
use Rattle.io_edge.proofs.PlaceLemmas.{read_part}
use Rattle.io_edge.proofs.list_source.ListSourceSource.read.Goals as goal

pub returns-in-Some-clause-bytes : goal.returns-in-Some-clause-bytes
returns-in-Some-clause-bytes c =
    read_part c.self.inside.pieces.items c.first_byte-self-inside.result.piece c.first_byte-self-inside.result.at c.copy_front-count.result
    c.args.self.now.left c.as_slice.result.now c.split_at.result.1.now c.copy_front-count.new.into
    (search rules) (search rules) (search rules) (search rules) c.split_at.ensures.back (omega (arith, c.copy_front-count.ensures.count)) c.copy_front-count.ensures.bytes
