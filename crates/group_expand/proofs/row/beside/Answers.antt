use Rattle.std.proofs.Common.{drop, ap, arith, ◌∙◌}
use Rattle.group_expand.proofs.RowLemmas.{hop_room, hop_beside}
use Rattle.group_expand.proofs.row.beside.Goals as goal

pub split_at-requires : goal.split_at-requires
split_at-requires c = let k = hop_room c.args.part.now c.requires.some c.requires.counted in let e = c.size.ensures in omega (arith, k.0, e)

pub returns : goal.returns
returns c = c.split_at.ensures.back ∙ ap (λ n. drop n c.args.part.now) c.size.ensures ∙ hop_beside c.args.part.now c.requires.some c.requires.counted c.requires.ordered
