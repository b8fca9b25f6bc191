use Rattle.std.proofs.Common.{List, take, drop, ap, arith, ◌∙◌}
use Rattle.group_expand.specs.Row.{StatementView}
use Rattle.group_expand.proofs.RowLemmas.{hop_room, hop_inside}
use Rattle.group_expand.proofs.row.inside.Goals as goal

pub split_at-requires : goal.split_at-requires
split_at-requires c = let k = hop_room c.args.part.now c.requires.some c.requires.counted in let e = c.size.ensures in omega (arith, k.0, e)

pub returns : goal.returns
returns c =
    c.split_at-2.ensures.back ∙ ap (λ (xs : List StatementView). drop 1 xs) (c.split_at.ensures.front ∙ ap (λ n. take n c.args.part.now) c.size.ensures)
    ∙ hop_inside c.args.part.now c.requires.some c.requires.counted c.requires.ordered

pub split_at-requires-2 : goal.split_at-requires-2
split_at-requires-2 c = let k = hop_room c.args.part.now c.requires.some c.requires.counted in let e = c.size.ensures in let l = c.split_at.ensures.front_len in omega (arith, k.1, e, l)
