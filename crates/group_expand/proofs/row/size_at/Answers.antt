use Rattle.std.proofs.Common.{◌≡◌, ◌+◌, List, drop, sym, ap, ◌∙◌, subst, refl}
use Rattle.group_expand.specs.Row.{StatementView, Ordered}
use Rattle.group_expand.proofs.RowLemmas.{ordered_at, pairs_set, path_behind, counted_at}
use Rattle.group_expand.proofs.DepthLemmas.{told_behind}
use Rattle.group_expand.proofs.row.size_at.Goals as goal

pub count_below-size-requires-clause-ordered : goal.count_below-size-requires-clause-ordered
count_below-size-requires-clause-ordered c =
    let rest : c.split_at.result.1.now ≡ drop (c.args.at + 1) c.args.row.now.items = c.split_at.ensures.back ∙ ap (λ (xs : List StatementView). drop (c.args.at + 1) xs) c.deref.ensures.value
    in subst (λ (xs : List StatementView). Ordered xs) (sym rest) (ordered_at c.args.row.now.items (c.args.at + 1) c.requires.ordered)

pub count_below-size-requires-clause-behind : goal.count_below-size-requires-clause-behind
count_below-size-requires-clause-behind c =
    let rest : c.split_at.result.1.now ≡ drop (c.args.at + 1) c.args.row.now.items = c.split_at.ensures.back ∙ ap (λ (xs : List StatementView). drop (c.args.at + 1) xs) c.deref.ensures.value
    in path_behind c.args.row.now.items c.split_at.result.1.now c.args.at c.index.result.now.path c.index.result.now c.requires.within c.index.ensures refl rest c.requires.ordered

pub count_below-size-requires-clause-told : goal.count_below-size-requires-clause-told
count_below-size-requires-clause-told c =
    let rest : c.split_at.result.1.now ≡ drop (c.args.at + 1) c.args.row.now.items = c.split_at.ensures.back ∙ ap (λ (xs : List StatementView). drop (c.args.at + 1) xs) c.deref.ensures.value
    in told_behind c.args.row.now.items c.split_at.result.1.now c.args.at c.index.result.now c.requires.within c.index.ensures rest c.requires.told

pub returns-clause-same : goal.returns-clause-same
returns-clause-same c =
    pairs_set c.args.row.now.items c.args.at c.sized-sized.result c.index-2.result.now c.requires.within
    (c.sized-sized.ensures.path ∙ ap (λ (x : StatementView). x.path) c.index-2.ensures)
    (c.sized-sized.ensures.value ∙ ap (λ (x : StatementView). x.value) c.index-2.ensures)

pub returns-clause-counted : goal.returns-clause-counted
returns-clause-counted c =
    let rest : c.split_at.result.1.now ≡ drop (c.args.at + 1) c.args.row.now.items = c.split_at.ensures.back ∙ ap (λ (xs : List StatementView). drop (c.args.at + 1) xs) c.deref.ensures.value
    in counted_at c.args.row.now.items c.split_at.result.1.now c.args.at c.index.result.now.path c.index.result.now c.requires.within c.index.ensures refl rest
    c.sized-sized.result c.index-2.result.now c.count_below-size.result c.index-2.ensures c.sized-sized.ensures.path c.sized-sized.ensures.size c.requires.counted
    c.count_below-size.ensures.count
