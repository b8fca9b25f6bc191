use Rattle.std.proofs.Common.{◌≡◌, true, map, rules, ◌∙◌}
use Rattle.std.specs.List.{AllByRecursion}
use Rattle.kept_expansion.specs.Roots.{root_of, is_local}
use Rattle.kept_expansion.proofs.RootLemmas.{all_roots, behind_roots}
use Rattle.kept_expansion.proofs.update.locally.Goals as goal

pub by_part-requires-clause-behind : goal.by_part-requires-clause-behind
by_part-requires-clause-behind c =
    let same : c.in-Some.roots.items ≡ map root_of c.args.touched.now = search rules
    in behind_roots c.args.full.now c.args.tree.now c.args.touched.now c.deref.result.now (c.deref.ensures.value ∙ same) c.requires

pub by_part-requires-clause-roots : goal.by_part-requires-clause-roots
by_part-requires-clause-roots c =
    let same : c.in-Some.roots.items ≡ map root_of c.args.touched.now = search rules
    in let local : AllByRecursion (λ root. is_local root ≡ true) c.deref.result.now = search rules
    in all_roots c.args.touched.now c.deref.result.now (c.deref.ensures.value ∙ same) local
