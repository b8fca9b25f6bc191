use Rattle.std.proofs.Common.{◌≡◌, rules}
use Rattle.kept_expansion.specs.Part.{part_of}
use Rattle.kept_expansion.proofs.UpdateLemmas.{spliced_is, ok_some}
use Rattle.kept_expansion.proofs.update.by_part.Goals as goal

pub returns-in-Ok-clause-is : goal.returns-in-Ok-clause-is
returns-in-Ok-clause-is c =
    let same : c.in-Some.part ≡ part_of c.args.roots.now c.args.tree.now = search rules
    in ok_some _ _
    (λ made is. spliced_is c.args.full.now c.in-Ok.part made c.args.tree.now c.in-Some.part c.args.roots.now c.requires.behind c.requires.roots same c.in-Ok.ensures.ok is)
    c.spliced.result c.spliced.ensures.is
