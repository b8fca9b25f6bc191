use Rattle.std.proofs.Common.{sym, ◌∙◌, filter}
use Rattle.std.specs.FinMap as map
use Rattle.kept_expansion.specs.Part.{in_part}
use Rattle.kept_expansion.proofs.PartLemmas.{entries-part, none_left}
use Rattle.kept_expansion.proofs.part.statements_of.Goals as goal

pub returns-clause-all : goal.returns-clause-all
returns-clause-all c =
    none_left (λ e. in_part c.args.roots.now e.0) c.loop-path.items.items c.loop-path.left (filter (λ e. in_part c.args.roots.now e.0) (map.entries c.args.tree.now))
    c.in_default.ensures c.loop-path.invariant
    ∙ sym (entries-part c.args.roots.now c.args.tree.now)
