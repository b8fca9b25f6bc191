use Rattle.std.proofs.Common.{List, sym, ap, subst, ◌∙◌}
use Rattle.cfg_base.specs.declared.path.Step.{Step}
use Rattle.cfg_base.specs.declared.value.Value.{Value}
use Rattle.cfg_tree.specs.Gather.{gathered_from_none}
use Rattle.cfg_tree.specs.Statements.{Statements}
use Rattle.cfg_tree.specs.Tree.{IsStatementMap, IsTyped}
use Rattle.kept_expansion.specs.Part.{part_of}
use Rattle.kept_expansion.proofs.PartLemmas.{part_statements, part_typed}
use Rattle.kept_expansion.proofs.part.part_of.Goals as goal

pub gathered-requires-clause-statements : goal.gathered-requires-clause-statements
gathered-requires-clause-statements c =
    subst (λ (m : Statements). IsStatementMap m)
    (sym
    (ap (λ (es : List (List Step × Value)). gathered_from_none es) c.in_ok-items.ensures.all
    ∙ c.walks_gather_their_tree.ensures (part_of c.args.roots.now c.args.tree.now)))
    (part_statements c.args.tree.now c.statements_of.ensures.tree c.args.roots.now c.requires)

pub gathered-requires-clause-typed : goal.gathered-requires-clause-typed
gathered-requires-clause-typed c =
    subst (λ (m : Statements). IsTyped m)
    (sym
    (ap (λ (es : List (List Step × Value)). gathered_from_none es) c.in_ok-items.ensures.all
    ∙ c.walks_gather_their_tree.ensures (part_of c.args.roots.now c.args.tree.now)))
    (part_typed c.args.tree.now c.statements_of.ensures.tree c.args.roots.now c.requires)
