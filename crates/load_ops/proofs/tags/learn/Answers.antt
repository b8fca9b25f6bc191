use Rattle.std.proofs.Common.{true, cond, List, ap, ◌∙◌}
use Rattle.std.specs.BTreeSet as set
use Rattle.std.specs.Ordering.{eq_by_cmp}
use Rattle.cfg_base.specs.Order.{path_cmp}
use Rattle.cfg_base.specs.declared.path.Step.{Step}
use Rattle.load_ops.proofs.tags.learn.Goals as goal

pub returns : goal.returns
returns c = λ other.
    c.in_ok-insert.ensures.updates.0 other
    ∙ ap (λ (p : List Step). cond (eq_by_cmp path_cmp p other) true (set.contains path_cmp c.args.known.now other)) c.in_ok-clone.ensures.cases
