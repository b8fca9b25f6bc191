use Rattle.std.proofs.Common.{◌∙◌, ap, List}
use Rattle.cfg_base.specs.declared.path.Step.{Step}
use Rattle.cfg_tree.specs.Statements.{is_below}
use Rattle.cfg_tree.proofs.BelowLemmas.{found_below, found_end, found_other}
use Rattle.cfg_tree.proofs.store.keys_below.Goals as goal
use Rattle.cfg_tree.proofs.store.keys_below.Goals.{in-Some+then-not-is_below, in_default}

pub returns-clause-ok : goal.returns-clause-ok
returns-clause-ok c =
    let all = found_below c.args.path.now c.args.entries.now.entries c.from-rest.result c.from-rest.ensures.ordered c.from-rest.ensures.rest
    in elim c.match-next.branch [
      | in-Some+then-not-is_below w ↦
          found_other c.args.path.now w.in-Some.entry.now.0 w.in-Some.entry.now.1 _ _ _ _ w.in-Some.ensures
          (w.if-not-is_below.ensures ∙ ap (λ (p : List Step). is_below c.args.path.now p) w.path.ensures) c.loop-entry.invariant ∙ all
      | in_default w ↦ found_end c.args.path.now _ _ _ w.in_default.ensures c.loop-entry.invariant ∙ all
    ]
