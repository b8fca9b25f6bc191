use Rattle.std.proofs.Common.{◌∙◌, sym, ap, List}
use Rattle.cfg_base.specs.declared.path.Step.{Step}
use Rattle.cfg_tree.specs.Statements.{is_below}
use Rattle.cfg_tree.proofs.PartLemmas.{part_found, part_end, part_other, part_more, same_entry}
use Rattle.cfg_tree.proofs.moving.part_of.Goals as goal
use Rattle.cfg_tree.proofs.moving.part_of.Goals.{in-Some+then-not-is_below, in_default}

pub loop-entry-preserved : goal.loop-entry-preserved
loop-entry-preserved c =
    part_more c.args.path.now c.in-Some.entry.now _ c.loop-entry.part.items _ _ c.loop-entry.rest c.next.new.self c.in-Some.ensures
    (sym (c.if-not-is_below.ensures ∙ ap (λ (p : List Step). is_below c.args.path.now p) c.path.ensures))
    c.in_ok-push.ensures.items
    (same_entry c.in-Some.entry.now c.path-in-Some.result.now c.in_ok-clone.field-0 c.value.result.now c.in_ok-clone-2.field-0
    c.path-in-Some.ensures c.value.ensures c.in_ok-clone.ensures.cases c.in_ok-clone-2.ensures.cases)
    c.loop-entry.invariant

pub returns-clause-part : goal.returns-clause-part
returns-clause-part c =
    let all = part_found c.args.entries.now c.args.path.now c.from-rest.result c.from-rest.ensures.ordered c.from-rest.ensures.rest
    in elim c.match-next.branch [
      | in-Some+then-not-is_below w ↦
          part_other c.args.path.now w.in-Some.entry.now _ _ _ _ w.in-Some.ensures
          (w.if-not-is_below.ensures ∙ ap (λ (p : List Step). is_below c.args.path.now p) w.path.ensures) c.loop-entry.invariant ∙ all
      | in_default w ↦ part_end c.args.path.now _ _ _ w.in_default.ensures c.loop-entry.invariant ∙ all
    ]
