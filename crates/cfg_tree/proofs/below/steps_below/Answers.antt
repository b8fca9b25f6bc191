use Rattle.std.proofs.Common.{◌∙◌, ◌+◌, ap, sym, subst, List, length}
use Rattle.cfg_base.specs.declared.path.Step.{Step}
use Rattle.cfg_tree.specs.Statements.{is_below}
use Rattle.cfg_tree.specs.Children.{IsVisit}
use Rattle.cfg_tree.proofs.LevelLemmas.{IsWalk, walk_start, walk_none, walk_end, walk_on, walk_less, walked}
use Rattle.cfg_tree.proofs.below.steps_below.Goals as goal
use Rattle.cfg_tree.proofs.below.steps_below.Goals.{in-Some+then-not-is_below, in_default}

pub loop-entry-init : goal.loop-entry-init
loop-entry-init c =
    subst (λ (ss : List Step). IsWalk c.args.path.now c.args.entries.now.entries c.from-rest.result ss) (sym c.new-steps.ensures.items)
    (walk_start c.args.path.now c.args.entries.now.entries c.from-rest.result c.from-rest.ensures.ordered c.from-rest.ensures.rest)

pub loop-entry-smaller : goal.loop-entry-smaller
loop-entry-smaller c =
    walk_less c.loop-entry.rest c.next.new.self c.visit.new.rest c.in-Some.entry.now c.in-Some.ensures
    (walk_on c.args.path.now c.args.entries.now.entries c.loop-entry.rest c.next.new.self c.in-Some.entry.now c.loop-entry.steps.items
    c.from-rest.ensures.ordered c.loop-entry.invariant c.in-Some.ensures (length c.steps.result.now + 1) c.visit.new.rest c.visit.new.steps.items
    (ap (λ (p : List Step). length p + 1) c.steps.ensures.steps)
    (sym (c.if-not-is_below.ensures ∙ ap (λ (p : List Step). is_below c.args.path.now p) c.path.ensures))
    (subst
    (λ (k : List Step). IsVisit (length c.steps.result.now + 1) k c.args.entries.now.entries c.next.new.self c.visit.new.rest c.loop-entry.steps.items c.visit.new.steps.items)
    c.path-in-Some.ensures c.in_ok-visit.ensures)).1

pub loop-entry-preserved : goal.loop-entry-preserved
loop-entry-preserved c =
    (walk_on c.args.path.now c.args.entries.now.entries c.loop-entry.rest c.next.new.self c.in-Some.entry.now c.loop-entry.steps.items
    c.from-rest.ensures.ordered c.loop-entry.invariant c.in-Some.ensures (length c.steps.result.now + 1) c.visit.new.rest c.visit.new.steps.items
    (ap (λ (p : List Step). length p + 1) c.steps.ensures.steps)
    (sym (c.if-not-is_below.ensures ∙ ap (λ (p : List Step). is_below c.args.path.now p) c.path.ensures))
    (subst
    (λ (k : List Step). IsVisit (length c.steps.result.now + 1) k c.args.entries.now.entries c.next.new.self c.visit.new.rest c.loop-entry.steps.items c.visit.new.steps.items)
    c.path-in-Some.ensures c.in_ok-visit.ensures)).0

pub returns : goal.returns
returns c =
    walked c.args.entries.now c.args.path.now c.loop-entry.steps.items c.from-rest.ensures.ordered
    (elim c.match-next.branch [
      | in-Some+then-not-is_below w ↦
          walk_end c.args.path.now c.args.entries.now.entries c.loop-entry.rest c.next.new.self w.in-Some.entry.now c.loop-entry.steps.items
          c.from-rest.ensures.ordered c.loop-entry.invariant w.in-Some.ensures
          (sym (w.if-not-is_below.ensures ∙ ap (λ (p : List Step). is_below c.args.path.now p) w.path.ensures))
      | in_default w ↦ walk_none c.args.path.now c.args.entries.now.entries c.loop-entry.rest c.loop-entry.steps.items w.in_default.ensures c.loop-entry.invariant
    ])
