use Rattle.std.proofs.Common.{List, [], ap, sym, subst}
use Rattle.cfg_base.specs.declared.path.Step.{Step}
use Rattle.cfg_tree.specs.declared.full.Given.{Given}
use Rattle.commit_check.specs.Repeats.{first_repeat}
use Rattle.commit_check.specs.First.{key_row}
use Rattle.commit_check.proofs.UnderLemmas.{IsGrouped}
use Rattle.commit_check.proofs.StartLemmas.{from_grouped, no_more_keys, nothing_met}
use Rattle.commit_check.proofs.repeat.first_from.Goals as goal

pub loop-path-init : goal.loop-path-init
loop-path-init c =
    let all = c.walk_from-rest.ensures
    in (
      [],
      nothing_met _ c.new-met.ensures.empty,
      ap (λ (es : List (List Step × Given)). first_repeat c.args.rule [] es) all,
      subst (λ (es : List (List Step × Given)). IsGrouped (key_row c.args.rule) es) (sym all)
          (from_grouped (key_row c.args.rule) c.args.full.now c.args.start.now c.requires.start),
    )

pub returns-then-has_left : goal.returns-then-has_left
returns-then-has_left c =
    no_more_keys c.args.full.now c.args.head.now _ _ _ _ c.in-Some.ensures c.if-has_left.ensures c.args.rule _ c.requires.head
    c.loop-path.invariant.3 c.loop-path.invariant.2
