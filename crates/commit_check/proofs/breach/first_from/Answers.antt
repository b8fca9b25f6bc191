use Rattle.std.proofs.Common.{List, ap, sym, subst}
use Rattle.cfg_base.specs.declared.path.Step.{Step}
use Rattle.cfg_tree.specs.declared.full.Given.{Given}
use Rattle.commit_check.specs.Rules.{breaks}
use Rattle.commit_check.specs.First.{first_of, top_row}
use Rattle.commit_check.proofs.UnderLemmas.{IsGrouped}
use Rattle.commit_check.proofs.StartLemmas.{from_grouped, no_more_breaks}
use Rattle.commit_check.proofs.breach.first_from.Goals as goal

pub loop-path-init : goal.loop-path-init
loop-path-init c =
    let all = c.walk_from-left.ensures
    in (
      ap (λ (es : List (List Step × Given)). first_of (λ e. breaks c.args.rule c.args.full.now e.0 e.1.words) es) all,
      subst (λ (es : List (List Step × Given)). IsGrouped (top_row c.args.rule) es) (sym all)
          (from_grouped (top_row c.args.rule) c.args.full.now c.args.start.now c.requires.start),
    )

pub returns-then-has_left : goal.returns-then-has_left
returns-then-has_left c =
    no_more_breaks c.args.full.now c.args.head.now _ _ _ _ c.in-Some.ensures c.if-has_left.ensures c.args.rule c.requires.head
    c.loop-path.invariant.1 c.loop-path.invariant.0
