use Rattle.std.proofs.Common.{◌+◌, ℕ, sym, subst, get_or}
use Rattle.cfg_tree.specs.Limit.{paths_of}
use Rattle.cfg_tree.proofs.ExcessLemmas.{less_room, Counts, path_at, within, counted_new, counted_old, is_past}
use Rattle.cfg_tree.proofs.excess.path_past.Goals as goal
use Rattle.cfg_tree.proofs.excess.path_past.Goals.{then-branch+else-count-eq-MAX_STATEMENTS, else-branch}

pub returns-then-count-eq-MAX_STATEMENTS : goal.returns-then-count-eq-MAX_STATEMENTS
returns-then-count-eq-MAX_STATEMENTS c =
    is_past (paths_of c.args.items.now) c.loop-at.at c.loop-at.known c.learn.new.known c.loop-at.count c.in_ok-learn.field-0
    (get_or c.args.items.now c.loop-at.at c.index-items-at.result).0
    c.loop-at.invariant (within c.args.items.now c.loop-at.at c.loop-at-test.true)
    (path_at c.args.items.now c.loop-at.at c.index-items-at.result c.loop-at-test.true) c.in_ok-learn.ensures.new c.in_ok-learn.ensures.knows
    c.if-branch.true c.if-count-eq-MAX_STATEMENTS.true

pub loop-at-preserved : goal.loop-at-preserved
loop-at-preserved c =
    elim c.if-branch.branch [
      | then-branch+else-count-eq-MAX_STATEMENTS w ↦
          subst (λ (n : ℕ). Counts (paths_of c.args.items.now) (c.loop-at.at + 1) c.learn.new.known n) (sym w.count-is)
          (counted_new (paths_of c.args.items.now) c.loop-at.at c.loop-at.known c.learn.new.known c.loop-at.count c.in_ok-learn.field-0
          (get_or c.args.items.now c.loop-at.at c.index-items-at.result).0
          c.loop-at.invariant (within c.args.items.now c.loop-at.at c.loop-at-test.true)
          (path_at c.args.items.now c.loop-at.at c.index-items-at.result c.loop-at-test.true) c.in_ok-learn.ensures.new c.in_ok-learn.ensures.knows
          w.if-branch.true (less_room c.loop-at.count _ c.loop-at.invariant.2 w.if-count-eq-MAX_STATEMENTS.false))
      | else-branch w ↦
          subst (λ (n : ℕ). Counts (paths_of c.args.items.now) (c.loop-at.at + 1) c.learn.new.known n) (sym w.count-is)
          (counted_old (paths_of c.args.items.now) c.loop-at.at c.loop-at.known c.learn.new.known c.loop-at.count c.in_ok-learn.field-0
          (get_or c.args.items.now c.loop-at.at c.index-items-at.result).0
          c.loop-at.invariant (within c.args.items.now c.loop-at.at c.loop-at-test.true)
          (path_at c.args.items.now c.loop-at.at c.index-items-at.result c.loop-at-test.true) c.in_ok-learn.ensures.new c.in_ok-learn.ensures.knows
          w.if-branch.false)
    ]
