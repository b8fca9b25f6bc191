use Rattle.std.proofs.Common.{List, ℕ, ◌+◌, Option, Bor, sym, ap, subst, ◌∙◌}
use Rattle.cfg_base.specs.declared.path.Step.{Step}
use Rattle.cfg_base.specs.declared.value.Value.{Value}
use Rattle.curly_print.specs.Length.{own_len, capped}
use Rattle.curly_print.proofs.HoldsLemmas.{whole_len, no_len}
use Rattle.curly_print.proofs.WalkLemmas.{IsWalk, pending, walk_goes_on}
use Rattle.curly_print.proofs.lengths.text_len.Goals as goal

pub returns-then-count-eq0 : goal.returns-then-count-eq0
returns-then-count-eq0 c = no_len c.args.tree.now c.count.ensures.tree (sym c.count.ensures.count ∙ c.if-count-eq0.true)

pub loop-last-preserved : goal.loop-last-preserved
loop-last-preserved c =
    let walk = subst (λ (last : Option (Bor (List Step) × Bor Value)). IsWalk c.args.tree.now c.loop-last.total (pending last c.loop-last.left)) c.in-Some.is c.loop-last.invariant
    in walk_goes_on c.args.tree.now c.count.ensures.tree c.loop-last.total _ c.loop-last.left c.next-next.new.self (c.in-Some.path.now, c.in-Some.value.now) c.next-next.result
    c.is_followed_below-holds.result walk c.next-next.ensures c.is_followed_below-holds.ensures
    (c.saturating_add-total.ensures ∙ ap (λ (n : ℕ). capped (c.loop-last.total + n)) (c.own_len.ensures ∙ ap (λ (p : List Step). capped (own_len c.is_followed_below-holds.result p c.in-Some.value.now)) c.steps.ensures.steps))

pub returns : goal.returns
returns c =
    whole_len c.args.tree.now c.loop-last.total (pending c.loop-last.last c.loop-last.left) c.count.ensures.tree
    (ap (λ (last : Option (Bor (List Step) × Bor Value)). pending last c.loop-last.left) c.in_default.is) c.loop-last.invariant.small c.loop-last.invariant.counted
