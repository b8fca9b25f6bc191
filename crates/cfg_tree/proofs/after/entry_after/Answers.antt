use Rattle.std.proofs.Common.{MatchOption, ◌≡◌, List, [], ◌∷◌, Option, Some, None, Bor, true, not, ap, ◌∙◌}
use Rattle.std.specs.Ordering.{eq_by_cmp}
use Rattle.cfg_base.specs.Order.{path_cmp}
use Rattle.cfg_base.specs.declared.path.Step.{Step}
use Rattle.cfg_entries.specs.EntryMap.{Pair}
use Rattle.cfg_base.specs.declared.value.Value.{Value}
use Rattle.cfg_tree.specs.Shown.{shown}
use Rattle.cfg_tree.specs.After.{IsNext, IsLast}
use Rattle.cfg_tree.proofs.AfterLemmas.{other_than, same_as, next_none, next_found, next_behind, next_last}
use Rattle.cfg_tree.proofs.after.entry_after.Goals as goal

pub returns-in_err-first : goal.returns-in_err-first
returns-in_err-first c =
    let none = next_none c.args.entries.now c.args.path.now c.from-rest.result c.from-rest.ensures.rest c.in_err-first.ensures
    in rw c.from_residual.ensures none

pub returns-then-ne : goal.returns-then-ne
returns-then-ne c =
    next_found c.args.entries.now c.args.path.now c.from-rest.result c.from-rest.ensures.rest c.in_ok-first.first.now.0 c.in_ok-first.first.now.1
    c.next.new.self c.in_ok-first.ensures c.from-rest.ensures.ordered
    (other_than _ (c.if-ne.ensures ∙ ap (λ (q : List Step). not (eq_by_cmp path_cmp c.args.path.now q)) c.path.ensures))

pub returns : goal.returns
returns c = by_result c.next-2.result c.next-2.ensures
  where
    same : eq_by_cmp path_cmp c.args.path.now c.in_ok-first.first.now.0 ≡ true
    same = same_as _ (c.if-ne.ensures ∙ ap (λ (q : List Step). not (eq_by_cmp path_cmp c.args.path.now q)) c.path.ensures)

    by_result : (r : Option (Bor (Pair Value))) → MatchOption r (c.next.new.self ≡ []) (λ entry. c.next.new.self ≡ entry.now ∷ c.next-2.new.self)
        → MatchOption r (IsLast (shown c.args.entries.now) c.args.path.now) (λ entry. IsNext (shown c.args.entries.now) c.args.path.now entry.now.0 entry.now.1)
    by_result None e =
        next_last c.args.entries.now c.args.path.now c.from-rest.result c.from-rest.ensures.rest c.in_ok-first.first.now.0 c.in_ok-first.first.now.1
        c.next.new.self c.in_ok-first.ensures c.from-rest.ensures.ordered same e
    by_result (Some entry) e =
        next_behind c.args.entries.now c.args.path.now c.from-rest.result c.from-rest.ensures.rest c.in_ok-first.first.now.0 c.in_ok-first.first.now.1
        c.next.new.self c.in_ok-first.ensures c.from-rest.ensures.ordered entry.now.0 entry.now.1 c.next-2.new.self same e
