use Rattle.std.proofs.Common.{refl, sym, subst}
use Rattle.std.specs.FinMap as map
use Rattle.std.specs.List.{AllByRecursion}
use Rattle.std.proofs.lemmas.Bool.{false≢true}
use Rattle.cfg_tree.proofs.FirstLemmas.{entries_first, failed_at, first_entries, is_first_entry}
use Rattle.cfg_tree.proofs.tree.Tree.in_profile_1.Goals as goal

pub returns-then-not-is_first_statement : goal.returns-then-not-is_first_statement
returns-then-not-is_first_statement c = (
  λ no. absurd (false≢true no),
  λ first. absurd (failed_at is_first_entry (map.entries c.args.self.now) c.loop-path.left c.next.new.self (c.in-Some.path.now, c.in-Some.value.now) c.is_first_statement.result
      c.is_first_statement.ensures c.if-not-is_first_statement.true c.in-Some.ensures c.loop-path.invariant (first_entries c.args.self.now first)),
)

pub returns : goal.returns
returns c = (
  λ yes. entries_first c.args.self.now (c.loop-path.invariant.0 (subst (AllByRecursion is_first_entry) (sym c.in_default.ensures) tt)),
  λ first. refl,
)
