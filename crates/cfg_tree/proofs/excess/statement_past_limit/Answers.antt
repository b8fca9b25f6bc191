use Rattle.std.proofs.Common.{◌≡◌, length, arith}
use Rattle.std.proofs.lemmas.List.{length-map}
use Rattle.cfg_base.specs.declared.value.Value.{Value}
use Rattle.cfg_entries.specs.EntryMap.{Pair}
use Rattle.cfg_tree.specs.Limit.{paths_of}
use Rattle.cfg_tree.proofs.LimitLemmas.{different-length}
use Rattle.cfg_tree.proofs.excess.statement_past_limit.Goals as goal

pub returns-then-items-le-MAX_STATEMENTS : goal.returns-then-items-le-MAX_STATEMENTS
returns-then-items-le-MAX_STATEMENTS c =
    let many : length (paths_of c.args.items.now) ≡ length c.args.items.now = length-map c.args.items.now (λ (e : Pair Value). e.0)
    in let most = different-length (paths_of c.args.items.now)
    in let few = c.if-items-le-MAX_STATEMENTS.true
    in omega (arith, many, most, few)
