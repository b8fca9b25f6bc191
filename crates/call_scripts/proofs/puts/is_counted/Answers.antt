use Rattle.std.proofs.Common.{subst}
use Rattle.cfg_schema.specs.declared.rows.Row.{Row}
use Rattle.cfg_tree.specs.Typed.{AreCounted}
use Rattle.cfg_tree.proofs.ReadyLemmas.{counted_there}
use Rattle.call_scripts.proofs.puts.is_counted.Goals as goal

pub returns-in-Some : goal.returns-in-Some
returns-in-Some c =
    λ told. counted_there c.args.path.now _ c.in-Some.here c.args.words.now c.steps.ensures.steps c.in-Some.ensures
    (subst (λ (r : Row). AreCounted r.shape c.args.words.now) c.row.ensures (c.are_counted.ensures told))
