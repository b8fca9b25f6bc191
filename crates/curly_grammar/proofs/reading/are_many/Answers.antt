use Rattle.std.proofs.Common.{◌<◌, Bool, sym, subst}
use Rattle.std.specs.Prelude.{Decides}
use Rattle.cfg_tree.specs.Stated.{different, paths_of}
use Rattle.cfg_tree.specs.declared.limit.TheConstants.{MAX_STATEMENTS}
use Rattle.curly_grammar.proofs.ParseLemmas.{past_decides}
use Rattle.curly_grammar.proofs.reading.are_many.Goals as goal

pub returns : goal.returns
returns c =
    subst (λ (b : Bool). Decides b (MAX_STATEMENTS < different (paths_of c.args.items.now))) (sym c.is_some.ensures)
    (past_decides (paths_of c.args.items.now) c.in_ok-past.past c.in_ok-past.ensures)
