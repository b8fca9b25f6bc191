use Rattle.std.proofs.Common.{sym, subst}
use Rattle.cfg_tree.specs.Shown.{shown}
use Rattle.cfg_tree.specs.Statements.{Statements}
use Rattle.cfg_tree.specs.Tree.{IsTree}
use Rattle.cfg_tree.proofs.BesideLemmas.{lengths, none_new}
use Rattle.cfg_tree.proofs.RenamedLemmas.{renamed_kept}
use Rattle.cfg_tree.proofs.moving.rename_in.Goals as goal

pub rename_part-requires-clause-lengths : goal.rename_part-requires-clause-lengths
rename_part-requires-clause-lengths c = lengths (shown c.args.entries.now) _ _ c.requires.tree.statements c.requires.new

pub returns-clause-kept : goal.returns-clause-kept
returns-clause-kept c =
    subst (λ (m : Statements). IsTree m) (sym c.in_ok-rename_part.ensures.ok)
    (renamed_kept c.args.entries.now c.args.from.now c.args.to.now c.in_ok-part.ensures.ordered c.requires.tree c.requires.new)

pub rename_part-requires-clause-free : goal.rename_part-requires-clause-free
rename_part-requires-clause-free c = none_new (shown c.args.entries.now) _ _ c.requires.tree.statements c.requires.new
