use Rattle.std.proofs.Common.{ℕ, ◌≤◌, List, length, sym, ap, subst, ◌∙◌}
use Rattle.cfg_base.specs.declared.value.Value.{Value}
use Rattle.cfg_entries.specs.EntryMap.{Pair}
use Rattle.cfg_tree.specs.declared.limit.TheConstants.{MAX_STATEMENTS}
use Rattle.cfg_tree.specs.Shown.{shown}
use Rattle.cfg_tree.specs.Statements.{Statements}
use Rattle.cfg_tree.specs.Tree.{IsTree}
use Rattle.cfg_tree.proofs.MapLemmas.{len_is}
use Rattle.cfg_tree.proofs.BesideLemmas.{lengths, none_new}
use Rattle.cfg_tree.proofs.RenamedLemmas.{copied_kept, copied_crowded}
use Rattle.cfg_tree.proofs.moving.copy_in.Goals as goal

pub overflow_sub-len : goal.overflow_sub-len
overflow_sub-len c =
    subst (λ (n : ℕ). n ≤ MAX_STATEMENTS) (len_is c.args.entries.now.entries c.len.ensures.ordered ∙ sym c.len.ensures.len) c.requires.tree.few

pub returns-then-len-clause-err : goal.returns-then-len-clause-err
returns-then-len-clause-err c =
    copied_crowded c.args.entries.now c.args.from.now c.args.to.now _ _ c.requires.tree c.requires.new
    (c.len-2.ensures ∙ c.in_ok-part.part.ok.0 ∙ ap (λ (es : List (Pair Value)). length es) c.in_ok-part.ensures.part)
    (c.len.ensures.len ∙ sym (len_is c.args.entries.now.entries c.len.ensures.ordered)) c.if-len.true

pub copy_part-requires-clause-lengths : goal.copy_part-requires-clause-lengths
copy_part-requires-clause-lengths c = lengths (shown c.args.entries.now) _ _ c.requires.tree.statements c.requires.new

pub returns-clause-kept : goal.returns-clause-kept
returns-clause-kept c =
    subst (λ (m : Statements). IsTree m) (sym c.in_ok-copy_part.ensures.ok)
    (copied_kept c.args.entries.now c.args.from.now c.args.to.now _ _ c.requires.tree c.requires.new
    (c.len-2.ensures ∙ c.in_ok-part.part.ok.0 ∙ ap (λ (es : List (Pair Value)). length es) c.in_ok-part.ensures.part)
    (c.len.ensures.len ∙ sym (len_is c.args.entries.now.entries c.len.ensures.ordered)) c.if-len.false)

pub copy_part-requires-clause-free : goal.copy_part-requires-clause-free
copy_part-requires-clause-free c = none_new (shown c.args.entries.now) _ _ c.requires.tree.statements c.requires.new
