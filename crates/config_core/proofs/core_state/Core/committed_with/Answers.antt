use Rattle.std.proofs.Common.{◌≡◌, ◌∙◌, sym, subst}
use Rattle.cfg_tree.specs.Statements.{Statements}
use Rattle.cfg_tree.specs.Full.{Expansion}
use Rattle.group_expand.specs.Expansion.{IsExpansion}
use Rattle.config_core.specs.Machine.{later}
use Rattle.config_core.proofs.ExpansionLemmas.{expands_committed}
use Rattle.config_core.proofs.core_state.Core.committed_with.Goals as goal

pub with_expansion-requires : goal.with_expansion-requires
with_expansion-requires c =
    let same : c.in_ok-full.full ≡ c.args.expanded.1 = c.in_ok-full.ensures.same ∙ c.full.ensures.is in
    let expansion : IsExpansion c.args.tree.now c.in_ok-full.full =
    subst (λ (m : Statements). IsExpansion m c.in_ok-full.full) c.requires.expanded
    (subst (λ (full : Expansion). IsExpansion c.args.expanded.0 full) (sym same) c.full.ensures.expansion)
    in
    expands_committed c.args.self.now (later c.args.self.now c.args.moment) c.args.caller c.args.tree.now c.args.minutes c.args.comment.now c.args.quit c.in-Ok.prepared c.in_ok-full.full
    c.in-Ok.ensures.steps (expansion, c.in_ok-full.ensures.within)
