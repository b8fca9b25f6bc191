use Rattle.std.proofs.Common.{ap, sym, ◌∙◌}
use Rattle.std.specs.FinMap as map
use Rattle.cfg_base.specs.Order.{path_cmp}
use Rattle.cfg_entries.specs.EntryMap.{from_key}
use Rattle.cfg_tree.specs.Statements.{Statements}
use Rattle.cfg_tree.proofs.MapLemmas.{entries_is}
use Rattle.cfg_tree.proofs.draft.Draft.walk_from.Goals as goal

pub returns : goal.returns
returns c =
    c.of.ensures
    ∙ c.from.ensures.rest
    ∙ ap (λ es. from_key path_cmp c.args.path.now es)
    (sym (entries_is c.self.inside.statements.entries c.from.ensures.ordered) ∙ ap (λ (m : Statements). map.entries m) c.self.view_is)
