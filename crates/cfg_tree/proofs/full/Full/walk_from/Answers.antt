use Rattle.std.proofs.Common.{ap, sym, ◌∙◌}
use Rattle.std.specs.FinMap as map
use Rattle.cfg_base.specs.Order.{path_cmp}
use Rattle.cfg_entries.specs.EntryMap.{from_key}
use Rattle.cfg_tree.specs.Full.{Expansion}
use Rattle.cfg_tree.proofs.FullLemmas.{entries_from}
use Rattle.cfg_tree.proofs.full.Full.walk_from.Goals as goal

pub returns : goal.returns
returns c =
    c.from.ensures.rest
    ∙ ap (λ es. from_key path_cmp c.args.path.now es)
    (sym (entries_from _ c.from.ensures.ordered) ∙ ap (λ (m : Expansion). map.entries m) c.self.view_is)
