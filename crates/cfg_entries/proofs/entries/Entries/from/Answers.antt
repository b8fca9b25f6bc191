use Rattle.std.proofs.Common.{◌∙◌, ap}
use Rattle.cfg_base.specs.Order.{path_cmp}
use Rattle.cfg_entries.specs.EntryMap.{from_key}
use Rattle.cfg_entries.specs.Rows.{flat, rows_of}
use Rattle.cfg_entries.proofs.CutLemmas.{from_is}
use Rattle.cfg_entries.proofs.entries.Entries.from.Goals as goal

pub returns-clause-rest : goal.returns-clause-rest
returns-clause-rest g c =
    c.rest_from.ensures
    ∙ from_is c.args.path.now (flat (rows_of c.deref.result.now))
    ∙ ap (λ ps. from_key path_cmp c.args.path.now (flat (rows_of ps))) c.deref.ensures.value
    ∙ ap (λ m. from_key path_cmp c.args.path.now m.entries) c.self.view_is
