use Rattle.std.proofs.Common.{rules, of_calls}
use Rattle.std.proofs.lemmas.Fn.{always_returns_same}
use Rattle.cfg_entries.specs.Cuts.{in_front, page_begins}
use Rattle.cfg_entries.proofs.CutLemmas.{front_of, pages_partitioned, page_found}
use Rattle.cfg_entries.proofs.cut.cut_page.Goals as goal

pub returns : goal.returns
returns g c =
    let test = in_front c.args.cut c.args.at.now
    in let point = c.partition_point-count.ensures.partitioned (page_begins test) (always_returns_same _ _ _ (λ a r f k. search (rules, of_calls)))
    (pages_partitioned test (front_of c.args.cut c.args.at.now) c.args.pages.now c.requires)
    in page_found test (front_of c.args.cut c.args.at.now) c.args.pages.now c.partition_point-count.result c.requires c.partition_point-count.ensures.bound point _ c.saturating_sub.ensures
