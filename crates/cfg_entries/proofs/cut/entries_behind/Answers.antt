use Rattle.std.proofs.Common.{rules, of_calls, ◌∙◌}
use Rattle.std.proofs.lemmas.List.{take_rest}
use Rattle.std.proofs.lemmas.Fn.{always_returns_same}
use Rattle.cfg_entries.specs.Cuts.{in_front}
use Rattle.cfg_entries.proofs.RowLemmas.{rises}
use Rattle.cfg_entries.proofs.CutLemmas.{front_of, entries_partitioned, entries_cut}
use Rattle.cfg_entries.proofs.cut.entries_behind.Goals as goal

pub returns : goal.returns
returns g c =
    let test = in_front c.args.cut c.args.at.now
    in let es = c.args.entries.now
    in let count = c.partition_point-count.result
    in take_rest es count
    ∙ entries_cut test (front_of c.args.cut c.args.at.now) es count c.partition_point-count.ensures.bound
    (c.partition_point-count.ensures.partitioned (λ e. test e.0) (always_returns_same _ _ _ (λ a r f k. search (rules, of_calls)))
    (entries_partitioned test (front_of c.args.cut c.args.at.now) es (rises es c.requires)))
