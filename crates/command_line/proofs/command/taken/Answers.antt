use Rattle.std.proofs.Common.{map}
use Rattle.std.proofs.lemmas.Result.{IfOk-weaker}
use Rattle.clap.specs.Words.{app_of}
use Rattle.command_line.proofs.CommandLemmas.{taken_without_fault, refused_for_fault, rows_are}
use Rattle.command_line.proofs.command.taken.Goals as goal

pub returns-clause-taken : goal.returns-clause-taken
returns-clause-taken c =
    taken_without_fault (app_of c.args.command) (map (λ s. s.now) c.args.words.now) c.requires c.try_get_matches_from.result c.try_get_matches_from.ensures.kinds

pub returns-clause-rows : goal.returns-clause-rows
returns-clause-rows c =
    IfOk-weaker c.try_get_matches_from.result _ _ (rows_are (app_of c.args.command) (map (λ s. s.now) c.args.words.now) c.requires)
    c.try_get_matches_from.ensures.matches

pub returns-clause-refused : goal.returns-clause-refused
returns-clause-refused c =
    refused_for_fault (app_of c.args.command) (map (λ s. s.now) c.args.words.now) c.requires c.try_get_matches_from.result c.try_get_matches_from.ensures.kinds
