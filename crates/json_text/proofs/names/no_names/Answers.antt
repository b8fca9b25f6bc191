use Rattle.json_text.proofs.NamesLemmas.{none_tracked}
use Rattle.json_text.proofs.WordsLemmas.{none_known}
use Rattle.std.proofs.Common.{refl}
use Rattle.json_text.proofs.names.no_names.Goals as goal

pub returns : goal.returns
returns c = λ ordered. none_tracked ordered _ (none_known c.new.result c.new.ensures.empty) refl
