use Rattle.std.proofs.Common.{rules}
use Rattle.shell_words.specs.Reading.{IsReading, Gives}
use Rattle.shell_words.proofs.SoundLemmas.{result_sound}
use Rattle.shell_words.proofs.reader.read_line.Goals as goal

pub returns-clause-sound : goal.returns-clause-sound
returns-clause-sound c =
    let reading : Gives (IsReading c.args.configuring c.args.line.now) c.read_items.result = search rules in
    result_sound c.args.configuring c.args.line.now c.read_items.result reading
