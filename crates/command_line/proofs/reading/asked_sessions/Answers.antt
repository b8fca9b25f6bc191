use Rattle.std.proofs.Common.{rules, ◌≡◌, length}
use Rattle.command_line.proofs.ReadingLemmas.{without_sessions}
use Rattle.command_line.proofs.reading.asked_sessions.Goals as goal

pub returns-then-is_empty-clause-sound : goal.returns-then-is_empty-clause-sound
returns-then-is_empty-clause-sound c =
    let none : length c.args.words.now ≡ 0 = search rules in
    without_sessions c.alone.result c.args.words.now c.args.mode.now none
