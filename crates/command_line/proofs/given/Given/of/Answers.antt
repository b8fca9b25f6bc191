use Rattle.clap.specs.Words.{found_of, rows_of}
use Rattle.std.proofs.Common.{codes}
use Rattle.command_line.proofs.GivenLemmas.{given_is, texts_are}
use Rattle.command_line.proofs.given.Given.of.Goals as goal

pub returns : goal.returns
returns c =
    given_is (rows_of (found_of c.args.matches.now)) c.text.result.now c.text-2.result.now c.text-3.result.now c.text-4.result.now c.text-5.result.now _ c.flag.result
    c.text.ensures c.text-2.ensures (texts_are (found_of c.args.matches.now) (codes "session") c.get_strs.result c.get_strs.ensures) c.text-3.ensures c.text-4.ensures c.text-5.ensures c.flag.ensures
