use Rattle.command_line.proofs.ReadingLemmas.{AreTexts}
use Rattle.command_line.proofs.reading.texts_of.Given as goal

abbrev pub invariant-loop-word : goal.invariant-loop-word
invariant-loop-word l = AreTexts l.words l.word-index l.texts.items
