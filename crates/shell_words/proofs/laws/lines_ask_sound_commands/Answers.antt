use Rattle.shell_words.proofs.SoundLemmas.{reading_sound}
use Rattle.shell_words.proofs.laws.lines_ask_sound_commands.Goals as goal

pub returns : goal.returns
returns c = reading_sound
