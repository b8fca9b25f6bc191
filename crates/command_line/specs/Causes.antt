-- What a fault of a word comes to.
use Rattle.cfg_base.specs.declared.word.WordFault.{WordFault}
use Rattle.cfg_base.specs.declared.word.WordFault.TheVariants as fault
use Rattle.command_line.specs.declared.usage.Usage.{Usage}
use Rattle.command_line.specs.declared.usage.Usage.TheVariants.{Refused, NoMemory}

-- bytes that are no word aren't asked for
abbrev pub usage_of_word : WordFault → Usage
usage_of_word fault.LongWord = Refused
usage_of_word fault.NoMemory = NoMemory
