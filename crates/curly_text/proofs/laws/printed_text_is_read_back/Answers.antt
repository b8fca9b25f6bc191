use Rattle.curly_text.proofs.LaidLemmas.{reads_back}
use Rattle.curly_text.proofs.laws.printed_text_is_read_back.Goals as goal

pub returns : goal.returns
returns c = reads_back
