use Rattle.std.proofs.Common.{◌≡◌, ◌++◌, take}
use Rattle.cfg_base.proofs.word_list.WordList.extended.Given as goal

abbrev pub invariant-loop-word : goal.invariant-loop-word
invariant-loop-word l = l.list ≡ l.self ++ take l.word-index l.more
