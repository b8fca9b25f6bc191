use Rattle.std.proofs.Common.{◌≡◌, ◌++◌, map, take}
use Rattle.shell_words.specs.Item.{Item}
use Rattle.shell_words.proofs.walk.give_run.Given as goal

abbrev pub invariant-loop-item : goal.invariant-loop-item
invariant-loop-item l = l.words ≡ l.initial.words ++ map (λ (item : Item). item.token.word) (take l.item-index l.items)
