use Rattle.std.proofs.Common.{◌≡◌, map, take}
use Rattle.shell_words.specs.Item.{item_in}
use Rattle.shell_words.proofs.item.items.Given as goal

abbrev pub invariant-loop-token : goal.invariant-loop-token
invariant-loop-token l = l.items.items ≡ map (item_in l.line) (take l.token-index l.tokens)
