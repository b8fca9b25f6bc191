use Rattle.std.proofs.Common.{◌≡◌, ◌<◌, ◌++◌, ◌∷◌, length, map, string_bytes, rules}
use Rattle.std.specs.Vec.Iter.{into_iter_items}
use Rattle.confd.proofs.WordLemmas.{long_inside}
use Rattle.confd.proofs.words_from.Goals as goal

pub returns-in-Err-LongWord-clause-usage : goal.returns-in-Err-LongWord-clause-usage
returns-in-Err-LongWord-clause-usage c = λ usage.
    let is : c.loop-arg.words ++ string_bytes c.in-Some.arg ∷ map string_bytes (into_iter_items c.next.new.self) ≡ map string_bytes (into_iter_items c.args.args) = search rules in
    let long : 255 < length (string_bytes c.in-Some.arg) = search rules in
    long_inside c.loop-arg.words (map string_bytes (into_iter_items c.next.new.self)) (map string_bytes (into_iter_items c.args.args)) (string_bytes c.in-Some.arg) is long
