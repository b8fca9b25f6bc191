use Rattle.std.proofs.Common.{◌≡◌, ◌<◌, drop, length, map, string_bytes, subst, rules}
use Rattle.std.specs.List.{Any}
use Rattle.std.specs.Vec.Iter.{into_iter_items}
use Rattle.confd.proofs.words_of.Goals as goal

pub returns-clause-usage : goal.returns-clause-usage
returns-clause-usage c = λ usage.
    let is : map string_bytes (into_iter_items c.next-program.new.self) ≡ map string_bytes (drop 1 (into_iter_items c.args.args)) = search rules in
    subst (Any (λ word. 255 < length word)) is (c.words_from.ensures.usage usage)
