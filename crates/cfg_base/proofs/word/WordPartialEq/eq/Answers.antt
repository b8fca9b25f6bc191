use Rattle.std.proofs.Common.{rules}
use Rattle.std.specs.Ordering.{nat_cmp}
use Rattle.std.specs.Cmp.{unsigned_ties}
use Rattle.std.specs.Cmp.Lexicographic.{lists_ties}
use Rattle.cfg_base.specs.Kept.{bytes_of}
use Rattle.cfg_base.proofs.word.WordPartialEq.eq.Goals as goal

pub returns : goal.returns
returns c = let tie = lists_ties nat_cmp unsigned_ties (bytes_of c.self.inside.kept) (bytes_of c.other.inside.kept) in search (tie, rules)
