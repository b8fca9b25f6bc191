use Rattle.std.proofs.Common.{◌≡◌, true, take, map}
use Rattle.std.specs.List.{AllByRecursion}
use Rattle.kept_expansion.specs.Roots.{root_of, is_local}
use Rattle.kept_expansion.proofs.roots.local_roots.Given as goal

abbrev pub invariant-loop-path : goal.invariant-loop-path
invariant-loop-path l =
    (l.roots.items ≡ map root_of (take l.path-index l.touched)) × AllByRecursion (λ root. is_local root ≡ true) l.roots.items
