use Rattle.std.proofs.Common.{ap, ◌∙◌, drop}
use Rattle.std.specs.Option.{option_map}
use Rattle.kept_expansion.proofs.DifferingLemmas.{Items, next_left, passed, some_map}
use Rattle.kept_expansion.proofs.differing.Left.pass.Goals as goal

pub returns-then-is_some : goal.returns-then-is_some
returns-then-is_some c =
    passed (option_map (λ e. (e.0.now, e.1.now)) c.self.inside.first) c.self.inside.rest c.next-self-inside.new.self
    (option_map (λ e. (e.0.now, e.1.now)) c.next-self-inside.result)
    (some_map (λ e. (e.0.now, e.1.now)) c.self.inside.first c.if-is_some.ensures)
    (next_left (λ e. (e.0.now, e.1.now)) c.next-self-inside.result _ _ c.next-self-inside.ensures)
    ∙ ap (λ (xs : Items). drop 1 xs) c.self.view_is
