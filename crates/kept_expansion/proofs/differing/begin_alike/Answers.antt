use Rattle.std.proofs.Common.{ap, ◌∙◌, drop, List, ◌∷◌}
use Rattle.cfg_base.specs.declared.path.Step.{Step}
use Rattle.cfg_base.specs.declared.value.Value.{Value}
use Rattle.kept_expansion.proofs.DifferingLemmas.{alike_is}
use Rattle.kept_expansion.proofs.differing.begin_alike.Goals as goal

pub returns-then-eq : goal.returns-then-eq
returns-then-eq c = λ same. record {
  first = (c.in-Some-Some.path.now, c.in-Some-Some.value.now);
  rest = drop 1 c.args.old.now;
  other = drop 1 c.args.new.now;
  old_is = c.in-Some-Some.ensures;
  new_is = c.in-Some-Some.ensures'
      ∙ ap (λ (e : List Step × Value). e ∷ drop 1 c.args.new.now) (alike_is (c.in-Some-Some.path.now, c.in-Some-Some.value.now) (c.in-Some-Some.at.now, c.in-Some-Some.found.now) c.if-eq.ensures (c.is_same.ensures same));
}
