use Rattle.std.proofs.Common.{◌∙◌, sym}
use Rattle.set_text.specs.declared.phase.Phase.TheVariants.{Bare}
use Rattle.set_text.proofs.PhaseLemmas.{leads_more}
use Rattle.set_text.proofs.phase.phase_of.Goals as goal

pub loop-place-preserved : goal.loop-place-preserved
loop-place-preserved c =
    leads_more c.args.brackets Bare c.loop-place.phase c.in-Some.after c.args.tokens.now c.loop-place.place _ c.loop-place-test.true c.loop-place.invariant
    (sym c.next.ensures ∙ c.in-Some.is)
