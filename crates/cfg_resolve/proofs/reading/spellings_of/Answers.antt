use Rattle.std.proofs.Common.{◌∙◌, subst, Option, List, ℕ}
use Rattle.cfg_values.specs.Spelling.{IsCanonicalOf}
use Rattle.cfg_resolve.specs.Resolve.{SpelledBy}
use Rattle.cfg_resolve.proofs.SpelledLemmas.{more_spelled}
use Rattle.cfg_resolve.proofs.reading.spellings_of.Goals as goal

pub loop-word-preserved : goal.loop-word-preserved
loop-word-preserved c =
    let found = subst (λ (o : Option (List ℕ)). SpelledBy c.args.kind c.as_bytes.result.now o) c.in-Some.is c.in_ok-word.ensures
    in let canonical = subst (λ (b : List ℕ). IsCanonicalOf c.args.kind b c.in-Some.word) (c.as_bytes.ensures.bytes ∙ c.word-item.is) found
    in more_spelled _ _ _ _ _ _ _ c.loop-word-test.true c.loop-word.invariant canonical c.in_ok-push-in-Some.ensures.ok
