use Rattle.std.proofs.Common.{length, rules, sym, ◌∙◌}
use Rattle.glob_name.proofs.ScanLemmas.{scan_star_by, scan_item_by, nothing_fits, scan_back_by, scan_fails, scan_ends, steps_back, one_less}
use Rattle.glob_name.proofs.TestLemmas.{answer_is_glob}
use Rattle.glob_name.proofs.scan.matches.Goals as goal

pub loop-left-preserved-then-begins_with_star : goal.loop-left-preserved-then-begins_with_star
loop-left-preserved-then-begins_with_star c =
    scan_star_by _ _ _ _ _ _ _ _ _ c.loop-left.invariant (sym c.begins_with_star.ensures ∙ c.if-begins_with_star.true) c.behind-rest.ensures

pub loop-left-preserved-in-Some : goal.loop-left-preserved-in-Some
loop-left-preserved-in-Some c =
    scan_item_by _ _ _ _ _ _ _ _ _ _ c.in-Some.size c.loop-left.invariant (search rules) (search rules) c.behind-rest-in-Some.ensures c.behind-left.ensures

pub returns-then-not-star-clause-matched : goal.returns-then-not-star-clause-matched
returns-then-not-star-clause-matched c = scan_fails _ _ _ _ _ _ _ _ c.loop-left.invariant (search rules) (nothing_fits _ _ (search rules) (search rules) (search rules))

pub loop-left-preserved : goal.loop-left-preserved
loop-left-preserved c =
    scan_back_by _ _ _ _ _ _ _ _ _ c.loop-left.invariant (search rules) (search rules) (nothing_fits _ _ (search rules) (search rules) (search rules)) c.behind-tried.ensures

pub returns-clause-matched : goal.returns-clause-matched
returns-clause-matched c =
    let ends = scan_ends _ _ _ _ _ _ _ _ c.loop-left.invariant (search rules)
    in let same = c.only_stars.ensures
    in (λ t. ends.0 (sym same ∙ t), λ m. same ∙ ends.1 m)

pub loop-left-smaller : goal.loop-left-smaller
loop-left-smaller c =
    let s = c.loop-left.invariant
    in steps_back (length c.args.pattern.now) (length c.loop-left.after.now) (length c.loop-left.tried.now) (length c.behind-tried.result.now) (length c.loop-left.rest.now)
    (one_less c.loop-left.tried.now c.behind-tried.result.now c.loop-left.left.now c.behind-tried.ensures (search rules) s.shorter) s.within

pub returns-then-not-star-clause-test : goal.returns-then-not-star-clause-test
returns-then-not-star-clause-test c = answer_is_glob _ _ _ (returns-then-not-star-clause-matched c)

pub returns-clause-test : goal.returns-clause-test
returns-clause-test c = answer_is_glob _ _ _ (returns-clause-matched c)
