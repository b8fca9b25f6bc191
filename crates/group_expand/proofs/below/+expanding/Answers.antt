use Rattle.std.proofs.Common.{◌≡◌, ◌<◌, ◌+◌, List, [], ◌∷◌, ◌++◌, length, length-append, sym, ap, subst, ◌∙◌, arith, rules, refl}
use Rattle.std.specs.Prelude.{IfOk, IsErrOf}
use Rattle.std.specs.Option.{option_copied}
use Rattle.cfg_base.specs.declared.path.Step.{Step}
use Rattle.cfg_schema.specs.Place.{place_of}
use Rattle.cfg_tree.specs.declared.full.Given.{Given}
use Rattle.cfg_tree.specs.Statements.{parent_of, last_of}
use Rattle.cfg_tree.proofs.PathLemmas.{split}
use Rattle.group_expand.specs.Sources.{is_plain}
use Rattle.group_expand.specs.Level.{Ranked}
use Rattle.group_expand.specs.Runs.{run_gift, run_in}
use Rattle.group_expand.specs.Placed.{run_at, look_of, kids_of}
use Rattle.group_expand.specs.declared.fault.ExpandFault.TheVariants.{TooWide}
use Rattle.group_expand.proofs.PlaceLemmas.{longer, ends, given_by_ends}
use Rattle.cfg_tree.specs.declared.limit.TheConstants.{MAX_EXPANDED}
use Rattle.group_expand.proofs.NodeLemmas.{append_nothing}
use Rattle.group_expand.proofs.StepsLemmas.{IsRunStep, run_step, way_some}
use Rattle.group_expand.proofs.ExpandLemmas.{none_more, some_more, some_wide, nothing_below, run_more, run_wide, level_done, run_is_at, run_plain, own_path}
use Rattle.group_expand.proofs.EndLemmas.{ok_map}
use Rattle.group_expand.proofs.UnalteredLemmas.{unaltered_entries}
use Rattle.group_expand.proofs.below.+expanding.Goals as goal

pub expand_level-returns-then-levels-eq0-clause-ok : goal.expand_level-returns-then-levels-eq0-clause-ok
expand_level-returns-then-levels-eq0-clause-ok t c =
    sym (append_nothing c.args.made) ∙ ap (λ xs. c.args.made ++ xs) (sym (nothing_below c.args.plan.now c.args.path.now c.args.levels c.if-levels-eq0.true))

pub expand_level-expand_run-requires : goal.expand_level-expand_run-requires
expand_level-expand_run-requires t c = (
  search rules,
  (
    c.requires.place (way_some c.args.level.now.plain c.loop-left.left.now c.loop-left.invariant.1 (search rules)),
    (
      run_is_at c.args.plan.now c.args.path.now c.args.levels c.args.level.now c.requires.level c.loop-left.left.now c.first_run.result.now _
          (run_step c.args.level.now.plain c.loop-left.left.now c.first_run.result.now _ c.loop-left.invariant.1 (search rules) c.first_run.ensures refl)
          c.first_step-step.result.now c.deref.result.now c.first_step-step.ensures
          (c.deref.ensures.value ∙ c.in_ok-run.ensures ∙ ap (λ (ws : List Ranked). run_in c.first_step-step.result.now ws c.first_run.result.now) c.wild.ensures),
      (
        run_plain c.args.plan.now c.args.path.now c.args.levels c.args.level.now c.requires.level c.loop-left.left.now c.first_run.result.now _
            (run_step c.args.level.now.plain c.loop-left.left.now c.first_run.result.now _ c.loop-left.invariant.1 (search rules) c.first_run.ensures refl)
            c.first_step-step.result.now c.first_step-step.ensures,
        (let k = c.if-levels-eq0.false in let d = c.requires.deep in omega (arith, k, d), c.requires.row),
      ),
    ),
  ),
)

pub expand_level-returns-in-Err-clause-wide : goal.expand_level-returns-in-Err-clause-wide
expand_level-returns-in-Err-clause-wide t c = λ h.
    run_wide c.args.plan.now c.args.path.now c.args.levels c.args.level.now c.requires.level c.loop-left.left.now c.first_run.result.now _ c.loop-left.maker c.args.made MAX_EXPANDED c.first_step-step.result.now
    (run_step c.args.level.now.plain c.loop-left.left.now c.first_run.result.now _ c.loop-left.invariant.1 (search rules) c.first_run.ensures refl)
    (let k = c.if-levels-eq0.false in omega (arith, k)) c.first_step-step.ensures c.loop-left.invariant.0 (c.in-Err.ensures.wide h)

pub expand_level-loop-left-smaller : goal.expand_level-loop-left-smaller
expand_level-loop-left-smaller t c =
    (run_step c.args.level.now.plain c.loop-left.left.now c.first_run.result.now c.behind_run-left.result.now c.loop-left.invariant.1 (search rules) c.first_run.ensures c.behind_run-left.ensures).shorter

pub expand_level-loop-left-preserved : goal.expand_level-loop-left-preserved
expand_level-loop-left-preserved t c =
    let step : IsRunStep c.args.level.now.plain c.loop-left.left.now c.first_run.result.now c.behind_run-left.result.now
    = run_step c.args.level.now.plain c.loop-left.left.now c.first_run.result.now c.behind_run-left.result.now c.loop-left.invariant.1 (search rules) c.first_run.ensures c.behind_run-left.ensures
    in (
      run_more c.args.plan.now c.args.path.now c.args.levels c.args.level.now c.requires.level c.loop-left.left.now c.first_run.result.now c.behind_run-left.result.now c.loop-left.maker _ _ c.first_step-step.result.now step
          c.first_step-step.ensures c.loop-left.invariant.0 (search rules),
      step.on,
    )

pub expand_level-returns-clause-ok : goal.expand_level-returns-clause-ok
expand_level-returns-clause-ok t c =
    level_done c.args.plan.now c.args.path.now c.args.levels c.args.level.now c.requires.level c.loop-left.left.now c.loop-left.maker c.args.made (let k = c.if-levels-eq0.false in omega (arith, k)) (search rules) c.loop-left.invariant.0

pub expand_path-returns-in-None-clause-ok : goal.expand_path-returns-in-None-clause-ok
expand_path-returns-in-None-clause-ok t c =
    none_more c.args.plan.now (parent_of c.args.path.now) (last_of c.args.path.now) c.args.run.now c.args.path.now (split c.args.path.now c.requires.long) c.requires.run
    (ap is_plain (sym (split c.args.path.now c.requires.long)) ∙ c.requires.plain) c.args.levels c.args.made
    (sym c.in-None.is ∙ c.in_ok-run_gift.ensures ∙ ap (λ (s : Step). run_gift c.args.path.now s c.args.run.now) c.requires.step)

pub expand_path-returns-in-Ok-clause-ok : goal.expand_path-returns-in-Ok-clause-ok
expand_path-returns-in-Ok-clause-ok t c =
    ok_map _ _
    (λ new made. some_more c.args.plan.now (parent_of c.args.path.now) (last_of c.args.path.now) c.args.path.now (split c.args.path.now c.requires.long) c.args.levels c.in_ok-given-in-Some.given
    c.in_ok-given-in-Some.ensures.given c.args.made c.in-Ok.made new c.in_ok-clone-in-Some.field-0 c.in_ok-clone-in-Some.ensures.cases c.in-Ok.ensures.ok made)
    c.expand_level.result c.expand_level.ensures.ok

pub expand_path-returns-in-Ok-clause-wide : goal.expand_path-returns-in-Ok-clause-wide
expand_path-returns-in-Ok-clause-wide t c = λ h.
    some_wide c.args.plan.now (parent_of c.args.path.now) (last_of c.args.path.now) c.args.path.now (split c.args.path.now c.requires.long) c.args.levels c.in_ok-given-in-Some.given
    c.in_ok-given-in-Some.ensures.given c.args.made c.in-Ok.made c.in_ok-clone-in-Some.field-0 MAX_EXPANDED c.in-Ok.ensures.ok (c.expand_level.ensures.wide h)

pub expand_run-expand_path-requires : goal.expand_run-expand_path-requires
expand_run-expand_path-requires t c =
    let is : c.path.result.now ≡ c.args.above.now ++ c.args.step.now ∷ []
    = c.path.ensures ∙ own_path c.args.plan.now c.args.above.now c.args.step.now c.args.run.now c.in-Some-own_of.node.now c.requires.run (ap option_copied (sym c.in-Some-own_of.is) ∙ c.own_of.ensures)
    in let parts = ends c.path.result.now c.args.above.now c.args.step.now is
    in (
      search rules,
      (
        longer c.path.result.now c.args.above.now c.args.step.now is,
        (
          parts.1,
          (
            c.requires.place ∙ ap (λ (q : List Step). place_of q) parts.0,
            (
              c.requires.run
                  ∙ ap (λ (q : List Step). run_at (look_of c.args.plan.now) (kids_of c.args.plan.now) c.args.plan.now q c.args.step.now) parts.0
                  ∙ ap (run_at (look_of c.args.plan.now) (kids_of c.args.plan.now) c.args.plan.now (parent_of c.path.result.now)) parts.1,
              (
                ap is_plain is ∙ c.requires.plain,
                (let d = c.requires.deep in let l = ap (λ (q : List Step). length q) is in omega (arith, d, l, length-append c.args.above.now (c.args.step.now ∷ [])), c.requires.row),
              ),
            ),
          ),
        ),
      ),
    )

pub expand_run-returns-in-Some-own_of-clause-ok : goal.expand_run-returns-in-Some-own_of-clause-ok
expand_run-returns-in-Some-own_of-clause-ok t c =
    let is : c.path.result.now ≡ c.args.above.now ++ c.args.step.now ∷ []
    = c.path.ensures ∙ own_path c.args.plan.now c.args.above.now c.args.step.now c.args.run.now c.in-Some-own_of.node.now c.requires.run (ap option_copied (sym c.in-Some-own_of.is) ∙ c.own_of.ensures)
    in subst (λ (es : List (List Step × Given)). IfOk c.expand_path.result (λ maker. maker ≡ c.args.made ++ es))
    (given_by_ends c.args.plan.now c.args.levels c.path.result.now c.args.above.now c.args.step.now is) c.expand_path.ensures.ok

pub expand_run-returns-in-Some-own_of-clause-wide : goal.expand_run-returns-in-Some-own_of-clause-wide
expand_run-returns-in-Some-own_of-clause-wide t c =
    let is : c.path.result.now ≡ c.args.above.now ++ c.args.step.now ∷ []
    = c.path.ensures ∙ own_path c.args.plan.now c.args.above.now c.args.step.now c.args.run.now c.in-Some-own_of.node.now c.requires.run (ap option_copied (sym c.in-Some-own_of.is) ∙ c.own_of.ensures)
    in subst (λ (es : List (List Step × Given)). IsErrOf c.expand_path.result TooWide → MAX_EXPANDED < length c.args.made + length es)
    (given_by_ends c.args.plan.now c.args.levels c.path.result.now c.args.above.now c.args.step.now is) c.expand_path.ensures.wide

pub expand_run-returns-in-Some-clause-ok : goal.expand_run-returns-in-Some-clause-ok
expand_run-returns-in-Some-clause-ok t c =
    subst (λ (es : List (List Step × Given)). IfOk c.push_unaltered.result (λ maker. maker ≡ c.args.made ++ es))
    (unaltered_entries c.args.plan.now c.requires.row c.args.above.now c.args.step.now c.args.run.now c.in-Some.node.now c.args.levels c.requires.run (ap option_copied (sym c.in-Some.is) ∙ c.unaltered_of.ensures) c.requires.deep)
    c.push_unaltered.ensures.ok

pub expand_run-returns-in-Some-clause-wide : goal.expand_run-returns-in-Some-clause-wide
expand_run-returns-in-Some-clause-wide t c =
    subst (λ (es : List (List Step × Given)). IsErrOf c.push_unaltered.result TooWide → MAX_EXPANDED < length c.args.made + length es)
    (unaltered_entries c.args.plan.now c.requires.row c.args.above.now c.args.step.now c.args.run.now c.in-Some.node.now c.args.levels c.requires.run (ap option_copied (sym c.in-Some.is) ∙ c.unaltered_of.ensures) c.requires.deep)
    c.push_unaltered.ensures.wide
