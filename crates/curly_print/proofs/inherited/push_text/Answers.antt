use Rattle.std.proofs.Common.{◌≡◌, List, Some, sym, ap, subst, ◌∙◌}
use Rattle.cfg_base.specs.declared.path.Step.{Step}
use Rattle.cfg_schema.specs.declared.rows.Row.{Row}
use Rattle.cfg_schema.specs.Place.{place_of}
use Rattle.cfg_schema.specs.Profile.{is_level}
use Rattle.cfg_tree.specs.Full.{Expansion}
use Rattle.curly_print.specs.Inheriting.{HasInside}
use Rattle.curly_print.proofs.EntryLemmas.{whole}
use Rattle.curly_print.proofs.InheritedLemmas.{not_top}
use Rattle.curly_print.proofs.inherited.push_text.Goals as goal

pub push_at-requires : goal.push_at-requires
push_at-requires c =
    let placed : place_of c.args.path.now ≡ Some c.in-Some.here = ap (λ (p : List Step). place_of p) (sym c.steps.ensures.steps) ∙ sym c.of.ensures ∙ c.in-Some.is
    in not_top c.args.path.now c.in-Some.here placed
    (ap (λ (r : Row). is_level r.shape) (sym c.row.ensures) ∙ sym c.is_level.ensures ∙ c.if-is_level.false)

pub push_below-requires-clause-inside : goal.push_below-requires-clause-inside
push_below-requires-clause-inside c =
    let has = whole c.args.full.now c.args.path.now c.deref.result.now (c.deref.ensures.value ∙ c.in_ok-inside-in-Some.ensures)
    in subst (λ (full : Expansion). HasInside full c.args.path.now c.deref.result.now) (sym c.of-then-is_level.ensures) has
