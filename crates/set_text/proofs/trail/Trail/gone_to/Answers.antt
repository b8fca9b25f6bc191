use Rattle.std.proofs.Common.{rules, ◌≡◌, length, ◌-◌, slice_get, Some}
use Rattle.cfg_tree.specs.Statements.{last_of}
use Rattle.set_text.specs.Trail.{ComesAt}
use Rattle.set_text.proofs.TrailLemmas.{gone, gone_within}
use Rattle.set_text.proofs.trail.Trail.gone_to.Goals as goal

pub mark_at-end-requires : goal.mark_at-end-requires
mark_at-end-requires c =
    let comes : ComesAt c.args.path.now c.self.inside.path.now = search rules in
    let within = gone_within c.args.path.now c.self.inside.path.now comes c.self.inside.text.items c.self.inside.marks.items c.self.invariant in
    search rules

pub invariant_of-result : goal.invariant_of-result
invariant_of-result c =
    let comes : ComesAt c.args.path.now c.self.inside.path.now = search rules in
    let here : slice_get c.self.inside.marks.items (length c.args.path.now - 1) ≡ Some c.mark_at-end.result = search rules in
    let is_last : c.last_of.result.now ≡ last_of c.args.path.now = search rules in
    gone c.args.path.now c.self.inside.path.now comes c.self.inside.text.items _ c.self.inside.marks.items _ c.mark_at-end.result _ c.self.invariant here is_last (search rules) (search rules)
