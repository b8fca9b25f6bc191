use Rattle.std.proofs.Common.{rules, ◌≡◌, ◌+◌, ◌-◌, ◌++◌, ◌∷◌, [], List, length, slice_get, take, Some, subst, sym}
use Rattle.std.specs.List.{flat_map}
use Rattle.std.proofs.lemmas.List.{take_more}
use Rattle.cfg_base.specs.declared.path.Step.{Step}
use Rattle.cfg_tree.specs.OwnWords.{words_of_step}
use Rattle.set_text.specs.Printed.{spaced}
use Rattle.set_text.specs.Trail.{IsTrail, place_behind}
use Rattle.set_text.proofs.TrailLemmas.{along, some_marks}
use Rattle.set_text.proofs.trail.Trail.of.Goals as goal

pub last_mark-place-requires : goal.last_mark-place-requires
last_mark-place-requires c =
    let some = some_marks _ c.loop-step.text.items c.loop-step.marks.items c.loop-step.invariant in
    search rules

pub loop-step-preserved : goal.loop-step-preserved
loop-step-preserved c =
    let front = take c.loop-step.step-index c.args.path.now in
    let here : slice_get c.loop-step.marks.items (length c.loop-step.marks.items - 1) ≡ Some c.last_mark-place.result = search rules in
    let more : take (c.loop-step.step-index + 1) c.args.path.now ≡ front ++ c.step-item.result ∷ [] = search (rules, take_more) in
    let cut : c.push_mark.new.text.items ≡ c.loop-step.text.items ++ flat_map spaced (words_of_step c.step-item.result) = search rules in
    let kept : c.push_mark.new.marks.items
    ≡ c.loop-step.marks.items
    ++ record { end = length c.push_mark.new.text.items; place = place_behind c.last_mark-place.result.place c.step-item.result } ∷ [] = search rules in
    subst (λ (p : List Step). IsTrail p c.push_mark.new.text.items c.push_mark.new.marks.items) (sym more)
    (along front c.loop-step.text.items c.loop-step.marks.items c.loop-step.invariant c.step-item.result _ _ c.last_mark-place.result here cut kept)
