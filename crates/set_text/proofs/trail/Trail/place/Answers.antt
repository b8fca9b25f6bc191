use Rattle.std.proofs.Common.{rules, ◌≡◌, ◌-◌, length, slice_get, Some}
use Rattle.set_text.proofs.TrailLemmas.{last_mark, some_marks}
use Rattle.set_text.proofs.trail.Trail.place.Goals as goal

pub last_mark-place-requires : goal.last_mark-place-requires
last_mark-place-requires c =
    let some = some_marks c.self.inside.path.now c.self.inside.text.items c.self.inside.marks.items c.self.invariant in
    search rules

pub returns : goal.returns
returns c =
    let here : slice_get c.self.inside.marks.items (length c.self.inside.marks.items - 1) ≡ Some c.last_mark-place.result = search rules in
    let same = last_mark c.self.inside.path.now c.self.inside.text.items c.self.inside.marks.items c.self.invariant c.last_mark-place.result here in
    search rules
