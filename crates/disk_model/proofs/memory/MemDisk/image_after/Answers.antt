use Rattle.std.proofs.Common.{◌≤◌, ℕ, List, length, take, ap, sym, subst, arith, Result, Ok, Err}
use Rattle.std.specs.Prelude.{IfOk}
use Rattle.disk_model.specs.Disk.{IsImage, after, at_first}
use Rattle.disk_model.specs.Marks.{Knows}
use Rattle.disk_model.specs.Memory.{MemView}
use Rattle.disk_model.proofs.MarkLemmas.{chosen_is_image, chosen_size, prefix_no_longer, sound_after}
use Rattle.disk_model.proofs.memory.MemDisk.image_after.Goals as goal

if_ok_map : {A E : Type 0} (r : Result A E) (P Q : A → Type 0) → ((x : A) → P x → Q x) → IfOk r P → IfOk r Q
if_ok_map (Ok x) P Q to has = to x has
if_ok_map (Err e) P Q to has = has

pub fresh-requires : goal.fresh-requires
fresh-requires c =
    let d = c.self.inside in
    let s = after (at_first d.first.items) (take c.args.call d.calls.calls) in
    let replay = c.in_ok-replay.replay in
    let knows = subst (λ (l : List ℕ). Knows replay.bytes.items replay.marks.items replay.synced (after (at_first l) (take c.args.call d.calls.calls))) c.deref.ensures.value c.in_ok-replay.ensures in
    let chosen = c.in_ok-image.ensures s knows in
    let room = ap (λ (v : MemView). v.room) c.self.view_is in
    let small : length s.contents ≤ d.room = omega (arith, prefix_no_longer d.first.items c.args.call d.calls.calls, ap length c.self.invariant.bytes, c.self.invariant.within) in
    omega (arith, chosen_size s c.args.torn.now c.in_ok-image.image.items d.room (sound_after d.first.items (take c.args.call d.calls.calls)) chosen small (omega (arith, c.requires.room, room)), room)

pub returns-clause-left : goal.returns-clause-left
returns-clause-left c =
    let d = c.self.inside in
    let s = after (at_first d.first.items) (take c.args.call d.calls.calls) in
    let replay = c.in_ok-replay.replay in
    let knows = subst (λ (l : List ℕ). Knows replay.bytes.items replay.marks.items replay.synced (after (at_first l) (take c.args.call d.calls.calls))) c.deref.ensures.value c.in_ok-replay.ensures in
    let image = chosen_is_image s c.args.torn.now c.in_ok-image.image.items (sound_after d.first.items (take c.args.call d.calls.calls)) (c.in_ok-image.ensures s knows) in
    if_ok_map c.fresh.result _ _
    (λ made is. subst (λ (v : MemView). IsImage (after (at_first v.history.first) (take c.args.call v.history.calls)) made.history.first) c.self.view_is
    (subst (λ (w : MemView). IsImage s w.history.first) (sym is) image))
    c.fresh.ensures
