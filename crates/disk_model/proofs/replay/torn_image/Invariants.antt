use Rattle.std.proofs.Common.{◌≡◌, ◌<◌, ◌≤◌, ℕ, length, get_or, cond}
use Rattle.disk_model.specs.Marks.{is_marked}
use Rattle.disk_model.specs.Replay.{pending_below}
use Rattle.disk_model.proofs.replay.torn_image.Given as goal

abbrev pub invariant-loop-place : goal.invariant-loop-place
invariant-loop-place l = record {
  size : length l.image.items ≡ l.place;
  bound : l.used ≤ l.place;
  used : l.used ≡ pending_below (is_marked l.replay.marks.items) l.place;
  each : (k : ℕ) → k < l.place → get_or l.image.items k 0
      ≡ cond (is_marked l.replay.marks.items k) (get_or l.chosen (pending_below (is_marked l.replay.marks.items) k) 0) (get_or l.replay.bytes.items k 0);
}
