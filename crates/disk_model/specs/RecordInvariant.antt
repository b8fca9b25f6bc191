-- What is true of each record of calls in memory.
use Rattle.std.specs.Prelude.{◌≡◌, ◌≤◌, ◌<◌, ◌+◌, ◌*◌, ◌^◌, length, vec_capacity}
use Rattle.disk_model.specs.declared.kept.CallRecord.TheInside.{Inside}
use Rattle.disk_model.specs.Kept.{total_of}

pub record IsWhole (r : Inside) : Type 0 where
  pub total : total_of r.kept.items ≡ length r.written.items
  pub within : length r.written.items ≤ r.room
  pub stated : length r.kept.items ≤ 2 * r.limit
  pub has_bytes : r.room ≤ vec_capacity r.written
  pub has_calls : 2 * r.limit ≤ vec_capacity r.kept
  pub full : 0 < r.refused → 2 * r.limit ≤ length r.kept.items
  pub counted : length r.kept.items + r.refused < 2 ^ 64
