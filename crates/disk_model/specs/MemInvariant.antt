-- What is true of each disk in memory.
use Rattle.std.specs.Prelude.{◌≡◌, ◌≤◌, ◌<◌, ◌^◌, length, vec_capacity}
use Rattle.disk_model.specs.declared.memory.MemDisk.TheInside.{Inside}
use Rattle.disk_model.specs.Disk.{contents_of}

pub record IsReplay (d : Inside) : Type 0 where
  pub bytes : d.bytes.items ≡ contents_of (record { first = d.first.items; calls = d.calls.calls })
  pub within : length d.bytes.items ≤ d.room
  pub most : d.room ≤ 2 ^ 62
  pub has_room : d.room ≤ vec_capacity d.bytes
  pub record_room : d.calls.room ≡ d.room
  pub record_limit : d.calls.limit ≡ d.limit
  pub stated : d.limit < 2 ^ 32
