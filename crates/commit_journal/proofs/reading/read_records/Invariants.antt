use Rattle.std.proofs.Common.{◌≡◌, ◌≤◌, ◌<◌, ◌-◌, ◌^◌, IsTrue}
use Rattle.disk_model.specs.Disk.{contents_of}
use Rattle.record_code.specs.Reading.{Reads, first_gate}
use Rattle.record_code.specs.Listed.{records_of, PlacedFrom}
use Rattle.commit_journal.proofs.reading.read_records.Given as goal

abbrev pub invariant-loop-gate : goal.invariant-loop-gate
invariant-loop-gate g l = record {
  tells : (g.D.Disk.view l.disk).tells ≡ (g.D.Disk.view l.initial.disk).tells;
  history : (g.D.Disk.view l.disk).history ≡ (g.D.Disk.view l.initial.disk).history;
  faults : (g.D.Disk.view l.initial.disk).faults ≤ (g.D.Disk.view l.disk).faults;
  bound : l.gate < 2 ^ 63;
  places : PlacedFrom first_gate l.payloads l.gate;
  reads : IsTrue (g.D.Disk.view l.initial.disk).tells → Reads (contents_of (g.D.Disk.view l.initial.disk).history) first_gate (records_of l.payloads) l.gate;
}

abbrev pub decreases-loop-gate : goal.decreases-loop-gate
decreases-loop-gate g l = l.len - l.gate
