-- What may go to a thread: whatever the ends of a snapshot are made of.
use denote.Param.Send.{IsSend, IsSync, sendable}
use denote.RattleType.{RattleType}
use Rattle.std.proofs.Crossing.{crosses}
use Rattle.atomic_table.proofs.send_lease.SendLease.TheSendSync as lease
use Rattle.atomic_table.proofs.shared.Seat.TheSendSync as seat
use Rattle.atomic_table.proofs.shared.Shared.TheSendSync as table
use Rattle.cfg_tree.proofs.full.Full.TheSendSync as full
use Rattle.commit_ledger.proofs.ledger.Ledger.TheSendSync as ledger
use Rattle.left_right.proofs.part.Deed.TheSendSync as deed
use Rattle.left_right.proofs.part.Part.TheSendSync as part
use Rattle.logbook.proofs.tokens.Seen.TheSendSync as seen
use Rattle.logbook.proofs.word.Word.TheSendSync as word
use Rattle.active_snapshot.specs.declared.book.Naming as naming
use Rattle.active_snapshot.specs.contracts.book.Front as Front
use Rattle.active_snapshot.specs.contracts.reader.SnapReader as SnapReader
use Rattle.active_snapshot.specs.contracts.reader.SnapReaders as SnapReaders
use Rattle.active_snapshot.specs.contracts.slot.Slot as Slot
use Rattle.active_snapshot.specs.contracts.view.Shown as Shown
use Rattle.active_snapshot.specs.contracts.writer.SnapWriter as SnapWriter

pub front_send : IsSend Front.the_row
front_send = search (sendable, seen.the_send) depth 20

pub front_sync : IsSync Front.the_row
front_sync = search (sendable, seen.the_sync) depth 20

pub shown_send : IsSend Shown.the_row
shown_send = search (sendable, crosses, ledger.the_send, full.the_send, full.the_sync) depth 150 fits 40000

pub shown_sync : IsSync Shown.the_row
shown_sync = search (sendable, crosses, ledger.the_sync, full.the_send, full.the_sync) depth 150 fits 40000

pub slot_send : IsSend Slot.the_row
slot_send = search (sendable, crosses, front_send, shown_send, shown_sync) depth 20

pub slot_sync : IsSync Slot.the_row
slot_sync = search (sendable, crosses, front_sync, shown_send, shown_sync) depth 20

module _ (J : RattleType) (j : naming.Ghosts J.Denot) where
  pub reader_send : IsSend J → IsSync J → IsSend (SnapReader.the_row J j)
  reader_send sent shared =
      search (
        sendable,
        crosses,
        front_send,
        slot_send,
        slot_sync,
        part.the_send,
        seat.the_send,
        table.the_send,
        table.the_sync,
        lease.the_send,
        lease.the_sync,
      ) depth 150 fits 40000

  pub readers_send : IsSend J → IsSync J → IsSend (SnapReaders.the_row J j)
  readers_send sent shared =
      search (
        sendable,
        crosses,
        reader_send,
        slot_sync,
        part.the_send,
        table.the_send,
        table.the_sync,
        lease.the_send,
        lease.the_sync,
      ) depth 150 fits 40000

  pub writer_send : IsSend J → IsSync J → IsSend (SnapWriter.the_row J j)
  writer_send sent shared =
      search (
        sendable,
        crosses,
        slot_send,
        slot_sync,
        shown_send,
        shown_sync,
        part.the_send,
        deed.the_send,
        seat.the_send,
        table.the_send,
        table.the_sync,
        lease.the_send,
        lease.the_sync,
        word.the_send,
      ) depth 150 fits 40000
