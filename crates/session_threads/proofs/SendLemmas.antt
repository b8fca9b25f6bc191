-- What may go to a thread.
use denote.Param.Send.{IsSend, IsSync, sendable, view_send}
use denote.Param.SendFields.{declared_send}
use denote.RattleType.{RattleType}
use Rattle.std.proofs.Crossing.{crosses}
use Rattle.std.specs.contracts.option.Option as Option
use Rattle.active_snapshot.specs.declared.book.Naming as naming
use Rattle.active_snapshot.proofs.SendLemmas.{reader_send, readers_send, writer_send}
use Rattle.active_snapshot.specs.contracts.reader.SnapReader as SnapReader
use Rattle.active_snapshot.specs.contracts.reader.SnapReaders as SnapReaders
use Rattle.active_snapshot.specs.contracts.writer.SnapWriter as SnapWriter
use Rattle.cfg_base.proofs.user.Users.TheSendSync as users
use Rattle.cfg_base.specs.contracts.user.Users as Users
use Rattle.commit_journal.proofs.journal.Journal.TheSendSync as journal
use Rattle.commit_journal.specs.contracts.journal.Journal as Journal
use Rattle.commit_ledger.proofs.ledger.Ledger.TheSendSync as ledger
use Rattle.commit_ledger.specs.contracts.ledger.Ledger as Ledger
use Rattle.config_core.proofs.core_state.Core.TheSendSync as core
use Rattle.config_core.specs.contracts.core_state.Core as Core
use Rattle.config_db.proofs.holding.Held.TheSendSync as held
use Rattle.config_db.specs.contracts.database.Database as Database
use Rattle.config_db.specs.contracts.database.Database.TheInside as DatabaseInside
use Rattle.config_db.specs.contracts.holding.Held as Held
use Rattle.disk_model.specs.declared.disk.Disk as disk
use Rattle.session_history.proofs.history.Happened.TheSendSync as happened
use Rattle.session_history.specs.contracts.history.Happened as Happened
use Rattle.session_shell.proofs.end.End.TheSendSync as end
use Rattle.session_shell.proofs.turn.How.TheSendSync as how
use Rattle.session_shell.proofs.turn.Turn.TheSendSync as turn
use Rattle.session_shell.specs.contracts.turn.TurnList as TurnList
use Rattle.trace_list.specs.contracts.trace.Trace as Trace
use Rattle.turn_lock.proofs.lock.Turns.TheSendSync as lock
use Rattle.turn_lock.proofs.pass.Pass.TheSendSync as pass
use Rattle.turn_lock.specs.contracts.lock.Turns as Turns
use Rattle.turn_lock.specs.contracts.pass.Pass as Pass
use Rattle.session_threads.specs.contracts.begun.Begun as Begun
use Rattle.session_threads.specs.contracts.noted.Noted as Noted
use Rattle.session_threads.specs.contracts.seat.Seat as Seat
use Rattle.session_threads.specs.contracts.served.Served as Served
use Rattle.session_threads.specs.contracts.served.Served.TheInside as ServedInside
use Rattle.session_threads.specs.contracts.served.ServedBook.TheImpl as book
use Rattle.session_threads.specs.contracts.waking.Waker as Waker

users_send : IsSend Users.the_row
users_send = search (sendable, crosses, users.the_send) depth 150 fits 40000

ledger_send : IsSend Ledger.the_row
ledger_send = search (sendable, crosses, ledger.the_send) depth 150 fits 40000

events_send : IsSend (Trace.the_row Happened.the_row)
events_send = search (sendable, crosses, happened.the_send) depth 150 fits 40000

turns_send : IsSend TurnList.the_row
turns_send = search (sendable, crosses, turn.the_send) depth 150 fits 40000

core_send : IsSend Core.the_row
core_send = search (sendable, crosses, core.the_send) depth 150 fits 40000

held_send : IsSend Held.the_row
held_send = search (sendable, crosses, held.the_send) depth 150 fits 40000

pub waker_send : IsSend Waker.the_row
waker_send = search (sendable, crosses) depth 150 fits 40000

module _ (D : RattleType) (d : disk.Ghosts D.Denot) where
  journal_send : IsSend D → IsSend (Journal.the_row D d)
  journal_send sent = search (sendable, crosses, journal.the_send) depth 150 fits 40000

  begun_send : IsSend (Begun.the_row D d)
  begun_send = search (sendable, crosses) depth 150 fits 40000

  -- the passes of a lock over a database
  abbrev pub pass_row : RattleType
  pass_row = Pass.the_row Noted.the_row (Begun.the_row D d)

  pub pass_send : IsSend pass_row
  pass_send = search (sendable, pass.the_send) depth 150 fits 40000

module _ (D J : RattleType) (d : disk.Ghosts D.Denot) (j : naming.Ghosts J.Denot) where
  -- each of its fields may
  database_send : IsSend D → IsSend J → IsSync J → IsSend (Database.the_row D J d j)
  database_send sent name shared =
      let journals : IsSend (Journal.the_row D d) = journal_send D d sent in
      let writers : IsSend (SnapWriter.the_row J j) = writer_send J j name shared in
      let readers : IsSend (SnapReaders.the_row J j) = readers_send J j name shared in
      view_send (DatabaseInside.the_row D J d j) _ _ _ _ (declared_send (DatabaseInside.the_type D J d j) (
        search (sendable, crosses) depth 20,
        (
          search sendable depth 20,
          (
            search (sendable, ledger_send) depth 20,
            (
              search (sendable, users_send) depth 20,
              (
                search (sendable, events_send) depth 20,
                (
                  search (sendable, core_send) depth 20,
                  (
                    search (sendable, held_send) depth 20,
                    (search sendable depth 20, (search sendable depth 20, tt)),
                  ),
                ),
              ),
            ),
          ),
        ),
      ))

  served_send : IsSend D → IsSend J → IsSync J → IsSend (Served.the_row D J d j)
  served_send sent name shared =
      let databases : IsSend (Database.the_row D J d j) = database_send sent name shared in
      view_send (ServedInside.the_row D J d j) _ _ _ _ (declared_send (ServedInside.the_type D J d j) (
        search sendable depth 20,
        (
          search (sendable, begun_send) depth 20,
          (search (sendable, crosses) depth 20, (search sendable depth 20, (search (sendable, waker_send) depth 20, tt))),
        ),
      ))

  -- the lock over a database
  abbrev pub lock_row : RattleType
  lock_row = Turns.the_row (Served.the_row D J d j) Noted.the_row (Begun.the_row D d) (book.ghosts D J d book.no_dict j book.no_dict)

  -- threads may share it
  pub lock_sync : IsSend D → IsSend J → IsSync J → IsSync lock_row
  lock_sync sent name shared =
      let served : IsSend (Served.the_row D J d j) = served_send sent name shared in
      search (sendable, lock.the_sync) depth 150 fits 40000

option_send : (R : RattleType) → IsSend R → IsSend (Option.the_row R)
option_send R sent = search sendable depth 12

module _ (S K C D J : RattleType) (d : disk.Ghosts D.Denot) (j : naming.Ghosts J.Denot) where
  -- a place for a seat over a database
  abbrev pub place_row : RattleType
  place_row = Option.the_row (Seat.the_row S K C (Begun.the_row D d) J j)

  pub place_send : IsSend S → IsSend K → IsSend C → IsSend J → IsSync J → IsSend place_row
  place_send source sink clock name shared =
      let passes : IsSend (pass_row D d) = pass_send D d in
      let readers : IsSend (SnapReader.the_row J j) = reader_send J j name shared in
      let seats : IsSend (Seat.the_row S K C (Begun.the_row D d) J j) =
      search (sendable, crosses, turns_send, end.the_send, how.the_send) depth 150 fits 40000 in
      option_send (Seat.the_row S K C (Begun.the_row D d) J j) seats
