-- A session over what its caller knows stays one as the run's history goes on.
use Rattle.std.proofs.Common.{ℕ, List, [], ◌∷◌, ◌++◌, inl, inr}
use Rattle.access_rules.specs.declared.right.Right.{Right}
use Rattle.commands.specs.declared.command.Command.{Command}
use Rattle.commit_ledger.specs.Kept.{Kept}
use Rattle.session_history.specs.declared.history.Happened.{Happened}
use Rattle.session_history.proofs.KeptLemmas.{WasKept-append}
use Rattle.session_shell.specs.declared.door.Given0.{Given0}
use Rattle.session_shell.specs.declared.door.Given0.TheVariants.{Kept as KeptAt, Seen, Denied, Unready, NoMemory}
use Rattle.session_shell.specs.declared.turn.How.{How}
use Rattle.session_shell.specs.declared.turn.Turn.{Turn}
use Rattle.session_shell.specs.Exchange.{Exchange, Asked as AskedOf, Refused, Wanted}
use Rattle.session_shell.specs.Transcript.{EndView, GoesBy, IsSession}
use Rattle.session_threads.specs.Access.{Asker}
use Rattle.session_threads.specs.History.{FollowsAsked, FollowsDenied, FollowsRefused, FollowsView, HasMissed, IsKeptThen, Known}
use Rattle.session_threads.specs.Syncs.{WithoutBackup}

module _ (asker : Asker) (final more : List Happened) where
  missed_later : (least answer : ℕ) → HasMissed asker.opening final least answer
      → HasMissed asker.opening (final ++ more) least answer
  missed_later least answer missed = record {
    kept = missed.kept;
    was_kept = WasKept-append asker.opening final more missed.kept missed.was_kept;
    reached = missed.reached;
    due = missed.due;
  }

  then_later : (front : ℕ) (kept : Kept) → IsKeptThen asker.opening final front kept
      → IsKeptThen asker.opening (final ++ more) front kept
  then_later front kept was = (WasKept-append asker.opening final more kept was.0, was.1)

  view_later : (d : Known) (answer front : ℕ) (e : Known) → FollowsView asker.opening final d answer front e
      → FollowsView asker.opening (final ++ more) d answer front e
  view_later d answer front e view = record {
    same = view.same;
    reached = view.reached;
    is_front = view.is_front;
    kept = view.kept;
    was_kept = then_later front view.kept view.was_kept;
    not_due = view.not_due;
  }

  refused_later : (d : Known) (command : Command) (answer front : ℕ) (e : Known)
      → FollowsRefused asker final d command answer front e → FollowsRefused asker (final ++ more) d command answer front e
  refused_later d command answer front e refused = record {
    turn = refused.turn;
    reached = refused.reached;
    is_front = refused.is_front;
    kept = refused.kept;
    was_kept = then_later front refused.kept refused.was_kept;
    missed = λ show. missed_later d.front answer (refused.missed show);
  }

  denied_later : (d : Known) (command : Command) (answer front : ℕ) (right : Right) (e : Known)
      → FollowsDenied asker final d command answer front right e → FollowsDenied asker (final ++ more) d command answer front right e
  unfolding view_later
  denied_later d command answer front right e (inl turned) = inl (refused_later d command answer front e turned.0, turned.1)
  denied_later d command answer front right e (inr hidden) = inr (record {
    is_show = hidden.is_show;
    view = view_later d answer front e hidden.view;
    denied = hidden.denied;
  })

  -- one ask
  pub Follows-later : (d : Known) (command : Command) (answer : ℕ) (given : Given0) (e : Known)
      → FollowsAsked asker final d command answer given e → FollowsAsked asker (final ++ more) d command answer given e
  unfolding view_later
  Follows-later d command answer (KeptAt place reply) e follows = record {
    turn = follows.turn;
    allowed = follows.allowed;
    after = follows.after;
    leads = follows.leads;
    front = follows.front;
    missed = λ is. missed_later d.front answer (follows.missed is);
  }
  Follows-later d command answer (Seen front reply) e follows = record {
    view = view_later d answer front e follows.view;
    shows = follows.shows;
    allowed = follows.allowed;
  }
  Follows-later d command answer (Denied front right) e follows = denied_later d command answer front right e follows
  Follows-later d command answer (Unready front) e follows = (refused_later d command answer front e follows.0, follows.1)
  Follows-later d command answer NoMemory e follows = follows

  goes_later : (exchanges : List Exchange) (d e : Known) → GoesBy (FollowsAsked asker final) WithoutBackup exchanges d e
      → GoesBy (FollowsAsked asker (final ++ more)) WithoutBackup exchanges d e
  goes_later [] d e goes = goes
  goes_later (AskedOf moment command given manner ∷ exchanges) d e goes =
      (goes.0, Follows-later d command moment given goes.0 goes.1, goes.2, goes.3, goes_later exchanges goes.2 e goes.4)
  goes_later (Refused moment fault ∷ exchanges) d e goes = goes_later exchanges d e goes
  goes_later (Wanted moment ∷ exchanges) d e goes = goes_later exchanges d e goes

  -- a session
  pub IsSession-later : (limit : ℕ) (how : How) (turns : List Turn) (old new : EndView) (d e : Known)
      → IsSession (FollowsAsked asker final) WithoutBackup limit how turns old new d e
      → IsSession (FollowsAsked asker (final ++ more)) WithoutBackup limit how turns old new d e
  IsSession-later limit how turns old new d e s = record {
    transcript = record {
      lines = s.transcript.lines;
      asked = s.transcript.asked;
      final = s.transcript.final;
      reading = s.transcript.reading;
      reads = s.transcript.reads;
      input = s.transcript.input;
      logs_out = s.transcript.logs_out;
      turns = record {
        moments = s.transcript.turns.moments;
        turned = s.transcript.turns.turned;
        asked = goes_later (s.transcript.asked ++ s.transcript.final) d e s.transcript.turns.asked;
        written = s.transcript.turns.written;
      };
      texts = s.transcript.texts;
    };
    user = s.user;
    source_cause = s.source_cause;
    sink_cause = s.sink_cause;
  }
