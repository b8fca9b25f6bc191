-- What comes before a command, and the command, put together.
use Rattle.std.proofs.Common.{◌≡◌, ◌≤◌, ◌⊎◌, ⊎_elim, inl, ℕ, Bool, List, [], ◌∷◌, ◌++◌, length, refl, sym, ap, subst, ◌∙◌, append_assoc, is_some, arith}
use Rattle.commit_journal.specs.Journal.{disks_of}
use Rattle.disk_model.specs.Pair.{FaultOnEither}
use Rattle.std.specs.Prelude.{IsSome}
use Rattle.commands.specs.declared.command.Command.{Command}
use Rattle.config_core.specs.declared.event.Event.{Event}
use Rattle.config_core.specs.declared.event.Event.TheVariants.{Settle, Revert, Carry, Command as CommandOf}
use Rattle.config_core.specs.declared.event.Outcome.{Outcome}
use Rattle.config_core.specs.declared.event.Outcome.TheVariants.{Done, Fault}
use Rattle.config_core.specs.declared.reply.Reply.{Reply}
use Rattle.config_core.specs.Machine.{InFlight, Missed, Ready, Free, Waiting, waiting_of}
use Rattle.config_core.specs.Prepared.{IsSettling}
use Rattle.session_history.specs.declared.history.Happened.{Happened}
use Rattle.session_history.specs.Events.{Leads, NoCommand}
use Rattle.session_history.proofs.EventLemmas.{Leads-append}
use Rattle.config_db.specs.declared.answer.Answered.{Answered}
use Rattle.config_db.specs.declared.answer.Answered.TheVariants.{Kept, NoMemory}
use Rattle.config_db.specs.declared.answer.Ticked.{Ticked}
use Rattle.config_db.specs.declared.answer.Ticked.TheVariants.{Nothing, Settled, Reverted, Carried, DiskFault, NoMemory as TickedNoMemory}
use Rattle.active_snapshot.specs.States.{WriterView, all_published}
use Rattle.config_db.specs.View.{DatabaseView}
use Rattle.config_db.specs.Numbers.{calls_of}
use Rattle.config_db.specs.Disks.{GoesOn}
use Rattle.config_db.specs.Crash.{last_calls}
use Rattle.config_db.specs.Moves.{Extends, Happens, IsUnsettled, Settles, noted}
use Rattle.config_db.specs.Answers.{Answers, CatchesUp, Clears, ClearsBehind, DoesDue, EndsDue, IsAnswer, IsClear, IsDue, IsTaken, MakesWay, NoneCalledBehind, Takes, due_as}
use Rattle.config_db.proofs.DiskLemmas.{rose_first, rose_last}
use Rattle.config_db.proofs.FaultLemmas.{counted_command}
use Rattle.config_db.proofs.MachineLemmas.{after_due, after_failed, due_no_command, flying, settling_moves}
use Rattle.config_db.proofs.ShownLemmas.{shown_since}
use Rattle.config_db.proofs.MoveLemmas.{extends_event, extends_more, extends_none, extends_one, extends_unsettled}

-- the database with another writer
abbrev pub with_shown : DatabaseView → WriterView → DatabaseView
with_shown v w = record { journal = v.journal; opening = v.opening; users = v.users; events = v.events; state = v.state; shown = w; readers = v.readers }

-- the database with all that it keeps published
abbrev pub published : DatabaseView → DatabaseView
published v = with_shown v (all_published v.shown)

-- no disk is called where nothing happens
quiet_none : (v : DatabaseView) → NoneCalledBehind [] v.journal v.journal
quiet_none v = record { none = λ is. refl; calls = refl }

-- nor after an event
quiet_more : (u v w : DatabaseView) (e : Happened) (own : List Happened) → e.calls ≡ calls_of v.journal → NoneCalledBehind own v.journal w.journal
    → NoneCalledBehind (e ∷ own) u.journal w.journal
quiet_more u v w e own told quiet =
    record { none = λ is. absurd (let longer = ap length is in omega (arith, longer)); calls = ap (λ c. last_calls c own) told ∙ quiet.calls }

quiet_one : (v w : DatabaseView) (e : Happened) → e.calls ≡ calls_of w.journal → NoneCalledBehind (e ∷ []) v.journal w.journal
quiet_one v w e told = quiet_more v w w e [] told (quiet_none w)

module _ (caller moment : ℕ) where
  -- what was due is done: what is reported of it
  module _ (event : Event) (reply : Reply) (v w : DatabaseView) (happens : Happens caller moment event Done reply v w) where
    ends_due : EndsDue event (noted caller moment event Done (calls_of w.journal) ∷ []) v w
    ends_due = record {
      front = [];
      last = noted caller moment event Done (calls_of w.journal);
      is_own = refl;
      does = refl;
      done = refl;
      before = v.state;
      leads = refl;
      turned = happens.turns.turned;
      steps = happens.turns.steps;
      trims = happens.trims refl;
    }

    done_due : (ticked : Ticked) → v.state.greatest ≤ moment → IsDue event (waiting_of v.state moment)
        → (EndsDue event (noted caller moment event Done (calls_of w.journal) ∷ []) v w → IsClear moment w → ClearsBehind moment ticked (noted caller moment event Done (calls_of w.journal) ∷ []) v w)
        → CatchesUp caller moment ticked v w
    done_due ticked no_earlier due clears =
        let after = after_due v.state caller moment event happens.turns.turned due happens.turns.steps in
        let now : w.state.greatest ≡ moment = ap (λ s. s.greatest) happens.turns.state ∙ after.1 in
        record {
          own = noted caller moment event Done (calls_of w.journal) ∷ [];
          extends = extends_one caller moment v w event Done reply happens (λ is. absurd (cc));
          no_command = (due_no_command (waiting_of v.state moment) event due, tt);
          clears = clears ends_due (ap (λ s. waiting_of s moment) happens.turns.state ∙ after.0);
          quiet = quiet_one v w (noted caller moment event Done (calls_of w.journal)) refl;
          since = omega (arith, now, no_earlier);
          no_later = omega (arith, now);
        }

  -- what is due is done
  pub catches_due : (event : Event) (ticked : Ticked) (v w : DatabaseView) → v.state.greatest ≤ moment → IsDue event (waiting_of v.state moment) → DoesDue caller moment event ticked v w
      → CatchesUp caller moment ticked v w
  catches_due event Nothing v w no_earlier due does = absurd does
  catches_due event Settled v w no_earlier due does = absurd does
  catches_due event Reverted v w no_earlier due (is, reply, happens) =
      done_due event reply v w happens Reverted no_earlier due (λ ends clear. (subst (λ e. EndsDue e (noted caller moment event Done (calls_of w.journal) ∷ []) v w) is ends, clear))
  catches_due event Carried v w no_earlier due (is, reply, happens) =
      done_due event reply v w happens Carried no_earlier due (λ ends clear. (subst (λ e. EndsDue e (noted caller moment event Done (calls_of w.journal) ∷ []) v w) is ends, clear))
  catches_due event DiskFault v w no_earlier due (reply, happens, rose) =
      let now : w.state.greatest ≡ moment = ap (λ s. s.greatest) happens.turns.state ∙ after_failed v.state caller moment event happens.turns.turned due happens.turns.steps in
      record {
        own = noted caller moment event Fault (calls_of w.journal) ∷ [];
        extends = extends_one caller moment v w event Fault reply happens (λ is. rose);
        no_command = (due_no_command (waiting_of v.state moment) event due, tt);
        clears = (happens.failed refl, rose);
        quiet = quiet_one v w (noted caller moment event Fault (calls_of w.journal)) refl;
        since = omega (arith, now, no_earlier);
        no_later = omega (arith, now);
      }
  catches_due event TickedNoMemory v w no_earlier due same =
      subst (λ u. CatchesUp caller moment TickedNoMemory v u) (sym same)
      (record { own = []; extends = extends_none caller moment v; no_command = tt; clears = tt; quiet = quiet_none v; since = omega arith; no_later = no_earlier })

  -- what was due, by its outcome
  done_of : (w : Waiting) (event : Event) (reply : Reply) (u v : DatabaseView) → IsDue event w → Happens caller moment event Done reply u v → DoesDue caller moment event (due_as event Done) u v
  done_of (InFlight made) event reply u v due happens = absurd due
  done_of Missed event reply u v due happens = subst (λ t. DoesDue caller moment event t u v) (sym (ap (λ e. due_as e Done) due)) (due, reply, happens)
  done_of (Ready waiting) event reply u v due happens = subst (λ t. DoesDue caller moment event t u v) (sym (ap (λ e. due_as e Done) due)) (due, reply, happens)
  done_of Free event reply u v due happens = absurd due

  pub does_done : (event : Event) (reply : Reply) (v w : DatabaseView) → IsDue event (waiting_of v.state moment) → Happens caller moment event Done reply v w → DoesDue caller moment event (due_as event Done) v w
  does_done event reply v w due happens = done_of (waiting_of v.state moment) event reply v w due happens

  -- what is needed first is what is due
  way_of : (event : Event) (ticked : Ticked) (v w : DatabaseView) → DoesDue caller moment event ticked v w → CatchesUp caller moment ticked v w → MakesWay caller moment ticked v w
  way_of event Nothing v w does up = absurd does
  way_of event Settled v w does up = absurd does
  way_of event Reverted v w does up = record { own = up.own; extends = up.extends; no_command = up.no_command; clears = up.clears; since = up.since; no_later = up.no_later }
  way_of event Carried v w does up = record { own = up.own; extends = up.extends; no_command = up.no_command; clears = up.clears; since = up.since; no_later = up.no_later }
  way_of event DiskFault v w does up = record { own = up.own; extends = up.extends; no_command = up.no_command; clears = up.clears; since = up.since; no_later = up.no_later }
  way_of event TickedNoMemory v w does up = record { own = up.own; extends = up.extends; no_command = up.no_command; clears = up.quiet; since = up.since; no_later = up.no_later }

  pub way_due : (event : Event) (ticked : Ticked) (v w : DatabaseView) → v.state.greatest ≤ moment → IsDue event (waiting_of v.state moment) → DoesDue caller moment event ticked v w
      → MakesWay caller moment ticked v w
  way_due event ticked v w no_earlier due does = way_of event ticked v w does (catches_due event ticked v w no_earlier due does)

  -- nothing is done
  pub way_wanting : (v : DatabaseView) → v.state.greatest ≤ moment → MakesWay caller moment TickedNoMemory v v
  way_wanting v no_earlier = record { own = []; extends = extends_none caller moment v; no_command = tt; clears = quiet_none v; since = omega arith; no_later = no_earlier }

  -- of another database in the same state
  ends_from : (event : Event) (u v w : DatabaseView) (own : List Happened) → u.state ≡ v.state → EndsDue event own u w → EndsDue event own v w
  ends_from event u v w own same ends = record {
    front = ends.front;
    last = ends.last;
    is_own = ends.is_own;
    does = ends.does;
    done = ends.done;
    before = ends.before;
    leads = subst (λ s. Leads s ends.front ends.before) same ends.leads;
    turned = ends.turned;
    steps = ends.steps;
    trims = ends.trims;
  }

  clears_published : (ticked : Ticked) (own : List Happened) (v w : DatabaseView) → Clears moment ticked own (published v) w → Clears moment ticked own v w
  clears_published Nothing own v w clears = clears
  clears_published Settled own v w clears = clears
  clears_published Reverted own v w clears = (ends_from Revert (published v) v w own refl clears.0, clears.1)
  clears_published Carried own v w clears = (ends_from Carry (published v) v w own refl clears.0, clears.1)
  clears_published DiskFault own v w clears = clears
  clears_published TickedNoMemory own v w clears = clears

  extends_published : (v w : DatabaseView) (own : List Happened) → Extends caller moment own (published v) w → Extends caller moment own v w
  extends_published v w own extends = record {
    leads = extends.leads;
    grown = extends.grown;
    added = extends.added;
    made = extends.made;
    causes = extends.causes;
    counted = extends.counted;
    same = record { opening = extends.same.opening; users = extends.same.users };
    goes = extends.goes;
    called = extends.called;
    shown = shown_since v.shown w.shown extends.shown;
  }

  -- what was kept was published first
  pub way_published : (ticked : Ticked) (v w : DatabaseView) → MakesWay caller moment ticked (published v) w → MakesWay caller moment ticked v w
  way_published ticked v w way = record {
    own = way.own;
    extends = extends_published v w way.own way.extends;
    no_command = way.no_command;
    clears = clears_published ticked way.own v w way.clears;
    since = way.since;
    no_later = way.no_later;
  }

  -- and after a settling
  ends_behind : (event : Event) (u v w : DatabaseView) (e : Happened) (own : List Happened) → Leads u.state (e ∷ []) v.state → EndsDue event own v w → EndsDue event (e ∷ own) u w
  ends_behind event u v w e own lead ends = record {
    front = e ∷ ends.front;
    last = ends.last;
    is_own = ap (λ l. e ∷ l) ends.is_own;
    does = ends.does;
    done = ends.done;
    before = ends.before;
    leads = Leads-append u.state (e ∷ []) ends.front v.state ends.before lead ends.leads;
    turned = ends.turned;
    steps = ends.steps;
    trims = ends.trims;
  }

  -- what is after a settling, as reported of both
  behind : (ticked : Ticked) (u v w : DatabaseView) (e : Happened) (own : List Happened) → IsSettling e.event → e.outcome ≡ Done → e.calls ≡ calls_of v.journal → GoesOn u.journal v.journal
      → GoesOn v.journal w.journal → Leads u.state (e ∷ []) v.state → NoneCalledBehind own v.journal w.journal → ClearsBehind moment ticked own v w → Clears moment ticked (e ∷ own) u w
  behind Nothing u v w e own settles done told on more lead quiet clears = absurd clears
  behind Settled u v w e own settles done told on more lead quiet clears = (record { one = e; is_own = ap (λ l. e ∷ l) clears.0; settles = settles; done = done }, clears.1)
  behind Reverted u v w e own settles done told on more lead quiet clears = (ends_behind Revert u v w e own lead clears.0, clears.1)
  behind Carried u v w e own settles done told on more lead quiet clears = (ends_behind Carry u v w e own lead clears.0, clears.1)
  behind DiskFault u v w e own settles done told on more lead quiet clears = (clears.0, rose_last u.journal v.journal w.journal on more clears.1)
  behind TickedNoMemory u v w e own settles done told on more lead quiet clears = quiet_more u v w e own told quiet

  -- a settling, and what is needed after it
  pub way_settled : (ticked : Ticked) (u v w : DatabaseView) → u.state.greatest ≤ moment → IsSome u.state.flight → Settles caller moment Done u v → CatchesUp caller moment ticked v w
      → MakesWay caller moment ticked u w
  way_settled ticked u v w no_earlier some (is_kept, reply, happens) up =
      let e : Happened = noted caller moment (Settle is_kept) Done (calls_of v.journal) in
      let first = extends_one caller moment u v (Settle is_kept) Done reply happens (λ is. absurd (cc)) in
      let made = flying u.state.flight some in
      let now : v.state.greatest ≡ moment = ap (λ s. s.greatest) happens.turns.state ∙ settling_moves u.state caller moment is_kept happens.turns.turned made.0 made.1 happens.turns.steps in
      record {
        own = e ∷ up.own;
        extends = extends_more caller moment u v w (e ∷ []) up.own first up.extends;
        no_command = (refl, up.no_command);
        clears = behind ticked u v w e up.own tt refl refl happens.goes up.extends.goes first.leads up.quiet up.clears;
        since = omega (arith, now, no_earlier, up.since);
        no_later = up.no_later;
      }

  -- a settling that failed
  pub way_unsettled : (u v : DatabaseView) → u.state.greatest ≤ moment → IsSome u.state.flight → IsUnsettled u v → MakesWay caller moment DiskFault u v
  way_unsettled u v no_earlier some un =
      let same : v.state.greatest ≡ u.state.greatest = ap (λ s. s.greatest) un.state in
      record {
        own = [];
        extends = extends_unsettled caller moment u v un;
        no_command = tt;
        clears = (ap (λ s. is_some s.flight) un.state ∙ some, un.rose);
        since = omega (arith, same);
        no_later = omega (arith, same, no_earlier);
      }

  -- the command after events of this call
  behind_events : (command : Command) (place : ℕ) (reply : Reply) (why : Type 0) (u v w : DatabaseView) (own : List Happened) → Extends caller moment own u v → NoCommand own
      → u.state.greatest ≤ v.state.greatest → v.state.greatest ≤ moment
      → (why → FaultOnEither (disks_of u.journal) (disks_of v.journal) ⊎ FaultOnEither (disks_of v.journal) (disks_of w.journal)) → IsTaken caller moment command place reply why v w
      → Answers caller moment command (Kept place reply) u w
  behind_events command place reply why u v w own extends none since no_later rose taken =
      let e : Happened = noted caller moment (CommandOf command) taken.outcome (calls_of w.journal) in
      let goes = taken.happens.goes in
      let cause : taken.outcome ≡ Fault → FaultOnEither (disks_of u.journal) (disks_of w.journal) =
      λ is. ⊎_elim (λ before. rose_first u.journal v.journal w.journal before goes)
      (λ now. rose_last u.journal v.journal w.journal extends.goes goes now) (rose (taken.cause is)) in
      record {
        own = own ++ e ∷ [];
        extends = extends_event caller moment u v w own (CommandOf command) taken.outcome reply extends taken.happens cause
            (counted_command u.journal v.journal w.journal own e extends.goes goes none refl extends.counted cause);
        answer = record {
          front = own;
          last = e;
          is_own = refl;
          no_command = none;
          asks = refl;
          at_end = taken.at_end ∙ ap length extends.grown;
          before = v.state;
          leads = extends.leads;
          since = since;
          no_later = no_later;
          turned = taken.happens.turns.turned;
          steps = taken.happens.turns.steps;
          replied = taken.happens.turns.replied;
          calls = refl;
          trims = taken.happens.trims;
        };
      }

  module _ (command : Command) (ticked : Ticked) (u v w : DatabaseView) (up : CatchesUp caller moment ticked u v) where
    pub unanswered : Answers caller moment command NoMemory u v
    unanswered = record { own = up.own; extends = up.extends; answer = record { no_command = up.no_command; quiet = up.quiet } }

    -- the command after what was due, or after nothing
    pub answers : (answered : Answered) (why : Type 0) → (why → FaultOnEither (disks_of u.journal) (disks_of v.journal) ⊎ FaultOnEither (disks_of v.journal) (disks_of w.journal)) → Takes caller moment command answered why v w
        → Answers caller moment command answered u w
    answers (Kept place reply) why rose taken = behind_events command place reply why u v w up.own up.extends up.no_command up.since up.no_later rose taken
    answers NoMemory why rose same = subst (λ x. Answers caller moment command NoMemory u x) (sym same) unanswered

  -- the command after a settling that failed
  pub answers_unsettled : (command : Command) (place : ℕ) (reply : Reply) (u v w : DatabaseView) → u.state.greatest ≤ moment → IsUnsettled u v → Happens caller moment (CommandOf command) Fault reply v w
      → place ≡ length u.events → Answers caller moment command (Kept place reply) u w
  answers_unsettled command place reply u v w no_earlier un happens at_end =
      let same : v.state.greatest ≡ u.state.greatest = ap (λ s. s.greatest) un.state in
      behind_events command place reply (Unit {0}) u v w [] (extends_unsettled caller moment u v un) tt (omega (arith, same)) (omega (arith, same, no_earlier)) (λ why. inl un.rose)
      (record { outcome = Fault; happens = happens; at_end = at_end ∙ sym (ap length un.events); cause = λ is. tt })

  -- and after one that was done
  module _ (command : Command) (u v w : DatabaseView) (no_earlier : u.state.greatest ≤ moment) (some : IsSome u.state.flight) (is_kept : Bool) (said : Reply)
      (happens : Happens caller moment (Settle is_kept) Done said u v) where
    settling : Happened
    settling = noted caller moment (Settle is_kept) Done (calls_of v.journal)

    first : Extends caller moment (settling ∷ []) u v
    unfolding settling
    first = extends_one caller moment u v (Settle is_kept) Done said happens (λ is. absurd (cc))

    moved : v.state.greatest ≡ moment
    moved =
        let made = flying u.state.flight some in
        ap (λ s. s.greatest) happens.turns.state ∙ settling_moves u.state caller moment is_kept happens.turns.turned made.0 made.1 happens.turns.steps

    behind_settling : (answered : Answered) (own : List Happened) → IsAnswer caller moment command answered own v w → IsAnswer caller moment command answered (settling ∷ own) u w
    unfolding settling
    behind_settling (Kept place reply) own given = record {
      front = settling ∷ given.front;
      last = given.last;
      is_own = ap (λ l. settling ∷ l) given.is_own;
      no_command = (refl, given.no_command);
      asks = given.asks;
      at_end = given.at_end ∙ ap length (ap (λ l. l ++ given.front) happens.grown ∙ append_assoc u.events (settling ∷ []) given.front);
      before = given.before;
      leads = Leads-append u.state (settling ∷ []) given.front v.state given.before first.leads given.leads;
      since = omega (arith, moved, no_earlier, given.since);
      no_later = given.no_later;
      turned = given.turned;
      steps = given.steps;
      replied = given.replied;
      calls = given.calls;
      trims = given.trims;
    }
    behind_settling NoMemory own given = record { no_command = (refl, given.no_command); quiet = quiet_more u v w settling own refl given.quiet }

    pub answers_behind : (answered : Answered) → Answers caller moment command answered v w → Answers caller moment command answered u w
    answers_behind answered next = record {
      own = settling ∷ next.own;
      extends = extends_more caller moment u v w (settling ∷ []) next.own first next.extends;
      answer = behind_settling answered next.own next.answer;
    }

  pub answers_settled : (command : Command) (answered : Answered) (u v w : DatabaseView) → u.state.greatest ≤ moment → IsSome u.state.flight → Settles caller moment Done u v
      → Answers caller moment command answered v w → Answers caller moment command answered u w
  answers_settled command answered u v w no_earlier some (is_kept, said, happens) next = answers_behind command u v w no_earlier some is_kept said happens answered next

  -- what was kept was published first
  answer_published : (command : Command) (answered : Answered) (own : List Happened) (v w : DatabaseView) → IsAnswer caller moment command answered own (published v) w
      → IsAnswer caller moment command answered own v w
  answer_published command (Kept place reply) own v w given = record {
    front = given.front;
    last = given.last;
    is_own = given.is_own;
    no_command = given.no_command;
    asks = given.asks;
    at_end = given.at_end;
    before = given.before;
    leads = given.leads;
    since = given.since;
    no_later = given.no_later;
    turned = given.turned;
    steps = given.steps;
    replied = given.replied;
    calls = given.calls;
    trims = given.trims;
  }
  answer_published command NoMemory own v w given = record { no_command = given.no_command; quiet = given.quiet }

  pub answers_published : (command : Command) (answered : Answered) (v w : DatabaseView) → Answers caller moment command answered (published v) w
      → Answers caller moment command answered v w
  answers_published command answered v w given =
      record { own = given.own; extends = extends_published v w given.own given.extends; answer = answer_published command answered given.own v w given.answer }

  -- nothing is done
  pub answers_wanting : (command : Command) (v : DatabaseView) → Answers caller moment command NoMemory v v
  answers_wanting command v = record { own = []; extends = extends_none caller moment v; answer = record { no_command = tt; quiet = quiet_none v } }
