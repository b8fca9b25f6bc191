-- What holds of every state stays so.
use Rattle.std.proofs.Common.{◌≡◌, ◌∙◌, ap, ◌≢◌, ◌⊎◌, ◌==◌, ◌+◌, ◌<◌, ◌≤◌, ℕ, zero, suc, List, Bool, true, false, if◌then◌else◌, refl, sym, subst, nat_lt, Option, None, Some, inl, inr, arith, rules}
use Rattle.std.specs.Prelude.{IsSome, IfSome, is_some, nat_le}
use Rattle.std.specs.FinMap as map
use Rattle.std.proofs.lemmas.List.Elements.{All-nil}
use Rattle.commands.specs.Sound.{IsSound}
use Rattle.commands.specs.declared.command.Command.{Command}
use Rattle.commands.specs.declared.command.LoadWay.{LoadWay}
use Rattle.commands.specs.declared.command.Op.{Op}
use Rattle.commands.specs.declared.command.Command.TheVariants.{Configure, ShowActive, ShowCommits, ClearCommit, Logout, Edit, Up, Top, Exit, ExitAll, Show, Change, Load, Rollback, CheckOnly, Commit as CommitAsked, CommitAt, Update, Status}
use Rattle.commands.specs.When.{at_of, IsTime}
use Rattle.commands.specs.declared.when.When.{When}
use Rattle.cfg_base.specs.declared.path.Step.{Step}
use Rattle.cfg_lex.specs.Printed.{IsPrintable}
use Rattle.cfg_tree.specs.Statements.{Statements}
use Rattle.commit_check.specs.Accepts.{Accepts}
use Rattle.commit_ledger.specs.declared.entry.Commit.{Commit}
use Rattle.commit_ledger.specs.declared.entry.Entry.{Entry}
use Rattle.commit_ledger.specs.declared.entry.Scheduled.{Scheduled}
use Rattle.commit_ledger.specs.declared.entry.Entry.TheVariants.{Commit as CommitOf, Confirm as ConfirmOf, Scheduled as ScheduledOf, Cleared as ClearedOf}
use Rattle.commit_ledger.specs.declared.limit.TheConstants.{MAX_ENTRIES}
use Rattle.commit_ledger.specs.Kept.{Kept, Unconfirmed, append_cleared, append_confirm, append_scheduled, factory, nth_last, carry_of, come_by, ready_in, revert_of, is_missed, is_revert_due}
use Rattle.commit_ledger.specs.Rules.{IsCarried}
use Rattle.commit_ledger.proofs.KeptLemmas.{keeps_more, target_is_kept}
use Rattle.config_core.specs.declared.event.Event.{Event}
use Rattle.config_core.specs.declared.event.Event.TheVariants.{Settle, Revert, Carry, Command as CommandOf}
use Rattle.config_core.specs.declared.event.Outcome.{Outcome}
use Rattle.config_core.specs.declared.event.Outcome.TheVariants.{Done, Fault}
use Rattle.config_core.specs.declared.effect.Maker.{Maker}
use Rattle.config_core.specs.declared.effect.Maker.TheVariants.{Command as CommandBy, Deadline}
use Rattle.config_core.specs.declared.reply.Reply.{Reply}
use Rattle.config_core.specs.Levels.{Position, is_level_at}
use Rattle.config_core.specs.State.{State, Made}
use Rattle.config_core.specs.Access.{bar_to}
use Rattle.config_core.specs.Callers.{level_of, own_of, candidate_of, without_mode}
use Rattle.config_core.specs.Entries.{carry_made, cleared_of, commit_of, confirm_of, made_by, revert_made, scheduled_of, taken}
use Rattle.config_core.specs.Serving.{Turned, exited, edited, makes, left_if, checked, Moves, IsLost, Changes, IsUnchanged, Loads, IsNotLoaded, Replaces, RollsTo, IsNotMerged, Updates, Does, Serves}
use Rattle.config_core.specs.Machine.{Waiting, InFlight, Missed, Ready, Free, ready_or_free, waiting_for, waiting_of, is_logout, settled, carried, reverted, left_by, Ends, IsPutInFlight, StepsFrom, Steps, later, Fits, IsAskable}
use Rattle.config_core.specs.Soundness.{IsSoundMade, IsSoundKept, IsSoundState, IsSoundWaiting}
use Rattle.config_core.proofs.BarLemmas.{IsUnbarred, before_last, clear_waits, commit_alone, later_alone}
use Rattle.config_core.proofs.OtherLemmas.{flying_when}
use Rattle.config_core.proofs.StepLemmas.{by_known_bar, by_bool, by_check}

-- a step leaves a state that is sound, and an entry that may be the next one, or none
abbrev Keeps : State → Turned → Type 0
Keeps s turned = IsSoundState turned.state × IfSome turned.made (IsSoundMade s.kept s.greatest)

kept_by : (s : State) (turned to : Turned) → turned ≡ to → Keeps s to → Keeps s turned
kept_by s turned to is keeps = subst (Keeps s) (sym is) keeps

either : (s : State) (b : Bool) (x y : Turned) → (b ≡ true → Keeps s x) → Keeps s y → Keeps s (if b then x else y)
either s true x y first second = first refl
either s false x y first second = second

-- one more entry
room_after : (minutes count limit : ℕ) (run : Unconfirmed) → (minutes ≢ 0 → count < limit) → IsSome (if minutes == 0 then None else Some run) → count + 1 ≤ limit
room_after zero count limit run room waits = absurd (cc)
room_after (suc n) count limit run room waits = let below = room (λ e. cc) in omega (arith, below)

numbered : (number last : ℕ) → number ≡ last + 1 → 1 ≤ number
numbered number last is = omega (arith, is)

-- a run that waits for its confirmation has no scheduled commit beside it
none_some : (pending : Option Unconfirmed) → pending ≡ None → IsSome pending → ⊥
none_some pending none some = let apart : false ≡ true = ap (λ (p : Option Unconfirmed). is_some p) (sym none) ∙ some in cc

run_alone : (kept : Kept) (scheduled : Option Scheduled) → IfSome scheduled (IsSoundWaiting kept) → IsSome kept.pending → scheduled ≡ None
run_alone kept None is run = refl
run_alone kept (Some waiting) is run = absurd (none_some kept.pending is.no_run run)

waits_alone : (kept : Kept) (scheduled : Option Scheduled) → IfSome scheduled (IsSoundWaiting kept) → IsSome scheduled → kept.pending ≡ None
waits_alone kept None is some = absurd (cc)
waits_alone kept (Some waiting) is some = is.no_run

one_more : (count limit : ℕ) → count < limit → count + 1 ≤ limit
one_more count limit below = omega (arith, below)

taken_sound : (s : State) (entry : Entry) (maker : Maker) → IsSoundState s → IsSoundMade s.kept s.greatest (record { entry = entry; maker = maker })
    → IsSoundState (taken s (record { entry = entry; maker = maker }))
taken_sound s (CommitOf commit) maker sound made = record {
  kept = record {
    maps = keeps_more Accepts s.kept (CommitOf commit) sound.kept.maps made.entry.accepted;
    number = numbered commit.number s.kept.last.number made.entry.follows.number;
    room = room_after commit.minutes s.kept.count MAX_ENTRIES _ made.entry.follows.room.1;
    waits = tt;
  };
  no_later = made.no_later;
  flight = tt;
}
taken_sound s (ConfirmOf confirm) maker sound made = record {
  kept = record {
    maps = keeps_more Accepts s.kept (ConfirmOf confirm) sound.kept.maps tt;
    number = sound.kept.number;
    room = λ waits. absurd (cc);
    waits = subst (λ (o : Option Scheduled). IfSome o (IsSoundWaiting (append_confirm s.kept confirm))) (sym (run_alone s.kept s.kept.scheduled sound.kept.waits made.entry.follows.waits)) tt;
  };
  no_later = made.no_later;
  flight = tt;
}
taken_sound s (ScheduledOf waiting) maker sound made = record {
  kept = record {
    maps = keeps_more Accepts s.kept (ScheduledOf waiting) sound.kept.maps made.entry.accepted;
    number = sound.kept.number;
    room = λ run. absurd (none_some s.kept.pending made.entry.follows.no_run run);
    waits = record {
      number = made.entry.follows.number;
      room = one_more s.kept.count MAX_ENTRIES made.entry.follows.room;
      no_run = made.entry.follows.no_run;
      comment = made.entry.comment;
    };
  };
  no_later = made.no_later;
  flight = tt;
}
taken_sound s (ClearedOf cleared) maker sound made = record {
  kept = record {
    maps = keeps_more Accepts s.kept (ClearedOf cleared) sound.kept.maps tt;
    number = sound.kept.number;
    room = λ run. absurd (none_some s.kept.pending (waits_alone s.kept s.kept.scheduled sound.kept.waits made.entry.follows.waits) run);
    waits = tt;
  };
  no_later = made.no_later;
  flight = tt;
}

dropped_sound : (s : State) → IsSoundState s → IsSoundState (record s { flight = None })
dropped_sound s sound = record { kept = sound.kept; no_later = sound.no_later; flight = tt }

settled_sound : (s : State) (made : Made) (is_kept : Bool) → IsSoundState s → IsSoundMade s.kept s.greatest made → IsSoundState (settled s made is_kept)
settled_sound s made true sound is = taken_sound s made.entry made.maker sound is
settled_sound s made false sound is = dropped_sound s sound

module _ (s : State) (sound : IsSoundState s) where
  same : (turned to : Turned) → Keeps s to → turned ≡ to → Keeps s turned
  same turned to keeps is = kept_by s turned to is keeps

  left_sound : (quit : Bool) (caller : ℕ) (t : State) → IsSoundState t → IsSoundState (left_if quit caller t)
  left_sound true caller t is = is
  left_sound false caller t is = is

  below : (count limit : ℕ) → nat_lt count limit ≡ true → count < limit
  below count limit is = search rules

  -- a command's entry
  makes_keep : (caller : ℕ) (entry : Entry) (quit : Bool) (reply : Reply)
      → (s.kept.count < MAX_ENTRIES → IsSoundMade s.kept s.greatest (made_by caller entry)) → Keeps s (makes s caller entry quit reply)
  makes_keep caller entry quit reply is =
      either s (nat_lt s.kept.count MAX_ENTRIES) _ _
      (λ room. let made = is (below s.kept.count MAX_ENTRIES room) in (left_sound quit caller (taken s (made_by caller entry)) (taken_sound s entry (CommandBy caller) sound made), made)) (sound, tt)

  -- no commit is scheduled that another one could stand in for
  none_scheduled : (commit : Commit) → s.kept.scheduled ≡ None → IfSome s.kept.scheduled (λ (waiting : Scheduled). IsCarried waiting commit)
  none_scheduled commit none = subst (λ (o : Option Scheduled). IfSome o (λ (waiting : Scheduled). IsCarried waiting commit)) (sym none) tt

  commit_is_sound : (caller : ℕ) (m : Statements) (minutes : ℕ) (comment : List ℕ) → minutes ≤ 65535 → IsPrintable comment → s.kept.scheduled ≡ None → Accepts m
      → s.kept.count < MAX_ENTRIES → IsSoundMade s.kept s.greatest (made_by caller (CommitOf (commit_of s caller m minutes comment)))
  commit_is_sound caller m minutes comment short printable none accepted room = record {
    entry = record {
      follows = record { number = refl; moment = sound.no_later; room = (search (arith, room), λ h. room); carries = none_scheduled (commit_of s caller m minutes comment) none };
      minutes = short;
      comment = printable;
      accepted = accepted;
    };
    no_later = search arith;
  }

  confirm_is_sound : (caller : ℕ) → IsSome s.kept.pending → s.kept.count < MAX_ENTRIES
      → IsSoundMade s.kept s.greatest (made_by caller (ConfirmOf (confirm_of s caller)))
  confirm_is_sound caller waits room = record {
    entry = record {
      follows = record { number = refl; moment = sound.no_later; waits = waits };
      number = sound.kept.number;
      room = search (arith, room);
    };
    no_later = search arith;
  }

  revert_is_sound : IsSome s.kept.pending → IsSoundMade s.kept s.greatest (revert_made s)
  revert_is_sound waits = record {
    entry = record {
      follows = record { number = refl; moment = sound.no_later; room = (sound.kept.room waits, λ h. absurd (h refl)); carries = none_scheduled (revert_of s.kept s.greatest) (run_alone s.kept s.kept.scheduled sound.kept.waits waits) };
      minutes = search arith;
      comment = record { short = search arith; printing = refl };
      accepted = target_is_kept Accepts s.kept sound.kept.maps;
    };
    no_later = search arith;
  }

  carry_is_sound : (waiting : Scheduled) (same : Bool) → s.kept.scheduled ≡ Some waiting → waiting.at ≤ s.greatest
      → IsSoundMade s.kept s.greatest (carry_made s waiting same)
  carry_is_sound waiting same is come =
      let waits : IsSoundWaiting s.kept waiting = subst (λ (o : Option Scheduled). IfSome o (IsSoundWaiting s.kept)) is sound.kept.waits in
      let carries : IsCarried waiting (carry_of s.kept waiting s.greatest) =
      record { user = refl; via = refl; comment = refl; tree = refl; minutes = refl; come = come }
      in
      record {
        entry = record {
          follows = record {
            number = refl;
            moment = sound.no_later;
            room = (waits.room, λ h. absurd (h refl));
            carries =
                subst (λ (o : Option Scheduled). IfSome o (λ (w : Scheduled). IsCarried w (carry_of s.kept waiting s.greatest))) (sym is) carries;
          };
          minutes = search arith;
          comment = waits.comment;
          accepted = subst (λ (o : Option Scheduled). IfSome o (λ w. Accepts w.tree)) is sound.kept.maps.waiting;
        };
        no_later = search arith;
      }

  scheduled_is_sound : (caller : ℕ) (m : Statements) (when : When) (comment : List ℕ) → IsTime when → IsPrintable comment → IsUnbarred s when → Accepts m
      → s.kept.count < MAX_ENTRIES → IsSoundMade s.kept s.greatest (made_by caller (ScheduledOf (scheduled_of s caller m (at_of when s.greatest) comment)))
  scheduled_is_sound caller m when comment time printable unbarred accepted room = record {
    entry = record {
      follows = record {
        number = refl;
        moment = sound.no_later;
        later = unbarred.later;
        within = before_last when s.greatest time unbarred.later;
        no_run = unbarred.no_run;
        alone = unbarred.alone;
        room = room;
      };
      comment = printable;
      accepted = accepted;
    };
    no_later = search arith;
  }

  cleared_is_sound : (caller : ℕ) → IsSome s.kept.scheduled → s.kept.count < MAX_ENTRIES
      → IsSoundMade s.kept s.greatest (made_by caller (ClearedOf (cleared_of s caller)))
  cleared_is_sound caller waits room = record {
    entry = record {
      follows = record { number = refl; moment = sound.no_later; waits = waits };
      number = search arith;
      room = search (arith, room);
    };
    no_later = search arith;
  }

  checked_keeps : (caller : ℕ) (pending : Option Unconfirmed) → s.kept.pending ≡ pending → Keeps s (checked s caller pending)
  checked_keeps caller None is = (sound, tt)
  checked_keeps caller (Some run) is =
      makes_keep caller (ConfirmOf (confirm_of s caller)) false _ (confirm_is_sound caller (subst IsSome (sym is) refl))

  exited_keeps : (caller : ℕ) (back : Option Position) → Keeps s (exited s caller back)
  exited_keeps caller None = (sound, tt)
  exited_keeps caller (Some position) = (sound, tt)

  edited_keeps : (caller : ℕ) (path : List Step) → Keeps s (edited s caller path)
  edited_keeps caller path = either s (is_level_at path) _ _ (λ e. (sound, tt)) (sound, tt)

  module _ (caller : ℕ) (turned : Turned) where
    rolls_keep : (n : ℕ) (commit : Option Commit) → RollsTo s caller n commit turned → Keeps s turned
    rolls_keep n None rolls = same turned _ (sound, tt) rolls
    rolls_keep n (Some commit) rolls =
        by_bool (n == 0) _ _ (Keeps s turned) (same turned _ (sound, tt)) (λ (r : Replaces s caller commit.tree turned). same turned _ (sound, tt) r.is) rolls

    moves_keep : (asked : List (List ℕ)) → Moves s caller asked turned ⊎ IsLost s (level_of s caller) asked turned → Keeps s turned
    moves_keep asked (inl moves) = same turned _ (edited_keeps caller moves.target.path) moves.is
    moves_keep asked (inr lost) = same turned _ (sound, tt) lost.is

    changes_keep : (op : Op) → Changes s caller op turned ⊎ IsUnchanged s caller op turned → Keeps s turned
    changes_keep op (inl changes) = same turned _ (sound, tt) changes.is
    changes_keep op (inr unchanged) = same turned _ (sound, tt) unchanged.is

    loads_keep : (way : LoadWay) (text : List ℕ) → Loads s caller way text turned ⊎ IsNotLoaded s caller way text turned → Keeps s turned
    loads_keep way text (inl loads) = same turned _ (sound, tt) loads.replaces.is
    loads_keep way text (inr fault) = same turned _ (sound, tt) fault.is

    updates_keep : Updates s caller turned ⊎ IsNotMerged s (candidate_of s caller) turned → Keeps s turned
    updates_keep (inl updates) = same turned _ (sound, tt) updates.is
    updates_keep (inr unmerged) = same turned _ (sound, tt) unmerged.is

    does_keep : (command : Command) → IsSound command → bar_to s caller command ≡ None → Does s caller command turned → Keeps s turned
    does_keep (Configure mode) is unbarred = same turned _ (sound, tt)
    does_keep (ShowActive asked form) is unbarred = λ shows. same turned _ (sound, tt) shows.is
    does_keep ShowCommits is unbarred = λ lists. same turned _ (sound, tt) lists.is
    does_keep Logout is unbarred = same turned _ (sound, tt)
    does_keep (Edit asked) is unbarred = moves_keep asked
    does_keep (Up count) is unbarred = same turned _ (sound, tt)
    does_keep Top is unbarred = same turned _ (sound, tt)
    does_keep Exit is unbarred = same turned _ (exited_keeps caller _)
    does_keep ExitAll is unbarred = same turned _ (sound, tt)
    does_keep (Show asked form) is unbarred = λ shows. same turned _ (sound, tt) shows.is
    does_keep (Change op) is unbarred = changes_keep op
    does_keep (Load way text) is unbarred = loads_keep way text
    does_keep (Rollback n) is unbarred = rolls_keep n (nth_last s.kept n)
    does_keep CheckOnly is unbarred =
        by_check s (own_of s caller) turned _ (Keeps s) (λ m accepted. checked_keeps caller s.kept.pending refl) (λ refusal. (sound, tt))
    does_keep (CommitAsked minutes comment quit) is unbarred =
        by_check s (own_of s caller) turned _ (Keeps s) (λ m accepted.
        makes_keep caller (CommitOf (commit_of s caller m minutes comment)) quit _ (commit_is_sound caller m minutes comment is.0 is.1 (commit_alone s caller minutes comment quit unbarred) accepted))
        (λ refusal. (sound, tt))
    does_keep (CommitAt when comment) is unbarred =
        by_check s (own_of s caller) turned _ (Keeps s) (λ m accepted.
        makes_keep caller (ScheduledOf (scheduled_of s caller m (at_of when s.greatest) comment)) false _
        (scheduled_is_sound caller m when comment is.0 is.1 (later_alone s caller when comment unbarred) accepted))
        (λ refusal. (sound, tt))
    does_keep ClearCommit is unbarred =
        same turned _ (makes_keep caller (ClearedOf (cleared_of s caller)) false _ (cleared_is_sound caller (clear_waits s caller unbarred)))
    does_keep Update is unbarred = updates_keep
    does_keep Status is unbarred = same turned _ (sound, tt)

    serves_keep : (command : Command) → IsSound command → Serves s caller command turned → Keeps s turned
    serves_keep command is = by_known_bar (bar_to s caller command) s turned _ _ (λ refusal. same turned _ (sound, tt)) (does_keep command is)

  -- what was to be done, or what is in flight in its place
  put_keeps : (done turned : Turned) → Keeps s done → IsPutInFlight s done turned → Keeps s turned
  put_keeps done turned keeps put =
      same turned _ ((record { kept = sound.kept; no_later = sound.no_later; flight = made }), made) put.is
    where
      made : IsSoundMade s.kept s.greatest put.made
      made = subst (λ (o : Option Made). IfSome o (IsSoundMade s.kept s.greatest)) put.makes keeps.1

  ends_keep : (outcome : Outcome) (done turned : Turned) → Keeps s done → Ends outcome s done turned → Keeps s turned
  ends_keep Done done turned keeps is = same turned done keeps is
  ends_keep Fault done turned keeps put = put_keeps done turned keeps put

  left_keeps : (caller : ℕ) (command : Command) → IsSoundState (left_by s caller command)
  left_keeps caller command = go (is_logout command)
    where
      go : (b : Bool) → IsSoundState (if b then without_mode s caller else s)
      go true = sound
      go false = sound

  in_flight_sound : (made : Made) → s.flight ≡ Some made → IsSoundMade s.kept s.greatest made
  in_flight_sound made is = subst (λ (o : Option Made). IfSome o (IsSoundMade s.kept s.greatest)) is sound.flight

  from_keeps : (waiting : Waiting) (caller : ℕ) (event : Event) (outcome : Outcome) (turned : Turned)
      → ((made : Made) → waiting ≡ InFlight made → s.flight ≡ Some made) → (waiting ≡ Missed → IsSome s.kept.pending)
      → ((w : Scheduled) → waiting ≡ Ready w → (s.kept.scheduled ≡ Some w) × (w.at ≤ s.greatest)) → IsAskable s caller event
      → StepsFrom waiting s caller event outcome turned → Keeps s turned
  from_keeps (InFlight made) caller (Settle is_kept) Done turned flying waits comes askable is =
      same turned _ (settled_sound s made is_kept sound (in_flight_sound made (flying made refl)), tt) is
  from_keeps (InFlight made) caller (CommandOf command) Fault turned flying waits comes askable is = same turned _ (left_keeps caller command, tt) is
  from_keeps (InFlight made) caller (Settle is_kept) Fault turned flying waits comes askable is = absurd is
  from_keeps (InFlight made) caller (CommandOf command) Done turned flying waits comes askable is = absurd is
  from_keeps (InFlight made) caller Revert outcome turned flying waits comes askable is = absurd is
  from_keeps (InFlight made) caller Carry outcome turned flying waits comes askable is = absurd is
  from_keeps Missed caller Revert outcome turned flying waits comes askable is =
      let made = revert_is_sound (waits refl) in
      ends_keep outcome (reverted s) turned (taken_sound s (revert_made s).entry Deadline sound made, made) is
  from_keeps Missed caller (Settle is_kept) outcome turned flying waits comes askable is = absurd is
  from_keeps Missed caller (CommandOf command) outcome turned flying waits comes askable is = absurd is
  from_keeps Missed caller Carry outcome turned flying waits comes askable is = absurd is
  from_keeps (Ready w) caller Carry outcome turned flying waits comes askable is =
      let come = comes w refl in
      let made = carry_is_sound w is.same come.0 come.1 in
      ends_keep outcome (carried s w is.same) turned (taken_sound s (carry_made s w is.same).entry (carry_made s w is.same).maker sound made, made) is.ends
  from_keeps (Ready w) caller (Settle is_kept) outcome turned flying waits comes askable is = absurd is
  from_keeps (Ready w) caller Revert outcome turned flying waits comes askable is = absurd is
  from_keeps (Ready w) caller (CommandOf command) outcome turned flying waits comes askable is = absurd is
  from_keeps Free caller (CommandOf command) outcome turned flying waits comes askable is =
      ends_keep outcome is.done turned (serves_keep caller is.done command askable.1 is.serves) is.ends
  from_keeps Free caller (Settle is_kept) outcome turned flying waits comes askable is = absurd is
  from_keeps Free caller Revert outcome turned flying waits comes askable is = absurd is
  from_keeps Free caller Carry outcome turned flying waits comes askable is = absurd is

-- the list that every list begins with
pub factory_sound : Accepts map.empty → IsSoundKept factory
factory_sound accepted = record {
  maps = record { last = accepted; older = All-nil _; target = tt; waiting = tt };
  number = search arith;
  room = λ waits. absurd (cc);
  waits = tt;
}

-- what stands before the next command
pending_when : (flight : Option Made) (pending : Option Unconfirmed) (moment : ℕ) (ready : Option Scheduled)
    → waiting_for flight (is_missed pending moment) ready ≡ Missed → IsSome pending
pending_when (Some one) pending moment ready is = absurd (cc)
pending_when None None moment None is = absurd (cc)
pending_when None None moment (Some w) is = absurd (cc)
pending_when None (Some run) moment ready is = refl

at_most : (n m : ℕ) → nat_le n m ≡ true → n ≤ m
at_most n m is = search rules

came : (one w : Scheduled) (moment : ℕ) (b : Bool) → nat_le one.at moment ≡ b → ready_or_free (if b then Some one else None) ≡ Ready w
    → (Some one ≡ Some w) × (w.at ≤ moment)
came one w moment true come is =
    let same : one ≡ w = cc in
    (ap Some same, subst (λ (x : Scheduled). x.at ≤ moment) same (at_most one.at moment come))
came one w moment false come is = absurd (cc)

ready_when : (flight : Option Made) (missed : Bool) (scheduled : Option Scheduled) (moment : ℕ) (w : Scheduled)
    → waiting_for flight missed (come_by moment scheduled) ≡ Ready w → (scheduled ≡ Some w) × (w.at ≤ moment)
ready_when (Some one) missed scheduled moment w is = absurd (cc)
ready_when None true scheduled moment w is = absurd (cc)
ready_when None false None moment w is = absurd (cc)
ready_when None false (Some one) moment w is = came one w moment (nat_le one.at moment) refl is

-- at a later moment
made_later : (kept : Kept) (greatest moment : ℕ) (flight : Option Made) → greatest ≤ moment → IfSome flight (IsSoundMade kept greatest)
    → IfSome flight (IsSoundMade kept moment)
made_later kept greatest moment None no_earlier is = tt
made_later kept greatest moment (Some made) no_earlier is = record { entry = is.entry; no_later = search (arith, is.no_later, no_earlier) }

later_sound : (s : State) (moment : ℕ) → s.greatest ≤ moment → IsSoundState s → IsSoundState (later s moment)
later_sound s moment no_earlier sound = record {
  kept = sound.kept;
  no_later = search (arith, sound.no_later, no_earlier);
  flight = made_later s.kept s.greatest moment s.flight no_earlier sound.flight;
}

askable_later : (s : State) (caller moment : ℕ) (event : Event) → IsAskable s caller event → IsAskable (later s moment) caller event
askable_later s caller moment (Settle is_kept) is = is
askable_later s caller moment Revert is = is
askable_later s caller moment Carry is = is
askable_later s caller moment (CommandOf command) is = is

pub steps_keep : (s : State) (caller moment : ℕ) (event : Event) (outcome : Outcome) (turned : Turned) → IsSoundState s → Fits s caller moment event
    → Steps s caller moment event outcome turned → IsSoundState turned.state × IfSome turned.made (IsSoundMade s.kept moment)
steps_keep s caller moment event outcome turned sound fits steps =
    from_keeps (later s moment) (later_sound s moment fits.no_earlier sound) (waiting_of s moment) caller event outcome turned
    (flying_when s.flight (is_revert_due s.kept moment) (ready_in s.kept moment)) (pending_when s.flight s.kept.pending moment (ready_in s.kept moment))
    (ready_when s.flight (is_revert_due s.kept moment) s.kept.scheduled moment) (askable_later s caller moment event fits.askable) steps
