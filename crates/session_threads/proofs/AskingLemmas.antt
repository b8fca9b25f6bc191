-- What one ask makes of the database under the lock.
use Rattle.std.proofs.Common.{◌≡◌, ◌<◌, ◌≤◌, ◌+◌, ◌&&◌, ℕ, Bool, true, false, List, [], ◌∷◌, ◌++◌, length, max, take, cond}
use Rattle.std.proofs.Common.{inl, inr, Option, None, Some, Result, Ok, Err, refl, sym, ap, subst, ◌∙◌, append_assoc, arith}
use Rattle.std.specs.Prelude.{count_by, ⊤}
use Rattle.std.specs.List.{AllByRecursion}
use Rattle.std.proofs.lemmas.Bool.{false≢true}
use Rattle.std.proofs.lemmas.List.{append-nil, length-append, map-append}
use Rattle.std.proofs.lemmas.List.Sums.{sum_by-append}
use Rattle.std.proofs.Math.Seq.{take-append_seam}
use Rattle.access_rules.specs.Needs.{Allows, first_missing, needs_of}
use Rattle.access_rules.specs.declared.fault.AccessFault.{AccessFault}
use Rattle.access_rules.specs.declared.fault.AccessFault.TheVariants.{Denied as Lacking, NoMemory as WantingRights}
use Rattle.access_rules.specs.Rights.{rights_of}
use Rattle.access_rules.specs.declared.right.Right.{Right}
use Rattle.cfg_base.specs.declared.path.Step.{Step}
use Rattle.cfg_tree.specs.Full.{Expansion}
use Rattle.cfg_tree.specs.Statements.{Statements}
use Rattle.commands.specs.declared.command.Command.{Command}
use Rattle.commit_journal.specs.Journal.{disks_of}
use Rattle.commit_ledger.specs.Kept.{Kept as KeptList, active_of}
use Rattle.config_core.specs.declared.caller.Caller.{Caller}
use Rattle.config_core.specs.declared.event.Event.{Event}
use Rattle.config_core.specs.declared.event.Event.TheVariants.{Settle, Revert, Carry, Command as CommandOf}
use Rattle.config_core.specs.declared.event.Outcome.{Outcome}
use Rattle.config_core.specs.Callers.{caller_of, level_of}
use Rattle.config_core.specs.Machine.{IsNotAskedBy, Steps}
use Rattle.config_core.specs.Serving.{Turned}
use Rattle.config_core.specs.State.{State}
use Rattle.config_db.specs.declared.answer.Answered.{Answered}
use Rattle.config_db.specs.declared.answer.Answered.TheVariants.{Kept, NoMemory}
use Rattle.config_db.specs.declared.answer.Ticked.{Ticked}
use Rattle.config_db.specs.declared.answer.Ticked.TheVariants.{DiskFault, NoMemory as TickedNoMemory}
use Rattle.config_db.specs.Answers.{IsClear, MakesWay, moment_at}
use Rattle.config_db.specs.Faults.{RoseBy, is_failed_command, is_fault}
use Rattle.config_db.specs.Moves.{Extends}
use Rattle.config_db.specs.View.{DatabaseView, opened}
use Rattle.config_db.proofs.CalledLemmas.{called_none}
use Rattle.config_db.proofs.DiskLemmas.{goes_nowhere}
use Rattle.config_db.proofs.FaultLemmas.{counted_none}
use Rattle.disk_model.specs.Pair.{DiskPair, FaultOnEither, NoneFell}
use Rattle.group_expand.specs.Expansion.{IsExpansion}
use Rattle.session_history.specs.declared.history.Happened.{Happened}
use Rattle.session_history.specs.Events.{Leads, NoCommand, is_command, places_of, IsEventOf}
use Rattle.session_history.proofs.EventLemmas.{no_places, places_of-append}
use Rattle.session_shell.specs.declared.door.Given0.{Given0}
use Rattle.session_shell.specs.declared.door.Given0.TheVariants.{Denied, Unready, NoMemory as Wanting}
use Rattle.turn_lock.specs.Histories.{AddsOwn}
use Rattle.session_threads.specs.declared.asking.Readied.TheVariants.{Ready, Unready as NotReady, NoMemory as NotTried}
use Rattle.session_threads.specs.declared.noted.Note.{Note}
use Rattle.session_threads.specs.declared.noted.Noted.{Noted}
use Rattle.session_threads.specs.declared.noted.Noted.TheVariants.{Unready as NoteOf}
use Rattle.session_threads.specs.Access.{Finds, IsAllowed, IsDenied, IsFree, IsJudged, NeedsRight}
use Rattle.session_threads.specs.Adding.{answered_of, given_of}
use Rattle.session_threads.specs.Asking.{Asks, Puts, Readies, asker_at, history_of}
use Rattle.session_threads.specs.History.{IsTurn, places_answered}
use Rattle.session_threads.specs.Noted.{caller_in, callers_of, merged, notes_of}
use Rattle.session_threads.specs.Passes.{FollowsAlone, notes_given}
use Rattle.session_threads.specs.Served.{IsUnderway, ServedView}
use Rattle.session_threads.proofs.ListLemmas.{All-append}
use Rattle.session_threads.proofs.LogLemmas.{AddsOwn-of, FollowsAlone-of, IsUnderway-then, asked_leads, rose_on}
use Rattle.session_threads.proofs.NotedLemmas.{merged-more_notes, notes_of-merged}

-- what a caller added, and then more of it
AddsOwn-then : (caller : ℕ) (a b c : List Noted) → AddsOwn caller_in caller a b → AddsOwn caller_in caller b c
    → AddsOwn caller_in caller a c
AddsOwn-then caller a b c first next = (
  first.0 ++ next.0,
  next.1 ∙ ap (λ l. l ++ next.0) first.1 ∙ append_assoc a first.0 next.0,
  All-append (λ (entry : Noted). caller_in entry ≡ caller) first.0 next.0 first.2 next.2,
)

-- a settling, a revert or a scheduled commit is nobody's command
not_asked : (other caller : ℕ) (event : Event) → is_command event ≡ false → IsNotAskedBy other caller event
not_asked other caller (Settle is_kept) is = tt
not_asked other caller Revert is = tt
not_asked other caller Carry is = tt
not_asked other caller (CommandOf command) is = absurd (false≢true (sym is))

-- so it moves no caller's level
level_stays : ((s : State) (caller other moment : ℕ) (event : Event) (outcome : Outcome) (turned : Turned) → 0 < other
    → IsNotAskedBy other caller event → Steps s caller moment event outcome turned → caller_of turned.state other ≡ caller_of s other)
    → (caller : ℕ) → 0 < caller → (s last : State) (events : List Happened) → NoCommand events → Leads s events last
    → level_of last caller ≡ level_of s caller
level_stays stays caller some s last [] none leads = ap (λ (x : State). level_of x caller) leads
level_stays stays caller some s last (event ∷ events) none leads =
    level_stays stays caller some leads.1.state last events none.1 leads.3
    ∙ ap (λ (c : Caller). c.position.level)
    (stays s event.caller caller event.moment event.event event.outcome leads.1 some (not_asked caller event.caller event.event none.0)
    leads.2)

-- a command that needs no right is allowed
free_allowed : (asks : Option (List ℕ)) (kept : KeptList) (level : List Step) (command : Command) → IsFree asks level command
    → IsAllowed asks kept level command
free_allowed None kept level command free = tt
free_allowed (Some user) kept level command free = λ full is. ap (first_missing (rights_of full user)) free

-- what is found by one expansion is found, since there is one
pub finds_of : ((m : Statements) (full other : Expansion) → IsExpansion m full → IsExpansion m other → full ≡ other)
    → (kept : KeptList) (user : List ℕ) (level : List Step) (command : Command) (full : Expansion) → IsExpansion (active_of kept) full
    → (found : Result ⊤ AccessFault) → Allows (rights_of full user) level command found → Finds (Some user) kept level command found
finds_of one kept user level command full is (Ok done) allows = λ other other_is.
    subst (λ f. first_missing (rights_of f user) (needs_of level command) ≡ None) (one (active_of kept) full other is other_is) allows
finds_of one kept user level command full is (Err (Lacking right)) allows = λ other other_is.
    subst (λ f. first_missing (rights_of f user) (needs_of level command) ≡ Some right) (one (active_of kept) full other is other_is)
    allows
finds_of one kept user level command full is (Err WantingRights) allows = tt

-- what was given is what was answered
answered_again : (answered : Answered) → answered_of (given_of answered) ≡ answered
answered_again (Kept place reply) = refl
answered_again NoMemory = refl

-- the database's answers write no note
no_note : (caller : ℕ) (answered : Answered) → notes_given caller (given_of answered) ≡ []
no_note caller (Kept place reply) = refl
no_note caller NoMemory = refl

-- the same notes among other events
same_notes : (v v' : ServedView) (more : List ℕ) → v'.notes ≡ v.notes → more ≡ []
    → notes_of (history_of v') ≡ notes_of (history_of v) ++ more
same_notes v v' more same none =
    notes_of-merged 0 v'.database.events v'.notes ∙ ap callers_of same ∙ sym (notes_of-merged 0 v.database.events v.notes)
    ∙ sym (append-nil (notes_of (history_of v))) ∙ ap (λ l. notes_of (history_of v) ++ l) (sym none)

-- the events of one turn are the caller's
adds_events : (caller moment : ℕ) (own : List Happened) (v v' : ServedView) → IsUnderway v
    → Extends caller moment own v.database v'.database → v'.notes ≡ v.notes
    → AddsOwn caller_in caller (history_of v) (history_of v')
adds_events caller moment own v v' underway extends same =
    subst (λ n. AddsOwn caller_in caller (history_of v) (merged 0 v'.database.events n)) (sym same)
    (AddsOwn-of caller moment own v.notes v.first v.database v'.database extends underway.up_to)

module _ (v v' : ServedView) (caller answer : ℕ) (asks : Option (List ℕ)) (command : Command) (answered : Answered)
    (underway : IsUnderway v) (put : Puts caller answer command answered v v') where
  -- the database was asked a command of which that was found
  pub Asks-put : IsJudged (asker_at v.first caller asks) v'.database.events command (given_of answered)
      → Asks (asker_at v.first caller asks) command answer (given_of answered) v v'
  Asks-put judged = record {
    first = put.first;
    follows = subst (λ a. FollowsAlone v.first caller v.database.events command answer a v'.database.events)
        (sym (answered_again answered))
        (FollowsAlone-of v.first v.database v'.database caller answer command answered underway.leads put.answers);
    judged = judged;
    adds = adds_events caller (moment_at answer v.database) put.answers.own v v' underway put.answers.extends put.notes;
    noted = same_notes v v' (notes_given caller (given_of answered)) put.notes (no_note caller answered);
  }

-- a command that is free at the caller's level is free in the state before its event
pub judged_free : ((s : State) (caller other moment : ℕ) (event : Event) (outcome : Outcome) (turned : Turned) → 0 < other
    → IsNotAskedBy other caller event → Steps s caller moment event outcome turned → caller_of turned.state other ≡ caller_of s other)
    → (v v' : ServedView) (caller answer : ℕ) (asks : Option (List ℕ)) (command : Command) (answered : Answered) → 0 < caller
    → IsUnderway v → Puts caller answer command answered v v' → IsFree asks (level_of v.database.state caller) command
    → IsJudged (asker_at v.first caller asks) v'.database.events command (given_of answered)
judged_free stays v v' caller answer asks command (Kept place reply) some underway put free =
    let given = put.answers.answer in
    record {
      before = given.before;
      leads = subst (λ l. Leads (opened v.first) (take place l) given.before) (sym put.answers.extends.grown)
          (asked_leads (opened v.first) caller (moment_at answer v.database) command place reply put.answers.own v.database v'.database
          underway.leads given);
      allowed = free_allowed asks given.before.kept (level_of given.before caller) command
          (subst (λ l. IsFree asks l command)
          (sym (level_stays stays caller some v.database.state given.before given.front given.no_command given.leads)) free);
    }
judged_free stays v v' caller answer asks command NoMemory some underway put free = tt

-- a command that is allowed where nothing comes before it is allowed in the state before its event
pub judged_ready : (v v' : ServedView) (caller answer : ℕ) (asks : Option (List ℕ)) (command : Command) (answered : Answered)
    → IsUnderway v → Puts caller answer command answered v v' → IsClear (moment_at answer v.database) v.database
    → IsAllowed asks v.database.state.kept (level_of v.database.state caller) command
    → IsJudged (asker_at v.first caller asks) v'.database.events command (given_of answered)
judged_ready v v' caller answer asks command (Kept place reply) underway put clear allowed =
    let next = put.next clear in
    record {
      before = v.database.state;
      leads = subst (λ l. Leads (opened v.first) l v.database.state)
          (sym (ap (λ p. take p v'.database.events) next.0 ∙ ap (take (length v.database.events)) put.answers.extends.grown
          ∙ take-append_seam v.database.events put.answers.own)) underway.leads;
      allowed = allowed;
    }
judged_ready v v' caller answer asks command NoMemory underway put clear allowed = tt

-- nothing happened
FollowsAlone-none : (first : DatabaseView) (caller answer : ℕ) (events : List Happened) (command : Command) (s : State)
    → Leads (opened first) events s → FollowsAlone first caller events command answer NoMemory events
FollowsAlone-none first caller answer events command s leads = record {
  follows = record {
    grows = record {
      others = [];
      own = [];
      grown = sym (append-nil events);
      not_own = tt;
      before = s;
      leads = subst (λ l. Leads (opened first) l s) (sym (append-nil events)) leads;
      made = tt;
    };
    named = tt;
    turn = tt;
    places = sym (append-nil (places_of caller events));
  };
  alone = refl;
}

-- a command was not asked, for the reason that is given, and nothing happened
pub Asks-none : (v : ServedView) (caller answer : ℕ) (asks : Option (List ℕ)) (command : Command) (given : Given0) → IsUnderway v
    → answered_of given ≡ NoMemory → notes_given caller given ≡ []
    → IsJudged (asker_at v.first caller asks) v.database.events command given
    → Asks (asker_at v.first caller asks) command answer given v v
Asks-none v caller answer asks command given underway unasked none judged = record {
  first = refl;
  follows = subst (λ a. FollowsAlone v.first caller v.database.events command answer a v.database.events) (sym unasked)
      (FollowsAlone-none v.first caller answer v.database.events command v.database.state underway.leads);
  judged = judged;
  adds = ([], sym (append-nil (history_of v)), tt);
  noted = same_notes v v (notes_given caller given) refl none;
}

-- a command was denied before which nothing comes
pub Asks-denied : (v : ServedView) (caller answer front : ℕ) (asks : Option (List ℕ)) (command : Command) (right : Right)
    → IsUnderway v → front ≡ v.database.state.kept.count
    → IsDenied asks v.database.state.kept (level_of v.database.state caller) command right
    → Asks (asker_at v.first caller asks) command answer (Denied front right) v v
Asks-denied v caller answer front asks command right underway count denied =
    Asks-none v caller answer asks command (Denied front right) underway refl refl
    (record { after = v.database.state; leads = underway.leads; is_front = count; denied = denied })

-- what stands before a turn's own events is no command
turn_then : (answered : Answered) (front own events : List Happened) → NoCommand front → IsTurn answered own events
    → IsTurn answered (front ++ own) events
turn_then (Kept place reply) front own events none turn = record {
  front = front ++ turn.front;
  last = turn.last;
  is_own = ap (λ l. front ++ l) turn.is_own ∙ sym (append_assoc front turn.front (turn.last ∷ []));
  no_command = All-append (λ event. is_command event.event ≡ false) front turn.front none turn.no_command;
  at_end = turn.at_end;
}
turn_then NoMemory front own events none turn = All-append (λ event. is_command event.event ≡ false) front own none turn

module _ (leads_once : (s : DatabaseView) (events : List Happened) (one other : State) → Leads (opened s) events one
    → Leads (opened s) events other → one ≡ other) (first v w : DatabaseView) (caller answer : ℕ) (command : Command)
    (ticked : Ticked) (leads : Leads (opened first) v.events v.state) (leads' : Leads (opened first) w.events w.state)
    (way : MakesWay caller (moment_at answer v) ticked v w) where
  -- what was needed before a command was done, and then came what follows on it
  FollowsAlone-then : (answered : Answered) (events : List Happened) → FollowsAlone first caller w.events command answer answered events
      → FollowsAlone first caller v.events command answer answered events
  FollowsAlone-then answered events next =
      let f = next.follows in
      let same : f.grows.before ≡ w.state =
      leads_once first w.events f.grows.before w.state
      (subst (λ l. Leads (opened first) l f.grows.before) (ap (λ l. w.events ++ l) next.alone ∙ append-nil w.events) f.grows.leads)
      leads' in
      let moments : max answer w.state.greatest ≡ max answer v.state.greatest = omega (arith, way.since, way.no_later) in
      record {
        follows = record {
          grows = record {
            others = [];
            own = way.own ++ f.grows.own;
            grown = f.grows.grown ∙ ap (λ l. w.events ++ (l ++ f.grows.own)) next.alone
                ∙ ap (λ l. l ++ f.grows.own) way.extends.grown ∙ append_assoc v.events way.own f.grows.own;
            not_own = tt;
            before = v.state;
            leads = subst (λ l. Leads (opened first) l v.state) (sym (append-nil v.events)) leads;
            made = All-append (IsEventOf caller (max answer v.state.greatest)) way.own f.grows.own way.extends.made
                (subst (λ m. AllByRecursion (IsEventOf caller m) f.grows.own)
                (ap (λ (s : State). max answer s.greatest) same ∙ moments) f.grows.made);
          };
          named = f.named;
          turn = turn_then answered way.own f.grows.own events way.no_command f.turn;
          places = f.places ∙ ap (λ l. l ++ places_answered answered) (ap (places_of caller) way.extends.grown
              ∙ places_of-append caller v.events way.own
              ∙ ap (λ l. places_of caller v.events ++ l) (no_places (length v.events) caller way.own way.no_command)
              ∙ append-nil (places_of caller v.events));
        };
        alone = refl;
      }

module _ (leads_once : (s : DatabaseView) (events : List Happened) (one other : State) → Leads (opened s) events one
    → Leads (opened s) events other → one ≡ other) (v w : ServedView) (caller answer : ℕ) (asks : Option (List ℕ)) (command : Command)
    (underway : IsUnderway v) (underway' : IsUnderway w) where
  leads_there : w.first ≡ v.first → Leads (opened v.first) w.database.events w.database.state
  leads_there same = subst (λ (f : DatabaseView). Leads (opened f) w.database.events w.database.state) same underway'.leads

  -- the way was made, and then the command was asked
  pub Asks-ready : Readies caller answer Ready v w → (given : Given0) (v' : ServedView)
      → Asks (asker_at w.first caller asks) command answer given w v' → Asks (asker_at v.first caller asks) command answer given v v'
  Asks-ready readies given v' asked = record {
    first = asked.first ∙ readies.first;
    follows = FollowsAlone-then leads_once v.first v.database w.database caller answer command readies.ticked underway.leads
        (leads_there readies.first) readies.way (answered_of given) v'.database.events
        (subst (λ (f : DatabaseView). FollowsAlone f caller w.database.events command answer (answered_of given) v'.database.events)
        readies.first asked.follows);
    judged = subst (λ (f : DatabaseView). IsJudged (asker_at f caller asks) v'.database.events command given) readies.first
        asked.judged;
    adds = AddsOwn-then caller (history_of v) (history_of w) (history_of v')
        (adds_events caller (moment_at answer v.database) readies.way.own v w underway readies.way.extends readies.by.0) asked.adds;
    noted = asked.noted
        ∙ ap (λ l. l ++ notes_given caller given) (same_notes v w [] readies.by.0 refl ∙ append-nil (notes_of (history_of v)));
  }

  -- memory ran out on the way
  pub Asks-wanting : Readies caller answer NotTried v w → Asks (asker_at v.first caller asks) command answer Wanting v w
  Asks-wanting readies = record {
    first = readies.first;
    follows = FollowsAlone-then leads_once v.first v.database w.database caller answer command readies.ticked underway.leads
        (leads_there readies.first) readies.way NoMemory w.database.events
        (FollowsAlone-none v.first caller answer w.database.events command w.database.state (leads_there readies.first));
    judged = tt;
    adds = adds_events caller (moment_at answer v.database) readies.way.own v w underway readies.way.extends readies.by;
    noted = same_notes v w [] readies.by refl;
  }

  -- a disk failed on the way
  pub Asks-unready : ((s : State) (caller other moment : ℕ) (event : Event) (outcome : Outcome) (turned : Turned) → 0 < other
      → IsNotAskedBy other caller event → Steps s caller moment event outcome turned → caller_of turned.state other ≡ caller_of s other)
      → 0 < caller → Readies caller answer NotReady v w → NeedsRight asks (level_of v.database.state caller) command → (front : ℕ)
      → front ≡ w.database.state.kept.count → Asks (asker_at v.first caller asks) command answer (Unready front) v w
  Asks-unready stays some readies needs front count =
      let note : Note = record { before = length w.database.events; caller = caller } in
      let events : List Noted = merged 0 w.database.events v.notes in
      let more : history_of w ≡ events ++ NoteOf caller ∷ [] =
      ap (merged 0 w.database.events) readies.by.0 ∙ merged-more_notes 0 w.database.events v.notes note (omega arith) in
      record {
        first = readies.first;
        follows = FollowsAlone-then leads_once v.first v.database w.database caller answer command readies.ticked underway.leads
            (leads_there readies.first) readies.way NoMemory w.database.events
            (FollowsAlone-none v.first caller answer w.database.events command w.database.state (leads_there readies.first));
        judged = record {
          after = w.database.state;
          leads = leads_there readies.first;
          is_front = count;
          in_flight = readies.by.1;
          needs = subst (λ l. NeedsRight asks l command)
              (sym (level_stays stays caller some v.database.state w.database.state readies.way.own readies.way.no_command
              readies.way.extends.leads)) needs;
        };
        adds = AddsOwn-then caller (history_of v) events (history_of w)
            (AddsOwn-of caller (moment_at answer v.database) readies.way.own v.notes v.first v.database w.database readies.way.extends
            underway.up_to)
            (NoteOf caller ∷ [], more, (refl, tt));
        noted = notes_of-merged 0 w.database.events w.notes ∙ ap callers_of readies.by.0
            ∙ map-append (λ (n : Note). n.caller) v.notes (note ∷ [])
            ∙ ap (λ l. l ++ caller ∷ []) (sym (notes_of-merged 0 v.database.events v.notes));
      }

-- where a disk failed its count rose
rose_one : (p q : DiskPair) → NoneFell p q → FaultOnEither p q → RoseBy 1 p q
rose_one p q on (inl (inl more)) = inr (inr (omega (arith, more, on.1)))
rose_one p q on (inl (inr full)) = inl (omega (arith, full, on.0))
rose_one p q on (inr (inl more)) = inr (inr (omega (arith, more, on.0)))
rose_one p q on (inr (inr full)) = inr (inl (omega (arith, full, on.1)))

no_and : (a b : Bool) → b ≡ false → a && b ≡ false
no_and true b isn't = isn't
no_and false b isn't = refl

-- one for a truth
abbrev one_if : Bool → ℕ
one_if b = cond b 1 0

none_failed : (events : List Happened) → NoCommand events → count_by is_failed_command events ≡ 0
none_failed [] none = refl
none_failed (event ∷ events) none =
    let here : one_if (is_failed_command event) ≡ 0 = ap one_if (no_and (is_fault event.outcome) (is_command event.event) none.0) in
    let step : count_by is_failed_command (event ∷ events)
    ≡ count_by is_failed_command (event ∷ []) + count_by is_failed_command events =
    sum_by-append (λ e. cond (is_failed_command e) 1 0) (event ∷ []) events in
    let alone : count_by is_failed_command (event ∷ []) ≡ 0 + one_if (is_failed_command event) = refl in
    let rest = none_failed events none.1 in
    omega (arith, step, alone, here, rest)

-- a database stays underway once the way was made
pub IsUnderway-way : (caller answer : ℕ) (ticked : Ticked) (first v v' : DatabaseView) (notes same : List Note)
    → IsUnderway (record { first = first; database = v; notes = notes }) → same ≡ notes
    → MakesWay caller (moment_at answer v) ticked v v' → IsUnderway (record { first = first; database = v'; notes = same })
IsUnderway-way caller answer ticked first v v' notes same is alike way =
    subst (λ (l : List Note). IsUnderway (record { first = first; database = v'; notes = l })) (sym alike)
    (IsUnderway-then caller (moment_at answer v) way.own notes first v v' way.extends is)

-- so it does where a disk failed before a command, and a note was written
pub IsUnderway-noted : (caller answer : ℕ) (first v v' : DatabaseView) (notes more : List Note) (note : Note)
    → IsUnderway (record { first = first; database = v; notes = notes }) → more ≡ notes ++ note ∷ []
    → MakesWay caller (moment_at answer v) DiskFault v v' → note.before ≡ length v'.events
    → IsUnderway (record { first = first; database = v'; notes = more })
IsUnderway-noted caller answer first v v' notes more note is grown way before =
    let next = IsUnderway-then caller (moment_at answer v) way.own notes first v v' way.extends is in
    let both : count_by is_failed_command (v.events ++ way.own)
    ≡ count_by is_failed_command v.events + count_by is_failed_command way.own =
    sum_by-append (λ event. cond (is_failed_command event) 1 0) v.events way.own in
    let many : count_by is_failed_command v'.events ≡ count_by is_failed_command (v.events ++ way.own) =
    ap (count_by is_failed_command) way.extends.grown in
    let none = none_failed way.own way.no_command in
    let on : NoneFell (disks_of v.journal) (disks_of v'.journal) = (way.extends.goes.faults_a, way.extends.goes.faults_b) in
    subst (λ (l : List Note). IsUnderway (record { first = first; database = v'; notes = l })) (sym grown) (record {
      fresh = next.fresh;
      leads = next.leads;
      adds = next.adds;
      noted = subst (λ n. RoseBy n (disks_of first.journal) (disks_of v'.journal))
          (omega (arith, both, many, none, length-append notes (note ∷ [])))
          (rose_on (count_by is_failed_command v.events + length notes) 1 (disks_of first.journal) (disks_of v.journal)
          (disks_of v'.journal) on is.noted (rose_one (disks_of v.journal) (disks_of v'.journal) on way.clears.1));
      up_to = All-append (λ (n : Note). n.before ≤ length v'.events) notes (note ∷ []) next.up_to (omega (arith, before), tt);
    })

-- nothing came before a command, of which memory ran out for what was needed
way_none : (caller moment : ℕ) (v : DatabaseView) → v.state.greatest ≤ moment → MakesWay caller moment TickedNoMemory v v
way_none caller moment v no_earlier = record {
  own = [];
  extends = record {
    leads = refl;
    grown = sym (append-nil v.events);
    added = ([], (refl, refl));
    made = tt;
    causes = tt;
    counted = counted_none (disks_of v.journal) (disks_of v.journal) (omega arith) (omega arith);
    same = record { opening = refl; users = refl };
    goes = goes_nowhere v.journal;
    called = λ tell. called_none v.journal;
    shown = record { longer = omega arith; published = inl refl };
  };
  no_command = tt;
  clears = record { none = λ is. refl; calls = refl };
  since = omega arith;
  no_later = no_earlier;
}

-- there was no room for a note, and nothing was done
pub Readies-none : (caller answer : ℕ) (first v : DatabaseView) (notes same : List Note) → same ≡ notes
    → Readies caller answer NotTried (record { first = first; database = v; notes = notes })
    (record { first = first; database = v; notes = same })
Readies-none caller answer first v notes same alike = record {
  first = refl;
  ticked = TickedNoMemory;
  way = way_none caller (moment_at answer v) v (omega arith);
  by = alike;
}
