-- The list of commits along a history: a step leaves it or adds an entry to it, so that its count never falls.
use Rattle.std.proofs.Common.{◌≡◌, ◌≤◌, ◌+◌, ◌⊎◌, ◌==◌, ℕ, zero, suc, List, [], ◌∷◌, ◌++◌, length, take, drop, Bool, true, false, if◌then◌else◌, refl, sym, ap, subst, ◌∙◌, nat_lt, Option, None, Some, inl, inr, ⊎_elim, arith}
use Rattle.std.proofs.Math.Seq.{take-length}
use Rattle.std.proofs.lemmas.Bool.{cases_lt}
use Rattle.commands.specs.declared.command.LoadWay.{LoadWay}
use Rattle.commands.specs.declared.command.Op.{Op}
use Rattle.commands.specs.declared.command.Command.{Command}
use Rattle.commands.specs.declared.command.Command.TheVariants.{Configure, ShowActive, ShowCommits, ClearCommit, Logout, Edit, Up, Top, Exit, ExitAll, Show, Change, Load, Rollback, CheckOnly, Commit as CommitAsked, CommitAt, Update, Status}
use Rattle.commands.specs.When.{at_of}
use Rattle.cfg_base.specs.declared.path.Step.{Step}
use Rattle.commit_ledger.specs.declared.entry.Commit.{Commit}
use Rattle.commit_ledger.specs.declared.entry.Entry.{Entry}
use Rattle.commit_ledger.specs.declared.entry.Entry.TheVariants.{Commit as CommitOf, Confirm as ConfirmOf, Scheduled as ScheduledOf, Cleared as ClearedOf}
use Rattle.commit_ledger.specs.declared.limit.TheConstants.{MAX_ENTRIES}
use Rattle.commit_ledger.specs.Kept.{Kept, Unconfirmed, append_entry, nth_last}
use Rattle.config_core.specs.declared.event.Event.{Event}
use Rattle.config_core.specs.declared.event.Event.TheVariants.{Settle, Revert, Carry, Command as CommandOf}
use Rattle.config_core.specs.declared.event.Outcome.{Outcome}
use Rattle.config_core.specs.declared.event.Outcome.TheVariants.{Done, Fault}
use Rattle.config_core.specs.declared.reply.Reply.{Reply}
use Rattle.config_core.specs.Levels.{Position, is_level_at}
use Rattle.config_core.specs.State.{State, Made}
use Rattle.config_core.specs.Access.{bar_to}
use Rattle.config_core.specs.Callers.{candidate_of, level_of, own_of, without_mode}
use Rattle.config_core.specs.Entries.{carry_made, cleared_of, commit_of, confirm_of, made_by, revert_made, scheduled_of, taken}
use Rattle.config_core.specs.Serving.{Turned, exited, edited, makes, left_if, checked, Moves, IsLost, Changes, IsUnchanged, Loads, IsNotLoaded, Replaces, RollsTo, IsNotMerged, Updates, Does, Serves}
use Rattle.config_core.specs.Machine.{Waiting, InFlight, Missed, Ready, Free, waiting_of, is_logout, settled, reverted, carried, left_by, Ends, StepsFrom, Steps, later}
use Rattle.config_core.proofs.StepLemmas.{by_bar, by_bool, by_check}
use Rattle.session_history.specs.declared.history.Happened.{Happened}
use Rattle.session_history.specs.Events.{Leads}
use Rattle.session_history.specs.Kept.{WasKept}

-- a list stays as it is, or has one entry more
abbrev pub GoesTo : Kept → Kept → Type 0
GoesTo kept after = (after ≡ kept) ⊎ ((entry : Entry) × (after ≡ append_entry kept entry))

abbrev Keeps : State → Turned → Type 0
Keeps s turned = GoesTo s.kept turned.state.kept

kept_by : (s : State) (turned to : Turned) → turned ≡ to → Keeps s to → Keeps s turned
kept_by s turned to is keeps = subst (Keeps s) (sym is) keeps

either : (s : State) (b : Bool) (x y : Turned) → Keeps s x → Keeps s y → Keeps s (if b then x else y)
either s true x y first second = first
either s false x y first second = second

module _ (s : State) where
  stays : (turned to : Turned) → to.state.kept ≡ s.kept → turned ≡ to → Keeps s turned
  stays turned to same is = kept_by s turned to is (inl same)

  left_keeps : (quit : Bool) (caller : ℕ) (t : State) → GoesTo s.kept t.kept → GoesTo s.kept (left_if quit caller t).kept
  left_keeps true caller t is = is
  left_keeps false caller t is = is

  -- a command's entry
  makes_keep : (caller : ℕ) (entry : Entry) (quit : Bool) (reply : Reply) → Keeps s (makes s caller entry quit reply)
  makes_keep caller entry quit reply =
      either s (nat_lt s.kept.count MAX_ENTRIES) _ _ (left_keeps quit caller (taken s (made_by caller entry)) (inr (entry, refl))) (inl refl)

  checked_keeps : (caller : ℕ) (pending : Option Unconfirmed) → Keeps s (checked s caller pending)
  checked_keeps caller None = inl refl
  checked_keeps caller (Some run) = makes_keep caller (ConfirmOf (confirm_of s caller)) false _

  exited_keeps : (caller : ℕ) (back : Option Position) → Keeps s (exited s caller back)
  exited_keeps caller None = inl refl
  exited_keeps caller (Some position) = inl refl

  edited_keeps : (caller : ℕ) (path : List Step) → Keeps s (edited s caller path)
  edited_keeps caller path = either s (is_level_at path) _ _ (inl refl) (inl refl)

  module _ (caller : ℕ) (turned : Turned) where
    rolls_keep : (n : ℕ) (commit : Option Commit) → RollsTo s caller n commit turned → Keeps s turned
    rolls_keep n None rolls = stays turned _ refl rolls
    rolls_keep n (Some commit) rolls =
        by_bool (n == 0) _ _ (Keeps s turned) (λ is. stays turned _ refl is) (λ (r : Replaces s caller commit.tree turned). stays turned _ refl r.is) rolls

    moves_keep : (asked : List (List ℕ)) → Moves s caller asked turned ⊎ IsLost s (level_of s caller) asked turned → Keeps s turned
    moves_keep asked (inl moves) = kept_by s turned _ moves.is (edited_keeps caller moves.target.path)
    moves_keep asked (inr lost) = stays turned _ refl lost.is

    changes_keep : (op : Op) → Changes s caller op turned ⊎ IsUnchanged s caller op turned → Keeps s turned
    changes_keep op (inl changes) = stays turned _ refl changes.is
    changes_keep op (inr unchanged) = stays turned _ refl unchanged.is

    loads_keep : (way : LoadWay) (text : List ℕ) → Loads s caller way text turned ⊎ IsNotLoaded s caller way text turned → Keeps s turned
    loads_keep way text (inl loads) = stays turned _ refl loads.replaces.is
    loads_keep way text (inr fault) = stays turned _ refl fault.is

    updates_keep : Updates s caller turned ⊎ IsNotMerged s (candidate_of s caller) turned → Keeps s turned
    updates_keep (inl updates) = stays turned _ refl updates.is
    updates_keep (inr unmerged) = stays turned _ refl unmerged.is

    does_keep : (command : Command) → Does s caller command turned → Keeps s turned
    does_keep (Configure mode) is = stays turned _ refl is
    does_keep (ShowActive asked form) shows = stays turned _ refl shows.is
    does_keep ShowCommits lists = stays turned _ refl lists.is
    does_keep Logout is = stays turned _ refl is
    does_keep (Edit asked) moves = moves_keep asked moves
    does_keep (Up count) is = stays turned _ refl is
    does_keep Top is = stays turned _ refl is
    does_keep Exit is = kept_by s turned _ is (exited_keeps caller _)
    does_keep ExitAll is = stays turned _ refl is
    does_keep (Show asked form) shows = stays turned _ refl shows.is
    does_keep (Change op) changes = changes_keep op changes
    does_keep (Load way text) loads = loads_keep way text loads
    does_keep (Rollback n) rolls = rolls_keep n (nth_last s.kept n) rolls
    does_keep CheckOnly checks =
        by_check s (own_of s caller) turned _ (Keeps s) (λ m accepted. checked_keeps caller s.kept.pending) (λ refusal. inl refl) checks
    does_keep (CommitAsked minutes comment quit) checks =
        by_check s (own_of s caller) turned _ (Keeps s) (λ m accepted. makes_keep caller (CommitOf (commit_of s caller m minutes comment)) quit _) (λ refusal. inl refl) checks
    does_keep (CommitAt when comment) checks =
        by_check s (own_of s caller) turned _ (Keeps s)
        (λ m accepted. makes_keep caller (ScheduledOf (scheduled_of s caller m (at_of when s.greatest) comment)) false _) (λ refusal. inl refl) checks
    does_keep ClearCommit is = kept_by s turned _ is (makes_keep caller (ClearedOf (cleared_of s caller)) false _)
    does_keep Update updates = updates_keep updates
    does_keep Status is = stays turned _ refl is

    serves_keep : (command : Command) → Serves s caller command turned → Keeps s turned
    serves_keep command serves = by_bar (bar_to s caller command) s turned _ _ (λ refusal is. stays turned _ refl is) (does_keep command) serves

  ends_keep : (outcome : Outcome) (done turned : Turned) → Keeps s done → Ends outcome s done turned → Keeps s turned
  ends_keep Done done turned keeps is = kept_by s turned done is keeps
  ends_keep Fault done turned keeps put = stays turned _ refl put.is

  settled_keeps : (made : Made) (is_kept : Bool) → GoesTo s.kept (settled s made is_kept).kept
  settled_keeps made true = inr (made.entry, refl)
  settled_keeps made false = inl refl

  left_by_keeps : (caller : ℕ) (command : Command) → (left_by s caller command).kept ≡ s.kept
  left_by_keeps caller command = by_logout (is_logout command)
    where
      by_logout : (b : Bool) → (if b then without_mode s caller else s).kept ≡ s.kept
      by_logout true = refl
      by_logout false = refl

  from_keeps : (waiting : Waiting) (caller : ℕ) (event : Event) (outcome : Outcome) (turned : Turned) → StepsFrom waiting s caller event outcome turned → Keeps s turned
  from_keeps (InFlight made) caller (Settle is_kept) Done turned is = kept_by s turned _ is (settled_keeps made is_kept)
  from_keeps (InFlight made) caller (Settle is_kept) Fault turned is = absurd is
  from_keeps (InFlight made) caller Revert outcome turned is = absurd is
  from_keeps (InFlight made) caller Carry outcome turned is = absurd is
  from_keeps (InFlight made) caller (CommandOf command) Done turned is = absurd is
  from_keeps (InFlight made) caller (CommandOf command) Fault turned is = stays turned _ (left_by_keeps caller command) is
  from_keeps Missed caller (Settle is_kept) outcome turned is = absurd is
  from_keeps Missed caller Revert outcome turned is = ends_keep outcome (reverted s) turned (inr ((revert_made s).entry, refl)) is
  from_keeps Missed caller Carry outcome turned is = absurd is
  from_keeps Missed caller (CommandOf command) outcome turned is = absurd is
  from_keeps (Ready waiting) caller (Settle is_kept) outcome turned is = absurd is
  from_keeps (Ready waiting) caller Revert outcome turned is = absurd is
  from_keeps (Ready waiting) caller Carry outcome turned is =
      ends_keep outcome (carried s waiting is.same) turned (inr ((carry_made s waiting is.same).entry, refl)) is.ends
  from_keeps (Ready waiting) caller (CommandOf command) outcome turned is = absurd is
  from_keeps Free caller (Settle is_kept) outcome turned is = absurd is
  from_keeps Free caller Revert outcome turned is = absurd is
  from_keeps Free caller Carry outcome turned is = absurd is
  from_keeps Free caller (CommandOf command) outcome turned is = ends_keep outcome is.done turned (serves_keep caller is.done command is.serves) is.ends

-- a step leaves the list, or adds an entry to it
pub steps_go : (s : State) (caller moment : ℕ) (event : Event) (outcome : Outcome) (turned : Turned) → Steps s caller moment event outcome turned → GoesTo s.kept turned.state.kept
steps_go s caller moment event outcome turned steps = from_keeps (later s moment) (waiting_of s moment) caller event outcome turned steps

pub count-append_entry : (kept : Kept) (entry : Entry) → (append_entry kept entry).count ≡ kept.count + 1
count-append_entry kept (CommitOf commit) = refl
count-append_entry kept (ConfirmOf confirm) = refl
count-append_entry kept (ScheduledOf waiting) = refl
count-append_entry kept (ClearedOf cleared) = refl

count_goes : (kept after : Kept) → GoesTo kept after → kept.count ≤ after.count
count_goes kept after (inl same) = omega (arith, ap (λ (k : Kept). k.count) same)
count_goes kept after (inr (entry, is)) = omega (arith, ap (λ (k : Kept). k.count) is, count-append_entry kept entry)

-- the count never falls along events
pub count_grows : (s : State) (events : List Happened) (last : State) → Leads s events last → s.kept.count ≤ last.kept.count
count_grows s [] last leads = omega (arith, ap (λ (x : State). x.kept.count) leads)
count_grows s (event ∷ events) last leads =
    omega (arith, count_goes s.kept leads.1.state.kept (steps_go s event.caller event.moment event.event event.outcome leads.1 leads.2), count_grows leads.1.state events last leads.3)

-- events that leave the count leave the list
same_goes : (kept after : Kept) → GoesTo kept after → after.count ≤ kept.count → after ≡ kept
same_goes kept after (inl same) few = same
same_goes kept after (inr (entry, is)) few = absurd (omega (arith, few, ap (λ (k : Kept). k.count) is, count-append_entry kept entry))

pub kept_stays : (s : State) (events : List Happened) (last : State) → Leads s events last → last.kept.count ≤ s.kept.count → last.kept ≡ s.kept
kept_stays s [] last leads few = ap (λ (x : State). x.kept) leads
kept_stays s (event ∷ events) last leads few =
    let goes = steps_go s event.caller event.moment event.event event.outcome leads.1 leads.2 in
    let first = count_goes s.kept leads.1.state.kept goes in
    let rest = count_grows leads.1.state events last leads.3 in
    kept_stays leads.1.state events last leads.3 (omega (arith, few, first)) ∙ same_goes s.kept leads.1.state.kept goes (omega (arith, few, rest))

-- the first events, and those after them
pub leads_split : (s : State) (events : List Happened) (count : ℕ) (last : State) → Leads s events last → (mid : State) × Leads s (take count events) mid × Leads mid (drop count events) last
leads_split s events zero last leads = (s, refl, leads)
leads_split s [] (suc count) last leads = (s, refl, leads)
leads_split s (event ∷ events) (suc count) last leads =
    let rest = leads_split leads.1.state events count last leads.3 in
    (rest.0, (leads.0, leads.1, leads.2, rest.1), rest.2)

-- so many of the first events stand before more
leads_before : (s : State) (events more : List Happened) (count : ℕ) (state : State) → Leads s (take count events) state → (n : ℕ) × Leads s (take n (events ++ more)) state
leads_before s events more zero state leads = (zero, leads)
leads_before s [] more (suc count) state leads = (zero, leads)
leads_before s (event ∷ events) more (suc count) state leads =
    let rest = leads_before leads.1.state events more count state leads.3 in
    (suc rest.0, (leads.0, leads.1, leads.2, rest.1))

-- fewer of the first events are the first of more of them
take_fewer : (events : List Happened) (m n : ℕ) → m ≤ n → take m (take n events) ≡ take m events
take_fewer events zero n few = refl
take_fewer [] (suc m) zero few = refl
take_fewer [] (suc m) (suc n) few = refl
take_fewer (event ∷ events) (suc m) zero few = absurd (omega (arith, few))
take_fewer (event ∷ events) (suc m) (suc n) few = ap (λ l. event ∷ l) (take_fewer events m n (omega (arith, few)))

-- the opening's list was kept
pub WasKept-opening : (s : State) (events : List Happened) → WasKept s events s.kept
WasKept-opening s events = record { count = 0; state = s; leads = refl; is = refl }

-- what is kept after the last event was kept
pub WasKept-last : (s : State) (events : List Happened) (last : State) → Leads s events last → WasKept s events last.kept
WasKept-last s events last leads =
    record { count = length events; state = last; leads = subst (λ l. Leads s l last) (sym (take-length events)) leads; is = refl }

-- what was kept was kept with more events after them
pub WasKept-append : (s : State) (events more : List Happened) (kept : Kept) → WasKept s events kept → WasKept s (events ++ more) kept
WasKept-append s events more kept was =
    let longer = leads_before s events more was.count was.state was.leads in
    record { count = longer.0; state = was.state; leads = longer.1; is = was.is }

module _ (s : State) (one_state : (events : List Happened) (one other : State) → Leads s events one → Leads s events other → one ≡ other) where
  -- nor more than what is kept after the last event
  pub WasKept-last_count : (events : List Happened) (last : State) (kept : Kept) → Leads s events last → WasKept s events kept → kept.count ≤ last.kept.count
  WasKept-last_count events last kept leads was =
      let split = leads_split s events was.count last leads in
      let here : split.0 ≡ was.state = one_state (take was.count events) split.0 was.state split.1 was.leads in
      omega (arith, count_grows split.0 (drop was.count events) last split.2, ap (λ (x : State). x.kept.count) here, ap (λ (k : Kept). k.count) was.is)

  fewer_kept : (events : List Happened) (one other : Kept) (a : WasKept s events one) (b : WasKept s events other) → a.count ≤ b.count → other.count ≤ one.count → other ≡ one
  fewer_kept events one other a b before few =
      let split = leads_split s (take b.count events) a.count b.state b.leads in
      let first : Leads s (take a.count events) split.0 = subst (λ l. Leads s l split.0) (take_fewer events a.count b.count before) split.1 in
      let here : split.0 ≡ a.state = one_state (take a.count events) split.0 a.state first a.leads in
      let between : Leads a.state (drop a.count (take b.count events)) b.state = subst (λ x. Leads x (drop a.count (take b.count events)) b.state) here split.2 in
      let same = kept_stays a.state (drop a.count (take b.count events)) b.state between (omega (arith, few, ap (λ (k : Kept). k.count) a.is, ap (λ (k : Kept). k.count) b.is)) in
      b.is ∙ same ∙ sym a.is

  -- of one count one list was kept
  pub WasKept-one : (events : List Happened) (one other : Kept) → WasKept s events one → WasKept s events other → one.count ≡ other.count → one ≡ other
  WasKept-one events one other a b same =
      ⊎_elim (λ before. sym (fewer_kept events one other a b (omega (arith, before)) (omega (arith, same))))
      (λ before. fewer_kept events other one b a before (omega (arith, same))) (cases_lt a.count b.count)
