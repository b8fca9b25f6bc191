-- A history that one caller makes alone while no disk fails, without the numbers of calls: what it is asked leaves no choice.
use Rattle.std.proofs.Common.{◌≡◌, ℕ, ◌+◌, List, [], ◌∷◌, ◌++◌, length, max, false, refl, sym, ap, subst, ◌∙◌, append_assoc, arith, slice_get}
use Rattle.std.proofs.lemmas.Bool.{false≢true}
use Rattle.std.proofs.lemmas.List.{append-nil, length-append}
use Rattle.std.specs.List.{AllByRecursion}
use Rattle.commands.specs.declared.command.Command.{Command}
use Rattle.config_core.specs.declared.event.Event.{Event}
use Rattle.config_core.specs.declared.event.Event.TheVariants.{Settle, Revert, Carry, Command as CommandOf}
use Rattle.config_core.specs.declared.event.Outcome.{Outcome}
use Rattle.config_core.specs.declared.event.Outcome.TheVariants.{Done}
use Rattle.config_core.specs.declared.reply.Reply.{Reply}
use Rattle.config_core.specs.State.{State}
use Rattle.config_core.specs.Serving.{Turned}
use Rattle.config_core.specs.Machine.{Free, InFlight, Missed, Ready, Steps, StepsFrom, Waiting, later, waiting_of}
use Rattle.config_db.specs.declared.answer.Answered.{Answered}
use Rattle.config_db.specs.declared.answer.Answered.TheVariants.{Kept as DoneAt}
use Rattle.session_history.specs.declared.history.Happened.{Happened}
use Rattle.session_history.specs.Events.{IsAt, IsLegal, Leads, is_command, IsEventOf, NoCommand}
use Rattle.session_history.proofs.EventLemmas.{Leads-append, at_seam}
use Rattle.session_threads.specs.History.{FollowsTurn}
use Rattle.session_threads.proofs.ListLemmas.{all_back, some_is}
use Rattle.service.specs.Alone.{is_settling}
use Rattle.service.specs.Taking.{done_event}
use Rattle.service.proofs.ListLemmas.{all_front}

-- an event is done, has no numbers of calls, and settles nothing
abbrev pub IsPlain : Happened → Type 0
IsPlain event = (event.outcome ≡ Done) × (event.calls ≡ record { a = 0; b = 0 }) × (is_settling event.event ≡ false)

-- how such a history follows after one turn of the caller that makes it alone
pub record FollowsPlain (opening : State) (caller : ℕ) (events : List Happened) (command : Command) (answer : ℕ) (answered : Answered) (events' : List Happened) : Type 0 where
  pub follows : FollowsTurn opening caller events command answer answered events'
  pub alone : follows.grows.others ≡ []
  pub legal : IsLegal opening events'
  pub plain : AllByRecursion IsPlain follows.grows.own

-- events and then more lead through a state in between
pub Leads-split : (s : State) (events more : List Happened) (last : State) → Leads s (events ++ more) last → (mid : State) × Leads s events mid × Leads mid more last
Leads-split s [] more last leads = (s, refl, leads)
Leads-split s (event ∷ events) more last leads =
    let rest = Leads-split leads.1.state events more last leads.3 in (rest.0, (leads.0, leads.1, leads.2, rest.1), rest.2)

-- a plain event of a caller is what it is by its kind
done_is : (caller moment : ℕ) (event : Event) (happened : Happened) → IsEventOf caller moment happened → IsPlain happened → happened.event ≡ event → happened ≡ done_event caller moment event
done_is caller moment event happened made plain is =
    ap (λ x. record { caller = x; moment = happened.moment; event = happened.event; outcome = happened.outcome; calls = happened.calls }) made.0
    ∙ ap (λ x. record { caller = caller; moment = x; event = happened.event; outcome = happened.outcome; calls = happened.calls }) made.1
    ∙ ap (λ x. record { caller = caller; moment = moment; event = x; outcome = happened.outcome; calls = happened.calls }) is
    ∙ ap (λ x. record { caller = caller; moment = moment; event = event; outcome = x; calls = happened.calls }) plain.0
    ∙ ap (λ x. record { caller = caller; moment = moment; event = event; outcome = Done; calls = x }) plain.1

-- what comes before a command where no entry was in flight: a scheduled commit whose time has come, or else a revert
abbrev due_in : Waiting → Event
due_in (Ready waiting) = Carry
due_in waiting = Revert

due_is : (w : Waiting) (s : State) (caller : ℕ) (event : Event) (outcome : Outcome) (turned : Turned) → is_command event ≡ false
    → is_settling event ≡ false → StepsFrom w s caller event outcome turned → event ≡ due_in w
due_is w s caller (Settle is_kept) outcome turned is is' steps = absurd (false≢true (sym is'))
due_is (InFlight made) s caller Revert outcome turned is is' steps = absurd steps
due_is Missed s caller Revert outcome turned is is' steps = refl
due_is (Ready waiting) s caller Revert outcome turned is is' steps = absurd steps
due_is Free s caller Revert outcome turned is is' steps = absurd steps
due_is (InFlight made) s caller Carry outcome turned is is' steps = absurd steps
due_is Missed s caller Carry outcome turned is is' steps = absurd steps
due_is (Ready waiting) s caller Carry outcome turned is is' steps = refl
due_is Free s caller Carry outcome turned is is' steps = absurd steps
due_is w s caller (CommandOf command) outcome turned is is' steps = absurd (false≢true (sym is))

-- where a command is done, no other event is
not_both : (w : Waiting) (s s' : State) (caller other : ℕ) (command : Command) (event : Event) (outcome : Outcome) (turned turned' : Turned)
    → is_command event ≡ false → StepsFrom w s caller (CommandOf command) Done turned → StepsFrom w s' other event outcome turned' → ⊥
not_both (InFlight made) s s' caller other command event outcome turned turned' is steps steps' = steps
not_both Missed s s' caller other command event outcome turned turned' is steps steps' = steps
not_both (Ready waiting) s s' caller other command event outcome turned turned' is steps steps' = steps
not_both Free s s' caller other command (Settle is_kept) outcome turned turned' is steps steps' = steps'
not_both Free s s' caller other command Revert outcome turned turned' is steps steps' = steps'
not_both Free s s' caller other command Carry outcome turned turned' is steps steps' = steps'
not_both Free s s' caller other command (CommandOf command') outcome turned turned' is steps steps' = absurd (false≢true (sym is))

-- a step at a moment
step_at : (caller moment : ℕ) (s : State) (x : Happened) (turned : Turned) → IsEventOf caller moment x
    → Steps s x.caller x.moment x.event x.outcome turned → StepsFrom (waiting_of s moment) (later s moment) x.caller x.event x.outcome turned
step_at caller moment s x turned made steps =
    subst (λ m. StepsFrom (waiting_of s m) (later s m) x.caller x.event x.outcome turned) made.1 steps

-- so what comes before a command is one event
due_event : (caller moment : ℕ) (s : State) (x : Happened) (turned : Turned) → IsEventOf caller moment x → IsPlain x → is_command x.event ≡ false
    → Steps s x.caller x.moment x.event x.outcome turned → x ≡ done_event caller moment (due_in (waiting_of s moment))
due_event caller moment s x turned made plain none steps =
    done_is caller moment (due_in (waiting_of s moment)) x made plain
    (due_is (waiting_of s moment) (later s moment) x.caller x.event x.outcome turned none plain.2 (step_at caller moment s x turned made steps))

-- and none comes before a command that is done
not_before : (caller moment : ℕ) (s : State) (command : Command) (x : Happened) (turned turned' : Turned) → IsEventOf caller moment x
    → is_command x.event ≡ false → Steps s caller moment (CommandOf command) Done turned → Steps s x.caller x.moment x.event x.outcome turned' → ⊥
not_before caller moment s command x turned turned' made none steps steps' =
    not_both (waiting_of s moment) (later s moment) (later s moment) caller x.caller command x.event x.outcome turned turned' none steps
    (step_at caller moment s x turned' made steps')

-- plain events of a caller at a moment
abbrev pub AreOwn : ℕ → ℕ → List Happened → Type 0
AreOwn caller moment own = AllByRecursion (IsEventOf caller moment) own × AllByRecursion IsPlain own

module _ (opening : State) (leads_once : (events : List Happened) (one other : State) → Leads opening events one → Leads opening events other → one ≡ other) where
  -- the first events of two turns from one state, up to the same command
  same_front : (events : List Happened) (s : State) (caller moment : ℕ) (command : Command) (front front' : List Happened) (last last' : State) → Leads opening events s → NoCommand front → NoCommand front' → AreOwn caller moment front → AreOwn caller moment front' →
      Leads s (front ++ done_event caller moment (CommandOf command) ∷ []) last → Leads s (front' ++ done_event caller moment (CommandOf command) ∷ []) last' → front ≡ front'
  same_front events s caller moment command [] [] last last' at none none' own own' leads leads' = refl
  same_front events s caller moment command [] (y ∷ ys) last last' at none none' own own' leads leads' =
      absurd (not_before caller moment s command y leads.1 leads'.1 own'.0.0 none'.0 leads.2 leads'.2)
  same_front events s caller moment command (x ∷ xs) [] last last' at none none' own own' leads leads' =
      absurd (not_before caller moment s command x leads'.1 leads.1 own.0.0 none.0 leads'.2 leads.2)
  same_front events s caller moment command (x ∷ xs) (y ∷ ys) last last' at none none' own own' leads leads' =
      let same : x ≡ y = due_event caller moment s x leads.1 own.0.0 own.1.0 none.0 leads.2
      ∙ sym (due_event caller moment s y leads'.1 own'.0.0 own'.1.0 none'.0 leads'.2) in
      let on : Leads opening (events ++ y ∷ []) leads.1.state = Leads-append opening events (y ∷ []) s leads.1.state at (subst (λ e. Leads s (e ∷ []) leads.1.state) same (leads.0, leads.1, leads.2, refl)) in
      let on' : Leads opening (events ++ y ∷ []) leads'.1.state = Leads-append opening events (y ∷ []) s leads'.1.state at (leads'.0, leads'.1, leads'.2, refl) in
      let state : leads.1.state ≡ leads'.1.state = leads_once (events ++ y ∷ []) leads.1.state leads'.1.state on on' in
      ap (λ z. z ∷ xs) same ∙ ap (λ l. y ∷ l)
      (same_front (events ++ y ∷ []) leads'.1.state caller moment command xs ys last last' on' none.1 none'.1 (own.0.1, own.1.1) (own'.0.1, own'.1.1) (subst (λ m. Leads m (xs ++ done_event caller moment (CommandOf command) ∷ []) last) state leads.3) leads'.3)

-- one turn of the caller, of which the command was given: what came before it, and the command
record Turn (opening : State) (caller : ℕ) (events : List Happened) (command : Command) (answer place : ℕ) (events' : List Happened) : Type 0 where
  pub before : State
  pub leads : Leads opening events before
  pub front : List Happened
  pub no_command : NoCommand front
  pub own : AreOwn caller (max answer before.greatest) front
  pub is : events' ≡ events ++ (front ++ done_event caller (max answer before.greatest) (CommandOf command) ∷ [])
  pub last : State
  pub on : Leads before (front ++ done_event caller (max answer before.greatest) (CommandOf command) ∷ []) last
  pub at_end : length events' ≡ place + 1

module _ (opening : State) (caller : ℕ) (leads_once : (events : List Happened) (one other : State) → Leads opening events one → Leads opening events other → one ≡ other) where
  turn_of : (events events' : List Happened) (command : Command) (answer place : ℕ) (reply : Reply) → FollowsPlain opening caller events command answer (DoneAt place reply) events' → Turn opening caller events command answer place events'
  turn_of events events' command answer place reply follows = record {
    before = f.grows.before;
    leads = leads;
    front = f.turn.front;
    no_command = f.turn.no_command;
    own = (all_front _ f.turn.front (f.turn.last ∷ []) made, all_front _ f.turn.front (f.turn.last ∷ []) plain);
    is = grown ∙ ap (λ l. events ++ l) own_is;
    last = follows.legal.0;
    on = subst (λ l. Leads f.grows.before l follows.legal.0) own_is (subst (λ s. Leads s f.grows.own follows.legal.0) (leads_once events split.0 f.grows.before split.1 leads) split.2);
    at_end = f.turn.at_end;
  }
    where
      f : FollowsTurn opening caller events command answer (DoneAt place reply) events'
      f = follows.follows

      leads : Leads opening events f.grows.before
      leads = subst (λ l. Leads opening l f.grows.before) (ap (λ l. events ++ l) follows.alone ∙ append-nil events) f.grows.leads

      grown : events' ≡ events ++ f.grows.own
      grown = f.grows.grown ∙ ap (λ l. events ++ (l ++ f.grows.own)) follows.alone

      split : (mid : State) × Leads opening events mid × Leads mid f.grows.own follows.legal.0
      split = Leads-split opening events f.grows.own follows.legal.0 (subst (λ l. Leads opening l follows.legal.0) grown follows.legal.1)

      made : AllByRecursion (IsEventOf caller (max answer f.grows.before.greatest)) (f.turn.front ++ f.turn.last ∷ [])
      made = subst (AllByRecursion (IsEventOf caller (max answer f.grows.before.greatest))) f.turn.is_own f.grows.made

      plain : AllByRecursion IsPlain (f.turn.front ++ f.turn.last ∷ [])
      plain = subst (AllByRecursion IsPlain) f.turn.is_own follows.plain

      whole : events' ≡ (events ++ f.turn.front) ++ f.turn.last ∷ []
      whole = grown ∙ ap (λ l. events ++ l) f.turn.is_own ∙ sym (append_assoc events f.turn.front (f.turn.last ∷ []))

      place_is : place ≡ length (events ++ f.turn.front)
      place_is = omega (arith, f.turn.at_end, ap length whole, length-append (events ++ f.turn.front) (f.turn.last ∷ []))

      last_is : f.turn.last ≡ f.named.event
      last_is = some_is (sym (ap (λ l. slice_get l place) whole ∙ ap (λ p. slice_get ((events ++ f.turn.front) ++ f.turn.last ∷ []) p) place_is ∙ at_seam (events ++ f.turn.front) [] f.turn.last) ∙ f.named.is_at.is)

      own_is : f.grows.own ≡ f.turn.front ++ done_event caller (max answer f.grows.before.greatest) (CommandOf command) ∷ []
      own_is = f.turn.is_own ∙ ap (λ e. f.turn.front ++ e ∷ []) (done_is caller (max answer f.grows.before.greatest) (CommandOf command) f.turn.last (all_back _ f.turn.front (f.turn.last ∷ []) made).0 (all_back _ f.turn.front (f.turn.last ∷ []) plain).0
          (ap (λ e. e.event) last_is ∙ f.named.asks))

  -- such a history leaves no choice
  pub turns_once : ((events : List Happened) (place : ℕ) (before again : State) (event same : Happened) (one other : Reply) → IsAt opening events place before event one → IsAt opening events place again same other → (event ≡ same) × (before ≡ again) × (one ≡ other))
      → (events a b : List Happened) (command : Command) (answer place place' : ℕ) (reply reply' : Reply)
      → FollowsPlain opening caller events command answer (DoneAt place reply) a → FollowsPlain opening caller events command answer (DoneAt place' reply') b → (place ≡ place') × (reply ≡ reply') × (a ≡ b)
  turns_once at_once events a b command answer place place' reply reply' one other = (same_place, same_reply, same_events)
    where
      t : Turn opening caller events command answer place a
      t = turn_of events a command answer place reply one

      t' : Turn opening caller events command answer place' b
      t' = turn_of events b command answer place' reply' other

      state : t.before ≡ t'.before
      state = leads_once events t.before t'.before t.leads t'.leads

      moment : max answer t.before.greatest ≡ max answer t'.before.greatest
      moment = ap (λ s. max answer s.greatest) state

      front : t.front ≡ t'.front
      front = same_front opening leads_once events t'.before caller (max answer t'.before.greatest) command t.front t'.front t.last t'.last t'.leads t.no_command t'.no_command
          (subst (λ m. AreOwn caller m t.front) moment t.own) t'.own
          (subst (λ s. Leads s (t.front ++ done_event caller (max answer t'.before.greatest) (CommandOf command) ∷ []) t.last) state (subst (λ m. Leads t.before (t.front ++ done_event caller m (CommandOf command) ∷ []) t.last) moment t.on)) t'.on

      same_events : a ≡ b
      same_events = t.is ∙ ap (λ l. events ++ (l ++ done_event caller (max answer t.before.greatest) (CommandOf command) ∷ [])) front
          ∙ ap (λ m. events ++ (t'.front ++ done_event caller m (CommandOf command) ∷ [])) moment ∙ sym t'.is

      same_place : place ≡ place'
      same_place = omega (arith, t.at_end, t'.at_end, ap length same_events)

      same_reply : reply ≡ reply'
      same_reply = (at_once b place' one.follows.named.before other.follows.named.before one.follows.named.event other.follows.named.event reply reply'
          (subst (λ p. IsAt opening b p one.follows.named.before one.follows.named.event reply) same_place (subst (λ l. IsAt opening l place one.follows.named.before one.follows.named.event reply) same_events one.follows.named.is_at)) other.follows.named.is_at).2
