-- What one turn of the database makes of its history.
use Rattle.std.proofs.Common.{◌≡◌, inl, inr, ℕ, ◌+◌, List, [], ◌∷◌, ◌++◌, length, take, max}
use Rattle.std.proofs.Common.{Option, None, Some, IfSome, slice_get, refl, sym, ap, subst, ◌∙◌, append_assoc, arith}
use Rattle.std.specs.Prelude.{cond, count_by}
use Rattle.std.specs.List.{AllByRecursion}
use Rattle.std.proofs.lemmas.List.{append-nil, length-append}
use Rattle.std.proofs.lemmas.List.Sums.{sum_by-append}
use Rattle.std.proofs.Math.Seq.{take-append_seam}
use Rattle.active_snapshot.specs.Views.{AreViews, IsLast}
use Rattle.disk_model.specs.Pair.{DiskPair, NoneFell}
use Rattle.commands.specs.declared.command.Command.{Command}
use Rattle.commit_journal.specs.Journal.{disks_of}
use Rattle.commit_ledger.specs.Kept.{Kept as KeptList}
use Rattle.config_core.specs.declared.event.Event.{Event}
use Rattle.config_core.specs.declared.event.Event.TheVariants.{Command as CommandOf}
use Rattle.config_core.specs.declared.reply.Reply.{Reply}
use Rattle.config_core.specs.Machine.{Steps}
use Rattle.config_core.specs.Serving.{Turned}
use Rattle.config_core.specs.State.{State, opening_of}
use Rattle.config_db.specs.declared.answer.Answered.{Answered}
use Rattle.config_db.specs.declared.answer.Answered.TheVariants.{Kept, NoMemory}
use Rattle.config_db.specs.declared.answer.Ticked.{Ticked}
use Rattle.config_db.specs.Answers.{Answers, IsAnswer, IsAnswered, MakesWay, moment_at}
use Rattle.config_db.specs.Faults.{RoseBy, is_failed_command}
use Rattle.config_db.specs.Moves.{Extends, HasCause}
use Rattle.config_db.specs.Shown.{Shows}
use Rattle.config_db.specs.View.{DatabaseView, opened}
use Rattle.config_db.proofs.CalledLemmas.{called_none, called_then}
use Rattle.config_db.proofs.DiskLemmas.{goes_further, goes_nowhere, rose_first, rose_last, tell_on}
use Rattle.config_db.proofs.FaultLemmas.{counted_more, counted_none}
use Rattle.session_history.specs.declared.history.Happened.{Happened}
use Rattle.session_history.specs.Events.{IsAskedAt, IsAt, Leads, is_command, places_from, places_of, IsEventOf}
use Rattle.session_history.specs.Kept.{WasKept}
use Rattle.session_history.proofs.EventLemmas.{Leads-append, at_seam, no_places, one_place, places_from-append, places_of-append}
use Rattle.turn_lock.specs.Histories.{AddsOwn}
use Rattle.session_threads.specs.declared.noted.Note.{Note}
use Rattle.session_threads.specs.Adding.{AddsUp, NotesAreCounted}
use Rattle.session_threads.specs.Begun.{start_of}
use Rattle.session_threads.specs.Gates.{TellsKept}
use Rattle.session_threads.specs.History.{HasEvent, IsTurn, places_answered}
use Rattle.session_threads.specs.Looks.{LooksAlone}
use Rattle.session_threads.specs.Noted.{AreUpTo, caller_in, merged}
use Rattle.session_threads.specs.Served.{IsUnderway}
use Rattle.session_threads.specs.Passes.{FollowsAlone}
use Rattle.session_threads.proofs.ListLemmas.{All-append, All-weaker, all_back}
use Rattle.session_threads.proofs.NotedLemmas.{AddsOwn-merged, AreUpTo-append}

-- a step of the machine is one of the event that it has become
steps_of : (s : State) (caller moment : ℕ) (event : Event) (turned : Turned) (h : Happened)
    → h.caller ≡ caller → h.moment ≡ moment → h.event ≡ event
    → Steps s caller moment event h.outcome turned → Steps s h.caller h.moment h.event h.outcome turned
steps_of s caller moment event turned h callers moments events steps =
    subst (λ x. Steps s x h.moment h.event h.outcome turned) (sym callers)
    (subst (λ x. Steps s caller x h.event h.outcome turned) (sym moments)
    (subst (λ x. Steps s caller moment x h.outcome turned) (sym events) steps))

-- the last of a caller's own events is the caller's, at that moment
last_of : (caller moment : ℕ) (front own : List Happened) (last : Happened) → own ≡ front ++ last ∷ []
    → AllByRecursion (IsEventOf caller moment) own → IsEventOf caller moment last
last_of caller moment front own last is made =
    (all_back (IsEventOf caller moment) front (last ∷ []) (subst (AllByRecursion (IsEventOf caller moment)) is made)).0

-- the events before a command's place lead to the state in which it was asked
pub asked_leads : (opening : State) (caller moment : ℕ) (command : Command) (place : ℕ) (reply : Reply) (own : List Happened)
    (v v' : DatabaseView) → Leads opening v.events v.state → (given : IsAnswered caller moment command place reply own v v')
    → Leads opening (take place (v.events ++ own)) given.before
asked_leads opening caller moment command place reply own v v' leads given =
    let ahead : List Happened = v.events ++ given.front in
    let whole : v.events ++ own ≡ ahead ++ given.last ∷ [] =
    ap (λ l. v.events ++ l) given.is_own ∙ sym (append_assoc v.events given.front (given.last ∷ [])) in
    subst (λ l. Leads opening (take place l) given.before) (sym whole)
    (subst (λ front. Leads opening front given.before)
    (sym (ap (λ p. take p (ahead ++ given.last ∷ [])) given.at_end ∙ take-append_seam ahead (given.last ∷ [])))
    (Leads-append opening v.events given.front v.state given.before leads given.leads))

-- the command stands at its place of the grown history
is_asked : (opening : State) (caller answer moment : ℕ) (command : Command) (place : ℕ) (reply : Reply) (own : List Happened)
    (v v' : DatabaseView) → Leads opening v.events v.state → moment ≡ max answer v.state.greatest
    → AllByRecursion (IsEventOf caller moment) own → IsAnswered caller moment command place reply own v v'
    → IsAskedAt opening (v.events ++ own) place caller answer command reply
is_asked opening caller answer moment command place reply own v v' leads is_moment made given =
    let ahead : List Happened = v.events ++ given.front in
    let whole : v.events ++ own ≡ ahead ++ given.last ∷ [] =
    ap (λ l. v.events ++ l) given.is_own ∙ sym (append_assoc v.events given.front (given.last ∷ [])) in
    let last : IsEventOf caller moment given.last = last_of caller moment given.front own given.last given.is_own made in
    record {
      before = given.before;
      event = given.last;
      is_at = subst (λ l. IsAt opening l place given.before given.last reply) (sym whole) (record {
        within = omega (arith, given.at_end, length-append ahead (given.last ∷ []));
        is = ap (λ p. slice_get (ahead ++ given.last ∷ []) p) given.at_end ∙ at_seam ahead [] given.last;
        leads = subst (λ l. Leads opening (take place l) given.before) whole
            (asked_leads opening caller moment command place reply own v v' leads given);
        turned = given.turned;
        steps = steps_of given.before caller moment (CommandOf command) given.turned given.last last.0 last.1 given.asks given.steps;
        replied = given.replied;
      });
      own = last.0;
      when = omega (arith, last.1, is_moment, given.since, given.no_later);
      asks = given.asks;
    }

named : (opening : State) (caller answer moment : ℕ) (command : Command) (answered : Answered) (own : List Happened)
    (v v' : DatabaseView) → Leads opening v.events v.state → moment ≡ max answer v.state.greatest
    → AllByRecursion (IsEventOf caller moment) own → IsAnswer caller moment command answered own v v'
    → HasEvent opening caller (v.events ++ own) command answer answered
named opening caller answer moment command (Kept place reply) own v v' leads is_moment made given =
    is_asked opening caller answer moment command place reply own v v' leads is_moment made given
named opening caller answer moment command NoMemory own v v' leads is_moment made given = tt

-- the places of a caller's own events
places : (caller moment : ℕ) (command : Command) (answered : Answered) (own : List Happened) (v v' : DatabaseView)
    → AllByRecursion (IsEventOf caller moment) own → IsAnswer caller moment command answered own v v'
    → places_of caller (v.events ++ own) ≡ places_of caller v.events ++ places_answered answered
places caller moment command (Kept place reply) own v v' made given =
    let at_end : length v.events + length given.front ≡ place = omega (arith, given.at_end, length-append v.events given.front) in
    let last : IsEventOf caller moment given.last = last_of caller moment given.front own given.last given.is_own made in
    places_of-append caller v.events own
    ∙ ap (λ l. places_of caller v.events ++ places_from (length v.events) caller l) given.is_own
    ∙ ap (λ l. places_of caller v.events ++ l) (places_from-append (length v.events) caller given.front (given.last ∷ [])
    ∙ ap (λ l. l ++ places_from (length v.events + length given.front) caller (given.last ∷ []))
    (no_places (length v.events) caller given.front given.no_command)
    ∙ one_place (length v.events + length given.front) caller given.last (ap is_command given.asks) last.0
    ∙ ap (λ p. p ∷ []) at_end)
places caller moment command NoMemory own v v' made given =
    places_of-append caller v.events own
    ∙ ap (λ l. places_of caller v.events ++ l) (no_places (length v.events) caller own given.no_command)

-- what a turn's own events are
turned : (caller moment : ℕ) (command : Command) (answered : Answered) (own : List Happened) (v v' : DatabaseView)
    → v'.events ≡ v.events ++ own → IsAnswer caller moment command answered own v v' → IsTurn answered own v'.events
turned caller moment command (Kept place reply) own v v' grown given = record {
  front = given.front;
  last = given.last;
  is_own = given.is_own;
  no_command = given.no_command;
  at_end = omega (
    arith,
    ap length grown,
    length-append v.events own,
    ap length given.is_own,
    length-append given.front (given.last ∷ []),
    given.at_end,
    length-append v.events given.front,
  );
}
turned caller moment command NoMemory own v v' grown given = given.no_command

-- a copy of what is kept is the last of a list whose last one that is
pub IsLast-again : {V : Type 0} (value : V → KeptList) (list : List KeptList) (view : Option V) (last kept : KeptList)
    → IfSome view (λ v. value v ≡ last) → last ≡ kept → IsLast list kept → IfSome view (λ v. IsLast list (value v))
IsLast-again value list None last kept same is is_last = tt
IsLast-again value list (Some v) last kept same is is_last = subst (IsLast list) (sym (same ∙ is)) is_last

-- nothing happened
pub AddsUp-none : (v : DatabaseView) → AddsUp [] v v
AddsUp-none v = record {
  same = record { opening = refl; users = refl };
  goes = goes_nowhere v.journal;
  called = λ tell. called_none v.journal;
  causes = tt;
  counted = counted_none (disks_of v.journal) (disks_of v.journal) (omega arith) (omega arith);
}

-- events, and then those of one turn
pub AddsUp-then : (caller moment : ℕ) (events own : List Happened) (u v w : DatabaseView) → AddsUp events u v
    → Extends caller moment own v w → AddsUp (events ++ own) u w
AddsUp-then caller moment events own u v w first next = record {
  same = record { opening = next.same.opening ∙ first.same.opening; users = next.same.users ∙ first.same.users };
  goes = goes_further u.journal v.journal w.journal first.goes next.goes;
  called = λ tell. called_then u.journal v.journal w.journal (first.called tell) (next.called (tell_on u.journal v.journal first.goes tell));
  causes = All-append (HasCause u.journal w.journal) events own
      (All-weaker (HasCause u.journal v.journal) (HasCause u.journal w.journal) events
      (λ e cause is. rose_first u.journal v.journal w.journal (cause is) next.goes) first.causes)
      (All-weaker (HasCause v.journal w.journal) (HasCause u.journal w.journal) own
      (λ e cause is. rose_last u.journal v.journal w.journal first.goes next.goes (cause is)) next.causes);
  counted = counted_more events own (disks_of u.journal) (disks_of v.journal) (disks_of w.journal) next.goes.faults_a
      next.goes.faults_b first.counted next.counted;
}

-- what adds up from a database on adds up from how it began on
AddsUp-begins : (events : List Happened) (v w : DatabaseView) → AddsUp events v w
    → AddsUp events (start_of v) w
AddsUp-begins events v w adds = record {
  same = record { opening = adds.same.opening; users = adds.same.users };
  goes = adds.goes;
  called = adds.called;
  causes = adds.causes;
  counted = adds.counted;
}

-- and the other way
pub AddsUp-begun : (events : List Happened) (v w : DatabaseView) → AddsUp events (start_of v) w
    → AddsUp events v w
AddsUp-begun events v w adds = record {
  same = record { opening = adds.same.opening; users = adds.same.users };
  goes = adds.goes;
  called = adds.called;
  causes = adds.causes;
  counted = adds.counted;
}

-- counts that rose by so many, and then by more
pub rose_on : (many more : ℕ) (p q r : DiskPair) → NoneFell q r → RoseBy many p q → RoseBy more q r → RoseBy (many + more) p r
rose_on many more p q r on (inl full) next = inl (omega (arith, full, on.0))
rose_on many more p q r on (inr (inl full)) next = inr (inl (omega (arith, full, on.1)))
rose_on many more p q r on (inr (inr rose)) (inl full) = inl full
rose_on many more p q r on (inr (inr rose)) (inr (inl full)) = inr (inl full)
rose_on many more p q r on (inr (inr rose)) (inr (inr risen)) = inr (inr (omega (arith, rose, risen)))

-- no event and no note yet
NotesAreCounted-none : (v : DatabaseView) → NotesAreCounted [] [] (start_of v) v
NotesAreCounted-none v = let none : count_by is_failed_command [] ≡ 0 = refl in inr (inr (omega (arith, none)))

-- events and notes, and then the events of one turn
NotesAreCounted-then : (caller moment : ℕ) (events own : List Happened) (notes : List Note) (u v w : DatabaseView)
    → NotesAreCounted events notes u v → Extends caller moment own v w → NotesAreCounted (events ++ own) notes u w
NotesAreCounted-then caller moment events own notes u v w first next =
    let both : count_by is_failed_command (events ++ own) ≡ count_by is_failed_command events + count_by is_failed_command own =
    sum_by-append (λ event. cond (is_failed_command event) 1 0) events own in
    subst (λ many. RoseBy many (disks_of u.journal) (disks_of w.journal)) (omega (arith, both))
    (rose_on (count_by is_failed_command events + length notes) (count_by is_failed_command own) (disks_of u.journal)
    (disks_of v.journal) (disks_of w.journal) (next.goes.faults_a, next.goes.faults_b) first next.counted.commands)

-- before the first turn
pub IsUnderway-none : (first v : DatabaseView) → first ≡ start_of v → v.events ≡ [] → v.state ≡ opened v
    → IsUnderway (record { first = first; database = v; notes = [] })
IsUnderway-none first v same fresh starts =
    subst (λ (u : DatabaseView). IsUnderway (record { first = u; database = v; notes = [] })) (sym same) (record {
      fresh = refl;
      leads = subst (λ l. Leads (opened v) l v.state) (sym fresh) starts;
      adds = subst (λ l. AddsUp l (start_of v) v) (sym fresh) (AddsUp-begins [] v v (AddsUp-none v));
      noted = subst (λ l. NotesAreCounted l [] (start_of v) v) (sym fresh) (NotesAreCounted-none v);
      up_to = tt;
    })

module _ (caller moment : ℕ) (own : List Happened) (notes : List Note) (first v v' : DatabaseView)
    (extends : Extends caller moment own v v') where
  -- after one turn more
  pub IsUnderway-then : IsUnderway (record { first = first; database = v; notes = notes })
      → IsUnderway (record { first = first; database = v'; notes = notes })
  IsUnderway-then is = record {
    fresh = is.fresh;
    leads = subst (λ l. Leads (opened first) l v'.state) (sym extends.grown)
        (Leads-append (opened first) v.events own v.state v'.state is.leads extends.leads);
    adds = subst (λ l. AddsUp l first v') (sym extends.grown)
        (AddsUp-then caller moment v.events own first v v' is.adds extends);
    noted = subst (λ l. NotesAreCounted l notes first v') (sym extends.grown)
        (NotesAreCounted-then caller moment v.events own notes first v v' is.noted extends);
    up_to = subst (λ l. AreUpTo (length l) notes) (sym extends.grown) (AreUpTo-append v.events own notes is.up_to);
  }

  -- the turn's events are the caller's
  pub AddsOwn-of : AreUpTo (length v.events) notes
      → AddsOwn caller_in caller (merged 0 v.events notes) (merged 0 v'.events notes)
  AddsOwn-of up_to =
      subst (λ l. AddsOwn caller_in caller (merged 0 v.events notes) (merged 0 l notes)) (sym extends.grown)
      (AddsOwn-merged caller v.events own notes up_to
      (All-weaker (IsEventOf caller moment) (λ event. event.caller ≡ caller) own (λ event is. is.0) extends.made))

-- the history after the turn of a command
pub FollowsAlone-of : (first v v' : DatabaseView) (caller answer : ℕ) (command : Command) (answered : Answered)
    → Leads (opened first) v.events v.state → Answers caller (moment_at answer v) command answered v v'
    → FollowsAlone first caller v.events command answer answered v'.events
FollowsAlone-of first v v' caller answer command answered leads asks = record {
  follows = record {
    grows = record {
      others = [];
      own = asks.own;
      grown = asks.extends.grown;
      not_own = tt;
      before = v.state;
      leads = subst (λ l. Leads (opened first) l v.state) (sym (append-nil v.events)) leads;
      made = asks.extends.made;
    };
    named = subst (λ l. HasEvent (opened first) caller l command answer answered) (sym asks.extends.grown)
        (named (opened first) caller answer (moment_at answer v) command answered asks.own v v' leads refl asks.extends.made
        asks.answer);
    turn = turned caller (moment_at answer v) command answered asks.own v v' asks.extends.grown asks.answer;
    places = ap (places_of caller) asks.extends.grown
        ∙ places caller (moment_at answer v) command answered asks.own v v' asks.extends.made asks.answer;
  };
  alone = refl;
}

-- a database began over the same list, for the same users
pub opened_same : (first v : DatabaseView) (notes : List Note) → IsUnderway (record { first = first; database = v; notes = notes })
    → opened v ≡ opened first
opened_same first v notes underway = λ i. opening_of (underway.adds.same.opening i) (underway.adds.same.users i)

-- what a database reports of the lists that it kept
pub TellsKept-of : (first v : DatabaseView) (notes : List Note) → IsUnderway (record { first = first; database = v; notes = notes })
    → AreViews v.shown.list → Shows (opened v) v.events v.state v.shown → TellsKept (opened first) v.events v.shown.list
TellsKept-of first v notes underway views shows =
    let same : opened v ≡ opened first = opened_same first v notes underway in
    record {
      after = v.state;
      leads = underway.leads;
      views = views;
      each = subst (λ s. AllByRecursion (WasKept s v.events) v.shown.list) same shows.all;
      is_last = shows.last;
    }

-- the history after one look at the time
pub LooksAlone-of : (first v v' : DatabaseView) (answer : ℕ) (ticked : Ticked) → Leads (opened first) v.events v.state
    → MakesWay 0 (moment_at answer v) ticked v v' → LooksAlone (opened first) answer v.events v'.events
LooksAlone-of first v v' answer ticked leads way = record {
  looks = record {
    grows = record {
      others = [];
      own = way.own;
      grown = way.extends.grown;
      not_own = tt;
      before = v.state;
      leads = subst (λ l. Leads (opened first) l v.state) (sym (append-nil v.events)) leads;
      made = way.extends.made;
    };
    no_command = way.no_command;
  };
  alone = refl;
}
