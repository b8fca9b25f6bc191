-- What a turn makes of a pass.
use Rattle.std.proofs.Common.{◌≡◌, ◌≢◌, ◌<◌, ◌≤◌, ◌&&◌, ℕ, ◌+◌, Bool, true, false, List, [], ◌∷◌, ◌++◌, length, cond, Some}
use Rattle.std.proofs.Common.{eqb, eq-eqb, ne_eqb, refl, sym, ap, subst, ◌∙◌, append_assoc}
use Rattle.std.specs.List.{AllByRecursion}
use Rattle.std.proofs.lemmas.List.{append-nil, append_cancel_left}
use Rattle.atomic_table.specs.Seated.{TableId}
use Rattle.commands.specs.declared.command.Command.{Command}
use Rattle.config_core.specs.State.{State}
use Rattle.config_db.specs.declared.answer.Answered.{Answered}
use Rattle.config_db.specs.declared.answer.Answered.TheVariants.{NoMemory}
use Rattle.config_db.specs.View.{DatabaseView, opened}
use Rattle.session_history.specs.declared.history.Happened.{Happened}
use Rattle.session_history.specs.Events.{IsLegal, Leads, is_command, places_from, places_of}
use Rattle.session_history.proofs.EventLemmas.{places_of-append}
use Rattle.turn_lock.specs.Histories.{entries_by}
use Rattle.turn_lock.specs.Passes.{TookTurn}
use Rattle.turn_lock.proofs.AccountLemmas.{grows}
use Rattle.turn_lock.proofs.EntryLemmas.{entries_by-append}
use Rattle.session_threads.specs.declared.noted.Noted.{Noted}
use Rattle.session_threads.specs.History.{FollowsTurn, Grows, places_answered}
use Rattle.session_threads.specs.Looks.{LooksAlone, LooksOnce}
use Rattle.session_threads.specs.Naming.{events_of-begins}
use Rattle.session_threads.specs.Noted.{GoesOnBy, caller_in, events_of, notes_of}
use Rattle.session_threads.specs.Passes.{CallerPass, FollowsAlone, IsReady, KnowsOwn, WentOn, events_seen}
use Rattle.session_threads.proofs.ListLemmas.{some_is}
use Rattle.session_threads.proofs.NotedLemmas.{notes_of-append, others-events}

pub not_kept : {A : Type 0} (b : Bool) (x : A) (xs : List A) → cond b (x ∷ xs) xs ≡ [] → (b ≡ false) × (xs ≡ [])
not_kept true x xs is = cc
not_kept false x xs is = (refl, is)

-- where a history has nothing of a caller, all is others'
others_by : (caller : ℕ) (list : List Noted) → entries_by caller_in caller list ≡ []
    → AllByRecursion (λ entry. caller_in entry ≢ caller) list
others_by caller [] none = tt
others_by caller (entry ∷ list) none =
    let here = not_kept (eqb (caller_in entry) caller) entry (entries_by caller_in caller list) none in (
      (λ is. let both : true ≡ false = sym (eq-eqb (caller_in entry) caller is) ∙ here.0 in cc),
      others_by caller list here.1,
    )

-- so are its events
pub none_by : (caller : ℕ) (list : List Noted) → entries_by caller_in caller list ≡ []
    → AllByRecursion (λ event. event.caller ≢ caller) (events_of list)
none_by caller list none = others-events caller list (others_by caller list none)

-- two histories have the same of a caller: the events that the longer has more are others'
pub others_behind : (caller : ℕ) (list more own : List Noted) → entries_by caller_in caller list ≡ own
    → entries_by caller_in caller (list ++ more) ≡ own → AllByRecursion (λ event. event.caller ≢ caller) (events_of more)
others_behind caller list more own had have = none_by caller more
    (append_cancel_left own (entries_by caller_in caller more) []
    (ap (λ l. l ++ entries_by caller_in caller more) (sym had) ∙ sym (entries_by-append caller_in caller list more) ∙ have
    ∙ sym (append-nil own)))

not_both : (a b : Bool) → b ≡ false → a && b ≡ false
not_both true b isn't = isn't
not_both false b isn't = refl

-- others' commands have no places of a caller
no_places_of : (place caller : ℕ) (events : List Happened) → AllByRecursion (λ event. event.caller ≢ caller) events
    → places_from place caller events ≡ []
no_places_of place caller [] others = refl
no_places_of place caller (event ∷ events) others =
    ap (λ b. cond b (place ∷ places_from (place + 1) caller events) (places_from (place + 1) caller events))
    (not_both (is_command event.event) (eqb event.caller caller) (ne_eqb event.caller caller others.0))
    ∙ no_places_of (place + 1) caller events others.1

module _ (opening : State) (caller answer : ℕ) (seen others before events' : List Happened) (is : before ≡ seen ++ others)
    (not_own : AllByRecursion (λ event. event.caller ≢ caller) others) where
  -- what grew after others' events
  pub Grows-behind : (grew : Grows opening caller answer before events') → grew.others ≡ []
      → Grows opening caller answer seen events'
  Grows-behind grew alone = record {
    others = others;
    own = grew.own;
    grown = grew.grown ∙ ap (λ l. before ++ (l ++ grew.own)) alone ∙ ap (λ l. l ++ grew.own) is ∙ append_assoc seen others grew.own;
    not_own = not_own;
    before = grew.before;
    leads = subst (λ l. Leads opening l grew.before) (ap (λ l. before ++ l) alone ∙ append-nil before ∙ is) grew.leads;
    made = grew.made;
  }

  Follows-behind : (command : Command) (answered : Answered) (follows : FollowsTurn opening caller before command answer answered events')
      → follows.grows.others ≡ [] → FollowsTurn opening caller seen command answer answered events'
  unfolding Grows-behind
  Follows-behind command answered follows alone = record {
    grows = Grows-behind follows.grows alone;
    named = follows.named;
    turn = follows.turn;
    places = follows.places ∙ ap (λ l. l ++ places_answered answered) (ap (places_of caller) is ∙ places_of-append caller seen others
        ∙ ap (λ l. places_of caller seen ++ l) (no_places_of (length seen) caller others not_own) ∙ append-nil (places_of caller seen));
  }

-- a look after others' events
pub LooksOnce-behind : (opening : State) (answer : ℕ) (seen others before events' : List Happened) → before ≡ seen ++ others
    → AllByRecursion (λ event. event.caller ≢ 0) others → LooksAlone opening answer before events'
    → LooksOnce opening answer seen events'
unfolding Grows-behind
LooksOnce-behind opening answer seen others before events' is not_own looked = record {
  grows = Grows-behind opening 0 answer seen others before events' is not_own looked.looks.grows looked.alone;
  no_command = looked.looks.no_command;
}

-- nothing happened, and memory ran out
pub FollowsTurn-none : (opening : State) (caller answer : ℕ) (events : List Happened) (command : Command) → IsLegal opening events
    → FollowsTurn opening caller events command answer NoMemory events
FollowsTurn-none opening caller answer events command legal = record {
  grows = record {
    others = [];
    own = [];
    grown = sym (append-nil events);
    not_own = tt;
    before = legal.0;
    leads = subst (λ l. Leads opening l legal.0) (sym (append-nil events)) legal.1;
    made = tt;
  };
  named = tt;
  turn = tt;
  places = sym (append-nil (places_of caller events));
}

pub WentOn-same : (pass : CallerPass) → KnowsOwn pass → WentOn pass pass
WentOn-same pass own = record {
  lock = refl;
  caller = refl;
  fixed = refl;
  callers = refl;
  splits = refl;
  ended = refl;
  later = ([], append-nil pass.seen);
  own = own;
}

pub WentOn-then : (a b c : CallerPass) → WentOn a b → WentOn b c → WentOn a c
WentOn-then a b c first next = record {
  lock = next.lock ∙ first.lock;
  caller = next.caller ∙ first.caller;
  fixed = next.fixed ∙ first.fixed;
  callers = next.callers ∙ first.callers;
  splits = next.splits ∙ first.splits;
  ended = next.ended ∙ first.ended;
  later = (
    first.later.0 ++ next.later.0,
    sym (append_assoc a.seen first.later.0 next.later.0) ∙ ap (λ l. l ++ next.later.0) first.later.1 ∙ next.later.1,
  );
  own = next.own;
}

module _ (says : DatabaseView → List Noted → List Noted → Type 0) (old new : CallerPass)
    (took : TookTurn caller_in says old new) where
  pub WentOn-took : WentOn old new
  WentOn-took = record {
    lock = ap (λ (p : CallerPass). p.lock) took.is_new;
    caller = ap (λ (p : CallerPass). p.caller) took.is_new;
    fixed = ap (λ (p : CallerPass). p.fixed) took.is_new;
    callers = ap (λ (p : CallerPass). p.callers) took.is_new;
    splits = ap (λ (p : CallerPass). p.splits) took.is_new;
    ended = ap (λ (p : CallerPass). p.ended) took.is_new;
    later = (grows caller_in says old new took).0;
    own = (grows caller_in says old new took).1;
  }

  -- what came after the events that the pass had seen, before its turn, is others'
  pub not_own-took : KnowsOwn old → AllByRecursion (λ event. event.caller ≢ old.caller) (events_of took.begins.0)
  not_own-took own = others_behind old.caller old.seen took.begins.0 old.own own
      (ap (entries_by caller_in old.caller) took.begins.1 ∙ took.had_own)

  -- the history that the deed found has the events that the pass had seen, and these
  pub before-took : events_of took.before ≡ events_seen old ++ events_of took.begins.0
  before-took = sym (events_of-begins old.seen took.before took.begins)

  pub seen-took : new.seen ≡ took.before ++ took.added
  seen-took = ap (λ (p : CallerPass). p.seen) took.is_new

  pub own-took : new.own ≡ old.own ++ took.added
  own-took = ap (λ (p : CallerPass). p.own) took.is_new

  -- the notes that a turn wrote are the pass's own
  pub notes-took : (more : List ℕ) → notes_of (took.before ++ took.added) ≡ notes_of took.before ++ more
      → notes_of new.own ≡ notes_of old.own ++ more
  notes-took more noted =
      let wrote : notes_of took.added ≡ more =
      append_cancel_left (notes_of took.before) (notes_of took.added) more (sym (notes_of-append took.before took.added) ∙ noted) in
      ap notes_of own-took ∙ notes_of-append old.own took.added ∙ ap (λ l. notes_of old.own ++ l) wrote

-- how a pass follows after a turn that asked a command, which wrote these notes
pub FollowsTurn-took : (old new : CallerPass) (command : Command) (answer : ℕ) (answered : Answered) (more : List ℕ)
    (More : DatabaseView → List Happened → Type 0) → KnowsOwn old
    → TookTurn caller_in (λ first before after.
    GoesOnBy (λ were are. FollowsAlone first old.caller were command answer answered are × More first are) more before after) old new
    → WentOn old new × (notes_of new.own ≡ notes_of old.own ++ more) × ((first : DatabaseView) → old.fixed ≡ Some first
    → FollowsTurn (opened first) old.caller (events_seen old) command answer answered (events_seen new) × More first (events_seen new))
FollowsTurn-took old new command answer answered more More own took =
    let says : DatabaseView → List Noted → List Noted → Type 0 =
    λ first before after.
    GoesOnBy (λ were are. FollowsAlone first old.caller were command answer answered are × More first are) more before after in
    let after : List Happened = events_of (took.before ++ took.added) in
    let behind : FollowsTurn (opened took.fixed) old.caller (events_seen old) command answer answered after =
    Follows-behind (opened took.fixed) old.caller answer (events_seen old) (events_of took.begins.0) (events_of took.before) after
    (before-took says old new took) (not_own-took says old new took own) command answered took.said.said.0.follows
    took.said.said.0.alone in (
      WentOn-took says old new took,
      notes-took says old new took more took.said.noted,
      λ first fixed.
          subst (λ f. FollowsTurn (opened f) old.caller (events_seen old) command answer answered (events_seen new)
          × More f (events_seen new)) (some_is (sym took.is_fixed ∙ fixed))
          (subst (λ (l : List Noted). FollowsTurn (opened took.fixed) old.caller (events_seen old) command answer answered (events_of l)
          × More took.fixed (events_of l)) (sym (seen-took says old new took)) (behind, took.said.said.1)),
    )

pub IsReady-then : (lock : TableId) (first : DatabaseView) (old new : CallerPass) → IsReady lock first old → WentOn old new
    → IsLegal (opened first) (events_seen new) → IsReady lock first new
IsReady-then lock first old new ready goes legal = record {
  here = goes.lock ∙ ready.here;
  fixed = goes.fixed ∙ ready.fixed;
  within = subst (λ c. (0 < c) × (c ≤ length first.users)) (sym goes.caller) ready.within;
  own = goes.own;
  legal = legal;
}
