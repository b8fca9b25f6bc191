-- Sessions over histories that one caller made alone, and what views of one run show.
use Rattle.std.proofs.Common.{◌≡◌, ◌≢◌, ◌+◌, if◌then◌else◌, false, max, ℕ, List, [], ◌∷◌, ◌++◌, map, take, refl, sym, ap, subst, ◌∙◌, arith, Some, Bool, true, inl, inr}
use Rattle.std.proofs.lemmas.Bool.{false≢true}
use Rattle.std.proofs.lemmas.List.{length-map, map-append, take-map}
use Rattle.std.specs.List.{AllByRecursion}
use Rattle.access_rules.specs.declared.right.Right.{Right}
use Rattle.commands.specs.declared.command.Command.{Command}
use Rattle.commit_ledger.specs.Kept.{Kept}
use Rattle.config_core.specs.declared.reply.Reply.{Reply}
use Rattle.config_core.specs.State.{State}
use Rattle.config_db.specs.declared.answer.Answered.{Answered}
use Rattle.config_db.specs.declared.answer.Answered.TheVariants.{Kept as DoneAt, NoMemory as Wanting}
use Rattle.session_history.specs.declared.history.Happened.{Happened}
use Rattle.session_history.specs.Events.{IsAskedAt, IsAt, IsLegal, Leads, is_asked_by, is_command, places_from, IsEventOf}
use Rattle.session_history.specs.Kept.{WasKept}
use Rattle.session_shell.specs.declared.door.Given0.{Given0}
use Rattle.session_shell.specs.declared.door.Given0.TheVariants.{Kept as KeptAt, Seen, Denied, Unready, NoMemory}
use Rattle.session_shell.specs.declared.reading.Reading.TheVariants.{Operational}
use Rattle.session_shell.specs.declared.json_show.Manner.{Manner}
use Rattle.session_shell.specs.Exchange.{Exchange, Asked, Failure, Lack, Refused, Wanted, IsWrittenIn, item_asked, asked_item, turn_taken}
use Rattle.session_shell.specs.Law.{Agree, SeeAlike, Undisturbed, basis_at, is_wanting}
use Rattle.session_shell.specs.Transcript.{Following, GoesBy, SessionView, SyncsBy, TakesAnswers, TakesTurns}
use Rattle.session_shell.proofs.LawLemmas.{AllWere, Once, all_same, asked_is, not_dry, outcome_same, same_front, sync_given}
use Rattle.session_threads.specs.History.{FollowsAsked, FollowsDenied, FollowsTurn, FollowsUnready, HasEvent, HasView, IsTurn, Known, Names, ShowsKept, known_first, places_answered}
use Rattle.session_threads.specs.Syncs.{WithoutBackup}
use Rattle.session_threads.proofs.ListLemmas.{all_back, some_is}
use Rattle.session_threads.proofs.SyncLemmas.{goes_behind, synced_there}
use Rattle.service.specs.Alone.{AreAlike, IsAlone, IsCalm, unasked, uncounted}
use Rattle.service.proofs.AloneLemmas.{FollowsPlain, IsPlain, Leads-split}
use Rattle.service.proofs.BlindLemmas.{BeganAlike, FollowsBlind, all_written, blind, blind_given, blind_item, blind_logs_out, blind_manner, blind_moments, blind_peels, blind_reads, blind_stays, blind_syncs, blind_turns, texts_of, view_of}
use Rattle.service.proofs.GrowthLemmas.{more_events}
use Rattle.service.proofs.ListLemmas.{All-map, all_front, slice_get-map}

-- the events but for the numbers of calls
abbrev pub plain : List Happened → List Happened
plain events = map uncounted events

-- the machine doesn't look at the numbers of calls
plain_leads : (s : State) (events : List Happened) (last : State) → Leads s events last → Leads s (plain events) last
plain_leads s [] last leads = leads
plain_leads s (event ∷ events) last leads = (leads.0, leads.1, leads.2, plain_leads leads.1.state events last leads.3)

plain_legal : (s : State) (events : List Happened) → IsLegal s events → IsLegal s (plain events)
plain_legal s events legal = (legal.0, plain_leads s events legal.0 legal.1)

plain_append : (events more : List Happened) → plain (events ++ more) ≡ plain events ++ plain more
plain_append events more = map-append uncounted events more

plain_places : (place caller : ℕ) (events : List Happened) → places_from place caller (plain events) ≡ places_from place caller events
plain_places place caller [] = refl
plain_places place caller (event ∷ events) =
    ap (λ l. if is_asked_by caller event then place ∷ l else l) (plain_places (place + 1) caller events)

plain_asked : (opening : State) (events : List Happened) (place caller answer : ℕ) (command : Command) (reply : Reply) → IsAskedAt opening events place caller answer command reply → IsAskedAt opening (plain events) place caller answer command reply
plain_asked opening events place caller answer command reply asked = record {
  before = asked.before;
  event = uncounted asked.event;
  is_at = record {
    within = omega (arith, asked.is_at.within, length-map events uncounted);
    is = slice_get-map uncounted events place asked.event asked.is_at.is;
    leads = subst (λ l. Leads opening l asked.before) (sym (take-map uncounted place events)) (plain_leads opening (take place events) asked.before asked.is_at.leads);
    turned = asked.is_at.turned;
    steps = asked.is_at.steps;
    replied = asked.is_at.replied;
  };
  own = asked.own;
  when = asked.when;
  asks = asked.asks;
}

-- what was kept
plain_kept : (opening : State) (events : List Happened) (kept : Kept) → WasKept opening events kept → WasKept opening (plain events) kept
plain_kept opening events kept was = record {
  count = was.count;
  state = was.state;
  leads = subst (λ l. Leads opening l was.state) (sym (take-map uncounted was.count events)) (plain_leads opening (take was.count events) was.state was.leads);
  is = was.is;
}

plain_view : (opening : State) (events : List Happened) (command : Command) (front : ℕ) (reply : Reply) → HasView opening events command front reply → HasView opening (plain events) command front reply
plain_view opening events command front reply view =
    record { kept = view.kept; was_kept = (plain_kept opening events view.kept view.was_kept.0, view.was_kept.1); shows = view.shows }

plain_event : (opening : State) (caller : ℕ) (events : List Happened) (command : Command) (answer : ℕ) (answered : Answered) → HasEvent opening caller events command answer answered → HasEvent opening caller (plain events) command answer answered
plain_event opening caller events command answer (DoneAt place reply) named = plain_asked opening events place caller answer command reply named
plain_event opening caller events command answer Wanting named = tt

plain_turn : (answered : Answered) (own events : List Happened) → IsTurn answered own events → IsTurn answered (plain own) (plain events)
plain_turn (DoneAt place reply) own events turn = record {
  front = plain turn.front;
  last = uncounted turn.last;
  is_own = ap plain turn.is_own ∙ plain_append turn.front (turn.last ∷ []);
  no_command = All-map uncounted (λ event. is_command event.event ≡ false) (λ event. is_command event.event ≡ false) turn.front (λ event is. is) turn.no_command;
  at_end = omega (arith, turn.at_end, length-map events uncounted);
}
plain_turn Wanting own events turn = All-map uncounted (λ event. is_command event.event ≡ false) (λ event. is_command event.event ≡ false) own (λ event is. is) turn

-- how a history follows, without the numbers of calls
plain_follows : (opening : State) (caller : ℕ) (events : List Happened) (command : Command) (answer : ℕ) (answered : Answered) (events' : List Happened) → FollowsTurn opening caller events command answer answered events' → FollowsTurn opening caller (plain events) command answer answered (plain events')
plain_follows opening caller events command answer answered events' follows =
    let grows = follows.grows in
    record {
      grows = record {
        others = plain grows.others;
        own = plain grows.own;
        grown = ap plain grows.grown ∙ plain_append events (grows.others ++ grows.own) ∙ ap (λ l. plain events ++ l) (plain_append grows.others grows.own);
        not_own = All-map uncounted (λ event. event.caller ≢ caller) (λ event. event.caller ≢ caller) grows.others (λ event is. is) grows.not_own;
        before = grows.before;
        leads = subst (λ l. Leads opening l grows.before) (plain_append events grows.others) (plain_leads opening (events ++ grows.others) grows.before grows.leads);
        made = All-map uncounted (IsEventOf caller (max answer grows.before.greatest)) (IsEventOf caller (max answer grows.before.greatest)) grows.own (λ event is. is) grows.made;
      };
      named = plain_event opening caller events' command answer answered follows.named;
      turn = plain_turn answered grows.own events' follows.turn;
      places = plain_places 0 caller events' ∙ follows.places ∙ ap (λ l. l ++ places_answered answered) (sym (plain_places 0 caller events));
    }

-- the first events of such a history are one
alone_front : (opening : State) (caller : ℕ) (events more : List Happened) → IsAlone opening caller (events ++ more) → IsAlone opening caller events
alone_front opening caller events more alone =
    let split = Leads-split opening events more alone.legal.0 alone.legal.1 in
    record { legal = (split.0, split.1); own = all_front _ events more alone.own; calm = all_front _ events more alone.calm }

-- nobody else's events stand among a caller's own
nobody : (caller : ℕ) (others : List Happened) → AllByRecursion (λ event. event.caller ≡ caller) others → AllByRecursion (λ event. event.caller ≢ caller) others → others ≡ []
nobody caller [] own other = refl
nobody caller (event ∷ others) own other = absurd (other.0 own.0)

-- what was answered from a view is named
abbrev pub IsViewGiven : State → List Happened → Command → Given0 → Type 0
IsViewGiven opening final command (KeptAt place reply) = Unit {0}
IsViewGiven opening final command (Seen front reply) = HasView opening final command front reply
IsViewGiven opening final command (Denied front right) = Unit {0}
IsViewGiven opening final command (Unready front) = Unit {0}
IsViewGiven opening final command NoMemory = Unit {0}

abbrev pub IsViewed : State → List Happened → Exchange → Type 0
IsViewed opening final (Asked moment command given manner) = IsViewGiven opening final command given
IsViewed opening final (Refused moment fault) = Unit {0}
IsViewed opening final (Wanted moment) = Unit {0}

-- where nobody's rights are asked no command is denied, and none finds a disk not ready
none_denied : (opening : State) (caller : ℕ) (final : List Happened) (d e : Known) (command : Command) (answer front : ℕ) (right : Right) → FollowsDenied (unasked opening caller) final d command answer front right e → ⊥
none_denied opening caller final d e command answer front right (inl refused) = refused.1.denied
none_denied opening caller final d e command answer front right (inr hidden) = hidden.denied

none_unready : (opening : State) (caller : ℕ) (final : List Happened) (d e : Known) (command : Command) (answer front : ℕ) → FollowsUnready (unasked opening caller) final d command answer front e → ⊥
none_unready opening caller final d e command answer front follows = follows.1.needs

-- each of these items that was answered from a view
pub all_viewed : (opening : State) (caller : ℕ) (final : List Happened) (exchanges : List Exchange) (d e : Known) → GoesBy (FollowsAsked (unasked opening caller) final) WithoutBackup exchanges d e → AllByRecursion (IsViewed opening (plain final)) exchanges
all_viewed opening caller final [] d e goes = tt
all_viewed opening caller final (Asked moment command (KeptAt place reply) manner ∷ exchanges) d e goes = (tt, all_viewed opening caller final exchanges goes.2 e goes.4)
all_viewed opening caller final (Asked moment command (Seen front reply) manner ∷ exchanges) d e goes =
    (plain_view opening final command front reply (record { kept = goes.1.view.kept; was_kept = goes.1.view.was_kept; shows = goes.1.shows }), all_viewed opening caller final exchanges goes.2 e goes.4)
all_viewed opening caller final (Asked moment command (Denied front right) manner ∷ exchanges) d e goes = absurd (none_denied opening caller final d goes.0 command moment front right goes.1)
all_viewed opening caller final (Asked moment command (Unready front) manner ∷ exchanges) d e goes = absurd (none_unready opening caller final d goes.0 command moment front goes.1)
all_viewed opening caller final (Asked moment command NoMemory manner ∷ exchanges) d e goes = (tt, all_viewed opening caller final exchanges goes.2 e goes.4)
all_viewed opening caller final (Refused moment fault ∷ exchanges) d e goes = (tt, all_viewed opening caller final exchanges d e goes)
all_viewed opening caller final (Wanted moment ∷ exchanges) d e goes = (tt, all_viewed opening caller final exchanges d e goes)

module _ (opening : State) (caller : ℕ) where
  follows_alone : (events : List Happened) (command : Command) (answer : ℕ) (answered : Answered) (events' : List Happened) → IsAlone opening caller events' → FollowsTurn opening caller events command answer answered events' →
      FollowsPlain opening caller (plain events) command answer answered (plain events')
  unfolding plain_follows
  follows_alone events command answer answered events' alone follows =
      let own : AllByRecursion (λ (event : Happened). event.caller ≡ caller) (events ++ (follows.grows.others ++ follows.grows.own)) = subst (AllByRecursion (λ event. event.caller ≡ caller)) follows.grows.grown alone.own in
      let calm : AllByRecursion IsCalm (events ++ (follows.grows.others ++ follows.grows.own)) = subst (AllByRecursion IsCalm) follows.grows.grown alone.calm in
      record {
        follows = plain_follows opening caller events command answer answered events' follows;
        alone = ap plain (nobody caller follows.grows.others (all_front _ follows.grows.others follows.grows.own (all_back _ events (follows.grows.others ++ follows.grows.own) own)) follows.grows.not_own);
        legal = plain_legal opening events' alone.legal;
        plain = All-map uncounted IsCalm IsPlain follows.grows.own (λ event is. (is.0, refl, is.1)) (all_back IsCalm follows.grows.others follows.grows.own (all_back IsCalm events (follows.grows.others ++ follows.grows.own) calm));
      }

  module _ (final : List Happened) where
    abbrev Goes : List Exchange → Known → Known → Type 0
    Goes exchanges d e = GoesBy (FollowsAsked (unasked opening caller) final) WithoutBackup exchanges d e

    abbrev GoesBlind : List Exchange → List Happened → List Happened → Type 0
    GoesBlind exchanges events events' = GoesBy (FollowsBlind opening caller) WithoutBackup exchanges events events'

    alone_before : (exchanges : List Exchange) (d e : Known) → Goes exchanges d e → IsAlone opening caller e.events → IsAlone opening caller d.events
    alone_before exchanges d e goes alone =
        let more = more_events (unasked opening caller) final exchanges d e goes in alone_front opening caller d.events more.0 (subst (IsAlone opening caller) more.1 alone)

    -- what is asked behind one item, of a door that stands as it did
    behind : (manner : Manner) (exchanges : List Exchange) (d last e : Known) → SyncsBy WithoutBackup manner d last → Goes exchanges last e → Goes exchanges d e
    behind manner exchanges d last e = goes_behind (FollowsAsked (unasked opening caller) final) manner d last e exchanges

    blind_there : (given : Given0) (manner : Manner) (d last : Known) → SyncsBy WithoutBackup manner d last → SyncsBy WithoutBackup (blind_manner given manner) (plain d.events) (plain d.events)
    blind_there given manner d last syncs = blind_stays given manner (plain d.events) (synced_there manner d last (plain d.events) syncs)

    goes_blind : (exchanges : List Exchange) (d e : Known) → IsAlone opening caller e.events → Goes exchanges d e → GoesBlind (map blind exchanges) (plain d.events) (plain e.events)
    goes_blind [] d e alone goes = ap (λ (k : Known). plain k.events) goes
    goes_blind (Asked moment command (KeptAt place reply) manner ∷ exchanges) d e alone goes =
        let rest : Goes exchanges goes.0 e = behind manner exchanges goes.0 goes.2 e goes.3 goes.4 in (
          plain goes.0.events,
          follows_alone d.events command moment (DoneAt place reply) goes.0.events (alone_before exchanges goes.0 e rest alone) goes.1.turn,
          plain goes.0.events,
          blind_there (KeptAt place reply) manner goes.0 goes.2 goes.3,
          goes_blind exchanges goes.0 e alone rest,
        )
    goes_blind (Asked moment command (Seen front reply) manner ∷ exchanges) d e alone goes =
        let rest : Goes exchanges goes.0 e = behind manner exchanges goes.0 goes.2 e goes.3 goes.4 in (
          plain goes.0.events,
          (ap plain goes.1.view.same, refl),
          plain goes.0.events,
          blind_there (Seen front reply) manner goes.0 goes.2 goes.3,
          goes_blind exchanges goes.0 e alone rest,
        )
    goes_blind (Asked moment command (Denied front right) manner ∷ exchanges) d e alone goes = absurd (none_denied opening caller final d goes.0 command moment front right goes.1)
    goes_blind (Asked moment command (Unready front) manner ∷ exchanges) d e alone goes = absurd (none_unready opening caller final d goes.0 command moment front goes.1)
    goes_blind (Asked moment command NoMemory manner ∷ exchanges) d e alone goes =
        let rest : Goes exchanges goes.0 e = behind manner exchanges goes.0 goes.2 e goes.3 goes.4 in (
          plain goes.0.events,
          follows_alone d.events command moment Wanting goes.0.events (alone_before exchanges goes.0 e rest alone) goes.1.turn,
          plain goes.0.events,
          blind_there NoMemory manner goes.0 goes.2 goes.3,
          goes_blind exchanges goes.0 e alone rest,
        )
    goes_blind (Refused moment fault ∷ exchanges) d e alone goes = goes_blind exchanges d e alone goes
    goes_blind (Wanted moment ∷ exchanges) d e alone goes = goes_blind exchanges d e alone goes

  module _ (limit : ℕ) (bytes : List ℕ) (coming : ℕ → ℕ) (after : Known) (view : SessionView)
      (quiet : Undisturbed (FollowsAsked (unasked opening caller) after.events) WithoutBackup limit bytes coming (known_first opening []) after view)
      (alone : IsAlone opening caller after.events) where
    abbrev pub blind_view : SessionView
    blind_view = view_of (map blind quiet.session.asked) (map blind quiet.session.final) view

    abbrev old : SessionView
    old = record { coming = Some coming; held = Some []; faults = quiet.faults; turns = [] }

    abbrev all : List Exchange
    all = quiet.session.asked ++ quiet.session.final

    pub whole_turns : TakesTurns (FollowsBlind opening caller) WithoutBackup (map blind all) [] (plain after.events) old blind_view
    whole_turns = record {
      moments = subst (λ l. TakesAnswers (Some coming) l view.coming) (sym (blind_moments all)) quiet.session.turns.moments;
      turned = quiet.session.turns.turned ∙ sym (blind_turns all);
      asked = goes_blind after.events all (known_first opening []) after alone quiet.session.turns.asked;
      written = all_written all quiet.session.turns.written (subst (AllByRecursion (λ turn. is_wanting turn ≡ false)) quiet.session.turns.turned quiet.no_want);
    }

    -- a session that nothing disturbs, without what views said
    abbrev pub undisturbed_blind : Undisturbed (FollowsBlind opening caller) WithoutBackup limit bytes coming [] (plain after.events) blind_view
    undisturbed_blind = record {
      how = quiet.how;
      source = quiet.source;
      faults = quiet.faults;
      session = record {
        lines = quiet.session.lines;
        asked = map blind quiet.session.asked;
        final = map blind quiet.session.final;
        reading = quiet.session.reading;
        reads = blind_reads quiet.session.lines Operational quiet.session.reading quiet.session.asked quiet.session.reads;
        input = quiet.session.input;
        logs_out = blind_logs_out quiet.session.reading quiet.session.final quiet.session.logs_out;
        turns = subst (λ l. TakesTurns (FollowsBlind opening caller) WithoutBackup l [] (plain after.events) old blind_view) (map-append blind quiet.session.asked quiet.session.final) whole_turns;
        texts = texts_of quiet.how (map blind quiet.session.asked) (map blind quiet.session.final) old view refl quiet.ended;
      };
      ended = quiet.ended;
      no_fault = quiet.no_fault;
      no_want = quiet.no_want;
    }

-- any door
abbrev pub FollowsAny : Known → Command → ℕ → Given0 → Known → Type 0
FollowsAny d command answer given e = Unit {0}

goes_any : (follows : Following Known) (exchanges : List Exchange) (d e : Known) → GoesBy follows WithoutBackup exchanges d e → GoesBy FollowsAny WithoutBackup exchanges d e
goes_any follows [] d e goes = goes
goes_any follows (Asked moment command given manner ∷ exchanges) d e goes = (goes.0, tt, goes.2, goes.3, goes_any follows exchanges goes.2 e goes.4)
goes_any follows (Refused moment fault ∷ exchanges) d e goes = goes_any follows exchanges d e goes
goes_any follows (Wanted moment ∷ exchanges) d e goes = goes_any follows exchanges d e goes

abbrev of_any : (follows : Following Known) (limit : ℕ) (bytes : List ℕ) (coming : ℕ → ℕ) (d e : Known) (view : SessionView) → Undisturbed follows WithoutBackup limit bytes coming d e view → Undisturbed FollowsAny WithoutBackup limit bytes coming d e view
of_any follows limit bytes coming d e view quiet = record {
  how = quiet.how;
  source = quiet.source;
  faults = quiet.faults;
  session = record {
    lines = quiet.session.lines;
    asked = quiet.session.asked;
    final = quiet.session.final;
    reading = quiet.session.reading;
    reads = quiet.session.reads;
    input = quiet.session.input;
    logs_out = quiet.session.logs_out;
    turns = record {
      moments = quiet.session.turns.moments;
      turned = quiet.session.turns.turned;
      asked = goes_any follows (quiet.session.asked ++ quiet.session.final) d e quiet.session.turns.asked;
      written = quiet.session.turns.written;
    };
    texts = quiet.session.texts;
  };
  ended = quiet.ended;
  no_fault = quiet.no_fault;
  no_want = quiet.no_want;
}

cons_is : {A : Type 0} {x y : A} {xs ys : List A} → x ∷ xs ≡ y ∷ ys → (x ≡ y) × (xs ≡ ys)
cons_is is = (cc, cc)

-- what an item is but for what a view said of it
moments_are : (moment moment' : ℕ) (command command' : Command) (given given' : Given0) (manner manner' : Manner) → Asked moment command given manner ≡ Asked moment' command' given' manner' → (moment ≡ moment') × (command ≡ command') × (given ≡ given') × (manner ≡ manner')
moments_are moment moment' command command' given given' manner manner' is = (cc, cc, cc, cc)

-- a view said something
abbrev is_viewed : Given0 → Bool
is_viewed (Seen front reply) = true
is_viewed given = false

-- what was given by no view is all that was said of it
said_all : (given given' : Given0) → is_viewed given ≡ false → given ≡ blind_given given' → given ≡ given'
said_all given (KeptAt place' reply') no_view is = is
said_all given (Seen front' reply') no_view is = absurd (false≢true (sym no_view ∙ ap is_viewed is))
said_all given (Denied front' right') no_view is = is
said_all given (Unready front') no_view is = is
said_all given NoMemory no_view is = is

-- what was denied for one right, and what a disk failed for, over lists of as many entries
same_denial : (front front' : ℕ) (right right' : Right) → Some (Lack front right) ≡ Some (Lack front' right') → Denied front right ≡ Denied front' right'
same_denial front front' right right' is = cc

same_failure : (front front' : ℕ) → Some (Failure front) ≡ Some (Failure front') → Unready front ≡ Unready front'
same_failure front front' is = cc

module _ (opening : State) (kept_once : (events : List Happened) (one other : Kept) → WasKept opening events one → WasKept opening events other → one.count ≡ other.count → one ≡ other)
    (shows_once : (kept : Kept) (command : Command) (one other : Reply) → ShowsKept kept command one → ShowsKept kept command other → one ≡ other) where
  -- views of as many entries show one thing
  view_once : (events : List Happened) (command : Command) (front front' : ℕ) (reply reply' : Reply) → HasView opening events command front reply → HasView opening events command front' reply' → front ≡ front' → reply ≡ reply'
  view_once events command front front' reply reply' v v' is =
      let same : v.kept ≡ v'.kept = kept_once events v.kept v'.kept v.was_kept.0 v'.was_kept.0 (v.was_kept.1 ∙ is ∙ sym v'.was_kept.1) in
      shows_once v'.kept command reply reply' (subst (λ k. ShowsKept k command reply) same v.shows) v'.shows

  seen_given : (events : List Happened) (command : Command) (given given' : Given0) → blind_given given ≡ blind_given given' → IsViewGiven opening events command given → IsViewGiven opening events command given' → given ≡ given'
  seen_given events command (KeptAt place reply) given' is v v' = said_all (KeptAt place reply) given' refl is
  seen_given events command (Seen front reply) (Seen front' reply') is v v' =
      let fronts : front ≡ front' = cc in ap (λ f. Seen f reply) fronts ∙ ap (Seen front') (view_once events command front front' reply reply' v v' fronts)
  seen_given events command (Seen front reply) (KeptAt place' reply') is v v' = cc
  seen_given events command (Seen front reply) (Denied front' right') is v v' = cc
  seen_given events command (Seen front reply) (Unready front') is v v' = cc
  seen_given events command (Seen front reply) NoMemory is v v' = cc
  seen_given events command (Denied front right) given' is v v' = said_all (Denied front right) given' refl is
  seen_given events command (Unready front) given' is v v' = said_all (Unready front) given' refl is
  seen_given events command NoMemory given' is v v' = said_all NoMemory given' refl is

  seen_one : Once → (events : List Happened) (x y : Exchange) → blind x ≡ blind y → IsViewed opening events x → IsViewed opening events y → IsWrittenIn x → IsWrittenIn y → is_wanting (turn_taken x) ≡ false → is_wanting (turn_taken y) ≡ false → x ≡ y
  seen_one once events (Asked moment command given manner) (Asked moment' command' given' manner') is v v' w w' want want' =
      let are = moments_are moment moment' command command' (blind_given given) (blind_given given') (blind_manner given manner) (blind_manner given' manner') is in
      let item : asked_item manner command ≡ asked_item manner' command' =
      sym (blind_item (Asked moment command given manner)) ∙ ap item_asked is ∙ blind_item (Asked moment' command' given' manner') in
      asked_is once moment moment' command command' given given' manner manner' are.0 item
      (seen_given events command' given given' are.2 (subst (λ c. IsViewGiven opening events c given) are.1 v) v') w w' (not_dry manner command moment given w want) (not_dry manner' command' moment' given' w' want')
      (sym (blind_syncs given manner) ∙ ap sync_given are.3 ∙ blind_syncs given' manner')
  seen_one once events (Refused moment fault) (Refused moment' fault') is v v' w w' want want' = is
  seen_one once events (Wanted moment) (Wanted moment') is v v' w w' want want' = is
  seen_one once events (Asked moment command given manner) (Refused moment' fault') is v v' w w' want want' = cc
  seen_one once events (Asked moment command given manner) (Wanted moment') is v v' w w' want want' = cc
  seen_one once events (Refused moment fault) (Asked moment' command' given' manner') is v v' w w' want want' = cc
  seen_one once events (Refused moment fault) (Wanted moment') is v v' w w' want want' = cc
  seen_one once events (Wanted moment) (Asked moment' command' given' manner') is v v' w w' want want' = cc
  seen_one once events (Wanted moment) (Refused moment' fault') is v v' w w' want want' = cc

  -- items that are one but for what views said of them, each of which a run names, are one
  pub seen_all : Once → (events : List Happened) (xs ys : List Exchange) → map blind xs ≡ map blind ys → AllByRecursion (IsViewed opening events) xs → AllByRecursion (IsViewed opening events) ys →
      AllByRecursion IsWrittenIn xs → AllByRecursion IsWrittenIn ys → AllWere xs → AllWere ys → xs ≡ ys
  seen_all once events [] [] is v v' w w' wants wants' = refl
  seen_all once events [] (y ∷ ys) is v v' w w' wants wants' = cc
  seen_all once events (x ∷ xs) [] is v v' w w' wants wants' = cc
  seen_all once events (x ∷ xs) (y ∷ ys) is v v' w w' wants wants' =
      let are = cons_is is in ap (λ z. z ∷ xs) (seen_one once events x y are.0 v.0 v'.0 w.0 w'.0 wants.0 wants'.0) ∙ ap (λ l. y ∷ l) (seen_all once events xs ys are.1 v.1 v'.1 w.1 w'.1 wants.1 wants'.1)

  -- at a place a history names one reply, and so does a run of a view of so many entries
  pub names_agree : (caller : ℕ) (events : List Happened) (d : Known) → ((place : ℕ) (before again : State) (event same : Happened) (one other : Reply) → IsAt opening d.events place before event one → IsAt opening d.events place again same other → (event ≡ same) × (before ≡ again) × (one ≡ other)) →
      Agree (Names opening caller events) d d
  names_agree caller events d at_once command moment (KeptAt place reply) (KeptAt place' reply') named named' is basis =
      let same : place ≡ place' = some_is is in
      ap (λ p. KeptAt p reply) same ∙ ap (KeptAt place') (at_once place' named.before named'.before named.event named'.event reply reply' (subst (λ p. IsAt opening d.events p named.before named.event reply) same named.is_at) named'.is_at).2
  names_agree caller events d at_once command moment (Seen front reply) (Seen front' reply') named named' is basis =
      let same : front ≡ front' = same_front front front' basis in
      ap (λ f. Seen f reply) same ∙ ap (Seen front') (view_once events command front front' reply reply' named named' same)
  names_agree caller events d at_once command moment (Denied front right) (Denied front' right') named named' is basis = same_denial front front' right right' basis
  names_agree caller events d at_once command moment (Unready front) (Unready front') named named' is basis = same_failure front front' basis
  names_agree caller events d at_once command moment NoMemory NoMemory named named' is basis = refl
  names_agree caller events d at_once command moment (KeptAt place reply) (Seen front' reply') named named' is basis = cc
  names_agree caller events d at_once command moment (KeptAt place reply) (Denied front' right') named named' is basis = cc
  names_agree caller events d at_once command moment (KeptAt place reply) (Unready front') named named' is basis = cc
  names_agree caller events d at_once command moment (KeptAt place reply) NoMemory named named' is basis = cc
  names_agree caller events d at_once command moment (Seen front reply) (KeptAt place' reply') named named' is basis = cc
  names_agree caller events d at_once command moment (Seen front reply) (Denied front' right') named named' is basis = cc
  names_agree caller events d at_once command moment (Seen front reply) (Unready front') named named' is basis = cc
  names_agree caller events d at_once command moment (Seen front reply) NoMemory named named' is basis = cc
  names_agree caller events d at_once command moment (Denied front right) (KeptAt place' reply') named named' is basis = cc
  names_agree caller events d at_once command moment (Denied front right) (Seen front' reply') named named' is basis = cc
  names_agree caller events d at_once command moment (Denied front right) (Unready front') named named' is basis = cc
  names_agree caller events d at_once command moment (Denied front right) NoMemory named named' is basis = cc
  names_agree caller events d at_once command moment (Unready front) (KeptAt place' reply') named named' is basis = cc
  names_agree caller events d at_once command moment (Unready front) (Seen front' reply') named named' is basis = cc
  names_agree caller events d at_once command moment (Unready front) (Denied front' right') named named' is basis = cc
  names_agree caller events d at_once command moment (Unready front) NoMemory named named' is basis = cc
  names_agree caller events d at_once command moment NoMemory (KeptAt place' reply') named named' is basis = cc
  names_agree caller events d at_once command moment NoMemory (Seen front' reply') named named' is basis = cc
  names_agree caller events d at_once command moment NoMemory (Denied front' right') named named' is basis = cc
  names_agree caller events d at_once command moment NoMemory (Unready front') named named' is basis = cc

  module _ (caller : ℕ) (once : Once)
      (leads_once : (events : List Happened) (one other : State) → Leads opening events one → Leads opening events other → one ≡ other)
      (at_once : (events : List Happened) (place : ℕ) (before again : State) (event same : Happened) (one other : Reply) → IsAt opening events place before event one → IsAt opening events place again same other → (event ≡ same) × (before ≡ again) × (one ≡ other))
      (limit : ℕ) (bytes : List ℕ) (coming : ℕ → ℕ) (after after' : Known) (one other : SessionView)
      (first : Undisturbed (FollowsAsked (unasked opening caller) after.events) WithoutBackup limit bytes coming (known_first opening []) after one) (alone : IsAlone opening caller after.events)
      (second : Undisturbed (FollowsAsked (unasked opening caller) after'.events) WithoutBackup limit bytes coming (known_first opening []) after' other) (alone' : IsAlone opening caller after'.events)
      (seen : SeeAlike one.turns other.turns) where
    abbrev xs : List Exchange
    xs = first.session.asked ++ first.session.final

    abbrev ys : List Exchange
    ys = second.session.asked ++ second.session.final

    abbrev one_blind : Undisturbed (FollowsBlind opening caller) WithoutBackup limit bytes coming [] (plain after.events) (blind_view opening caller limit bytes coming after one first alone)
    one_blind = undisturbed_blind opening caller limit bytes coming after one first alone

    abbrev other_blind : Undisturbed (FollowsBlind opening caller) WithoutBackup limit bytes coming [] (plain after'.events) (blind_view opening caller limit bytes coming after' other second alone')
    other_blind = undisturbed_blind opening caller limit bytes coming after' other second alone'

    began : BeganAlike opening caller (plain after.events) (plain after'.events) (map blind first.session.asked ++ map blind first.session.final) (map blind second.session.asked ++ map blind second.session.final)
    began = record {
      start = [];
      went = one_blind.session.turns.asked;
      went' = other_blind.session.turns.asked;
      seen = λ number. ap (λ turns. basis_at turns number) (sym one_blind.session.turns.turned) ∙ seen number ∙ ap (λ turns. basis_at turns number) other_blind.session.turns.turned;
      written = one_blind.session.turns.written;
      written' = other_blind.session.turns.written;
    }

    but_for_views : (map blind first.session.asked ++ map blind first.session.final ≡ map blind second.session.asked ++ map blind second.session.final) × BeganAlike opening caller (plain after.events) (plain after'.events) [] []
    but_for_views = all_same (FollowsBlind opening caller) WithoutBackup once limit bytes coming [] (plain after.events) [] (plain after'.events)
        (blind_view opening caller limit bytes coming after one first alone) (blind_view opening caller limit bytes coming after' other second alone') one_blind other_blind
        (BeganAlike opening caller (plain after.events) (plain after'.events)) (blind_peels once opening caller (plain after.events) (plain after'.events) leads_once at_once) began

    alike : AreAlike after.events after'.events
    alike = but_for_views.1.went ∙ sym but_for_views.1.went'

    all_one : xs ≡ ys
    all_one = seen_all once (plain after'.events) xs ys (map-append blind first.session.asked first.session.final ∙ but_for_views.0 ∙ sym (map-append blind second.session.asked second.session.final))
        (subst (λ l. AllByRecursion (IsViewed opening l) xs) alike (all_viewed opening caller after.events xs (known_first opening []) after first.session.turns.asked))
        (all_viewed opening caller after'.events ys (known_first opening []) after' second.session.turns.asked)
        first.session.turns.written second.session.turns.written
        (subst (AllByRecursion (λ turn. is_wanting turn ≡ false)) first.session.turns.turned first.no_want) (subst (AllByRecursion (λ turn. is_wanting turn ≡ false)) second.session.turns.turned second.no_want)

    -- two sessions that nothing disturbs, and that were answered from views of as many entries, are one
    pub one_text : (one.turns ≡ other.turns) × (one.held ≡ other.held) × AreAlike after.events after'.events
    one_text =
        let out = outcome_same FollowsAny WithoutBackup once limit bytes coming (known_first opening []) after (known_first opening []) after' one other
        (of_any (FollowsAsked (unasked opening caller) after.events) limit bytes coming (known_first opening []) after one first)
        (of_any (FollowsAsked (unasked opening caller) after'.events) limit bytes coming (known_first opening []) after' other second) all_one in
        (out.0, out.1, alike)
