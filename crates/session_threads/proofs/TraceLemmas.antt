-- A door's trace over a pass and its reader, as one over what its caller knows, where all that the reader has was kept.
use Rattle.std.proofs.Common.{◌≡◌, ◌⊎◌, ◌<◌, ◌≤◌, ℕ, Bool, true, false, List, [], ◌∷◌, ◌++◌, Option, Some, max}
use Rattle.std.proofs.Common.{inl, inr, ⊎_elim, refl, sym, ap, subst, ◌∙◌, arith}
use mathlib.Core.List.{IsPrefix}
use Rattle.std.proofs.lemmas.Bool.{cases_lt}
use Rattle.access_rules.specs.declared.right.Right.{Right}
use Rattle.active_snapshot.specs.States.{ReaderView}
use Rattle.active_snapshot.specs.Views.{AreViews, FollowsOn, IsLast}
use Rattle.commands.specs.declared.command.Command.{Command}
use Rattle.commit_ledger.specs.Kept.{Kept}
use Rattle.config_core.specs.State.{State}
use Rattle.config_db.specs.declared.answer.Answered.{Answered}
use Rattle.config_db.specs.declared.answer.Answered.TheVariants.{Kept as Done, NoMemory as Wanting}
use Rattle.config_db.specs.View.{DatabaseView, opened}
use Rattle.session_history.specs.declared.history.Happened.{Happened}
use Rattle.session_history.specs.Events.{Leads}
use Rattle.session_history.specs.Kept.{WasKept}
use Rattle.session_history.proofs.KeptLemmas.{WasKept-append, WasKept-last}
use Rattle.session_shell.specs.declared.door.Given0.{Given0}
use Rattle.session_shell.specs.declared.door.Given0.TheVariants.{Kept as KeptAt, Seen, Denied, Unready, NoMemory}
use Rattle.session_shell.specs.declared.turn.How.{How}
use Rattle.session_shell.specs.declared.turn.Turn.{Turn}
use Rattle.session_shell.specs.Exchange.{Exchange, Asked as AskedOf, Refused, Wanted}
use Rattle.session_shell.specs.Shows.{IsActiveShow}
use Rattle.session_shell.specs.Transcript.{EndView, GoesBy, IsSession}
use Rattle.session_threads.specs.Access.{Asker, IsAllowed, IsAllowedAt, IsDenied, IsDeniedBehind, IsUnreadyBehind}
use Rattle.session_threads.specs.Asking.{asker_at}
use Rattle.session_threads.specs.Gates.{FollowsIn, GateView, KnowsNoMore, MissedIn, ReadsLast, ReadsOn, SeenIn, StartsReading, TellsKept}
use Rattle.session_threads.specs.Gates.{TurnedIn, asker_in}
use Rattle.session_threads.specs.History.{FollowsAsked, FollowsRefused, FollowsTurn, FollowsView, HasMissed, Known, known_first}
use Rattle.session_threads.specs.Noted.{events_of}
use Rattle.session_threads.specs.Passes.{CallerPass, WentOn, events_seen}
use Rattle.session_threads.specs.Syncs.{WithoutBackup}
use Rattle.session_threads.specs.Naming.{IsPrefix-same, IsPrefix-then, events_of-begins}
use Rattle.session_threads.proofs.ListLemmas.{All-last}
use Rattle.session_threads.proofs.PassLemmas.{WentOn-same, WentOn-then}
use Rattle.session_threads.proofs.SyncLemmas.{goes_behind, synced_there}

FollowsOn-front : (view : Kept) (one more : List Kept) → FollowsOn view (one ++ more) → FollowsOn view one
FollowsOn-front view [] more follows = tt
FollowsOn-front view (v ∷ one) more follows = (follows.0, FollowsOn-front v one more follows.1)

AreViews-front : (one more : List Kept) (last : Kept) → IsLast one last → AreViews (one ++ more) → AreViews one
AreViews-front [] more last is are = absurd (cc is)
AreViews-front (view ∷ one) more last is are = FollowsOn-front view one more are

-- a beginning of a list of views is one, where it has a last view
AreViews-prefix : (one two : List Kept) (last : Kept) → IsPrefix one two → IsLast one last → AreViews two → AreViews one
AreViews-prefix one two last begins is are = AreViews-front one begins.0 last is (subst AreViews (sym begins.1) are)

pub ReadsOn-same : (reader : ReaderView) → ReadsOn reader reader
ReadsOn-same reader = record { later = IsPrefix-same reader.list; told = IsPrefix-same reader.told }

pub ReadsOn-then : (a b c : ReaderView) → ReadsOn a b → ReadsOn b c → ReadsOn a c
ReadsOn-then a b c first next = record {
  later = IsPrefix-then a.list b.list c.list first.later next.later;
  told = IsPrefix-then a.told b.told c.told first.told next.told;
}

-- a reader has, or was told of, a list with at least so many entries
record Reaches (front : ℕ) (reader : ReaderView) : Type 0 where
  list : List Kept
  view : Kept
  is_last : IsLast list view
  enough : front ≤ view.count
  known : IsPrefix list reader.list ⊎ IsPrefix list reader.told

reaches_on : (front : ℕ) (old new : ReaderView) → ReadsOn old new → Reaches front old → Reaches front new
reaches_on front old new on reaches = record {
  list = reaches.list;
  view = reaches.view;
  is_last = reaches.is_last;
  enough = reaches.enough;
  known = ⊎_elim (λ here. inl (IsPrefix-then reaches.list old.list new.list here on.later))
      (λ told. inr (IsPrefix-then reaches.list old.told new.told told on.told)) reaches.known;
}

reaches_start : (first : DatabaseView) (reader : ReaderView) → StartsReading first reader
    → Reaches first.opening.count reader
reaches_start first reader starts = record {
  list = first.opening ∷ [];
  view = first.opening;
  is_last = refl;
  enough = omega arith;
  known = inl (subst (λ (r : ReaderView). IsPrefix (first.opening ∷ []) r.list) (sym starts) (IsPrefix-same (first.opening ∷ [])));
}

goes_on : (exchanges : List Exchange) (d e : GateView) → GoesBy FollowsIn WithoutBackup exchanges d e → ReadsOn d.reader e.reader
goes_on [] d e goes = subst (λ (g : GateView). ReadsOn d.reader g.reader) (sym goes) (ReadsOn-same d.reader)
goes_on (AskedOf moment command given manner ∷ exchanges) d e goes =
    ReadsOn-then d.reader goes.0.reader e.reader goes.1.reads
    (goes_on exchanges goes.0 e (goes_behind FollowsIn manner goes.0 goes.2 e exchanges goes.3 goes.4))
goes_on (Refused moment fault ∷ exchanges) d e goes = goes_on exchanges d e goes
goes_on (Wanted moment ∷ exchanges) d e goes = goes_on exchanges d e goes

-- a door's pass is the same one, and has seen more
pub WentOn-asked : (exchanges : List Exchange) (start : CallerPass) (d e : GateView) → WentOn start d.pass
    → GoesBy FollowsIn WithoutBackup exchanges d e → WentOn start e.pass
WentOn-asked [] start d e went goes = subst (λ (g : GateView). WentOn start g.pass) (sym goes) went
WentOn-asked (AskedOf moment command given manner ∷ exchanges) start d e went goes =
    WentOn-asked exchanges start goes.0 e (WentOn-then start d.pass goes.0.pass went goes.1.goes)
    (goes_behind FollowsIn manner goes.0 goes.2 e exchanges goes.3 goes.4)
WentOn-asked (Refused moment fault ∷ exchanges) start d e went goes = WentOn-asked exchanges start d e went goes
WentOn-asked (Wanted moment ∷ exchanges) start d e went goes = WentOn-asked exchanges start d e went goes

-- the caller of a door is the one that it began with
pub asker_same : (first : DatabaseView) (d : GateView) (caller : ℕ) (asks : Option (List ℕ)) → d.pass.caller ≡ caller
    → d.asks ≡ asks → asker_in first d ≡ asker_at first caller asks
asker_same first d caller asks is_caller is_asks =
    ap (λ c. asker_at first c d.asks) is_caller ∙ ap (asker_at first caller) is_asks

module _ (never_fall : (one two : List Kept) (view later : Kept) → AreViews two → IsPrefix one two → IsLast one view
    → IsLast two later → view.count ≤ later.count)
    (leads_once : (s : DatabaseView) (events : List Happened) (one other : State) → Leads (opened s) events one
    → Leads (opened s) events other → one ≡ other)
    (first : DatabaseView) (final : List Happened) (list : List Kept) (tells : TellsKept (opened first) final list) where
  was_kept : (front : List Kept) (view : Kept) → IsPrefix front list → IsLast front view → WasKept (opened first) final view
  was_kept front view begins is = All-last (WasKept (opened first) final) front list view begins is tells.each

  -- what is read of a reader has at least as many entries as it reached
  read_reaches : (front answer : ℕ) (is_due : Bool) (old new : ReaderView) → ReadsOn old new → IsPrefix new.list list
      → (read : ReadsLast answer is_due new) → Reaches front old → front ≤ read.view.count
  read_reaches front answer is_due old new on within read reaches =
      let begins : IsPrefix reaches.list new.list =
      ⊎_elim (λ here. IsPrefix-then reaches.list old.list new.list here on.later)
      (λ told. IsPrefix-then reaches.list new.told new.list (IsPrefix-then reaches.list old.told new.told told on.told) read.reached)
      reaches.known in
      omega (
        arith,
        reaches.enough,
        never_fall reaches.list new.list reaches.view read.view (AreViews-prefix new.list list read.view within read.is_last tells.views)
            begins reaches.is_last read.is_last,
      )

  missed_in : (front answer : ℕ) (old new : ReaderView) → IsPrefix new.list list → Reaches front old → MissedIn answer old new
      → HasMissed (opened first) final front answer
  missed_in front answer old new within reaches missed =
      let here : IsPrefix missed.mid.list list = IsPrefix-then missed.mid.list new.list list missed.behind.later within in
      record {
        kept = missed.missed.view;
        was_kept = was_kept missed.mid.list missed.missed.view here missed.missed.is_last;
        reached = read_reaches front answer true old missed.mid missed.before here missed.missed reaches;
        due = missed.missed.due;
      }

  -- a reader that was told of a list reaches it, and what it had reached
  reaches_told : (front : ℕ) (told : List Kept) (view : Kept) (reader : ReaderView) → IsLast told view → IsPrefix told reader.told
      → Reaches front reader → Reaches (max front view.count) reader
  reaches_told front told view reader is_last begins reaches =
      ⊎_elim (λ (more : front < view.count). record {
        list = told;
        view = view;
        is_last = is_last;
        enough = omega (arith, more);
        known = inr begins;
      }) (λ (less : view.count ≤ front). record {
        list = reaches.list;
        view = reaches.view;
        is_last = reaches.is_last;
        enough = omega (arith, less, reaches.enough);
        known = reaches.known;
      }) (cases_lt front view.count)

  -- where a reader knows no more than some lists, the last of them has at least as many entries as it reached
  told_reaches : (front : ℕ) (told : List Kept) (view : Kept) (reader : ReaderView) → AreViews told → IsLast told view
      → KnowsNoMore told reader → Reaches front reader → front ≤ view.count
  told_reaches front told view reader views is_last no_more reaches =
      let begins : IsPrefix reaches.list told =
      ⊎_elim (λ here. IsPrefix-then reaches.list reader.list told here no_more.0)
      (λ was. IsPrefix-then reaches.list reader.told told was no_more.1) reaches.known in
      omega (arith, reaches.enough, never_fall reaches.list told reaches.view view views begins reaches.is_last is_last)

  module _ (caller : ℕ) (asks : Option (List ℕ)) where
    abbrev asker : Asker
    asker = asker_at first caller asks

    abbrev Knows : Known → Command → ℕ → Given0 → Known → Type 0
    Knows = FollowsAsked asker final

    abbrev known : GateView → ℕ → Known
    known d front = record { events = events_seen d.pass; front = front }

    -- what was answered without a turn
    view_known : (d e : GateView) (answer shown front : ℕ) → IsPrefix e.reader.list list → Reaches front d.reader
        → ReadsOn d.reader e.reader → e.pass ≡ d.pass → (read : ReadsLast answer false e.reader) → shown ≡ read.view.count
        → FollowsView (opened first) final (known d front) answer shown (known e shown)
    view_known d e answer shown front within reaches on same read is_front = record {
      same = ap events_seen same;
      reached = omega (arith, read_reaches front answer false d.reader e.reader on within read reaches, is_front);
      is_front = refl;
      kept = read.view;
      was_kept = (was_kept e.reader.list read.view within read.is_last, sym is_front);
      not_due = read.due;
    }

    -- a reader reaches what was read of it
    reaches_read : (e : GateView) (answer shown : ℕ) (read : ReadsLast answer false e.reader) → shown ≡ read.view.count
        → Reaches shown e.reader
    reaches_read e answer shown read is_front = record {
      list = e.reader.list;
      view = read.view;
      is_last = read.is_last;
      enough = omega (arith, is_front);
      known = inl (IsPrefix-same e.reader.list);
    }

    -- a command that was refused in its turn
    refused_known : (d e : GateView) (command : Command) (answer shown front : ℕ) (told : List Kept) (after : State)
        → FollowsTurn (opened first) caller (events_seen d.pass) command answer Wanting (events_seen e.pass)
        → TellsKept (opened first) (events_seen e.pass) told → IsPrefix told e.reader.told → KnowsNoMore told d.reader
        → Leads (opened first) (events_seen e.pass) after → shown ≡ after.kept.count → IsPrefix (events_seen e.pass) final
        → Reaches front d.reader → (IsActiveShow command → HasMissed (opened first) final front answer)
        → FollowsRefused asker final (known d front) command answer shown (known e shown) × Reaches shown e.reader
    refused_known d e command answer shown front told after turn tell learned no_more leads is_front begins reaches missed =
        let same : tell.after.kept.count ≡ after.kept.count =
        ap (λ (s : State). s.kept.count) (leads_once first (events_seen e.pass) tell.after after tell.leads leads) in
        let there : WasKept (opened first) final after.kept =
        subst (λ l. WasKept (opened first) l after.kept) begins.1
        (WasKept-append (opened first) (events_seen e.pass) begins.0 after.kept
        (WasKept-last (opened first) (events_seen e.pass) after leads)) in (
          record {
            turn = turn;
            reached = omega (
              arith,
              told_reaches front told tell.after.kept d.reader tell.views tell.is_last no_more reaches,
              same,
              is_front,
            );
            is_front = refl;
            kept = after.kept;
            was_kept = (there, sym is_front);
            missed = missed;
          },
          record {
            list = told;
            view = tell.after.kept;
            is_last = tell.is_last;
            enough = omega (arith, same, is_front);
            known = inr learned;
          },
        )

    module _ (d e : GateView) (command : Command) (answer front : ℕ) (fixed : d.pass.fixed ≡ Some first)
        (is : asker_in first d ≡ asker) (within : IsPrefix e.reader.list list) (begins : IsPrefix (events_seen e.pass) final)
        (reaches : Reaches front d.reader) where
      turn_known : (answered : Answered)
          → FollowsTurn (opened first) d.pass.caller (events_seen d.pass) command answer answered (events_seen e.pass)
          → FollowsTurn (opened first) caller (events_seen d.pass) command answer answered (events_seen e.pass)
      turn_known answered turn =
          subst (λ (a : Asker). FollowsTurn a.opening a.caller (events_seen d.pass) command answer answered (events_seen e.pass)) is turn

      -- one denied command
      denied_known : (shown : ℕ) (right : Right) → ReadsOn d.reader e.reader
          → TurnedIn d command answer (Denied shown right) e ⊎ SeenIn d command answer (Denied shown right) e
          → Knows (known d front) command answer (Denied shown right) (known e shown) × Reaches shown e.reader
      unfolding view_known
      denied_known shown right on (inl over) =
          let turns = over.turns first fixed in
          let judged : IsDeniedBehind asker (events_seen e.pass) command shown right =
          subst (λ (a : Asker). IsDeniedBehind a (events_seen e.pass) command shown right) is turns.judged in
          let refused = refused_known d e command answer shown front turns.list judged.after (turn_known Wanting turns.turn)
          turns.tells turns.told.0 turns.told.1 judged.leads judged.is_front begins reaches
          (λ show. missed_in front answer d.reader e.reader within reaches (over.missed show))
          in
          (inl (refused.0, judged), refused.1)
      denied_known shown right on (inr seen) =
          let read = seen.answers.read in (
            inr (record {
              is_show = seen.is_show;
              view = view_known d e answer shown front within reaches on seen.same read seen.answers.gives.0;
              denied = subst (λ (a : Asker). IsDenied a.asks read.view [] command right) is seen.answers.gives.1;
            }),
            reaches_read e answer shown read seen.answers.gives.0,
          )

      -- one ask
      one_known : (given : Given0) → FollowsIn d command answer given e
          → (front' : ℕ) × Knows (known d front) command answer given (known e front') × Reaches front' e.reader
      unfolding view_known
      one_known (KeptAt place reply) goes =
          let turns = goes.comes.turns first fixed in (
            max front turns.tells.after.kept.count,
            record {
              turn = turn_known (Done place reply) turns.turn;
              allowed = subst (λ (a : Asker). IsAllowedAt a (events_seen e.pass) place command) is turns.judged;
              after = turns.tells.after;
              leads = turns.tells.leads;
              front = refl;
              missed = λ is. missed_in front answer d.reader e.reader within reaches (goes.comes.missed is);
            },
            reaches_told front turns.list turns.tells.after.kept e.reader turns.tells.is_last turns.told
                (reaches_on front d.reader e.reader goes.reads reaches),
          )
      one_known (Seen shown reply) goes =
          let read = goes.comes.answers.read in
          let gives = goes.comes.answers.gives in (
            shown,
            record {
              view = view_known d e answer shown front within reaches goes.reads goes.comes.same read gives.0;
              shows = gives.1;
              allowed = subst (λ (a : Asker). IsAllowed a.asks read.view [] command) is gives.2;
            },
            reaches_read e answer shown read gives.0,
          )
      one_known (Denied shown right) goes =
          let denied = denied_known shown right goes.reads goes.comes in (shown, denied.0, denied.1)
      one_known (Unready shown) goes =
          let turns = goes.comes.turns first fixed in
          let judged : IsUnreadyBehind asker (events_seen e.pass) command shown =
          subst (λ (a : Asker). IsUnreadyBehind a (events_seen e.pass) command shown) is turns.judged in
          let refused = refused_known d e command answer shown front turns.list judged.after (turn_known Wanting turns.turn)
          turns.tells turns.told.0 turns.told.1 judged.leads judged.is_front begins reaches
          (λ show. missed_in front answer d.reader e.reader within reaches (goes.comes.missed show))
          in
          (shown, (refused.0, judged), refused.1)
      one_known NoMemory goes = (
        front,
        record { turn = turn_known Wanting (goes.comes first fixed); front = refl },
        reaches_on front d.reader e.reader goes.reads reaches,
      )

    -- all asks
    goes_known : (start : CallerPass) → start.fixed ≡ Some first → start.caller ≡ caller → (exchanges : List Exchange)
        (d e : GateView) (front : ℕ) → WentOn start d.pass → d.asks ≡ asks → IsPrefix e.reader.list list
        → IsPrefix (events_seen e.pass) final → Reaches front d.reader → GoesBy FollowsIn WithoutBackup exchanges d e
        → (front' : ℕ) × GoesBy Knows WithoutBackup exchanges (known d front) (known e front')
    goes_known start fixed is_caller [] d e front went is_asks within begins reaches goes =
        (front, ap (λ (g : GateView). known g front) goes)
    goes_known start fixed is_caller (AskedOf moment command given manner ∷ exchanges) d e front went is_asks within begins reaches
        goes =
        let next : GateView = goes.0 in
        let rest : GoesBy FollowsIn WithoutBackup exchanges next e = goes_behind FollowsIn manner next goes.2 e exchanges goes.3 goes.4 in
        let on : ReadsOn next.reader e.reader = goes_on exchanges next e rest in
        let later : WentOn next.pass e.pass =
        WentOn-asked exchanges next.pass next e (WentOn-same next.pass goes.1.goes.own) rest in
        let there : IsPrefix (events_seen next.pass) final =
        IsPrefix-then (events_seen next.pass) (events_seen e.pass) final
        (events_of later.later.0, events_of-begins next.pass.seen e.pass.seen later.later) begins in
        let one = one_known d next command moment front (went.fixed ∙ fixed)
        (asker_same first d caller asks (went.caller ∙ is_caller) is_asks)
        (IsPrefix-then next.reader.list e.reader.list list on.later within) there reaches given goes.1 in
        let more = goes_known start fixed is_caller exchanges next e one.0 (WentOn-then start d.pass next.pass went goes.1.goes)
        (goes.1.same_asks ∙ is_asks) within begins one.2 rest in
        (more.0, (known next one.0, one.1, known next one.0, synced_there manner next goes.2 (known next one.0) goes.3, more.1))
    goes_known start fixed is_caller (Refused moment fault ∷ exchanges) d e front went is_asks within begins reaches goes =
        goes_known start fixed is_caller exchanges d e front went is_asks within begins reaches goes
    goes_known start fixed is_caller (Wanted moment ∷ exchanges) d e front went is_asks within begins reaches goes =
        goes_known start fixed is_caller exchanges d e front went is_asks within begins reaches goes

  -- a session over a pass and its reader is one over what its caller knows
  pub IsSession-known : (limit : ℕ) (how : How) (turns : List Turn) (old new : EndView) (d e : GateView)
      → d.pass.fixed ≡ Some first → WentOn d.pass d.pass → StartsReading first d.reader → IsPrefix e.reader.list list
      → IsPrefix (events_seen e.pass) final → IsSession FollowsIn WithoutBackup limit how turns old new d e
      → (front : ℕ) × IsSession (FollowsAsked (asker_in first d) final) WithoutBackup limit how turns old new
      (known_first (opened first) (events_seen d.pass)) (record { events = events_seen e.pass; front = front })
  IsSession-known limit how turns old new d e fixed same starts within begins s =
      let t = s.transcript in
      let went = goes_known d.pass.caller d.asks d.pass fixed refl (t.asked ++ t.final) d e first.opening.count same refl within begins
      (reaches_start first d.reader starts) t.turns.asked in (
        went.0,
        record {
          transcript = record {
            lines = t.lines;
            asked = t.asked;
            final = t.final;
            reading = t.reading;
            reads = t.reads;
            input = t.input;
            logs_out = t.logs_out;
            turns = record { moments = t.turns.moments; turned = t.turns.turned; asked = went.1; written = t.turns.written };
            texts = t.texts;
          };
          user = s.user;
          source_cause = s.source_cause;
          sink_cause = s.sink_cause;
        },
      )
