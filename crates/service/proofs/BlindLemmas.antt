-- A session over a history that one caller made alone, without what views said: those it was shown are left out, and what is left
-- leaves no choice.
use Rattle.std.proofs.Common.{◌≡◌, ℕ, suc, List, [], ◌∷◌, ◌++◌, map, false, true, refl, sym, ap, subst, ◌∙◌, Option, None, Some, ◌⊎◌, inl, inr}
use Rattle.std.proofs.lemmas.Bool.{false≢true}
use Rattle.std.proofs.lemmas.List.{append-nil}
use Rattle.std.proofs.lemmas.Option.{none-some}
use Rattle.std.specs.List.{AllByRecursion, flat_map}
use Rattle.commands.specs.declared.command.Command.{Command}
use Rattle.commands.specs.declared.command.Command.TheVariants.{Logout}
use Rattle.config_core.specs.declared.reply.Reply.{Reply}
use Rattle.config_core.specs.declared.reply.Reply.TheVariants.{Done as SaysDone}
use Rattle.config_core.specs.State.{State}
use Rattle.config_db.specs.declared.answer.Answered.TheVariants.{Kept as DoneAt, NoMemory as Wanting}
use Rattle.io_edge.specs.declared.lines.Line.{Line}
use Rattle.io_edge.specs.Ends.{held_after}
use Rattle.session_history.specs.declared.history.Happened.{Happened}
use Rattle.session_history.specs.Events.{IsAt, Leads}
use Rattle.session_shell.specs.declared.door.Given0.{Given0}
use Rattle.session_shell.specs.declared.door.Given0.TheVariants.{Kept as KeptAt, Seen, Denied, Unready, NoMemory}
use Rattle.session_shell.specs.declared.door.SyncedTurn.{SyncedTurn}
use Rattle.session_shell.specs.declared.json_show.Manner.{Manner}
use Rattle.session_shell.specs.declared.json_show.Manner.TheVariants.{Plain, Json, Dry, NoJson, Synchronized, NoCommit}
use Rattle.session_shell.specs.declared.reading.Item.{Item}
use Rattle.session_shell.specs.declared.reading.Item.TheVariants.{Ask}
use Rattle.session_shell.specs.declared.reading.Reading.{Reading}
use Rattle.session_shell.specs.declared.reading.Reading.TheVariants.{Operational, Configuring, Collecting, Spoilt, Out}
use Rattle.session_shell.specs.declared.turn.How.{How}
use Rattle.session_shell.specs.declared.turn.How.TheVariants.{Clean, InputFull}
use Rattle.session_shell.specs.Exchange.{Exchange, Asked, Refused, Snapshot, Wanted, IsWrittenIn, is_dry, asked_item, reading_after, item_asked, moment_in, seen_turn, text_written, turn_taken}
use Rattle.session_shell.specs.Items.{Continues, ReadsThrough}
use Rattle.session_shell.specs.Json.{MayBeWritten}
use Rattle.session_shell.specs.Law.{SeeAlike, is_wanting}
use Rattle.session_shell.specs.Transcript.{GoesBy, LogsOut, SessionView, SyncsBy, Texts, WroteTexts}
use Rattle.session_shell.proofs.LawLemmas.{AllWere, Once, Peels, asked_is, command_once, fault_is, item_wrong, not_dry, same_front, sync_given, turn_rests}
use Rattle.session_threads.specs.Syncs.{WithoutBackup}
use Rattle.session_threads.proofs.SyncLemmas.{stays_synced}
use Rattle.service.proofs.AloneLemmas.{FollowsPlain, turns_once}

-- what was given, but for what a view said
abbrev pub blind_given : Given0 → Given0
blind_given (KeptAt place reply) = KeptAt place reply
blind_given (Seen front reply) = Seen front SaysDone
blind_given (Denied front right) = Denied front right
blind_given (Unready front) = Unready front
blind_given NoMemory = NoMemory

-- how it is written: what a view didn't say has no JSON
abbrev pub unsaid : Manner → Manner
unsaid Plain = Plain
unsaid (Json text) = NoJson
unsaid Dry = Dry
unsaid NoJson = NoJson
unsaid (Synchronized synced) = Synchronized synced
unsaid NoCommit = NoCommit

abbrev pub blind_manner : Given0 → Manner → Manner
blind_manner (KeptAt place reply) manner = manner
blind_manner (Seen front reply) manner = unsaid manner
blind_manner (Denied front right) manner = manner
blind_manner (Unready front) manner = manner
blind_manner NoMemory manner = manner

-- an item, but for what a view said of it
abbrev pub blind : Exchange → Exchange
blind (Asked moment command given manner) = Asked moment command (blind_given given) (blind_manner given manner)
blind (Refused moment fault) = Refused moment fault
blind (Wanted moment) = Wanted moment

-- how a history that one caller makes alone follows after one ask, but for what a view said
abbrev pub FollowsBlind : State → ℕ → List Happened → Command → ℕ → Given0 → List Happened → Type 0
FollowsBlind opening caller events command answer (KeptAt place reply) events' = FollowsPlain opening caller events command answer (DoneAt place reply) events'
FollowsBlind opening caller events command answer (Seen front reply) events' = (events' ≡ events) × (reply ≡ SaysDone)
FollowsBlind opening caller events command answer (Denied front right) events' = ⊥
FollowsBlind opening caller events command answer (Unready front) events' = ⊥
FollowsBlind opening caller events command answer NoMemory events' = FollowsPlain opening caller events command answer Wanting events'

unsaid_item : (manner : Manner) (command : Command) → asked_item (unsaid manner) command ≡ asked_item manner command
unsaid_item Plain command = refl
unsaid_item (Json text) command = refl
unsaid_item Dry command = refl
unsaid_item NoJson command = refl
unsaid_item (Synchronized synced) command = refl
unsaid_item NoCommit command = refl

unsaid_dry : (manner : Manner) → is_dry (unsaid manner) ≡ is_dry manner
unsaid_dry Plain = refl
unsaid_dry (Json text) = refl
unsaid_dry Dry = refl
unsaid_dry NoJson = refl
unsaid_dry (Synchronized synced) = refl
unsaid_dry NoCommit = refl

unsaid_syncs : (manner : Manner) → sync_given (unsaid manner) ≡ sync_given manner
unsaid_syncs Plain = refl
unsaid_syncs (Json text) = refl
unsaid_syncs Dry = refl
unsaid_syncs NoJson = refl
unsaid_syncs (Synchronized synced) = refl
unsaid_syncs NoCommit = refl

-- nor whether it was synchronized
pub blind_syncs : (given : Given0) (manner : Manner) → sync_given (blind_manner given manner) ≡ sync_given manner
blind_syncs (KeptAt place reply) manner = refl
blind_syncs (Seen front reply) manner = unsaid_syncs manner
blind_syncs (Denied front right) manner = refl
blind_syncs (Unready front) manner = refl
blind_syncs NoMemory manner = refl

-- what a door without a backup said is what it says to this
unsaid_stays : {A : Type 0} (manner : Manner) (known : A) → SyncsBy WithoutBackup manner known known → SyncsBy WithoutBackup (unsaid manner) known known
unsaid_stays Plain known syncs = refl
unsaid_stays (Json text) known syncs = refl
unsaid_stays Dry known syncs = refl
unsaid_stays NoJson known syncs = refl
unsaid_stays (Synchronized synced) known syncs = syncs
unsaid_stays NoCommit known syncs = refl

pub blind_stays : {A : Type 0} (given : Given0) (manner : Manner) (known : A) → SyncsBy WithoutBackup manner known known → SyncsBy WithoutBackup (blind_manner given manner) known known
blind_stays (KeptAt place reply) manner known syncs = syncs
blind_stays (Seen front reply) manner known syncs = unsaid_stays manner known syncs
blind_stays (Denied front right) manner known syncs = syncs
blind_stays (Unready front) manner known syncs = syncs
blind_stays NoMemory manner known syncs = syncs

-- what a view said changes nothing else of an item
pub blind_item : (exchange : Exchange) → item_asked (blind exchange) ≡ item_asked exchange
blind_item (Asked moment command (KeptAt place reply) manner) = refl
blind_item (Asked moment command (Seen front reply) manner) = unsaid_item manner command
blind_item (Asked moment command (Denied front right) manner) = refl
blind_item (Asked moment command (Unready front) manner) = refl
blind_item (Asked moment command NoMemory manner) = refl
blind_item (Refused moment fault) = refl
blind_item (Wanted moment) = refl

blind_after : (reading : Reading) (exchange : Exchange) → reading_after reading (blind exchange) ≡ reading_after reading exchange
blind_after reading (Asked moment command (KeptAt place reply) manner) = refl
blind_after reading (Asked moment command (Seen front reply) manner) = refl
blind_after reading (Asked moment command (Denied front right) manner) = refl
blind_after reading (Asked moment command (Unready front) manner) = refl
blind_after reading (Asked moment command NoMemory manner) = refl
blind_after reading (Refused moment fault) = refl
blind_after reading (Wanted moment) = refl

blind_turn : (exchange : Exchange) → turn_taken (blind exchange) ≡ turn_taken exchange
blind_turn (Asked moment command (KeptAt place reply) manner) = refl
blind_turn (Asked moment command (Seen front reply) manner) = ap (λ dry. seen_turn dry front moment) (unsaid_dry manner)
blind_turn (Asked moment command (Denied front right) manner) = refl
blind_turn (Asked moment command (Unready front) manner) = refl
blind_turn (Asked moment command NoMemory manner) = refl
blind_turn (Refused moment fault) = refl
blind_turn (Wanted moment) = refl

blind_moment : (exchange : Exchange) → moment_in (blind exchange) ≡ moment_in exchange
blind_moment (Asked moment command given manner) = refl
blind_moment (Refused moment fault) = refl
blind_moment (Wanted moment) = refl

-- it is written as it may be, where memory wasn't wanting
unsaid_written : (command : Command) (front moment : ℕ) (reply : Reply) (manner : Manner) → MayBeWritten command (Seen front reply) manner → is_wanting (seen_turn (is_dry manner) front moment) ≡ false → MayBeWritten command (Seen front SaysDone) (unsaid manner)
unsaid_written command front moment reply Plain written want = tt
unsaid_written command front moment reply (Json text) written want = (written.0, refl)
unsaid_written command front moment reply Dry written want = absurd (false≢true (sym want))
unsaid_written command front moment reply NoJson written want = (written.0, refl)
unsaid_written command front moment reply (Synchronized synced) written want = written
unsaid_written command front moment reply NoCommit written want = written

blind_written : (exchange : Exchange) → IsWrittenIn exchange → is_wanting (turn_taken exchange) ≡ false → IsWrittenIn (blind exchange)
blind_written (Asked moment command (KeptAt place reply) manner) written want = written
blind_written (Asked moment command (Seen front reply) manner) written want = unsaid_written command front moment reply manner written want
blind_written (Asked moment command (Denied front right) manner) written want = written
blind_written (Asked moment command (Unready front) manner) written want = written
blind_written (Asked moment command NoMemory manner) written want = written
blind_written (Refused moment fault) written want = tt
blind_written (Wanted moment) written want = tt

pub all_written : (exchanges : List Exchange) → AllByRecursion IsWrittenIn exchanges → AllWere exchanges → AllByRecursion IsWrittenIn (map blind exchanges)
all_written [] written wants = tt
all_written (exchange ∷ exchanges) written wants = (blind_written exchange written.0 wants.0, all_written exchanges written.1 wants.1)

pub blind_turns : (exchanges : List Exchange) → map turn_taken (map blind exchanges) ≡ map turn_taken exchanges
blind_turns [] = refl
blind_turns (exchange ∷ exchanges) =
    ap (λ t. t ∷ map turn_taken (map blind exchanges)) (blind_turn exchange) ∙ ap (λ l. turn_taken exchange ∷ l) (blind_turns exchanges)

pub blind_moments : (exchanges : List Exchange) → map moment_in (map blind exchanges) ≡ map moment_in exchanges
blind_moments [] = refl
blind_moments (exchange ∷ exchanges) =
    ap (λ t. t ∷ map moment_in (map blind exchanges)) (blind_moment exchange) ∙ ap (λ l. moment_in exchange ∷ l) (blind_moments exchanges)

pub blind_reads : (lines : List Line) (reading last : Reading) (exchanges : List Exchange) → ReadsThrough lines reading exchanges last → ReadsThrough lines reading (map blind exchanges) last
blind_reads [] reading last exchanges reads = (ap (map blind) reads.0, reads.1)
blind_reads (line ∷ lines) reading last exchanges reads =
    record { came = reads.came; is_read = reads.is_read; comes = reads.comes; goes = on reads.came (λ next xs r. blind_reads lines next last xs r) exchanges reads.goes }
  where
    on : (came : Option Item × Reading) → ((next : Reading) (xs : List Exchange) → ReadsThrough lines next xs last → ReadsThrough lines next (map blind xs) last) → (xs : List Exchange)
        → Continues (λ next rest. ReadsThrough lines next rest last) came xs → Continues (λ next rest. ReadsThrough lines next rest last) came (map blind xs)
    on (None, next) again xs goes = again next xs goes
    on (Some item, next) again [] goes = absurd goes
    on (Some item, next) again (x ∷ xs) goes =
        (blind_item x ∙ goes.0, subst (λ r. ReadsThrough lines r (map blind xs) last) (sym (blind_after next x)) (again (reading_after next x) xs goes.1))

logout_blind : (final : List Exchange) → ((logout : Exchange) × (final ≡ logout ∷ []) × (item_asked logout ≡ Ask Logout)) → ((logout : Exchange) × (map blind final ≡ logout ∷ []) × (item_asked logout ≡ Ask Logout))
logout_blind final is = (blind is.0, ap (map blind) is.1, blind_item is.0 ∙ is.2)

pub blind_logs_out : (reading : Reading) (final : List Exchange) → LogsOut reading final → LogsOut reading (map blind final)
blind_logs_out Operational final out = logout_blind final out
blind_logs_out Configuring final out = logout_blind final out
blind_logs_out (Collecting way json text) final out = logout_blind final out
blind_logs_out (Spoilt fault) final out = logout_blind final out
blind_logs_out Out final out = ap (map blind) out

-- a session's view, where its sink holds the texts of these items
abbrev pub view_of : List Exchange → List Exchange → SessionView → SessionView
view_of asked final view = record view { held = held_after (Some []) (flat_map text_written asked ++ flat_map text_written final) }

pub texts_of : (how : How) (asked final : List Exchange) (old view : SessionView) → old.held ≡ Some [] → (how ≡ Clean) ⊎ (how ≡ InputFull) → Texts how asked final old (view_of asked final view)
texts_of how asked final old view empty ended = by_how ended
  where
    wrote : WroteTexts (flat_map text_written asked) (flat_map text_written final) old (view_of asked final view)
    wrote = record {
      part = flat_map text_written final;
      rest = [];
      is_second = sym (append-nil (flat_map text_written final));
      held = ap (λ h. held_after h (flat_map text_written asked ++ flat_map text_written final)) (sym empty);
      whole = inl refl;
    }

    by_how : (how ≡ Clean) ⊎ (how ≡ InputFull) → Texts how asked final old (view_of asked final view)
    by_how (inl clean) = subst (λ h. Texts h asked final old (view_of asked final view)) (sym clean) wrote
    by_how (inr full) = subst (λ h. Texts h asked final old (view_of asked final view)) (sym full) wrote

-- two such histories that began alike, and went on by what was asked; the same items were answered from views of as many entries
pub record BeganAlike (opening : State) (caller : ℕ) (e e' : List Happened) (xs ys : List Exchange) : Type 0 where
  pub start : List Happened
  pub went : GoesBy (FollowsBlind opening caller) WithoutBackup xs start e
  pub went' : GoesBy (FollowsBlind opening caller) WithoutBackup ys start e'
  pub seen : SeeAlike (map turn_taken xs) (map turn_taken ys)
  pub written : AllByRecursion IsWrittenIn xs
  pub written' : AllByRecursion IsWrittenIn ys

-- without a backup the same item, for which the same was given, is synchronized in one way
synced_alike : (manner manner' : Manner) (command command' : Command) (given : Given0) (d last d' last' : List Happened) → asked_item manner command ≡ asked_item manner' command' → MayBeWritten command given manner → MayBeWritten command' given manner' →
    SyncsBy WithoutBackup manner d last → SyncsBy WithoutBackup manner' d' last' → sync_given manner ≡ sync_given manner'
synced_alike (Synchronized synced) (Synchronized synced') command command' given d last d' last' item w w' went went' = ap (λ (s : SyncedTurn). s ∷ []) (went.0 ∙ sym went'.0)
synced_alike (Synchronized synced) NoCommit command command' given d last d' last' item w w' went went' = absurd (false≢true (sym w' ∙ w))
synced_alike NoCommit (Synchronized synced') command command' given d last d' last' item w w' went went' = absurd (false≢true (sym w ∙ w'))
synced_alike (Synchronized synced) manner' command command' given d last d' last' item w w' went went' = absurd cc
synced_alike manner (Synchronized synced') command command' given d last d' last' item w w' went went' = absurd cc
synced_alike manner manner' command command' given d last d' last' item w w' went went' = refl

-- what is asked behind it is asked of the same
behind_alike : (manner manner' : Manner) (d last d' last' : List Happened) → SyncsBy WithoutBackup manner d last → SyncsBy WithoutBackup manner' d' last' → d ≡ d' → last ≡ last'
behind_alike manner manner' d last d' last' went went' same = stays_synced manner d last went ∙ same ∙ sym (stays_synced manner' d' last' went')

module _ (once : Once) (opening : State) (caller : ℕ) (e e' : List Happened)
    (leads_once : (events : List Happened) (one other : State) → Leads opening events one → Leads opening events other → one ≡ other)
    (at_once : (events : List Happened) (place : ℕ) (before again : State) (event same : Happened) (one other : Reply) → IsAt opening events place before event one → IsAt opening events place again same other → (event ≡ same) × (before ≡ again) × (one ≡ other)) where
  -- so the first items came to the same
  same_asked : (moment moment' : ℕ) (command command' : Command) (given given' : Given0) (manner manner' : Manner) (xs ys : List Exchange) → asked_item manner command ≡ asked_item manner' command' → moment ≡ moment' →
      is_wanting (turn_taken (Asked moment command given manner)) ≡ false → is_wanting (turn_taken (Asked moment' command' given' manner')) ≡ false → given ≡ given' →
      (from : BeganAlike opening caller e e' (Asked moment command given manner ∷ xs) (Asked moment' command' given' manner' ∷ ys)) → from.went.0 ≡ from.went'.0 →
      (Asked moment command given manner ≡ Asked moment' command' given' manner') × BeganAlike opening caller e e' xs ys
  same_asked moment moment' command command' given given' manner manner' xs ys item when want want' gave from same = (
    asked_is once moment moment' command command' given given' manner manner' when item gave from.written.0 from.written'.0
        (not_dry manner command moment given from.written.0 want) (not_dry manner' command' moment' given' from.written'.0 want')
        (synced_alike manner manner' command command' given' from.went.0 from.went.2 from.went'.0 from.went'.2 item (subst (λ g. MayBeWritten command g manner) gave from.written.0) from.written'.0 from.went.3 from.went'.3),
    record {
      start = from.went'.2;
      went = subst (λ x. GoesBy (FollowsBlind opening caller) WithoutBackup xs x e) (behind_alike manner manner' from.went.0 from.went.2 from.went'.0 from.went'.2 from.went.3 from.went'.3 same) from.went.4;
      went' = from.went'.4;
      seen = λ number. from.seen (suc number);
      written = from.written.1;
      written' = from.written'.1;
    },
  )

  pub blind_peels : Peels (BeganAlike opening caller e e')
  blind_peels (Asked moment command (KeptAt place reply) manner) (Asked moment' command' (KeptAt place' reply') manner') xs ys item when want want' from =
      let which : command ≡ command' = command_once manner manner' command command' (KeptAt place reply) (KeptAt place' reply') item from.written.0 from.written'.0 in
      let did : FollowsPlain opening caller from.start command moment (DoneAt place' reply') from.went'.0 =
      subst (λ m. FollowsPlain opening caller from.start command m (DoneAt place' reply') from.went'.0) (sym when) (subst (λ c. FollowsPlain opening caller from.start c moment' (DoneAt place' reply') from.went'.0) (sym which) from.went'.1) in
      let same : (place ≡ place') × (reply ≡ reply') × (from.went.0 ≡ from.went'.0) = turns_once opening caller leads_once at_once from.start from.went.0 from.went'.0 command moment place place' reply reply' from.went.1 did in
      same_asked moment moment' command command' (KeptAt place reply) (KeptAt place' reply') manner manner' xs ys item when want want' (ap (λ p. KeptAt p reply) same.0 ∙ ap (KeptAt place') same.1) from same.2
  blind_peels (Asked moment command (Seen front reply) manner) (Asked moment' command' (Seen front' reply') manner') xs ys item when want want' from =
      let fronts : front ≡ front' = same_front front front'
      (sym (turn_rests manner moment (Seen front reply)) ∙ from.seen 0 ∙ turn_rests manner' moment' (Seen front' reply')) in
      same_asked moment moment' command command' (Seen front reply) (Seen front' reply') manner manner' xs ys item when want want' (ap (λ f. Seen f reply) fronts ∙ ap (Seen front') (from.went.1.1 ∙ sym from.went'.1.1)) from (from.went.1.0 ∙ sym from.went'.1.0)
  blind_peels (Asked moment command (KeptAt place reply) manner) (Asked moment' command' (Seen front' reply') manner') xs ys item when want want' from =
      absurd (none-some (Snapshot front') (sym (turn_rests manner moment (KeptAt place reply)) ∙ from.seen 0 ∙ turn_rests manner' moment' (Seen front' reply')))
  blind_peels (Asked moment command (Seen front reply) manner) (Asked moment' command' (KeptAt place' reply') manner') xs ys item when want want' from =
      absurd (none-some (Snapshot front) (sym (turn_rests manner' moment' (KeptAt place' reply')) ∙ sym (from.seen 0) ∙ turn_rests manner moment (Seen front reply)))
  blind_peels (Asked moment command (Denied front right) manner) y xs ys item when want want' from = absurd from.went.1
  blind_peels (Asked moment command (Unready front) manner) y xs ys item when want want' from = absurd from.went.1
  blind_peels (Asked moment command NoMemory manner) y xs ys item when want want' from = absurd (false≢true (sym want))
  blind_peels (Asked moment command (KeptAt place reply) manner) (Asked moment' command' (Denied front' right') manner') xs ys item when want want' from = absurd from.went'.1
  blind_peels (Asked moment command (KeptAt place reply) manner) (Asked moment' command' (Unready front') manner') xs ys item when want want' from = absurd from.went'.1
  blind_peels (Asked moment command (Seen front reply) manner) (Asked moment' command' (Denied front' right') manner') xs ys item when want want' from = absurd from.went'.1
  blind_peels (Asked moment command (Seen front reply) manner) (Asked moment' command' (Unready front') manner') xs ys item when want want' from = absurd from.went'.1
  blind_peels (Asked moment command (KeptAt place reply) manner) (Asked moment' command' NoMemory manner') xs ys item when want want' from = absurd (false≢true (sym want'))
  blind_peels (Asked moment command (Seen front reply) manner) (Asked moment' command' NoMemory manner') xs ys item when want want' from = absurd (false≢true (sym want'))
  blind_peels (Refused moment fault) (Refused moment' fault') xs ys item when want want' from = (
    ap (λ m. Refused m fault) when ∙ ap (Refused moment') (fault_is fault fault' item),
    record { start = from.start; went = from.went; went' = from.went'; seen = λ number. from.seen (suc number); written = from.written.1; written' = from.written'.1 },
  )
  blind_peels (Asked moment command (KeptAt place reply) manner) (Refused moment' fault') xs ys item when want want' from = absurd (item_wrong manner command fault' item)
  blind_peels (Asked moment command (Seen front reply) manner) (Refused moment' fault') xs ys item when want want' from = absurd (item_wrong manner command fault' item)
  blind_peels (Refused moment fault) (Asked moment' command' given' manner') xs ys item when want want' from = absurd (item_wrong manner' command' fault (sym item))
  blind_peels (Wanted moment) y xs ys item when want want' from = absurd (false≢true (sym want))
  blind_peels (Asked moment command (KeptAt place reply) manner) (Wanted moment') xs ys item when want want' from = absurd (false≢true (sym want'))
  blind_peels (Asked moment command (Seen front reply) manner) (Wanted moment') xs ys item when want want' from = absurd (false≢true (sym want'))
  blind_peels (Refused moment fault) (Wanted moment') xs ys item when want want' from = absurd (false≢true (sym want'))
