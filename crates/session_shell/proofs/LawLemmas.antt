-- What a session's door names, and that a session has one text.
use Rattle.std.proofs.Common.{◌≡◌, ℕ, suc, ◌+◌, List, [], ◌∷◌, ◌++◌, map, refl, sym, ap, subst, ◌∙◌, Option, None, Some, Result, inl, inr, ◌⊎◌, Bool, true, false, MatchBool}
use Rattle.std.proofs.lemmas.Bool.{false≢true}
use Rattle.std.proofs.lemmas.List.{append-nil}
use Rattle.std.proofs.lemmas.Option.{none-some}
use Rattle.std.specs.List.{AllByRecursion, flat_map}
use Rattle.cfg_base.specs.Counts.{Rose}
use Rattle.commands.specs.declared.command.Command.{Command}
use Rattle.commands.specs.declared.command.Command.TheVariants.{Load, Logout}
use Rattle.commands.specs.declared.command.LoadWay.{LoadWay}
use Rattle.curly_grammar.specs.Grammar.{Reads}
use Rattle.curly_print.specs.Printed.{printed}
use Rattle.cfg_base.specs.declared.path.Step.{Step}
use Rattle.cfg_tree.specs.Statements.{Statements}
use Rattle.cfg_tree.specs.Tree.{IsTree}
use Rattle.io_edge.specs.declared.lines.Line.{Line}
use Rattle.io_edge.specs.declared.lines.Line.TheVariants.{Text, TooLong, End, Failed, InputFull as Full}
use Rattle.io_edge.specs.Ends.{held_after}
use Rattle.io_edge.specs.Line.{TellsBoth}
use Rattle.json_text.specs.declared.fault.JsonFault.{JsonFault}
use Rattle.json_text.specs.Reading.{IsReadAs, IsTextFault}
use Rattle.json_text.specs.Written.{json_of}
use Rattle.serde_json.specs.Written.{compact_text}
use Rattle.shell_words.specs.declared.making.Words0.{Words0}
use Rattle.shell_words.specs.Reading.{IsReading}
use Rattle.reply_text.specs.declared.fault.ShellFault.{ShellFault}
use Rattle.reply_text.specs.declared.fault.ShellFault.TheVariants as fault_of
use Rattle.session_shell.specs.declared.turn.How.{How}
use Rattle.session_shell.specs.declared.turn.How.TheVariants.{Clean, InputFull}
use Rattle.session_shell.specs.declared.door.Given0.{Given0}
use Rattle.session_shell.specs.declared.door.Given0.TheVariants as given
use Rattle.session_shell.specs.declared.door.SyncedTurn.{SyncedTurn}
use Rattle.session_shell.specs.declared.door.SyncedTurn.TheVariants as sync
use Rattle.session_shell.specs.declared.json_show.Manner.{Manner}
use Rattle.session_shell.specs.declared.json_show.Manner.TheVariants.{Plain, Json, Dry, NoJson, Synchronized, NoCommit}
use Rattle.session_shell.specs.declared.reading.Item.{Item}
use Rattle.session_shell.specs.declared.reading.Item.TheVariants.{Ask, Synchronize, ShowJson, Wrong}
use Rattle.session_shell.specs.declared.reading.Item.TheVariants as item
use Rattle.session_shell.specs.declared.reading.Reading.{Reading}
use Rattle.session_shell.specs.declared.reading.Reading.TheVariants.{Operational, Configuring, Collecting, Spoilt, Out}
use Rattle.session_shell.specs.Exchange.{Basis, Exchange, Asked, Failure, Lack, Refused, Snapshot, Wanted, IsWrittenIn, is_dry, item_asked, asked_item, kept_turn, moment_in, seen_turn, turn_of_given, turn_taken, text_written, reading_after, basis_of, place_of}
use Rattle.session_shell.specs.Items.{ComesOf, Continues, Ended, EndsText, EndsJson, IsLoadOf, ReadsLine, CommandLine, ReadsThrough, SaysLoad, asked_by, is_end_of_text, with_line}
use Rattle.session_shell.specs.Json.{IsJsonOf, MayBeWritten}
use Rattle.session_shell.specs.Cut.{lines_read}
use Rattle.session_shell.specs.Transcript.{AnswersAre, EndsBy, Following, GoesBy, IsInput, LogsOut, Naming, SessionView, SyncsBy, Syncing, TakesAnswers, Texts, WroteTexts}
use Rattle.session_shell.specs.Law.{Agree, IsDetermined, IsNamed, IsShown, SeeAlike, Undisturbed, basis_at, is_wanting, kept_place, synced_in, turn_basis}
use Rattle.session_shell.specs.Shows.{SeesShow, is_committed, whole_show}
use Rattle.session_shell.proofs.TurnLemmas.{flat_map_over_append}
use Rattle.session_shell.proofs.TakeLemmas.{not_full}

module _ {D : Type 0} (names : Naming D) (follows : Following D) (syncs : Syncing D)
    (named : (d e : D) (command : Command) (moment : ℕ) (given : Given0) → follows d command moment given e → names e command moment given)
    (keeps : (d e : D) (command : Command) (moment : ℕ) (given : Given0) → follows d command moment given e → (asked : Command) (when : ℕ) (was : Given0) → names d asked when was → names e asked when was)
    (keeps_synced : (d e : D) (synced : SyncedTurn) → syncs d synced e → (asked : Command) (when : ℕ) (was : Given0) → names d asked when was → names e asked when was) where
  -- what was named stays, whether the door was synchronized or not
  sync_keeps : (manner : Manner) (d e : D) → SyncsBy syncs manner d e → (asked : Command) (when : ℕ) (was : Given0) → names d asked when was → names e asked when was
  sync_keeps (Synchronized synced) d e went asked when was is = keeps_synced d e synced went asked when was is
  sync_keeps Plain d e went asked when was is = subst (λ x. names x asked when was) (sym went) is
  sync_keeps (Json text) d e went asked when was is = subst (λ x. names x asked when was) (sym went) is
  sync_keeps Dry d e went asked when was is = subst (λ x. names x asked when was) (sym went) is
  sync_keeps NoJson d e went asked when was is = subst (λ x. names x asked when was) (sym went) is
  sync_keeps NoCommit d e went asked when was is = subst (λ x. names x asked when was) (sym went) is

  kept : (exchanges : List Exchange) (d e : D) → GoesBy follows syncs exchanges d e → (asked : Command) (when : ℕ) (was : Given0) → names d asked when was → names e asked when was
  kept [] d e goes asked when was is = subst (λ x. names x asked when was) (sym goes) is
  kept (Asked moment command given manner ∷ exchanges) d e goes asked when was is = kept exchanges goes.2 e goes.4 asked when was (sync_keeps manner goes.0 goes.2 goes.3 asked when was (keeps d goes.0 command moment given goes.1 asked when was is))
  kept (Refused moment fault ∷ exchanges) d e goes asked when was is = kept exchanges d e goes asked when was is
  kept (Wanted moment ∷ exchanges) d e goes asked when was is = kept exchanges d e goes asked when was is

  pub all_named : (exchanges : List Exchange) (d e : D) → GoesBy follows syncs exchanges d e → AllByRecursion (IsNamed names e) exchanges
  all_named [] d e goes = tt
  all_named (Asked moment command given manner ∷ exchanges) d e goes = (kept exchanges goes.2 e goes.4 command moment given (sync_keeps manner goes.0 goes.2 goes.3 command moment given (named d goes.0 command moment given goes.1)), all_named exchanges goes.2 e goes.4)
  all_named (Refused moment fault ∷ exchanges) d e goes = (tt, all_named exchanges d e goes)
  all_named (Wanted moment ∷ exchanges) d e goes = (tt, all_named exchanges d e goes)

-- what was answered from a snapshot was a show
pub all_shown : {D : Type 0} (follows : Following D) (syncs : Syncing D)
    (shows : (d e : D) (command : Command) (moment : ℕ) (given : Given0) → follows d command moment given e → SeesShow command given)
    (exchanges : List Exchange) (d e : D) → GoesBy follows syncs exchanges d e → AllByRecursion IsShown exchanges
all_shown follows syncs shows [] d e goes = tt
all_shown follows syncs shows (Asked moment command given manner ∷ exchanges) d e goes =
    (shows d goes.0 command moment given goes.1, all_shown follows syncs shows exchanges goes.2 e goes.4)
all_shown follows syncs shows (Refused moment fault ∷ exchanges) d e goes = (tt, all_shown follows syncs shows exchanges d e goes)
all_shown follows syncs shows (Wanted moment ∷ exchanges) d e goes = (tt, all_shown follows syncs shows exchanges d e goes)

head_is : {A : Type 0} {x y : A} {xs ys : List A} → x ∷ xs ≡ y ∷ ys → x ≡ y
head_is {A} {x} is = ap (λ l. elim l [ [] ↦ x | a ∷ _ ↦ a ]) is

tail_is : {A : Type 0} {x y : A} {xs ys : List A} → x ∷ xs ≡ y ∷ ys → xs ≡ ys
tail_is is = ap (λ l. elim l [ [] ↦ [] | _ ∷ more ↦ more ]) is

cons_is : {A : Type 0} {x : A} {xs : List A} → x ∷ xs ≡ [] → ⊥
cons_is is = false≢true (ap (λ l. elim l [ [] ↦ true | _ ∷ _ ↦ false ]) is)

some_is : {A : Type 0} {x y : A} → Some x ≡ Some y → x ≡ y
some_is {A} {x} is = ap (λ o. elim o [ None ↦ x | Some a ↦ a ]) is

pub command_is : (one other : Command) → Ask one ≡ Ask other → one ≡ other
command_is one other is = ap (λ i. elim i [ Ask r ↦ r | Synchronize r ↦ one | ShowJson ↦ one | Wrong f ↦ one | item.NoMemory ↦ one ]) is

synced_is : (one other : Command) → Synchronize one ≡ Synchronize other → one ≡ other
synced_is one other is = ap (λ i. elim i [ Ask r ↦ one | Synchronize r ↦ r | ShowJson ↦ one | Wrong f ↦ one | item.NoMemory ↦ one ]) is

pub fault_is : (one other : ShellFault) → Wrong one ≡ Wrong other → one ≡ other
fault_is one other is = ap (λ i. elim i [ Ask r ↦ one | Synchronize r ↦ one | ShowJson ↦ one | Wrong f ↦ f | item.NoMemory ↦ one ]) is

-- an item asks something
abbrev is_asking : Item → Bool
is_asking (Ask command) = true
is_asking (Synchronize command) = true
is_asking ShowJson = true
is_asking (Wrong fault) = false
is_asking item.NoMemory = false

abbrev is_wrong : Item → Bool
is_wrong (Ask command) = false
is_wrong (Synchronize command) = false
is_wrong ShowJson = false
is_wrong (Wrong fault) = true
is_wrong item.NoMemory = false

-- a command's item is no fault, and no want of memory
pub item_wrong : (manner : Manner) (command : Command) (fault : ShellFault) → asked_item manner command ≡ Wrong fault → ⊥
item_wrong Plain command fault is = false≢true (sym (ap is_asking is))
item_wrong (Json text) command fault is = false≢true (sym (ap is_asking is))
item_wrong Dry command fault is = false≢true (sym (ap is_asking is))
item_wrong NoJson command fault is = false≢true (sym (ap is_asking is))
item_wrong (Synchronized synced) command fault is = false≢true (sym (ap is_asking is))
item_wrong NoCommit command fault is = false≢true (sym (ap is_asking is))

item_wanting : (manner : Manner) (command : Command) → asked_item manner command ≡ item.NoMemory → ⊥
item_wanting Plain command is = false≢true (sym (ap is_asking is))
item_wanting (Json text) command is = false≢true (sym (ap is_asking is))
item_wanting Dry command is = false≢true (sym (ap is_asking is))
item_wanting NoJson command is = false≢true (sym (ap is_asking is))
item_wanting (Synchronized synced) command is = false≢true (sym (ap is_asking is))
item_wanting NoCommit command is = false≢true (sym (ap is_asking is))

-- the command for which an item stands
asks_it : (manner : Manner) (command asked : Command) → asked_item manner command ≡ Ask asked → command ≡ asked
asks_it Plain command asked is = command_is command asked is
asks_it manner command asked is = absurd cc

syncs_it : (manner : Manner) (command asked : Command) → asked_item manner command ≡ Synchronize asked → command ≡ asked
syncs_it (Synchronized synced) command asked is = synced_is command asked is
syncs_it NoCommit command asked is = synced_is command asked is
syncs_it manner command asked is = absurd cc

shows_whole : (manner : Manner) (command : Command) (given : Given0) → asked_item manner command ≡ ShowJson → MayBeWritten command given manner → command ≡ whole_show
shows_whole (Json text) command given is written = written.0
shows_whole Dry command given is written = written.0
shows_whole NoJson command given is written = written.0
shows_whole manner command given is written = absurd cc

-- so the same item is one command
pub command_once : (manner manner' : Manner) (command command' : Command) (given given' : Given0) → asked_item manner command ≡ asked_item manner' command' → MayBeWritten command given manner → MayBeWritten command' given' manner' → command ≡ command'
command_once Plain manner' command command' given given' is w w' = sym (asks_it manner' command' command (sym is))
command_once (Json text) manner' command command' given given' is w w' = w.0 ∙ sym (shows_whole manner' command' given' (sym is) w')
command_once Dry manner' command command' given given' is w w' = w.0 ∙ sym (shows_whole manner' command' given' (sym is) w')
command_once NoJson manner' command command' given given' is w w' = w.0 ∙ sym (shows_whole manner' command' given' (sym is) w')
command_once (Synchronized synced) manner' command command' given given' is w w' = sym (syncs_it manner' command' command (sym is))
command_once NoCommit manner' command command' given given' is w w' = sym (syncs_it manner' command' command (sym is))

-- a line has one reading, a JSON text one answer, and a curly text is that of one configuration
pub record Once : Type 0 where
  pub lines : (configuring : Bool) (line : List ℕ) (one other : Result (Option Words0) ℕ) → IsReading configuring line one → IsReading configuring line other → one ≡ other
  pub maps : (text : List ℕ) (m n : Statements) → IsReadAs text m → IsReadAs text n → m ≡ n
  pub apart : (text : List ℕ) (m : Statements) (fault : JsonFault) → IsReadAs text m → IsTextFault text fault → ⊥
  pub faults : (text : List ℕ) (one other : JsonFault) → IsTextFault text one → IsTextFault text other → one ≡ other
  pub printed_is : (m n : Statements) → IsTree m → IsTree n → printed m [] ≡ printed n [] → m ≡ n

-- what is printed is that of one configuration, since it is read back
pub printed_once : ((m : Statements) → IsTree m → Reads (printed m []) m []) → ((text : List ℕ) (m n : Statements) (tags others : List (List Step)) → Reads text m tags → Reads text n others → (m ≡ n) × (tags ≡ others)) →
    (m n : Statements) → IsTree m → IsTree n → printed m [] ≡ printed n [] → m ≡ n
printed_once back one m n tree tree' same = (one (printed n []) m n [] [] (subst (λ text. Reads text m []) same (back m tree)) (back n tree')).0

-- the JSON of a curly text is one
json_once : Once → (curly one other : List ℕ) → IsJsonOf curly one → IsJsonOf curly other → one ≡ other
json_once once curly one other is is' =
    is.is ∙ ap (λ m. compact_text (json_of m) ++ 10 ∷ []) (once.printed_is is.statements is'.statements is.tree is'.tree (sym is.shown ∙ is'.shown)) ∙ sym is'.is

-- an answer to `synchronize` as a list
abbrev pub sync_given : Manner → List SyncedTurn
sync_given Plain = []
sync_given (Json text) = []
sync_given Dry = []
sync_given NoJson = []
sync_given (Synchronized synced) = synced ∷ []
sync_given NoCommit = []

-- the same item, for which the same was given, is synchronized or isn't; so where the answers are the same, the first ones are
pub sync_once : (manner manner' : Manner) (command command' : Command) (given : Given0) (more more' : List SyncedTurn) → asked_item manner command ≡ asked_item manner' command' → MayBeWritten command given manner → MayBeWritten command' given manner'
    → sync_given manner ++ more ≡ sync_given manner' ++ more' → (sync_given manner ≡ sync_given manner') × (more ≡ more')
sync_once (Synchronized synced) (Synchronized synced') command command' given more more' is w w' same = (ap (λ s. s ∷ []) (head_is same), tail_is same)
sync_once (Synchronized synced) NoCommit command command' given more more' is w w' same = absurd (false≢true (sym w' ∙ w))
sync_once NoCommit (Synchronized synced') command command' given more more' is w w' same = absurd (false≢true (sym w ∙ w'))
sync_once (Synchronized synced) manner' command command' given more more' is w w' same = absurd cc
sync_once manner (Synchronized synced') command command' given more more' is w w' same = absurd cc
sync_once manner manner' command command' given more more' is w w' same = (refl, same)

-- how what was given is written for an item is one, where memory wasn't wanting and the answers to `synchronize` are the same
pub manner_once : Once → (manner manner' : Manner) (command command' : Command) (given : Given0) → asked_item manner command ≡ asked_item manner' command' → MayBeWritten command given manner → MayBeWritten command' given manner' → is_dry manner ≡ false → is_dry manner' ≡ false
    → sync_given manner ≡ sync_given manner' → manner ≡ manner'
manner_once once Dry manner' command command' given is w w' wet wet' synced = absurd (false≢true (sym wet))
manner_once once manner Dry command command' given is w w' wet wet' synced = absurd (false≢true (sym wet'))
manner_once once Plain Plain command command' given is w w' wet wet' synced = refl
manner_once once (Json text) (Json text') command command' given is w w' wet wet' synced =
    ap Json (json_once once w.1.curly text text' w.1.is_json (subst (λ c. IsJsonOf c text') (some_is (sym w'.1.shown ∙ w.1.shown)) w'.1.is_json))
manner_once once (Json text) NoJson command command' given is w w' wet wet' synced = absurd (none-some w.1.curly (sym w'.1 ∙ w.1.shown))
manner_once once NoJson (Json text') command command' given is w w' wet wet' synced = absurd (none-some w'.1.curly (sym w.1 ∙ w'.1.shown))
manner_once once NoJson NoJson command command' given is w w' wet wet' synced = refl
manner_once once (Synchronized synced) (Synchronized synced') command command' given is w w' wet wet' same = ap Synchronized (head_is same)
manner_once once (Synchronized synced) NoCommit command command' given is w w' wet wet' same = absurd (false≢true (sym w' ∙ w))
manner_once once NoCommit (Synchronized synced') command command' given is w w' wet wet' same = absurd (false≢true (sym w ∙ w'))
manner_once once NoCommit NoCommit command command' given is w w' wet wet' same = refl
manner_once once manner manner' command command' given is w w' wet wet' synced = absurd cc

-- the place of an event as a list
abbrev pub places_in : Given0 → List ℕ
places_in (given.Kept place reply) = place ∷ []
places_in given = []

-- the turn of what was given has its place, or rests on the same, whether memory was wanting for JSON or not
turn_place : (manner : Manner) (moment : ℕ) (gave : Given0) → kept_place (turn_of_given manner moment gave) ≡ places_in gave
turn_place manner moment (given.Kept place reply) = by manner
  where
    by : (manner : Manner) → kept_place (kept_turn manner place) ≡ place ∷ []
    by Dry = refl
    by (Synchronized synced) = refl
    by manner = refl
turn_place manner moment (given.Seen front reply) = by (is_dry manner)
  where
    by : (dry : Bool) → kept_place (seen_turn dry front moment) ≡ []
    by true = refl
    by false = refl
turn_place manner moment (given.Denied front right) = refl
turn_place manner moment (given.Unready front) = refl
turn_place manner moment given.NoMemory = refl

pub turn_rests : (manner : Manner) (moment : ℕ) (gave : Given0) → turn_basis (turn_of_given manner moment gave) ≡ basis_of gave
turn_rests manner moment (given.Kept place reply) = by manner
  where
    by : (manner : Manner) → turn_basis (kept_turn manner place) ≡ None
    by Dry = refl
    by (Synchronized synced) = refl
    by manner = refl
turn_rests manner moment (given.Seen front reply) = by (is_dry manner)
  where
    by : (dry : Bool) → turn_basis (seen_turn dry front moment) ≡ Some (Snapshot front)
    by true = refl
    by false = refl
turn_rests manner moment (given.Denied front right) = refl
turn_rests manner moment (given.Unready front) = refl
turn_rests manner moment given.NoMemory = refl

-- the turn has the answer to `synchronize`, where there was one
kept_synced : (manner : Manner) (place : ℕ) → synced_in (kept_turn manner place) ≡ sync_given manner
kept_synced Dry place = refl
kept_synced (Synchronized synced) place = refl
kept_synced manner place = refl

not_synced : (manner : Manner) (command : Command) (gave : Given0) → is_committed gave ≡ false → MayBeWritten command gave manner → [] ≡ sync_given manner
not_synced (Synchronized synced) command gave none written = absurd (false≢true (sym none ∙ written))
not_synced manner command gave none written = refl

pub turn_synced : (manner : Manner) (command : Command) (moment : ℕ) (gave : Given0) → MayBeWritten command gave manner → synced_in (turn_of_given manner moment gave) ≡ sync_given manner
turn_synced manner command moment (given.Kept place reply) written = kept_synced manner place
turn_synced manner command moment (given.Seen front reply) written = by (is_dry manner) ∙ not_synced manner command (given.Seen front reply) refl written
  where
    by : (dry : Bool) → synced_in (seen_turn dry front moment) ≡ []
    by true = refl
    by false = refl
turn_synced manner command moment (given.Denied front right) written = not_synced manner command (given.Denied front right) refl written
turn_synced manner command moment (given.Unready front) written = not_synced manner command (given.Unready front) refl written
turn_synced manner command moment given.NoMemory written = not_synced manner command given.NoMemory refl written

-- snapshots of as many entries are one basis
pub same_front : (front front' : ℕ) → Some (Snapshot front) ≡ Some (Snapshot front') → front ≡ front'
same_front front front' is = cc

-- what was given has a place or a basis, unless it is want of memory
pub record HasPlace (gave : Given0) : Type 0 where
  pub place : ℕ
  pub is : place_of gave ≡ Some place
  pub listed : places_in gave ≡ place ∷ []
  pub no_basis : basis_of gave ≡ None

pub record HasBasis (gave : Given0) : Type 0 where
  pub basis : Basis
  pub is : basis_of gave ≡ Some basis
  pub no_place : place_of gave ≡ None
  pub listed : places_in gave ≡ []

pub place_or_basis : (gave : Given0) → (gave ≡ given.NoMemory → ⊥) → HasPlace gave ⊎ HasBasis gave
place_or_basis (given.Kept place reply) some = inl (record { place = place; is = refl; listed = refl; no_basis = refl })
place_or_basis (given.Seen front reply) some = inr (record { basis = Snapshot front; is = refl; no_place = refl; listed = refl })
place_or_basis (given.Denied front right) some = inr (record { basis = Lack front right; is = refl; no_place = refl; listed = refl })
place_or_basis (given.Unready front) some = inr (record { basis = Failure front; is = refl; no_place = refl; listed = refl })
place_or_basis given.NoMemory some = absurd (some refl)

-- where two answers rest on the same, their places are one, and so are those after them
same_place : (gave gave' : Given0) (more more' : List ℕ) → basis_of gave ≡ basis_of gave' → places_in gave ++ more ≡ places_in gave' ++ more'
    → HasPlace gave ⊎ HasBasis gave → HasPlace gave' ⊎ HasBasis gave' → (place_of gave ≡ place_of gave') × (more ≡ more')
same_place gave gave' more more' rests places (inl at) (inl at') =
    let is : at.place ∷ more ≡ at'.place ∷ more' = ap (λ l. l ++ more) (sym at.listed) ∙ places ∙ ap (λ l. l ++ more') at'.listed in
    (at.is ∙ ap Some (head_is is) ∙ sym at'.is, tail_is is)
same_place gave gave' more more' rests places (inr on) (inr on') =
    (on.no_place ∙ sym on'.no_place, ap (λ l. l ++ more) (sym on.listed) ∙ places ∙ ap (λ l. l ++ more') on'.listed)
same_place gave gave' more more' rests places (inl at) (inr on') = absurd (none-some on'.basis (sym at.no_basis ∙ rests ∙ on'.is))
same_place gave gave' more more' rests places (inr on) (inl at') = absurd (none-some on.basis (sym at'.no_basis ∙ sym rests ∙ on.is))

-- a turn that isn't of want of memory is of something given
pub given_some : (manner : Manner) (moment : ℕ) (gave : Given0) → is_wanting (turn_of_given manner moment gave) ≡ false → gave ≡ given.NoMemory → ⊥
given_some manner moment gave want is = false≢true (sym want ∙ ap (λ g. is_wanting (turn_of_given manner moment g)) is)

-- and memory wasn't wanting for its JSON
pub not_dry : (manner : Manner) (command : Command) (moment : ℕ) (gave : Given0) → MayBeWritten command gave manner → is_wanting (turn_of_given manner moment gave) ≡ false → is_dry manner ≡ false
not_dry Plain command moment gave written want = refl
not_dry (Json text) command moment gave written want = refl
not_dry NoJson command moment gave written want = refl
not_dry (Synchronized synced) command moment gave written want = refl
not_dry NoCommit command moment gave written want = refl
not_dry Dry command moment (given.Kept place reply) written want = absurd (false≢true (sym want))
not_dry Dry command moment (given.Seen front reply) written want = absurd (false≢true (sym want))
not_dry Dry command moment (given.Denied front right) written want = absurd (false≢true written.1)
not_dry Dry command moment (given.Unready front) written want = absurd (false≢true written.1)
not_dry Dry command moment given.NoMemory written want = absurd (false≢true (sym want))

read_once : Once → (configuring : Bool) (reading : Reading) (line : List ℕ) (one other : Option Item × Reading) → CommandLine configuring reading line one → CommandLine configuring reading line other → one ≡ other
read_once once configuring reading line one other first second =
    first.is ∙ ap (asked_by reading) (once.lines configuring line first.answer second.answer first.is_reading second.is_reading) ∙ sym second.is

-- what comes of a line isn't want of memory
abbrev pub NotWanting : Option Item × Reading → Type 0
NotWanting came = came.0 ≡ Some item.NoMemory → ⊥

load_once : Once → (way : LoadWay) (text : List ℕ) (one other : Item) → (one ≡ item.NoMemory → ⊥) → (other ≡ item.NoMemory → ⊥) → (says : SaysLoad way text one) (says' : SaysLoad way text other) → one ≡ other
load_once once way text one other want want' says says' = by says.load says'.load
  where
    by : IsLoadOf way says.statements one → IsLoadOf way says'.statements other → one ≡ other
    by (inl is) (inl is') =
        is ∙ ap (λ m. Ask (Load way (printed m []))) (once.maps text says.statements says'.statements says.read says'.read) ∙ sym is'
    by (inr none) load' = absurd (want none)
    by (inl is) (inr none) = absurd (want' none)

item_once : Once → (way : LoadWay) (json : Bool) (text : List ℕ) (one other : Item) → (one ≡ item.NoMemory → ⊥) → (other ≡ item.NoMemory → ⊥) → EndsText way json text one → EndsText way json text other → one ≡ other
item_once once way false text one other want want' first second = first ∙ sym second
item_once once way true text one other want want' first second = by first second
  where
    by : EndsJson way text one → EndsJson way text other → one ≡ other
    by (inl says) (inl says') = load_once once way text one other want want' says says'
    by (inl says) (inr (inl has')) = absurd (once.apart text says.statements has'.fault says.read has'.has)
    by (inr (inl has)) (inl says') = absurd (once.apart text says'.statements has.fault says'.read has.has)
    by (inr (inl has)) (inr (inl has')) = has.is ∙ ap (λ f. Wrong (fault_of.Json f)) (once.faults text has.fault has'.fault has.has has'.has) ∙ sym has'.is
    by (inr (inr none)) second = absurd (want none)
    by (inl says) (inr (inr none)) = absurd (want' none)
    by (inr (inl has)) (inr (inr none)) = absurd (want' none)

ended_once : Once → (way : LoadWay) (json : Bool) (text : List ℕ) (one other : Option Item × Reading) → NotWanting one → NotWanting other → Ended way json text one → Ended way json text other → one ≡ other
ended_once once way json text one other want want' first second =
    first.is ∙ ap (λ i. (Some i, Configuring)) (item_once once way json text first.item second.item (λ none. want (ap (λ (c : Option Item × Reading). c.0) first.is ∙ ap Some none)) (λ none. want' (ap (λ (c : Option Item × Reading). c.0) second.is ∙ ap Some none)) first.ends second.ends) ∙ sym second.is

line_once : Once → (way : LoadWay) (json : Bool) (text line : List ℕ) (is_end : Bool) (one other : Option Item × Reading) → NotWanting one → NotWanting other →
    MatchBool is_end (Ended way json text one) (one ≡ (None, with_line (Collecting way json text) line)) → MatchBool is_end (Ended way json text other) (other ≡ (None, with_line (Collecting way json text) line)) → one ≡ other
line_once once way json text line true one other want want' first second = ended_once once way json text one other want want' first second
line_once once way json text line false one other want want' first second = first ∙ sym second

-- what results from a line is one, unless memory was wanting
comes_once : Once → (reading : Reading) (line : Line) (one other : Option Item × Reading) → NotWanting one → NotWanting other → ComesOf reading line one → ComesOf reading line other → one ≡ other
comes_once once Operational (Text line) one other want want' first second = read_once once false Operational line one other first second
comes_once once Operational TooLong one other want want' first second = first ∙ sym second
comes_once once Operational End one other want want' first second = first ∙ sym second
comes_once once Operational Failed one other want want' first second = first ∙ sym second
comes_once once Operational Full one other want want' first second = first ∙ sym second
comes_once once Configuring (Text line) one other want want' first second = read_once once true Configuring line one other first second
comes_once once Configuring TooLong one other want want' first second = first ∙ sym second
comes_once once Configuring End one other want want' first second = first ∙ sym second
comes_once once Configuring Failed one other want want' first second = first ∙ sym second
comes_once once Configuring Full one other want want' first second = first ∙ sym second
comes_once once (Collecting way json text) (Text line) one other want want' first second = line_once once way json text line (is_end_of_text line) one other want want' first second
comes_once once (Collecting way json text) TooLong one other want want' first second = first ∙ sym second
comes_once once (Collecting way json text) End one other want want' first second = ended_once once way json text one other want want' first second
comes_once once (Collecting way json text) Failed one other want want' first second = first ∙ sym second
comes_once once (Collecting way json text) Full one other want want' first second = first ∙ sym second
comes_once once (Spoilt fault) (Text line) one other want want' first second = first ∙ sym second
comes_once once (Spoilt fault) TooLong one other want want' first second = first ∙ sym second
comes_once once (Spoilt fault) End one other want want' first second = first ∙ sym second
comes_once once (Spoilt fault) Failed one other want want' first second = first ∙ sym second
comes_once once (Spoilt fault) Full one other want want' first second = first ∙ sym second
comes_once once Out (Text line) one other want want' first second = first ∙ sym second
comes_once once Out TooLong one other want want' first second = first ∙ sym second
comes_once once Out End one other want want' first second = first ∙ sym second
comes_once once Out Failed one other want want' first second = first ∙ sym second
comes_once once Out Full one other want want' first second = first ∙ sym second

-- no fault and no want of memory ended a session
abbrev pub IsWhole : How → Type 0
IsWhole how = (how ≡ Clean) ⊎ (how ≡ InputFull)

-- a session that stopped reads no further line
stopped : (how : How) (reading : Reading) (line : Line) (lines : List Line) → IsWhole how → EndsBy how reading (line ∷ lines) → ReadsLine reading line → ⊥
stopped how reading line lines (inl clean) ends read = by (subst (λ h. EndsBy h reading (line ∷ lines)) clean ends)
  where
    by : EndsBy Clean reading (line ∷ lines) → ⊥
    by (inl out) = subst (λ r. ReadsLine r line) out read
    by (inr none) = cons_is none
stopped how reading line lines (inr full) ends read =
    let by : EndsBy InputFull reading (line ∷ lines) = subst (λ h. EndsBy h reading (line ∷ lines)) full ends in not_full reading (subst (ReadsLine reading) (head_is by.1) read)

-- exchanges of which none found no memory
abbrev pub AllWere : List Exchange → Type 0
AllWere xs = AllByRecursion (λ turn. is_wanting turn ≡ false) (map turn_taken xs)

turn_wanted : (x : Exchange) → item_asked x ≡ item.NoMemory → is_wanting (turn_taken x) ≡ false → ⊥
turn_wanted (Asked moment command given manner) is want = item_wanting manner command is
turn_wanted (Refused moment fault) is want = false≢true (sym (ap is_wrong is))
turn_wanted (Wanted moment) is want = false≢true (sym want)

-- no item of theirs was wanting memory
not_wanting : (R : Reading → List Exchange → Type 0) (came : Option Item × Reading) (xs more : List Exchange) → Continues R came xs → AllWere (xs ++ more) → NotWanting came
not_wanting R (None, next) xs more goes wants = λ is. none-some item.NoMemory is
not_wanting R (Some item, next) [] more goes wants = absurd goes
not_wanting R (Some item, next) (x ∷ xs) more goes wants = λ is. turn_wanted x (goes.0 ∙ some_is is) wants.0

-- what two sessions have in common of the exchanges to come says that the next two are one, where their items and moments are
abbrev pub Peels : (List Exchange → List Exchange → Type 0) → Type 0
Peels Common =
    (x y : Exchange) (xs ys : List Exchange) → item_asked x ≡ item_asked y → moment_in x ≡ moment_in y → is_wanting (turn_taken x) ≡ false → is_wanting (turn_taken y) ≡ false
    → Common (x ∷ xs) (y ∷ ys) → (x ≡ y) × Common xs ys

module _ (Common : List Exchange → List Exchange → Type 0) (peels : Peels Common) (once : Once) where
  -- the exchanges of two sessions took the same answers of a clock, and none found no memory
  pub record Alike (coming : ℕ → ℕ) (xs ys : List Exchange) : Type 0 where
    pub left : ℕ → ℕ
    pub left' : ℕ → ℕ
    pub answers : AnswersAre coming (map moment_in xs) left
    pub answers' : AnswersAre coming (map moment_in ys) left'
    pub wants : AllWere xs
    pub wants' : AllWere ys
    pub common : Common xs ys

  first_is : (coming : ℕ → ℕ) (x y : Exchange) (xs ys : List Exchange) → item_asked x ≡ item_asked y → Alike coming (x ∷ xs) (y ∷ ys) → (x ≡ y) × Alike (λ k. coming (k + 1)) xs ys
  first_is coming x y xs ys item alike =
      let peeled : (x ≡ y) × Common xs ys = peels x y xs ys item (alike.answers.0 ∙ sym alike.answers'.0) alike.wants.0 alike.wants'.0 alike.common in
      (peeled.0, record { left = alike.left; left' = alike.left'; answers = alike.answers.1; answers' = alike.answers'.1; wants = alike.wants.1; wants' = alike.wants'.1; common = peeled.1 })

  -- the items of the same lines came to the same
  abbrev pub Same : Reading → Reading → List Exchange → List Exchange → (xs ys : List Exchange) → Type 0
  Same last last' more more' xs ys = (xs ≡ ys) × (last ≡ last') × ((next : ℕ → ℕ) × Alike next more more')

  same_items : (how how' : How) (lines lines' rest rest' : List Line) (reading last last' : Reading) (xs ys more more' : List Exchange) (coming : ℕ → ℕ) → IsWhole how → IsWhole how' →
      lines ++ rest ≡ lines' ++ rest' → ReadsThrough lines reading xs last → ReadsThrough lines' reading ys last' → EndsBy how last rest → EndsBy how' last' rest' → Alike coming (xs ++ more) (ys ++ more') → Same last last' more more' xs ys
  same_items how how' [] [] rest rest' reading last last' xs ys more more' coming w w' is reads reads' ends ends' alike =
      (reads.0 ∙ sym reads'.0, reads.1 ∙ sym reads'.1, (coming, subst (λ l. Alike coming more (l ++ more')) reads'.0 (subst (λ l. Alike coming (l ++ more) (ys ++ more')) reads.0 alike)))
  same_items how how' [] (line ∷ lines') rest rest' reading last last' xs ys more more' coming w w' is reads reads' ends ends' alike =
      absurd (stopped how reading line (lines' ++ rest') w (subst (λ r. EndsBy how r (line ∷ (lines' ++ rest'))) reads.1 (subst (EndsBy how last) is ends)) reads'.is_read)
  same_items how how' (line ∷ lines) [] rest rest' reading last last' xs ys more more' coming w w' is reads reads' ends ends' alike =
      absurd (stopped how' reading line (lines ++ rest) w' (subst (λ r. EndsBy how' r (line ∷ (lines ++ rest))) reads'.1 (subst (EndsBy how' last') (sym is) ends')) reads.is_read)
  same_items how how' (line ∷ lines) (line' ∷ lines') rest rest' reading last last' xs ys more more' coming w w' is reads reads' ends ends' alike =
      on reads.came (λ next us vs now r r' a. same_items how how' lines lines' rest rest' next last last' us vs more more' now w w' (tail_is is) r r' ends ends' a) xs ys reads.goes
      (subst (λ came. Continues (λ next us. ReadsThrough lines' next us last') came ys) (comes_once once reading line reads'.came reads.came (not_wanting (λ next us. ReadsThrough lines' next us last') reads'.came ys more' reads'.goes alike.wants') (not_wanting (λ next us. ReadsThrough lines next us last) reads.came xs more reads.goes alike.wants) (subst (λ l. ComesOf reading l reads'.came) (sym (head_is is)) reads'.comes) reads.comes) reads'.goes) coming alike
    where
      on : (came : Option Item × Reading) → ((next : Reading) (us vs : List Exchange) (now : ℕ → ℕ) → ReadsThrough lines next us last → ReadsThrough lines' next vs last' → Alike now (us ++ more) (vs ++ more') → Same last last' more more' us vs) → (us vs : List Exchange) →
          Continues (λ next us. ReadsThrough lines next us last) came us → Continues (λ next vs. ReadsThrough lines' next vs last') came vs → (now : ℕ → ℕ) → Alike now (us ++ more) (vs ++ more') → Same last last' more more' us vs
      on (None, next) again us vs goes goes' now a = again next us vs now goes goes' a
      on (Some item, next) again [] vs goes goes' now a = absurd goes
      on (Some item, next) again (u ∷ us) [] goes goes' now a = absurd goes'
      on (Some item, next) again (u ∷ us) (v ∷ vs) goes goes' now a =
          let first : (u ≡ v) × Alike (λ k. now (k + 1)) (us ++ more) (vs ++ more') = first_is now u v (us ++ more) (vs ++ more') (goes.0 ∙ sym goes'.0) a in
          let back : Same last last' more more' us vs = again (reading_after next u) us vs (λ k. now (k + 1)) goes.1 (subst (λ x. ReadsThrough lines' (reading_after next x) vs last') (sym first.0) goes'.1) first.1 in
          (ap (λ x. x ∷ us) first.0 ∙ ap (λ l. v ∷ l) back.0, back.1, back.2)

  -- one logout each
  one_logout : (coming : ℕ → ℕ) (xs ys : List Exchange) → ((logout : Exchange) × (xs ≡ logout ∷ []) × (item_asked logout ≡ Ask Logout)) → ((logout : Exchange) × (ys ≡ logout ∷ []) × (item_asked logout ≡ Ask Logout)) → Alike coming xs ys → (xs ≡ ys) × Common [] []
  one_logout coming xs ys is is' alike =
      let first : (is.0 ≡ is'.0) × Alike (λ k. coming (k + 1)) [] [] = first_is coming is.0 is'.0 [] [] (is.2 ∙ sym is'.2) (subst (λ l. Alike coming (is.0 ∷ []) l) is'.1 (subst (λ l. Alike coming l ys) is.1 alike)) in
      (is.1 ∙ ap (λ x. x ∷ []) first.0 ∙ sym is'.1, first.1.common)

  -- the last logouts of two sessions came to the same
  same_logout : (last : Reading) (coming : ℕ → ℕ) (xs ys : List Exchange) → LogsOut last xs → LogsOut last ys → Alike coming xs ys → (xs ≡ ys) × Common [] []
  same_logout Out coming xs ys is is' alike = (is ∙ sym is', subst (λ l. Common [] l) is' (subst (λ l. Common l ys) is alike.common))
  same_logout Operational coming xs ys is is' alike = one_logout coming xs ys is is' alike
  same_logout Configuring coming xs ys is is' alike = one_logout coming xs ys is is' alike
  same_logout (Collecting way json text) coming xs ys is is' alike = one_logout coming xs ys is is' alike
  same_logout (Spoilt fault) coming xs ys is is' alike = one_logout coming xs ys is is' alike

-- a session whose sink never failed wrote all its texts
all_text : (how : How) (asked final : List Exchange) (old new : SessionView) → IsWhole how → (Rose old.faults new.faults → ⊥) → Texts how asked final old new → new.held ≡ held_after old.held (flat_map text_written (asked ++ final))
all_text how asked final old new whole no_fault texts = wrote (by whole)
  where
    by : IsWhole how → WroteTexts (flat_map text_written asked) (flat_map text_written final) old new
    by (inl is) = subst (λ h. Texts h asked final old new) is texts
    by (inr is) = subst (λ h. Texts h asked final old new) is texts

    wrote : WroteTexts (flat_map text_written asked) (flat_map text_written final) old new → new.held ≡ held_after old.held (flat_map text_written (asked ++ final))
    wrote w = w.held ∙ ap (λ t. held_after old.held (flat_map text_written asked ++ t)) (all w.part w.rest w.is_second w.whole) ∙ ap (held_after old.held) (sym (flat_map_over_append text_written asked final))
      where
        all : (part rest : List ℕ) → flat_map text_written final ≡ part ++ rest → (rest ≡ []) ⊎ Rose old.faults new.faults → part ≡ flat_map text_written final
        all part rest is (inl none) = sym (is ∙ ap (λ r. part ++ r) none ∙ append-nil part)
        all part rest is (inr rose) = absurd (no_fault rose)

-- a told clock tells its answers
took : (coming : ℕ → ℕ) (answers : List ℕ) (left : Option (ℕ → ℕ)) → TakesAnswers (Some coming) answers left → (now : ℕ → ℕ) × AnswersAre coming answers now
took coming answers (Some left) takes = (left, takes)
took coming answers None takes = absurd takes

-- the lines of a told source
input_is : (lines : List Line) (reading : Reading) (how : How) (limit : ℕ) (bytes : List ℕ) (source : Option (List ℕ)) → TellsBoth (IsInput lines reading how limit) (Some bytes) source → (rest : List Line) × (lines_read limit bytes ≡ lines ++ rest) × EndsBy how reading rest
input_is lines reading how limit bytes (Some now) input = (input.rest, input.first.are, input.ends)
input_is lines reading how limit bytes None input = absurd input

module _ {D : Type 0} (follows : Following D) (syncs : Syncing D) (once : Once) (limit : ℕ) (bytes : List ℕ) (coming : ℕ → ℕ) (d e d' e' : D) (one other : SessionView)
    (first : Undisturbed follows syncs limit bytes coming d e one) (second : Undisturbed follows syncs limit bytes coming d' e' other) where
  abbrev pub all_of : List Exchange
  all_of = first.session.asked ++ first.session.final

  abbrev pub all_of' : List Exchange
  all_of' = second.session.asked ++ second.session.final

  -- two sessions that nothing disturbs, and that have something in common that says so, came to the same
  module _ (Common : List Exchange → List Exchange → Type 0) (peels : Peels Common) (common : Common all_of all_of') where
    alike : Alike Common peels once coming all_of all_of'
    alike =
        let answers : (now : ℕ → ℕ) × AnswersAre coming (map moment_in all_of) now = took coming (map moment_in all_of) one.coming first.session.turns.moments in
        let answers' : (now : ℕ → ℕ) × AnswersAre coming (map moment_in all_of') now = took coming (map moment_in all_of') other.coming second.session.turns.moments in
        record {
          left = answers.0;
          left' = answers'.0;
          answers = answers.1;
          answers' = answers'.1;
          wants = subst (AllByRecursion (λ turn. is_wanting turn ≡ false)) first.session.turns.turned first.no_want;
          wants' = subst (AllByRecursion (λ turn. is_wanting turn ≡ false)) second.session.turns.turned second.no_want;
          common = common;
        }

    same : Same Common peels once first.session.reading second.session.reading first.session.final second.session.final first.session.asked second.session.asked
    same =
        let s = first.session in
        let s' = second.session in
        let input : (rest : List Line) × (lines_read limit bytes ≡ s.lines ++ rest) × EndsBy first.how s.reading rest = input_is s.lines s.reading first.how limit bytes first.source s.input in
        let input' : (rest : List Line) × (lines_read limit bytes ≡ s'.lines ++ rest) × EndsBy second.how s'.reading rest = input_is s'.lines s'.reading second.how limit bytes second.source s'.input in
        same_items Common peels once first.how second.how s.lines s'.lines input.0 input'.0 Operational s.reading s'.reading s.asked s'.asked s.final s'.final coming first.ended second.ended
        (sym input.1 ∙ input'.1) s.reads s'.reads input.2 input'.2 alike

    last : (first.session.final ≡ second.session.final) × Common [] []
    last = same_logout Common peels once first.session.reading same.2.0 first.session.final second.session.final first.session.logs_out
        (subst (λ r. LogsOut r second.session.final) (sym same.1) second.session.logs_out) same.2.1

    -- all their exchanges are one
    pub all_same : (all_of ≡ all_of') × Common [] []
    all_same = (ap (λ xs. xs ++ first.session.final) same.0 ∙ ap (λ ys. second.session.asked ++ ys) last.0, last.1)

  -- and then their turns and texts are
  pub outcome_same : all_of ≡ all_of' → (one.turns ≡ other.turns) × (one.held ≡ other.held)
  outcome_same all =
      (first.session.turns.turned ∙ ap (map turn_taken) all ∙ sym second.session.turns.turned, text ∙ ap (λ xs. held_after (Some []) (flat_map text_written xs)) all ∙ sym text')
    where
      text : one.held ≡ held_after (Some []) (flat_map text_written all_of)
      text = all_text first.how first.session.asked first.session.final (record { coming = Some coming; held = Some []; faults = first.faults; turns = [] }) one first.ended first.no_fault first.session.texts

      text' : other.held ≡ held_after (Some []) (flat_map text_written all_of')
      text' = all_text second.how second.session.asked second.session.final (record { coming = Some coming; held = Some []; faults = second.faults; turns = [] }) other second.ended second.no_fault second.session.texts

-- two doors that name the same, events at the same places, and answers without events that rest on the same
record AtPlaces {D : Type 0} (names : Naming D) (d e : D) (xs ys : List Exchange) : Type 0 where
  pub places : flat_map kept_place (map turn_taken xs) ≡ flat_map kept_place (map turn_taken ys)
  pub seen : SeeAlike (map turn_taken xs) (map turn_taken ys)
  pub synced : flat_map synced_in (map turn_taken xs) ≡ flat_map synced_in (map turn_taken ys)
  pub named : AllByRecursion (IsNamed names d) xs
  pub named' : AllByRecursion (IsNamed names e) ys
  pub written : AllByRecursion IsWrittenIn xs
  pub written' : AllByRecursion IsWrittenIn ys

-- the same item at the same moment, for which the same was given, and with the same answer to `synchronize`
pub asked_is : Once → (moment moment' : ℕ) (command command' : Command) (given given' : Given0) (manner manner' : Manner) → moment ≡ moment' → asked_item manner command ≡ asked_item manner' command' → given ≡ given'
    → MayBeWritten command given manner → MayBeWritten command' given' manner' → is_dry manner ≡ false → is_dry manner' ≡ false → sync_given manner ≡ sync_given manner' → Asked moment command given manner ≡ Asked moment' command' given' manner'
asked_is once moment moment' command command' given given' manner manner' when item same w w' wet wet' synced =
    let which : command ≡ command' = command_once manner manner' command command' given given' item w w' in
    let how : manner ≡ manner' = manner_once once manner manner' command command' given' item (subst (λ g. MayBeWritten command g manner) same w) w' wet wet' synced in
    ap (λ m. Asked m command given manner) when ∙ ap (λ x. Asked moment' x given manner) which ∙ ap (λ g. Asked moment' command' g manner) same ∙ ap (Asked moment' command' given') how

module _ {D : Type 0} (names : Naming D) (d e : D) (agree : Agree names d e) (once : Once) where
  -- for the same item at the same moment the same was given, where the place and the basis are
  given_same : (moment moment' : ℕ) (command command' : Command) (given given' : Given0) → command ≡ command' → moment ≡ moment' → names d command moment given → names e command' moment' given' → place_of given ≡ place_of given' → basis_of given ≡ basis_of given' → given ≡ given'
  given_same moment moment' command command' given given' which when named named' place basis =
      let there : names e command moment given' =
      subst (λ m. names e command m given') (sym when) (subst (λ x. names e x moment' given') (sym which) named') in
      agree command moment given given' named there place basis

  peels_places : Peels (AtPlaces names d e)
  peels_places (Asked moment command given manner) (Asked moment' command' given' manner') xs ys item when want want' at =
      let basis : basis_of given ≡ basis_of given' = sym (turn_rests manner moment given) ∙ at.seen 0 ∙ turn_rests manner' moment' given' in
      let more : List ℕ = flat_map kept_place (map turn_taken xs) in
      let more' : List ℕ = flat_map kept_place (map turn_taken ys) in
      let places : (place_of given ≡ place_of given') × (more ≡ more') =
      same_place given given' more more' basis
      (ap (λ l. l ++ more) (sym (turn_place manner moment given)) ∙ at.places ∙ ap (λ l. l ++ more') (turn_place manner' moment' given'))
      (place_or_basis given (given_some manner moment given want)) (place_or_basis given' (given_some manner' moment' given' want')) in
      let which : command ≡ command' = command_once manner manner' command command' given given' item at.written.0 at.written'.0 in
      let same : given ≡ given' = given_same moment moment' command command' given given' which when at.named.0 at.named'.0 places.0 basis in
      let told : List SyncedTurn = flat_map synced_in (map turn_taken xs) in
      let told' : List SyncedTurn = flat_map synced_in (map turn_taken ys) in
      let synced : (sync_given manner ≡ sync_given manner') × (told ≡ told') =
      sync_once manner manner' command command' given' told told' item (subst (λ g. MayBeWritten command g manner) same at.written.0) at.written'.0
      (ap (λ l. l ++ told) (sym (turn_synced manner command moment given at.written.0)) ∙ at.synced ∙ ap (λ l. l ++ told') (turn_synced manner' command' moment' given' at.written'.0)) in (
        asked_is once moment moment' command command' given given' manner manner' when item same at.written.0 at.written'.0 (not_dry manner command moment given at.written.0 want) (not_dry manner' command' moment' given' at.written'.0 want') synced.0,
        record { places = places.1; seen = λ number. at.seen (suc number); synced = synced.1; named = at.named.1; named' = at.named'.1; written = at.written.1; written' = at.written'.1 },
      )
  peels_places (Refused moment fault) (Refused moment' fault') xs ys item when want want' at = (
    ap (λ m. Refused m fault) when ∙ ap (Refused moment') (fault_is fault fault' item),
    record { places = at.places; seen = λ number. at.seen (suc number); synced = at.synced; named = at.named.1; named' = at.named'.1; written = at.written.1; written' = at.written'.1 },
  )
  peels_places (Asked moment command given manner) (Refused moment' fault') xs ys item when want want' at = absurd (item_wrong manner command fault' item)
  peels_places (Refused moment fault) (Asked moment' command' given' manner') xs ys item when want want' at = absurd (item_wrong manner' command' fault (sym item))
  peels_places (Wanted moment) y xs ys item when want want' at = absurd (false≢true (sym want))
  peels_places (Asked moment command given manner) (Wanted moment') xs ys item when want want' at = absurd (false≢true (sym want'))
  peels_places (Refused moment fault) (Wanted moment') xs ys item when want want' at = absurd (false≢true (sym want'))

-- two doors that stood alike, and went on by what they were asked
record FromOne {D : Type 0} (follows : Following D) (syncs : Syncing D) (e e' : D) (xs ys : List Exchange) : Type 0 where
  pub start : D
  pub went : GoesBy follows syncs xs start e
  pub went' : GoesBy follows syncs ys start e'
  pub written : AllByRecursion IsWrittenIn xs
  pub written' : AllByRecursion IsWrittenIn ys

-- memory wasn't wanting for a `synchronize`
not_wanted : (synced : SyncedTurn) (moment : ℕ) (gave : Given0) → is_committed gave ≡ true → is_wanting (turn_of_given (Synchronized synced) moment gave) ≡ false → synced ≡ sync.NoMemory → ⊥
not_wanted (sync.Synced synced) moment gave committed want is = cc
not_wanted sync.NoMemory moment (given.Kept place reply) committed want is = false≢true (sym want)
not_wanted sync.NoMemory moment gave committed want is = false≢true committed

-- behind the same item, for which the same was given, a door that leaves no choice goes on in one way
syncs_once : {D : Type 0} (follows : Following D) (syncs : Syncing D) → IsDetermined follows syncs → (manner manner' : Manner) (command command' : Command) (moment : ℕ) (given : Given0) (d e e' : D) → asked_item manner command ≡ asked_item manner' command' → MayBeWritten command given manner → MayBeWritten command' given manner'
    → is_wanting (turn_of_given manner moment given) ≡ false → is_wanting (turn_of_given manner' moment given) ≡ false → SyncsBy syncs manner d e → SyncsBy syncs manner' d e' → (sync_given manner ≡ sync_given manner') × (e ≡ e')
syncs_once follows syncs determined (Synchronized synced) (Synchronized synced') command command' moment given d e e' is w w' want want' went went' =
    let same : (synced ≡ synced') × (e ≡ e') = determined.one_sync d e e' synced synced' went went' (not_wanted synced moment given w want) (not_wanted synced' moment given w' want') in
    (ap (λ s. s ∷ []) same.0, same.1)
syncs_once follows syncs determined (Synchronized synced) NoCommit command command' moment given d e e' is w w' want want' went went' = absurd (false≢true (sym w' ∙ w))
syncs_once follows syncs determined NoCommit (Synchronized synced') command command' moment given d e e' is w w' want want' went went' = absurd (false≢true (sym w ∙ w'))
syncs_once follows syncs determined (Synchronized synced) manner' command command' moment given d e e' is w w' want want' went went' = absurd cc
syncs_once follows syncs determined manner (Synchronized synced') command command' moment given d e e' is w w' want want' went went' = absurd cc
syncs_once follows syncs determined manner manner' command command' moment given d e e' is w w' want want' went went' = (refl, went ∙ sym went')

peels_one : {D : Type 0} (follows : Following D) (syncs : Syncing D) (e e' : D) → IsDetermined follows syncs → Once → Peels (FromOne follows syncs e e')
peels_one follows syncs e e' determined once (Asked moment command given manner) (Asked moment' command' given' manner') xs ys item when want want' from =
    let which : command ≡ command' = command_once manner manner' command command' given given' item from.written.0 from.written'.0 in
    let did : follows from.start command moment given' from.went'.0 = subst (λ m. follows from.start command m given' from.went'.0) (sym when) (subst (λ x. follows from.start x moment' given' from.went'.0) (sym which) from.went'.1) in
    let same : (given ≡ given') × (from.went.0 ≡ from.went'.0) = determined.one_ask from.start from.went.0 from.went'.0 command moment given given' from.went.1 did (given_some manner moment given want) (given_some manner' moment' given' want') in
    let synced : (sync_given manner ≡ sync_given manner') × (from.went.2 ≡ from.went'.2) =
    syncs_once follows syncs determined manner manner' command command' moment' given' from.went'.0 from.went.2 from.went'.2 item
    (subst (λ g. MayBeWritten command g manner) same.0 from.written.0) from.written'.0
    (subst (λ m. is_wanting (turn_of_given manner m given') ≡ false) when (subst (λ g. is_wanting (turn_of_given manner moment g) ≡ false) same.0 want)) want'
    (subst (λ x. SyncsBy syncs manner x from.went.2) same.1 from.went.3) from.went'.3 in (
      asked_is once moment moment' command command' given given' manner manner' when item same.0 from.written.0 from.written'.0 (not_dry manner command moment given from.written.0 want) (not_dry manner' command' moment' given' from.written'.0 want') synced.0,
      record { start = from.went'.2; went = subst (λ x. GoesBy follows syncs xs x e) synced.1 from.went.4; went' = from.went'.4; written = from.written.1; written' = from.written'.1 },
    )
peels_one follows syncs e e' determined once (Refused moment fault) (Refused moment' fault') xs ys item when want want' from =
    (ap (λ m. Refused m fault) when ∙ ap (Refused moment') (fault_is fault fault' item), record { start = from.start; went = from.went; went' = from.went'; written = from.written.1; written' = from.written'.1 })
peels_one follows syncs e e' determined once (Asked moment command given manner) (Refused moment' fault') xs ys item when want want' from = absurd (item_wrong manner command fault' item)
peels_one follows syncs e e' determined once (Refused moment fault) (Asked moment' command' given' manner') xs ys item when want want' from = absurd (item_wrong manner' command' fault (sym item))
peels_one follows syncs e e' determined once (Wanted moment) y xs ys item when want want' from = absurd (false≢true (sym want))
peels_one follows syncs e e' determined once (Asked moment command given manner) (Wanted moment') xs ys item when want want' from = absurd (false≢true (sym want'))
peels_one follows syncs e e' determined once (Refused moment fault) (Wanted moment') xs ys item when want want' from = absurd (false≢true (sym want'))

-- two sessions at the same places, with answers without events that rest on the same, of doors that name the same
pub one_text : {D : Type 0} (names : Naming D) (follows : Following D) (syncs : Syncing D) (named : (d e : D) (command : Command) (moment : ℕ) (given : Given0) → follows d command moment given e → names e command moment given)
    (keeps : (d e : D) (command : Command) (moment : ℕ) (given : Given0) → follows d command moment given e → (asked : Command) (when : ℕ) (was : Given0) → names d asked when was → names e asked when was)
    (keeps_synced : (d e : D) (synced : SyncedTurn) → syncs d synced e → (asked : Command) (when : ℕ) (was : Given0) → names d asked when was → names e asked when was) → Once →
    (limit : ℕ) (bytes : List ℕ) (coming : ℕ → ℕ) (d e d' e' : D) (one other : SessionView) → Undisturbed follows syncs limit bytes coming d e one → Undisturbed follows syncs limit bytes coming d' e' other → Agree names e e' →
    flat_map kept_place one.turns ≡ flat_map kept_place other.turns → SeeAlike one.turns other.turns →
    flat_map synced_in one.turns ≡ flat_map synced_in other.turns → (one.turns ≡ other.turns) × (one.held ≡ other.held)
one_text names follows syncs named keeps keeps_synced once limit bytes coming d e d' e' one other first second agree places seen synced =
    outcome_same follows syncs once limit bytes coming d e d' e' one other first second (all_same follows syncs once limit bytes coming d e d' e' one other first second (AtPlaces names e e') (peels_places names e e' agree once) (record {
      places = ap (flat_map kept_place) (sym first.session.turns.turned) ∙ places ∙ ap (flat_map kept_place) second.session.turns.turned;
      synced = ap (flat_map synced_in) (sym first.session.turns.turned) ∙ synced ∙ ap (flat_map synced_in) second.session.turns.turned;
      seen = λ number. ap (λ turns. basis_at turns number) (sym first.session.turns.turned) ∙ seen number ∙ ap (λ turns. basis_at turns number) second.session.turns.turned;
      named = all_named names follows syncs named keeps keeps_synced (first.session.asked ++ first.session.final) d e first.session.turns.asked;
      named' = all_named names follows syncs named keeps keeps_synced (second.session.asked ++ second.session.final) d' e' second.session.turns.asked;
      written = first.session.turns.written;
      written' = second.session.turns.written;
    })).0

-- two sessions of one door that leaves no choice
pub one_run : {D : Type 0} (follows : Following D) (syncs : Syncing D) → Once → IsDetermined follows syncs → (limit : ℕ) (bytes : List ℕ) (coming : ℕ → ℕ) (d e e' : D) (one other : SessionView) → Undisturbed follows syncs limit bytes coming d e one → Undisturbed follows syncs limit bytes coming d e' other →
    (one.turns ≡ other.turns) × (one.held ≡ other.held) × (e ≡ e')
one_run follows syncs once determined limit bytes coming d e e' one other first second =
    let all = all_same follows syncs once limit bytes coming d e d e' one other first second (FromOne follows syncs e e') (peels_one follows syncs e e' determined once) (record { start = d; went = first.session.turns.asked; went' = second.session.turns.asked; written = first.session.turns.written; written' = second.session.turns.written }) in
    let out = outcome_same follows syncs once limit bytes coming d e d e' one other first second all.0 in
    (out.0, out.1, all.1.went ∙ sym all.1.went')
