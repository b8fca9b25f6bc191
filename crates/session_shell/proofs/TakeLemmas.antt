-- What an item and a line come to.
use Rattle.std.proofs.Common.{◌≡◌, ℕ, ◌<◌, List, [], ◌∷◌, ◌++◌, Bool, true, false, refl, sym, ap, ◌∙◌, Option, None, Some, Result, Ok, Err, OnErr, is_ok, if◌then◌else◌, inl, inr}
use Rattle.std.specs.List.{flat_map}
use Rattle.std.proofs.lemmas.List.{append-nil}
use Rattle.std.proofs.lemmas.Bool.{false≢true}
use Rattle.commands.specs.declared.command.Command.{Command}
use Rattle.io_edge.specs.Ends.{TakesAnswer, held_after}
use Rattle.io_edge.specs.Line.{Falls}
use Rattle.io_edge.specs.Wrote.{Wrote as WroteAs}
use Rattle.io_edge.specs.declared.lines.Line.{Line}
use Rattle.io_edge.specs.declared.lines.Line.TheVariants.{Text, TooLong, End, Failed, InputFull as Full}
use Rattle.reply_text.specs.declared.fault.ShellFault.{ShellFault}
use Rattle.session_shell.specs.declared.turn.How.{How}
use Rattle.session_shell.specs.declared.turn.How.TheVariants.{Clean, SinkFault}
use Rattle.session_shell.specs.declared.turn.Turn.TheVariants.{Local}
use Rattle.session_shell.specs.declared.turn.Turn.TheVariants as turn
use Rattle.session_shell.specs.declared.door.Given0.{Given0}
use Rattle.session_shell.specs.declared.reading.Item.{Item}
use Rattle.session_shell.specs.declared.json_show.Manner.{Manner}
use Rattle.session_shell.specs.declared.json_show.Manner.TheVariants.{Plain, Json, Dry, NoJson, Synchronized, NoCommit}
use Rattle.session_shell.specs.declared.reading.Item.TheVariants.{Wrong}
use Rattle.session_shell.specs.declared.reading.Item.TheVariants as item
use Rattle.session_shell.specs.declared.reading.Reading.{Reading}
use Rattle.session_shell.specs.declared.reading.Reading.TheVariants.{Operational, Configuring, Collecting, Spoilt, Out}
use Rattle.session_shell.specs.Exchange.{Exchange, Asked, Refused, Wanted, asked_item, text_by, text_written, turn_of_given, after_given}
use Rattle.session_shell.specs.Items.{ComesOf, ReadsLine}
use Rattle.session_shell.specs.Json.{MayBeWritten}
use Rattle.session_shell.specs.Transcript.{Following, SessionView, SyncsBy, Syncing}
use Rattle.session_shell.specs.Steps.{how_next, is_end, is_out, ServesItem, ServesLine, standing, TakesLine}
use Rattle.session_shell.proofs.TurnLemmas.{one_answer, Turns-none}

-- an item for which a command was asked
pub Serves-asked : {D T E : Type 0} (follows : Following D) (syncs : Syncing D) (item : Item) (command : Command) (moment : ℕ) (given : Given0) (manner : Manner) (put : Result T E) (d m e : D) (reading reading' : Reading) (old new : SessionView) →
    asked_item manner command ≡ item → MayBeWritten command given manner →
    TakesAnswer old.coming new.coming moment → new.turns ≡ old.turns ++ turn_of_given manner moment given ∷ [] → follows d command moment given m → SyncsBy syncs manner m e → reading' ≡ after_given reading given → WroteAs put (text_by manner given) old.held new.held →
    ServesItem follows syncs item put (standing d reading old) (standing e reading' new)
Serves-asked follows syncs item command moment given manner put d m e reading reading' old new is_item written takes turned did synced is_reading wrote = record {
  exchange = Asked moment command given manner;
  is_item = is_item;
  is_reading = is_reading;
  turns = record { moments = one_answer old.coming new.coming moment takes; turned = turned; asked = (m, did, e, synced, refl); written = (written, tt) };
  wrote = wrote;
}

-- behind a show as JSON a door isn't synchronized
pub no_sync : {D : Type 0} (syncs : Syncing D) (manner : Manner) (command : Command) (d : D) → asked_item manner command ≡ item.ShowJson → SyncsBy syncs manner d d
no_sync syncs Plain command d is = refl
no_sync syncs (Json text) command d is = refl
no_sync syncs Dry command d is = refl
no_sync syncs NoJson command d is = refl
no_sync syncs (Synchronized synced) command d is = absurd cc
no_sync syncs NoCommit command d is = refl

-- an item that was refused
pub Serves-refused : {D T E : Type 0} (follows : Following D) (syncs : Syncing D) (moment : ℕ) (fault : ShellFault) (put : Result T E) (d : D) (reading : Reading) (old new : SessionView) →
    TakesAnswer old.coming new.coming moment → new.turns ≡ old.turns ++ Local fault ∷ [] → WroteAs put (text_written (Refused moment fault)) old.held new.held →
    ServesItem follows syncs (Wrong fault) put (standing d reading old) (standing d reading new)
Serves-refused follows syncs moment fault put d reading old new takes turned wrote = record {
  exchange = Refused moment fault;
  is_item = refl;
  is_reading = refl;
  turns = record { moments = one_answer old.coming new.coming moment takes; turned = turned; asked = refl; written = (tt, tt) };
  wrote = wrote;
}

-- an item for which memory was wanting
pub Serves-wanted : {D T E : Type 0} (follows : Following D) (syncs : Syncing D) (moment : ℕ) (put : Result T E) (d : D) (reading : Reading) (old new : SessionView) →
    TakesAnswer old.coming new.coming moment → new.turns ≡ old.turns ++ turn.NoMemory ∷ [] → WroteAs put (text_written (Wanted moment)) old.held new.held →
    ServesItem follows syncs item.NoMemory put (standing d reading old) (standing d reading new)
Serves-wanted follows syncs moment put d reading old new takes turned wrote = record {
  exchange = Wanted moment;
  is_item = refl;
  is_reading = refl;
  turns = record { moments = one_answer old.coming new.coming moment takes; turned = turned; asked = refl; written = (tt, tt) };
  wrote = wrote;
}

-- a line whose text was written whole
takes_whole : {D : Type 0} (follows : Following D) (syncs : Syncing D) (line : Line) (exchanges : List Exchange) (d e : D) (reading reading' : Reading) (old new : SessionView) (out end : Bool) → is_out reading' ≡ out → is_end line ≡ end →
    ServesLine follows syncs line exchanges (standing d reading old) (standing e reading' new) → new.held ≡ held_after old.held (flat_map text_written exchanges) →
    TakesLine follows syncs line (if out then Some Clean else (if end then Some Clean else None)) (standing d reading old) (standing e reading' new)
takes_whole follows syncs line exchanges d e reading reading' old new true end o f serves held = (exchanges, serves, held, inl o)
takes_whole follows syncs line exchanges d e reading reading' old new false true o f serves held = (exchanges, serves, held, inr f)
takes_whole follows syncs line exchanges d e reading reading' old new false false o f serves held = (exchanges, serves, held, o, f)

pub behind-none : (held : Option (List ℕ)) → held ≡ held_after held []
behind-none None = refl
behind-none (Some held) = ap Some (sym (append-nil held))

-- a line that came to nothing
pub Takes-none : {D : Type 0} (follows : Following D) (syncs : Syncing D) (line : Line) (d : D) (reading reading' : Reading) (view : SessionView) → ReadsLine reading line → ComesOf reading line (None, reading') →
    TakesLine follows syncs line (how_next line reading' true) (standing d reading view) (standing d reading' view)
Takes-none follows syncs line d reading reading' view read came =
    takes_whole follows syncs line [] d d reading reading' view view (is_out reading') (is_end line) refl refl
    (record { reads = record { came = (None, reading'); is_read = read; comes = came; goes = (refl, refl) }; turns = Turns-none follows syncs d view })
    (behind-none view.held)

-- a line that ended an item
pub Takes-item : {D T E : Type 0} (follows : Following D) (syncs : Syncing D) (line : Line) (item : Item) (put : Result T E) (d e : D) (reading mid reading' : Reading) (old new : SessionView) → ReadsLine reading line → ComesOf reading line (Some item, mid) →
    ServesItem follows syncs item put (standing d mid old) (standing e reading' new) → TakesLine follows syncs line (how_next line reading' (is_ok put)) (standing d reading old) (standing e reading' new)
Takes-item {D} {T} {E} follows syncs line item put d e reading mid reading' old new read came serves = by put serves.wrote
  where
    exchange : Exchange
    exchange = serves.exchange

    came_to : ServesLine follows syncs line (exchange ∷ []) (standing d reading old) (standing e reading' new)
    came_to = record { reads = record { came = (Some item, mid); is_read = read; comes = came; goes = (serves.is_item, (refl, serves.is_reading)) }; turns = serves.turns }

    by : (put : Result T E) → WroteAs put (text_written exchange) old.held new.held → TakesLine follows syncs line (how_next line reading' (is_ok put)) (standing d reading old) (standing e reading' new)
    by (Ok done) wrote = takes_whole follows syncs line (exchange ∷ []) d e reading reading' old new (is_out reading') (is_end line) refl refl came_to (wrote ∙ ap (held_after old.held) (sym (append-nil (text_written exchange))))
    by (Err failed) wrote = (exchange, came_to, wrote)

pub not_failed : (reading : Reading) → ReadsLine reading Failed → ⊥
not_failed Operational read = read
not_failed Configuring read = read
not_failed (Collecting way json text) read = read
not_failed (Spoilt fault) read = read
not_failed Out read = read

pub not_full : (reading : Reading) → ReadsLine reading Full → ⊥
not_full Operational read = read
not_full Configuring read = read
not_full (Collecting way json text) read = read
not_full (Spoilt fault) read = read
not_full Out read = read

pub out_is : (reading : Reading) → is_out reading ≡ true → reading ≡ Out
out_is Out is = refl
out_is Operational is = absurd (false≢true is)
out_is Configuring is = absurd (false≢true is)
out_is (Collecting way json text) is = absurd (false≢true is)
out_is (Spoilt fault) is = absurd (false≢true is)

-- a session ends by its sink only where a text was not written
pub cause_of : {T E : Type 0} (put : Result T E) (line : Line) (reading : Reading) (P : Type 0) → OnErr put P → how_next line reading (is_ok put) ≡ Some SinkFault → P
cause_of (Err failed) line reading P cause is = cause
cause_of (Ok done) line reading P cause is = absurd (never (is_out reading) (is_end line) is)
  where
    sink : Option How → Bool
    sink (Some SinkFault) = true
    sink how = false

    never : (out end : Bool) → (if out then Some Clean else (if end then Some Clean else None)) ≡ Some SinkFault → ⊥
    never true end is = false≢true (ap sink is)
    never false true is = false≢true (ap sink is)
    never false false is = false≢true (ap sink is)

-- a session goes on only behind a line that isn't the end
pub not_end : (line : Line) (reading : Reading) (written : Bool) → how_next line reading written ≡ None → is_end line ≡ false
not_end line reading false is = absurd cc
not_end line reading true is = by (is_out reading) (is_end line) is
  where
    by : (out end : Bool) → (if out then Some Clean else (if end then Some Clean else None)) ≡ None → end ≡ false
    by true end is = absurd cc
    by false true is = absurd cc
    by false false is = refl

-- a line takes some of what may be read
pub falls_of : (reading : Reading) (line : Line) (room room' : ℕ) → ReadsLine reading line → is_end line ≡ false → Falls line room room' → room' < room
falls_of reading (Text text) room room' read end falls = falls
falls_of reading TooLong room room' read end falls = falls
falls_of reading End room room' read end falls = absurd (false≢true (sym end))
falls_of reading Failed room room' read end falls = absurd (not_failed reading read)
falls_of reading Full room room' read end falls = absurd (not_full reading read)
