-- A door without a backup that is asked to synchronize stands as it did, and each turn of a session over it says so.
use Rattle.std.proofs.Common.{◌≡◌, ℕ, Bool, true, false, List, [], ◌∷◌, map, refl, subst}
use Rattle.std.specs.List.{AllByRecursion}
use Rattle.session_shell.specs.declared.door.Given0.TheVariants.{Kept as KeptAt, Seen, Denied, Unready, NoMemory}
use Rattle.session_shell.specs.declared.door.SyncedTurn.{SyncedTurn}
use Rattle.session_shell.specs.declared.json_show.Manner.{Manner}
use Rattle.session_shell.specs.declared.json_show.Manner.TheVariants.{Plain, Json, Dry, NoJson, Synchronized, NoCommit}
use Rattle.session_shell.specs.Exchange.{Exchange, Asked as AskedOf, Refused, Wanted, is_dry, kept_turn, seen_turn, turn_taken}
use Rattle.session_shell.specs.Transcript.{Following, GoesBy, SyncsBy}
use Rattle.session_threads.specs.Syncs.{SaysAlone, WithoutBackup}

-- it stands as it did
pub stays_synced : {D : Type 0} (manner : Manner) (d e : D) → SyncsBy WithoutBackup manner d e → e ≡ d
stays_synced Plain d e syncs = syncs
stays_synced (Json text) d e syncs = syncs
stays_synced Dry d e syncs = syncs
stays_synced NoJson d e syncs = syncs
stays_synced (Synchronized synced) d e syncs = syncs.1
stays_synced NoCommit d e syncs = syncs

-- so what it goes on by goes on from there
pub goes_behind : {D : Type 0} (follows : Following D) (manner : Manner) (d last e : D) (exchanges : List Exchange)
    → SyncsBy WithoutBackup manner d last → GoesBy follows WithoutBackup exchanges last e → GoesBy follows WithoutBackup exchanges d e
goes_behind {D} follows manner d last e exchanges syncs goes =
    subst (λ (x : D). GoesBy follows WithoutBackup exchanges x e) (stays_synced manner d last syncs) goes

-- and what it said may be said of what is known by then
pub synced_there : {D E : Type 0} (manner : Manner) (d e : D) (known : E) → SyncsBy WithoutBackup manner d e
    → SyncsBy WithoutBackup manner known known
synced_there Plain d e known syncs = refl
synced_there (Json text) d e known syncs = refl
synced_there Dry d e known syncs = refl
synced_there NoJson d e known syncs = refl
synced_there (Synchronized synced) d e known syncs = (syncs.0, refl)
synced_there NoCommit d e known syncs = refl

kept_alone : {D : Type 0} (manner : Manner) (place : ℕ) (d e : D) → SyncsBy WithoutBackup manner d e → SaysAlone (kept_turn manner place)
kept_alone Plain place d e syncs = tt
kept_alone (Json text) place d e syncs = tt
kept_alone Dry place d e syncs = tt
kept_alone NoJson place d e syncs = tt
kept_alone (Synchronized synced) place d e syncs = syncs.0
kept_alone NoCommit place d e syncs = tt

seen_alone : (dry : Bool) (front moment : ℕ) → SaysAlone (seen_turn dry front moment)
seen_alone true front moment = tt
seen_alone false front moment = tt

-- each turn of such a session
pub all_alone : {D : Type 0} (follows : Following D) (exchanges : List Exchange) (d e : D) → GoesBy follows WithoutBackup exchanges d e
    → AllByRecursion SaysAlone (map turn_taken exchanges)
all_alone follows [] d e goes = tt
all_alone follows (AskedOf moment command (KeptAt place reply) manner ∷ exchanges) d e goes =
    (kept_alone manner place goes.0 goes.2 goes.3, all_alone follows exchanges goes.2 e goes.4)
all_alone follows (AskedOf moment command (Seen front reply) manner ∷ exchanges) d e goes =
    (seen_alone (is_dry manner) front moment, all_alone follows exchanges goes.2 e goes.4)
all_alone follows (AskedOf moment command (Denied front right) manner ∷ exchanges) d e goes =
    (tt, all_alone follows exchanges goes.2 e goes.4)
all_alone follows (AskedOf moment command (Unready front) manner ∷ exchanges) d e goes =
    (tt, all_alone follows exchanges goes.2 e goes.4)
all_alone follows (AskedOf moment command NoMemory manner ∷ exchanges) d e goes =
    (tt, all_alone follows exchanges goes.2 e goes.4)
all_alone follows (Refused moment fault ∷ exchanges) d e goes = (tt, all_alone follows exchanges d e goes)
all_alone follows (Wanted moment ∷ exchanges) d e goes = (tt, all_alone follows exchanges d e goes)
