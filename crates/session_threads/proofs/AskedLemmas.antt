-- What all asks of a session leave of its door, and how many notes they write.
use Rattle.std.proofs.Common.{◌≡◌, ◌≤◌, ◌+◌, ℕ, Bool, true, false, List, [], ◌∷◌, length, map, cond, refl, ap, ◌∙◌, arith}
use Rattle.std.specs.Prelude.{count_by}
use Rattle.std.proofs.lemmas.List.Sums.{sum_by-cons}
use Rattle.session_shell.specs.declared.door.Given0.{Given0}
use Rattle.session_shell.specs.declared.door.Given0.TheVariants.{Kept as KeptAt, Seen, Denied, Unready, NoMemory}
use Rattle.session_shell.specs.declared.json_show.Manner.{Manner}
use Rattle.session_shell.specs.declared.json_show.Manner.TheVariants.{Plain, Json, Dry, NoJson, Synchronized, NoCommit}
use Rattle.session_shell.specs.declared.turn.Turn.{Turn}
use Rattle.session_shell.specs.Exchange.{Exchange, Asked as AskedOf, Refused, Wanted, is_dry, kept_turn, seen_turn, turn_of_given}
use Rattle.session_shell.specs.Exchange.{turn_taken}
use Rattle.session_shell.specs.Transcript.{GoesBy}
use Rattle.session_threads.specs.Adding.{is_unready}
use Rattle.session_threads.specs.Gates.{FollowsIn, GateView}
use Rattle.session_threads.specs.Noted.{notes_of}
use Rattle.session_threads.specs.Passes.{notes_given}
use Rattle.session_threads.specs.Syncs.{WithoutBackup}
use Rattle.session_threads.proofs.SyncLemmas.{goes_behind}

-- it is asked for the same user
pub asks_kept : (exchanges : List Exchange) (d e : GateView) → GoesBy FollowsIn WithoutBackup exchanges d e → e.asks ≡ d.asks
asks_kept [] d e goes = ap (λ (g : GateView). g.asks) goes
asks_kept (AskedOf moment command given manner ∷ exchanges) d e goes =
    asks_kept exchanges goes.0 e (goes_behind FollowsIn manner goes.0 goes.2 e exchanges goes.3 goes.4) ∙ goes.1.same_asks
asks_kept (Refused moment fault ∷ exchanges) d e goes = asks_kept exchanges d e goes
asks_kept (Wanted moment ∷ exchanges) d e goes = asks_kept exchanges d e goes

kept_ready : (manner : Manner) (place : ℕ) → is_unready (kept_turn manner place) ≡ false
kept_ready Plain place = refl
kept_ready (Json text) place = refl
kept_ready Dry place = refl
kept_ready NoJson place = refl
kept_ready (Synchronized synced) place = refl
kept_ready NoCommit place = refl

seen_ready : (dry : Bool) (front moment : ℕ) → is_unready (seen_turn dry front moment) ≡ false
seen_ready true front moment = refl
seen_ready false front moment = refl

-- a note is written for a turn that found a disk not ready, and for no other
one_note : (caller moment : ℕ) (manner : Manner) (given : Given0)
    → cond (is_unready (turn_of_given manner moment given)) 1 0 ≡ length (notes_given caller given)
one_note caller moment manner (KeptAt place reply) = ap (λ b. cond b 1 0) (kept_ready manner place)
one_note caller moment manner (Seen front reply) = ap (λ b. cond b 1 0) (seen_ready (is_dry manner) front moment)
one_note caller moment manner (Denied front right) = refl
one_note caller moment manner (Unready front) = refl
one_note caller moment manner NoMemory = refl

abbrev is_one : Turn → ℕ
is_one turn = cond (is_unready turn) 1 0

-- its pass has a note for each turn that found a disk not ready
pub counts_asked : (exchanges : List Exchange) (d e : GateView) → GoesBy FollowsIn WithoutBackup exchanges d e
    → length (notes_of d.pass.own) + count_by is_unready (map turn_taken exchanges) ≤ length (notes_of e.pass.own)
counts_asked [] d e goes = omega (arith, ap (λ (g : GateView). length (notes_of g.pass.own)) goes)
counts_asked (AskedOf moment command given manner ∷ exchanges) d e goes =
    let rest = counts_asked exchanges goes.0 e (goes_behind FollowsIn manner goes.0 goes.2 e exchanges goes.3 goes.4) in
    let here = one_note d.pass.caller moment manner given in
    let noted = goes.1.noted in
    let both = sum_by-cons is_one (turn_of_given manner moment given) (map turn_taken exchanges) in
    omega (arith, rest, here, noted, both)
counts_asked (Refused moment fault ∷ exchanges) d e goes = counts_asked exchanges d e goes
counts_asked (Wanted moment ∷ exchanges) d e goes = counts_asked exchanges d e goes
