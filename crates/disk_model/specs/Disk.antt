-- A disk under its calls of `write_at` and `sync`, and what a crash may leave of it. The model is this project's own.
use Rattle.std.specs.Prelude.{◌≡◌, ◌≤◌, ◌-◌, ◌+◌, ◌^◌, ◌⊎◌, ◌&&◌, ◌||◌, Bool, true, false, nat_lt, nat_le, min, ℕ, List, [], ◌∷◌, ◌++◌, length, take, drop, slice_get, Some}
use Rattle.cfg_base.specs.Counts.{Rose}
use Rattle.disk_model.specs.declared.disk.DiskLen.{DiskLen}
use Rattle.disk_model.specs.declared.disk.DiskLen.TheVariants.{Len, Failed as LenFailed}
use Rattle.disk_model.specs.declared.disk.DiskRead.{DiskRead}
use Rattle.disk_model.specs.declared.disk.DiskRead.TheVariants.{Read, Failed as ReadFailed}

-- one call that a disk counts
pub data Call : Type 0 where
  -- bytes written at a place, which are in the contents now
  Write : (at : ℕ) (bytes : List ℕ) → Call
  -- a write of so many bytes at a place, which failed and left the contents as they were
  Missed : (at count : ℕ) → Call
  -- a sync; `cleared` says whether nothing is pending after it
  Sync : (cleared : Bool) → Call
  -- a failed call of which nothing but the count is told: it changed nothing
  Refused : Call

-- what a disk held when it was made, and its calls since, first to last
pub record History : Type 0 where
  pub first : List ℕ
  pub calls : List Call

-- what is told of a disk: whether it tells what it holds, what it did where it tells that, and how many of its calls failed
pub record DiskView : Type 0 where
  pub tells : Bool
  pub history : History
  pub faults : ℕ

-- what a read gives, the places that a crash may change, and the length at the last sync
pub record DiskState : Type 0 where
  pub contents : List ℕ
  pub pending : ℕ → Bool
  pub synced : ℕ

-- old with these bytes at this place
abbrev pub put : ℕ → List ℕ → List ℕ → List ℕ
put at bytes old = take at old ++ bytes ++ drop (at + length bytes) old

-- pending while a write is under way: what was, the range, and all places past the end
abbrev pub pending_during : DiskState → ℕ → ℕ → ℕ → Bool
pending_during s at count k =
    s.pending k || ((nat_le at k && nat_lt k (at + count)) || nat_le (length s.contents) k)

-- nothing was written yet
abbrev pub at_first : List ℕ → DiskState
at_first first = record { contents = first; pending = λ k. false; synced = length first }

-- while a call is under way
abbrev pub during : DiskState → Call → DiskState
during s (Write at bytes) = record { contents = s.contents; pending = pending_during s at (length bytes); synced = s.synced }
during s (Missed at count) = record { contents = s.contents; pending = pending_during s at count; synced = s.synced }
during s (Sync cleared) = s
during s Refused = s

-- once a write is done
abbrev pub written : DiskState → ℕ → List ℕ → DiskState
written s at bytes = record { contents = put at bytes s.contents; pending = pending_during s at (length bytes); synced = s.synced }

-- once a write has failed and left the contents: its places are pending all the same
abbrev pub missed : DiskState → ℕ → ℕ → DiskState
missed s at count = record { contents = s.contents; pending = pending_during s at count; synced = s.synced }

-- once a sync is done
abbrev pub settled : DiskState → Bool → DiskState
settled s true = record { contents = s.contents; pending = λ k. false; synced = length s.contents }
settled s false = s

-- once a call is done
abbrev pub step : DiskState → Call → DiskState
step s (Write at bytes) = written s at bytes
step s (Missed at count) = missed s at count
step s (Sync cleared) = settled s cleared
step s Refused = s

-- after calls, first to last
abbrev pub after : DiskState → List Call → DiskState
after s [] = s
after s (call ∷ calls) = after (step s call) calls

-- the state that a history ends in
unfoldable pub state_of : History → DiskState
state_of h = after (at_first h.first) h.calls

-- what a read gives
abbrev pub contents_of : History → List ℕ
contents_of h = (state_of h).contents

-- a crash may leave this: the contents wherever nothing is pending, and no less than the last sync
pub record IsImage (s : DiskState) (image : List ℕ) : Type 0 where
  pub long : s.synced ≤ length image
  pub same : (k : ℕ) → s.pending k ≡ false → slice_get image k ≡ slice_get s.contents k

-- a crash at some moment of these calls may leave this: before them, within one, or after one
abbrev pub Since : DiskState → List Call → List ℕ → Type 0
Since s [] image = IsImage s image
Since s (call ∷ calls) image = IsImage s image ⊎ (IsImage (during s call) image ⊎ Since (step s call) calls image)

-- a crash after that many calls and before the next may leave this
abbrev pub LeftAfter : History → ℕ → List ℕ → Type 0
LeftAfter h count image = IsImage (after (at_first h.first) (take count h.calls)) image

-- a crash while the call after that many is under way may leave this
abbrev pub LeftWithin : History → ℕ → List ℕ → Type 0
LeftWithin h count image =
    (call : Call)
    × (slice_get h.calls count ≡ Some call)
    × IsImage (during (after (at_first h.first) (take count h.calls)) call) image

-- a crash at some moment from one count of calls to another may leave this
abbrev pub LeftBetween : History → ℕ → ℕ → List ℕ → Type 0
LeftBetween h from to image =
    Since (after (at_first h.first) (take from h.calls)) (drop from (take to h.calls)) image

-- a crash at any moment since that many calls may leave this
abbrev pub LeftSince : History → ℕ → List ℕ → Type 0
LeftSince h count image = Since (after (at_first h.first) (take count h.calls)) (drop count h.calls) image

-- one history goes on from another, and whatever a crash at any moment since then may leave has P
pub record Leaves (h h' : History) (P : List ℕ → Type 0) : Type 0 where
  pub calls : List Call
  pub first : h'.first ≡ h.first
  pub made : h'.calls ≡ h.calls ++ calls
  pub each : (image : List ℕ) → Since (state_of h) calls image → P image

-- one call more
pub record Called (h : History) (call : Call) (h' : History) : Type 0 where
  pub first : h'.first ≡ h.first
  pub calls : h'.calls ≡ h.calls ++ call ∷ []

-- a history that goes on by these calls
pub record DiskGoesOn (h : History) (more : List Call) (h' : History) : Type 0 where
  pub first : h'.first ≡ h.first
  pub calls : h'.calls ≡ h.calls ++ more

-- a count of calls that stands at its last value stays
pub record Uncounted (h h' : History) : Type 0 where
  pub last : 2 ^ 64 - 1 ≤ length h.calls
  pub same : h' ≡ h

-- a call that did nothing, and was counted
abbrev pub DidNothing : History → History → Type 0
DidNothing h h' = Called h Refused h' ⊎ Uncounted h h'

-- a write that took no effect
abbrev pub TookNoEffect : History → ℕ → ℕ → History → Type 0
TookNoEffect h at count h' = Called h (Missed at count) h' ⊎ DidNothing h h'

-- what a write did: it took effect; only where it failed may it also not have
abbrev pub Wrote : History → ℕ → List ℕ → Type 0 → History → Type 0
Wrote h at bytes done h' = Called h (Write at bytes) h' ⊎ ((done → ⊥) × TookNoEffect h at (length bytes) h')

-- what a sync did: nothing is pending; only where it failed may the pending places have stayed
abbrev pub Synced : History → Type 0 → History → Type 0
Synced h done h' = Called h (Sync true) h' ⊎ ((done → ⊥) × (Called h (Sync false) h' ⊎ DidNothing h h'))

-- one sync at most, done or failed, and no write
abbrev pub MaySync : History → History → Type 0
MaySync h h' = (h' ≡ h) ⊎ Synced h ⊥ h'

-- a call that was tried and failed
abbrev pub Tried : History → Call → History → Type 0
Tried h (Write at bytes) h' = Wrote h at bytes ⊥ h'
Tried h (Missed at count) h' = TookNoEffect h at count h'
Tried h (Sync cleared) h' = Synced h ⊥ h'
Tried h Refused h' = DidNothing h h'

-- the first of these calls, of which only the last one made may have failed
abbrev pub MadePart : History → List Call → History → Type 0
MadePart h [] h' = h' ≡ h
MadePart h (call ∷ calls) h' = (h' ≡ h) ⊎ (Tried h call h' ⊎ ((m : History) × Called h call m × MadePart m calls h'))

-- the first n bytes are those that stand at a place, as many as there are, and the rest are as before
pub record Gives (file : List ℕ) (at n : ℕ) (before into : List ℕ) : Type 0 where
  pub count : n ≡ min (length before) (length file - at)
  pub bytes : take n into ≡ take n (drop at file)
  pub rest : drop n into ≡ drop n before

-- a count of faults doesn't fall, and a failure comes only where it rose
pub record HasCause (before now : ℕ) (failed : Type 0) : Type 0 where
  pub later : before ≤ now
  pub rose : failed → Rose before now

-- a fact of the length that was reported
abbrev pub IfLen : DiskLen → (ℕ → Type 0) → Type 0
IfLen (Len n) P = P n
IfLen LenFailed P = Unit {0}

-- a fact of the number of bytes that were read
abbrev pub IfRead : DiskRead → (ℕ → Type 0) → Type 0
IfRead (Read n) P = P n
IfRead ReadFailed P = Unit {0}
