-- Spans of calls of two disks, between the elements of a list that tell how many calls there were, and what a crash in a span
-- leaves. This project's own.
use Rattle.std.specs.Prelude.{◌≡◌, ◌<◌, ◌≤◌, ◌-◌, ◌+◌, ◌^◌, ℕ, List, [], ◌∷◌, ◌++◌, length}
use Rattle.cfg_base.specs.declared.calls.Calls.{Calls}
use Rattle.disk_model.specs.Disk.{History, LeftBetween}

-- no call was made yet
abbrev pub none_called : Calls
none_called = record { a = 0; b = 0 }

-- no number of the one is above that of the other
pub record AreAtMost (one other : Calls) : Type 0 where
  pub a : one.a ≤ other.a
  pub b : one.b ≤ other.b

-- a disk's own count of calls isn't at its end
abbrev pub IsReckoned : History → Type 0
IsReckoned h = length h.calls < 2 ^ 64 - 1

-- a disk's count of calls at a number that was reported since the opening: its last count, less the last number, plus that number
abbrev pub count_at : History → ℕ → ℕ → ℕ
count_at h made number = length h.calls - made + number

-- a crash at some moment from one number to another may leave this
abbrev pub InSpan : History → ℕ → ℕ → ℕ → List ℕ → Type 0
InSpan h made from to image = LeftBetween h (count_at h made from) (count_at h made to) image

module _ {E : Type 0} (calls : E → Calls) where
  -- the numbers of the last element, or those given
  abbrev pub last_calls : Calls → List E → Calls
  last_calls from [] = from
  last_calls from (e ∷ es) = last_calls (calls e) es

  -- the numbers of the next element, or those given
  abbrev pub next_calls : Calls → List E → Calls
  next_calls made [] = made
  next_calls made (e ∷ es) = calls e

  -- no number falls from one element to the next, and none passes the last ones
  abbrev pub AreRising : Calls → List E → Calls → Type 0
  AreRising from [] made = AreAtMost from made
  AreRising from (e ∷ es) made = AreAtMost from (calls e) × AreRising (calls e) es made

  -- between any two elements, before the first and after the last: each pair of images of that span, one of each disk, of whatever
  -- moments of it, spells what the elements before it and after it say
  abbrev pub AreSpansSafe : (List E → List E → List ℕ → List ℕ → Type 0) → List E → Calls → History → History → Type 0
  AreSpansSafe Spelt es made a b =
      (before after : List E) → es ≡ before ++ after → (c d : List ℕ)
      → InSpan a made.a (last_calls none_called before).a (next_calls made after).a c
      → InSpan b made.b (last_calls none_called before).b (next_calls made after).b d → Spelt before after c d

  -- what holds of the disks as they are now
  pub record AreSafeNow (Spelt : List E → List E → List ℕ → List ℕ → Type 0) (es : List E) (made : Calls) (a b : History) : Type 0 where
    pub within_a : made.a ≤ length a.calls
    pub within_b : made.b ≤ length b.calls
    pub safe : AreSpansSafe Spelt es made a b

  -- a disk whose own count stands at its end can't be reckoned back
  abbrev pub AreSafe : (List E → List E → List ℕ → List ℕ → Type 0) → List E → Calls → History → History → Type 0
  AreSafe Spelt es made a b = IsReckoned a → IsReckoned b → AreSafeNow Spelt es made a b
