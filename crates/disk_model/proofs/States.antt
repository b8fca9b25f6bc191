-- How the state of a disk goes on with one call more.
use Rattle.std.proofs.Common.{◌≡◌, ◌≤◌, ℕ, ◌+◌, max, List, [], ◌∷◌, ◌++◌, length, take, drop, refl, ◌∙◌, ap, arith, length-append, length-take, length-drop}
use Rattle.disk_model.specs.Disk.{Call, History, DiskState, put, at_first, step, after, state_of, Called}

pub after_push : (s : DiskState) (calls : List Call) (call : Call) → after s (calls ++ call ∷ []) ≡ step (after s calls) call
after_push s [] call = refl
after_push s (c ∷ calls) call = after_push (step s c) calls call

pub after-append : (s : DiskState) (xs ys : List Call) → after s (xs ++ ys) ≡ after (after s xs) ys
after-append s [] ys = refl
after-append s (c ∷ xs) ys = after-append (step s c) xs ys

-- one call more steps the state
pub state_called : (h h' : History) (call : Call) → Called h call h' → state_of h' ≡ step (state_of h) call
unfolding state_of
state_called h h' call called =
    ap (λ (l : List ℕ). after (at_first l) h'.calls) called.first
    ∙ ap (λ (l : List Call). after (at_first h.first) l) called.calls
    ∙ after_push (at_first h.first) h.calls call

pub state_pushed : (first : List ℕ) (calls : List Call) (call : Call)
    → state_of (record { first = first; calls = calls ++ call ∷ [] }) ≡ step (state_of (record { first = first; calls = calls })) call
unfolding state_of
state_pushed first calls call = after_push (at_first first) calls call

pub state_first : (first : List ℕ) → state_of (record { first = first; calls = [] }) ≡ at_first first
unfolding state_of
state_first first = refl

pub length-put : (at : ℕ) (bytes old : List ℕ) → at ≤ length old → length (put at bytes old) ≡ max (length old) (at + length bytes)
length-put at bytes old le =
    omega (arith, length-append (take at old ++ bytes) (drop (at + length bytes) old), length-append (take at old) bytes, length-take at old, length-drop (at + length bytes) old)
