-- What a crash may leave, from one call of a disk to the next.
use Rattle.std.proofs.Common.{◌≡◌, ◌≤◌, ◌<◌, ◌⊎◌, inl, inr, ⊎_elim, ℕ, suc, ◌+◌, ◌-◌, Bool, true, false, nat_le, nat_lt, ◌&&◌, ◌||◌, List, [], ◌∷◌, ◌++◌, length, get_or, take, drop, Some, None, refl, sym, ◌∙◌, ap, subst, arith, append_assoc, length-append, length-take, length-drop}
use Rattle.std.proofs.lemmas.List.{append-nil, get_or_append_left, get_or-append_right, get_or-take, get_or-drop, get_or_past}
use Rattle.std.proofs.lemmas.Option.{slice_get-get_or, slice_get_past, get_or_from_slice_get, slice_get_within}
use Rattle.std.proofs.lemmas.Bool.Decides.{nat_tests}
use Rattle.std.specs.List.{slice_get}
use Rattle.disk_model.specs.Disk.{Call, Write, Missed, Sync, Refused, History, DiskState, put, pending_during, at_first, during, written, missed, settled, step, after, state_of, contents_of, IsImage, Since, Leaves, Called, DidNothing, Wrote, Synced}
use Rattle.disk_model.proofs.States.{after-append, state_called}

-- lists that agree at each place, past their ends too, are one
pub same_places : (xs ys : List ℕ) → ((k : ℕ) → slice_get xs k ≡ slice_get ys k) → xs ≡ ys
same_places [] [] same = refl
same_places [] (y ∷ ys) same = absurd (let e = same 0 in cc)
same_places (x ∷ xs) [] same = absurd (let e = same 0 in cc)
same_places (x ∷ xs) (y ∷ ys) same =
    let e : Some x ≡ Some y = same 0 in
    let head : x ≡ y = cc in
    let tail : xs ≡ ys = same_places xs ys (λ k. same (suc k)) in
    cc

-- what a place that isn't pending while a write is under way was before it
pub record Calm (s : DiskState) (at count k : ℕ) : Type 0 where
  pub before : s.pending k ≡ false
  pub inside : k < length s.contents
  pub outside : (k < at) ⊎ (at + count ≤ k)

or_false : (a b : Bool) → (a || b) ≡ false → (a ≡ false) × (b ≡ false)
or_false true b is = absurd (cc)
or_false false b is = (refl, is)

or_true : (a b : Bool) → b ≡ true → (a || b) ≡ true
or_true true b is = refl
or_true false b is = is

pub calm : (s : DiskState) (at count k : ℕ) → pending_during s at count k ≡ false → Calm s at count k
calm s at count k is =
    let first = or_false (s.pending k) _ is in
    let second = or_false (nat_le at k && nat_lt k (at + count)) _ first.1 in
    record { before = first.0; inside = beyond second.1; outside = apart second.0 }
  where
    beyond : nat_le (length s.contents) k ≡ false → k < length s.contents
    beyond e = grind (arith, nat_tests)

    apart : (nat_le at k && nat_lt k (at + count)) ≡ false → (k < at) ⊎ (at + count ≤ k)
    apart e = grind (arith, nat_tests)

pub calm_from : (s : DiskState) (at count k : ℕ) → s.pending k ≡ false → k < length s.contents → (k < at) ⊎ (at + count ≤ k) → pending_during s at count k ≡ false
calm_from s at count k before inside outside =
    ap (λ (b : Bool). b || ((nat_le at k && nat_lt k (at + count)) || nat_le (length s.contents) k)) before ∙ rest
  where
    range : (nat_le at k && nat_lt k (at + count)) ≡ false
    range = ⊎_elim (λ lt. low lt) (λ ge. high ge) outside
      where
        low : k < at → (nat_le at k && nat_lt k (at + count)) ≡ false
        low lt = grind (arith, nat_tests)

        high : at + count ≤ k → (nat_le at k && nat_lt k (at + count)) ≡ false
        high ge = grind (arith, nat_tests)

    end : nat_le (length s.contents) k ≡ false
    end = grind (arith, nat_tests)

    rest : ((nat_le at k && nat_lt k (at + count)) || nat_le (length s.contents) k) ≡ false
    rest = ap (λ (b : Bool). b || nat_le (length s.contents) k) range ∙ end

-- all places past the end are pending while a write is under way
pub past_end : (s : DiskState) (at count k : ℕ) → length s.contents ≤ k → pending_during s at count k ≡ true
past_end s at count k le = or_true (s.pending k) _ (or_true (nat_le at k && nat_lt k (at + count)) _ end)
  where
    end : nat_le (length s.contents) k ≡ true
    end = grind (arith, nat_tests)

pub still_pending : (s : DiskState) (at count k : ℕ) → s.pending k ≡ true → pending_during s at count k ≡ true
still_pending s at count k is = ap (λ (b : Bool). b || ((nat_le at k && nat_lt k (at + count)) || nat_le (length s.contents) k)) is

-- a put changes no other place
pub put_other : (at : ℕ) (bytes old : List ℕ) (k d : ℕ) → at ≤ length old → (k < at) ⊎ (at + length bytes ≤ k) → get_or (put at bytes old) k d ≡ get_or old k d
put_other at bytes old k d le outside = ⊎_elim before behind outside
  where
    size : length (take at old) ≡ at
    size = omega (arith, length-take at old)

    sizes : length (take at old ++ bytes) ≡ at + length bytes
    sizes = omega (arith, size, length-append (take at old) bytes)

    before : k < at → get_or (put at bytes old) k d ≡ get_or old k d
    before lt =
        get_or_append_left (take at old ++ bytes) (drop (at + length bytes) old) d k (omega (arith, sizes))
        ∙ get_or_append_left (take at old) bytes d k (omega (arith, size))
        ∙ get_or-take at old k d lt

    behind : at + length bytes ≤ k → get_or (put at bytes old) k d ≡ get_or old k d
    behind ge =
        let place : at + length bytes + (k - (at + length bytes)) ≡ k = omega arith in
        get_or-append_right (take at old ++ bytes) (drop (at + length bytes) old) (at + length bytes) k d sizes ge
        ∙ get_or-drop (at + length bytes) old (k - (at + length bytes)) d
        ∙ ap (λ (n : ℕ). get_or old n d) place

-- within its range it has the bytes
pub put_same : (at : ℕ) (bytes old : List ℕ) (k d : ℕ) → at ≤ length old → at ≤ k → k < at + length bytes → get_or (put at bytes old) k d ≡ get_or bytes (k - at) d
put_same at bytes old k d le from to =
    let size : length (take at old) ≡ at = omega (arith, length-take at old) in
    let sizes : length (take at old ++ bytes) ≡ at + length bytes = omega (arith, size, length-append (take at old) bytes) in
    get_or_append_left (take at old ++ bytes) (drop (at + length bytes) old) d k (omega (arith, sizes))
    ∙ get_or-append_right (take at old) bytes at k d size from

pub put_no_shorter : (at : ℕ) (bytes old : List ℕ) → length old ≤ length (put at bytes old)
put_no_shorter at bytes old =
    omega (arith, length-append (take at old ++ bytes) (drop (at + length bytes) old), length-append (take at old) bytes, length-take at old, length-drop (at + length bytes) old)

pub image_byte : (s : DiskState) (c : List ℕ) (k d : ℕ) → IsImage s c → s.pending k ≡ false → get_or c k d ≡ get_or s.contents k d
image_byte s c k d image free = ⊎_elim inside past (lt_or_ge k (length s.contents))
  where
    lt_or_ge : (m n : ℕ) → (m < n) ⊎ (n ≤ m)
    lt_or_ge m n = grind arith

    inside : k < length s.contents → get_or c k d ≡ get_or s.contents k d
    inside lt = get_or_from_slice_get c k (get_or s.contents k d) d (image.same k free ∙ slice_get-get_or s.contents k d lt)

    past : length s.contents ≤ k → get_or c k d ≡ get_or s.contents k d
    past ge =
        let none : slice_get c k ≡ None = image.same k free ∙ slice_get_past s.contents k ge in
        ⊎_elim (λ lt. absurd (let some = slice_get-get_or c k d lt in cc)) (λ over. get_or_past c k d over ∙ sym (get_or_past s.contents k d ge)) (lt_or_ge k (length c))

pub image_inside : (s : DiskState) (c : List ℕ) (k : ℕ) → IsImage s c → s.pending k ≡ false → k < length s.contents → k < length c
image_inside s c k image free lt = slice_get_within c k (get_or s.contents k 0) (image.same k free ∙ slice_get-get_or s.contents k 0 lt)

-- where nothing is pending a crash leaves the contents
pub settled_image : (s : DiskState) (c : List ℕ) → ((k : ℕ) → s.pending k ≡ false) → IsImage s c → c ≡ s.contents
settled_image s c free image = same_places c s.contents (λ k. image.same k (free k))

pub cleared_image : (s : DiskState) (c : List ℕ) → IsImage (settled s true) c → c ≡ s.contents
cleared_image s c image = settled_image (settled s true) c (λ k. refl) image

-- nothing shorter than the last sync is in the contents, whatever the calls were
pub synced_after : (s : DiskState) (calls : List Call) → s.synced ≤ length s.contents → (after s calls).synced ≤ length (after s calls).contents
synced_after s [] le = le
synced_after s (Write at bytes ∷ calls) le = synced_after (written s at bytes) calls (omega (arith, le, put_no_shorter at bytes s.contents))
synced_after s (Missed at count ∷ calls) le = synced_after (missed s at count) calls le
synced_after s (Sync true ∷ calls) le = synced_after (settled s true) calls (omega arith)
synced_after s (Sync false ∷ calls) le = synced_after s calls le
synced_after s (Refused ∷ calls) le = synced_after s calls le

pub synced_within : (h : History) → (state_of h).synced ≤ length (contents_of h)
unfolding state_of
synced_within h = synced_after (at_first h.first) h.calls (omega arith)

-- what a read gives is an image
pub contents_image : (s : DiskState) → s.synced ≤ length s.contents → IsImage s s.contents
contents_image s le = record { long = le; same = λ k free. refl }

-- what a crash after a write may leave, one within it might have left
pub after_write : (s : DiskState) (at : ℕ) (bytes : List ℕ) (c : List ℕ) → at ≤ length s.contents → IsImage (written s at bytes) c → IsImage (during s (Write at bytes)) c
after_write s at bytes c le image = record {
  long = image.long;
  same = λ k free. image.same k free ∙ other k (calm s at (length bytes) k free);
}
  where
    other : (k : ℕ) → Calm s at (length bytes) k → slice_get (put at bytes s.contents) k ≡ slice_get s.contents k
    other k free =
        slice_get-get_or (put at bytes s.contents) k 0 (omega (arith, free.inside, put_no_shorter at bytes s.contents))
        ∙ ap (λ (x : ℕ). Some x) (put_other at bytes s.contents k 0 le free.outside)
        ∙ sym (slice_get-get_or s.contents k 0 free.inside)

-- and so what one within a write that took no effect, or after it, may leave
pub missed_write : (s : DiskState) (at : ℕ) (bytes : List ℕ) (c : List ℕ) → IsImage (missed s at (length bytes)) c → IsImage (during s (Write at bytes)) c
missed_write s at bytes c image = record { long = image.long; same = image.same }

-- what a crash after a sync may leave, one before it might have left
pub after_sync : (s : DiskState) (cleared : Bool) (c : List ℕ) → s.synced ≤ length s.contents → IsImage (settled s cleared) c → IsImage s c
after_sync s false c le image = image
after_sync s true c le image = subst (λ (l : List ℕ). IsImage s l) (sym (cleared_image s c image)) (contents_image s le)

pub since_append : (s : DiskState) (xs ys : List Call) (c : List ℕ) → Since s (xs ++ ys) c → Since s xs c ⊎ Since (after s xs) ys c
since_append s [] ys c since = inr since
since_append s (x ∷ xs) ys c (inl here) = inl (inl here)
since_append s (x ∷ xs) ys c (inr (inl within)) = inl (inr (inl within))
since_append s (x ∷ xs) ys c (inr (inr later)) = ⊎_elim (λ l. inl (inr (inr l))) (λ r. inr r) (since_append (step s x) xs ys c later)

-- before the first call
pub started : (h : History) (P : List ℕ → Type 0) → ((c : List ℕ) → IsImage (state_of h) c → P c) → Leaves h h P
started h P here = record { calls = []; first = refl; made = sym (append-nil h.calls); each = here }

pub weaker : (h h' : History) (P Q : List ℕ → Type 0) → ((c : List ℕ) → P c → Q c) → Leaves h h' P → Leaves h h' Q
weaker h h' P Q to so_far = record { calls = so_far.calls; first = so_far.first; made = so_far.made; each = λ c since. to c (so_far.each c since) }

-- the state at the end of a history that goes on
pub state_later : (h h' : History) (P : List ℕ → Type 0) (so_far : Leaves h h' P) → state_of h' ≡ after (state_of h) so_far.calls
unfolding state_of
state_later h h' P so_far =
    ap (λ (l : List ℕ). after (at_first l) h'.calls) so_far.first
    ∙ ap (λ (l : List Call). after (at_first h.first) l) so_far.made
    ∙ after-append (at_first h.first) h.calls so_far.calls

-- one call more, within which and after which a crash leaves what has P
pub goes_on : (h m h' : History) (call : Call) (P : List ℕ → Type 0) → Leaves h m P → Called m call h'
    → ((c : List ℕ) → IsImage (during (state_of m) call) c → P c) → ((c : List ℕ) → IsImage (step (state_of m) call) c → P c) → Leaves h h' P
goes_on h m h' call P so_far called within next = record {
  calls = so_far.calls ++ call ∷ [];
  first = called.first ∙ so_far.first;
  made = called.calls ∙ ap (λ (l : List Call). l ++ call ∷ []) so_far.made ∙ append_assoc h.calls so_far.calls (call ∷ []);
  each = λ c since. ⊎_elim (so_far.each c) (λ last. now c (subst (λ (s : DiskState). Since s (call ∷ []) c) (sym (state_later h m P so_far)) last)) (since_append (state_of h) so_far.calls (call ∷ []) c since);
}
  where
    now : (c : List ℕ) → Since (state_of m) (call ∷ []) c → P c
    now c (inl before) = so_far.each c (last_moment (state_of h) so_far.calls c (subst (λ (s : DiskState). IsImage s c) (state_later h m P so_far) before))
      where
        last_moment : (s : DiskState) (calls : List Call) (c : List ℕ) → IsImage (after s calls) c → Since s calls c
        last_moment s [] c image = image
        last_moment s (x ∷ xs) c image = inr (inr (last_moment (step s x) xs c image))
    now c (inr (inl in_call)) = within c in_call
    now c (inr (inr then)) = next c then

-- a call that did nothing leaves what there was
pub goes_nowhere : (h m h' : History) (P : List ℕ → Type 0) → Leaves h m P → DidNothing m h' → ((c : List ℕ) → IsImage (state_of m) c → P c) → Leaves h h' P
goes_nowhere h m h' P so_far (inl called) here = goes_on h m h' Refused P so_far called here here
goes_nowhere h m h' P so_far (inr stays) here = subst (λ (l : History). Leaves h l P) (sym stays.same) so_far

pub goes_on_write : (h m h' : History) (at : ℕ) (bytes : List ℕ) (done : Type 0) (P : List ℕ → Type 0) → at ≤ length (contents_of m) → Leaves h m P → Wrote m at bytes done h'
    → ((c : List ℕ) → IsImage (during (state_of m) (Write at bytes)) c → P c) → ((c : List ℕ) → IsImage (state_of m) c → P c) → Leaves h h' P
goes_on_write h m h' at bytes done P le so_far wrote within here = ⊎_elim taken (λ failed. ⊎_elim left nothing failed.1) wrote
  where
    taken : Called m (Write at bytes) h' → Leaves h h' P
    taken called = goes_on h m h' (Write at bytes) P so_far called within (λ c image. within c (after_write (state_of m) at bytes c le image))

    left : Called m (Missed at (length bytes)) h' → Leaves h h' P
    left called = goes_on h m h' (Missed at (length bytes)) P so_far called (λ c image. within c (missed_write (state_of m) at bytes c image)) (λ c image. within c (missed_write (state_of m) at bytes c image))

    nothing : DidNothing m h' → Leaves h h' P
    nothing did = goes_nowhere h m h' P so_far did here

pub goes_on_sync : (h m h' : History) (done : Type 0) (P : List ℕ → Type 0) → Leaves h m P → Synced m done h' → ((c : List ℕ) → IsImage (state_of m) c → P c) → Leaves h h' P
goes_on_sync h m h' done P so_far synced here = ⊎_elim cleared (λ failed. ⊎_elim stayed nothing failed.1) synced
  where
    cleared : Called m (Sync true) h' → Leaves h h' P
    cleared called = goes_on h m h' (Sync true) P so_far called here (λ c image. here c (after_sync (state_of m) true c (synced_within m) image))

    stayed : Called m (Sync false) h' → Leaves h h' P
    stayed called = goes_on h m h' (Sync false) P so_far called here here

    nothing : DidNothing m h' → Leaves h h' P
    nothing did = goes_nowhere h m h' P so_far did here

-- what a call that was done leaves
pub wrote_done : (h h' : History) (at : ℕ) (bytes : List ℕ) (done : Type 0) → Wrote h at bytes done h' → done → state_of h' ≡ written (state_of h) at bytes
wrote_done h h' at bytes done wrote is = ⊎_elim (state_called h h' (Write at bytes)) (λ failed. absurd (failed.0 is)) wrote

pub synced_done : (h h' : History) (done : Type 0) → Synced h done h' → done → state_of h' ≡ settled (state_of h) true
synced_done h h' done synced is = ⊎_elim (state_called h h' (Sync true)) (λ failed. absurd (failed.0 is)) synced

-- a sync changes no contents
pub synced_contents : (h h' : History) (done : Type 0) → Synced h done h' → contents_of h' ≡ contents_of h
synced_contents h h' done synced = ⊎_elim (λ called. ap (λ (s : DiskState). s.contents) (state_called h h' (Sync true) called)) (λ failed. ⊎_elim (λ called. ap (λ (s : DiskState). s.contents) (state_called h h' (Sync false) called)) nothing failed.1) synced
  where
    nothing : DidNothing h h' → contents_of h' ≡ contents_of h
    nothing (inl called) = ap (λ (s : DiskState). s.contents) (state_called h h' Refused called)
    nothing (inr stays) = ap contents_of stays.same

-- what a crash may leave now, one since then might have left
pub leaves_now : (h h' : History) (P : List ℕ → Type 0) → Leaves h h' P → (c : List ℕ) → IsImage (state_of h') c → P c
leaves_now h h' P so_far c image = so_far.each c (last_moment (state_of h) so_far.calls c (subst (λ (s : DiskState). IsImage s c) (state_later h h' P so_far) image))
  where
    last_moment : (s : DiskState) (calls : List Call) (c : List ℕ) → IsImage (after s calls) c → Since s calls c
    last_moment s [] c image = image
    last_moment s (x ∷ xs) c image = inr (inr (last_moment (step s x) xs c image))

-- at or past the length of the last sync all is pending
AllPastSync : DiskState → Type 0
AllPastSync s = (k : ℕ) → s.synced ≤ k → k < length s.contents → s.pending k ≡ true

lt_or_ge : (m n : ℕ) → (m < n) ⊎ (n ≤ m)
lt_or_ge m n = grind arith

past_sync : (s : DiskState) (calls : List Call) → AllPastSync s → AllPastSync (after s calls)
unfolding AllPastSync
past_sync s [] all = all
past_sync s (Write at bytes ∷ calls) all =
    past_sync (written s at bytes) calls (λ k from to. ⊎_elim (λ lt. still_pending s at (length bytes) k (all k from lt)) (λ ge. past_end s at (length bytes) k ge) (lt_or_ge k (length s.contents)))
past_sync s (Missed at count ∷ calls) all = past_sync (missed s at count) calls (λ k from to. still_pending s at count k (all k from to))
past_sync s (Sync true ∷ calls) all = past_sync (settled s true) calls (λ k from to. absurd (omega (arith, from, to)))
past_sync s (Sync false ∷ calls) all = past_sync s calls all
past_sync s (Refused ∷ calls) all = past_sync s calls all

-- so a file with nothing pending has its whole length in each image, whatever is written to it then
pub quiet_synced : (h : History) → ((k : ℕ) → (state_of h).pending k ≡ false) → length (contents_of h) ≤ (state_of h).synced
unfolding state_of AllPastSync
quiet_synced h quiet =
    let s : DiskState = after (at_first h.first) h.calls in
    ⊎_elim (λ lt. absurd (let t : s.pending s.synced ≡ true = past_sync (at_first h.first) h.calls (λ k from to. absurd (omega (arith, from, to))) s.synced (omega arith) lt in
    let f : s.pending s.synced ≡ false = quiet s.synced in cc)) (λ ge. ge) (lt_or_ge s.synced (length s.contents))

-- calls after calls
pub leaves_then : (h m h' : History) (P : List ℕ → Type 0) → Leaves h m P → Leaves m h' P → Leaves h h' P
leaves_then h m h' P one two = record {
  calls = one.calls ++ two.calls;
  first = two.first ∙ one.first;
  made = two.made ∙ ap (λ (l : List Call). l ++ two.calls) one.made ∙ append_assoc h.calls one.calls two.calls;
  each = λ d since. ⊎_elim (one.each d) (λ last. two.each d (subst (λ (s : DiskState). Since s two.calls d) (sym (state_later h m P one)) last)) (since_append (state_of h) one.calls two.calls d since);
}
