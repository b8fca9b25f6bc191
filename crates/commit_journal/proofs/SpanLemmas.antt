-- How the spans of a disk stand when it is called further.
use Rattle.std.proofs.Common.{◌≡◌, ◌≤◌, ◌⊎◌, inl, inr, ⊎_elim, ℕ, ◌+◌, List, [], ◌∷◌, ◌++◌, length, take, drop, refl, sym, ◌∙◌, ap, subst, arith, length-append}
use Rattle.std.proofs.lemmas.List.{take-append-le, take-append-drop, drop-append-le}
use Rattle.disk_model.specs.Disk.{Call, History, DiskState, at_first, step, after, state_of, IsImage, Since, LeftBetween}
use Rattle.disk_model.proofs.States.{after-append}
use Rattle.disk_model.proofs.Images.{since_append}
use Rattle.commit_journal.specs.Spans.{count_at, InSpan}

-- a history that goes on by these calls, and the number that was reported of them
pub record Grows (h h' : History) (made made' : ℕ) (more : List Call) : Type 0 where
  pub first : h'.first ≡ h.first
  pub calls : h'.calls ≡ h.calls ++ more
  pub counted : made' ≡ made + length more
  pub within : made ≤ length h.calls

pub grown_length : (h h' : History) (made made' : ℕ) (more : List Call) → Grows h h' made made' more → length h'.calls ≡ length h.calls + length more
grown_length h h' made made' more g = ap length g.calls ∙ length-append h.calls more

pub same_count : (h h' : History) (made made' : ℕ) (more : List Call) (n : ℕ) → Grows h h' made made' more → count_at h' made' n ≡ count_at h made n
same_count h h' made made' more n g = omega (arith, grown_length h h' made made' more g, g.counted, g.within)

-- a span that has ended stays
between_stays : (h h' : History) (more : List Call) (from to : ℕ) (c : List ℕ) → h'.first ≡ h.first → h'.calls ≡ h.calls ++ more → from ≤ to → to ≤ length h.calls
    → LeftBetween h' from to c → LeftBetween h from to c
between_stays h h' more from to c first calls le within there =
    let front : take from h'.calls ≡ take from h.calls = ap (take from) calls ∙ take-append-le from h.calls more (omega (arith, le, within)) in
    let back : take to h'.calls ≡ take to h.calls = ap (take to) calls ∙ take-append-le to h.calls more within in
    subst (λ (f : List ℕ). Since (after (at_first f) (take from h.calls)) (drop from (take to h.calls)) c) first
    (subst (λ (x : List Call). Since (after (at_first h'.first) x) (drop from (take to h.calls)) c) front
    (subst (λ (y : List Call). Since (after (at_first h'.first) (take from h'.calls)) (drop from y) c) back there))

pub span_stays : (h h' : History) (made made' : ℕ) (more : List Call) (from to : ℕ) (c : List ℕ) → Grows h h' made made' more → from ≤ to → to ≤ made
    → InSpan h' made' from to c → InSpan h made from to c
span_stays h h' made made' more from to c g le below there =
    between_stays h h' more (count_at h made from) (count_at h made to) c g.first g.calls (omega (arith, le)) (omega (arith, below, g.within))
    (subst (λ (n : ℕ). LeftBetween h' n (count_at h made to) c) (same_count h h' made made' more from g)
    (subst (λ (n : ℕ). LeftBetween h' (count_at h' made' from) n c) (same_count h h' made made' more to g) there))

-- all of a list, and nothing of it
take_whole : {A : Type 0} → (l : List A) → take (length l) l ≡ l
take_whole [] = refl
take_whole (x ∷ l) = ap (λ m. x ∷ m) (take_whole l)

drop_whole : {A : Type 0} → (l : List A) → drop (length l) l ≡ []
drop_whole [] = refl
drop_whole (x ∷ l) = drop_whole l

take_all : {A : Type 0} → (n : ℕ) (l : List A) → n ≡ length l → take n l ≡ l
take_all n l is = ap (λ k. take k l) is ∙ take_whole l

drop_all : {A : Type 0} → (n : ℕ) (l : List A) → n ≡ length l → drop n l ≡ []
drop_all n l is = ap (λ k. drop k l) is ∙ drop_whole l

-- from a count up to now
since_count : (h : History) (from to : ℕ) (c : List ℕ) → to ≡ length h.calls → LeftBetween h from to c → Since (after (at_first h.first) (take from h.calls)) (drop from h.calls) c
since_count h from to c is there =
    subst (λ (l : List Call). Since (after (at_first h.first) (take from h.calls)) (drop from l) c) (take_all to h.calls is) there

till_now : (h : History) (from to : ℕ) (c : List ℕ) → to ≡ length h.calls → Since (after (at_first h.first) (take from h.calls)) (drop from h.calls) c → LeftBetween h from to c
till_now h from to c is there =
    subst (λ (l : List Call). Since (after (at_first h.first) (take from h.calls)) (drop from l) c) (sym (take_all to h.calls (omega (arith, is)))) there

state_cut : (h : History) (n : ℕ) → after (after (at_first h.first) (take n h.calls)) (drop n h.calls) ≡ state_of h
unfolding state_of
state_cut h n = sym (after-append (at_first h.first) (take n h.calls) (drop n h.calls)) ∙ ap (after (at_first h.first)) (take-append-drop n h.calls)

pub last_moment : (s : DiskState) (calls : List Call) (c : List ℕ) → IsImage (after s calls) c → Since s calls c
last_moment s [] c image = image
last_moment s (x ∷ xs) c image = inr (inr (last_moment (step s x) xs c image))

pub first_moment : (s : DiskState) (calls : List Call) (c : List ℕ) → IsImage s c → Since s calls c
first_moment s [] c image = image
first_moment s (x ∷ xs) c image = inl image

-- what a crash may leave now belongs to the span that goes up to now
pub image_in_span : (h : History) (made from : ℕ) (c : List ℕ) → made ≤ length h.calls → from ≤ made → IsImage (state_of h) c → InSpan h made from made c
image_in_span h made from c within le image =
    let n : ℕ = count_at h made from in
    till_now h n (count_at h made made) c (omega (arith, within))
    (last_moment (after (at_first h.first) (take n h.calls)) (drop n h.calls) c (subst (λ (s : DiskState). IsImage s c) (sym (state_cut h n)) image))

-- and the span that begins now has nothing else
pub span_now : (h : History) (made : ℕ) (c : List ℕ) → made ≤ length h.calls → InSpan h made made made c → IsImage (state_of h) c
span_now h made c within there =
    let n : ℕ = count_at h made made in
    let all : n ≡ length h.calls = omega (arith, within) in
    let none : drop n h.calls ≡ [] = drop_all n h.calls all in
    let s : DiskState = after (at_first h.first) (take n h.calls) in
    let image : IsImage s c = subst (λ (l : List Call). Since s l c) none (since_count h n n c all there) in
    subst (λ (t : DiskState). IsImage t c) (ap (after s) (sym none) ∙ state_cut h n) image

-- a span up to now: what was in it before, and what came since
pub span_split : (h h' : History) (made made' : ℕ) (more : List Call) (from : ℕ) (c : List ℕ) → Grows h h' made made' more → from ≤ made
    → InSpan h' made' from made' c → InSpan h made from made c ⊎ Since (state_of h) more c
span_split h h' made made' more from c g le there =
    let n : ℕ = count_at h made from in
    let below : n ≤ length h.calls = omega (arith, le, g.within) in
    let whole : count_at h' made' made' ≡ length h'.calls = omega (arith, grown_length h h' made made' more g, g.counted, g.within) in
    let s : DiskState = after (at_first h.first) (take n h.calls) in
    let one : Since (after (at_first h'.first) (take n h'.calls)) (drop n h'.calls) c =
    since_count h' n (count_at h' made' made') c whole (subst (λ (k : ℕ). LeftBetween h' k (count_at h' made' made') c) (same_count h h' made made' more from g) there) in
    let two : Since (after (at_first h.first) (take n h'.calls)) (drop n h'.calls) c = subst (λ (f : List ℕ). Since (after (at_first f) (take n h'.calls)) (drop n h'.calls) c) g.first one in
    let three : Since s (drop n h'.calls) c = subst (λ (l : List Call). Since (after (at_first h.first) l) (drop n h'.calls) c) (ap (take n) g.calls ∙ take-append-le n h.calls more below) two in
    let four : Since s (drop n h.calls ++ more) c = subst (λ (l : List Call). Since s l c) (ap (drop n) g.calls ∙ drop-append-le n h.calls more below) three in
    ⊎_elim (λ old. inl (till_now h n (count_at h made made) c (omega (arith, g.within)) old))
    (λ new. inr (subst (λ (t : DiskState). Since t more c) (state_cut h n) new))
    (since_append s (drop n h.calls) more c four)
