-- Fronts of one list, and what they leave.
use Rattle.std.proofs.Common.{◌≡◌, ◌≤◌, ◌<◌, ◌==◌, nat_lt, ◌+◌, ◌⊎◌, inl, inr, ⊎_elim, ℕ, Bool, true, false, List, [], ◌∷◌, ◌++◌, length, IsSome, if◌then◌else◌, refl, sym, ◌∙◌, ap, subst, arith, append_assoc, length-append, eqb-true, ltb-false}
use Rattle.std.proofs.lemmas.Bool.{eqb-false}
use Rattle.commit_ledger.specs.declared.entry.Entry.{Entry}
use Rattle.commit_ledger.specs.declared.entry.Entry.TheVariants.{Commit as CommitOf, Confirm as ConfirmOf, Scheduled as ScheduledOf, Cleared as ClearedOf}
use Rattle.commit_ledger.specs.declared.limit.TheConstants.{MAX_ENTRIES}
use Rattle.commit_ledger.specs.Checkpoint.{AreAlike, as_read}
use Rattle.commit_ledger.specs.Kept.{Kept, HasOneWaiting, RoomFor, append_entry, after_entries, moment_of}
use Rattle.commit_ledger.specs.Rules.{Follows}
use Rattle.stored_ledger.specs.Standing.{CanKeep}
use Rattle.stored_ledger.specs.Stored.{IsNext}
use Rattle.stored_ledger.proofs.StandingLemmas.{next_can_keep}
use Rattle.sync_link.specs.declared.message.Message.{Message}
use Rattle.sync_link.specs.declared.message.Message.TheVariants.{Ask, Offer, Whole}
use Rattle.sync_link.specs.Lines.{AllFollow, IsLeft, IsLike, IsLine, Line, MayHave}
use Rattle.sync_link.specs.Takes.{CanAdd, CanFollow, Fits, HasRoom, IsOf, Reaches, taken}

-- fronts of one list that are as long are one
fronts_same : {E : Type 0} → (one two xs ys : List E) → one ++ xs ≡ two ++ ys → length one ≡ length two → one ≡ two
fronts_same [] [] xs ys is same = refl
fronts_same [] (y ∷ two) xs ys is same = absurd (omega (arith, same))
fronts_same (x ∷ one) [] xs ys is same = absurd (omega (arith, same))
fronts_same (x ∷ one) (y ∷ two) xs ys is same =
    let head : x ≡ y = cc in
    let tail : one ++ xs ≡ two ++ ys = cc in
    ap (λ z. z ∷ one) head ∙ ap (λ l. y ∷ l) (fronts_same one two xs ys tail (omega (arith, same)))

append_count : (kept : Kept) (entry : Entry) → (append_entry kept entry).count ≡ kept.count + 1
append_count kept (CommitOf commit) = refl
append_count kept (ConfirmOf confirm) = refl
append_count kept (ScheduledOf waiting) = refl
append_count kept (ClearedOf cleared) = refl

-- an entry makes of a list what it makes of that as it is read back
append_read : (kept : Kept) (entry : Entry) → append_entry (as_read kept) entry ≡ append_entry kept entry
append_read kept (CommitOf commit) = refl
append_read kept (ConfirmOf confirm) = refl
append_read kept (ScheduledOf waiting) = refl
append_read kept (ClearedOf cleared) = refl

append_alike : (kept list : Kept) (entry : Entry) → AreAlike kept list → append_entry kept entry ≡ append_entry list entry
append_alike kept list entry alike = sym (append_read kept entry) ∙ ap (λ k. append_entry k entry) alike ∙ append_read list entry

-- alike lists differ in the last moment alone
alike_is : (kept list : Kept) → AreAlike kept list → kept ≡ record list { moment = kept.moment }
alike_is kept list alike = ap (λ (k : Kept). record k { moment = kept.moment }) alike

alike_count : (kept list : Kept) → AreAlike kept list → kept.count ≡ list.count
alike_count kept list alike = ap (λ (k : Kept). k.count) alike

pub after-append : (kept : Kept) (xs ys : List Entry) → after_entries kept (xs ++ ys) ≡ after_entries (after_entries kept xs) ys
after-append kept [] ys = refl
after-append kept (x ∷ xs) ys = after-append (append_entry kept x) xs ys

pub after_count : (kept : Kept) (xs : List Entry) → (after_entries kept xs).count ≡ kept.count + length xs
after_count kept [] = omega arith
after_count kept (x ∷ xs) = omega (arith, after_count (append_entry kept x) xs, append_count kept x)

-- an entry may come next where the last moment is another one that isn't later than the entry's
follows_at : (list : Kept) (moment : ℕ) (entry : Entry) → Follows list entry → moment ≤ moment_of entry → Follows (record list { moment = moment }) entry
follows_at list moment (CommitOf commit) f le = record { number = f.number; moment = le; room = f.room; carries = f.carries }
follows_at list moment (ConfirmOf confirm) f le = record { number = f.number; moment = le; waits = f.waits }
follows_at list moment (ScheduledOf waiting) f le = record { number = f.number; moment = le; later = f.later; within = f.within; no_run = f.no_run; alone = f.alone; room = f.room }
follows_at list moment (ClearedOf cleared) f le = record { number = f.number; moment = le; waits = f.waits }

pub next_in_time : (kept : Kept) (entry : Entry) → CanFollow kept entry → kept.moment ≤ moment_of entry → IsNext kept entry
next_in_time kept entry f le = subst (λ k. IsNext k entry) (sym (alike_is kept f.like f.alike)) (f.next.0, follows_at f.like kept.moment entry f.next.1 le)

not_both : (kept : Kept) → HasOneWaiting kept → IsSome kept.pending → IsSome kept.scheduled → ⊥
not_both kept (inl none) pending scheduled = let no : false ≡ true = subst IsSome none pending in cc
not_both kept (inr none) pending scheduled = let no : false ≡ true = subst IsSome none scheduled in cc

-- a list can take in what follows on one that is alike
module _ (kept : Kept) (numbered : kept.last.number ≤ kept.count) (run : IsSome kept.pending → kept.count ≤ MAX_ENTRIES)
    (waits : IsSome kept.scheduled → kept.count ≤ MAX_ENTRIES) (one : HasOneWaiting kept) where
  room_like : (list : Kept) (entry : Entry) → AreAlike kept list → Follows list entry → HasRoom kept entry
  room_like list (CommitOf commit) alike f = record {
    room = subst (λ k. RoomFor k (CommitOf commit)) (sym alike) f.room;
    number = let is : commit.number ≡ kept.last.number + 1 = f.number ∙ ap (λ (k : Kept). k.last.number + 1) (sym alike) in omega (arith, numbered, is);
    one = inr refl;
  }
  room_like list (ConfirmOf confirm) alike f =
      let pending : IsSome kept.pending = subst (λ (k : Kept). IsSome k.pending) (sym alike) f.waits in
      record { room = (run pending, λ scheduled. absurd (not_both kept one pending scheduled)); number = tt; one = inl refl }
  room_like list (ScheduledOf waiting) alike f =
      record { room = subst (λ k. RoomFor k (ScheduledOf waiting)) (sym alike) f.room; number = tt; one = inl (ap (λ (k : Kept). k.pending) alike ∙ f.no_run) }
  room_like list (ClearedOf cleared) alike f =
      let scheduled : IsSome kept.scheduled = subst (λ (k : Kept). IsSome k.scheduled) (sym alike) f.waits in
      record { room = (waits scheduled, λ pending. absurd (not_both kept one pending scheduled)); number = tt; one = inr refl }

  pub room_for : (entry : Entry) → CanFollow kept entry → HasRoom kept entry
  room_for entry f = room_like f.like entry f.alike f.next.1

next_behind : (kept : Kept) (front : List Entry) (entry : Entry) (rest : List Entry) → AllFollow kept (front ++ entry ∷ rest) → IsNext (after_entries kept front) entry
next_behind kept [] entry rest all = all.0
next_behind kept (x ∷ front) entry rest all = next_behind (append_entry kept x) front entry rest all.1

-- each front leaves a list that can be written anew
keeps_front : (kept : Kept) (front rest : List Entry) → AllFollow kept (front ++ rest) → CanKeep kept → CanKeep (after_entries kept front)
keeps_front kept [] rest all keeps = keeps
keeps_front kept (x ∷ front) rest all keeps = keeps_front (append_entry kept x) front rest all.1 (next_can_keep kept x keeps all.0)

left_keeps : (line : Line) (kept : Kept) → IsLine line → IsLeft line.first line.entries kept → CanKeep kept
left_keeps line kept is left = subst CanKeep (sym left.is) (keeps_front line.first left.front left.rest (subst (AllFollow line.first) left.cut is.follow) is.keeps)

left_count : (first : Kept) (entries : List Entry) (kept : Kept) (l : IsLeft first entries kept) → kept.count ≡ first.count + length l.front
left_count first entries kept l = ap (λ (k : Kept). k.count) l.is ∙ after_count first l.front

like_count : (first : Kept) (entries : List Entry) (kept : Kept) (l : IsLike first entries kept) → kept.count ≡ first.count + length l.left.front
like_count first entries kept l = alike_count kept l.value l.alike ∙ left_count first entries l.value l.left

-- a list that may be had isn't longer than the master's
pub most_count : (line : Line) (kept : Kept) → MayHave line line.entries kept → kept.count ≤ line.first.count + length line.entries
most_count line kept (inl own) = omega (arith, ap (λ (k : Kept). k.count) own.0, own.1)
most_count line kept (inr like) = omega (arith, like_count line.first line.entries kept like, ap length like.left.cut, length-append like.left.front like.left.rest)

-- what stands behind the value: the front that left it
same_front : (line : Line) (kept : Kept) (l : IsLike line.first line.entries kept) (place : ℕ) (front rest : List Entry) (entry : Entry) → line.entries ≡ front ++ entry ∷ rest
    → place ≡ line.first.count + length front → place ≡ kept.count → l.left.front ≡ front
same_front line kept l place front rest entry cut at here =
    fronts_same l.left.front front l.left.rest (entry ∷ rest) (sym l.left.cut ∙ cut) (omega (arith, like_count line.first line.entries kept l, at, here))

too_short : (line : Line) (kept : Kept) (place : ℕ) (front : List Entry) → (kept ≡ line.own) × (line.own.count < line.first.count) → place ≡ line.first.count + length front → place ≡ kept.count → ⊥
too_short line kept place front own at here = omega (arith, ap (λ (k : Kept). k.count) own.0, own.1, at, here)

-- the list with the entry is what a longer front leaves
left_with : (line : Line) (kept : Kept) (place : ℕ) (entry : Entry) (of : IsOf line (Offer place entry)) (l : IsLike line.first line.entries kept) → place ≡ kept.count
    → IsLeft line.first line.entries (append_entry kept entry)
left_with line kept place entry of l here =
    let front : l.left.front ≡ of.0 = same_front line kept l place of.0 of.1 entry of.2 of.3 here in
    let value : l.value ≡ after_entries line.first of.0 = l.left.is ∙ ap (after_entries line.first) front in
    record {
      front = of.0 ++ entry ∷ [];
      rest = of.1;
      cut = of.2 ∙ sym (append_assoc of.0 (entry ∷ []) of.1);
      is = append_alike kept l.value entry l.alike ∙ ap (λ k. append_entry k entry) value ∙ sym (after-append line.first of.0 (entry ∷ []));
    }

offered : (line : Line) (kept : Kept) (place : ℕ) (entry : Entry) (b : Bool) → (place == kept.count) ≡ b → IsOf line (Offer place entry) → MayHave line line.entries kept
    → MayHave line line.entries (if b then append_entry kept entry else kept)
offered line kept place entry false is of may = may
offered line kept place entry true is of (inl own) = absurd (too_short line kept place of.0 own of.3 (eqb-true place kept.count is))
offered line kept place entry true is of (inr like) =
    inr (record { value = append_entry kept entry; left = left_with line kept place entry of like (eqb-true place kept.count is); alike = refl })

wholly : (line : Line) (kept whole : Kept) (b : Bool) → IsOf line (Whole whole) → MayHave line line.entries kept → MayHave line line.entries (if b then whole else kept)
wholly line kept whole true of may = inr (record { value = whole; left = of; alike = refl })
wholly line kept whole false of may = may

-- what a message of the master's list makes of what may be had may be had
pub taken_may : (line : Line) (kept : Kept) (message : Message) → IsOf line message → MayHave line line.entries kept → MayHave line line.entries (taken kept message)
taken_may line kept Ask of may = may
taken_may line kept (Offer place entry) of may = offered line kept place entry (place == kept.count) refl of may
taken_may line kept (Whole whole) of may = wholly line kept whole (nat_lt kept.count whole.count) of may

adds_of : (line : Line) (kept : Kept) (place : ℕ) (entry : Entry) → IsLine line → IsOf line (Offer place entry) → MayHave line line.entries kept → place ≡ kept.count → CanAdd kept entry
adds_of line kept place entry is of (inl own) here = absurd (too_short line kept place of.0 own of.3 here)
adds_of line kept place entry is of (inr like) here =
    let front : like.left.front ≡ of.0 = same_front line kept like place of.0 of.1 entry of.2 of.3 here in
    let value : like.value ≡ after_entries line.first of.0 = like.left.is ∙ ap (after_entries line.first) front in
    record {
      follows = record {
        like = like.value;
        alike = like.alike;
        next = subst (λ k. IsNext k entry) (sym value) (next_behind line.first of.0 entry of.1 (subst (AllFollow line.first) of.2 is.follow));
      };
      keeps = left_keeps line (append_entry kept entry) is (left_with line kept place entry of like here);
    }

-- and the message can be taken by it
pub fits_line : (line : Line) (kept : Kept) (message : Message) → IsLine line → IsOf line message → MayHave line line.entries kept → Fits kept message
fits_line line kept Ask is of may = tt
fits_line line kept (Offer place entry) is of may = λ here. adds_of line kept place entry is of may here
fits_line line kept (Whole whole) is of may = λ longer. left_keeps line whole is of

pub below_or : (m n : ℕ) → m ≤ n → (m < n) ⊎ (m ≡ n)
below_or m n le = grind (arith, le)

reaches_offer : (kept : Kept) (entry : Entry) (place before : ℕ) (b : Bool) → (place == kept.count) ≡ b → before ≤ kept.count → place ≤ before → place < (if b then append_entry kept entry else kept).count
reaches_offer kept entry place before true is le at = omega (arith, eqb-true place kept.count is, append_count kept entry)
reaches_offer kept entry place before false is le at = ⊎_elim (λ (below : place < kept.count). below) (λ (same : place ≡ kept.count). absurd (eqb-false place kept.count is same)) (below_or place kept.count (omega (arith, le, at)))

reaches_whole : (kept whole : Kept) (b : Bool) → nat_lt kept.count whole.count ≡ b → whole.count ≤ (if b then whole else kept).count
reaches_whole kept whole true is = omega arith
reaches_whole kept whole false is = ltb-false kept.count whole.count is

pub taken_reaches : (kept : Kept) (message : Message) (before : ℕ) → before ≤ kept.count → Reaches message before (taken kept message).count
taken_reaches kept Ask before le = tt
taken_reaches kept (Offer place entry) before le = λ at. reaches_offer kept entry place before (place == kept.count) refl le at
taken_reaches kept (Whole whole) before le = reaches_whole kept whole (nat_lt kept.count whole.count) refl

-- an entry makes a list longer
pub one_more : (kept : Kept) (entry : Entry) → kept.count ≤ (append_entry kept entry).count
one_more kept entry = omega (arith, append_count kept entry)

pub offer_other : (kept : Kept) (place : ℕ) (entry : Entry) → (place == kept.count) ≡ false → taken kept (Offer place entry) ≡ kept
offer_other kept place entry is = ap (λ (b : Bool). if b then append_entry kept entry else kept) is

pub offer_next : (kept : Kept) (place : ℕ) (entry : Entry) → (place == kept.count) ≡ true → taken kept (Offer place entry) ≡ append_entry kept entry
offer_next kept place entry is = ap (λ (b : Bool). if b then append_entry kept entry else kept) is

pub whole_other : (kept whole : Kept) → nat_lt kept.count whole.count ≡ false → taken kept (Whole whole) ≡ kept
whole_other kept whole is = ap (λ (b : Bool). if b then whole else kept) is

pub whole_longer : (kept whole : Kept) → nat_lt kept.count whole.count ≡ true → taken kept (Whole whole) ≡ whole
whole_longer kept whole is = ap (λ (b : Bool). if b then whole else kept) is
