-- Two engines stay paired.
use Rattle.std.proofs.Common.{◌≡◌, ◌≤◌, ◌==◌, nat_lt, inl, inr, ⊎_elim, ℕ, Bool, true, false, List, [], ◌∷◌, ◌++◌, length, Option, None, Some, IfSome, if◌then◌else◌, refl, sym, ◌∙◌, ap, subst, arith, append_assoc, append-nil, length-append, eqb-true, ltb-true}
use Rattle.std.specs.List.{AllByRecursion}
use Rattle.sync_link.specs.Pairs.{Message, Ask, Offer, Whole, Pair, IsFront, taken, StandsAt, MaySend, IsAmong, greater, Happening, Appended, Sent, Taken, Broken, Learnt, Restarted, Synced, Leaves, Comes, Begins, IsPaired}

All-among : {A : Type 0} → (P : A → Type 0) (x : A) (xs : List A) → AllByRecursion P xs → IsAmong x xs → P x
All-among P x [] all among = absurd among
All-among P x (y ∷ ys) all (inl is) = subst P (sym is) all.0
All-among P x (y ∷ ys) all (inr later) = All-among P x ys all.1 later

All-map : {A : Type 0} → (P Q : A → Type 0) (xs : List A) → ((x : A) → P x → Q x) → AllByRecursion P xs → AllByRecursion Q xs
All-map P Q [] to all = tt
All-map P Q (x ∷ xs) to all = (to x all.0, All-map P Q xs to all.1)

told_more : (told : Option ℕ) (m n : ℕ) → m ≤ n → IfSome told (λ k. k ≤ m) → IfSome told (λ k. k ≤ n)
told_more None m n le t = tt
told_more (Some k) m n le t = omega (arith, le, t)

told_greater : (told : Option ℕ) (count n : ℕ) → count ≤ n → IfSome told (λ k. k ≤ n) → greater told count ≤ n
told_greater None count n le t = le
told_greater (Some k) count n le t = omega (arith, le, t)

module _ {E : Type 0} where
  front_same : (list : List E) → IsFront list list
  front_same list = record { rest = []; is = sym (append-nil list) }

  front_more : (front list : List E) (more : List E) → IsFront front list → IsFront front (list ++ more)
  front_more front list more f = record { rest = f.rest ++ more; is = ap (λ l. l ++ more) f.is ∙ append_assoc front f.rest more }

  front_trans : (one two three : List E) → IsFront one two → IsFront two three → IsFront one three
  front_trans one two three f g = record { rest = f.rest ++ g.rest; is = g.is ∙ ap (λ l. l ++ g.rest) f.is ∙ append_assoc one f.rest g.rest }

  front_length : (front list : List E) → IsFront front list → length front ≤ length list
  front_length front list f = omega (arith, ap length f.is, length-append front f.rest)

  cons_front : (x : E) (one two : List E) → IsFront one two → IsFront (x ∷ one) (x ∷ two)
  cons_front x one two f = record { rest = f.rest; is = ap (λ l. x ∷ l) f.is }

  -- of two fronts of one list the shorter is a front of the longer
  fronts_nest : (one two xs ys : List E) → one ++ xs ≡ two ++ ys → length one ≤ length two → IsFront one two
  fronts_nest [] two xs ys is le = record { rest = two; is = refl }
  fronts_nest (x ∷ one) [] xs ys is le = absurd (omega (arith, le))
  fronts_nest (x ∷ one) (y ∷ two) xs ys is le =
      let head : x ≡ y = cc in
      let tail : one ++ xs ≡ two ++ ys = cc in
      subst (λ z. IsFront (x ∷ one) (z ∷ two)) head (cons_front x one two (fronts_nest one two xs ys tail (omega (arith, le))))

  -- fronts of one list that are as long are one
  fronts_same : (one two xs ys : List E) → one ++ xs ≡ two ++ ys → length one ≡ length two → one ≡ two
  fronts_same [] [] xs ys is same = refl
  fronts_same [] (y ∷ two) xs ys is same = absurd (omega (arith, same))
  fronts_same (x ∷ one) [] xs ys is same = absurd (omega (arith, same))
  fronts_same (x ∷ one) (y ∷ two) xs ys is same =
      let head : x ≡ y = cc in
      let tail : one ++ xs ≡ two ++ ys = cc in
      ap (λ z. z ∷ one) head ∙ ap (λ l. y ∷ l) (fronts_same one two xs ys tail (omega (arith, same)))

  -- a message of the master's list, however long ago it was sent
  abbrev pub IsOf : List E → Message E → Type 0
  IsOf master Ask = Unit {0}
  IsOf master (Offer place entry) = StandsAt master place entry
  IsOf master (Whole list) = IsFront list master

  sent_is_of : (master : List E) (m : Message E) → MaySend master m → IsOf master m
  sent_is_of master Ask may = tt
  sent_is_of master (Offer place entry) may = may
  sent_is_of master (Whole list) may = subst (λ l. IsFront l master) (sym may) (front_same master)

  of_more : (master more : List E) (m : Message E) → IsOf master m → IsOf (master ++ more) m
  of_more master more Ask is = tt
  of_more master more (Offer place entry) is =
      record { before = is.before; rest = is.rest ++ more; is = ap (λ l. l ++ more) is.is ∙ append_assoc is.before (entry ∷ is.rest) more; at = is.at }
  of_more master more (Whole list) is = front_more list master more is

  -- what a message makes of a front of the master's list is a longer front of it, or the same
  pub record Grows (master list after : List E) : Type 0 where
    pub more : IsFront list after
    pub front : IsFront after master

  stays : (master list : List E) → IsFront list master → Grows master list list
  stays master list f = record { more = front_same list; front = f }

  offered : (master list : List E) (entry : E) (s : StandsAt master (length list) entry) → IsFront list master → Grows master list (list ++ entry ∷ [])
  offered master list entry s f = record {
    more = record { rest = entry ∷ []; is = refl };
    front = record {
      rest = s.rest;
      is = s.is ∙ ap (λ l. l ++ entry ∷ s.rest) same ∙ sym (append_assoc list (entry ∷ []) s.rest);
    };
  }
    where
      same : s.before ≡ list
      same = fronts_same s.before list (entry ∷ s.rest) f.rest (sym s.is ∙ f.is) (sym s.at)

  offer_grows : (master list : List E) (place : ℕ) (entry : E) (b : Bool) → (place == length list) ≡ b → StandsAt master place entry → IsFront list master
      → Grows master list (if b then list ++ entry ∷ [] else list)
  offer_grows master list place entry true is s f = offered master list entry (subst (λ (n : ℕ). StandsAt master n entry) (eqb-true place (length list) is) s) f
  offer_grows master list place entry false is s f = stays master list f

  whole_grows : (master list whole : List E) (b : Bool) → nat_lt (length list) (length whole) ≡ b → IsFront whole master → IsFront list master
      → Grows master list (if b then whole else list)
  whole_grows master list whole true is w f = record {
    more = fronts_nest list whole f.rest w.rest (sym f.is ∙ w.is) (omega (arith, ltb-true (length list) (length whole) is));
    front = w;
  }
  whole_grows master list whole false is w f = stays master list f

  pub taken_grows : (master list : List E) (m : Message E) → IsOf master m → IsFront list master → Grows master list (taken list m)
  taken_grows master list Ask of f = stays master list f
  taken_grows master list (Offer place entry) of f = offer_grows master list place entry (place == length list) refl of f
  taken_grows master list (Whole whole) of f = whole_grows master list whole (nat_lt (length list) (length whole)) refl of f

  -- what is always true of two engines
  record IsSound (p : Pair E) : Type 0 where
    pub front : IsFront p.backup p.master
    pub sent : AllByRecursion (IsOf p.master) p.sent
    pub answers : AllByRecursion (λ (n : ℕ). n ≤ length p.backup) p.answers
    pub told : IfSome p.told (λ n. n ≤ length p.backup)
    pub synced : AllByRecursion (λ list. IsFront list p.backup) p.synced

  -- the backup's list grew
  grown : (p : Pair E) (after : List E) → IsSound p → Grows p.master p.backup after → IsSound (record p { backup = after })
  grown p after s g = record {
    front = g.front;
    sent = s.sent;
    answers = All-map _ _ p.answers (λ n le. omega (arith, le, front_length p.backup after g.more)) s.answers;
    told = told_more p.told (length p.backup) (length after) (front_length p.backup after g.more) s.told;
    synced = All-map _ _ p.synced (λ list f. front_trans list p.backup after f g.more) s.synced;
  }

  takes : (p : Pair E) (m : Message E) → IsSound p → IsAmong m p.sent → IsSound (record p { backup = taken p.backup m })
  takes p m s among = grown p (taken p.backup m) s (taken_grows p.master p.backup m (All-among (IsOf p.master) m p.sent s.sent among) s.front)

  step : (p q : Pair E) (h : Happening E) → Leaves p h q → IsSound p → IsSound q
  step p q (Appended entry) is s = subst IsSound (sym is) (record {
    front = front_more p.backup p.master (entry ∷ []) s.front;
    sent = All-map _ _ p.sent (λ m of. of_more p.master (entry ∷ []) m of) s.sent;
    answers = s.answers;
    told = s.told;
    synced = s.synced;
  })
  step p q (Sent message) is s = subst IsSound (sym is.1) (record {
    front = s.front;
    sent = (sent_is_of p.master message is.0, s.sent);
    answers = s.answers;
    told = s.told;
    synced = s.synced;
  })
  step p q (Taken message) is s =
      let t = takes p message s is.0 in
      subst IsSound (sym is.1) (record { front = t.front; sent = t.sent; answers = (omega arith, t.answers); told = t.told; synced = t.synced })
  step p q (Broken message) is s = ⊎_elim (λ (same : q ≡ p). subst IsSound (sym same) s) (λ (took : q ≡ record p { backup = taken p.backup message }). subst IsSound (sym took) (takes p message s is.0)) is.1
  step p q (Learnt count) is s = subst IsSound (sym is.1) (record {
    front = s.front;
    sent = s.sent;
    answers = s.answers;
    told = told_greater p.told count (length p.backup) (All-among (λ (n : ℕ). n ≤ length p.backup) count p.answers s.answers is.0) s.told;
    synced = s.synced;
  })
  step p q Restarted is s = subst IsSound (sym is) (record { front = s.front; sent = s.sent; answers = s.answers; told = tt; synced = s.synced })
  step p q Synced is s = subst IsSound (sym is.1) (record { front = s.front; sent = s.sent; answers = s.answers; told = s.told; synced = (whole, s.synced) })
    where
      le : length p.master ≤ length p.backup
      le = subst (λ (t : Option ℕ). IfSome t (λ n. n ≤ length p.backup)) is.0 s.told

      whole : IsFront p.master p.backup
      whole = fronts_nest p.master p.backup [] s.front.rest (append-nil p.master ∙ s.front.is) le

  all_along : (p q : Pair E) (hs : List (Happening E)) → Comes p hs q → IsSound p → IsSound q
  all_along p q [] is s = subst IsSound (sym is) s
  all_along p q (h ∷ hs) (next, leaves, comes) s = all_along next q hs comes (step p next h leaves s)

  at_first : (p : Pair E) → Begins p → IsSound p
  at_first p b = record {
    front = b.front;
    sent = subst (AllByRecursion (IsOf p.master)) (sym b.nothing_sent) tt;
    answers = subst (AllByRecursion (λ (n : ℕ). n ≤ length p.backup)) (sym b.no_answers) tt;
    told = subst (λ (t : Option ℕ). IfSome t (λ n. n ≤ length p.backup)) (sym b.nothing_told) tt;
    synced = subst (AllByRecursion (λ list. IsFront list p.backup)) (sym b.none_synced) tt;
  }

  pub paired : (p q : Pair E) (hs : List (Happening E)) → Begins p → Comes p hs q → IsPaired q
  paired p q hs begins comes =
      let s = all_along p q hs comes (at_first p begins) in
      record {
        front = s.front;
        in_backup = s.synced;
        in_master = All-map _ _ q.synced (λ list f. front_trans list q.backup q.master f s.front) s.synced;
      }
