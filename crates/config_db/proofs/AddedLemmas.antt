-- The entries that events add.
use Rattle.std.proofs.Common.{◌≡◌, ◌+◌, ◌≤◌, ℕ, zero, suc, List, [], ◌∷◌, ◌++◌, length, take, refl, sym, ap, subst, ◌∙◌, Option, None, Some, append_assoc, arith}
use Rattle.std.proofs.lemmas.List.{append-nil}
use Rattle.commit_ledger.specs.declared.entry.Entry.{Entry}
use Rattle.commit_ledger.specs.Kept.{Kept, append_entry, after_entries}
use Rattle.config_core.specs.Machine.{Steps}
use Rattle.config_core.specs.Serving.{Turned}
use Rattle.config_core.specs.State.{State}
use Rattle.session_history.specs.declared.history.Happened.{Happened}
use Rattle.session_history.specs.Events.{Leads}
use Rattle.session_history.proofs.EventLemmas.{Leads-append}
use Rattle.session_history.proofs.KeptLemmas.{count-append_entry}
use Rattle.config_db.specs.Added.{Adds, AddsAt, AddsFirst, AddsFront, AddsOne, AllFollow, added_by, entries_in}

-- more events
pub Adds-append : (s : State) (events more : List Happened) (mid last : State) (front back : List Entry) → Adds s events mid front → Adds mid more last back
    → Adds s (events ++ more) last (front ++ back)
Adds-append s [] more mid last front back a b = subst (λ l. Adds s more last (l ++ back)) (sym a.1) (subst (λ x. Adds x more last back) a.0 b)
Adds-append s (event ∷ events) more mid last front back a b =
    (a.0, a.1, a.2, a.3 ++ back, ap (λ l. l ++ back) a.4 ∙ append_assoc a.1 a.3 back, Adds-append a.0 events more mid last a.3 back a.5 b)

-- one event
pub adds_at : (s : State) (event : Happened) (after : State) (own : List Entry) → AddsAt s event after own → Adds s (event ∷ []) after own
adds_at s event after own at = (after, own, at, [], sym (append-nil own), (refl, refl))

at_leads : (s : State) (event : Happened) (after : State) (own : List Entry) → AddsAt s event after own → Leads s (event ∷ []) after
at_leads s event after own at = (at.fits, at.turned, at.steps, at.state)

pub adds_leads : (s : State) (events : List Happened) (last : State) (entries : List Entry) → Adds s events last entries → Leads s events last
adds_leads s [] last entries a = a.0
adds_leads s (event ∷ events) last entries a =
    Leads-append s (event ∷ []) events a.0 last (at_leads s event a.0 a.1 a.2) (adds_leads a.0 events last a.3 a.5)

-- what entries leave
after_entries-append : (kept : Kept) (xs ys : List Entry) → after_entries kept (xs ++ ys) ≡ after_entries (after_entries kept xs) ys
after_entries-append kept [] ys = refl
after_entries-append kept (x ∷ xs) ys = after_entries-append (append_entry kept x) xs ys

pub count-after_entries : (kept : Kept) (entries : List Entry) → (after_entries kept entries).count ≡ kept.count + length entries
count-after_entries kept [] = omega arith
count-after_entries kept (entry ∷ entries) = omega (arith, count-after_entries (append_entry kept entry) entries, count-append_entry kept entry)

one_kept : (kept : Kept) (o : Option Entry) (after : Kept) → AddsOne kept o after → after ≡ after_entries kept (entries_in o)
one_kept kept None after is = is
one_kept kept (Some entry) after one = one.1

at_kept : (s : State) (event : Happened) (after : State) (own : List Entry) → AddsAt s event after own → after.kept ≡ after_entries s.kept own
at_kept s event after own at =
    one_kept s.kept (added_by s.flight event.event event.outcome at.turned.made) after.kept at.one ∙ ap (after_entries s.kept) (sym at.own_is)

pub adds_kept : (s : State) (events : List Happened) (last : State) (entries : List Entry) → Adds s events last entries → last.kept ≡ after_entries s.kept entries
adds_kept s [] last entries a = ap (λ (x : State). x.kept) a.0 ∙ sym (ap (after_entries s.kept) a.1)
adds_kept s (event ∷ events) last entries a =
    adds_kept a.0 events last a.3 a.5 ∙ ap (λ k. after_entries k a.3) (at_kept s event a.0 a.1 a.2)
    ∙ sym (after_entries-append s.kept a.1 a.3) ∙ sym (ap (after_entries s.kept) a.4)

pub adds_count : (s : State) (events : List Happened) (last : State) (entries : List Entry) → Adds s events last entries → last.kept.count ≡ s.kept.count + length entries
adds_count s events last entries a = ap (λ (k : Kept). k.count) (adds_kept s events last entries a) ∙ count-after_entries s.kept entries

-- each may be the next one
one_follows : (kept : Kept) (o : Option Entry) (after : Kept) → AddsOne kept o after → AllFollow kept (entries_in o)
one_follows kept None after is = tt
one_follows kept (Some entry) after one = (one.0, tt)

AllFollow-append : (kept : Kept) (xs ys : List Entry) → AllFollow kept xs → AllFollow (after_entries kept xs) ys → AllFollow kept (xs ++ ys)
AllFollow-append kept [] ys front back = back
AllFollow-append kept (x ∷ xs) ys front back = (front.0, AllFollow-append (append_entry kept x) xs ys front.1 back)

pub adds_follow : (s : State) (events : List Happened) (last : State) (entries : List Entry) → Adds s events last entries → AllFollow s.kept entries
adds_follow s [] last entries a = subst (AllFollow s.kept) (sym a.1) tt
adds_follow s (event ∷ events) last entries a =
    let own = subst (AllFollow s.kept) (sym a.2.own_is) (one_follows s.kept (added_by s.flight event.event event.outcome a.2.turned.made) a.0.kept a.2.one) in
    subst (AllFollow s.kept) (sym a.4)
    (AllFollow-append s.kept a.1 a.3 own (subst (λ k. AllFollow k a.3) (at_kept s event a.0 a.1 a.2) (adds_follow a.0 events last a.3 a.5)))

-- so many of the first events
first_of : (s : State) (events : List Happened) (count : ℕ) (last : State) (front : List Entry) → Adds s (take count events) last front → AddsFirst s events count front
first_of s events count last front a = record { last = last; adds = a; is = adds_kept s (take count events) last front a }

pub adds_front : (s : State) (events : List Happened) (last : State) (entries : List Entry) (count : ℕ) → Adds s events last entries → AddsFront s events entries count
adds_front s events last entries zero a = record { front = []; rest = entries; cut = refl; first = first_of s events zero s [] (refl, refl) }
adds_front s [] last entries (suc count) a = record { front = entries; rest = []; cut = sym (append-nil entries); first = first_of s [] (suc count) last entries a }
adds_front s (event ∷ events) last entries (suc count) a =
    let more = adds_front a.0 events last a.3 count a.5 in
    record {
      front = a.1 ++ more.front;
      rest = more.rest;
      cut = a.4 ∙ ap (λ l. a.1 ++ l) more.cut ∙ sym (append_assoc a.1 more.front more.rest);
      first = first_of s (event ∷ events) (suc count) more.first.last (a.1 ++ more.front) (a.0, a.1, a.2, more.front, refl, more.first.adds);
    }

-- a front of the entries is what some of the first events add
none_first : (front rest : List Entry) → [] ≡ front ++ rest → front ≡ []
none_first [] rest is = refl
none_first (entry ∷ front) rest is = absurd (let e = ap length is in omega (arith, e))

same_first : (x y : Entry) (xs ys : List Entry) → x ∷ xs ≡ y ∷ ys → (y ≡ x) × (xs ≡ ys)
same_first x y xs ys is = (cc, cc)

pub adds_cut : (s : State) (events : List Happened) (last : State) (entries front rest : List Entry) → Adds s events last entries → entries ≡ front ++ rest
    → (count : ℕ) × AddsFirst s events count front
adds_cut s [] last entries front rest a cut = (zero, first_of s [] zero s front (refl, none_first front rest (sym a.1 ∙ cut)))
adds_cut s (event ∷ events) last entries [] rest a cut = (zero, first_of s (event ∷ events) zero s [] (refl, refl))
adds_cut s (event ∷ events) last entries (x ∷ front) rest a cut =
    by_own (added_by s.flight event.event event.outcome a.2.turned.made) a.2.own_is (λ more is. adds_cut a.0 events last a.3 more rest a.5 is)
  where
    by_own : (o : Option Entry) → a.1 ≡ entries_in o → ((more : List Entry) → a.3 ≡ more ++ rest → (count : ℕ) × AddsFirst a.0 events count more)
        → (count : ℕ) × AddsFirst s (event ∷ events) count (x ∷ front)
    by_own None own later =
        let more = later (x ∷ front) (ap (λ l. l ++ a.3) (sym own) ∙ sym a.4 ∙ cut) in
        (suc more.0, first_of s (event ∷ events) (suc more.0) more.1.last (x ∷ front) (a.0, a.1, a.2, x ∷ front, ap (λ l. l ++ x ∷ front) (sym own), more.1.adds))
    by_own (Some y) own later =
        let same = same_first y x a.3 (front ++ rest) (ap (λ l. l ++ a.3) (sym own) ∙ sym a.4 ∙ cut) in
        let more = later front same.1 in (
          suc more.0,
          first_of s (event ∷ events) (suc more.0) more.1.last (x ∷ front)
              (a.0, a.1, a.2, front, ap (λ z. z ∷ front) same.0 ∙ ap (λ l. l ++ front) (sym own), more.1.adds),
        )

-- at most one list of entries is added
module _ (first : State)
    (one_way : (events : List Happened) (s : State) (event : Happened) (one other : Turned) → Leads first events s → Steps s event.caller event.moment event.event event.outcome one
    → Steps s event.caller event.moment event.event event.outcome other → one ≡ other) where
  once : (before : List Happened) (s : State) (events : List Happened) (last again : State) (entries others : List Entry) → Leads first before s
      → Adds s events last entries → Adds s events again others → entries ≡ others
  once before s [] last again entries others leads a b = a.1 ∙ sym b.1
  once before s (event ∷ events) last again entries others leads a b =
      let same : a.2.turned ≡ b.2.turned = one_way before s event a.2.turned b.2.turned leads a.2.steps b.2.steps in
      let after : a.0 ≡ b.0 = a.2.state ∙ ap (λ (t : Turned). t.state) same ∙ sym b.2.state in
      let own : a.1 ≡ b.1 = a.2.own_is ∙ ap (λ (t : Turned). entries_in (added_by s.flight event.event event.outcome t.made)) same ∙ sym b.2.own_is in
      let rest : a.3 ≡ b.3 = once (before ++ event ∷ []) b.0 events last again a.3 b.3
      (Leads-append first before (event ∷ []) s b.0 leads (at_leads s event b.0 b.1 b.2)) (subst (λ x. Adds x events last a.3) after a.5) b.5 in
      a.4 ∙ ap (λ l. l ++ a.3) own ∙ ap (λ l. b.1 ++ l) rest ∙ sym b.4

  pub adds_once : (events : List Happened) (last again : State) (entries others : List Entry) → Adds first events last entries → Adds first events again others → entries ≡ others
  adds_once events last again entries others a b = once [] first events last again entries others refl a b
