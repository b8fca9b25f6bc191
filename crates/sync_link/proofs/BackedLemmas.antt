-- A backup whose list is a front of the master's stays one.
use Rattle.std.proofs.Common.{◌≡◌, ◌≤◌, ◌<◌, ◌⊎◌, inl, inr, ⊎_elim, ℕ, Bool, true, false, List, [], ◌∷◌, ◌++◌, length, Option, None, Some, IfSome, refl, sym, ◌∙◌, ap, subst, arith, append_assoc}
use Rattle.std.specs.List.{AllByRecursion}
use Rattle.std.proofs.lemmas.List.{append-nil}
use Rattle.cfg_base.specs.declared.calls.Calls.{Calls}
use Rattle.commit_journal.specs.Held.{calls_of}
use Rattle.commit_journal.specs.Journal.{Tell, a_of, b_of}
use Rattle.commit_journal.specs.Spans.{AreSpansSafe, InSpan, IsReckoned, last_calls, next_calls, none_called}
use Rattle.commit_journal.proofs.CalledLemmas.{agrees_a, agrees_b}
use Rattle.commit_journal.proofs.HeldLemmas.{tell_since}
use Rattle.commit_journal.proofs.SafeLemmas.{grown_safe}
use Rattle.commit_journal.proofs.SpanLemmas.{span_now}
use Rattle.commit_ledger.specs.declared.entry.Entry.{Entry}
use Rattle.commit_ledger.specs.Checkpoint.{AreAlike}
use Rattle.commit_ledger.specs.Kept.{Kept, after_entries}
use Rattle.stored_ledger.specs.declared.change.Change.{Change}
use Rattle.stored_ledger.specs.declared.change.Change.TheVariants.{Entry as EntryMore, Whole as WholeList}
use Rattle.stored_ledger.specs.Growing.{EachNow, SpellsBy, SpellsMade, SpellsOne}
use Rattle.stored_ledger.specs.Stored.{SpellsAgreeing}
use Rattle.stored_ledger.proofs.StandingLemmas.{agrees_same}
use Rattle.sync_link.specs.declared.mark.Mark.{Mark}
use Rattle.sync_link.specs.Lines.{IsNow, Line, LineGoesOn, MayHave}
use Rattle.sync_link.specs.Marks.{CountsUp, IsSafe, SpeltBy, calls_in, events_by, last_count, last_events, mark_of}
use Rattle.sync_link.specs.Views.{BackupView, IsBacked, Making, Moves, flight_by, kept_by}

count_push : (count : ℕ) (ms : List Mark) (m : Mark) → last_count count (ms ++ m ∷ []) ≡ m.count
count_push count [] m = refl
count_push count (x ∷ ms) m = count_push x.count ms m

events_push : (events : ℕ) (ms : List Mark) (m : Mark) → last_events events (ms ++ m ∷ []) ≡ m.events
events_push events [] m = refl
events_push events (x ∷ ms) m = events_push x.events ms m

counts_push : (count : ℕ) (ms : List Mark) (last last' : ℕ) (m : Mark) → CountsUp count ms last → last ≤ last' → m.count ≡ last' → CountsUp count (ms ++ m ∷ []) last'
counts_push count [] last last' m up le is = (omega (arith, up, le, is), omega (arith, is))
counts_push count (x ∷ ms) last last' m up le is = (up.0, counts_push x.count ms last last' m up.1 le is)

counts_front : (n : ℕ) (ms rest : List Mark) (end : ℕ) → CountsUp n (ms ++ rest) end → n ≤ last_count n ms
counts_front n [] rest end all = omega arith
counts_front n (x ∷ ms) rest end all = omega (arith, all.0, counts_front x.count ms rest end all.1)

-- a later mark has no fewer entries
counts_more : (count : ℕ) (before more after : List Mark) (last : ℕ) → CountsUp count (before ++ (more ++ after)) last → last_count count before ≤ last_count count (before ++ more)
counts_more count [] more after last up = counts_front count more after last up
counts_more count (x ∷ before) more after last up = counts_more x.count before more after last up.1

pub more_entries : (answer : Option Bool) (kept other : Kept) → kept.count ≤ other.count → kept.count ≤ (kept_by answer kept other).count
more_entries None kept other longer = omega arith
more_entries (Some true) kept other longer = omega (arith, longer)
more_entries (Some false) kept other longer = omega arith

said_push : (events : ℕ) (ms : List Mark) (m : Mark) → AllByRecursion (λ (k : Mark). k.events ≤ events) ms → m.events ≤ events → AllByRecursion (λ (k : Mark). k.events ≤ events) (ms ++ m ∷ [])
said_push events [] m all le = (le, tt)
said_push events (x ∷ ms) m all le = (all.0, said_push events ms m all.1 le)

said_more : (events more : ℕ) (ms : List Mark) → events ≤ more → AllByRecursion (λ (k : Mark). k.events ≤ events) ms → AllByRecursion (λ (k : Mark). k.events ≤ more) ms
said_more events more [] le all = tt
said_more events more (x ∷ ms) le all = (omega (arith, le, all.0), said_more events more ms le all.1)

last_said : (least events : ℕ) (ms : List Mark) → least ≤ events → AllByRecursion (λ (k : Mark). k.events ≤ events) ms → last_events least ms ≤ events
last_said least events [] le all = le
last_said least events (x ∷ ms) le all = last_said x.events events ms all.0 all.1

said_front : (events : ℕ) (before after : List Mark) → AllByRecursion (λ (k : Mark). k.events ≤ events) (before ++ after) → AllByRecursion (λ (k : Mark). k.events ≤ events) before × AllByRecursion (λ (k : Mark). k.events ≤ events) after
said_front events [] after all = (tt, all)
said_front events (x ∷ before) after all = let r = said_front events before after all.1 in ((all.0, r.0), r.1)

-- the number of events by which a span is told was told
span_said : (events : ℕ) (before after : List Mark) → AllByRecursion (λ (k : Mark). k.events ≤ events) (before ++ after) → events_by before after ≤ events
span_said events before [] all = last_said 0 events before (omega arith) (said_front events before [] all).0
span_said events before (x ∷ after) all = (said_front events before (x ∷ after) all).1.0

may_on : (line line' : Line) (es es' more : List Entry) (kept : Kept) → line'.first ≡ line.first → line'.own ≡ line.own → es' ≡ es ++ more → MayHave line es kept → MayHave line' es' kept
may_on line line' es es' more kept first own is (inl mine) =
    inl (mine.0 ∙ sym own, subst (λ (f : Kept). line'.own.count < f.count) (sym first) (subst (λ (o : Kept). o.count < line.first.count) (sym own) mine.1))
may_on line line' es es' more kept first own is (inr like) = inr (record {
  value = like.value;
  left = record {
    front = like.left.front;
    rest = like.left.rest ++ more;
    cut = is ∙ ap (λ l. l ++ more) like.left.cut ∙ append_assoc like.left.front like.left.rest more;
    is = like.left.is ∙ ap (λ f. after_entries f like.left.front) (sym first);
  };
  alike = like.alike;
})

flight_on : (line line' : Line) (more : List Entry) (flight : Option Making) → line'.first ≡ line.first → line'.own ≡ line.own → line'.entries ≡ line.entries ++ more
    → IfSome flight (λ (m : Making). MayHave line line.entries m.list) → IfSome flight (λ (m : Making). MayHave line' line'.entries m.list)
flight_on line line' more None first own is may = tt
flight_on line line' more (Some making) first own is may = may_on line line' line.entries line'.entries more making.list first own is may

may_by : (line : Line) (answer : Option Bool) (kept other : Kept) → MayHave line line.entries kept → MayHave line line.entries other → MayHave line line.entries (kept_by answer kept other)
may_by line None kept other one two = one
may_by line (Some true) kept other one two = two
may_by line (Some false) kept other one two = one

flight_may : (line : Line) (answer : Option Bool) (making : Making) → MayHave line line.entries making.list → IfSome (flight_by answer (Some making)) (λ (m : Making). MayHave line line.entries m.list)
flight_may line None making may = may
flight_may line (Some is_made) making may = tt

-- two files that spell what a change makes spell a list that agrees with it
made_agrees : (change : Change) (other : Kept) (c d : List ℕ) → SpellsMade change other c d → SpellsAgreeing c d other
made_agrees EntryMore other c d spells = record { one = other; spells = spells; agrees = agrees_same other }
made_agrees WholeList other c d spells = spells

one_agrees : (change : Change) (kept other : Kept) (c d : List ℕ) → SpellsOne change kept other c d → SpellsAgreeing c d kept ⊎ SpellsAgreeing c d other
one_agrees change kept other c d (inl old) = inl old
one_agrees change kept other c d (inr new) = inr (made_agrees change other c d new)

module _ (line : Line) where
  stays : (e : Mark) (before : List Mark) (x : Mark) (rest : List Mark) (c d : List ℕ) → SpeltBy line before (x ∷ rest) c d → SpeltBy line before (x ∷ (rest ++ e ∷ [])) c d
  stays e before x rest c d s = record { kept = s.kept; spells = s.spells; no_fewer = s.no_fewer; may = s.may }

  module _ (change : Change) (answer : Option Bool) (other : Kept) (v v' : BackupView) (is_now : IsNow line v.events) (may : MayHave line line.entries other) (backed : IsBacked line v) (m : Moves change answer other v v') where
    mark : Mark
    mark = mark_of v.events (calls_of v'.files) v'.kept.count

    may_now : (kept : Kept) → MayHave line line.entries kept → MayHave line (line.by v.events) kept
    may_now kept = subst (λ es. MayHave line es kept) (sym is_now)

    -- a pair of images of the call
    spelt_one : (c d : List ℕ) → SpellsAgreeing c d v.kept ⊎ SpellsAgreeing c d other → SpeltBy line v.marks (mark_of v.events (calls_of v'.files) v'.kept.count ∷ []) c d
    spelt_one c d (inl old) = record { kept = v.kept; spells = old; no_fewer = omega (arith, backed.counted); may = may_now v.kept backed.value }
    spelt_one c d (inr new) = record { kept = other; spells = new; no_fewer = omega (arith, backed.counted, m.no_fewer); may = may_now other may }

    spelt : (c d : List ℕ) → SpellsOne change v.kept other c d → SpeltBy line v.marks (mark_of v.events (calls_of v'.files) v'.kept.count ∷ []) c d
    spelt c d one = spelt_one c d (one_agrees change v.kept other c d one)

    -- the list, or the other one, of the moment behind it
    found_by : (a : Option Bool) (c d : List ℕ) → SpellsBy change a v.kept other c d → (kept : Kept) × SpellsAgreeing c d kept × ((kept_by a v.kept other).count ≤ kept.count) × MayHave line line.entries kept
    found_by None c d one =
        ⊎_elim (λ (old : SpellsAgreeing c d v.kept). (v.kept, old, omega arith, backed.value)) (λ (new : SpellsAgreeing c d other). (other, new, m.no_fewer, may)) (one_agrees change v.kept other c d one)
    found_by (Some true) c d new = (other, new, omega arith, may)
    found_by (Some false) c d old = (v.kept, old, omega arith, backed.value)

    spelt_now : (c d : List ℕ) → SpellsBy change answer v.kept other c d → SpeltBy line (v.marks ++ mark_of v.events (calls_of v'.files) v'.kept.count ∷ []) [] c d
    spelt_now c d spells =
        let s = found_by answer c d spells in
        let counted : last_count line.own.count (v.marks ++ mark_of v.events (calls_of v'.files) v'.kept.count ∷ []) ≡ v'.kept.count = count_push line.own.count v.marks (mark_of v.events (calls_of v'.files) v'.kept.count) in
        let count_is : v'.kept.count ≡ (kept_by answer v.kept other).count = ap (λ (k : Kept). k.count) m.kept_is in
        record {
          kept = s.0;
          spells = s.1;
          no_fewer = omega (arith, counted, count_is, s.2);
          may = subst (λ (n : ℕ). MayHave line (line.by n) s.0) (sym (events_push 0 v.marks (mark_of v.events (calls_of v'.files) v'.kept.count))) (may_now s.0 s.3);
        }

    safe_after : IsSafe line (v.marks ++ mark_of v.events (calls_of v'.files) v'.kept.count ∷ []) v'.files
    safe_after t =
        let told : Tell v.files = tell_since v.files v'.files m.makes.goes t in
        grown_safe calls_in (SpeltBy line) v.marks (calls_of v.files) (calls_of v'.files) (a_of v.files) (b_of v.files) (a_of v'.files) (b_of v'.files)
        (agrees_a v.files v'.files (m.makes.called told)) (agrees_b v.files v'.files (m.makes.called told)) m.rising (backed.safe told)
        (mark_of v.events (calls_of v'.files) v'.kept.count) (SpellsOne change v.kept other) refl m.at_rest (stays (mark_of v.events (calls_of v'.files) v'.kept.count))
        (m.makes.crash told) spelt (λ c d in_a in_b. spelt_now c d (m.makes.now told c d in_a in_b))

    pub moved : IsBacked line v'
    moved = record {
      value = subst (MayHave line line.entries) (sym m.kept_is) (may_by line answer v.kept other backed.value may);
      flight = subst (λ f. IfSome f (λ (k : Making). MayHave line line.entries k.list)) (sym m.flight_is) (flight_may line answer (record { change = change; list = other }) may);
      counted = ap (last_count line.own.count) m.marked ∙ count_push line.own.count v.marks (mark_of v.events (calls_of v'.files) v'.kept.count);
      rises = subst (λ ms. CountsUp line.own.count ms v'.kept.count) (sym m.marked)
          (counts_push line.own.count v.marks v.kept.count v'.kept.count (mark_of v.events (calls_of v'.files) v'.kept.count) backed.rises
          (subst (λ (k : Kept). v.kept.count ≤ k.count) (sym m.kept_is) (more_entries answer v.kept other m.no_fewer)) refl);
      said = subst (λ (n : ℕ). AllByRecursion (λ (k : Mark). k.events ≤ n) v'.marks) (sym m.events_are)
          (subst (AllByRecursion (λ (k : Mark). k.events ≤ v.events)) (sym m.marked) (said_push v.events v.marks (mark_of v.events (calls_of v'.files) v'.kept.count) backed.said (omega arith)));
      safe = subst (λ ms. IsSafe line ms v'.files) (sym m.marked) safe_after;
    }

  -- from a mark on at which the backup had so many entries each crash leaves no fewer, and a front of the master's list
  pub stays_synced : (v : BackupView) (count : ℕ) (before more after : List Mark) → IsBacked line v → v.marks ≡ before ++ (more ++ after) → count ≤ last_count line.own.count before
      → Tell v.files → IsReckoned (a_of v.files) → IsReckoned (b_of v.files) → (c d : List ℕ)
      → InSpan (a_of v.files) (calls_of v.files).a (last_calls calls_in none_called (before ++ more)).a (next_calls calls_in (calls_of v.files) after).a c
      → InSpan (b_of v.files) (calls_of v.files).b (last_calls calls_in none_called (before ++ more)).b (next_calls calls_in (calls_of v.files) after).b d
      → SpeltBy line (before ++ more) after c d × (count ≤ last_count line.own.count (before ++ more))
  stays_synced v count before more after backed cut le t few_a few_b c d in_a in_b = (
    (backed.safe t few_a few_b).safe (before ++ more) after (cut ∙ sym (append_assoc before more after)) c d in_a in_b,
    omega (arith, le, counts_more line.own.count before more after v.kept.count (subst (λ ms. CountsUp line.own.count ms v.kept.count) cut backed.rises)),
  )

module _ (line line' : Line) (v : BackupView) (on : LineGoesOn v.events line line') where
  spelt_on : (before after : List Mark) (c d : List ℕ) → events_by before after ≤ v.events → SpeltBy line before after c d → SpeltBy line' before after c d
  spelt_on before after c d le s = record {
    kept = s.kept;
    spells = s.spells;
    no_fewer = subst (λ (o : Kept). last_count o.count before ≤ s.kept.count) (sym on.own) s.no_fewer;
    may = may_on line line' (line.by (events_by before after)) (line'.by (events_by before after)) [] s.kept on.first on.own (on.by (events_by before after) le ∙ sym (append-nil _)) s.may;
  }

  spans_on : AllByRecursion (λ (k : Mark). k.events ≤ v.events) v.marks → IsSafe line v.marks v.files → IsSafe line' v.marks v.files
  spans_on said safe t few_a few_b =
      let s = safe t few_a few_b in
      record {
        within_a = s.within_a;
        within_b = s.within_b;
        safe = λ before after cut c d in_a in_b.
            spelt_on before after c d (span_said v.events before after (subst (AllByRecursion (λ (k : Mark). k.events ≤ v.events)) cut said)) (s.safe before after cut c d in_a in_b);
      }

  -- a backup stays its master's as that goes on
  pub backed_on : IsBacked line v → IsBacked line' v
  backed_on b = record {
    value = may_on line line' line.entries line'.entries on.more v.kept on.first on.own on.entries b.value;
    flight = flight_on line line' on.more v.flight on.first on.own on.entries b.flight;
    counted = ap (λ (o : Kept). last_count o.count v.marks) on.own ∙ b.counted;
    rises = subst (λ (o : Kept). CountsUp o.count v.marks v.kept.count) (sym on.own) b.rises;
    said = b.said;
    safe = spans_on b.said b.safe;
  }

-- and as it is told of more events
pub backed_at : (line : Line) (v : BackupView) (events : ℕ) → v.events ≤ events → IsBacked line v → IsBacked line (record v { events = events })
backed_at line v events le b = record { value = b.value; flight = b.flight; counted = b.counted; rises = b.rises; said = said_more v.events events v.marks le b.said; safe = b.safe }

module _ (line : Line) (v : BackupView) (no_marks : v.marks ≡ []) (no_made : calls_of v.files ≡ none_called) (own : v.kept ≡ line.own) (idle : v.flight ≡ None)
    (paired : (line.own.count < line.first.count) ⊎ AreAlike line.own line.first) (spell : Tell v.files → EachNow v.files (λ c d. SpellsAgreeing c d v.kept)) where
  had : (es : List Entry) → MayHave line es v.kept
  had es = subst (MayHave line es) (sym own) (⊎_elim
      (λ (shorter : line.own.count < line.first.count). inl (refl, shorter))
      (λ (alike : AreAlike line.own line.first). inr (record { value = line.first; left = record { front = []; rest = es; cut = refl; is = refl }; alike = alike })) paired)

  zero_a : (calls_of v.files).a ≡ 0
  zero_a = ap (λ (m : Calls). m.a) no_made

  zero_b : (calls_of v.files).b ≡ 0
  zero_b = ap (λ (m : Calls). m.b) no_made

  first_spans : Tell v.files → AreSpansSafe calls_in (SpeltBy line) [] (calls_of v.files) (a_of v.files) (b_of v.files)
  first_spans t [] [] is c d in_a in_b = record {
    kept = v.kept;
    spells = spell t c d
        (span_now (a_of v.files) (calls_of v.files).a c (omega (arith, zero_a)) (subst (λ (n : ℕ). InSpan (a_of v.files) (calls_of v.files).a n (calls_of v.files).a c) (sym zero_a) in_a))
        (span_now (b_of v.files) (calls_of v.files).b d (omega (arith, zero_b)) (subst (λ (n : ℕ). InSpan (b_of v.files) (calls_of v.files).b n (calls_of v.files).b d) (sym zero_b) in_b));
    no_fewer = omega (arith, ap (λ (k : Kept). k.count) own);
    may = had (line.by 0);
  }
  first_spans t (x ∷ before) after is c d in_a in_b = absurd (let e = ap length is in omega (arith, e))
  first_spans t [] (x ∷ after) is c d in_a in_b = absurd (let e = ap length is in omega (arith, e))

  -- a backup as it starts
  pub backed_first : IsBacked line v
  backed_first = record {
    value = had line.entries;
    flight = subst (λ f. IfSome f (λ (m : Making). MayHave line line.entries m.list)) (sym idle) tt;
    counted = ap (last_count line.own.count) no_marks ∙ sym (ap (λ (k : Kept). k.count) own);
    rises = subst (λ ms. CountsUp line.own.count ms v.kept.count) (sym no_marks) (omega (arith, ap (λ (k : Kept). k.count) own));
    said = subst (AllByRecursion (λ (k : Mark). k.events ≤ v.events)) (sym no_marks) tt;
    safe = λ t few_a few_b. record {
      within_a = omega (arith, zero_a);
      within_b = omega (arith, zero_b);
      safe = subst (λ ms. AreSpansSafe calls_in (SpeltBy line) ms (calls_of v.files) (a_of v.files) (b_of v.files)) (sym no_marks) (first_spans t);
    };
  }
