-- Records have one reading or a bad record, and what is read or grew from it has a checkpoint that is read.
use Rattle.std.proofs.Common.{◌≡◌, ◌≤◌, inl, inr, ℕ, Bool, false, List, [], ◌∷◌, ◌++◌, length, Option, Some, None, refl, sym, ◌∙◌, ap, subst, arith, append_assoc, length-append}
use Rattle.std.specs.Prelude.{IfSome, IsSome, ◌||◌, is_some}
use Rattle.std.proofs.lemmas.List.{length-map, map-append}
use Rattle.std.proofs.lemmas.List.Elements.{All-from_recursion}
use Rattle.std.specs.List.{AllByRecursion}
use Rattle.cfg_tree.specs.Statements.{Statements}
use Rattle.record_code.specs.declared.payloads.Placed.{Placed}
use Rattle.record_code.specs.Listed.{record_of, records_of}
use Rattle.record_code.specs.Record.{Record}
use Rattle.commit_ledger.specs.declared.limit.TheConstants.{MAX_ENTRIES}
use Rattle.commit_ledger.specs.declared.entry.Commit.{Commit}
use Rattle.commit_ledger.specs.declared.entry.Entry.{Entry}
use Rattle.commit_ledger.specs.declared.entry.Scheduled.{Scheduled}
use Rattle.commit_ledger.specs.declared.entry.Entry.TheVariants.{Commit as CommitOf, Confirm as ConfirmOf, Scheduled as ScheduledOf, Cleared as ClearedOf}
use Rattle.commit_ledger.specs.Kept.{Kept, KeepsMaps, Unconfirmed, append_entry, commits_of}
use Rattle.commit_ledger.specs.Payload.{HasShortText, entry_record}
use Rattle.commit_ledger.specs.Rules.{IsCommit, IsEntry, Follows, IsWaiting, new_after}
use Rattle.commit_ledger.specs.Reading.{Begins, BeginsBadly, GoesOn, GoesThrough, IsBadBehind, IsBegun, IsFirstBad, IsUnread, Opens, ReadsAs}
use Rattle.commit_ledger.specs.Checkpoint.{keep_form, keep_record, listed, checkpoint, HasShortMaps, HaveShortTexts, IsRunAmong, Restores, Agrees, as_read}
use Rattle.commit_ledger.proofs.RecordLemmas.{goes_push, one_more, one_opening, written_now}
use Rattle.commit_ledger.proofs.BadLemmas.{bad_not_begun, one_bad_checkpoint, opens_kind}
use Rattle.commit_ledger.proofs.GrownLemmas.{IsGrown, all_among, all_back, among_back, entry_grows, listed_each, opened_is_grown, restored_is_grown, agreeing_is_grown, checkpoint_is_read, reads_agree}
use Rattle.commit_ledger.proofs.RestoreLemmas.{as_many, one_restored, same_size}

-- one more entry that may come next is read after the others
pub appended_is_read : (P : Statements → Type 0) (rs : List Record) (kept : Kept) (entry : Entry) → ReadsAs P rs kept → IsEntry P entry → Follows kept entry → ReadsAs P (rs ++ entry_record entry ∷ []) (append_entry kept entry)
appended_is_read P rs kept entry reads is follows = record {
  front = reads.front;
  rest = reads.rest ++ entry_record entry ∷ [];
  cut = ap (λ (l : List Record). l ++ entry_record entry ∷ []) reads.cut ∙ append_assoc reads.front reads.rest (entry_record entry ∷ []);
  first = reads.first;
  begins = reads.begins;
  reads = goes_push P (new_after false reads.front) reads.first reads.rest kept (entry_record entry) (append_entry kept entry) reads.reads
      (record {
        entry = entry;
        is_record = record { is = written_now (new_after (new_after false reads.front) reads.rest || is_some kept.scheduled) entry; is_entry = is };
        follows = follows;
        is = refl;
      });
}

-- an entry that follows a value follows one that agrees with it, and leaves the same
pub agrees_follow : (one other : Kept) (entry : Entry) → Agrees one other → Follows other entry → Follows one entry
agrees_follow one other entry agrees follows = by entry (subst (λ k. Follows k entry) agrees.is follows)
  where
    by : (e : Entry) → Follows (record one { moment = other.moment }) e → Follows one e
    by (CommitOf c) f = record { number = f.number; moment = omega (arith, f.moment, agrees.no_later); room = f.room; carries = f.carries }
    by (ConfirmOf c) f = record { number = f.number; moment = omega (arith, f.moment, agrees.no_later); waits = f.waits }
    by (ScheduledOf w) f = record {
      number = f.number;
      moment = omega (arith, f.moment, agrees.no_later);
      later = f.later;
      within = f.within;
      no_run = f.no_run;
      alone = f.alone;
      room = f.room;
    }
    by (ClearedOf c) f = record { number = f.number; moment = omega (arith, f.moment, agrees.no_later); waits = f.waits }

pub agrees_append : (one other : Kept) (entry : Entry) → Agrees one other → append_entry one entry ≡ append_entry other entry
agrees_append one other entry agrees = by entry ∙ ap (λ k. append_entry k entry) (sym agrees.is)
  where
    by : (e : Entry) → append_entry one e ≡ append_entry (record one { moment = other.moment }) e
    by (CommitOf c) = refl
    by (ConfirmOf c) = refl
    by (ScheduledOf w) = refl
    by (ClearedOf c) = refl

-- what is read has grown
first_commit : (P : Statements → Type 0) (r : Record) (kept : Kept) (opens : Opens P r kept) → IsCommit P opens.commit
first_commit P r kept opens = subst (IsEntry P) opens.first.is opens.is_record.is_entry

begins_grown : (P : Statements → Type 0) (front : List Record) (kept : Kept) → Begins P front kept → IsGrown P kept
begins_grown P front kept (inl one) = subst (IsGrown P) (sym one.2.is) (opened_is_grown P one.2.commit (first_commit P one.0 kept one.2) one.2.first.number)
begins_grown P front kept (inr restores) = restored_is_grown P kept restores.rules (omega (arith, restores.moment))

goes_grown : (P : Statements → Type 0) (new : Bool) (kept : Kept) (rs : List Record) (last : Kept) → IsGrown P kept → GoesThrough P new kept rs last → IsGrown P last
goes_grown P new kept [] last grown goes = subst (IsGrown P) goes grown
goes_grown P new kept (r ∷ rs) last grown goes =
    let next = goes.1 in
    goes_grown P (new_after new (r ∷ [])) goes.0 rs last (subst (IsGrown P) (sym next.is) (entry_grows P kept next.entry grown next.is_record.is_entry next.follows)) goes.2

pub reads_grown : (P : Statements → Type 0) (rs : List Record) (kept : Kept) → ReadsAs P rs kept → IsGrown P kept
reads_grown P rs kept reads = goes_grown P (new_after false reads.front) reads.first reads.rest kept (begins_grown P reads.front reads.first reads.begins) reads.reads

-- the checkpoint of what is kept, where records are read as it or as what agrees with it, is read as what agrees with it
pub checkpoint_reads : (P : Statements → Type 0) (rs : List Record) (one kept : Kept) → ReadsAs P rs one → Agrees one kept → ReadsAs P (checkpoint kept) (as_read kept) × Agrees (as_read kept) kept
checkpoint_reads P rs one kept reads agrees =
    let grown = agreeing_is_grown P one kept agrees (reads_grown P rs one reads) in (checkpoint_is_read P kept grown, reads_agree P kept grown)

-- each map of a checkpoint has a short text
each_short : (P : Statements → Type 0) (commits : List Commit) → AllByRecursion (IsCommit P) commits → HaveShortTexts commits
each_short P [] each = tt
each_short P (c ∷ commits) each = (each.0.text, each_short P commits each.1)

pub texts_are_short : (P : Statements → Type 0) (rs : List Record) (one kept : Kept) → ReadsAs P rs one → Agrees one kept → HasShortMaps kept
texts_are_short P rs one kept reads agrees =
    let grown = agreeing_is_grown P one kept agrees (reads_grown P rs one reads) in
    record { commits = each_short P (listed kept) (listed_each P kept grown); waiting = waiting kept.scheduled grown.waits }
  where
    waiting : (scheduled : Option Scheduled) → IfSome scheduled (IsWaiting P kept) → IfSome scheduled (λ (w : Scheduled). HasShortText (ScheduledOf w))
    waiting None is = tt
    waiting (Some w) is = is.is_scheduled.text

-- two rows of one length, and what stands after them
same_rows : (xs ys r s : List Record) → length xs ≡ length ys → xs ++ r ≡ ys ++ s → (xs ≡ ys) × (r ≡ s)
same_rows [] [] r s size is = (refl, is)
same_rows [] (y ∷ ys) r s size is = absurd (omega (arith, size))
same_rows (x ∷ xs) [] r s size is = absurd (omega (arith, size))
same_rows (x ∷ xs) (y ∷ ys) r s size is =
    let tails : xs ++ r ≡ ys ++ s = cc in
    let head : x ≡ y = cc in
    let rest = same_rows xs ys r s (omega (arith, size)) tails in
    (ap (λ z. z ∷ xs) head ∙ ap (λ l. y ∷ l) rest.0, rest.1)

first_of_row : (r s : Record) (xs ys : List Record) → r ∷ xs ≡ s ∷ ys → r ≡ s
first_of_row r s xs ys is = cc

rest_of_row : (r s : Record) (xs ys : List Record) → r ∷ xs ≡ s ∷ ys → xs ≡ ys
rest_of_row r s xs ys is = cc

-- a list begins in one way
record SameBegin (front other rest more : List Record) (k l : Kept) : Type 0 where
  fronts : front ≡ other
  kept : k ≡ l
  rests : rest ≡ more

one_begin : (P : Statements → Type 0) (front other rest more : List Record) (k l : Kept) → front ++ rest ≡ other ++ more → Begins P front k → Begins P other l → SameBegin front other rest more k l
one_begin P front other rest more k l is (inl a) (inl b) =
    let both : a.0 ∷ rest ≡ b.0 ∷ more = ap (λ (f : List Record). f ++ rest) (sym a.1) ∙ is ∙ ap (λ (f : List Record). f ++ more) b.1 in
    let first = first_of_row a.0 b.0 rest more both in
    record {
      fronts = a.1 ∙ ap (λ (r : Record). r ∷ []) first ∙ sym b.1;
      kept = one_opening P a.0 k l a.2 (subst (λ r. Opens P r l) (sym first) b.2);
      rests = rest_of_row a.0 b.0 rest more both;
    }
one_begin P front other rest more k l is (inl a) (inr b) =
    let both : a.0 ∷ rest ≡ keep_record (keep_form l) ∷ b.commits ++ more = ap (λ (f : List Record). f ++ rest) (sym a.1) ∙ is ∙ ap (λ (f : List Record). f ++ more) b.is in
    absurd (opens_kind P a.0 k a.2 (ap (λ (r : Record). r.kind) (first_of_row a.0 (keep_record (keep_form l)) rest (b.commits ++ more) both)))
one_begin P front other rest more k l is (inr a) (inl b) =
    let both : b.0 ∷ more ≡ keep_record (keep_form k) ∷ a.commits ++ rest = ap (λ (f : List Record). f ++ more) (sym b.1) ∙ sym is ∙ ap (λ (f : List Record). f ++ rest) a.is in
    absurd (opens_kind P b.0 l b.2 (ap (λ (r : Record). r.kind) (first_of_row b.0 (keep_record (keep_form k)) more (a.commits ++ rest) both)))
one_begin P front other rest more k l is (inr a) (inr b) =
    let both : (keep_record (keep_form k) ∷ a.commits) ++ rest ≡ (keep_record (keep_form l) ∷ b.commits) ++ more =
    ap (λ (f : List Record). f ++ rest) (sym a.is) ∙ is ∙ ap (λ (f : List Record). f ++ more) b.is in
    let heads = first_of_row (keep_record (keep_form k)) (keep_record (keep_form l)) (a.commits ++ rest) (b.commits ++ more) both in
    let size : length (listed k) ≡ length (listed l) = same_size P k l a.rules b.rules heads in
    let rows = same_rows (keep_record (keep_form k) ∷ a.commits) (keep_record (keep_form l) ∷ b.commits) rest more
    (omega (arith, size, as_many false a.commits (listed k) a.are, as_many false b.commits (listed l) b.are)) both in
    let fronts : front ≡ other = a.is ∙ rows.0 ∙ sym b.is in
    record { fronts = fronts; kept = one_restored P front k l a (subst (λ (f : List Record). Restores P f l) (sym fronts) b); rests = rows.1 }

one_way : (P : Statements → Type 0) (new : Bool) (k : Kept) (rs : List Record) (m n : Kept) → GoesThrough P new k rs m → GoesThrough P new k rs n → m ≡ n
one_way P new k [] m n a b = sym a ∙ b
one_way P new k (r ∷ rs) m n a b =
    let next = new_after new (r ∷ []) in
    one_way P next a.0 rs m n a.2 (subst (λ x. GoesThrough P next x rs n) (one_more P new k r b.0 a.0 b.1 a.1) b.2)

-- what is read after a beginning is read after the same one
after_begin : (P : Statements → Type 0) (front other rest more : List Record) (k l m : Kept) → SameBegin front other rest more k l → GoesThrough P (new_after false other) l more m → GoesThrough P (new_after false front) k rest m
after_begin P front other rest more k l m same reads =
    subst (λ (f : List Record). GoesThrough P (new_after false f) k rest m) (sym same.fronts)
    (subst (λ (x : Kept). GoesThrough P (new_after false other) x rest m) (sym same.kept) (subst (λ (r : List Record). GoesThrough P (new_after false other) l r m) (sym same.rests) reads))

-- records have one reading
pub one_reading : (P : Statements → Type 0) (rs : List Record) (m n : Kept) → ReadsAs P rs m → ReadsAs P rs n → m ≡ n
one_reading P rs m n a b =
    let begin = one_begin P a.front b.front a.rest b.rest a.first b.first (sym a.cut ∙ b.cut) a.begins b.begins in
    one_way P (new_after false a.front) a.first a.rest m n a.reads (after_begin P a.front b.front a.rest b.rest a.first b.first n begin b.reads)

-- each map that is kept of records that are read is accepted
maps_are_accepted : (P : Statements → Type 0) (kept : Kept) → IsGrown P kept → KeepsMaps P kept
maps_are_accepted P kept grown =
    let all = all_back (IsCommit P) grown.early (commits_of kept) grown.each in
    record {
      last = (all_among (IsCommit P) (commits_of kept) kept.last all (among_back kept.last kept.older (kept.last ∷ []) (inl refl))).passes;
      older = All-from_recursion (λ (c : Commit). P c.tree) kept.older (passes kept.older (kept.last ∷ []) all);
      target = target kept.pending grown.run;
      waiting = waiting kept.scheduled grown.waits;
    }
  where
    passes : (xs ys : List Commit) → AllByRecursion (IsCommit P) (xs ++ ys) → AllByRecursion (λ (c : Commit). P c.tree) xs
    passes [] ys each = tt
    passes (x ∷ xs) ys each = (each.0.passes, passes xs ys each.1)

    target : (pending : Option Unconfirmed) → IfSome pending (IsRunAmong (grown.early ++ commits_of kept) kept) → IfSome pending (λ run. P run.target.tree)
    target None run = tt
    target (Some run) is = (all_among (IsCommit P) (grown.early ++ commits_of kept) run.target grown.each is.among).passes

    waiting : (scheduled : Option Scheduled) → IfSome scheduled (IsWaiting P kept) → IfSome scheduled (λ (w : Scheduled). P w.tree)
    waiting None is = tt
    waiting (Some w) is = is.is_scheduled.passes

pub read_maps_are_accepted : (P : Statements → Type 0) (rs : List Record) (kept : Kept) → ReadsAs P rs kept → KeepsMaps P kept
read_maps_are_accepted P rs kept reads = maps_are_accepted P kept (reads_grown P rs kept reads)

-- a scheduled commit waits as its last entry
pub read_waits : (P : Statements → Type 0) (rs : List Record) (kept : Kept) → ReadsAs P rs kept → IfSome kept.scheduled (IsWaiting P kept)
read_waits P rs kept reads = (reads_grown P rs kept reads).waits

-- its commits are numbered from 1, and an unconfirmed run has room for its revert
pub read_is_numbered : (P : Statements → Type 0) (rs : List Record) (kept : Kept) → ReadsAs P rs kept → 1 ≤ kept.last.number
read_is_numbered P rs kept reads =
    let grown = reads_grown P rs kept reads in
    (all_among (IsCommit P) (grown.early ++ commits_of kept) kept.last grown.each (among_back kept.last grown.early (commits_of kept) (among_back kept.last kept.older (kept.last ∷ []) (inl refl)))).number.0

pub read_has_room : (P : Statements → Type 0) (rs : List Record) (kept : Kept) → ReadsAs P rs kept → IsSome kept.pending → kept.count ≤ MAX_ENTRIES
read_has_room P rs kept reads some = by kept.pending some (reads_grown P rs kept reads).run
  where
    by : (pending : Option Unconfirmed) → IsSome pending → IfSome pending (IsRunAmong ((reads_grown P rs kept reads).early ++ commits_of kept) kept) → kept.count ≤ MAX_ENTRIES
    by None some run = absurd (cc)
    by (Some r) some run = run.room

-- records of which a further one breaks a rule aren't read
bad_not_through : (P : Statements → Type 0) (new : Bool) (k : Kept) (good : List Placed) (here : Kept) (bad : Placed) (rest : List Placed) (m : Kept) → GoesThrough P new k (records_of good) here
    → ((next : Kept) → GoesOn P (new_after new (records_of good)) here (record_of bad) next → ⊥) → GoesThrough P new k (records_of (good ++ bad ∷ rest)) m → ⊥
bad_not_through P new k [] here bad rest m reads broken all = broken all.0 (subst (λ x. GoesOn P new x (record_of bad) all.0) reads all.1)
bad_not_through P new k (p ∷ good) here bad rest m reads broken all =
    let next = new_after new (record_of p ∷ []) in
    bad_not_through P next reads.0 good here bad rest m reads.2 broken
    (subst (λ x. GoesThrough P next x (records_of (good ++ bad ∷ rest)) m) (one_more P new k (record_of p) all.0 reads.0 all.1 reads.1) all.2)

-- and neither are those with which no list begins
pub badly_not_begun : (P : Statements → Type 0) (p : Placed) (ps : List Placed) (offset : ℕ) (front rest : List Record) (kept : Kept) → BeginsBadly P p ps offset → records_of (p ∷ ps) ≡ front ++ rest → Begins P front kept → ⊥
badly_not_begun P p ps offset front rest kept (inl keep) cut begins = bad_not_begun P p ps offset front rest kept keep.0 keep.1 cut begins
badly_not_begun P p ps offset front rest kept (inr bad) cut (inl one) =
    let row : record_of p ∷ records_of ps ≡ one.0 ∷ rest = cut ∙ ap (λ (l : List Record). l ++ rest) one.1 in
    bad.2 kept (subst (λ r. Opens P r kept) (sym (first_of_row (record_of p) one.0 (records_of ps) rest row)) one.2)
badly_not_begun P p ps offset front rest kept (inr bad) cut (inr restores) =
    let row : record_of p ∷ records_of ps ≡ keep_record (keep_form kept) ∷ restores.commits ++ rest = cut ∙ ap (λ (l : List Record). l ++ rest) restores.is in
    bad.0 (ap (λ (r : Record). r.kind) (first_of_row (record_of p) (keep_record (keep_form kept)) (records_of ps) (restores.commits ++ rest) row))

records_append : (ps qs : List Placed) → records_of (ps ++ qs) ≡ records_of ps ++ records_of qs
records_append ps qs = map-append record_of ps qs

-- nor those of which one after their beginning breaks a rule
not_behind : (P : Statements → Type 0) (placed : List Placed) (offset : ℕ) (m : Kept) → IsBadBehind P placed offset → ReadsAs P (records_of placed) m → ⊥
not_behind P placed offset m bad reads =
    let begun = bad.begun in
    let row : records_of begun.front ++ records_of bad.rest ≡ reads.front ++ reads.rest =
    sym (records_append begun.front bad.rest) ∙ ap records_of (sym begun.cut) ∙ reads.cut in
    let same = one_begin P (records_of begun.front) reads.front (records_of bad.rest) reads.rest bad.first reads.first row begun.begins reads.begins in
    let through : GoesThrough P bad.new bad.first (records_of bad.rest) m =
    subst (λ (b : Bool). GoesThrough P b bad.first (records_of bad.rest) m) (sym begun.newness)
    (after_begin P (records_of begun.front) reads.front (records_of bad.rest) reads.rest bad.first reads.first m same reads.reads) in
    bad_not_through P bad.new bad.first bad.bad.good bad.bad.here bad.bad.bad bad.bad.rest m bad.bad.reads bad.bad.broken
    (subst (λ l. GoesThrough P bad.new bad.first (records_of l) m) bad.bad.cut through)

pub not_read : (P : Statements → Type 0) (ps : List Placed) (offset : ℕ) (m : Kept) → IsUnread P ps offset → ReadsAs P (records_of ps) m → ⊥
not_read P [] offset m unread reads = none_begins P reads.front reads.rest reads.first reads.cut reads.begins
  where
    none_begins : (P : Statements → Type 0) (front rest : List Record) (k : Kept) → [] ≡ front ++ rest → Begins P front k → ⊥
    none_begins P front rest k cut (inl one) = let e : [] ≡ one.0 ∷ rest = cut ∙ ap (λ (l : List Record). l ++ rest) one.1 in cc
    none_begins P front rest k cut (inr restores) = let e : [] ≡ keep_record (keep_form k) ∷ restores.commits ++ rest = cut ∙ ap (λ (l : List Record). l ++ rest) restores.is in cc
not_read P (p ∷ ps) offset m (inl badly) reads = badly_not_begun P p ps offset reads.front reads.rest reads.first badly reads.cut reads.begins
not_read P (p ∷ ps) offset m (inr behind) reads = not_behind P (p ∷ ps) offset m behind reads

-- the first record that breaks a rule is one
abbrev first_placed : Placed → List Placed → Placed
first_placed p [] = p
first_placed p (q ∷ ps) = q

abbrev rest_placed : List Placed → List Placed
rest_placed [] = []
rest_placed (p ∷ ps) = ps

one_bad : (P : Statements → Type 0) (new : Bool) (before : Kept) (good good' : List Placed) (bad bad' : Placed) (rest rest' : List Placed) (here here' : Kept) → good ++ bad ∷ rest ≡ good' ++ bad' ∷ rest'
    → GoesThrough P new before (records_of good) here → ((next : Kept) → GoesOn P (new_after new (records_of good)) here (record_of bad) next → ⊥) → GoesThrough P new before (records_of good') here'
    → ((next : Kept) → GoesOn P (new_after new (records_of good')) here' (record_of bad') next → ⊥) → bad ≡ bad'
one_bad P new before [] [] bad bad' rest rest' here here' same reads broken reads' broken' = ap (first_placed bad) same
one_bad P new before [] (q ∷ good') bad bad' rest rest' here here' same reads broken reads' broken' =
    let is : q ≡ bad = ap (first_placed bad) (sym same) in
    let next : GoesOn P new here (record_of bad) reads'.0 = subst (λ (p : Placed). GoesOn P new here (record_of p) reads'.0) is (subst (λ (k : Kept). GoesOn P new k (record_of q) reads'.0) reads reads'.1) in
    absurd (broken reads'.0 next)
one_bad P new before (p ∷ good) [] bad bad' rest rest' here here' same reads broken reads' broken' =
    let is : p ≡ bad' = ap (first_placed bad) same in
    let next : GoesOn P new here' (record_of bad') reads.0 = subst (λ (q : Placed). GoesOn P new here' (record_of q) reads.0) is (subst (λ (k : Kept). GoesOn P new k (record_of p) reads.0) reads' reads.1) in
    absurd (broken' reads.0 next)
one_bad P new before (p ∷ good) (q ∷ good') bad bad' rest rest' here here' same reads broken reads' broken' =
    let is : q ≡ p = ap (first_placed p) (sym same) in
    let one : reads'.0 ≡ reads.0 = one_more P new before (record_of p) reads'.0 reads.0 (subst (λ (x : Placed). GoesOn P new before (record_of x) reads'.0) is reads'.1) reads.1 in
    let next = new_after new (record_of p ∷ []) in
    one_bad P next reads.0 good good' bad bad' rest rest' here here' (ap rest_placed same) reads.2 broken
    (subst (λ (k : Kept). GoesThrough P next k (records_of good') here') one (subst (λ (x : Placed). GoesThrough P (new_after new (record_of x ∷ [])) reads'.0 (records_of good') here') is reads'.2))
    (subst (λ (x : Placed). (k : Kept) → GoesOn P (new_after new (record_of x ∷ records_of good')) here' (record_of bad') k → ⊥) is broken')

one_behind : (P : Statements → Type 0) (placed : List Placed) (m n : ℕ) → IsBadBehind P placed m → IsBadBehind P placed n → m ≡ n
one_behind P placed m n one two =
    let cut : one.begun.front ++ one.rest ≡ two.begun.front ++ two.rest = sym one.begun.cut ∙ two.begun.cut in
    let row : records_of one.begun.front ++ records_of one.rest ≡ records_of two.begun.front ++ records_of two.rest =
    sym (records_append one.begun.front one.rest) ∙ ap records_of cut ∙ records_append two.begun.front two.rest in
    let same = one_begin P (records_of one.begun.front) (records_of two.begun.front) (records_of one.rest) (records_of two.rest) one.first two.first row one.begun.begins two.begun.begins in
    let ends : length one.rest ≡ length two.rest = omega (arith, ap length same.rests, length-map one.rest record_of, length-map two.rest record_of) in
    let rests : one.rest ≡ two.rest = same_ends one.begun.front two.begun.front one.rest two.rest ends cut in
    let news : two.new ≡ one.new = two.begun.newness ∙ ap (new_after false) (sym same.fronts) ∙ sym one.begun.newness in
    let bad : IsFirstBad P one.new one.first one.rest n =
    subst (λ (k : Kept). IsFirstBad P one.new k one.rest n) (sym same.kept)
    (subst (λ (l : List Placed). IsFirstBad P one.new two.first l n) (sym rests) (subst (λ (b : Bool). IsFirstBad P b two.first two.rest n) news two.bad)) in
    one.bad.place ∙ ap (λ (b : Placed). b.offset)
    (one_bad P one.new one.first one.bad.good bad.good one.bad.bad bad.bad one.bad.rest bad.rest one.bad.here bad.here (sym one.bad.cut ∙ bad.cut) one.bad.reads one.bad.broken bad.reads bad.broken)
    ∙ sym bad.place
  where
    same_ends : (xs ys r s : List Placed) → length r ≡ length s → xs ++ r ≡ ys ++ s → r ≡ s
    same_ends [] [] r s size is = is
    same_ends [] (y ∷ ys) r s size is = absurd (let e = ap length is in omega (arith, e, size, length-append ys s))
    same_ends (x ∷ xs) [] r s size is = absurd (let e = ap length is in omega (arith, e, size, length-append xs r))
    same_ends (x ∷ xs) (y ∷ ys) r s size is = same_ends xs ys r s size (ap rest_placed is)

one_badly : (P : Statements → Type 0) (p : Placed) (ps : List Placed) (m n : ℕ) → BeginsBadly P p ps m → BeginsBadly P p ps n → m ≡ n
one_badly P p ps m n (inl one) (inl two) = one_bad_checkpoint P p ps m n one.1 two.1
one_badly P p ps m n (inl one) (inr two) = absurd (two.0 one.0)
one_badly P p ps m n (inr one) (inl two) = absurd (one.0 two.0)
one_badly P p ps m n (inr one) (inr two) = one.1 ∙ sym two.1

not_begun : (P : Statements → Type 0) (p : Placed) (ps : List Placed) (m n : ℕ) → BeginsBadly P p ps m → IsBadBehind P (p ∷ ps) n → ⊥
not_begun P p ps m n badly behind =
    badly_not_begun P p ps m (records_of behind.begun.front) (records_of behind.rest) behind.first badly (ap records_of behind.begun.cut ∙ records_append behind.begun.front behind.rest) behind.begun.begins

pub one_unread : (P : Statements → Type 0) (placed : List Placed) (m n : ℕ) → IsUnread P placed m → IsUnread P placed n → m ≡ n
one_unread P [] m n one two = one ∙ sym two
one_unread P (p ∷ ps) m n (inl one) (inl two) = one_badly P p ps m n one two
one_unread P (p ∷ ps) m n (inl one) (inr two) = absurd (not_begun P p ps m n one two)
one_unread P (p ∷ ps) m n (inr one) (inl two) = absurd (not_begun P p ps n m two one)
one_unread P (p ∷ ps) m n (inr one) (inr two) = one_behind P (p ∷ ps) m n one two

-- how a journal's records are begun, and read after that
pub begun_alone : (P : Statements → Type 0) (p : Placed) (ps : List Placed) (kept : Kept) → Opens P (record_of p) kept → (new : Bool) → new ≡ new_after false (record_of p ∷ []) → IsBegun P (p ∷ ps) kept new ps
begun_alone P p ps kept opens new is = record { front = p ∷ []; cut = refl; begins = inl (record_of p, refl, opens); newness = is }

pub read_whole : (P : Statements → Type 0) (placed rest : List Placed) (first last : Kept) (new : Bool) → IsBegun P placed first new rest → GoesThrough P new first (records_of rest) last → ReadsAs P (records_of placed) last
read_whole P placed rest first last new begun reads = record {
  front = records_of begun.front;
  rest = records_of rest;
  cut = ap records_of begun.cut ∙ records_append begun.front rest;
  first = first;
  begins = begun.begins;
  reads = subst (λ (b : Bool). GoesThrough P b first (records_of rest) last) begun.newness reads;
}

pub unread_behind : (P : Statements → Type 0) (p : Placed) (ps rest : List Placed) (first : Kept) (new : Bool) (offset : ℕ) → IsBegun P (p ∷ ps) first new rest → IsFirstBad P new first rest offset
    → IsUnread P (p ∷ ps) offset
unread_behind P p ps rest first new offset begun bad = inr (record { first = first; new = new; rest = rest; begun = begun; bad = bad })
