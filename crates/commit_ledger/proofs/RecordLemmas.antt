-- A record is of one entry, and leads to one value.
use Rattle.std.proofs.Common.{◌≡◌, ◌<◌, ◌+◌, ◌==◌, ◌||◌, ◌⊎◌, inl, inr, Bool, false, ℕ, zero, suc, List, [], ◌∷◌, ◌++◌, length, map, take, drop, get_or, refl, sym, ◌∙◌, ap, subst, arith, add-one, if◌then◌else◌}
use Rattle.std.specs.Prelude.{is_some}
use Rattle.std.proofs.lemmas.List.{map-append}
use Rattle.cfg_tree.specs.Statements.{Statements}
use Rattle.record_code.specs.declared.payloads.Placed.{Placed}
use Rattle.record_code.specs.Listed.{record_of, records_of}
use Rattle.record_code.specs.Record.{Record}
use Rattle.commit_ledger.specs.declared.entry.Cleared.{Cleared}
use Rattle.commit_ledger.specs.declared.entry.Commit.{Commit}
use Rattle.commit_ledger.specs.declared.entry.Confirm.{Confirm}
use Rattle.commit_ledger.specs.declared.entry.Entry.{Entry}
use Rattle.commit_ledger.specs.declared.entry.Entry.TheVariants.{Commit as CommitOf, Confirm as ConfirmOf, Scheduled as ScheduledOf, Cleared as ClearedOf}
use Rattle.commit_ledger.specs.declared.entry.Scheduled.{Scheduled}
use Rattle.commit_ledger.specs.Checkpoint.{AreWritten, commit_record}
use Rattle.commit_ledger.specs.Form.{IsCommitOf}
use Rattle.commit_ledger.specs.Kept.{Kept, opened, append_entry}
use Rattle.commit_ledger.specs.Payload.{CommitForm, ConfirmForm, ScheduledForm, commit_bytes, scheduled_bytes, form_of, confirm_form, scheduled_form, cleared_form, kind_of, entry_record}
use Rattle.commit_ledger.specs.Reading.{IsFirstCommit, Opens, GoesOn, GoesThrough, IsFirstBad}
use Rattle.commit_ledger.specs.Rules.{IsCommit, IsScheduled, IsRecordOf, IsWritten, Follows, new_after}
use Rattle.commit_ledger.proofs.FieldLemmas.{one_form, one_confirm, one_scheduled, commit_fits, confirm_fits, scheduled_fits, cleared_fits}
use Rattle.commit_ledger.proofs.TextLemmas.{one_map}

-- a record is of one entry
same_commit : (c d : Commit) → form_of c ≡ form_of d → c.tree ≡ d.tree → c ≡ d
same_commit c d form tree =
    let path : c ≡ d =
    ap (λ (f : CommitForm). record { number = f.number; user = f.user; via = f.via; moment = f.moment; comment = f.comment; tree = c.tree; minutes = f.minutes }) form
    ∙ ap (λ (t : Statements). record { number = d.number; user = d.user; via = d.via; moment = d.moment; comment = d.comment; tree = t; minutes = d.minutes }) tree in
    path

same_confirm : (c d : Confirm) → confirm_form c ≡ confirm_form d → c ≡ d
same_confirm c d is =
    let path : c ≡ d = ap (λ (f : ConfirmForm). record { number = f.number; user = f.user; moment = f.moment }) is in
    path

same_scheduled : (v w : Scheduled) → scheduled_form v ≡ scheduled_form w → v.tree ≡ w.tree → v ≡ w
same_scheduled v w form tree =
    let path : v ≡ w =
    ap (λ (f : ScheduledForm). record { number = f.number; user = f.user; moment = f.moment; at = f.at; comment = f.comment; tree = v.tree }) form
    ∙ ap (λ (t : Statements). record { number = w.number; user = w.user; moment = w.moment; at = w.at; comment = w.comment; tree = t }) tree in
    path

same_cleared : (c d : Cleared) → cleared_form c ≡ cleared_form d → c ≡ d
same_cleared c d is =
    let path : c ≡ d = ap (λ (f : ConfirmForm). record { number = f.number; user = f.user; moment = f.moment }) is in
    path

-- the payload of a commit's record, whichever kind it is of
commit_payload : (new : Bool) (r : Record) (c : Commit) → IsWritten new r (CommitOf c) → r.payload ≡ commit_bytes (form_of c)
commit_payload new r c (inl is) = ap (λ (x : Record). x.payload) is
commit_payload new r c (inr former) = ap (λ (x : Record). x.payload) former.is

pub commit_kind : (new : Bool) (r : Record) (c : Commit) → IsWritten new r (CommitOf c) → (r.kind ≡ 1) ⊎ (r.kind ≡ 4)
commit_kind new r c (inl is) = inr (ap (λ (x : Record). x.kind) is)
commit_kind new r c (inr former) = inl (ap (λ (x : Record). x.kind) former.is)

-- an entry is written as its record
pub written_now : (new : Bool) (entry : Entry) → IsWritten new (entry_record entry) entry
written_now new (CommitOf c) = inl refl
written_now new (ConfirmOf c) = refl
written_now new (ScheduledOf w) = refl
written_now new (ClearedOf c) = refl

one_commit : (P : Statements → Type 0) (c d : Commit) → IsCommit P c → IsCommit P d → commit_bytes (form_of c) ≡ commit_bytes (form_of d) → c ≡ d
one_commit P c d one other same =
    let form : form_of c ≡ form_of d = one_form (form_of c) (form_of d) (commit_fits P c one) (commit_fits P d other) same in
    same_commit c d form (one_map c.tree d.tree one.tree other.tree (ap (λ (f : CommitForm). f.text) form))

pub one_commit_of : (P : Statements → Type 0) (payload : List ℕ) (c d : Commit) → IsCommitOf P payload c → IsCommitOf P payload d → c ≡ d
one_commit_of P payload c d one other = one_commit P c d one.is_commit other.is_commit (sym one.bytes ∙ other.bytes)

one_waiting : (P : Statements → Type 0) (v w : Scheduled) → IsScheduled P v → IsScheduled P w → scheduled_bytes (scheduled_form v) ≡ scheduled_bytes (scheduled_form w) → v ≡ w
one_waiting P v w one other same =
    let form : scheduled_form v ≡ scheduled_form w = one_scheduled (scheduled_form v) (scheduled_form w) (scheduled_fits P v one) (scheduled_fits P w other) same in
    same_scheduled v w form (one_map v.tree w.tree one.tree other.tree (ap (λ (f : ScheduledForm). f.text) form))

-- the kind of an entry's record, where a former commit's counts as that of one as it is written now
abbrev kind_now : ℕ → ℕ
kind_now kind = if kind == 1 then 4 else kind

kind_is : (new : Bool) (r : Record) (e : Entry) → IsWritten new r e → kind_now r.kind ≡ kind_of e
kind_is new r (CommitOf c) (inl is) = ap (λ (x : Record). kind_now x.kind) is
kind_is new r (CommitOf c) (inr former) = ap (λ (x : Record). kind_now x.kind) former.is
kind_is new r (ConfirmOf c) is = ap (λ (x : Record). kind_now x.kind) is
kind_is new r (ScheduledOf w) is = ap (λ (x : Record). kind_now x.kind) is
kind_is new r (ClearedOf c) is = ap (λ (x : Record). kind_now x.kind) is

same_kind : (new : Bool) (r : Record) (e d : Entry) → IsWritten new r e → IsWritten new r d → kind_of e ≡ kind_of d
same_kind new r e d is other = sym (kind_is new r e is) ∙ kind_is new r d other

pub one_entry : (P : Statements → Type 0) (new : Bool) (r : Record) (e d : Entry) → IsRecordOf P new r e → IsRecordOf P new r d → e ≡ d
one_entry P new r e d one other = by e d one other (same_kind new r e d one.is other.is)
  where
    by : (e d : Entry) → IsRecordOf P new r e → IsRecordOf P new r d → kind_of e ≡ kind_of d → e ≡ d
    by (CommitOf c) (CommitOf d) one other kind = ap CommitOf (one_commit P c d one.is_entry other.is_entry (sym (commit_payload new r c one.is) ∙ commit_payload new r d other.is))
    by (CommitOf c) (ConfirmOf d) one other kind = absurd (omega (arith, kind))
    by (CommitOf c) (ScheduledOf w) one other kind = absurd (omega (arith, kind))
    by (CommitOf c) (ClearedOf d) one other kind = absurd (omega (arith, kind))
    by (ConfirmOf c) (CommitOf d) one other kind = absurd (omega (arith, kind))
    by (ConfirmOf c) (ConfirmOf d) one other kind =
        ap ConfirmOf (same_confirm c d (one_confirm (confirm_form c) (confirm_form d) (confirm_fits c one.is_entry) (confirm_fits d other.is_entry) (ap (λ (x : Record). x.payload) (sym one.is ∙ other.is))))
    by (ConfirmOf c) (ScheduledOf w) one other kind = absurd (omega (arith, kind))
    by (ConfirmOf c) (ClearedOf d) one other kind = absurd (omega (arith, kind))
    by (ScheduledOf v) (CommitOf d) one other kind = absurd (omega (arith, kind))
    by (ScheduledOf v) (ConfirmOf d) one other kind = absurd (omega (arith, kind))
    by (ScheduledOf v) (ScheduledOf w) one other kind = ap ScheduledOf (one_waiting P v w one.is_entry other.is_entry (ap (λ (x : Record). x.payload) (sym one.is ∙ other.is)))
    by (ScheduledOf v) (ClearedOf d) one other kind = absurd (omega (arith, kind))
    by (ClearedOf c) (CommitOf d) one other kind = absurd (omega (arith, kind))
    by (ClearedOf c) (ConfirmOf d) one other kind = absurd (omega (arith, kind))
    by (ClearedOf c) (ScheduledOf w) one other kind = absurd (omega (arith, kind))
    by (ClearedOf c) (ClearedOf d) one other kind =
        ap ClearedOf (same_cleared c d (one_confirm (cleared_form c) (cleared_form d) (cleared_fits c one.is_entry) (cleared_fits d other.is_entry) (ap (λ (x : Record). x.payload) (sym one.is ∙ other.is))))

-- commits are written as their records
pub all_written : (new : Bool) (cs : List Commit) → AreWritten new (map commit_record cs) cs
all_written new [] = tt
all_written new (c ∷ cs) = (inl refl, all_written (new_after new (commit_record c ∷ [])) cs)

-- the mark after records, and after more
pub new_more : (new : Bool) (rs qs : List Record) → new_after new (rs ++ qs) ≡ new_after (new_after new rs) qs
new_more new [] qs = refl
new_more new (r ∷ rs) qs = new_more (new || (r.kind == 4)) rs qs

-- an entry that may not come next isn't taken in
pub not_next : (P : Statements → Type 0) (new : Bool) (kept : Kept) (r : Record) (e : Entry) → IsRecordOf P (new || is_some kept.scheduled) r e → (Follows kept e → ⊥) → (next : Kept) → GoesOn P new kept r next → ⊥
not_next P new kept r e is broken next goes = broken (subst (λ x. Follows kept x) (one_entry P (new || is_some kept.scheduled) r goes.entry e goes.is_record is) goes.follows)

-- a list isn't opened by another entry than a first commit
pub not_first : (P : Statements → Type 0) (r : Record) (e : Entry) → IsRecordOf P false r e → ((c : Commit) → IsFirstCommit e c → ⊥) → (next : Kept) → Opens P r next → ⊥
not_first P r e is broken next opens =
    broken opens.commit (subst (λ x. IsFirstCommit x opens.commit) (one_entry P false r opens.entry e opens.is_record is) opens.first)

abbrev commit_in : Commit → Entry → Commit
commit_in c (CommitOf d) = d
commit_in c (ConfirmOf d) = c
commit_in c (ScheduledOf w) = c
commit_in c (ClearedOf d) = c

pub one_opening : (P : Statements → Type 0) (r : Record) (m n : Kept) → Opens P r m → Opens P r n → m ≡ n
one_opening P r m n one other =
    one.is ∙ ap (λ e. opened (commit_in one.commit e)) (sym one.first.is ∙ one_entry P false r one.entry other.entry one.is_record other.is_record ∙ other.first.is) ∙ sym other.is

pub one_more : (P : Statements → Type 0) (new : Bool) (k : Kept) (r : Record) (m n : Kept) → GoesOn P new k r m → GoesOn P new k r n → m ≡ n
one_more P new k r m n x y = x.is ∙ ap (append_entry k) (one_entry P (new || is_some k.scheduled) r x.entry y.entry x.is_record y.is_record) ∙ sym y.is

-- one more record is read after others
pub goes_push : (P : Statements → Type 0) (new : Bool) (k : Kept) (rs : List Record) (m : Kept) (r : Record) (n : Kept) → GoesThrough P new k rs m → GoesOn P (new_after new rs) m r n
    → GoesThrough P new k (rs ++ r ∷ []) n
goes_push P new k [] m r n so_far goes = (n, subst (λ x. GoesOn P new x r n) (sym so_far) goes, refl)
goes_push P new k (q ∷ rs) m r n so_far goes = (so_far.0, so_far.1, goes_push P (new_after new (q ∷ [])) so_far.0 rs m r n so_far.2 goes)

placed_push : (P : Statements → Type 0) (new : Bool) (k : Kept) (ps : List Placed) (m : Kept) (p : Placed) (n : Kept) → GoesThrough P new k (records_of ps) m
    → GoesOn P (new_after new (records_of ps)) m (record_of p) n → GoesThrough P new k (records_of (ps ++ p ∷ [])) n
placed_push P new k [] m p n so_far goes = (n, subst (λ x. GoesOn P new x (record_of p) n) (sym so_far) goes, refl)
placed_push P new k (q ∷ ps) m p n so_far goes = (so_far.0, so_far.1, placed_push P (new_after new (record_of q ∷ [])) so_far.0 ps m p n so_far.2 goes)

-- a list at one of its places
take_more : (i : ℕ) (ps : List Placed) (p : Placed) → i < length ps → take (suc i) ps ≡ take i ps ++ get_or ps i p ∷ []
take_more i [] p within = absurd (omega (arith, within))
take_more zero (q ∷ ps) p within = refl
take_more (suc i) (q ∷ ps) p within = ap (λ l. q ∷ l) (take_more i ps p (omega (arith, within)))

cut_at : (i : ℕ) (ps : List Placed) (p : Placed) → i < length ps → ps ≡ take i ps ++ get_or ps i p ∷ drop (suc i) ps
cut_at i [] p within = absurd (omega (arith, within))
cut_at zero (q ∷ ps) p within = refl
cut_at (suc i) (q ∷ ps) p within = ap (λ l. q ∷ l) (cut_at i ps p (omega (arith, within)))

next_is : (ps : List Placed) (i : ℕ) (p : Placed) → i < length ps → p ≡ get_or ps i p → take i ps ++ p ∷ [] ≡ take (i + 1) ps
next_is ps i p within is = ap (λ q. take i ps ++ q ∷ []) is ∙ sym (take_more i ps p within) ∙ ap (λ j. take j ps) (sym (add-one i))

pub reads_more : (P : Statements → Type 0) (new : Bool) (k m n : Kept) (ps : List Placed) (i : ℕ) (p : Placed) → i < length ps → p ≡ get_or ps i p → GoesThrough P new k (records_of (take i ps)) m
    → GoesOn P (new_after new (records_of (take i ps))) m (record_of p) n → GoesThrough P new k (records_of (take (i + 1) ps)) n
reads_more P new k m n ps i p within is so_far goes =
    subst (λ l. GoesThrough P new k (records_of l) n) (next_is ps i p within is) (placed_push P new k (take i ps) m p n so_far goes)

-- the mark after one more record
pub new_at : (new : Bool) (ps : List Placed) (i : ℕ) (p : Placed) → i < length ps → p ≡ get_or ps i p → new_after (new_after new (records_of (take i ps))) (record_of p ∷ []) ≡ new_after new (records_of (take (i + 1) ps))
new_at new ps i p within is =
    sym (new_more new (records_of (take i ps)) (record_of p ∷ [])) ∙ ap (new_after new) (sym (map-append record_of (take i ps) (p ∷ [])) ∙ ap records_of (next_is ps i p within is))

pub first_bad : (P : Statements → Type 0) (new : Bool) (k m : Kept) (ps : List Placed) (i : ℕ) (p : Placed) (offset : ℕ) → i < length ps → p ≡ get_or ps i p
    → GoesThrough P new k (records_of (take i ps)) m → offset ≡ p.offset → ((next : Kept) → GoesOn P (new_after new (records_of (take i ps))) m (record_of p) next → ⊥) → IsFirstBad P new k ps offset
first_bad P new k m ps i p offset within is so_far place broken = record {
  good = take i ps;
  bad = p;
  rest = drop (suc i) ps;
  here = m;
  cut = cut_at i ps p within ∙ ap (λ q. take i ps ++ q ∷ drop (suc i) ps) (sym is);
  reads = so_far;
  broken = broken;
  place = place;
}
