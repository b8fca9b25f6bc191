-- A list whose commits are written as formerly is read as the same value.
use Rattle.std.proofs.Common.{◌≡◌, ◌==◌, ◌||◌, inl, inr, Bool, true, false, List, [], ◌∷◌, ◌++◌, map, refl, sym, ◌∙◌, ap, subst, if◌then◌else◌}
use Rattle.std.specs.Prelude.{Option, None, is_some}
use Rattle.std.specs.List.{AllByRecursion}
use Rattle.std.proofs.lemmas.List.{map-append}
use Rattle.cfg_tree.specs.Statements.{Statements}
use Rattle.record_code.specs.Record.{Record}
use Rattle.commit_ledger.specs.declared.entry.Commit.{Commit}
use Rattle.commit_ledger.specs.declared.entry.Entry.{Entry}
use Rattle.commit_ledger.specs.declared.entry.Entry.TheVariants.{Commit as CommitOf, Confirm as ConfirmOf, Scheduled as ScheduledOf, Cleared as ClearedOf}
use Rattle.commit_ledger.specs.declared.entry.Scheduled.{Scheduled}
use Rattle.commit_ledger.specs.Kept.{Kept, append_entry}
use Rattle.commit_ledger.specs.Payload.{former_record}
use Rattle.commit_ledger.specs.Rules.{IsCommit, IsRecordOf, IsWritten, new_after}
use Rattle.commit_ledger.specs.Checkpoint.{AreWritten, listed}
use Rattle.commit_ledger.specs.Reading.{Begins, GoesThrough, ReadsAs}
use Rattle.commit_ledger.specs.Former.{former, HasFirstMap, HaveFirstMaps}

-- no record is of the kind that is written now
not_new : (r : Record) → ((former r).kind == 4) ≡ false
not_new r = by_test (r.kind == 4) refl
  where
    by_test : (b : Bool) → (r.kind == 4) ≡ b → ((if b then (record r { kind = 1 }) else r).kind == 4) ≡ false
    by_test true is = refl
    by_test false is = is

still_old : (rs : List Record) → new_after false (map former rs) ≡ false
still_old [] = refl
still_old (r ∷ rs) = ap (λ (b : Bool). new_after b (map former rs)) (not_new r) ∙ still_old rs

-- the record of a commit, as it was written formerly
former_is : (new : Bool) (r : Record) (c : Commit) → IsWritten new r (CommitOf c) → former r ≡ former_record c
former_is new r c (inl is) = ap former is
former_is new r c (inr old) = ap former old.is

was_written : (P : Statements → Type 0) (new : Bool) (r : Record) (e : Entry) → HasFirstMap P r → IsRecordOf P new r e → IsRecordOf P false (former r) e
was_written P new r (CommitOf c) has is =
    record { is = inr (record { is = former_is new r c is.is; before = refl; first = has.first new c is }); is_entry = is.is_entry }
was_written P new r (ConfirmOf c) has is = record { is = ap former is.is; is_entry = is.is_entry }
was_written P new r (ScheduledOf w) has is = record { is = ap former is.is; is_entry = is.is_entry }
was_written P new r (ClearedOf c) has is = record { is = ap former is.is; is_entry = is.is_entry }

-- and none is scheduled behind it
none_waits : (P : Statements → Type 0) (new : Bool) (r : Record) (e : Entry) (k : Kept) → HasFirstMap P r → IsRecordOf P new r e → k.scheduled ≡ None → (append_entry k e).scheduled ≡ None
none_waits P new r (CommitOf c) k has is none = refl
none_waits P new r (ConfirmOf c) k has is none = none
none_waits P new r (ScheduledOf w) k has is none = absurd (has.unscheduled (ap (λ (x : Record). x.kind) is.is))
none_waits P new r (ClearedOf c) k has is none = refl

were_written : (P : Statements → Type 0) (new : Bool) (rs : List Record) (cs : List Commit) → HaveFirstMaps P rs → AllByRecursion (IsCommit P) cs → AreWritten new rs cs → AreWritten false (map former rs) cs
were_written P new [] [] first each are = tt
were_written P new [] (c ∷ cs) first each are = absurd are
were_written P new (r ∷ rs) [] first each are = absurd are
were_written P new (r ∷ rs) (c ∷ cs) first each are = (
  (was_written P new r (CommitOf c) first.0 (record { is = are.0; is_entry = each.0 })).is,
  subst (λ (b : Bool). AreWritten b (map former rs) cs) (sym (still_old (r ∷ []))) (were_written P (new_after new (r ∷ [])) rs cs first.1 each.1 are.1),
)

goes_former : (P : Statements → Type 0) (new : Bool) (k : Kept) (rs : List Record) (last : Kept) → HaveFirstMaps P rs → k.scheduled ≡ None → GoesThrough P new k rs last → GoesThrough P false k (map former rs) last
goes_former P new k [] last first none goes = goes
goes_former P new k (r ∷ rs) last first none goes = (
  goes.0,
  record {
    entry = goes.1.entry;
    is_record = subst (λ (o : Option Scheduled). IsRecordOf P (is_some o) (former r) goes.1.entry) (sym none) (was_written P (new || is_some k.scheduled) r goes.1.entry first.0 goes.1.is_record);
    follows = goes.1.follows;
    is = goes.1.is;
  },
  subst (λ (b : Bool). GoesThrough P b goes.0 (map former rs) last) (sym (still_old (r ∷ [])))
      (goes_former P (new_after new (r ∷ [])) goes.0 rs last first.1
      (ap (λ (x : Kept). x.scheduled) goes.1.is ∙ none_waits P (new || is_some k.scheduled) r goes.1.entry k first.0 goes.1.is_record none) goes.2),
)

begins_former : (P : Statements → Type 0) (front : List Record) (k : Kept) → HaveFirstMaps P front → Begins P front k → Begins P (map former front) k
begins_former P front k first (inl one) =
    let own = subst (HaveFirstMaps P) one.1 first in
    inl (
      former one.0,
      ap (map former) one.1,
      record {
        entry = one.2.entry;
        is_record = was_written P false one.0 one.2.entry own.0 one.2.is_record;
        commit = one.2.commit;
        first = one.2.first;
        is = one.2.is;
      },
    )
begins_former P front k first (inr restores) =
    let own = subst (HaveFirstMaps P) restores.is first in
    inr (record {
      commits = map former restores.commits;
      is = ap (map former) restores.is;
      are = were_written P false restores.commits (listed k) own.1 restores.rules.each restores.are;
      rules = restores.rules;
      moment = restores.moment;
    })

-- where a list begins no commit is scheduled
none_waits_first : (P : Statements → Type 0) (front : List Record) (k : Kept) → Begins P front k → k.scheduled ≡ None
none_waits_first P front k (inl one) = ap (λ (x : Kept). x.scheduled) one.2.is
none_waits_first P front k (inr restores) = restores.rules.unscheduled

first_front : (P : Statements → Type 0) (xs ys : List Record) → HaveFirstMaps P (xs ++ ys) → HaveFirstMaps P xs × HaveFirstMaps P ys
first_front P [] ys each = (tt, each)
first_front P (x ∷ xs) ys each = let more = first_front P xs ys each.1 in ((each.0, more.0), more.1)

pub former_is_read : (P : Statements → Type 0) (rs : List Record) (kept : Kept) → ReadsAs P rs kept → HaveFirstMaps P rs → ReadsAs P (map former rs) kept
former_is_read P rs kept reads first =
    let parts = first_front P reads.front reads.rest (subst (HaveFirstMaps P) reads.cut first) in
    record {
      front = map former reads.front;
      rest = map former reads.rest;
      cut = ap (map former) reads.cut ∙ map-append former reads.front reads.rest;
      first = reads.first;
      begins = begins_former P reads.front reads.first parts.0 reads.begins;
      reads = subst (λ (b : Bool). GoesThrough P b reads.first (map former reads.rest) kept) (sym (still_old reads.front))
          (goes_former P (new_after false reads.front) reads.first reads.rest kept parts.1 (none_waits_first P reads.front reads.first reads.begins) reads.reads);
    }
