-- What stays of the maps that a ledger keeps.
use Rattle.std.proofs.Common.{◌≡◌, ◌≤◌, ◌<◌, ◌==◌, inl, inr, Bool, true, false, if◌then◌else◌, [], ◌∷◌, ◌++◌, Option, Some, None, sym, ◌∙◌, ap}
use Rattle.std.specs.Prelude.{IfSome, IsSome, is_some}
use Rattle.std.proofs.lemmas.List.Elements.{All-drop, All-push}
use Rattle.cfg_tree.specs.Statements.{Statements}
use Rattle.confirm_timer.specs.Deadline.{after_minutes}
use Rattle.commit_ledger.specs.declared.entry.Commit.{Commit}
use Rattle.commit_ledger.specs.declared.entry.Entry.{Entry}
use Rattle.commit_ledger.specs.declared.entry.Entry.TheVariants.{Commit as CommitOf, Confirm as ConfirmOf, Scheduled as ScheduledOf, Cleared as ClearedOf}
use Rattle.commit_ledger.specs.declared.limit.TheConstants.{MAX_ENTRIES}
use Rattle.commit_ledger.specs.Kept.{Kept, Unconfirmed, HasOneWaiting, KeepsMaps, BringsMap, append_entry, target_of, target_in}

-- what a run goes back to is one of the maps that are kept
target_keeps : (P : Statements → Type 0) (pending : Option Unconfirmed) (last : Commit) → P last.tree → IfSome pending (λ run. P run.target.tree) → P (target_in pending last).tree
target_keeps P None last is target = is
target_keeps P (Some run) last is target = target

pub target_is_kept : (P : Statements → Type 0) (kept : Kept) → KeepsMaps P kept → P (target_of kept).tree
target_is_kept P kept keeps = target_keeps P kept.pending kept.last keeps.last keeps.target

run_keeps : (P : Statements → Type 0) (ends : Bool) (run : Unconfirmed) → P run.target.tree → IfSome (if ends then None else Some run) (λ r. P r.target.tree)
run_keeps P true run is = tt
run_keeps P false run is = is

-- one more entry keeps them, where it brings such a map or none
pub keeps_more : (P : Statements → Type 0) (kept : Kept) (entry : Entry) → KeepsMaps P kept → BringsMap P entry → KeepsMaps P (append_entry kept entry)
keeps_more P kept (CommitOf commit) keeps brings = record {
  last = brings;
  older = All-drop (λ c. P c.tree) _ (kept.older ++ kept.last ∷ []) (All-push (λ c. P c.tree) kept.older kept.last keeps.older keeps.last);
  target = run_keeps P (commit.minutes == 0) (record { deadline = after_minutes commit.moment commit.minutes; target = target_of kept }) (target_is_kept P kept keeps);
  waiting = tt;
}
keeps_more P kept (ConfirmOf confirm) keeps brings = record { last = keeps.last; older = keeps.older; target = tt; waiting = keeps.waiting }
keeps_more P kept (ScheduledOf waiting) keeps brings = record { last = keeps.last; older = keeps.older; target = keeps.target; waiting = brings }
keeps_more P kept (ClearedOf cleared) keeps brings = record { last = keeps.last; older = keeps.older; target = keeps.target; waiting = tt }

-- what is None isn't Some
none_some : {A : Type 0} (o : Option A) → o ≡ None → IsSome o → ⊥
none_some {A} o none some = let apart : false ≡ true = ap (λ (p : Option A). is_some p) (sym none) ∙ some in cc

-- a run that waits for its confirmation has room for it, and keeps none, since nothing is scheduled beside it
pub run_has_room : (kept : Kept) → HasOneWaiting kept → (IsSome kept.pending → kept.count ≤ MAX_ENTRIES) → IsSome kept.pending → (kept.count ≤ MAX_ENTRIES) × (IsSome kept.scheduled → kept.count < MAX_ENTRIES)
run_has_room kept (inl no_run) room waits = absurd (none_some kept.pending no_run waits)
run_has_room kept (inr alone) room waits = (room waits, λ some. absurd (none_some kept.scheduled alone some))
