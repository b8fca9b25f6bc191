-- The expansion that comes with a commit.
use Rattle.std.proofs.Common.{if◌then◌else◌, ◌≡◌, ℕ, List, Bool, true, false, Option, Some, None, sym, ap, subst}
use Rattle.std.specs.Prelude.{IfSome, nat_lt}
use Rattle.cfg_tree.specs.Statements.{Statements}
use Rattle.cfg_tree.specs.Full.{Expansion, IsWithin}
use Rattle.group_expand.specs.Expansion.{IsExpansion}
use Rattle.commit_ledger.specs.declared.entry.Entry.TheVariants.{Commit as CommitOf}
use Rattle.commit_ledger.specs.declared.limit.TheConstants.{MAX_ENTRIES}
use Rattle.config_core.specs.declared.reply.Refusal.TheVariants.{Exhausted}
use Rattle.config_core.specs.declared.reply.Reply.TheVariants.{Committed}
use Rattle.config_core.specs.Entries.{commit_of, made_by, taken}
use Rattle.config_core.specs.Plan.{PreparedView, Expands, ExpandsMade, made_in}
use Rattle.config_core.specs.Prepared.{turned_by}
use Rattle.config_core.specs.Serving.{Turned, committed, left_if, refused}
use Rattle.config_core.specs.State.{State, Made}

expands_either : (b : Bool) (full : Expansion) (first second : Turned) (one : Option Made) → one ≡ (if b then first else second).made
    → IfSome first.made (λ made. Expands full made.entry) → IfSome second.made (λ made. Expands full made.entry) → IfSome one (λ made. Expands full made.entry)
expands_either true full first second one is given nothing = subst (λ o. IfSome o (λ made. Expands full made.entry)) (sym is) given
expands_either false full first second one is given nothing = subst (λ o. IfSome o (λ made. Expands full made.entry)) (sym is) nothing

-- the expansion of what is committed comes with the commit
pub expands_committed : (s t : State) (caller : ℕ) (m : Statements) (minutes : ℕ) (comment : List ℕ) (quit : Bool) (plan : PreparedView) (full : Expansion)
    → turned_by plan s ≡ committed t caller m minutes comment quit → IsExpansion m full × IsWithin full → ExpandsMade plan.effect full
expands_committed s t caller m minutes comment quit plan full is given =
    let made = made_by caller (CommitOf (commit_of t caller m minutes comment)) in
    expands_either (nat_lt t.kept.count MAX_ENTRIES) full
    (record { state = left_if quit caller (taken t made); reply = Committed minutes quit; made = Some made })
    (refused t Exhausted) (made_in plan.effect) (ap (λ (turned : Turned). turned.made) is) given tt
