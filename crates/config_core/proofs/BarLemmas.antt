-- What a command finds that nothing bars.
use Rattle.std.proofs.Common.{◌≡◌, ◌<◌, ◌≤◌, ℕ, List, Bool, true, false, if◌then◌else◌, refl, nat_lt, Option, None, Some, arith, rules}
use Rattle.std.specs.Prelude.{IsSome}
use Rattle.cfg_base.specs.declared.moment.TheConstants.{MOMENT_MAX}
use Rattle.commands.specs.When.{at_of, IsTime}
use Rattle.commands.specs.declared.command.Command.TheVariants.{Commit as CommitAsked, CommitAt, ClearCommit}
use Rattle.commands.specs.declared.when.When.{When}
use Rattle.commands.specs.declared.when.When.TheVariants.{Today, OnDay}
use Rattle.commit_ledger.specs.declared.entry.Scheduled.{Scheduled}
use Rattle.commit_ledger.specs.Kept.{Unconfirmed}
use Rattle.config_core.specs.declared.reply.Refusal.{Refusal}
use Rattle.config_core.specs.declared.reply.Refusal.TheVariants.{NotLater}
use Rattle.config_core.specs.Access.{bar_to, first_bar, if_scheduled, if_unconfirmed, kept_bar, unless_later, unless_scheduled}
use Rattle.config_core.specs.State.{State}

no_bar : (of_mode : Bool) (user : Option (List ℕ)) (bar : Option Refusal) (modified : Bool) → first_bar of_mode user bar modified ≡ None → bar ≡ None
no_bar false user bar modified is = absurd (cc)
no_bar true (Some user) bar modified is = absurd (cc)
no_bar true None (Some refusal) modified is = absurd (cc)
no_bar true None None modified is = refl

no_scheduled : (scheduled : Option Scheduled) (bar : Option Refusal) → if_scheduled scheduled bar ≡ None → (scheduled ≡ None) × (bar ≡ None)
no_scheduled None bar is = (refl, is)
no_scheduled (Some waiting) bar is = absurd (cc)

no_run : (pending : Option Unconfirmed) (bar : Option Refusal) → if_unconfirmed pending bar ≡ None → (pending ≡ None) × (bar ≡ None)
no_run None bar is = (refl, is)
no_run (Some run) bar is = absurd (cc)

is_below : (n m : ℕ) → nat_lt n m ≡ true → n < m
is_below n m is = search rules

is_later : (at moment : ℕ) → unless_later at moment ≡ None → moment < at
is_later at moment is = go (nat_lt moment at) refl is
  where
    go : (b : Bool) → nat_lt moment at ≡ b → (if b then None else Some (NotLater at moment)) ≡ None → moment < at
    go true below none = is_below moment at below
    go false below none = absurd (cc)

is_scheduled : (scheduled : Option Scheduled) → unless_scheduled scheduled ≡ None → IsSome scheduled
is_scheduled None is = absurd (cc)
is_scheduled (Some waiting) is = refl

-- a commit finds none scheduled
pub commit_alone : (s : State) (caller minutes : ℕ) (comment : List ℕ) (quit : Bool) → bar_to s caller (CommitAsked minutes comment quit) ≡ None
    → s.kept.scheduled ≡ None
commit_alone s caller minutes comment quit is =
    (no_scheduled s.kept.scheduled None (no_bar _ _ (kept_bar (CommitAsked minutes comment quit) s.kept s.greatest) _ is)).0

-- one that is set for a later time finds none scheduled and no run unconfirmed, and its time is after now
pub record IsUnbarred (s : State) (when : When) : Type 0 where
  pub alone : s.kept.scheduled ≡ None
  pub no_run : s.kept.pending ≡ None
  pub later : s.greatest < at_of when s.greatest

pub later_alone : (s : State) (caller : ℕ) (when : When) (comment : List ℕ) → bar_to s caller (CommitAt when comment) ≡ None → IsUnbarred s when
later_alone s caller when comment is =
    let kept = no_scheduled s.kept.scheduled _ (no_bar _ _ (kept_bar (CommitAt when comment) s.kept s.greatest) _ is) in
    let run = no_run s.kept.pending _ kept.1 in
    record { alone = kept.0; no_run = run.0; later = is_later (at_of when s.greatest) s.greatest run.1 }

-- one that is called off is there
pub clear_waits : (s : State) (caller : ℕ) → bar_to s caller ClearCommit ≡ None → IsSome s.kept.scheduled
clear_waits s caller is = is_scheduled s.kept.scheduled (no_bar _ _ (kept_bar ClearCommit s.kept s.greatest) _ is)

-- a time after a moment is before the last moment
pub before_last : (when : When) (moment : ℕ) → IsTime when → moment < at_of when moment → at_of when moment < MOMENT_MAX
before_last (Today second) moment small later = omega (arith, small, later)
before_last (OnDay day second) moment small later = omega (arith, small.0, small.1)
