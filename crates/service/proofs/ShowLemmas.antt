-- What is shown of a list of commits that is kept is one thing.
use Rattle.std.proofs.Common.{◌≡◌, ℕ, [], refl, ap, None}
use Rattle.cfg_tree.proofs.TopLemmas.{top_is_level}
use Rattle.cfg_tree.specs.Typed.{IsLevelPath}
use Rattle.commands.specs.declared.command.Command.{Command}
use Rattle.commands.specs.declared.command.Command.TheVariants.{Configure, ShowActive, ShowCommits, ClearCommit, Logout, Edit, Up, Top, Exit, ExitAll, Show, Change, Load, Rollback, CheckOnly, Commit, CommitAt, Update, Status}
use Rattle.commit_ledger.specs.Kept.{Kept}
use Rattle.config_core.specs.declared.event.Event.{Event}
use Rattle.config_core.specs.declared.event.Event.TheVariants.{Command as CommandOf}
use Rattle.config_core.specs.declared.event.Outcome.{Outcome}
use Rattle.config_core.specs.declared.event.Outcome.TheVariants.{Done}
use Rattle.config_core.specs.declared.reply.Reply.{Reply}
use Rattle.config_core.specs.Callers.{level_of}
use Rattle.config_core.specs.Machine.{Steps, later}
use Rattle.config_core.specs.Serving.{Turned, answered}
use Rattle.config_core.specs.State.{State, opening_of}
use Rattle.session_threads.specs.History.{ShowsKept}

-- the machine over a list of which nothing is pending and nothing scheduled
abbrev at_rest : Kept → State
at_rest kept = opening_of (record kept { pending = None; scheduled = None }) []

-- a step has one outcome
abbrev pub StepsOnce : Type 0
StepsOnce =
    (s : State) (caller moment : ℕ) (event : Event) (outcome : Outcome) (one other : Turned) → IsLevelPath (level_of s caller)
    → Steps s caller moment event outcome one → Steps s caller moment event outcome other → one ≡ other

module _ (kept : Kept) where
  abbrev says : Reply → Turned
  says reply = answered (later (at_rest kept) 0) reply

  -- it answers a show by what is shown of the list
  answers : (command : Command) (reply : Reply) → ShowsKept kept command reply → Steps (at_rest kept) 1 0 (CommandOf command) Done (says reply)
  answers (ShowActive words form) reply shows = record { done = says reply; serves = record { reply = reply; show = shows; is = refl }; ends = refl }
  answers ShowCommits reply shows = record { done = says reply; serves = record { text = shows.0; listing = shows.2; is = ap (λ r. says r) shows.1 }; ends = refl }
  answers (Configure mode) reply shows = absurd shows
  answers Logout reply shows = absurd shows
  answers (Edit words) reply shows = absurd shows
  answers (Up count) reply shows = absurd shows
  answers Top reply shows = absurd shows
  answers Exit reply shows = absurd shows
  answers ExitAll reply shows = absurd shows
  answers (Show words form) reply shows = absurd shows
  answers (Change op) reply shows = absurd shows
  answers (Load way text) reply shows = absurd shows
  answers (Rollback n) reply shows = absurd shows
  answers CheckOnly reply shows = absurd shows
  answers (Commit minutes comment quit) reply shows = absurd shows
  answers (CommitAt when comment) reply shows = absurd shows
  answers ClearCommit reply shows = absurd shows
  answers Update reply shows = absurd shows
  answers Status reply shows = absurd shows

  -- so it is one thing
  pub shows_once : StepsOnce → (command : Command) (one other : Reply) → ShowsKept kept command one → ShowsKept kept command other → one ≡ other
  shows_once once command one other a b =
      ap (λ (t : Turned). t.reply) (once (at_rest kept) 1 0 (CommandOf command) Done (says one) (says other) (top_is_level [] refl) (answers command one a) (answers command other b))
