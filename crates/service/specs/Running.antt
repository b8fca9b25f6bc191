-- What a run comes to, by what its words ask. This project's own.
use Rattle.std.specs.Prelude.{◌≡◌, ◌≢◌, ◌⊎◌, ◌↔◌, ℕ, List, Option, None, Some}
use Rattle.cfg_base.specs.Counts.{Rose}
use Rattle.command_line.specs.Asked.{Asks}
use Rattle.command_line.specs.declared.asked.Asked.{Asked}
use Rattle.command_line.specs.declared.asked.RunMode.{RunMode}
use Rattle.command_line.specs.declared.asked.RunMode.TheVariants.{Init, Serve, Check, Gen}
use Rattle.session_threads.specs.Adding.{unready_in}
use Rattle.service.specs.Modes.{RunsMode}
use Rattle.service.specs.Run.{WordsAsk, EachEnd, IsAsking, IsFaultless, IsUsageRefused, IsUndone}
use Rattle.service.specs.Serving.{HasDisksFor, HaveNoFault, IsNotStarted, IsServed}
use Rattle.service.specs.World.{Told, Views, World}

-- mode serve: the start was refused, or the sessions were served
abbrev pub IsServeRun : {E T D : Type 0} → Views E T D → Asked → World E T D → World E T D → Told → Type 0
IsServeRun see asked before after told = IsNotStarted see before after told ⊎ IsServed see asked before after told

-- by the mode
abbrev pub RanIn : {E T D : Type 0} → Views E T D → (E → E → Type 0) → RunMode → Asked → World E T D → World E T D → Told → Type 0
RanIn see SinkAlone Serve asked before after told = IsServeRun see asked before after told
RanIn see SinkAlone Init asked before after told = RunsMode see SinkAlone asked before after told
RanIn see SinkAlone Check asked before after told = RunsMode see SinkAlone asked before after told
RanIn see SinkAlone Gen asked before after told = RunsMode see SinkAlone asked before after told

-- what a run came to: words that ask nothing are refused; else memory ran out before anything was done, or the mode ran
abbrev pub Ran : {E T D : Type 0} → Views E T D → (E → E → Type 0) → Option Asked → World E T D → World E T D → Told → Type 0
Ran see SinkAlone None before after told = IsUsageRefused before after told
Ran see SinkAlone (Some asked) before after told =
    IsUndone before after told ⊎ RanIn see SinkAlone asked.mode asked before after told

-- what a run of these words comes to
pub record IsRunOf {E T D : Type 0} (see : Views E T D) (SinkAlone : E → E → Type 0) (words : List (List ℕ))
    (before after : World E T D) (told : Told) : Type 0 where
  -- what the words ask, and what it came to; `WordsAsk words None` says that they ask nothing
  pub ran : (asked : Option Asked) → WordsAsk words asked → Ran see SinkAlone asked before after told
  pub usage : (told.status ≡ 1) ↔ ((told.status ≢ 9) × (IsAsking words → ⊥))
  -- where the disks spell a list, no disk, no source and no sink has a fault, and each input is told and within the limit, all
  -- sessions end clean, and no turn finds a disk not ready
  pub complete : (asked : Asked) → Asks words asked → asked.mode ≡ Serve
      → HaveNoFault (see.disks before.a before.b) (see.disks after.a after.b)
      → EachEnd (λ old new. IsFaultless asked.limits.input (see.end old) (see.end new)) before.ends after.ends
      → ((told.status ≡ 0) ⊎ (told.status ≡ 9)) × (unready_in told.turns ≡ 0)
  -- in each other mode, where the disks are such as it needs, and no disk and no sink has a fault, what was asked is done
  pub complete_mode : (asked : Asked) → Asks words asked → asked.mode ≢ Serve
      → HasDisksFor asked.mode (see.disks before.a before.b) (see.disks after.a after.b)
      → EachEnd (λ old new. Rose (see.end old).sink.faults (see.end new).sink.faults → ⊥) before.ends after.ends
      → (told.status ≡ 0) ⊎ (told.status ≡ 9)
