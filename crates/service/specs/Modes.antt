-- The runs that serve no session, by their mode. This project's own.
use Rattle.std.specs.Prelude.{◌≡◌, ◌⊎◌, ℕ, List, [], ◌∷◌}
use Rattle.cfg_values.specs.Number.{IsNumberWithin}
use Rattle.command_line.specs.declared.asked.Asked.{Asked}
use Rattle.command_line.specs.declared.asked.RunMode.{RunMode}
use Rattle.command_line.specs.declared.asked.RunMode.TheVariants.{Init, Serve, Check, Gen}
use Rattle.disk_model.specs.Pair.{DiskPair}
use Rattle.io_edge.specs.Ends.{SinkView}
use Rattle.modes.specs.declared.did.StartWhy0.TheVariants.{None as NoWhy}
use Rattle.modes.specs.Modes.{IsCheck, IsInit, IsTold}
use Rattle.session_history.specs.declared.history.History.{History}
use Rattle.session_shell.specs.declared.end.End.{End}
use Rattle.service.specs.Generating.{IsGenerated}
use Rattle.service.specs.Run.{IsEmpty}
use Rattle.service.specs.World.{Told, Views, World}

-- mode gen: the configuration was made, and that is reported; or memory ran out, and nothing happened
abbrev pub IsGen : Type 0 → ℕ → List (List ℕ) → SinkView → SinkView → ℕ → History → Type 0
IsGen Untouched number users old new status history =
    ((status ≡ 9) × Untouched × IsEmpty history)
    ⊎ ((text : List ℕ) × IsGenerated number users history text × IsTold text old new status)

-- what resulted from a mode, of the one sink and the two disks; `Untouched` says that the sink wasn't called
abbrev pub RunsIn : Type 0 → RunMode → Asked → SinkView → SinkView → DiskPair → DiskPair → Told → Type 0
RunsIn Untouched Init asked old new before after told =
    IsInit Untouched old new before after told.status told.why × IsEmpty told.history
RunsIn Untouched Check asked old new before after told =
    IsCheck Untouched old new before after told.status told.why × IsEmpty told.history
RunsIn Untouched Gen asked old new before after told =
    (number : ℕ) → IsNumberWithin 1 3000 asked.place number
    → IsGen Untouched number asked.users old new told.status told.history
RunsIn Untouched Serve asked old new before after told = ⊥

-- of an end the sink alone was called
abbrev pub IsSinkAlone : {S K C : Type 0} → End S K C → End S K C → Type 0
IsSinkAlone old new = new ≡ record old { sink = new.sink }

-- a run of a mode that serves no session: there is one end, of which the sink alone was called; the ticker isn't asked, and mode
-- gen calls no disk
pub record RunsMode {E T D : Type 0} (see : Views E T D) (SinkAlone : E → E → Type 0) (asked : Asked)
    (before after : World E T D) (told : Told) : Type 0 where
  pub old : E
  pub new : E
  pub one : before.ends ≡ old ∷ []
  pub one_now : after.ends ≡ new ∷ []
  pub alone : SinkAlone old new
  pub ticker_same : after.ticker ≡ before.ticker
  pub disks_same : asked.mode ≡ Gen → (after.a ≡ before.a) × (after.b ≡ before.b) × (told.why ≡ NoWhy)
  pub no_turns : told.turns ≡ []
  pub ran : RunsIn (new ≡ old) asked.mode asked (see.end old).sink (see.end new).sink (see.disks before.a before.b)
      (see.disks after.a after.b) told
