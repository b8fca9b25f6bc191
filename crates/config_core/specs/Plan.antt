-- What a prepared step holds: whose it is, at which moment, what it does where it is done, and the reply.
use Rattle.std.specs.Prelude.{ℕ, Option, Some, None, IfSome}
use Rattle.cfg_tree.specs.Full.{Expansion, IsWithin}
use Rattle.commit_ledger.specs.declared.entry.Entry.{Entry}
use Rattle.commit_ledger.specs.Kept.{BringsMap}
use Rattle.config_core.specs.declared.effect.Appending.{Appending}
use Rattle.config_core.specs.declared.effect.Effect.{Effect}
use Rattle.config_core.specs.declared.effect.Effect.TheVariants.{Append}
use Rattle.config_core.specs.declared.reply.Reply.{Reply}
use Rattle.config_core.specs.State.{Made}
use Rattle.group_expand.specs.Expansion.{IsExpansion}

pub record PreparedView : Type 0 where
  pub caller : ℕ
  pub moment : ℕ
  pub effect : Effect
  pub reply : Reply

-- the entry that is to be appended
abbrev pub made_of : Appending → Made
made_of a = record { entry = a.ready.entry; maker = a.maker }

-- the entry that a plan makes
abbrev pub made_in : Effect → Option Made
made_in (Append a) = Some (made_of a)
made_in effect = None

-- an expansion of the configuration that an entry brings, with no more paths than it may have
abbrev pub Expands : Expansion → Entry → Type 0
Expands full entry = BringsMap (λ m. IsExpansion m full × IsWithin full) entry

-- the same of the entry that a plan makes
abbrev pub ExpandsMade : Effect → Expansion → Type 0
ExpandsMade effect full = IfSome (made_in effect) (λ made. Expands full made.entry)
