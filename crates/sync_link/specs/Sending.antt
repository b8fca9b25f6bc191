-- What a master sends its backup. This project's own.
use Rattle.std.specs.Prelude.{◌-◌, ◌==◌, nat_lt, max, ℕ, List, Option, None, Some, slice_get, if◌then◌else◌}
use Rattle.std.specs.Option.{option_map}
use Rattle.commit_ledger.specs.declared.entry.Entry.{Entry}
use Rattle.commit_ledger.specs.Kept.{Kept}
use Rattle.sync_link.specs.declared.master.Master.{Master}
use Rattle.sync_link.specs.declared.message.Message.{Message}
use Rattle.sync_link.specs.declared.message.Message.TheVariants.{Ask, Offer, Whole}

-- the greater of two counts, of which the first may not be known
abbrev pub greater : Option ℕ → ℕ → ℕ
greater None count = count
greater (Some told) count = max told count

-- what a master sends: a question where it was told nothing, nothing where the backup has all, the whole list where entries from the
-- backup's count on can't be offered, else the entry behind the backup's last one
abbrev pub next_by : Option ℕ → ℕ → Kept → List Entry → Option Message
next_by None opened ledger since = Some Ask
next_by (Some told) opened ledger since =
    if told == ledger.count then None
    else (if nat_lt told opened then Some (Whole ledger) else option_map (λ entry. Offer told entry) (slice_get since (told - opened)))

abbrev pub next_of : Master → Kept → List Entry → Option Message
next_of m ledger since = next_by m.told m.opened ledger since
