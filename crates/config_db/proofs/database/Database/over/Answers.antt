use Rattle.std.proofs.Common.{ap, is_some, subst, sym}
use Rattle.config_core.specs.State.{opening_of}
use Rattle.config_db.specs.Appended.{HoldsAdded}
use Rattle.config_db.proofs.BookLemmas.{book_begins}
use Rattle.config_db.proofs.HeldLemmas.{held_begins}
use Rattle.config_db.proofs.database.Database.over.Goals as goal

pub invariant_of-result : goal.invariant_of-result
invariant_of-result g c = (
  book_begins c.args.journal c.args.over.opening c.args.users c.args.over.core c.new.result.items c.args.over.shown c.args.over.readers
      c.requires.held c.requires.starts c.new.ensures.items c.requires.shown,
  λ some. absurd (let none = ap (λ s. is_some s.flight) c.requires.starts in cc),
  subst (HoldsAdded (opening_of c.args.over.opening c.args.users) c.new.result.items c.args.over.core) (sym c.none.ensures)
      (held_begins (opening_of c.args.over.opening c.args.users) c.new.result.items c.args.over.core c.requires.starts c.new.ensures.items),
)
