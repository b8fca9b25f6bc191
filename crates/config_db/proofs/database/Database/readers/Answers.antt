use Rattle.config_db.proofs.BookLemmas.{book_shown}
use Rattle.config_db.proofs.database.Database.readers.Goals as goal

pub invariant_of-self : goal.invariant_of-self
invariant_of-self g c =
    let i = c.self.inside in (
      book_shown (record { journal = i.journal; opening = i.opening; users = i.users; events = i.events.items; state = i.core; shown = i.shown; readers = i.readers })
          i.shown c.replace.new.dest c.self.invariant.0 c.self.invariant.0.shows,
      c.self.invariant.1,
      c.self.invariant.2,
    )
