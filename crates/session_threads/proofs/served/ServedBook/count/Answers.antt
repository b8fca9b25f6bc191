use Rattle.std.proofs.Common.{◌≡◌, ◌+◌, length, arith, subst}
use Rattle.session_threads.specs.Noted.{merged}
use Rattle.session_threads.specs.Served.{ServedView}
use Rattle.session_threads.proofs.NotedLemmas.{length-merged}
use Rattle.session_threads.proofs.served.ServedBook.count.Goals as goal

pub returns : goal.returns
returns g c =
    let events = c.self.inside.database.events in
    let notes = c.self.inside.notes.items in
    let many : c.count.result + c.len.result ≡ length (merged 0 events notes) =
    omega (arith, length-merged events notes, c.count.ensures.count, c.len.ensures, c.self.inside.notes.ok.0) in
    subst (λ (s : ServedView). c.count.result + c.len.result ≡ length (merged 0 s.database.events s.notes)) c.self.view_is many
