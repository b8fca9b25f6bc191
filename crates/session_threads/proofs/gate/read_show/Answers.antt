use Rattle.std.proofs.Common.{subst, sym, ◌∙◌}
use Rattle.active_snapshot.specs.Reads.{IsReadOf}
use Rattle.active_snapshot.specs.Views.{IsLast}
use Rattle.commit_ledger.specs.Kept.{Kept}
use Rattle.session_threads.proofs.FoundLemmas.{KnowsRights-later}
use Rattle.session_threads.proofs.GateLemmas.{ReadsShow-at, ReadsShow-due}
use Rattle.session_threads.proofs.gate.read_show.Goals as goal

pub given_in-requires-clause-last : goal.given_in-requires-clause-last
given_in-requires-clause-last g c =
    let read = subst (IsReadOf c.read.new.self.list c.args.moment) c.in-Ok-At.field-0-is c.in-Ok-At.ensures.ok in
    subst (λ (v : Kept). IsLast c.read.new.self.list v) (sym (c.deref.ensures ∙ read.2.2)) read.1

pub given_in-requires-clause-knows : goal.given_in-requires-clause-knows
given_in-requires-clause-knows g c =
    KnowsRights-later c.args.user.now c.args.reader.now.list c.read.new.self.list c.args.found.now c.in-Ok-At.ensures.later
    c.requires.knows

pub returns-in-Ok-At-clause-reads : goal.returns-in-Ok-At-clause-reads
returns-in-Ok-At-clause-reads g c =
    let read = subst (IsReadOf c.read.new.self.list c.args.moment) c.in-Ok-At.field-0-is c.in-Ok-At.ensures.ok in
    ReadsShow-at c.args.user.now c.args.command.now c.args.moment c.args.reader.now c.read.new.self c.in-Ok-At.ensures.later
    c.in-Ok-At.ensures.told c.in-Ok-At.front read.0 c.deref.result.now c.given_in.result c.in-Ok-At.ensures.reached read.1 read.2.0
    read.2.1 (c.deref.ensures ∙ read.2.2) c.given_in.ensures.gives c.given_in.ensures.prints

pub returns-in-Ok-Due-clause-reads : goal.returns-in-Ok-Due-clause-reads
returns-in-Ok-Due-clause-reads g c =
    let read = subst (IsReadOf c.read.new.self.list c.args.moment) c.in-Ok-Due.field-0-is c.in-Ok-Due.ensures.ok in
    ReadsShow-due c.args.user.now c.args.command.now c.args.moment c.args.reader.now c.read.new.self c.in-Ok-Due.ensures.later
    c.in-Ok-Due.ensures.told read.0 c.in-Ok-Due.ensures.reached read.1 read.2.1

pub returns-in-Ok-Due-clause-knows : goal.returns-in-Ok-Due-clause-knows
returns-in-Ok-Due-clause-knows g c =
    KnowsRights-later c.args.user.now c.args.reader.now.list c.read.new.self.list c.args.found.now c.in-Ok-Due.ensures.later
    c.requires.knows

pub returns-in-Err-clause-knows : goal.returns-in-Err-clause-knows
returns-in-Err-clause-knows g c =
    KnowsRights-later c.args.user.now c.args.reader.now.list c.read.new.self.list c.args.found.now c.in-Err.ensures.later
    c.requires.knows
