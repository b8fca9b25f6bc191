use Rattle.std.proofs.Common.{rules, ◌∷◌, [], length, ap, arith, refl, ◌∙◌}
use Rattle.std.proofs.lemmas.List.{length-append}
use Rattle.commit_ledger.specs.Kept.{Kept}
use Rattle.session_shell.specs.declared.turn.How.TheVariants.{NoMemory}
use Rattle.session_threads.specs.Rows.{SitsIn}
use Rattle.session_threads.specs.Served.{HasReaders}
use Rattle.session_threads.proofs.RowLemmas.{HasReaders-taken, PairsFrom-length, SitsIn-then}
use Rattle.session_threads.proofs.whole.+seat_all.Goals as goal

pub seat_all-requires : goal.seat_all-requires
seat_all-requires g t c =
    let readers : (opening : Kept) × HasReaders opening (length c.pop.new.self.items) c.take.new.self = (
      c.requires.readers.0,
      (HasReaders-taken c.requires.readers.0 c.pop.new.self.items c.args.ends.now.items c.in-Some.end c.take.new.self c.args.readers.now
          c.in-Some-take.reader c.in-Some.ensures.items c.in-Some-take.ensures c.requires.readers.1).0,
    ) in
    search rules

pub push_reserved-requires : goal.push_reserved-requires
push_reserved-requires g t c =
    let room = c.requires.room.1 in
    let same = c.seat_all.ensures.room in
    let long = ap length c.in-Some.ensures.items ∙ length-append c.pop.new.self.items (c.in-Some.end ∷ []) in
    let has = HasReaders-taken c.requires.readers.0 c.pop.new.self.items c.args.ends.now.items c.in-Some.end c.take.new.self
    c.args.readers.now c.in-Some-take.reader c.in-Some.ensures.items c.in-Some-take.ensures c.requires.readers.1 in
    let seated = PairsFrom-length (SitsIn c.requires.readers.0 c.args.pass.now) 1 c.pop.new.self.items c.seat_all.new.seats.items
    (c.seat_all.ensures.seats c.requires.readers.0 has.0) in
    let sized = c.seat_all.new.seats.ok.0 in
    omega (arith, room, same, long, seated, sized)

pub returns-clause-seats : goal.returns-clause-seats
returns-clause-seats g t c = λ opening has.
    let taken = HasReaders-taken opening c.pop.new.self.items c.args.ends.now.items c.in-Some.end c.take.new.self c.args.readers.now
    c.in-Some-take.reader c.in-Some.ensures.items c.in-Some-take.ensures has in
    SitsIn-then opening c.args.pass.now c.seat_all.new.pass c.split-own.result c.pop.new.self.items c.args.ends.now.items
    c.seat_all.new.seats.items c.push_reserved.new.self.items c.in-Some.end (record {
      pass = c.split-own.result;
      reader = c.in-Some-take.reader;
      end = c.in-Some.end;
      how = NoMemory;
      turns = c.none.result;
    }) (c.seat_all.ensures.seats opening taken.0) c.in-Some.ensures.items c.push_reserved.ensures.items c.seat_all.ensures.pass
    c.split-own.ensures.new refl refl taken.1
