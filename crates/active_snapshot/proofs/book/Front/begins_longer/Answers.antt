use Rattle.std.proofs.Common.{ap, subst, List}
use mathlib.Core.List.{IsPrefix}
use Rattle.commit_ledger.specs.Kept.{Kept}
use Rattle.active_snapshot.specs.States.{FrontView}
use Rattle.active_snapshot.proofs.PrefixLemmas.{IsPrefix-shorter}
use Rattle.active_snapshot.proofs.book.Front.begins_longer.Goals as goal

pub returns : goal.returns
returns c =
    let both = c.learn.new.self.log in
    let one = c.args.self.now.list in
    let two = c.args.other.now.list in
    let same_log = ap (λ s. s.log) c.again-both.ensures in
    let this : IsPrefix c.self.inside.seen.log both = subst (λ (l : List Kept). IsPrefix l both) same_log c.learn.ensures.2 in
    let begins_one : IsPrefix one both = subst (λ (b : FrontView). IsPrefix b.list both) c.self.view_is this in
    let begins_two : IsPrefix two both = subst (λ (b : FrontView). IsPrefix b.list both) c.other.view_is c.learn.ensures.3 in
    IsPrefix-shorter one two both begins_one begins_two c.requires.shorter
