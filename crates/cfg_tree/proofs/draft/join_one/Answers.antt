use Rattle.std.proofs.lemmas.Result.{on_ok_weaker}
use Rattle.cfg_tree.proofs.UnionLemmas.{put_joined, kept_joined}
use Rattle.cfg_tree.proofs.draft.join_one.Goals as goal

pub returns-then-has : goal.returns-then-has
returns-then-has c = kept_joined _ _ _ _ _ c.in_ok-path.ensures (c.has.ensures.0 c.if-has.true)

pub returns : goal.returns
returns c =
    on_ok_weaker c.put_entry.result
    (λ done. put_joined c.args.entries.now c.args.path.now c.in_ok-path.path c.args.value.now c.in_ok-path.both _ c.in_ok-path.ensures done)
    c.put_entry.ensures.ok
