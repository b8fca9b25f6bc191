use Rattle.cfg_tree.proofs.CanonicalLemmas.{canonical_more}
use Rattle.cfg_tree.proofs.typed.are_canonical.Goals as goal

pub loop-word-preserved : goal.loop-word-preserved
loop-word-preserved c =
    canonical_more c.args.kind c.args.words.now c.loop-word.left c.next.new.self c.in-Some.word.now _ _
    c.as_bytes.ensures.bytes c.in_ok-is_canonical.ensures c.if-not-branch.false c.in-Some.ensures c.loop-word.invariant
