use Rattle.commit_journal.proofs.OpenLemmas.{marked_by}
use Rattle.commit_journal.proofs.opening.choice_of.Goals as goal

pub returns-then-counts_b-clause-marked : goal.returns-then-counts_b-clause-marked
returns-then-counts_b-clause-marked c = λ sound_a sound_b x y of_x of_y. marked_by y x _ _ sound_a of_y of_x (c.counts_b.ensures.a_stale c.if-counts_b.true)

pub returns-else-counts_b-clause-marked : goal.returns-else-counts_b-clause-marked
returns-else-counts_b-clause-marked c = λ sound_a sound_b x y of_x of_y. marked_by x y _ _ sound_b of_x of_y (c.counts_b.ensures.b_stale c.if-counts_b.false)
