use Rattle.std.proofs.Common.{inl, inr}
use Rattle.cfg_tree.proofs.typed.is_name_by.Goals as goal

pub returns-in-Keyed : goal.returns-in-Keyed
returns-in-Keyed c = elim c.in-Keyed.is [ inl e ↦ rw e c.is_name.ensures | inr e ↦ rw e c.is_name.ensures ]
