use Rattle.std.proofs.Common.{sym, ◌∙◌}
use Rattle.commit_check.proofs.KeptLemmas.{stray_told, kept_in}
use Rattle.commit_check.proofs.network.stray_bits_are_told.Goals as goal

pub returns-clause-told : goal.returns-clause-told
returns-clause-told c = stray_told

pub returns-clause-one : goal.returns-clause-one
returns-clause-one c name net other k l = sym (kept_in name net k) ∙ kept_in name other l
