use Rattle.std.proofs.Common.{◌≤◌, subst}
use Rattle.cfg_base.specs.declared.moment.TheConstants.{MOMENT_MAX}
use Rattle.stored_ledger.proofs.ranges.cleared_keeps_ranges.Goals as goal

pub returns : goal.returns
returns c = record {
  number = (c.requires, c.is_in_64_bits.ensures);
  moment = subst (λ m. m ≤ MOMENT_MAX) c.seconds.ensures.same c.seconds.ensures.within;
  user = c.as_word.ensures.name;
}
