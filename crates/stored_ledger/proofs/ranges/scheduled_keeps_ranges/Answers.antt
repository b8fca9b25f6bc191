use Rattle.std.proofs.Common.{◌≤◌, subst}
use Rattle.cfg_base.specs.declared.moment.TheConstants.{MOMENT_MAX}
use Rattle.stored_ledger.proofs.RangeLemmas.{short_text, text_of_comment}
use Rattle.stored_ledger.proofs.ranges.scheduled_keeps_ranges.Goals as goal

pub returns : goal.returns
returns c =
    let fits = c.accepted_configurations_fit.ensures.text c.args.waiting.now.tree c.requires.accepted in
    record {
      number = (c.requires.number, c.is_in_64_bits.ensures);
      moment = subst (λ m. m ≤ MOMENT_MAX) c.seconds.ensures.same c.seconds.ensures.within;
      at = subst (λ m. m ≤ MOMENT_MAX) c.seconds-2.ensures.same c.seconds-2.ensures.within;
      user = c.as_word.ensures.name;
      comment = text_of_comment c.args.waiting.now.comment c.requires.comment;
      tree = fits.0;
      text = short_text c.args.waiting.now.tree fits.1;
      passes = c.requires.accepted;
    }
