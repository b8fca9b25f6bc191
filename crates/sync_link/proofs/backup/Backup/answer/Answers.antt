use Rattle.std.proofs.Common.{subst}
use Rattle.sync_link.specs.Takes.{Fits}
use Rattle.sync_link.proofs.backup.Backup.answer.Goals as goal

pub take_offer-requires-clause-adds : goal.take_offer-requires-clause-adds
take_offer-requires-clause-adds g c = subst (λ m. Fits c.args.self.now.kept m) c.in-Offer.is c.requires.fits
