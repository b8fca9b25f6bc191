use Rattle.glob_name.proofs.TailLemmas.{tail_behind}
use Rattle.glob_name.proofs.front.fits_front.Goals as goal

pub fits_class-requires : goal.fits_class-requires
fits_class-requires c = tail_behind c.args.tail 2 c.args.pattern.now _ c.requires c.behind.ensures

pub fits_class-requires-in-91-2 : goal.fits_class-requires-in-91-2
fits_class-requires-in-91-2 c = tail_behind c.args.tail 1 c.args.pattern.now _ c.requires c.behind-in-91-2.ensures
