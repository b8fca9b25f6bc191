use Rattle.config_db.proofs.ShownLemmas.{keeps_of}
use Rattle.config_db.proofs.showing.keep.Goals as goal

pub returns : goal.returns
returns g c = keeps_of c.keep.result c.args.shown.now c.keep.new.self c.keep.ensures.ok c.keep.ensures.err
