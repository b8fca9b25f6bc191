use Rattle.std.proofs.Common.{refl}
use Rattle.cfg_base.proofs.FlatLemmas.{last_block}
use Rattle.cfg_base.proofs.blocks.push_block.Goals as goal

pub returns-clause-same : goal.returns-clause-same
returns-clause-same c = last_block c.args.blocks.now.items c.push.new.self.items c.args.block c.args.block c.in_ok-push.ensures.items refl
