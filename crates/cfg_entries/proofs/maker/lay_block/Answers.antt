use Rattle.cfg_entries.proofs.MakerLemmas.{last_block}
use Rattle.cfg_entries.proofs.maker.lay_block.Goals as goal

pub returns-clause-same : goal.returns-clause-same
returns-clause-same g c = last_block c.args.blocks.now.items c.push.new.self.items _ c.args.entries.items c.in_ok-push.ensures.items c.in_ok-shared_block.ensures
