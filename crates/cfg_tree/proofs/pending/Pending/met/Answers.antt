use Rattle.std.proofs.Common.{refl}
use Rattle.cfg_tree.proofs.JoinLemmas.{met_more}
use Rattle.cfg_tree.proofs.pending.Pending.met.Goals as goal

pub returns : goal.returns
returns c =
    met_more c.args.self c.self.inside.path c.self.inside.value c.args.new.now c.self.inside.order.items c.in_ok-order.order.items
    c.self.inside.words.items c.in_ok-words.words.items _ _ c.is_many.result
    c.self.view_is refl refl c.in_ok-order.ensures c.is_many.ensures c.in_ok-words.ensures
