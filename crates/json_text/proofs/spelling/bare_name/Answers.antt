use Rattle.cfg_schema.specs.Child.{IsNoHead}
use Rattle.cfg_tree.specs.Typed.{IsNameOf}
use Rattle.json_text.proofs.SpellingLemmas.{and_no_head}
use Rattle.json_text.proofs.spelling.bare_name.Goals as goal

pub returns : goal.returns
returns c =
    and_no_head (IsNameOf c.args.here.now.in_group c.args.kind c.args.bytes.now) (IsNoHead c.args.here.now.row c.args.here.now.in_group c.args.bytes.now)
    c.named.result (c.is_no_head.ensures.0 c.if-not-is_no_head.false) c.named.ensures
