use Rattle.std.proofs.Common.{rules}
use Rattle.std.specs.Option.{option_copied}
use Rattle.group_expand.proofs.FrontsLemmas.{front_told}
use Rattle.group_expand.proofs.front.front.Goals as goal

pub returns : goal.returns
returns c =
    front_told c.args.groups.now c.args.own.now c.args.path.now c.args.offers.now c.in_ok-gone.gone c.new-front.result.items c.push_listed.new.front.items c.push_all_kept.new.front.items
    (option_copied c.words_with.result) (option_copied c.words_with-applied.result)
    c.new-front.ensures.items (search rules) (search rules) (search rules) (search rules) (search rules)
