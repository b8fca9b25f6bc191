use Rattle.std.proofs.Common.{◌∙◌, ap, List, if◌then◌else◌}
use Rattle.std.specs.Map.{keys_of}
use Rattle.cfg_base.specs.declared.value.Value.{Value}
use Rattle.cfg_entries.specs.EntryMap.{Pair}
use Rattle.cfg_tree.specs.Shown.{shown, without_all}
use Rattle.cfg_tree.specs.Statements.{Statements}
use Rattle.cfg_tree.specs.Moving.{with_part}
use Rattle.cfg_tree.proofs.MovedLemmas.{part_left}
use Rattle.cfg_tree.proofs.moving.with_each.Goals as goal

pub returns : goal.returns
returns c =
    c.in_ok-put_part.ensures
    ∙ ap (λ (m : Statements). with_part c.args.from.now c.args.to.now m c.args.part.items)
    (part_left c.args.stays c.args.entries.now c.args.from.now c.args.part.items _ c.requires.ordered c.requires.part
    (c.in_ok-made.ensures
    ∙ ap (λ (es : List (Pair Value)). if c.args.stays then shown c.args.entries.now else without_all (shown c.args.entries.now) (keys_of es)) c.deref.ensures.value))
