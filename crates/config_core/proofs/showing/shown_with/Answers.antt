use Rattle.std.proofs.Common.{sym, subst}
use Rattle.config_core.specs.declared.reply.Reply.TheVariants.{Text}
use Rattle.config_core.specs.Showing.{ShowsBelow}
use Rattle.config_core.proofs.ShowingLemmas.{shows_text}
use Rattle.config_core.proofs.showing.shown_with.Goals as goal

pub returns-in_ok-print_inherited-in-Inherited : goal.returns-in_ok-print_inherited-in-Inherited
returns-in_ok-print_inherited-in-Inherited c =
    subst (λ form. ShowsBelow form c.args.tree.now c.args.path.now (Text c.in_ok-print_inherited-in-Inherited.field-0)) (sym c.in-Inherited.is)
    (shows_text c.args.tree.now c.args.full.now c.args.path.now c.in_ok-print_inherited-in-Inherited.field-0 c.requires.expansion c.requires.within
    c.in_ok-print_inherited-in-Inherited.ensures)
