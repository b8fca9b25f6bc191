use Rattle.std.proofs.Common.{Err, ap}
use Rattle.config_core.proofs.ShowingLemmas.{shows_text, shows_too_wide}
use Rattle.config_core.proofs.showing.expansion_below.Goals as goal

pub returns-in_ok-print_inherited-in-Ok : goal.returns-in_ok-print_inherited-in-Ok
returns-in_ok-print_inherited-in-Ok c =
    shows_text c.args.tree.now c.in-Ok.full c.args.path.now c.in_ok-print_inherited-in-Ok.field-0 c.in-Ok.ensures.ok c.in-Ok.ensures.within
    c.in_ok-print_inherited-in-Ok.ensures

pub returns-in-Err-TooWide : goal.returns-in-Err-TooWide
returns-in-Err-TooWide c =
    let wide = c.in-Err-TooWide.ensures.wide (ap Err c.in-Err-TooWide.field-0-is) in
    shows_too_wide c.args.tree.now wide.0 c.args.path.now wide.1 wide.2
