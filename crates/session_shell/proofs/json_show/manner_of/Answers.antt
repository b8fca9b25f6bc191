use Rattle.std.proofs.Common.{IfSome, refl, sym, subst}
use Rattle.session_shell.specs.Shows.{IsPrinted}
use Rattle.session_shell.proofs.json_show.manner_of.Goals as goal

pub json_of-requires : goal.json_of-requires
json_of-requires c =
    subst IsPrinted (sym c.as_slice.ensures)
    (subst (λ shown. IfSome shown IsPrinted) (sym c.in-Some.ensures) (c.requires refl))
