-- The forms by names that proofs above this crate may use.
use Rattle.std.proofs.Common.{Bool, List}
use Rattle.commands.specs.declared.mover.Mover.{Mover}
use Rattle.commands.specs.declared.verb.Verb.{Verb}
use Rattle.set_text.specs.declared.form.Form.{Form}
use Rattle.set_text.specs.declared.form.Form.TheVariants.{OneList, TwoLists}
use Rattle.set_text.specs.declared.form.TheConstants.{FORMS}

abbrev pub LineForm : Type 0
LineForm = Form

abbrev pub one_list : Verb → Bool → Form
one_list verb brackets = OneList verb brackets

abbrev pub two_lists : Mover → Mover → Form
two_lists one other = TwoLists one other

abbrev pub all_forms : List Form
all_forms = FORMS
