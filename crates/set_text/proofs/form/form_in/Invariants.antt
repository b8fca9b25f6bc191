use Rattle.std.proofs.Common.{drop, ◌≡◌}
use Rattle.std.specs.Prelude.{find}
use Rattle.cfg_base.specs.Words.{same_word}
use Rattle.set_text.specs.declared.form.Form.{Form}
use Rattle.set_text.specs.Form.{keyword_of}
use Rattle.set_text.proofs.form.form_in.Given as goal

abbrev pub invariant-loop-form : goal.invariant-loop-form
invariant-loop-form l =
    find (λ (form : Form). same_word (keyword_of form) l.word) (drop l.form-index l.forms)
    ≡ find (λ (form : Form). same_word (keyword_of form) l.word) l.forms
