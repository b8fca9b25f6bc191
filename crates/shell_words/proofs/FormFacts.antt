-- The tests of the table of forms, run once.
use Rattle.std.proofs.Common.{◌≡◌, ◌<◌, length, Bool, true, false, refl, lit<}
use Rattle.std.specs.List.{list_all}
use Rattle.shell_words.specs.declared.form.CommandForm.{CommandForm}
use Rattle.shell_words.specs.Form.{forms_of, parts_of}
use Rattle.shell_words.proofs.FormTests.{is_sound, all_apart, are_sides, are_timed}

pub forms_sound : (configuring : Bool) → list_all is_sound (forms_of configuring) ≡ true
unfolding forms_of
forms_sound true = refl
forms_sound false = refl

pub forms_apart : (configuring : Bool) → all_apart (forms_of configuring) ≡ true
unfolding forms_of
forms_apart true = refl
forms_apart false = refl

pub forms_sided : (configuring : Bool) → list_all (λ (form : CommandForm). are_sides form.makes (parts_of form)) (forms_of configuring) ≡ true
unfolding forms_of
forms_sided true = refl
forms_sided false = refl

pub forms_timed : (configuring : Bool) → list_all (λ (form : CommandForm). are_timed form.makes (parts_of form)) (forms_of configuring) ≡ true
unfolding forms_of
forms_timed true = refl
forms_timed false = refl

pub forms_some : (configuring : Bool) → 0 < length (forms_of configuring)
unfolding forms_of
forms_some true = lit< tt
forms_some false = lit< tt
