use Rattle.std.proofs.Common.{◌≡◌, subst, sym, ◌∙◌, length, ◌<◌}
use Rattle.std.specs.Prelude.{Contains, slice_index_or}
use Rattle.cfg_values.proofs.ChoiceLemmas.{any_contains, contains_any}
use Rattle.cfg_tree.proofs.first_profile.is_first_permission.Goals as goal

pub returns : goal.returns
returns c = (
  λ passes. subst (λ words. Contains words c.args.word.now) c.first_permissions.ensures
      (any_contains (λ word. word.now) _ _ (sym c.is_among.ensures ∙ passes)),
  λ found. c.is_among.ensures ∙ contains_any (λ word. word.now) _ _ found.0
      (subst (λ words. found.0 < length words) (sym c.first_permissions.ensures) found.1)
      (subst (λ words. slice_index_or words found.0 c.args.word.now ≡ c.args.word.now) (sym c.first_permissions.ensures) found.2),
)
