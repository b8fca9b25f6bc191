use Rattle.std.proofs.Common.{ap, sym, ◌∙◌}
use Rattle.cfg_schema.specs.Profile.{is_bare}
use Rattle.cfg_schema.specs.declared.rows.Row.{Row}
use Rattle.json_text.proofs.SpellingLemmas.{bare_named, other_named}
use Rattle.json_text.proofs.spelling.name_in.Goals as goal

pub returns-then-is_bare : goal.returns-then-is_bare
returns-then-is_bare c =
    bare_named c.args.here.now c.args.id c.row-row.result.name_kind c.args.bytes.now c.bare_name.result
    (ap (λ (r : Row). is_bare r.shape) (sym c.row-row.ensures) ∙ sym c.is_bare.ensures ∙ c.if-is_bare.true)
    (ap (λ (r : Row). r.name_kind) c.row-row.ensures) c.bare_name.ensures

pub returns : goal.returns
returns c =
    other_named c.args.here.now c.args.id c.row-row.result.name_kind c.args.bytes.now c.named.result
    (ap (λ (r : Row). is_bare r.shape) (sym c.row-row.ensures) ∙ sym c.is_bare.ensures ∙ c.if-is_bare.false)
    (ap (λ (r : Row). r.name_kind) c.row-row.ensures) c.named.ensures
