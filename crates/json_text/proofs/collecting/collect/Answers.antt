use Rattle.std.proofs.Common.{rules, ◌≡◌, ◌≤◌, List, ◌++◌, length, Err, ap, subst, ◌∙◌}
use Rattle.serde_json.specs.View.{view}
use Rattle.json_text.specs.Collecting.{Collects, SaysItems}
use Rattle.json_text.specs.Said.{Item}
use Rattle.cfg_tree.specs.declared.limit.TheConstants.{MAX_STATEMENTS}
use Rattle.json_text.proofs.CollectingLemmas.{collected_fit, collected_said, few_different, many_said}
use Rattle.json_text.proofs.collecting.collect.Goals as goal

pub returns-in_err-collect_all-clause-many : goal.returns-in_err-collect_all-clause-many
returns-in_err-collect_all-clause-many c =
    let same : c.from_residual.result ≡ Err c.in_err-collect_all.field-0.0 = search rules
    in let from_none =
    subst (λ (es : List Item). Collects (SaysItems (view c.args.value.now)) es c.collect_all.new.items (Err c.in_err-collect_all.field-0.0)) c.new-items.ensures c.in_err-collect_all.ensures
    in many_said (view c.args.value.now) c.collect_all.new.items c.in_err-collect_all.field-0.0 c.from_residual.result from_none same

pub of_statements-requires-clause-said : goal.of_statements-requires-clause-said
of_statements-requires-clause-said c =
    let same : c.into_items.result.items ≡ c.collect_all.new.items = search rules
    in collected_fit (view c.args.value.now) c.requires.says.0 c.requires.says.1 c.into_items.result.items
    (λ told h. same ∙ c.in_ok-collect_all.ensures told h ∙ ap (λ (es : List Item). es ++ told) c.new-items.ensures)

pub of_statements-requires-clause-few : goal.of_statements-requires-clause-few
of_statements-requires-clause-few c =
    let few : length c.into_items.result.items ≤ MAX_STATEMENTS = search rules
    in few_different c.into_items.result.items few

pub returns-clause-ok : goal.returns-clause-ok
returns-clause-ok c =
    let same : c.into_items.result.items ≡ c.collect_all.new.items = search rules
    in collected_said (view c.args.value.now) c.requires.says.0 c.requires.says.1 c.into_items.result.items
    (λ told h. same ∙ c.in_ok-collect_all.ensures told h ∙ ap (λ (es : List Item). es ++ told) c.new-items.ensures)
    c.in_ok-of_statements.field-0 c.in_ok-of_statements.ensures
