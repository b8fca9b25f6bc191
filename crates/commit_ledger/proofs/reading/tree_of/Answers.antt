use Rattle.std.proofs.Common.{rules, ◌≡◌, ◌∙◌, ap}
use Rattle.commit_ledger.specs.Payload.{text_of}
use Rattle.commit_ledger.proofs.TextLemmas.{is_that_map, no_fault}
use Rattle.commit_ledger.proofs.reading.tree_of.Goals as goal

pub returns-then-branch-clause-only : goal.returns-then-branch-clause-only
returns-then-branch-clause-only c = λ m tree is. is_that_map c.args.text.now c.in-Ok.marked.tree m c.in-Ok.marked.replaced c.in-Ok.ensures.read tree is

pub returns-in-Ok-clause-none : goal.returns-in-Ok-clause-none
returns-in-Ok-clause-none c = λ none m tree is.
    let same : c.args.text.now ≡ text_of c.in-Ok.marked.tree =
    is ∙ ap text_of (is_that_map c.args.text.now c.in-Ok.marked.tree m c.in-Ok.marked.replaced c.in-Ok.ensures.read tree is) in
    let yes = c.in_ok-is_printed-in-Ok.ensures.1 same in
    search rules

pub returns-clause-none : goal.returns-clause-none
returns-clause-none c = λ none m tree is. no_fault c.args.text.now m c.in-Err.fault (c.in-Err.ensures.fault (search rules)) tree is
