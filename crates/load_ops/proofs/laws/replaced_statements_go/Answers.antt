use Rattle.load_ops.proofs.LeftTreeLemmas.{left_once, left_where, untagged_union}
use Rattle.load_ops.proofs.laws.replaced_statements_go.Goals as goal

pub returns-clause-once : goal.returns-clause-once
returns-clause-once c = left_once

pub returns-clause-left : goal.returns-clause-left
returns-clause-left c = left_where

pub returns-clause-untagged : goal.returns-clause-untagged
returns-clause-untagged c = untagged_union
