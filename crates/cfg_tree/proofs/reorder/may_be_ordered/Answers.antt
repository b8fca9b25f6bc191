use Rattle.std.proofs.Common.{◌==◌, List, ℕ, length, sym, ap, ◌∙◌}
use Rattle.std.specs.Prelude.{codes}
use Rattle.cfg_schema.specs.Profile.{same_word}
use Rattle.cfg_schema.proofs.TestLemmas.{other_of}
use Rattle.cfg_tree.proofs.OrderLemmas.{may_be_ordered}
use Rattle.cfg_tree.proofs.reorder.may_be_ordered.Goals as goal

pub returns-else-is_empty : goal.returns-else-is_empty
returns-else-is_empty c = λ here h.
    let some = ap (λ (w : List ℕ). length w == 0) (sym c.as_bytes-head.ensures.bytes) ∙ sym c.is_empty.ensures ∙ c.if-is_empty.false
    in c.same_bytes.ensures
    ∙ ap (λ (w : List ℕ). same_word w (codes "term")) c.as_bytes-head.ensures.bytes
    ∙ other_of _ _ (may_be_ordered here c.args.last.now h) some
