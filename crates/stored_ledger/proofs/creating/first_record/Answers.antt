use Rattle.std.proofs.Common.{◌≡◌, ◌∙◌, ap}
use Rattle.std.proofs.lemmas.Result.{IfOk-weaker}
use Rattle.commit_ledger.specs.Kept.{Kept, factory_commit}
use Rattle.stored_ledger.proofs.StoredLemmas.{record_is}
use Rattle.stored_ledger.proofs.creating.first_record.Goals as goal

pub returns : goal.returns
returns c =
    let same : c.in_ok-copy.field-0 ≡ factory_commit = c.in_ok-copy.ensures ∙ c.last.ensures.last ∙ ap (λ (k : Kept). k.last) c.requires in
    IfOk-weaker c.encode-2.result _ _
    (λ e is. is ∙ record_is c.in_ok-copy.field-0 c.kind.result c.in_ok-payload_of.field-0 same c.kind.ensures c.in_ok-payload_of.ensures.bytes) c.encode-2.ensures
