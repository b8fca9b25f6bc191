use Rattle.std.proofs.Common.{refl, sym, ◌∙◌, []}
use Rattle.std.proofs.lemmas.List.{append-nil}
use Rattle.commit_ledger.specs.Payload.{short}
use Rattle.commit_ledger.proofs.FieldLemmas.{confirm_left}
use Rattle.commit_ledger.proofs.payload.read_confirm.Goals as goal

pub returns-in_err-user-clause-none : goal.returns-in_err-user-clause-none
returns-in_err-user-clause-none c = λ none f fits is.
    c.in_err-user.ensures.none refl f.user [] (confirm_left c.args.bytes.now c.in_ok-number.rest.now c.in_ok-moment.rest.now c.in_ok-number.number c.in_ok-moment.moment f c.in_ok-number.ensures.some c.in_ok-moment.ensures.some is
    ∙ sym (append-nil (short f.user)))
