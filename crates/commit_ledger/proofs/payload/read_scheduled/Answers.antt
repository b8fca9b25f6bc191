use Rattle.std.proofs.Common.{refl}
use Rattle.commit_ledger.proofs.FieldLemmas.{waiting_left, short_left}
use Rattle.commit_ledger.proofs.payload.read_scheduled.Goals as goal

pub returns-in_err-comment-clause-none : goal.returns-in_err-comment-clause-none
returns-in_err-comment-clause-none c = λ none f fits is.
    let four = waiting_left c.args.bytes.now c.in_ok-number.rest.now c.in_ok-moment.rest.now c.in_ok-at.rest.now c.in_ok-number.number c.in_ok-moment.moment c.in_ok-at.at f
    c.in_ok-number.ensures.some c.in_ok-moment.ensures.some c.in_ok-at.ensures.some is in
    c.in_err-comment.ensures.none refl f.comment _ (short_left c.in_ok-at.rest.now c.in_ok-user.rest.now c.in_ok-user.user.now f.user _ c.in_ok-user.ensures.some four)

pub returns-in_err-text-clause-none : goal.returns-in_err-text-clause-none
returns-in_err-text-clause-none c = λ none f fits is.
    let four = waiting_left c.args.bytes.now c.in_ok-number.rest.now c.in_ok-moment.rest.now c.in_ok-at.rest.now c.in_ok-number.number c.in_ok-moment.moment c.in_ok-at.at f
    c.in_ok-number.ensures.some c.in_ok-moment.ensures.some c.in_ok-at.ensures.some is in
    let five = short_left c.in_ok-at.rest.now c.in_ok-user.rest.now c.in_ok-user.user.now f.user _ c.in_ok-user.ensures.some four in
    c.in_err-text.ensures.none refl f.text fits.text (short_left c.in_ok-user.rest.now c.in_ok-comment.rest.now c.in_ok-comment.comment.now f.comment _ c.in_ok-comment.ensures.some five)
