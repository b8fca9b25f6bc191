use Rattle.std.proofs.Common.{arith, subst, sym, ◌∙◌, ◌<◌, ◌≡◌, length, get_or}
use Rattle.std.proofs.lemmas.Bool.{false≢true}
use Rattle.cfg_values.specs.Number.{IsNumber}
use Rattle.cfg_values.proofs.NumberLemmas.{IsNumber-decimal, number_only, number_written, no_leading_zero, one_digit}
use Rattle.cfg_values.proofs.number.small_number.Goals as goal

pub returns-then-has_leading_zero-clause-none : goal.returns-then-has_leading_zero-clause-none
returns-then-has_leading_zero-clause-none c n small e =
    let both = c.has_leading_zero.ensures.0 c.if-has_leading_zero.true in
    no_leading_zero n (omega arith) (subst (λ b. 1 < length b) e both.0) (subst (λ b. get_or b 0 0 ≡ 48) e both.1)

pub returns-in_err-number-clause-none : goal.returns-in_err-number-clause-none
returns-in_err-number-clause-none c =
    rw c.from_residual.ensures
    (λ n small e. c.in_err-number.ensures.none n (subst (λ b. IsNumber b n) (sym e) (IsNumber-decimal n (omega arith))))

pub returns-then-number-from-clause-none : goal.returns-then-number-from-clause-none
returns-then-number-from-clause-none c n small e =
    let same = number_only _ _ n c.in_ok-number.ensures.number (omega arith) e in
    omega arith

pub returns-clause-written : goal.returns-clause-written
returns-clause-written c =
    number_written _ _ c.in_ok-number.ensures.number
    (λ first. one_digit _ c.in_ok-number.ensures.number.digits.0
    (λ long. false≢true (sym c.if-has_leading_zero.false ∙ c.has_leading_zero.ensures.1 (long, first))))
