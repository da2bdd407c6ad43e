use Rattle.std.proofs.Common.{◌≤◌, ◌^◌, subst}
use Rattle.sd_lex.proofs.DigitLemmas.{too_wide}
use Rattle.sd_lex.proofs.found.number.Goals as goal

pub returns-in_err-value : goal.returns-in_err-value
returns-in_err-value c =
    let wide = too_wide c.loop-digit.value c.args.digits.now c.loop-digit.digit-index c.loop-digit-test.true c.in_err-value.ensures in
    let all = subst (λ n. 2 ^ 63 ≤ n) c.loop-digit.invariant wide in
    rw c.from_residual.ensures all
