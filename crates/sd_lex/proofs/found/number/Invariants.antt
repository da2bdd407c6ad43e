use Rattle.std.proofs.Common.{◌≡◌, drop}
use Rattle.std.specs.List.{fold}
use Rattle.sd_lex.specs.Digits.{with_digit, decimal_value}
use Rattle.sd_lex.proofs.found.number.Given as goal

-- the number so far, with the digits that are left, is the whole
abbrev pub invariant-loop-digit : goal.invariant-loop-digit
invariant-loop-digit l = fold with_digit l.value (drop l.digit-index l.digits) ≡ decimal_value l.digits
