use Rattle.std.proofs.Common.{◌≡◌, ap, sym, ◌∙◌, take, take_all, subst, arith}
use Rattle.std.specs.Str.Parse.{AllDigits, IsNumeral, digits_value}
use Rattle.sd_json.proofs.DigitTexts.{digits-is_integer, digits-digits_of, few_digits, digits_before, one_digit_more}
use Rattle.sd_json.proofs.leaf.short_digits.Goals as goal

pub overflow_mul-number : goal.overflow_mul-number
overflow_mul-number c =
    let small = digits_before c.args.bytes.now c.loop-byte.byte-index c.loop-byte.number c.loop-byte-test.true (omega arith) c.loop-byte.invariant in
    omega arith

pub overflow_add-number : goal.overflow_add-number
overflow_add-number c =
    let small = digits_before c.args.bytes.now c.loop-byte.byte-index c.loop-byte.number c.loop-byte-test.true (omega arith) c.loop-byte.invariant in
    let digit = c.in_ok-number.ensures in
    omega arith

pub loop-byte-preserved : goal.loop-byte-preserved
loop-byte-preserved c = one_digit_more c.args.bytes.now c.loop-byte.byte-index c.loop-byte.number c.in_ok-number.field-0 c.loop-byte-test.true c.loop-byte.invariant c.in_ok-number.ensures

pub returns-clause-digits : goal.returns-clause-digits
returns-clause-digits c =
    let bytes = c.args.bytes.now in
    let all : take c.loop-byte.byte-index bytes ≡ bytes = take_all _ bytes (omega arith) in
    let digits : IsNumeral 10 bytes = (grind arith, subst (AllDigits 10) all c.loop-byte.invariant.0) in
    (digits-is_integer bytes digits, digits-digits_of bytes digits ∙ sym (c.loop-byte.invariant.1 ∙ ap (digits_value 10) all))

pub returns-clause-small : goal.returns-clause-small
returns-clause-small c =
    let bytes = c.args.bytes.now in
    let all : take c.loop-byte.byte-index bytes ≡ bytes = take_all _ bytes (omega arith) in
    let small = few_digits 18 bytes c.loop-byte.number (omega arith) (subst (AllDigits 10) all c.loop-byte.invariant.0) (c.loop-byte.invariant.1 ∙ ap (digits_value 10) all) in
    omega arith
