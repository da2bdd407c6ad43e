use Rattle.std.proofs.Common.{◌≡◌, ap, sym, ◌∙◌, cond, drop, ne_eqb, subst}
use Rattle.std.specs.Str.Parse.{IsNumeral, digits_value, without_leading_plus}
use Rattle.sd_json.proofs.DigitTexts.{digits-is_integer, digits-digits_of}
use Rattle.sd_json.proofs.leaf.digits.Goals as goal

pub returns-in-Ok : goal.returns-in-Ok
returns-in-Ok c =
    let all : without_leading_plus c.args.bytes.now ≡ c.args.bytes.now = ap (λ plus. drop (cond plus 1 0) c.args.bytes.now) (ne_eqb _ 43 c.if-bytes-eq43.false) in
    let digits : IsNumeral 10 c.args.bytes.now = subst (IsNumeral 10) all c.in-Ok.ensures.0.0 in
    (digits-is_integer c.args.bytes.now digits, digits-digits_of c.args.bytes.now digits ∙ sym (c.in-Ok.ensures.1 ∙ ap (digits_value 10) all))
