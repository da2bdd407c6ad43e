use Rattle.std.proofs.Common.{◌≡◌, drop, get_or, true, false, ◌==◌, option_map, sym, ap, ◌∙◌, arith, take_all, length-drop}
use Rattle.fast_float.specs.Text.{scan}
use Rattle.serde_json.specs.Read.{number_of, number_from}
use Rattle.serde_json.specs.Find.{as_i64}
use Rattle.sd_json.proofs.DigitTexts.{some_weaker}
use Rattle.sd_json.proofs.leaf.short_number.Goals as goal

pub returns-then-has_minus : goal.returns-then-has_minus
unfolding number_of
returns-then-has_minus c =
    let s = c.as_bytes-bytes.result.now in
    let signed : (get_or s 0 0 == 45) ≡ true = sym c.if-has_minus.ensures.value in
    let read : number_from true (scan (drop 1 s)) ≡ number_of s = rw signed in
    some_weaker c.short_with_sign.result _ _ (λ number is.
    is ∙ ap (λ rest. option_map as_i64 (number_from true (scan rest))) (take_all _ (drop 1 s) (omega (arith, length-drop 1 s))) ∙ ap (option_map as_i64) (read ∙ ap number_of c.as_bytes-bytes.ensures.value)) c.short_with_sign.ensures

pub returns-else-has_minus : goal.returns-else-has_minus
unfolding number_of
returns-else-has_minus c =
    let s = c.as_bytes-bytes.result.now in
    let unsigned : (get_or s 0 0 == 45) ≡ false = sym c.if-has_minus.ensures.value in
    let read : number_from false (scan s) ≡ number_of s = rw unsigned in
    some_weaker c.short_without_sign.result _ _ (λ number is. is ∙ ap (option_map as_i64) (read ∙ ap number_of c.as_bytes-bytes.ensures.value)) c.short_without_sign.ensures
