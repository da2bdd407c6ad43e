use Rattle.std.proofs.Common.{◌<◌, ◌≤◌, ℕ, ℤ, map, take, length, get_or, sym, ap, ◌∙◌, arith}
use Rattle.std.proofs.lemmas.List.{take_more_set, get_or_default}
use Rattle.sd_num.specs.Wrapped.{wrapped}
use Rattle.sd_range.specs.Affine.{variable_value}
use Rattle.sd_tcode.specs.declared.columns.spacing.Spaced.{Spaced}
use Rattle.sd_tcode.specs.columns.Columns.{value_on}
use Rattle.sd_row.proofs.row_lemmas.Filled.{made_more}
use Rattle.sd_rows.proofs.rows_lemmas.RowBetween.{member_with, whole_between}
use Rattle.sd_rows.proofs.rows.moving.move_values.Goals as goal

pub loop-number-preserved : goal.loop-number-preserved
loop-number-preserved c values context along near k =
    let variables = c.args.variables.now in
    let numbers = c.loop-number.numbers in
    let number = c.loop-number.number in
    let one = c.numbers_at.result in
    let variable = get_or variables number 0 in
    let value : ℕ → ℕ → ℤ = λ k variable. wrapped (variable_value (context k).values variable) in
    let below : number < length numbers = omega (arith, c.loop-number-test.true, c.loop-number.auto.numbers) in
    let below_all : number < length variables = omega (arith, c.loop-number-test.true, c.if-numbers-variables.false) in
    let below_near : number < length c.args.near.now = omega (arith, c.loop-number-test.true, c.if-numbers-near.false) in
    made_more (value k) (λ numbers. value_on numbers k) variables (take number numbers) number variable one below_all (get_or_default variables number _ _ below_all)
    (c.loop-number.invariant values context along near k)
    (c.numbers_at.ensures values context along
    (member_with (value 0) (λ numbers. value_on numbers c.args.row) variables c.args.near.now number variable _ near below_all (get_or_default variables number _ _ below_all) (get_or_default c.args.near.now number _ _ below_near)) k)
    ∙ ap (map (λ (numbers : Spaced). value_on numbers k)) (sym (take_more_set numbers number one below))

pub returns-clause-numbers : goal.returns-clause-numbers
returns-clause-numbers c done values context along near k =
    let over : length c.args.variables.now ≤ c.loop-number.number = omega (arith, c.loop-number-test.false, c.if-numbers-variables.false) in
    let over_numbers : length c.loop-number.numbers ≤ c.loop-number.number = omega (arith, c.loop-number-test.false, c.loop-number.auto.numbers) in
    whole_between (λ variable. wrapped (variable_value (context k).values variable)) (λ numbers. value_on numbers k) c.args.variables.now c.loop-number.numbers c.loop-number.number over over_numbers
    (c.loop-number.invariant values context along near k)
