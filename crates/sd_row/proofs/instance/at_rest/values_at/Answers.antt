use Rattle.std.proofs.Common.{map, get_or, ap, sym, ◌∙◌, w64, FitsSigned}
use Rattle.std.proofs.lemmas.Int.{to_z-of_z}
use Rattle.std.proofs.lemmas.List.{get_or_default}
use Rattle.sd_num.specs.Wrapped.{wrapped}
use Rattle.sd_range.specs.Affine.{variable_value}
use Rattle.sd_tcode.specs.columns.Columns.{value_on}
use Rattle.sd_row.proofs.row_lemmas.Filled.{made_more}
use Rattle.sd_row.proofs.instance.at_rest.values_at.Goals as goal

pub loop-variable-preserved : goal.loop-variable-preserved
loop-variable-preserved c =
    let variables = c.args.variables.now in
    let number = c.loop-variable.variable-index in
    let fits : FitsSigned w64 c.element_of_variable.result = record { sfits = c.element_of_variable.type_inv } in
    made_more (λ variable. wrapped (variable_value c.args.values.now.values variable)) (λ numbers. value_on numbers 0) variables c.loop-variable.numbers.items number (get_or variables number _) c.resting.result
    c.loop-variable-test.true (get_or_default variables number _ _ c.loop-variable-test.true) c.loop-variable.invariant
    (sym (c.resting.ensures ∙ to_z-of_z w64 c.element_of_variable.result fits ∙ c.element_of_variable.ensures))
    ∙ ap (map (λ numbers. value_on numbers 0)) (sym c.in_ok-push.ensures.items)
