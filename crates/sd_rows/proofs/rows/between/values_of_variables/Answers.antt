use Rattle.std.proofs.Common.{◌≡◌, ◌++◌, [], ◌∷◌, map, get_or, ap, sym, ◌∙◌}
use Rattle.std.proofs.lemmas.List.{get_or_default}
use Rattle.sd_num.specs.Wrapped.{wrapped}
use Rattle.sd_range.specs.Affine.{variable_value}
use Rattle.sd_tcode.specs.columns.Columns.{value_on}
use Rattle.sd_row.proofs.row_lemmas.Filled.{made_more, made_whole, one_longer}
use Rattle.sd_rows.proofs.rows.between.values_of_variables.Goals as goal

pub loop-variable-preserved : goal.loop-variable-preserved
loop-variable-preserved c =
    let variables = c.args.variables.now in
    let numbers = c.loop-variable.numbers.items in
    let one = c.value_of_variable.result in
    let number = c.loop-variable.variable-index in
    let items : c.push.new.self.items ≡ numbers ++ one ∷ [] = c.in_ok-push.ensures.items in
    record {
      at = λ values context along same k.
          made_more (λ variable. wrapped (variable_value (context k).values variable)) (λ numbers. value_on numbers k) variables numbers number (get_or variables number 0) one c.loop-variable-test.true (get_or_default variables number _ _ c.loop-variable-test.true)
          (c.loop-variable.invariant.at values context along same k) (c.value_of_variable.ensures values context along same k)
          ∙ ap (map (λ numbers. value_on numbers k)) (sym items);
      many = one_longer numbers c.push.new.self.items one number items c.loop-variable.invariant.many;
    }

pub returns-clause-values : goal.returns-clause-values
returns-clause-values c values context along same k =
    made_whole (λ variable. wrapped (variable_value (context k).values variable)) (λ numbers. value_on numbers k) c.args.variables.now c.loop-variable.numbers.items c.loop-variable.variable-index c.loop-variable-test.false
    (c.loop-variable.invariant.at values context along same k)
