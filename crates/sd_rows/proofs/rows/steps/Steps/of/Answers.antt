use Rattle.std.proofs.Common.{◌≡◌, ◌^◌, ◌-◌, length, min, ap, ◌∙◌, rules, FitsSigned, to_z, of_z, arith}
use Rattle.std.specs.Int.{w128}
use Rattle.std.proofs.lemmas.Int.{to_z-of_z}
use Rattle.sd_range.specs.Affine.{affine_value}
use Rattle.sd_range.specs.Range.{range_values, counted_from}
use Rattle.sd_range.specs.Points.{Walk, opening, ranges_of, first_values}
use Rattle.sd_rows.specs.declared.rows.steps.Steps.{Steps}
use Rattle.sd_rows.proofs.rows_lemmas.Matched.{matched, counted_so}
use Rattle.sd_rows.proofs.rows.steps.Steps.of.Goals as goal

pub returns-clause-values : goal.returns-clause-values
returns-clause-values c =
    let values = c.args.env.now.values in
    let range = c.args.parameter.now.1 in
    let begin = c.in_ok-begin.begin in
    let begin_fits : FitsSigned w128 begin = search rules in
    let step_fits : FitsSigned w128 range.step = search rules in
    let begin_is : to_z w128 (of_z w128 begin) ≡ affine_value values range.begin = to_z-of_z w128 begin begin_fits ∙ c.in_ok-begin.ensures ∙ ap (λ values. affine_value values range.begin) c.as_slice.ensures in
    let count_is : c.first_count.result ≡ min (length (range_values values range)) (2 ^ 128 - 1) =
    c.first_count.ensures ∙ ap (λ (walk : Walk). min (length (first_values walk.parameters)) (2 ^ 128 - 1)) (c.in_ok-points.ensures ∙ ap (λ parameters. opening (ranges_of parameters) values) c.from_ref.ensures.value) in
    matched _ (λ (steps : Steps). range_values values range ≡ counted_from steps.first steps.step steps.count) c.steps_from.result
    (λ steps told. counted_so values range steps.first steps.step steps.count (2 ^ 128 - 1) (told.1 ∙ begin_is) (told.2 ∙ to_z-of_z w128 range.step step_fits) (told.3 ∙ count_is) told.4 (omega arith)) c.steps_from.ensures
