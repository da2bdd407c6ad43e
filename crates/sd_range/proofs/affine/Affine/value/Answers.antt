use Rattle.std.proofs.Common.{◌∙◌, pos, rules, length, ◌<◌, get_or, FitsSigned, ap, ◌+◌, ◌+ℤ◌, drop}
use Rattle.std.proofs.lemmas.Int.{to_z-of_z}
use Rattle.std.specs.Int.{w128, int_wrap}
use Rattle.sd_range.specs.Affine.{terms_value}
use Rattle.sd_range.proofs.Values.{wrapped_sum-next}
use Rattle.sd_range.proofs.affine.Affine.value.Goals as goal

pub loop-variable-preserved : goal.loop-variable-preserved
loop-variable-preserved c =
    let i = c.loop-variable.variable-index in
    let terms = c.as_slice-variable-items.result.now in
    let values = c.as_slice-values.result.now in
    let coefficient_fits : FitsSigned w128 (get_or terms i (0, pos 0)).1 = search rules in
    let value_fits : FitsSigned w128 (get_or values (get_or terms i (0, pos 0)).0 (pos 0)) = search rules in
    let result_fits : FitsSigned w128 c.with_term-sum.result = search rules in
    let sum = simp to_z-of_z at c.with_term-sum.ensures in
    let within : i < length c.args.self.now.terms = rw c.as_slice-variable-items.ensures.terms at c.loop-variable-test.true in
    let others = terms_value c.args.env.now.values (drop (i + 1) c.args.self.now.terms) in
    ap (λ r. int_wrap w128 (r +ℤ others)) (to_z-of_z w128 c.with_term-sum.result result_fits)
    ∙ ap (λ r. int_wrap w128 (r +ℤ others)) sum
    ∙ rw (c.as_slice-variable-items.ensures.terms, c.as_slice-values.ensures)
    (wrapped_sum-next _ c.args.self.now.terms c.args.env.now.values i (0, pos 0) within)
    ∙ c.loop-variable.invariant
