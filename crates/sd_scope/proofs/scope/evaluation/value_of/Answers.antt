use Rattle.std.proofs.Common.{◌≡◌, ◌+ℤ◌, ◌*ℤ◌, pos, rules, length, ◌<◌, get_or, FitsSigned, ap, ◌∙◌, drop, ◌+◌, subst, ℕ, ℤ, List}
use Rattle.std.proofs.lemmas.Int.{to_z-of_z}
use Rattle.std.specs.Int.{w128}
use Rattle.sd_range.specs.Affine.{affine_value, variable_value, terms_value}
use Rattle.sd_scope.proofs.scope_lemmas.Evaluated.{sum_next}
use Rattle.sd_scope.proofs.scope.evaluation.value_of.Goals as goal

pub loop-variable-preserved : goal.loop-variable-preserved
loop-variable-preserved c =
    let i = c.loop-variable.variable-index in
    let terms = c.args.affine.now.terms in
    let values = c.args.values.now in
    let within : i < length terms = rw c.as_slice-variable-items.ensures.terms at c.loop-variable-test.true in
    let before = subst (λ (sum : ℤ). sum +ℤ terms_value values (drop i terms) ≡ affine_value values c.args.affine.now) c.loop-variable.sum-is c.loop-variable.invariant in
    let terms_here = c.as_slice-variable-items.result.now in
    let factor_fits : FitsSigned w128 (get_or terms_here i (0, pos 0)).1 = search rules in
    let value_fits : FitsSigned w128 c.variable_of.result = search rules in
    let sum_fits : FitsSigned w128 c.in_ok-sum.sum = search rules in
    let more = simp to_z-of_z at c.in_ok-sum.ensures in
    let next : c.in_ok-sum.sum ≡ c.loop-variable.sum +ℤ ((get_or terms i (0, pos 0)).1 *ℤ variable_value values (get_or terms i (0, pos 0)).0) =
    more
    ∙ ap (λ (sum : ℤ). sum +ℤ ((get_or terms_here i (0, pos 0)).1 *ℤ c.variable_of.result)) c.loop-variable.sum-is
    ∙ ap (λ (value : ℤ). c.loop-variable.sum +ℤ ((get_or terms_here i (0, pos 0)).1 *ℤ value)) c.variable_of.ensures
    ∙ ap (λ (list : List (ℕ × ℤ)). c.loop-variable.sum +ℤ ((get_or list i (0, pos 0)).1 *ℤ variable_value values (get_or list i (0, pos 0)).0)) c.as_slice-variable-items.ensures.terms
    in
    ap (λ sum. sum +ℤ terms_value values (drop (i + 1) terms)) (to_z-of_z w128 c.in_ok-sum.sum sum_fits)
    ∙ sum_next c.loop-variable.sum c.in_ok-sum.sum (affine_value values c.args.affine.now) terms values i (0, pos 0) within next before
