use Rattle.std.proofs.Common.{◌≡◌, ℤ, pos, sym, ap, ◌∙◌, rules, w64, FitsSigned, to_z, of_z}
use Rattle.std.proofs.lemmas.Int.{to_z-of_z, int_wrap_fits, SFits-int_wrap}
use Rattle.sd_num.specs.Wrapped.{wrapped}
use Rattle.sd_range.specs.Affine.{variable_value}
use Rattle.sd_scope.specs.even.Even.{spaced}
use Rattle.sd_scope.proofs.even_lemmas.Distances.{spaced_still}
use Rattle.sd_rows.proofs.rows_lemmas.Tracks.{last_value, kept_value}
use Rattle.sd_rows.proofs.rows.between.value_of_variable.Goals as goal

pub returns-then-variable-steps : goal.returns-then-variable-steps
returns-then-variable-steps c values context along same k =
    let steps = c.args.steps.now in
    let first_fits : FitsSigned w64 steps.first = search rules in
    let step_fits : FitsSigned w64 steps.step = search rules in
    ap wrapped (ap (variable_value (context k).values) c.if-variable-steps.true ∙ last_value steps values context along k)
    ∙ ap (λ first. wrapped (spaced first steps.step k)) (sym (to_z-of_z w64 steps.first first_fits))
    ∙ ap (λ step. wrapped (spaced (to_z w64 (of_z w64 steps.first)) step k)) (sym (to_z-of_z w64 steps.step step_fits))

pub returns : goal.returns
returns c values context along same k =
    let steps = c.args.steps.now in
    let variable = c.args.variable in
    let value : ℤ = variable_value (context k).values variable in
    let kept : value ≡ variable_value c.args.first.now.values variable =
    kept_value steps values context along k variable c.if-variable-steps.false ∙ ap (λ values. variable_value values variable) (sym same) in
    let element = c.element_of_variable.result in
    let fits : FitsSigned w64 element = record { sfits = c.element_of_variable.type_inv } in
    let is : wrapped value ≡ element = ap wrapped kept ∙ sym c.element_of_variable.ensures in
    sym (int_wrap_fits w64 (wrapped value) (SFits-int_wrap w64 value)) ∙ ap wrapped (is ∙ sym (spaced_still element k))
    ∙ ap (λ first. wrapped (spaced first (pos 0) k)) (sym (to_z-of_z w64 element fits))
