use Rattle.std.proofs.Common.{rules, ◌≡◌, ℤ, ℕ, List, length, FitsSigned, ap, sym, ◌∙◌}
use Rattle.std.specs.Int.{w128}
use Rattle.std.proofs.lemmas.Int.{to_z-of_z}
use Rattle.std.proofs.lemmas.Result.{IfOk-weaker}
use Rattle.sd_range.specs.declared.affine.Affine.{Affine}
use Rattle.sd_range.specs.Affine.{affine_value}
use Rattle.sd_range.specs.Range.{count_between, least_value, range_values}
use Rattle.sd_range.proofs.Parts.{length-counted_from}
use Rattle.sd_scope.proofs.scope.extents.range_count.Goals as goal

pub returns : goal.returns
returns c =
    let range = c.args.range.now in
    let values = c.args.values.now in
    let begin_fits : FitsSigned w128 c.in_ok-begin.begin = search rules in
    let last_fits : FitsSigned w128 c.in_ok-last.last = search rules in
    let step_fits : FitsSigned w128 range.step = search rules in
    let told = simp to_z-of_z at c.count_between.ensures in
    let counted : count_between c.in_ok-begin.begin c.in_ok-last.last range.step ≡ length (range_values values range) =
    ap (λ (begin : ℤ). count_between begin c.in_ok-last.last range.step) c.in_ok-begin.ensures
    ∙ ap (λ (last : ℤ). count_between (affine_value values range.begin) last range.step) (c.in_ok-last.ensures ∙ ap (λ (ends : List Affine). least_value values ends) c.as_slice.ensures)
    ∙ sym (length-counted_from (affine_value values range.begin) range.step (count_between (affine_value values range.begin) (least_value values range.ends) range.step))
    in
    IfOk-weaker c.count_between.result (λ (count : ℕ). count ≡ count_between c.in_ok-begin.begin c.in_ok-last.last range.step) _ (λ count is. is ∙ counted) told
