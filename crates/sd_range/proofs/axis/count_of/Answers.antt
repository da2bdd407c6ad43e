use Rattle.std.proofs.Common.{rules, ◌≡◌, ◌+◌, ◌-◌, ◌/◌, ◌^◌, ◌≤ℤ◌, min, FitsSigned, ap, sym, ◌∙◌, length}
use Rattle.std.specs.Int.{w128}
use Rattle.std.proofs.lemmas.Int.{ints, to_z-of_z}
use Rattle.sd_range.specs.Axis.{axis_values}
use Rattle.sd_range.specs.Range.{count_between}
use Rattle.sd_range.proofs.Stepped.{count-filled}
use Rattle.sd_range.proofs.Parts.{length-counted_from}
use Rattle.sd_range.proofs.axis.count_of.Goals as goal

pub returns : goal.returns
returns c =
    let axis = c.args.axis.now in
    let step_fits : FitsSigned w128 axis.step = search rules in
    let last_fits : FitsSigned w128 axis.last = search rules in
    let first_fits : FitsSigned w128 axis.first = search rules in
    let gap = simp to_z-of_z at c.abs_diff.ensures in
    let step = simp to_z-of_z at c.unsigned_abs.ensures.value in
    let filled : axis.first ≤ℤ axis.last = search (rules, ints) in
    let counted : c.abs_diff.result / c.unsigned_abs.result + 1 ≡ length (axis_values axis) =
    rw (gap, step)
    (sym (length-counted_from axis.first axis.step (count_between axis.first axis.last axis.step) ∙ count-filled axis.first axis.last axis.step filled)) in
    c.saturating_add.ensures ∙ ap (λ n. min n (2 ^ 128 - 1)) counted
