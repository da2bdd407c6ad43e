use Rattle.std.proofs.Common.{rules, ◌+ℤ◌, ◌≤ℤ◌, FitsSigned, ap, ◌∙◌, sym}
use Rattle.std.specs.Int.{w128}
use Rattle.std.proofs.lemmas.Int.{ints, to_z-of_z}
use Rattle.sd_range.specs.Range.{stepped}
use Rattle.sd_range.proofs.Stepped.{stepped-empty, stepped-filled, past_all}
use Rattle.sd_range.proofs.axis.later.Goals as goal

pub returns-in_err-next : goal.returns-in_err-next
returns-in_err-next c =
    let axis = c.args.axis.now in
    let step_fits : FitsSigned w128 axis.step = search rules in
    let last_fits : FitsSigned w128 axis.last = search rules in
    let number_fits : FitsSigned w128 c.args.number = c.ranges.number in
    let past = simp to_z-of_z at c.in_err-next.ensures in
    rw c.from_residual.ensures
    (stepped-empty (c.args.number +ℤ axis.step) axis.last axis.step (past_all c.args.number axis.step axis.last c.requires number_fits last_fits past))

pub returns-then-next-last : goal.returns-then-next-last
returns-then-next-last c =
    let axis = c.args.axis.now in
    let step_fits : FitsSigned w128 axis.step = search rules in
    let last_fits : FitsSigned w128 axis.last = search rules in
    let next_fits : FitsSigned w128 c.in_ok-next.next = search rules in
    let number_fits : FitsSigned w128 c.args.number = c.ranges.number in
    let next = simp to_z-of_z at (c.in_ok-next.ensures).1 in
    let within : c.in_ok-next.next ≤ℤ axis.last = search (rules, ints) in
    simp to_z-of_z
    (ap (λ begin. stepped begin axis.last axis.step) (sym next) ∙ stepped-filled c.in_ok-next.next axis.last axis.step c.requires within)
