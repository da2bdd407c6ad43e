use Rattle.std.proofs.Common.{rules, ◌≤ℤ◌, FitsSigned, subst, sym}
use Rattle.std.specs.Int.{w128}
use Rattle.std.proofs.lemmas.Int.{ints, to_z-of_z}
use Rattle.sd_range.proofs.Parts.{exact_number, at_most_last}
use Rattle.sd_range.proofs.axis.number_at.Goals as goal

pub returns : goal.returns
returns c =
    let axis = c.args.axis.now in
    let last_fits : FitsSigned w128 axis.last = search rules in
    let step_fits : FitsSigned w128 axis.step = search rules in
    let first_fits : FitsSigned w128 axis.first = search rules in
    let place_fits : FitsSigned w128 c.cast_signed.result = search rules in
    let result_fits : FitsSigned w128 c.with_term-number.result = search rules in
    let computed = simp to_z-of_z at c.with_term-number.ensures in
    simp to_z-of_z
    (exact_number axis.first axis.last axis.step c.cast_signed.result c.args.place c.requires.rises first_fits last_fits c.ranges.place.fits c.requires.within c.cast_signed.ensures c.with_term-number.result computed)

pub prove-unreachable-requires : goal.prove-unreachable-requires
prove-unreachable-requires c =
    let axis = c.args.axis.now in
    let last_fits : FitsSigned w128 axis.last = search rules in
    let step_fits : FitsSigned w128 axis.step = search rules in
    let first_fits : FitsSigned w128 axis.first = search rules in
    let place_fits : FitsSigned w128 c.cast_signed.result = search rules in
    let result_fits : FitsSigned w128 c.with_term-number.result = search rules in
    let computed = simp to_z-of_z at c.with_term-number.ensures in
    let exact = exact_number axis.first axis.last axis.step c.cast_signed.result c.args.place c.requires.rises first_fits last_fits c.ranges.place.fits c.requires.within c.cast_signed.ensures c.with_term-number.result computed in
    let high = (at_most_last axis.first axis.last axis.step c.args.place c.requires.rises c.requires.within).1 in
    let within : c.with_term-number.result ≤ℤ axis.last = subst (λ z. z ≤ℤ axis.last) (sym exact) high in
    let test = simp to_z-of_z at c.if-prove.true in
    search (rules, ints)
