use Rattle.std.proofs.Common.{rules, ◌≡◌, [], ◌∷◌, FitsSigned, to_z-of_z}
use Rattle.std.specs.Int.{w128}
use Rattle.sd_cut.proofs.Spans.{number_told, range_told}
use Rattle.sd_cut.proofs.cells.span_of.Goals as goal

pub returns-clause-evaluable : goal.returns-clause-evaluable
returns-clause-evaluable c =
    let low_fits : FitsSigned w128 c.in-Some.low = search rules in
    let high_fits : FitsSigned w128 c.in-Some-checked_sub.high = search rules in
    let low_is : c.constant-2.result.constant ≡ c.in-Some.low = simp to_z-of_z at c.constant-2.ensures.constant in
    let high_is : c.constant.result.constant ≡ c.in-Some-checked_sub.high = simp to_z-of_z at c.constant.ensures.constant in
    let ends : c.from-2.result ≡ c.constant.result ∷ [] = search rules in
    range_told c.constant-2.result c.constant.result c.from-2.result _ ends
    (number_told c.constant-2.result c.in-Some.low low_is c.constant-2.ensures.terms low_fits)
    (number_told c.constant.result c.in-Some-checked_sub.high high_is c.constant.ensures.terms high_fits)
