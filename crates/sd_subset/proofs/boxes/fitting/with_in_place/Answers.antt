use Rattle.std.proofs.Common.{refl, ◌+◌, ◌*◌, ◌<◌, ◌^◌, unsigned_abs, FitsSigned, subst, arith}
use Rattle.std.specs.Int.{w128}
use Rattle.std.proofs.lemmas.Int.{to_z-of_z}
use Rattle.sd_range.specs.Arithmetic.{without, others_of}
use Rattle.sd_range.specs.Terms.{coefficient_of}
use Rattle.sd_range.specs.Weight.{weight_of}
use Rattle.sd_range.proofs.Weights.{representable, weight-parts}
use Rattle.sd_subset.proofs.boxes.fitting.with_in_place.Goals as goal

pub substituted-requires : goal.substituted-requires
substituted-requires c =
    let a = c.args.a.now in
    let by = c.args.by.now in
    let factor = coefficient_of a.terms c.args.variable in
    let fits : FitsSigned w128 c.coefficient.result = record { sfits = c.coefficient.type_inv } in
    let small = simp to_z-of_z at c.if-not-are_small_together.ensures in
    let constants = subst (λ n. unsigned_abs a.constant + unsigned_abs n * unsigned_abs by.constant < 2 ^ 127) c.coefficient.ensures (small.constants refl) in
    let terms = subst (λ n. weight_of a.terms + unsigned_abs n * weight_of by.terms < 2 ^ 127) c.coefficient.ensures (small.terms refl) in
    let below : weight_of (others_of c.args.variable a.terms) + unsigned_abs factor * weight_of by.terms < 2 ^ 127 = omega (arith, terms, weight-parts c.args.variable a.terms) in
    representable (without c.args.variable a) by factor constants below
