use Rattle.std.proofs.Common.{refl, pos, neg_ℤ}
use Rattle.sd_range.proofs.Weights.{representable}
use Rattle.sd_subset.proofs.boxes.fitting.difference_of.Goals as goal

pub minus-requires : goal.minus-requires
minus-requires c =
    let small = c.if-not-are_small_together.ensures in
    representable c.args.a.now c.args.b.now (neg_ℤ (pos 1)) (small.constants refl) (small.terms refl)
