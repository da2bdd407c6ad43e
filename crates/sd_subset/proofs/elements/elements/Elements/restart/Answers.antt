use Rattle.sd_subset.proofs.elements_lemmas.Ways.{points_long}
use Rattle.sd_subset.proofs.elements.elements.Elements.restart.Goals as goal

pub invariant_of-self : goal.invariant_of-self
invariant_of-self c = rw c.restart.ensures (points_long c.self.inside.points.ranges c.args.env.now.values)
