use Rattle.std.proofs.Common.{◌≡◌, length}
use Rattle.sd_subset.specs.boxes.Box as definition
use Rattle.sd_subset.proofs.boxes.replacing.greatest.Given as goal

-- with those that are left replaced too it is the whole bound
abbrev pub invariant-loop-parameter : goal.invariant-loop-parameter
invariant-loop-parameter l = definition.greatest l.left l.bound ≡ definition.greatest l.parameters l.a

-- the parameters that are left
abbrev pub decreases-loop-parameter : goal.decreases-loop-parameter
decreases-loop-parameter l = length l.left
