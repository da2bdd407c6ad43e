use Rattle.std.proofs.Common.{◌≡◌, map, take}
use Rattle.sd_range.specs.Arithmetic.{affine_sum}
use Rattle.sd_subset.proofs.elements.composition.sums.Given as goal

-- the sums so far
abbrev pub invariant-loop-other : goal.invariant-loop-other
invariant-loop-other l = l.sums.items ≡ map (affine_sum l.begin) (take l.other-index l.others)
