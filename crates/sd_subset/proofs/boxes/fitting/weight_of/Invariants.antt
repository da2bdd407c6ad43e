use Rattle.std.proofs.Common.{◌≡◌, ◌+◌, drop}
use Rattle.sd_range.specs.Weight as weights
use Rattle.sd_subset.proofs.boxes.fitting.weight_of.Given as goal

-- the sum so far, with the weight of the terms that are left
abbrev pub invariant-loop-coefficient : goal.invariant-loop-coefficient
invariant-loop-coefficient l = l.sum + weights.weight_of (drop l.coefficient-index l.terms) ≡ weights.weight_of l.terms
