use Rattle.std.proofs.Common.{◌≡◌, drop, nat_le}
use Rattle.sd_range.specs.Weight.{weight_of}
use Rattle.sd_names.proofs.affine_value.is_light.Given as goal

-- the terms that are left decide, against what is left of the limit
abbrev pub invariant-loop-term : goal.invariant-loop-term
invariant-loop-term l = nat_le (weight_of (drop l.term-index l.terms)) l.left ≡ nat_le (weight_of l.terms) 1024
