use Rattle.std.proofs.Common.{◌≡◌, map, take}
use Rattle.sd_cut.specs.Cutting.{opening_of}
use Rattle.sd_cut.proofs.opening.openings.Given as goal

-- the values so far
abbrev pub invariant-loop-cut : goal.invariant-loop-cut
invariant-loop-cut l = l.values.items ≡ map opening_of (take l.cut-index l.cuts)
