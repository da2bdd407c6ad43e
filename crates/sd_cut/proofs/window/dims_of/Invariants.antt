use Rattle.std.proofs.Common.{◌≡◌, map, take}
use Rattle.sd_cut.specs.Windowed.{dim_shifted}
use Rattle.sd_cut.proofs.window.dims_of.Given as goal

-- the dimensions so far
abbrev pub invariant-loop-number : goal.invariant-loop-number
invariant-loop-number l = l.dims.items ≡ map dim_shifted (take l.number-index l.shift)
