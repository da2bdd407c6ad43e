use Rattle.std.proofs.Common.{◌≡◌, ◌++◌, map, replicate, take, drop}
use Rattle.sd_tcode.specs.tcode.Held.{zero_cells}
use Rattle.sd_tcode.proofs.tcode.frame.zero_arrays.Given as goal

-- the arrays so far
abbrev pub invariant-loop-k : goal.invariant-loop-k
invariant-loop-k l = record {
  extents : map (λ array. array.extents.items) l.arrays.items ≡ map (λ count. replicate count 0) (take l.k l.dims);
  cells : map (λ array. array.cells.items) l.arrays.items ++ zero_cells (drop l.k l.dims) (drop l.k l.widest) ≡ zero_cells l.dims l.widest;
}
