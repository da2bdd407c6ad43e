use Rattle.std.proofs.Common.{◌≡◌, ◌++◌, [], map, length}
use Rattle.sd_range.specs.Subset.{elements}
use Rattle.sd_cut.specs.Cells.{subset_within, value_at}
use Rattle.sd_cut.proofs.cells.cells_within.Given as goal

abbrev pub invariant-loop-cells : goal.invariant-loop-cells
invariant-loop-cells l = record {
  same : length l.index.items ≡ length l.left.ranges;
  left : l.cells.items ++ map (value_at l.memory l.container) l.left.left ≡ map (value_at l.memory l.container) (elements (subset_within l.window.shift l.window.extents) []);
}

abbrev pub decreases-loop-cells : goal.decreases-loop-cells
decreases-loop-cells l = length l.left.left
