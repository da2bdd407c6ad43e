use Rattle.std.proofs.Common.{◌≡◌, ◌+◌, ◌*◌, drop, length, true}
use Rattle.sd_range.specs.Points.{product}
use Rattle.sd_range.specs.Subset.{inside}
use Rattle.sd_graph.specs.RowOrder.{row_number}
use Rattle.sd_mem.proofs.mem.place.place_of.Given as goal

-- the place so far, so many elements each, and that of what is left is the place of all
abbrev pub invariant-loop-i : goal.invariant-loop-i
invariant-loop-i l = record {
  same : length l.index ≡ length l.shape;
  left : inside (drop l.i l.shape) (drop l.i l.index) ≡ true;
  place : l.place * product (drop l.i l.shape) + row_number (drop l.i l.shape) (drop l.i l.index) ≡ row_number l.shape l.index;
}
