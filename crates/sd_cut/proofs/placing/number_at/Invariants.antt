use Rattle.std.proofs.Common.{◌≡◌, ◌+◌, ◌*◌, drop, true}
use Rattle.sd_range.specs.Points.{product}
use Rattle.sd_range.specs.Subset.{inside}
use Rattle.sd_graph.specs.RowOrder.{row_number}
use Rattle.sd_windows.specs.Windows.{moved}
use Rattle.sd_cut.proofs.placing.number_at.Given as goal

-- the number so far, so many elements each, and that of what is left is the number of all
abbrev pub invariant-loop-i : goal.invariant-loop-i
invariant-loop-i l = record {
  left : inside (drop l.i l.extents) (drop l.i (moved l.shift l.index)) ≡ true;
  place : l.place * product (drop l.i l.extents) + row_number (drop l.i l.extents) (drop l.i (moved l.shift l.index)) ≡ row_number l.extents (moved l.shift l.index);
}
