use Rattle.std.proofs.Common.{◌≡◌, ◌≤◌, ◌+◌, ◌*◌, length, drop, true}
use Rattle.sd_range.specs.Points.{product}
use Rattle.sd_range.specs.Subset as subset
use Rattle.sd_graph.specs.RowOrder as order
use Rattle.sd_tasklet.proofs.tasklet.place.row_number.Given as goal

-- the number so far counts for as many elements as are left
abbrev pub invariant-loop-k : goal.invariant-loop-k
invariant-loop-k l = record {
  many : length l.extents ≡ length l.at;
  inside : subset.inside (drop l.k l.extents) (drop l.k l.at) ≡ true;
  room : (l.row + 1) * product (drop l.k l.extents) ≤ product l.extents;
  left : l.row * product (drop l.k l.extents) + order.row_number (drop l.k l.extents) (drop l.k l.at) ≡ order.row_number l.extents l.at;
}
