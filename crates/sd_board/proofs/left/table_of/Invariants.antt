use Rattle.std.proofs.Common.{◌≡◌, ℕ, ◌<◌, length, slice_index_or}
use Rattle.sd_board.specs.Progress as definition
use Rattle.sd_board.proofs.left.table_of.Given as goal

-- the rows so far are counted
abbrev pub invariant-loop-item : goal.invariant-loop-item
invariant-loop-item l = record {
  counted : (item : ℕ) → item < l.item → slice_index_or l.left.items item 0 ≡ definition.count_left l.order item l.items l.marks;
  rows : length l.left.items ≡ l.item;
}
