use Rattle.std.proofs.Common.{◌≡◌, ℕ, ◌-◌, ◌<◌, ◌≤◌, slice_index_or, length, if◌then◌else◌}
use Rattle.sd_order.specs.table.Told.{told}
use Rattle.sd_board.proofs.left.count_off.Given as goal

-- the rows before this one have counted the piece off, and the others are as they were
abbrev pub invariant-loop-to : goal.invariant-loop-to
invariant-loop-to l = record {
  seen : (to : ℕ) → to < l.to → slice_index_or l.left.items to 0 ≡ slice_index_or l.initial.left.items to 0 - (if told l.order l.item to then 1 else 0);
  others : (to : ℕ) → l.to ≤ to → slice_index_or l.left.items to 0 ≡ slice_index_or l.initial.left.items to 0;
  rows : length l.left.items ≡ length l.initial.left.items;
}
