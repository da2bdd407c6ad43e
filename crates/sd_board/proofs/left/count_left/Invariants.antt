use Rattle.std.proofs.Common.{◌≡◌, ◌+◌, ◌≤◌, drop}
use Rattle.sd_board.specs.Progress as definition
use Rattle.sd_board.proofs.left.count_left.Given as goal

-- with those that were not seen yet it is the count of all; and no more than were seen
abbrev pub invariant-loop-number : goal.invariant-loop-number
invariant-loop-number l = record {
  rest : l.count + definition.count_left l.order l.item (drop l.number l.items) (drop l.number l.marks) ≡ definition.count_left l.order l.item l.items l.marks;
  few : l.count ≤ l.number;
}
