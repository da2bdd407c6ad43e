use Rattle.std.proofs.Common.{◌≡◌, ◌++◌, map, drop, None}
use Rattle.std.specs.List.{zip}
use Rattle.sd_leaves.specs.leaves.Cells.{transferring}
use Rattle.sd_leaves.specs.moves.Left.{all_told}
use Rattle.sd_leaves.proofs.moves.begin.transfers.Given as goal

-- all pairs are those so far and the others
abbrev pub invariant-loop-number : goal.invariant-loop-number
invariant-loop-number l = map (transferring None) (zip l.from l.to) ≡ all_told l.todos.items ++ map (transferring None) (drop l.number (zip l.from l.to))
