use Rattle.std.proofs.Common.{◌≡◌, ◌++◌, map, drop}
use Rattle.sd_leaves.specs.leaves.Cells.{writing}
use Rattle.sd_leaves.specs.moves.Left.{all_told}
use Rattle.sd_leaves.proofs.moves.reduction.writes.Given as goal

-- all writes are those so far and the others
abbrev pub invariant-loop-target : goal.invariant-loop-target
invariant-loop-target l = map (writing l.value) l.targets ≡ all_told l.todos.items ++ map (writing l.value) (drop l.target-index l.targets)
