use Rattle.std.proofs.Common.{◌≡◌, ◌≤◌, map, take, length}
use Rattle.sd_context.specs.context.ContextFold.{branch_of}
use Rattle.sd_context.specs.blocks.Closing as closing
use Rattle.sd_context.proofs.blocks.closing.late_states.count_branches.Given as goal

-- the branches that are left, from the counts so far
abbrev pub invariant-loop-left : goal.invariant-loop-left
invariant-loop-left l = record {
  same : closing.states_counted l.counts (closing.lines_of (map branch_of (take l.left l.branches))) ≡ closing.states_counted l.initial.counts (closing.lines_of (map branch_of l.branches));
  inside : l.left ≤ length l.branches;
}

abbrev pub decreases-loop-left : goal.decreases-loop-left
decreases-loop-left l = l.left
