use Rattle.std.proofs.Common.{◌≡◌, ◌++◌, drop, map, string_bytes}
use Rattle.sd_graph.specs.TreeFold.{state_trees, named_container}
use Rattle.sd_lower.specs.Boards.{plain_board, boards_from}
use Rattle.sd_lower.proofs.plan.boards_of.Given as goal

-- those so far, with those of the states that are left
abbrev pub invariant-loop-state : goal.invariant-loop-state
invariant-loop-state l = map plain_board l.boards.items ++ boards_from (map named_container l.containers.entries) (map string_bytes l.variables) (state_trees l.states) l.workers l.number (state_trees (drop l.state-index l.states))
    ≡ boards_from (map named_container l.containers.entries) (map string_bytes l.variables) (state_trees l.states) l.workers 0 (state_trees l.states)
