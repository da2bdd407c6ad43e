use Rattle.std.proofs.Common.{◌≡◌, map, drop}
use Rattle.sd_work.specs.Exit.{first_exit}
use Rattle.sd_graph.specs.TreeFold.{graph_tree, exit_tree}
use Rattle.sd_graph.specs.Unfold.{exit_of}
use Rattle.sd_scope.specs.scope.Standing.{context_of}
use Rattle.sd_leaves.proofs.leaves.exit.next_exit.Given as goal

-- the first exit of those that are left is the first of all
abbrev pub invariant-loop-number : goal.invariant-loop-number
invariant-loop-number l =
    first_exit (map (exit_of (context_of (graph_tree l.graph) l.base l.scope)) (map exit_tree l.exits)) l.machine.memories
    ≡ first_exit (map (exit_of (context_of (graph_tree l.graph) l.base l.scope)) (map exit_tree (drop l.number l.exits))) l.machine.memories
