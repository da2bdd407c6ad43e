use Rattle.std.proofs.Common.{◌≡◌, ◌++◌, map, drop}
use Rattle.sd_graph.specs.TreeFold.{graph_tree}
use Rattle.sd_tasklet.specs.tasklet.Given.{given}
use Rattle.sd_scope.specs.scope.Standing.{context_of}
use Rattle.sd_leaves.specs.leaves.Given.{pending_told}
use Rattle.sd_leaves.specs.moves.Left.{all_told}
use Rattle.sd_leaves.proofs.moves.effects.todos_of.Given as goal

-- all effects are those so far and the others
abbrev pub invariant-loop-effect : goal.invariant-loop-effect
invariant-loop-effect l =
    let thing = pending_told (context_of (graph_tree l.graph) l.base l.scope) (given l.inputs) l.ins l.outs in
    map thing l.effects ≡ all_told l.todos.items ++ map thing (drop l.effect-index l.effects)
