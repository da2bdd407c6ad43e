use Rattle.std.proofs.Common.{map, drop}
use Rattle.sd_graph.specs.TreeFold.{graph_tree}
use Rattle.sd_tasklet.specs.tasklet.Given.{given}
use Rattle.sd_scope.specs.scope.Standing.{context_of}
use Rattle.sd_leaves.specs.leaves.Given.{pending_told}
use Rattle.sd_leaves.proofs.leaves_lemmas.Doing.{IsLeft}
use Rattle.sd_leaves.proofs.leaves.effects.perform_all.Given as goal

-- what is left comes to what all comes to
abbrev pub invariant-loop-effect : goal.invariant-loop-effect
invariant-loop-effect l =
    let thing = pending_told (context_of (graph_tree l.graph) l.base l.scope) (given l.inputs) l.ins l.outs in
    IsLeft (map thing l.effects) l.fn.machine (map thing (drop l.effect-index l.effects)) l.machine
