use Rattle.std.proofs.Common.{List, map, drop}
use Rattle.sd_graph.specs.TaskletMeaning.{Inputs}
use Rattle.sd_graph.specs.TreeFold.{graph_tree}
use Rattle.sd_graph.specs.Context.{Context}
use Rattle.sd_graph.specs.declared.link.Link.{Link}
use Rattle.sd_scope.specs.scope.Standing.{context_of}
use Rattle.sd_leaves.specs.leaves.Given.{pending_told}
use Rattle.sd_leaves.proofs.leaves_lemmas.Doing.{IsLeft}
use Rattle.sd_row.specs.instance.Known.{AreTargets}
use Rattle.sd_row.proofs.instance.performing.perform_all.Given as goal

-- what is left comes to what all comes to
abbrev pub invariant-loop-effect : goal.invariant-loop-effect
invariant-loop-effect l = (here : Context) (ins : List Link) (given : Inputs) → AreTargets l.inputs ins l.outs given l.targets l.k here (context_of (graph_tree l.graph) l.base l.scope) →
    IsLeft (map (pending_told here given ins l.outs) l.effects) l.fn.machine
    (map (pending_told here given ins l.outs) (drop l.effect-index l.effects)) l.machine
