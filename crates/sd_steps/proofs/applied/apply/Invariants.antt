use Rattle.std.proofs.Common.{◌≡◌, drop}
use Rattle.sd_graph.specs.TreeFold.{graph_tree}
use Rattle.sd_steps.specs.Chained.{chained}
use Rattle.sd_steps.proofs.applied.apply.Given as goal

-- the steps that are left come to the same on the graph as it is now
abbrev pub invariant-loop-line : goal.invariant-loop-line
invariant-loop-line l = chained (graph_tree l.bound.graph) l.chain.steps ≡ chained (graph_tree l.new.graph) (drop l.line-index l.chain.steps)
