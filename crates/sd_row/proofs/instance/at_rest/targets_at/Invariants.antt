use Rattle.std.proofs.Common.{take}
use Rattle.std.specs.List.{AllZip}
use Rattle.sd_graph.specs.TreeFold.{graph_tree}
use Rattle.sd_scope.specs.scope.Standing.{context_of}
use Rattle.sd_row.specs.instance.Known.{IsTarget}
use Rattle.sd_row.proofs.instance.at_rest.targets_at.Given as goal

-- the targets so far
abbrev pub invariant-loop-link : goal.invariant-loop-link
invariant-loop-link l = AllZip (IsTarget 0 (context_of (graph_tree l.graph) l.base l.scope) (context_of (graph_tree l.graph) l.base l.scope)) (take l.link-index l.links) l.targets.items
