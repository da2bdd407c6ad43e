use Rattle.std.proofs.Common.{take}
use Rattle.std.specs.List.{AllByRecursion, AllZip}
use Rattle.sd_graph.specs.TreeFold.{graph_tree}
use Rattle.sd_scope.specs.scope.Standing.{context_of}
use Rattle.sd_row.specs.view.View.{IsWindow, IsInWords}
use Rattle.sd_row.proofs.view.views_at.windows_at.Given as goal

-- the windows so far
abbrev pub invariant-loop-link : goal.invariant-loop-link
invariant-loop-link l = record {
  windows : AllZip (IsWindow 0 (context_of (graph_tree l.graph) l.base l.scope)) (take l.link-index l.links) l.windows.items;
  words : AllByRecursion (IsInWords 0) l.windows.items;
}
