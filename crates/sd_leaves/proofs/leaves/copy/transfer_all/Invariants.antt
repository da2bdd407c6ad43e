use Rattle.std.proofs.Common.{map, length}
use Rattle.std.specs.List.{zip}
use Rattle.sd_graph.specs.TreeFold.{graph_tree}
use Rattle.sd_scope.specs.scope.Standing.{context_of}
use Rattle.sd_leaves.specs.leaves.Done.{copied, copied_at}
use Rattle.sd_leaves.proofs.leaves_lemmas.Doing.{IsLeft}
use Rattle.sd_leaves.proofs.leaves.copy.transfer_all.Given as goal

-- what is left comes to what all comes to
abbrev pub invariant-sources : goal.invariant-sources
invariant-sources l =
    let context = context_of (graph_tree l.graph) l.base l.scope in
    IsLeft (copied context l.from l.to) l.fn.machine (map (copied_at context l.from l.to) (zip l.sources.left l.targets.left)) l.machine

abbrev pub decreases-sources : goal.decreases-sources
decreases-sources l = length l.sources.left
