use Rattle.std.proofs.Common.{◌≡◌, ℕ, ◌<◌, None, map, length, drop, slice_index_or}
use Rattle.sd_graph.specs.TreeFold.{graph_tree, named_container}
use Rattle.sd_graph.specs.Unfold.{reach_inside}
use Rattle.sd_scope.specs.scope.Standing.{context_of, reach_by}
use Rattle.sd_scope.proofs.scope.base.ways_inside.Given as goal

-- so many containers are reached so, and the others are left
abbrev pub invariant-loop-container : goal.invariant-loop-container
invariant-loop-container l = record {
  left : drop (length l.ways.items) l.inner.entries ≡ l.container-iterator;
  reached : (number : ℕ) → number < length l.ways.items →
      reach_by 0 (map named_container l.inner.entries) number (slice_index_or l.ways.items number None)
      ≡ reach_inside (context_of (graph_tree l.graph) l.base l.scope) l.links (map named_container l.inner.entries) number;
}
