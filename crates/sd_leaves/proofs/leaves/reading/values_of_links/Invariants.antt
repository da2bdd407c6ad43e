use Rattle.std.proofs.Common.{◌≡◌, drop}
use Rattle.sd_graph.specs.TreeFold.{graph_tree}
use Rattle.sd_scope.specs.scope.Standing.{context_of}
use Rattle.sd_leaves.specs.leaves.Read.{links_seen}
use Rattle.sd_leaves.proofs.leaves_lemmas.ReadValues.{with_values}
use Rattle.sd_leaves.proofs.leaves.reading.values_of_links.Given as goal

-- the values so far stand before those that are left
abbrev pub invariant-loop-link : goal.invariant-loop-link
invariant-loop-link l =
    let context = context_of (graph_tree l.graph) l.base l.scope in
    links_seen context l.links l.machine.memories ≡ with_values l.read.items (links_seen context (drop l.link-index l.links) l.machine.memories)
