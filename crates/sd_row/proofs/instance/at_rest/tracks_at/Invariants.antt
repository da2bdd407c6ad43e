use Rattle.std.proofs.Common.{◌≡◌, [], map, take, Some}
use Rattle.sd_graph.specs.TreeFold.{graph_tree}
use Rattle.sd_graph.specs.Context.{link_element}
use Rattle.sd_scope.specs.scope.Standing.{context_of}
use Rattle.sd_row.specs.row.Row.{reference_on}
use Rattle.sd_row.proofs.instance.at_rest.tracks_at.Given as goal

-- the tracks so far
abbrev pub invariant-loop-link : goal.invariant-loop-link
invariant-loop-link l =
    map (λ link. link_element (context_of (graph_tree l.graph) l.base l.scope) link []) (take l.link-index l.links) ≡ map (λ track. Some (reference_on track 0)) l.tracks.items
