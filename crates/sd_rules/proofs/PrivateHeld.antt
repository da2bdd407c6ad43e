-- The private containers of a graph, by its parts.
use Rattle.std.proofs.Common.{◌≡◌, map, length, ap}
use Rattle.std.specs.List.{list_all}
use Rattle.sd_graph.specs.LoopScope.{numbers_below}
use Rattle.sd_graph.specs.TreeFold.{graph_tree, named_container, state_trees}
use Rattle.sd_graph.specs.declared.graph.Sdfg.{Sdfg, out-Sdfg}
use Rattle.sd_graph.proofs.TreeLemmas.{graph_opened}
use Rattle.sd_validity.specs.rules.NamesInForce.{are_private_held, held_in_states, is_private_held}

pub held_opened : (g : Sdfg) → are_private_held (graph_tree g)
    ≡ list_all (is_private_held (map named_container (out-Sdfg g).containers.entries) (held_in_states (state_trees (out-Sdfg g).states.items)))
    (numbers_below (length (map named_container (out-Sdfg g).containers.entries)))
held_opened g = ap are_private_held (graph_opened g)
