-- The accesses of an item that stands alone in a graph.
use Rattle.std.proofs.Common.{◌≡◌, ℕ, List, [], ◌∷◌, ◌++◌, true, false, refl, ◌∙◌, ap}
use Rattle.std.proofs.lemmas.List.{append-nil}
use Rattle.sd_graph.specs.ContainerParts.{Containers}
use Rattle.sd_graph.specs.PlainTree.{KindTree, task, map_scope, consume_scope, nested_graph, reduction, copy, no_item, and_item}
use Rattle.sd_prop.specs.propagation.ItemNodes.{item_nodes, nodes_behind}
use Rattle.sd_prop.specs.propagation.Accesses.{Access, outside_accesses, kind_accesses}
use Rattle.sd_prop.specs.propagation.Scopes.{all_scopes}
use Rattle.sd_part.specs.declared.outline.Outline.{Outline}
use Rattle.sd_part.specs.Outline.{cut_params, open_accesses, IsOutline, enclosed, graph_of, first_accesses}

-- no access is of no container
outside-none : (accesses : List Access) → outside_accesses [] accesses ≡ accesses
outside-none [] = refl
outside-none (access ∷ accesses) = ap (λ all. access ∷ all) (outside-none accesses)

-- the accesses of the body of one item
alone : (kind : KindTree) (containers : Containers) (nodes : List ℕ) → outside_accesses [] (kind_accesses kind containers nodes ++ []) ≡ kind_accesses kind containers nodes
alone kind containers nodes = outside-none (kind_accesses kind containers nodes ++ []) ∙ append-nil (kind_accesses kind containers nodes)

-- the nodes of an item in the graph
nodes_in : Containers → (line : ℕ) → KindTree → List ℕ
nodes_in containers line kind = nodes_behind (item_nodes containers (and_item line (map_scope false [] [] (and_item line kind no_item)) no_item))

abbrev Found : Containers → (line : ℕ) → KindTree → Type 0
Found containers line kind = (nodes : List ℕ) × (first_accesses (all_scopes (graph_of containers (enclosed (line, kind)))) ≡ open_accesses kind containers nodes)

found : (containers : Containers) (line : ℕ) (kind : KindTree) → Found containers line kind
unfolding nodes_in
found containers line (task code ins outs) = (nodes_in containers line (task code ins outs), alone (task code ins outs) containers (nodes_in containers line (task code ins outs)))
found containers line (map_scope true params private body) =
    (nodes_in containers line (map_scope true params private body), alone (map_scope true params private body) containers (nodes_in containers line (map_scope true params private body)))
found containers line (map_scope false params private body) = (item_nodes containers (and_item line (map_scope false params private body) no_item), refl)
found containers line (consume_scope stream element private body) =
    (nodes_in containers line (consume_scope stream element private body), alone (consume_scope stream element private body) containers (nodes_in containers line (consume_scope stream element private body)))
found containers line (nested_graph inner links) = (nodes_in containers line (nested_graph inner links), alone (nested_graph inner links) containers (nodes_in containers line (nested_graph inner links)))
found containers line (reduction resolution axis identity from to) =
    (nodes_in containers line (reduction resolution axis identity from to), alone (reduction resolution axis identity from to) containers (nodes_in containers line (reduction resolution axis identity from to)))
found containers line (copy from to) = (nodes_in containers line (copy from to), alone (copy from to) containers (nodes_in containers line (copy from to)))

pub is-outline : (containers : Containers) (line : ℕ) (kind : KindTree) (outline : Outline) →
    outline.params ≡ cut_params kind → outline.accesses ≡ first_accesses (all_scopes (graph_of containers (enclosed (line, kind)))) → IsOutline containers kind outline
is-outline containers line kind outline params accesses =
    let here = found containers line kind in
    record { nodes = here.0; params = params; accesses = accesses ∙ here.1 }
