-- The nodes and edges of a state.
use Rattle.std.specs.Prelude.{ℕ, nat_lt, List, [], ◌∷◌, None, if◌then◌else◌}
use Rattle.sd_graph.specs.PlainTree.{ItemTrees, GraphTree}
use Rattle.sd_graph.specs.TreeParts.{containers_of, states_of_graph, items_at}
use Rattle.sd_graph.specs.ContainerParts.{Containers}
use Rattle.sd_graph.specs.declared.wired.Node.{Node}
use Rattle.sd_graph.specs.declared.wired.Edge.{Edge}
use Rattle.sd_wire.specs.declared.wiring.drawing.Drawing.{Drawing}
use Rattle.sd_wire.specs.wiring.Mentioned.{own_of_state}
use Rattle.sd_wire.specs.wiring.Drawing.{blank, with_items}

-- an edge put among edges by a number of each, before those with the same
abbrev pub inserted : (number : Edge → ℕ) → Edge → List Edge → List Edge
inserted number edge [] = edge ∷ []
inserted number edge (first ∷ others) = if nat_lt (number first) (number edge) then first ∷ inserted number edge others else edge ∷ first ∷ others

-- edges by a number of each, the least first; those with the same number in their order
abbrev pub listed_by : (number : Edge → ℕ) → List Edge → List Edge
listed_by number [] = []
listed_by number (edge ∷ edges) = inserted number edge (listed_by number edges)

-- edges by their sources; those with one source by their targets; those with one target too in their order
abbrev pub listed : List Edge → List Edge
listed edges = listed_by (λ edge. edge.from) (listed_by (λ edge. edge.to) edges)

-- what is drawn of the items of a state
abbrev pub drawn : Containers → ItemTrees → Drawing
drawn containers items = with_items items containers None (own_of_state containers) blank

-- the nodes and the edges of the items of a state
abbrev pub nodes_of : Containers → ItemTrees → List Node
nodes_of containers items = (drawn containers items).nodes

abbrev pub edges_of : Containers → ItemTrees → List Edge
edges_of containers items = listed (drawn containers items).edges

-- those of a state by its number; there are none where there is no such state
abbrev pub state_nodes : GraphTree → (state : ℕ) → List Node
state_nodes g state = nodes_of (containers_of g) (items_at (states_of_graph g) state)

abbrev pub state_edges : GraphTree → (state : ℕ) → List Edge
state_edges g state = edges_of (containers_of g) (items_at (states_of_graph g) state)
