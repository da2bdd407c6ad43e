-- What an item touches of each container: the hull of the boxes of its accesses.
use Rattle.std.specs.Prelude.{ℕ, nat_eq, List, [], ◌∷◌, map, false}
use Rattle.std.specs.List.{filter}
use Rattle.sd_subset.specs.boxes.Box.{Box}
use Rattle.sd_subset.specs.boxes.Hull.{hull}
use Rattle.sd_graph.specs.ContainerParts.{Containers, container_at, extents_of}
use Rattle.sd_graph.specs.PlainTree.{KindTree, map_scope, ItemTrees, no_item, and_item, no_state, and_state, GraphTree, graph}
use Rattle.sd_graph.specs.TreeFold.{PlainItem}
use Rattle.sd_prop.specs.propagation.Accesses.{Access, kind_accesses}
use Rattle.sd_prop.specs.propagation.Scopes.{Scope}
use Rattle.sd_lower.specs.Kinds.{containers_in}
use Rattle.sd_lower.specs.declared.hulls.Hull.{Hull}

-- the boxes of the accesses of a container
abbrev pub boxes_of : List Access → (container : ℕ) → List Box
boxes_of accesses container = map (λ access. access.box) (filter (λ access. nat_eq access.container container) accesses)

-- a container with the hull of its boxes
abbrev pub hull_of : Containers → List Access → (container : ℕ) → Hull
hull_of containers accesses container = record { container = container; bounds = hull (extents_of (container_at containers container)) (boxes_of accesses container) }

-- each container of accesses so, in the order of first access
abbrev pub hulls_of : Containers → List Access → List Hull
hulls_of containers accesses = map (hull_of containers accesses) (containers_in accesses)

-- those of an item: the parameters of its scopes are replaced, their own containers left out. The numbers of its nodes make no difference
abbrev pub item_hulls : Containers → KindTree → List Hull
item_hulls containers kind = hulls_of containers (kind_accesses kind containers [])

-- those of each item of a list
abbrev pub hulls_of_each : Containers → ItemTrees → List (List Hull)
hulls_of_each containers no_item = []
hulls_of_each containers (and_item line kind items) = item_hulls containers kind ∷ hulls_of_each containers items

-- ---- an item alone

-- an item in a map of one point
abbrev pub enclosed : PlainItem → PlainItem
enclosed item = (item.0, map_scope false [] [] (and_item item.0 item.1 no_item))

-- a graph of these containers that has one item alone
abbrev pub graph_of : Containers → PlainItem → GraphTree
graph_of containers item = graph [] containers 0 [] 0 (and_state (and_item item.0 item.1 no_item) [] no_state)

-- the accesses of the first of these scopes
abbrev pub first_accesses : List Scope → List Access
first_accesses [] = []
first_accesses (scope ∷ scopes) = scope.accesses
