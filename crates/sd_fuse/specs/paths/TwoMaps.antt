-- Two maps of one list, where two paths lead.
use Rattle.std.specs.Prelude.{ℕ, zero, suc, nat_eq, nat_lt, ◌-◌, List, [], ◌∷◌, ◌++◌, Option, Some, None, if◌then◌else◌}
use Rattle.sd_subset.specs.boxes.Box.{Parameter}
use Rattle.sd_graph.specs.ContainerParts.{Containers}
use Rattle.sd_graph.specs.PlainTree.{KindTree, task, map_scope, consume_scope, nested_graph, reduction, copy, ItemTrees, no_item, and_item, StateTrees, no_state, and_state, GraphTree, graph}
use Rattle.sd_fuse.specs.maps.FusionRewrite.{items_before, items_from}

-- two maps, each with its parameters, private containers and body, and the items between; the containers of their graph, and the parameters in force around them
pub record TwoMaps : Type 0 where
  pub containers : Containers
  pub around : List Parameter
  pub params : List Parameter
  pub private : List ℕ
  pub body : ItemTrees
  pub between : ItemTrees
  pub others : List Parameter
  pub own : List ℕ
  pub other : ItemTrees

-- the second one is the first of these items
abbrev pub maps_with : Containers → (around params : List Parameter) → (private : List ℕ) → (body between : ItemTrees) → (behind : ItemTrees) → Option TwoMaps
maps_with containers around params private body between (and_item there (map_scope sequential others own other) items) =
    Some (record { containers = containers; around = around; params = params; private = private; body = body; between = between; others = others; own = own; other = other })
maps_with containers around params private body between behind = None

-- the first of these items and the one that stands so many behind the next
abbrev pub two_maps : (distance : ℕ) → Containers → (around : List Parameter) → ItemTrees → Option TwoMaps
two_maps distance containers around (and_item line (map_scope sequential params private body) items) =
    maps_with containers around params private body (items_before distance items) (items_from distance items)
two_maps distance containers around items = None

abbrev mutual
  -- those from the item at a place on, in an item
  pub maps_in : (distance : ℕ) → Containers → (around : List Parameter) → KindTree → (place : List ℕ) → Option TwoMaps
  maps_in distance containers around (task code ins outs) place = None
  maps_in distance containers around (map_scope sequential params private body) place = maps_among distance containers (around ++ params) body place
  maps_in distance containers around (consume_scope stream element private body) place = maps_among distance containers around body place
  maps_in distance containers around (nested_graph inner links) place = maps_at distance inner place
  maps_in distance containers around (reduction resolution axis identity from to) place = None
  maps_in distance containers around (copy from to) place = None

  -- among items
  pub maps_among : (distance : ℕ) → Containers → (around : List Parameter) → ItemTrees → (place : List ℕ) → Option TwoMaps
  maps_among distance containers around no_item place = None
  maps_among distance containers around (and_item line kind items) [] = None
  maps_among distance containers around (and_item line kind items) (zero ∷ []) = two_maps distance containers around (and_item line kind items)
  maps_among distance containers around (and_item line kind items) (zero ∷ next ∷ place) = maps_in distance containers around kind (next ∷ place)
  maps_among distance containers around (and_item line kind items) (suc number ∷ place) = maps_among distance containers around items (number ∷ place)

  -- in states
  pub maps_in_states : (distance : ℕ) → Containers → StateTrees → (place : List ℕ) → Option TwoMaps
  maps_in_states distance containers no_state place = None
  maps_in_states distance containers (and_state items exits states) [] = None
  maps_in_states distance containers (and_state items exits states) (zero ∷ place) = maps_among distance containers [] items place
  maps_in_states distance containers (and_state items exits states) (suc number ∷ place) = maps_in_states distance containers states (number ∷ place)

  -- in a graph
  pub maps_at : (distance : ℕ) → GraphTree → (place : List ℕ) → Option TwoMaps
  maps_at distance (graph name containers arguments variables symbols states) place = maps_in_states distance containers states place

-- how many items stand between those at two places of one list, the first of which comes before the other; none where two places are not such
abbrev pub distance_of : (first second : List ℕ) → Option ℕ
distance_of [] second = None
distance_of (number ∷ first) [] = None
distance_of (number ∷ []) (other ∷ []) = if nat_lt number other then Some (other - suc number) else None
distance_of (number ∷ []) (other ∷ next ∷ second) = None
distance_of (number ∷ next ∷ first) (other ∷ second) = if nat_eq number other then distance_of (next ∷ first) second else None

-- the same, where there may be no place
abbrev pub distance_between : (first second : Option (List ℕ)) → Option ℕ
distance_between None second = None
distance_between (Some first) None = None
distance_between (Some first) (Some second) = distance_of first second

-- the maps from a place on, where there is one and it is told how many items stand between
abbrev pub maps_there : GraphTree → (place : Option (List ℕ)) → (distance : Option ℕ) → Option TwoMaps
maps_there tree None distance = None
maps_there tree (Some place) None = None
maps_there tree (Some place) (Some distance) = maps_at distance tree place
