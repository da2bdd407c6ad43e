-- Where two maps stand at a place, the path of the place leads to them.
use Rattle.std.proofs.Common.{◌≡◌, ℕ, zero, suc, List, [], ◌∷◌, ◌++◌, length, Some}
use Rattle.sd_subset.specs.boxes.Box.{Parameter}
use Rattle.sd_graph.specs.ContainerParts.{Containers}
use Rattle.sd_graph.specs.PlainTree.{KindTree, task, map_scope, consume_scope, nested_graph, reduction, copy, ItemTrees, no_item, and_item, StateTrees, no_state, and_state, GraphTree, graph}
use Rattle.sd_exchange.specs.maps.Tails.{Asked, KindLeadsTo, ItemsLeadTo, StatesLeadTo, GraphLeadsTo}
use Rattle.sd_fuse.specs.paths.TwoMaps.{TwoMaps, two_maps, maps_in, maps_among, maps_in_states, maps_at}

module _ (distance : ℕ) (maps : TwoMaps) (Holds : Asked)
    (gives : (c : Containers) (a : List Parameter) (v : ℕ) (items : ItemTrees) → two_maps distance c a items ≡ Some maps → Holds c a v items) where
  mutual
    kind-there : (c : Containers) (a : List Parameter) (v : ℕ) (kind : KindTree) (place : List ℕ) → maps_in distance c a kind place ≡ Some maps → KindLeadsTo Holds c a v kind place
    kind-there c a v (task code ins outs) place is = cc
    kind-there c a v (map_scope sequential params private body) place is = items-there c (a ++ params) v body place is
    kind-there c a v (consume_scope stream element private body) place is = items-there c a v body place is
    kind-there c a v (nested_graph inner links) place is = graph-there inner place is
    kind-there c a v (reduction resolution axis identity from to) place is = cc
    kind-there c a v (copy from to) place is = cc

    items-there : (c : Containers) (a : List Parameter) (v : ℕ) (items : ItemTrees) (place : List ℕ) → maps_among distance c a items place ≡ Some maps → ItemsLeadTo Holds c a v items place
    items-there c a v no_item place is = cc
    items-there c a v (and_item line kind items) [] is = cc
    items-there c a v (and_item line kind items) (zero ∷ []) is = gives c a v (and_item line kind items) is
    items-there c a v (and_item line kind items) (zero ∷ next ∷ place) is = kind-there c a v kind (next ∷ place) is
    items-there c a v (and_item line kind items) (suc number ∷ place) is = items-there c a v items (number ∷ place) is

    states-there : (c : Containers) (v : ℕ) (states : StateTrees) (place : List ℕ) → maps_in_states distance c states place ≡ Some maps → StatesLeadTo Holds c v states place
    states-there c v no_state place is = cc
    states-there c v (and_state items exits states) [] is = cc
    states-there c v (and_state items exits states) (zero ∷ place) is = items-there c [] v items place is
    states-there c v (and_state items exits states) (suc number ∷ place) is = states-there c v states (number ∷ place) is

    pub graph-there : (tree : GraphTree) (place : List ℕ) → maps_at distance tree place ≡ Some maps → GraphLeadsTo Holds tree place
    graph-there (graph name containers arguments variables symbols states) place is = states-there containers (length variables) states place is
