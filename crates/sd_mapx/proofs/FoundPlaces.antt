-- What holds of each place of a graph holds at the place of the item that is found.
use Rattle.std.proofs.Common.{◌≡◌, ℕ, zero, suc, List, [], ◌∷◌, ◌++◌, Option, Some, None, refl, subst}
use Rattle.std.specs.List.{AllByRecursion}
use Rattle.sd_graph.specs.PlainTree.{KindTree, task, map_scope, consume_scope, nested_graph, reduction, copy, ItemTrees, no_item, and_item, StateTrees, no_state, and_state, GraphTree, graph}
use Rattle.sd_validity.specs.rules.Places.{doing, Place, Scopes, no_scopes, in_map, in_consume, item_place, state_place, graph_place, places_in, item_places, state_places, places_of}
use Rattle.sd_mapx.specs.Found.{Found, found_in, found_among, found_in_states, found_at}

abbrev at_item : GraphTree → KindTree → Found
at_item tree kind = record { tree = tree; kind = kind }

module _ (Holding : Place → Type 0) where
  -- a place of the item, of which that holds
  pub record IsPlaceOf (found : Found) : Type 0 where
    pub place : Place
    pub holds : Holding place
    pub tree : place.graph ≡ found.tree
    pub thing : place.thing ≡ doing found.kind

  parts : (first rest : List Place) → AllByRecursion Holding (first ++ rest) → AllByRecursion Holding first × AllByRecursion Holding rest
  parts [] rest all = (tt, all)
  parts (place ∷ first) rest all = let others = parts first rest all.1 in ((all.0, others.0), others.1)

  here : (tree : GraphTree) (kind : KindTree) (found : Found) (place : Place) → Holding place → place.graph ≡ tree → place.thing ≡ doing kind → Some (at_item tree kind) ≡ Some found → IsPlaceOf found
  here tree kind found place holds of is same =
      subst (λ (at : Option Found). OnFound at) same (record { place = place; holds = holds; tree = of; thing = is })
    where
      OnFound : Option Found → Type 0
      OnFound None = ⊥
      OnFound (Some found) = IsPlaceOf found

  mutual
    kind_found : (kind : KindTree) (at : Place) (path : List ℕ) (found : Found) → AllByRecursion Holding (places_in kind at) → found_in at.graph kind path ≡ Some found → IsPlaceOf found
    kind_found (task code ins outs) at path found all is = cc
    kind_found (map_scope sequential params private body) at path found all is = items_found body at (in_map at.scopes params private) 0 path found all is
    kind_found (consume_scope stream element private body) at path found all is = items_found body at (in_consume at.scopes element private) 0 path found all is
    kind_found (nested_graph inner links) at path found all is = graph_found inner at.path (suc at.depth) path found all is
    kind_found (reduction resolution axis identity from to) at path found all is = cc
    kind_found (copy from to) at path found all is = cc

    items_found : (items : ItemTrees) (around : Place) (scopes : Scopes) (number : ℕ) (path : List ℕ) (found : Found) → AllByRecursion Holding (item_places items around scopes number) →
        found_among around.graph items path ≡ Some found → IsPlaceOf found
    items_found no_item around scopes number path found all is = cc
    items_found (and_item line kind items) around scopes number [] found all is = cc
    items_found (and_item line kind items) around scopes number (zero ∷ []) found all is =
        here around.graph kind found (item_place around scopes number kind) all.0 refl refl is
    items_found (and_item line kind items) around scopes number (zero ∷ next ∷ path) found all is =
        kind_found kind (item_place around scopes number kind) (next ∷ path) found
        (parts (places_in kind (item_place around scopes number kind)) (item_places items around scopes (suc number)) all.1).0 is
    items_found (and_item line kind items) around scopes number (suc next ∷ path) found all is =
        items_found items around scopes (suc number) (next ∷ path) found
        (parts (places_in kind (item_place around scopes number kind)) (item_places items around scopes (suc number)) all.1).1 is

    states_found : (states : StateTrees) (around : Place) (number : ℕ) (path : List ℕ) (found : Found) → AllByRecursion Holding (state_places states around number) →
        found_in_states around.graph states path ≡ Some found → IsPlaceOf found
    states_found no_state around number path found all is = cc
    states_found (and_state items exits states) around number [] found all is = cc
    states_found (and_state items exits states) around number (zero ∷ path) found all is =
        items_found items (state_place around number items exits) no_scopes 0 path found
        (parts (item_places items (state_place around number items exits) no_scopes 0) (state_places states around (suc number)) all.1).0 is
    states_found (and_state items exits states) around number (suc next ∷ path) found all is =
        states_found states around (suc number) (next ∷ path) found
        (parts (item_places items (state_place around number items exits) no_scopes 0) (state_places states around (suc number)) all.1).1 is

    pub graph_found : (tree : GraphTree) (path : List ℕ) (depth : ℕ) (place : List ℕ) (found : Found) → AllByRecursion Holding (places_of tree path depth) → found_at tree place ≡ Some found → IsPlaceOf found
    graph_found (graph name containers arguments variables symbols states) path depth place found all is =
        states_found states (graph_place (graph name containers arguments variables symbols states) path depth) 0 place found all.1 is
