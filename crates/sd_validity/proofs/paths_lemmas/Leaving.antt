-- The transitions at the place of a state are those of that state.
use Rattle.std.proofs.Common.{◌≡◌, ◌∙◌, ℕ, suc, ◌+◌, List, ap, sym, arith, add-zero, zero-add}
use Rattle.std.specs.Prelude.{⊤}
use Rattle.std.specs.List.{AllByRecursion}
use Rattle.sd_graph.specs.PlainTree.{KindTree, task, map_scope, consume_scope, nested_graph, reduction, copy, ItemTrees, no_item, and_item, StateTrees, no_state, and_state, GraphTree, graph}
use Rattle.sd_graph.specs.TreeParts.{exits_at, states_of_graph}
use Rattle.sd_validity.specs.rules.Places.{Thing, whole, leaving, doing, Place, Scopes, no_scopes, in_map, in_consume, item_place, state_place, graph_place, places_in, item_places, state_places, places_of}
use Rattle.sd_validity.proofs.paths_lemmas.Found.{all_joined}

abbrev pub HasExits : Thing → Place → Type 0
HasExits whole place = ⊤
HasExits (leaving items exits) place = exits_at (states_of_graph place.graph) place.state ≡ exits
HasExits (doing kind) place = ⊤

abbrev pub HasItsExits : Place → Type 0
HasItsExits place = HasExits place.thing place

mutual
  kind_leaves : (kind : KindTree) (place : Place) → AllByRecursion HasItsExits (places_in kind place)
  kind_leaves (task code ins outs) place = tt
  kind_leaves (map_scope sequential params private body) place = items_leave body place (in_map place.scopes params private) 0
  kind_leaves (consume_scope stream element private body) place = items_leave body place (in_consume place.scopes element private) 0
  kind_leaves (nested_graph inner links) place = graph_leaves inner place.path (suc place.depth)
  kind_leaves (reduction resolution axis identity from to) place = tt
  kind_leaves (copy from to) place = tt

  items_leave : (items : ItemTrees) (around : Place) (scopes : Scopes) (number : ℕ) → AllByRecursion HasItsExits (item_places items around scopes number)
  items_leave no_item around scopes number = tt
  items_leave (and_item line kind items) around scopes number =
      let place = item_place around scopes number kind in
      (tt, all_joined HasItsExits (places_in kind place) (item_places items around scopes (suc number)) (kind_leaves kind place) (items_leave items around scopes (suc number)))

  -- the states from this number on of those of the graph
  states_leave : (states : StateTrees) (around : Place) (number : ℕ) → ((count : ℕ) → exits_at (states_of_graph around.graph) (number + count) ≡ exits_at states count) →
      AllByRecursion HasItsExits (state_places states around number)
  states_leave no_state around number same = tt
  states_leave (and_state items exits states) around number same =
      let place = state_place around number items exits in (
        ap (exits_at (states_of_graph around.graph)) (sym (add-zero number)) ∙ same 0,
        all_joined HasItsExits (item_places items place no_scopes 0) (state_places states around (suc number)) (items_leave items place no_scopes 0)
            (states_leave states around (suc number) (λ count. ap (exits_at (states_of_graph around.graph)) (omega arith) ∙ same (suc count))),
      )

  pub graph_leaves : (tree : GraphTree) (path : List ℕ) (depth : ℕ) → AllByRecursion HasItsExits (places_of tree path depth)
  graph_leaves (graph name containers arguments variables symbols states) path depth =
      (tt, states_leave states (graph_place (graph name containers arguments variables symbols states) path depth) 0 (λ count. ap (exits_at states) (zero-add count)))
