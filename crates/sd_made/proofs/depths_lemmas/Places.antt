-- At each place of a graph as many loops are counted as are about the state.
use Rattle.std.proofs.Common.{◌≡◌, ℕ, suc, List, refl}
use Rattle.std.specs.Prelude.{⊤}
use Rattle.std.specs.List.{AllByRecursion}
use Rattle.sd_graph.specs.PlainTree.{KindTree, task, map_scope, consume_scope, nested_graph, reduction, copy, ItemTrees, no_item, and_item, StateTrees, no_state, and_state, GraphTree, graph}
use Rattle.sd_graph.specs.TreeParts.{states_of_graph}
use Rattle.sd_wire.specs.loops.About.{loops_about}
use Rattle.sd_validity.specs.rules.Places.{Thing, whole, leaving, doing, Place, Scopes, no_scopes, in_map, in_consume, item_place, state_place, graph_place, places_in, item_places, state_places, places_of}
use Rattle.sd_validity.proofs.bound_places_lemmas.EachPlace.{all_joined}

abbrev CountsLoops : Place → Type 0
CountsLoops place = place.loop_count ≡ loops_about (states_of_graph place.graph) place.state

-- at a state and at an item
abbrev pub IsCounted : Thing → Place → Type 0
IsCounted whole place = ⊤
IsCounted (leaving items exits) place = CountsLoops place
IsCounted (doing kind) place = CountsLoops place

abbrev pub AtCounted : Place → Type 0
AtCounted place = IsCounted place.thing place

mutual
  kind_counted : (kind : KindTree) (place : Place) → CountsLoops place → AllByRecursion AtCounted (places_in kind place)
  kind_counted (task code ins outs) place counts = tt
  kind_counted (map_scope sequential params private body) place counts = items_counted body place (in_map place.scopes params private) 0 counts
  kind_counted (consume_scope stream element private body) place counts = items_counted body place (in_consume place.scopes element private) 0 counts
  kind_counted (nested_graph inner links) place counts = graph_counted inner place.path (suc place.depth)
  kind_counted (reduction resolution axis identity from to) place counts = tt
  kind_counted (copy from to) place counts = tt

  items_counted : (items : ItemTrees) (around : Place) (scopes : Scopes) (number : ℕ) → CountsLoops around → AllByRecursion AtCounted (item_places items around scopes number)
  items_counted no_item around scopes number counts = tt
  items_counted (and_item line kind items) around scopes number counts =
      let place = item_place around scopes number kind in
      (counts, all_joined AtCounted (places_in kind place) (item_places items around scopes (suc number)) (kind_counted kind place counts) (items_counted items around scopes (suc number) counts))

  states_counted : (states : StateTrees) (around : Place) (number : ℕ) → AllByRecursion AtCounted (state_places states around number)
  states_counted no_state around number = tt
  states_counted (and_state items exits states) around number =
      let place = state_place around number items exits in
      (refl, all_joined AtCounted (item_places items place no_scopes 0) (state_places states around (suc number)) (items_counted items place no_scopes 0 refl) (states_counted states around (suc number)))

  pub graph_counted : (tree : GraphTree) (path : List ℕ) (depth : ℕ) → AllByRecursion AtCounted (places_of tree path depth)
  graph_counted (graph name containers arguments variables symbols states) path depth = (tt, states_counted states (graph_place (graph name containers arguments variables symbols states) path depth) 0)
