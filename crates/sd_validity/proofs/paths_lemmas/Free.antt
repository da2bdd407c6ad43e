-- No scope is about a state.
use Rattle.std.proofs.Common.{◌≡◌, ℕ, suc, List, refl}
use Rattle.std.specs.Prelude.{⊤}
use Rattle.std.specs.List.{AllByRecursion}
use Rattle.sd_graph.specs.PlainTree.{KindTree, task, map_scope, consume_scope, nested_graph, reduction, copy, ItemTrees, no_item, and_item, StateTrees, no_state, and_state, GraphTree, graph}
use Rattle.sd_validity.specs.rules.Places.{Thing, whole, leaving, doing, Place, Scopes, no_scopes, in_map, in_consume, item_place, state_place, graph_place, places_in, item_places, state_places, places_of}
use Rattle.sd_validity.proofs.paths_lemmas.Found.{all_joined}

abbrev pub HasNoScopes : Thing → Place → Type 0
HasNoScopes whole place = ⊤
HasNoScopes (leaving items exits) place = place.scopes ≡ no_scopes
HasNoScopes (doing kind) place = ⊤

abbrev pub HasNoScopesAt : Place → Type 0
HasNoScopesAt place = HasNoScopes place.thing place

mutual
  kind_free : (kind : KindTree) (place : Place) → AllByRecursion HasNoScopesAt (places_in kind place)
  kind_free (task code ins outs) place = tt
  kind_free (map_scope sequential params private body) place = items_free body place (in_map place.scopes params private) 0
  kind_free (consume_scope stream element private body) place = items_free body place (in_consume place.scopes element private) 0
  kind_free (nested_graph inner links) place = graph_free inner place.path (suc place.depth)
  kind_free (reduction resolution axis identity from to) place = tt
  kind_free (copy from to) place = tt

  items_free : (items : ItemTrees) (around : Place) (scopes : Scopes) (number : ℕ) → AllByRecursion HasNoScopesAt (item_places items around scopes number)
  items_free no_item around scopes number = tt
  items_free (and_item line kind items) around scopes number =
      let place = item_place around scopes number kind in
      (tt, all_joined HasNoScopesAt (places_in kind place) (item_places items around scopes (suc number)) (kind_free kind place) (items_free items around scopes (suc number)))

  states_free : (states : StateTrees) (around : Place) (number : ℕ) → around.scopes ≡ no_scopes → AllByRecursion HasNoScopesAt (state_places states around number)
  states_free no_state around number none = tt
  states_free (and_state items exits states) around number none =
      let place = state_place around number items exits in
      (none, all_joined HasNoScopesAt (item_places items place no_scopes 0) (state_places states around (suc number)) (items_free items place no_scopes 0) (states_free states around (suc number) none))

  pub graph_free : (tree : GraphTree) (path : List ℕ) (depth : ℕ) → AllByRecursion HasNoScopesAt (places_of tree path depth)
  graph_free (graph name containers arguments variables symbols states) path depth =
      (tt, states_free states (graph_place (graph name containers arguments variables symbols states) path depth) 0 refl)
