-- What holds of the states of a graph throughout holds of those of the graph of each place.
use Rattle.std.proofs.Common.{ℕ, suc, List}
use Rattle.std.specs.List.{AllByRecursion}
use Rattle.sd_graph.specs.PlainTree.{KindTree, task, map_scope, consume_scope, nested_graph, reduction, copy, ItemTrees, no_item, and_item, StateTrees, no_state, and_state, GraphTree, graph}
use Rattle.sd_graph.specs.TreeParts.{count_states, exits_at, states_of_graph}
use Rattle.sd_graph.specs.Upwards.{ExitsLeadUpwards, KindLeadsUpwards, ItemsLeadUpwards, StatesLeadUpwards, LeadsUpwards}
use Rattle.sd_made.specs.elab.Throughout.{KindThroughout, ItemsThroughout, StatesThroughout, Throughout}
use Rattle.sd_validity.specs.rules.Places.{Place, Scopes, no_scopes, in_map, in_consume, item_place, state_place, graph_place, places_in, item_places, state_places, places_of}
use Rattle.sd_validity.proofs.paths_lemmas.Found.{all_joined}

module _ (Holds : StateTrees → Type 0) where
  abbrev pub OfItsGraph : Place → Type 0
  OfItsGraph place = Holds (states_of_graph place.graph)

  mutual
    kind_graphs : (kind : KindTree) (place : Place) → OfItsGraph place → KindThroughout Holds kind → AllByRecursion OfItsGraph (places_in kind place)
    kind_graphs (task code ins outs) place about holds = tt
    kind_graphs (map_scope sequential params private body) place about holds = items_graphs body place (in_map place.scopes params private) 0 about holds
    kind_graphs (consume_scope stream element private body) place about holds = items_graphs body place (in_consume place.scopes element private) 0 about holds
    kind_graphs (nested_graph inner links) place about holds = graph_graphs inner place.path (suc place.depth) holds
    kind_graphs (reduction resolution axis identity from to) place about holds = tt
    kind_graphs (copy from to) place about holds = tt

    items_graphs : (items : ItemTrees) (around : Place) (scopes : Scopes) (number : ℕ) → OfItsGraph around → ItemsThroughout Holds items → AllByRecursion OfItsGraph (item_places items around scopes number)
    items_graphs no_item around scopes number about holds = tt
    items_graphs (and_item line kind items) around scopes number about holds =
        let place = item_place around scopes number kind in (
          about,
          all_joined OfItsGraph (places_in kind place) (item_places items around scopes (suc number)) (kind_graphs kind place about holds.0)
              (items_graphs items around scopes (suc number) about holds.1),
        )

    states_graphs : (states : StateTrees) (around : Place) (number : ℕ) → OfItsGraph around → StatesThroughout Holds states → AllByRecursion OfItsGraph (state_places states around number)
    states_graphs no_state around number about holds = tt
    states_graphs (and_state items exits states) around number about holds =
        let place = state_place around number items exits in (
          about,
          all_joined OfItsGraph (item_places items place no_scopes 0) (state_places states around (suc number)) (items_graphs items place no_scopes 0 about holds.0)
              (states_graphs states around (suc number) about holds.1),
        )

    pub graph_graphs : (tree : GraphTree) (path : List ℕ) (depth : ℕ) → Throughout Holds tree → AllByRecursion OfItsGraph (places_of tree path depth)
    graph_graphs (graph name containers arguments variables symbols states) path depth holds =
        (holds.0, states_graphs states (graph_place (graph name containers arguments variables symbols states) path depth) 0 holds.0 holds.1)

-- transitions lead upwards
abbrev pub AreUpwards : StateTrees → Type 0
AreUpwards states = (state : ℕ) → ExitsLeadUpwards (count_states states) state (exits_at states state)

mutual
  kind_upwards : (kind : KindTree) → KindLeadsUpwards kind → KindThroughout AreUpwards kind
  kind_upwards (task code ins outs) leads = tt
  kind_upwards (map_scope sequential params private body) leads = items_upwards body leads
  kind_upwards (consume_scope stream element private body) leads = items_upwards body leads
  kind_upwards (nested_graph inner links) leads = graph_upwards inner leads
  kind_upwards (reduction resolution axis identity from to) leads = tt
  kind_upwards (copy from to) leads = tt

  items_upwards : (items : ItemTrees) → ItemsLeadUpwards items → ItemsThroughout AreUpwards items
  items_upwards no_item leads = tt
  items_upwards (and_item line kind items) leads = (kind_upwards kind leads.0, items_upwards items leads.1)

  states_upwards : (states : StateTrees) → StatesLeadUpwards states → StatesThroughout AreUpwards states
  states_upwards no_state leads = tt
  states_upwards (and_state items exits states) leads = (items_upwards items leads.0, states_upwards states leads.1)

  pub graph_upwards : (tree : GraphTree) → LeadsUpwards tree → Throughout AreUpwards tree
  graph_upwards (graph name containers arguments variables symbols states) leads = (leads.0, states_upwards states leads.1)
